use Rattle.std.proofs.Common.{◌≡◌, sym, subst, ap, ◌∙◌}
use Rattle.lh_addr.specs.Fnv.{code_of}
use Rattle.lh_bucket.specs.declared.call.Call.{Call}
use Rattle.lh_bucket.specs.declared.verdict.Verdict.TheVariants.{Here}
use Rattle.lh_bucket.specs.Call.{key_of}
use Rattle.lh_bucket.specs.Change.{call_of, reply_of}
use Rattle.lh_bucket.specs.PlainBucket.{pairs_of_entries}
use Rattle.lh_bucket.specs.Bucket.{Head, Seen, verdict}
use Rattle.lh_bucket.proofs.Kept.{is_answer, home_served}
use Rattle.lh_bucket.proofs.PlainBuckets.{plain_made, ordered_entries}
use Rattle.lh_bucket.proofs.plain_bucket.PlainBucketBucket.serve.Goals as goal

pub change_at-requires : goal.change_at-requires
change_at-requires c = ordered_entries c.self.inside.records.entries c.self.invariant.sorted

pub changed-requires : goal.changed-requires
changed-requires c =
    let b = c.self.inside in
    let head : Head = record { number = b.number; initial = b.initial; capacity = b.capacity; level = b.level } in
    let here : verdict head (code_of (key_of c.args.call.now)) c.args.k ≡ Here =
    subst (λ (s : Seen). verdict s.head (code_of (key_of c.args.call.now)) c.args.k ≡ Here) (sym c.self.view_is)
    c.requires.here in
    is_answer head (call_of c.in-Some.change) (reply_of c.in_ok-reply.reply) c.args.k c.self.invariant.kept.initial
    c.requires.low
    (ap (λ (call : Call). verdict head (code_of (key_of call)) c.args.k) c.in-Some.ensures.change ∙ here)

pub invariant_of-self-2 : goal.invariant_of-self-2
invariant_of-self-2 c =
    let b = c.self.inside in
    let head : Head = record { number = b.number; initial = b.initial; capacity = b.capacity; level = b.level } in
    let here : verdict head (code_of (key_of c.args.call.now)) c.args.k ≡ Here =
    subst (λ (s : Seen). verdict s.head (code_of (key_of c.args.call.now)) c.args.k ≡ Here) (sym c.self.view_is)
    c.requires.here in
    plain_made head c.change_at.new.records.entries c.self.invariant.kept.initial c.self.invariant.kept.capacity
    c.change_at.ensures.ordered
    (home_served head (pairs_of_entries b.records.entries) (pairs_of_entries c.change_at.new.records.entries)
    (call_of c.in-Some.change) c.args.k
    (ap (λ (call : Call). verdict head (code_of (key_of call)) c.args.k) c.in-Some.ensures.change ∙ here)
    c.in_ok-reply.ensures.content c.self.invariant.kept.home)
