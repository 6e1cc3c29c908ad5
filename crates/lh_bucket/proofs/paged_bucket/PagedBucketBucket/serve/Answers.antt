use Rattle.std.proofs.Common.{◌≡◌, ap, ◌∙◌}
use Rattle.lh_addr.specs.Fnv.{code_of}
use Rattle.lh_bucket.specs.declared.call.Call.{Call}
use Rattle.lh_bucket.specs.declared.verdict.Verdict.TheVariants.{Here}
use Rattle.lh_bucket.specs.Call.{key_of}
use Rattle.lh_bucket.specs.Change.{call_of, reply_of}
use Rattle.lh_bucket.specs.Bucket.{Head, Seen, verdict}
use Rattle.lh_bucket.proofs.Kept.{is_answer}
use Rattle.lh_bucket.proofs.paged_bucket.PagedBucketBucket.serve.Goals as goal

pub changed-requires : goal.changed-requires
changed-requires c =
    let b = c.self.inside in
    let head : Head = record { number = b.number; initial = b.initial; capacity = b.chain.capacity; level = b.level } in
    let same : head ≡ c.args.self.now.head = ap (λ (s : Seen). s.head) c.self.view_is ∙ c.change.ensures.head in
    let here : verdict head (code_of (key_of c.args.call.now)) c.args.k ≡ Here =
    ap (λ (h : Head). verdict h (code_of (key_of c.args.call.now)) c.args.k) same ∙ c.requires.here in
    is_answer head (call_of c.in-Some.change) (reply_of c.in_ok-reply.reply) c.args.k c.self.invariant.initial
    c.requires.low
    (ap (λ (call : Call). verdict head (code_of (key_of call)) c.args.k) c.in-Some.ensures.change ∙ here)
