use Rattle.std.proofs.Common.{◌≡◌, sym, subst, ap, ◌∙◌}
use Rattle.lh_addr.specs.Fnv.{code_of}
use Rattle.lh_bucket.specs.declared.call.Call.TheVariants.{Search}
use Rattle.lh_bucket.specs.declared.verdict.Verdict.TheVariants.{Here}
use Rattle.lh_bucket.specs.Call.{key_of}
use Rattle.lh_bucket.specs.Bucket.{Head, Seen, verdict}
use Rattle.lh_bucket.proofs.Kept.{is_answer}
use Rattle.lh_bucket.proofs.plain_bucket.PlainBucketBucket.look.Goals as goal

pub searched-requires : goal.searched-requires
searched-requires c =
    let b = c.self.inside in
    let head : Head = record { number = b.number; initial = b.initial; capacity = b.capacity; level = b.level } in
    let here : verdict head (code_of (key_of c.args.call.now)) c.args.k ≡ Here =
    subst (λ (s : Seen). verdict s.head (code_of (key_of c.args.call.now)) c.args.k ≡ Here) (sym c.self.view_is)
    c.requires.here in
    is_answer head (Search c.key-2.result.now) _ c.args.k c.self.invariant.kept.initial c.requires.low
    (ap (λ key. verdict head (code_of key) c.args.k) c.key-2.ensures ∙ here)
