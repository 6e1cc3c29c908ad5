use Rattle.std.proofs.Common.{◌≡◌, ◌∙◌, sym, ap, subst}
use Rattle.lh_addr.specs.Fnv.{code_of}
use Rattle.lh_page.specs.PackedList.{PackedList}
use Rattle.lh_bucket.specs.declared.verdict.Verdict.TheVariants.{Here}
use Rattle.lh_bucket.specs.Call.{key_of}
use Rattle.lh_bucket.specs.Change.{call_of}
use Rattle.lh_bucket.specs.PlainMap.{after}
use Rattle.lh_bucket.specs.Records.{map_of}
use Rattle.lh_bucket.specs.Bucket.{Head, Seen, content, verdict}
use Rattle.lh_bucket.proofs.Kept.{home_served}
use Rattle.lh_bucket.proofs.Chained.{map_of-served}
use Rattle.lh_bucket.proofs.paged_bucket.SizedBucket.change_found.Goals as goal

pub invariant_of-self-2 : goal.invariant_of-self-2
invariant_of-self-2 g c =
    let b = c.self.inside in
    let call = call_of c.args.change in
    let head : Head = record { number = b.number; initial = b.initial; capacity = b.chain.capacity; level = b.level } in
    let here : verdict head (code_of (key_of call)) c.args.k ≡ Here =
    subst (λ (s : Seen). verdict s.head (code_of (key_of call)) c.args.k ≡ Here) (sym c.self.view_is) c.requires.here in
    record {
      initial = c.self.invariant.initial;
      capacity = c.len.ensures.kept.capacity;
      distinct = c.len.ensures.kept.distinct;
      home = home_served head b.chain.pairs c.change_at.new.chain.pairs call c.args.k here
          (ap (λ (l : PackedList). map_of l.pairs) c.in_ok-reply.ensures.list
          ∙ map_of-served b.chain.pairs call c.self.invariant.distinct) c.self.invariant.home;
    }

pub returns-clause-content : goal.returns-clause-content
returns-clause-content g c =
    let b = c.self.inside in
    let call = call_of c.args.change in
    ap (λ (l : PackedList). map_of l.pairs) c.in_ok-reply.ensures.list
    ∙ map_of-served b.chain.pairs call c.self.invariant.distinct
    ∙ ap (λ (s : Seen). after (content s) call) c.self.view_is
