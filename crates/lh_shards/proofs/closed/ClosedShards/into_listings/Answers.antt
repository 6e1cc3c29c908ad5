-- The next shard gives its listing, or a fault.
use Rattle.std.proofs.Common.{suc, ◌≡◌, ℕ, ◌+◌, ◌<◌, ◌≤◌, List, drop, length, Some, add-one, refl, sym, ap, ◌∙◌, subst}
use Rattle.std.proofs.Common.{inl}
use Rattle.std.proofs.Common.{inr, ⊎_elim, arith}
use Rattle.std.specs.List.{slice_get}
use Rattle.std.specs.Vec.Iter.{into_iter_items, into_iter_len}
use Rattle.std.proofs.lemmas.Bool.{cases_lt}
use Rattle.std.proofs.lemmas.List.{length_push}
use Rattle.std.proofs.lemmas.Option.{same_Some}
use Rattle.lh_bucket.specs.Listing.{Lists, IsListing}
use Rattle.lh_shards.specs.Listings.{listing_of}
use Rattle.lh_shards.specs.declared.closed_shard.ClosedShard.{ClosedShard}
use Rattle.lh_shards.proofs.Places.{at_push, left_next, there}
use Rattle.lh_shards.proofs.closed.ClosedShards.into_listings.Goals as goal
use Rattle.lh_shards.proofs.closed.ClosedShards.into_listings.Goals.{In-Some}

next_shard : (c : In-Some) →
    (slice_get c.args.self c.loop-shard.shard ≡ Some c.in-Some.field-0)
    × (drop (suc c.loop-shard.shard) c.args.self ≡ into_iter_items c.next.new.self)
next_shard c =
    left_next c.args.self (into_iter_items c.next.new.self) c.loop-shard.shard c.in-Some.field-0
    (sym c.loop-shard.invariant.left ∙ c.in-Some.ensures.items)

pub returns-in_default-clause-err : goal.returns-in_default-clause-err
returns-in_default-clause-err c =
    let least : 1 ≤ length c.args.self = c.count-count.ensures.kept.range.0 in
    let closed : (x : ClosedShard) × (slice_get c.args.self 0 ≡ Some x) = there c.args.self 0 (omega arith) in record {
      closed = closed.0;
      closed_is = closed.1;
      due = inl refl;
      before = λ k earlier below. absurd (omega arith);
    }

pub returns-in-Err-clause-err : goal.returns-in-Err-clause-err
returns-in-Err-clause-err c = record {
  closed = c.in-Some.field-0;
  closed_is = (next_shard (goal.at.returns-in-Err-clause-err c).In-Some).0;
  due = inr c.in-Err.ensures.err;
  before = c.loop-shard.invariant.kept;
}

pub loop-shard-preserved : goal.loop-shard-preserved
loop-shard-preserved c =
    let i : ℕ = c.loop-shard.shard in
    let next = next_shard (goal.at.loop-shard-preserved c).In-Some in
    let fewer : into_iter_len c.next.new.self + 1 ≡ into_iter_len c.loop-shard.left = c.in-Some.ensures.len in record {
      left = subst (λ n. into_iter_items c.next.new.self ≡ drop n c.args.self) (sym (add-one i)) (sym next.1);
      left_len = omega (arith, fewer, c.loop-shard.invariant.left_len);
      many =
          ap length c.push_reserved.ensures.items ∙ length_push c.loop-shard.listings.items c.in-Ok-into_listing.listing
          ∙ ap (λ n. n + 1) c.loop-shard.invariant.many;
      len = omega arith;
      room = omega arith;
      each = λ k closed listing ko kl.
          ⊎_elim
          (λ e.
          let at : k ≡ i = e.0 ∙ c.loop-shard.invariant.many in
          let same : c.in-Some.field-0 ≡ closed =
          same_Some c.in-Some.field-0 closed
          (sym next.0 ∙ subst (λ j. slice_get c.args.self j ≡ Some closed) at ko) in
          e.1 ∙ c.in-Ok-into_listing.ensures.ok ∙ ap (λ (x : ClosedShard). listing_of x.closed) same)
          (λ e. c.loop-shard.invariant.each k closed listing ko e)
          (at_push c.loop-shard.listings.items c.in-Ok-into_listing.listing k listing
          (subst (λ (l : List Lists). slice_get l k ≡ Some listing) c.push_reserved.ensures.items kl));
      kept = λ k closed below at.
          ⊎_elim
          (λ (less : k < i). c.loop-shard.invariant.kept k closed less at)
          (λ (rest : i ≤ k).
          let here : k ≡ i = omega arith in
          let same : c.in-Some.field-0 ≡ closed =
          same_Some c.in-Some.field-0 closed
          (sym next.0 ∙ subst (λ j. slice_get c.args.self j ≡ Some closed) here at) in
          subst IsListing (c.in-Ok-into_listing.ensures.ok ∙ ap (λ (x : ClosedShard). listing_of x.closed) same)
          c.in-Ok-into_listing.ensures.kept)
          (cases_lt k i);
    }
