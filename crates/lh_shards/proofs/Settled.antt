-- Settled shards are one map.
use Rattle.std.proofs.Common.{◌≡◌, ◌≢◌, ℕ, ◌<◌, List, length, map, Some, sym, ap, ◌∙◌, subst, arith}
use Rattle.std.specs.List.{slice_get}
use Rattle.std.specs.Option.{option_map}
use Rattle.std.proofs.lemmas.List.Sorted.{All-permutation}
use Rattle.std.proofs.lemmas.Option.{slice_get_within, slice_get-map}
use Rattle.lh_bucket.specs.Listing.{Lists}
use Rattle.lh_bucket.specs.PlainMap.{Records, key_of, outcome}
use Rattle.lh_settling.specs.Acts.{calls_of}
use Rattle.lh_settling.specs.SettleFault.{IsDue}
use Rattle.lh_settling.specs.Settled.{map_in, IsSettled, Settled}
use Rattle.lh_settling.specs.declared.act.ActLine.{ActLine}
use Rattle.lh_settling.specs.declared.settle_fault.SettleFault.TheVariants.{Memory}
use Rattle.lh_shards.specs.Closing.{AreShards}
use Rattle.lh_shards.specs.Hands.{AreAtHome}
use Rattle.lh_shards.specs.Number.{home_of}
use Rattle.lh_shards.specs.OneMap.{IsPart, IsLegalFrom}
use Rattle.lh_shards.specs.Settling.{AreSettled, IsFirstDue, MakeOneMap}
use Rattle.lh_shards.specs.declared.closed_shard.ClosedShard.{ClosedShard}
use Rattle.lh_shards.specs.declared.fault.ShardFault.{ShardFault}
use Rattle.lh_shards.proofs.Merging.{one_map_law}
use Rattle.lh_shards.proofs.Places.{EachThree, there, at_map, length_mapped}

-- the shard is settled with this history
abbrev pub SettledAs : Lists → ClosedShard → List ActLine → Type 0
SettledAs opening closed history = IsSettled opening closed.closed closed.acts history

-- a history has the acts that it settles, so their keys belong where those do
pub history_home : (n i : ℕ) (opening : Lists) (closed : ClosedShard) (history : List ActLine) →
    IsSettled opening closed.closed closed.acts history → AreAtHome n i closed.acts → AreAtHome n i history
history_home n i opening closed history s h =
    All-permutation (λ (act : ActLine). home_of n (key_of act.call) ≡ i) closed.acts history s.stamped.order.same h

mapped_at : (openings : List Lists) (i : ℕ) (o : Lists) → slice_get openings i ≡ Some o →
    slice_get (map map_in openings) i ≡ Some (map_in o)
mapped_at openings i o at = slice_get-map map_in openings i ∙ ap (option_map map_in) at

-- settled shards are one map
pub settled_are_one_map : (openings : List Lists) (shards : List ClosedShard) (histories : List (List ActLine)) →
    length openings ≡ length shards → AreShards shards → AreSettled openings shards histories →
    MakeOneMap openings shards histories
settled_are_one_map openings shards histories n are settled whole merged parts merge =
    let maps : List Records = map map_in openings in
    let many : length maps ≡ length openings = length_mapped map_in openings in
    let long : length histories ≡ length shards = settled.count in
    let law = one_map_law whole maps histories merged (long ∙ sym n ∙ sym many)
    (λ i part at.
    let from : (o : Lists) × (slice_get openings i ≡ Some o) × (map_in o ≡ part) = at_map map_in openings i part at in
    subst (λ k. IsPart k i whole part) (sym many)
    (subst (λ (m : Records). IsPart (length openings) i whole m) from.2 (parts i from.0 from.1)))
    (λ i history at.
    let lt : i < length histories = slice_get_within histories i history at in
    let o : (x : Lists) × (slice_get openings i ≡ Some x) = there openings i (omega arith) in
    let c : (x : ClosedShard) × (slice_get shards i ≡ Some x) = there shards i (omega arith) in
    subst (λ k. AreAtHome k i history) (sym (many ∙ n))
    (history_home (length shards) i o.0 c.0 history (settled.each i o.0 c.0 history o.1 c.1 at)
    (are.home i c.0 c.1)))
    (λ i part history at ah.
    let from : (o : Lists) × (slice_get openings i ≡ Some o) × (map_in o ≡ part) = at_map map_in openings i part at in
    let lt : i < length histories = slice_get_within histories i history ah in
    let c : (x : ClosedShard) × (slice_get shards i ≡ Some x) = there shards i (omega arith) in
    subst (λ (m : Records). IsLegalFrom m history) from.2 (settled.each i from.0 c.0 history from.1 c.1 ah).legal)
    merge in (
      law.0,
      λ i c at.
          let lt : i < length shards = slice_get_within shards i c at in
          let o : (x : Lists) × (slice_get openings i ≡ Some x) = there openings i (omega arith) in
          let h : (x : List ActLine) × (slice_get histories i ≡ Some x) = there histories i (omega arith) in
          let is : IsSettled o.0 c.closed c.acts h.0 = settled.each i o.0 c h.0 o.1 at h.1 in
          let map_at : slice_get maps i ≡ Some (map_in o.0) = mapped_at openings i o.0 o.1 in (
            outcome (map_in o.0) (calls_of h.0),
            subst (λ k. IsPart k i (outcome whole (calls_of merged)) (outcome (map_in o.0) (calls_of h.0))) (many ∙ n)
                (law.1 i (map_in o.0) h.0 map_at h.1),
            is.placed,
          ),
    )

-- a fault of the shard whose turn it is, after those before it were settled
pub first_due : (openings : List Lists) (shards : List ClosedShard) (histories : List (List ActLine)) (i : ℕ)
    (opening : Lists) (closed : ClosedShard) (at : ShardFault) → slice_get openings i ≡ Some opening →
    slice_get shards i ≡ Some closed → length histories ≡ i → EachThree SettledAs openings shards histories →
    at.shard ≡ i → IsDue opening closed.closed closed.acts at.fault →
    (at.fault ≢ Memory → Settled opening closed.closed closed.acts → ⊥) → IsFirstDue openings shards at
first_due openings shards histories i opening closed at o s many each is due unsettled = record {
  opening = opening;
  closed = closed;
  opening_is = subst (λ k. slice_get openings k ≡ Some opening) (sym is) o;
  closed_is = subst (λ k. slice_get shards k ≡ Some closed) (sym is) s;
  due = due;
  unsettled = unsettled;
  before = λ e p d lt ep ed.
      let lower : e < length histories = omega (arith, is, many, lt) in
      let h : (x : List ActLine) × (slice_get histories e ≡ Some x) = there histories e lower in
      (h.0, each e p d h.0 ep ed h.1);
}
