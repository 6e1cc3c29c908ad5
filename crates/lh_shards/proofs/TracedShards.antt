-- Traced shards that were closed whole are settled.
use Rattle.std.proofs.Common.{zero, suc, ◌≡◌, ℕ, ◌+◌, ◌<◌, List, [], ◌∷◌, ◌++◌, length, Some, refl, sym, ap, ◌∙◌}
use Rattle.std.proofs.Common.{true, add-one, subst, ⊎_elim, arith}
use Rattle.std.specs.List.{slice_get}
use Rattle.std.proofs.lemmas.List.{length_push}
use Rattle.std.proofs.lemmas.Option.{none-some, same_Some}
use Rattle.lh_bucket.specs.Listing.{Lists}
use Rattle.lh_settling.specs.Settled.{IsSettled}
use Rattle.lh_settling.specs.declared.act.ActLine.{ActLine}
use Rattle.lh_file.specs.FileState.{FileState}
use Rattle.lh_words.specs.History.Log.{lines_of}
use Rattle.lh_file.specs.Words.HandState.{HandState}
use Rattle.lh_shards.specs.Closing.{IsClosedBy}
use Rattle.lh_shards.specs.Settling.{AreSettled}
use Rattle.lh_shards.specs.Traced.{IsClosedWhole, TracedLaw}
use Rattle.lh_shards.specs.declared.closed_shard.ClosedShard.{ClosedShard}
use Rattle.lh_shards.proofs.Places.{at_push, there}
use Rattle.lh_shards.proofs.Settled.{settled_are_one_map}

-- where there is something of a kind for each place below a number, there is a list of as many
chosen : {X : Type 0} (P : ℕ → X → Type 0) (n : ℕ) → ((k : ℕ) → k < n → (x : X) × P k x) →
    (xs : List X) × (length xs ≡ n) × ((k : ℕ) (x : X) → slice_get xs k ≡ Some x → P k x)
chosen P zero has = ([], refl, λ k x at. absurd (none-some x at))
chosen {X} P (suc n) has =
    let before = chosen P n (λ k lt. has k (omega (arith, lt))) in
    let last : (x : X) × P n x = has n (omega arith) in (
      before.0 ++ last.0 ∷ [],
      length_push before.0 last.0 ∙ ap (λ m. m + 1) before.1 ∙ add-one n,
      λ k x at. ⊎_elim
          (λ e. subst (λ j. P j x) (sym (e.0 ∙ before.1)) (subst (P n) (sym e.1) last.1))
          (λ old. before.2 k x old)
          (at_push before.0 last.0 k x at),
    )

-- traced shards that were closed whole are settled, each by one legal history, and are one map
pub traced_law : TracedLaw
traced_law openings files hands shards n opened of are by whole =
    let Settles : ℕ → List ActLine → Type 0 =
    λ k history. (opening : Lists) (closed : ClosedShard) → slice_get openings k ≡ Some opening →
    slice_get shards k ≡ Some closed → IsSettled opening closed.closed closed.acts history in
    let each : (k : ℕ) → k < length shards → (history : List ActLine) × Settles k history =
    λ k lt.
    let file : (x : FileState) × (slice_get files k ≡ Some x) = there files k (omega (arith, lt, by.count)) in
    let hand : (x : HandState) × (slice_get hands k ≡ Some x) = there hands k (omega (arith, lt, by.count, of.count)) in
    let closed : (x : ClosedShard) × (slice_get shards k ≡ Some x) = there shards k lt in
    let is : IsClosedBy true file.0 hand.0 closed.0 = by.each k file.0 hand.0 closed.0 file.1 hand.1 closed.1 in
    let home : IsClosedWhole hand.0 closed.0 = whole k hand.0 closed.0 hand.1 closed.1 in
    let history = is.history refl home.gathered home.still in (
      lines_of history.0,
      λ opening other ok ck.
          let same : closed.0 ≡ other = same_Some closed.0 other (sym closed.1 ∙ ck) in
          subst (λ (o : Lists). IsSettled o other.closed other.acts (lines_of history.0))
          (opened k opening file.0 ok file.1)
          (subst (λ (c : ClosedShard). IsSettled file.0.listing c.closed c.acts (lines_of history.0)) same
          (history.2 home.came_home home.inside).0),
    ) in
    let histories = chosen Settles (length shards) each in
    let settled : AreSettled openings shards histories.0 =
    record {
      count = histories.1;
      each = λ k opening closed history ok ck hk. histories.2 k history hk opening closed ok ck;
    } in
    (histories.0, settled, settled_are_one_map openings shards histories.0 n are settled)
