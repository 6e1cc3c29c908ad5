-- The buckets that a file begins with, and the first world
use Rattle.std.proofs.Common.{◌≡◌, ℕ, ◌+◌, ◌*◌, ◌^◌, ◌<◌, ◌≤◌, ◌||◌, Bool, true, false, cond, List, [], None}
use Rattle.std.proofs.Common.{Option, Some, nat_eq, nat_lt, nat_le, refl, sym, ap, subst, ◌∙◌, arith}
use Rattle.std.specs.FinMap.{empty, get-empty}
use Rattle.std.specs.List.{IsDistinct}
use Rattle.std.specs.Ordering.{nat_cmp}
use Rattle.std.specs.Cmp.Lexicographic.{slice_cmp}
use Rattle.std.proofs.lemmas.Bool.Decides.{nat_tests}
use Rattle.lh_addr.specs.Extent.{Extent}
use Rattle.lh_addr.specs.Fnv.{code_of}
use Rattle.lh_addr.specs.Settings.{Settings, IsInRange}
use Rattle.lh_addr.specs.Growth.{address, level_of, level, pointer}
use Rattle.lh_bucket.specs.Bucket.{Seen, content}
use Rattle.lh_bucket.specs.Records.{map_of}
use Rattle.lh_core.specs.declared.control.Control.{Control}
use Rattle.lh_core.specs.State.{first}
use Rattle.lh_core.specs.Control.{IsControl, control_state, world_of}
use Rattle.lh_core.specs.Kept.{IsBucketRow, IsWorld, IsEmptyRow, empty_at}
use Rattle.lh_core.specs.Laws.{LinearHashing}
use Rattle.lh_core.specs.Sound.{IsSound}
use Rattle.lh_core.specs.World.{IsPlaced, HasKeysOnce}
use Rattle.lh_bucket.specs.PlainMapLaws.{same, get_kept}
use Rattle.lh_core.proofs.Logs.Aiming.{first_sound}

level_test : (i p l t n : ℕ) → 0 ≡ l → 0 ≡ p → t ≡ n → i < n → cond (nat_lt i p || nat_le t i) (l + 1) l ≡ 0
level_test i p l t n a b e h = grind (arith, nat_tests)

first_level : LinearHashing → (n i : ℕ) → 1 ≤ n → i < n → level_of n n i ≡ 0
unfolding level_of
first_level g n i one lt =
    let r = (g.root n n 0 0 one (omega arith)).0 (record { size = omega arith; in_range = omega arith }) in
    let t : n * 2 ^ level n n ≡ n = ap (λ l. n * 2 ^ l) (sym r.0) ∙ (let z : n * 2 ^ 0 ≡ n = omega arith in z) in
    level_test i (pointer n n) (level n n) (n * 2 ^ level n n) n r.0 r.1 t lt

nothing_twice : (s : Settings) (i : ℕ) → HasKeysOnce (empty_at s i)
unfolding IsDistinct
nothing_twice s i = tt

-- the buckets that a file begins with have their numbers and their levels, and their keys once
pub first_row_is : LinearHashing → (s : Settings) (row : List Seen) → 1 ≤ s.initial → IsEmptyRow s s.initial row →
    IsBucketRow s s.initial row
first_row_is g s row one h = record {
  all = h.all;
  once = λ i lt. subst HasKeysOnce (sym (h.each i lt)) (nothing_twice s i);
  heads =
      λ i lt.
      ap (λ (x : Seen). x.head) (h.each i lt)
      ∙ ap (λ l. record { number = i; initial = s.initial; capacity = s.capacity; level = Some l })
      (sym (first_level g s.initial i one lt));
}

empty_content : map_of [] ≡ empty
unfolding map_of
empty_content = refl

none_either : {X : Type 0} (b : Bool) → ◌≡◌ {A = Option X} None (cond b None None)
none_either true = refl
none_either false = refl

-- the records of the empty map are placed in the buckets that a file begins with
pub first_placed : (s : Settings) (row : List Seen) → IsEmptyRow s s.initial row →
    IsPlaced s.initial s.initial empty row
first_placed s row h = record {
  all = h.all;
  each =
      λ i lt.
      ap content (h.each i lt) ∙ empty_content
      ∙ same _ _
      (λ q.
      get-empty (slice_cmp nat_cmp) q
      ∙ sym
      (get_kept empty (λ k. nat_eq (address s.initial s.initial (code_of k)) i) q
      ∙ ap (λ o. cond (nat_eq (address s.initial s.initial (code_of q)) i) o None)
      (get-empty (slice_cmp nat_cmp) q)
      ∙ sym (none_either (nat_eq (address s.initial s.initial (code_of q)) i))));
}

-- the control of a file that begins is sound, and makes a world with the buckets that it begins with
pub first_world : LinearHashing → (c : Control) (row : List Seen) → IsInRange c.config →
    c.root ≡ record { initial = c.config.initial; buckets = c.config.initial } → c.filled ≡ c.root →
    control_state c ≡ first c.config → IsEmptyRow c.config c.config.initial row → IsControl c × IsWorld (world_of c row)
first_world g c row range root filled state h =
    let is : c.filled ≡ record { initial = c.config.initial; buckets = c.config.initial } = filled ∙ root in
    let sound = subst (IsSound c.config) (sym state) (first_sound c.config range.initial.0 range.max.0) in (
      record {
        range = range;
        root = ap (λ (x : Extent). x.initial) root;
        filled = ap (λ (x : Extent). x.initial) is;
        sound = sound;
      },
      record {
        range = range;
        sound = sound;
        row =
            subst (λ n. IsBucketRow c.config n row) (sym (ap (λ (x : Extent). x.buckets) is))
            (first_row_is g c.config row range.initial.0 h);
      },
    )
