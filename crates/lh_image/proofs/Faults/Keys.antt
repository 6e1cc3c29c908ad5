-- Records without a misfit are at home and have no key twice.
use Rattle.std.proofs.Common.{◌≡◌, ℕ, zero, suc, ◌<◌, length, Bool, true, false, not, ◌||◌, eqb, List, [], ◌∷◌, ◌++◌}
use Rattle.std.proofs.Common.{refl, sym, ◌∙◌, ◌↔◌, arith}
use Rattle.std.specs.List.{list_any, IsDistinct, AllByRecursion}
use Rattle.std.specs.Str.{bytes_eq}
use Rattle.std.proofs.lemmas.Bool.{eqb-true, eq-eqb, or_parts, or_from, not-false, not_from_true}
use Rattle.std.proofs.lemmas.Cmp.{nat_list_eq_equiv}
use Rattle.std.proofs.lemmas.List.Folds.{list_any-append}
use Rattle.lh_page.specs.declared.pair.Pair.{Pair}
use Rattle.lh_image.specs.Faults.{misfits}
use Rattle.lh_page.specs.Records.{keys_of, key_at}

bytes_flip : (x y : List ℕ) → bytes_eq x y ≡ false → bytes_eq y x ≡ false
bytes_flip x y e = sym (nat_list_eq_equiv.symm x y) ∙ e

abbrev Apart : List (List ℕ) → List (List ℕ) → Type 0
Apart came ks = AllByRecursion (λ k. list_any (bytes_eq k) came ≡ false) ks

apart_more : (came : List (List ℕ)) (x : List ℕ) (ks : List (List ℕ)) →
    Apart (came ++ x ∷ []) ks ↔ (Apart came ks × AllByRecursion (λ k. bytes_eq x k ≡ false) ks)
apart_more came x [] = (λ _. (tt, tt), λ _. tt)
apart_more came x (k ∷ ks) =
    let rest = apart_more came x ks in
    let cut : list_any (bytes_eq k) (came ++ x ∷ []) ≡ (list_any (bytes_eq k) came || (bytes_eq k x || false)) =
    list_any-append (bytes_eq k) came (x ∷ []) in (
      λ (a, b).
          let parts = or_parts (list_any (bytes_eq k) came) (bytes_eq k x || false) (sym cut ∙ a) in
          let parts2 = or_parts (bytes_eq k x) false parts.1 in
          let r = rest.0 b in
          ((parts.0, r.0), (bytes_flip k x parts2.0, r.1)),
      λ (a, b). (
        cut
            ∙ or_from (list_any (bytes_eq k) came) (bytes_eq k x || false) a.0
            (or_from (bytes_eq k x) false (bytes_flip x k b.0) refl),
        rest.1 (a.1, b.1),
      ),
    )

nothing_apart : (ks : List (List ℕ)) → Apart [] ks
nothing_apart [] = tt
nothing_apart (k ∷ ks) = (refl, nothing_apart ks)

misfits_after : (home : List ℕ → Bool) (came : List (List ℕ)) (rs : List Pair) →
    (misfits home came rs ≡ false) ↔
    (AllByRecursion (λ r. home r.key ≡ true) rs × Apart came (keys_of rs) × IsDistinct bytes_eq (keys_of rs))
unfolding misfits IsDistinct
misfits_after home came [] = (λ _. (tt, tt, tt), λ _. refl)
misfits_after home came (r ∷ rs) =
    let rest = misfits_after home (came ++ r.key ∷ []) rs in
    let more = apart_more came r.key (keys_of rs) in (
      λ e.
          let a =
          or_parts (not (home r.key) || list_any (bytes_eq r.key) came) (misfits home (came ++ r.key ∷ []) rs) e in
          let b = or_parts (not (home r.key)) (list_any (bytes_eq r.key) came) a.0 in
          let q = rest.0 a.1 in
          let m = more.0 q.1 in
          ((not-false (home r.key) b.0, q.0), (b.1, m.0), (m.1, q.2)),
      λ (a, b, c).
          or_from (not (home r.key) || list_any (bytes_eq r.key) came) (misfits home (came ++ r.key ∷ []) rs)
          (or_from (not (home r.key)) (list_any (bytes_eq r.key) came) (not_from_true (home r.key) a.0) b.0)
          (rest.1 (a.1, more.1 (b.1, c.0), c.1)),
    )

-- records have no misfit exactly where each is at home and no key stands twice
pub no_misfit : (home : List ℕ → Bool) (rs : List Pair) →
    (misfits home [] rs ≡ false) ↔ (AllByRecursion (λ r. home r.key ≡ true) rs × IsDistinct bytes_eq (keys_of rs))
no_misfit home rs = (
  λ e. let q = (misfits_after home [] rs).0 e in (q.0, q.2),
  λ (a, b). (misfits_after home [] rs).1 (a, nothing_apart (keys_of rs), b),
)

-- whether each record is at home, by tests and by places
pub at_home_from : (f : List ℕ → ℕ) (i : ℕ) (rs : List Pair) → AllByRecursion (λ r. eqb (f r.key) i ≡ true) rs →
    (k : ℕ) → k < length rs → f (key_at rs k) ≡ i
at_home_from f i [] a k l = absurd (omega arith)
at_home_from f i (r ∷ rs) a zero l = eqb-true (f r.key) i a.0
at_home_from f i (r ∷ rs) a (suc k) l = at_home_from f i rs a.1 k (omega arith)

-- records that are at home by their places are so by tests, too
pub home_tests : (f : List ℕ → ℕ) (i : ℕ) (rs : List Pair) → ((k : ℕ) → k < length rs → f (key_at rs k) ≡ i) →
    AllByRecursion (λ r. eqb (f r.key) i ≡ true) rs
home_tests f i [] a = tt
home_tests f i (r ∷ rs) a = (eq-eqb (f r.key) i (a 0 (omega arith)), home_tests f i rs (λ k l. a (suc k) (omega arith)))
