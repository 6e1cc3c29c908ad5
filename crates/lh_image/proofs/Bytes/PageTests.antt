-- A page's own tests are its table: bytes that pass them are a page, and a page passes them.
use Rattle.std.proofs.Common.{◌≡◌, ℕ, ◌+◌, ◌*◌, ◌<◌, ◌≤◌, Bool, true, false, cond, not, ◌||◌, eqb, ltb, leb, List}
use Rattle.std.proofs.Common.{length, drop, Option, Some, None, refl, ◌↔◌, arith}
use Rattle.std.specs.Prelude.{option_map}
use Rattle.std.specs.Option.{is_some}
use Rattle.std.proofs.lemmas.Bool.{or_parts, or_from, not-false, not_from_true, eqb-true, eq-eqb, le-ltb}
use Rattle.std.proofs.lemmas.Bool.Decides.{nat_tests}
use Rattle.std.proofs.lemmas.List.{length-take, length-drop}
use Rattle.std.proofs.Math.Nat.{mul-le-mul_left}
use Rattle.lh_page.specs.declared.format.Format.{Format}
use Rattle.lh_page.specs.Format.{page_size}
use Rattle.lh_page.specs.declared.fault.PageFault.TheVariants.{Kind, Used, Slot}
use Rattle.lh_page.specs.PageFields.{kind_of, used_of, is_clear, has_bad_kind, bad_slot, fault_of, page_of}
use Rattle.lh_page.specs.PageLaws.{AreBytes, FaultlessLaw, ReadBackLaw}
use Rattle.lh_page.specs.PageTable.{IsPage, IsWritable}
use Rattle.lh_image.specs.Layout.{page}
use Rattle.lh_image.specs.Version.{page_bytes, version_of}
use Rattle.lh_image.proofs.Bytes.Header.{part_bytes}
use Rattle.lh_image.proofs.Bytes.HeaderTests.{none_if}

-- over plain values: k is a page's kind, S the number of buckets, c whether its reserved bytes are zero
pub kind_rule : (k p S : ℕ) (c : Bool) →
    (not (eqb k (cond (leb p S) 1 2)) || not c ≡ false) ↔ ((k ≡ cond (leb p S) 1 2) × (c ≡ true))
kind_rule k p S c = (
  λ e.
      let a = or_parts (not (eqb k (cond (leb p S) 1 2))) (not c) e in
      (eqb-true k _ (not-false _ a.0), not-false c a.1),
  λ (a, b). or_from (not (eqb k (cond (leb p S) 1 2))) (not c) (not_from_true _ (eq-eqb k _ a)) (not_from_true c b),
)

-- a page behind the buckets' pages is to be an overflow page
pub kind_above : (p S : ℕ) → S < p → ◌≡◌ {A = ℕ} (cond (leb p S) 1 2) 2
kind_above p S l = grind (arith, nat_tests)

-- a page that is to be an overflow page, and is one, stands behind the buckets' pages
pub two_above : (p S k : ℕ) → k ≡ cond (leb p S) 1 2 → k ≡ 2 → S < p
two_above p S k a b = grind (arith, nat_tests)

-- a page of the kind that it is to be is a primary or an overflow page
pub one_or_two : (k : ℕ) (b : Bool) → k ≡ cond b 1 2 → (eqb k 1 || eqb k 2) ≡ true
one_or_two k true e = rw e refl
one_or_two k false e = rw e refl

slot_fault : (o : Option ℕ) → (option_map Slot o ≡ None) ↔ (is_some o ≡ false)
slot_fault None = (λ e. refl, λ e. refl)
slot_fault (Some n) = (λ e. absurd cc, λ e. absurd cc)

own_tests : (f : Format) (g : List ℕ) →
    (fault_of f g f.slots ≡ None) ↔
    ((has_bad_kind g ≡ false) × (ltb f.slots (used_of g) ≡ false) × (is_some (bad_slot f g) ≡ false))
unfolding fault_of
own_tests f g =
    let a =
    none_if (has_bad_kind g) Kind (cond (ltb f.slots (used_of g)) (Some Used) (option_map Slot (bad_slot f g))) in
    let b = none_if (ltb f.slots (used_of g)) Used (option_map Slot (bad_slot f g)) in
    let c = slot_fault (bad_slot f g) in
    (λ e. let x = a.0 e in let y = b.0 x.1 in (x.0, y.0, c.0 y.1), λ (k, u, s). a.1 (k, b.1 (u, c.1 s)))

module _ (faultless : FaultlessLaw) (f : Format) (g : List ℕ) (fit : AreBytes g) (long : length g ≡ page_size f) where
  -- bytes that pass a page's own tests are a page, and its fields fit their sizes
  pub page_from_tests : (b : Bool) → kind_of g ≡ cond b 1 2 → is_clear g ≡ true → used_of g ≤ f.slots →
      is_some (bad_slot f g) ≡ false → IsPage f g (page_of f g) × IsWritable f (page_of f g)
  unfolding has_bad_kind
  page_from_tests b kind clear few slots =
      (faultless f g fit long).0 ((own_tests f g).1 (
        or_from (not (eqb (kind_of g) 1 || eqb (kind_of g) 2)) (not (is_clear g))
            (not_from_true _ (one_or_two (kind_of g) b kind)) (not_from_true _ clear),
        le-ltb f.slots (used_of g) few,
        slots,
      ))

-- a page's reserved bytes are zeros, and it has no bad slot
pub tests_from_page : ReadBackLaw → (f : Format) (g : List ℕ) → IsPage f g (page_of f g) × IsWritable f (page_of f g) →
    (is_clear g ≡ true) × (is_some (bad_slot f g) ≡ false)
unfolding has_bad_kind
tests_from_page read_back f g h =
    let t = (own_tests f g).0 (read_back f g (page_of f g) f.slots h.1 h.0 h.1.pairs.few).1 in
    (not-false _ (or_parts (not (eqb (kind_of g) 1 || eqb (kind_of g) 2)) (not (is_clear g)) t.0).1, t.2)

-- ---- the bytes of a page of an image

-- each byte of a page of some bytes is a byte
pub page_is_bytes : (bytes : List ℕ) (p : ℕ) → AreBytes bytes → AreBytes (page bytes p)
unfolding page
page_is_bytes bytes p b = part_bytes bytes (page_bytes (version_of bytes) * p) (page_bytes (version_of bytes)) b

-- a page of several is whole
whole_page : (w p P : ℕ) → p < P → w * p + w ≤ w * P
whole_page w p P low = let more : p + 1 ≤ P = omega arith in omega (arith, mul-le-mul_left w more)

-- of bytes that are whole pages, each page is as long as one of their version
pub length-page : (bytes : List ℕ) (p P : ℕ) → length bytes ≡ page_bytes (version_of bytes) * P → p < P →
    length (page bytes p) ≡ page_bytes (version_of bytes)
unfolding page
length-page bytes p P e l =
    let w : ℕ = page_bytes (version_of bytes) in
    omega (arith, whole_page w p P l, length-take w (drop (w * p) bytes), length-drop (w * p) bytes)
