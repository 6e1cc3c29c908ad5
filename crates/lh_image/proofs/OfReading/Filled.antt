-- A filled buffer has the front of what was left.
use Rattle.std.proofs.Common.{◌≡◌, ℕ, ◌+◌, ◌<◌, ◌≤◌, inl, inr, List, [], ◌++◌, length, take, drop, Option, Some, None}
use Rattle.std.proofs.Common.{sym, ap, ◌∙◌, arith, length-append}
use Rattle.std.specs.Prelude.{IfSome}
use Rattle.std.proofs.lemmas.Bool.{cases_lt}
use Rattle.std.proofs.lemmas.List.{take_at, drop_at, length-drop, length-take-le, append-nil, take_all, drop_all}
use Rattle.lh_page.specs.PageLaws.{AreBytes}
use Rattle.lh_image.specs.declared.fault.ImageFault.{ImageFault}
use Rattle.lh_image.specs.declared.fault.ImageFault.TheVariants.{Short, ReadFault, Memory}
use Rattle.lh_image.specs.Filling.{Fills, FillsWhole, IsCut, IsFilled}

whole : (xs ys buffer : List ℕ) (n : ℕ) → n ≤ length buffer → xs ≡ take n buffer ++ ys → length xs ≡ n + length ys
whole xs ys buffer n within e =
    omega (arith, ap length e, length-append (take n buffer) ys, length-take-le n buffer within)

full : (xs ys buffer : List ℕ) (n : ℕ) → n ≡ length buffer → n ≤ length buffer → xs ≡ take n buffer ++ ys →
    IsFilled xs n buffer (Some ys)
full xs ys buffer n all within e =
    let size : length (take n buffer) ≡ length buffer = omega (arith, length-take-le n buffer within) in
    record {
      count = omega (arith, whole xs ys buffer n within e);
      front = sym (take_at (take n buffer) ys (length buffer) size) ∙ ap (take (length buffer)) (sym e);
      rest = ap Some (sym (drop_at (take n buffer) ys (length buffer) size) ∙ ap (drop (length buffer)) (sym e));
    }

ended : (xs ys buffer : List ℕ) (n : ℕ) → n < length buffer → ys ≡ [] → xs ≡ take n buffer ++ ys →
    IsFilled xs n buffer (Some ys)
ended xs ys buffer n less none e =
    let short : length xs ≤ length buffer = omega (arith, whole xs ys buffer n (omega arith) e, ap length none) in
    let is : xs ≡ take n buffer = e ∙ ap (λ (r : List ℕ). take n buffer ++ r) none ∙ append-nil (take n buffer) in
    record {
      count = omega (arith, whole xs ys buffer n (omega arith) e, ap length none);
      front = sym is ∙ sym (take_all (length buffer) xs short);
      rest = ap Some (none ∙ sym (drop_all (length buffer) xs short));
    }

-- of known bytes as many came to the front of a filled buffer as it holds, or all
pub filled : (old new : Option (List ℕ)) (n : ℕ) (buffer : List ℕ) → Fills old new n buffer →
    IfSome old (λ bytes. IsFilled bytes n buffer new)
filled None new n buffer fills = tt
filled (Some xs) None n buffer fills = absurd fills.bytes
filled (Some xs) (Some ys) n buffer fills = elim (cases_lt n (length buffer)) [
  | inl less ↦ ended xs ys buffer n less (fills.end less) fills.bytes
  | inr all ↦ full xs ys buffer n (omega (arith, fills.within)) fills.within fills.bytes
]

-- a buffer that is full has the front of the bytes
pub fills_whole : (bytes : List ℕ) (now : Option (List ℕ)) (n : ℕ) (buffer : List ℕ) → IsFilled bytes n buffer now →
    length buffer ≤ n → AreBytes buffer → FillsWhole bytes buffer now
fills_whole bytes now n buffer filled all each = record {
  enough = omega (arith, filled.count);
  front = sym (take_all n buffer all) ∙ filled.front;
  rest = filled.rest;
  each_byte = each;
}

-- ---- fewer bytes than this many

-- too few bytes are fewer than more bytes, too
pub cut_more : (bytes : List ℕ) (m n : ℕ) (f : ImageFault) → m ≤ n → IsCut bytes m f → IsCut bytes n f
cut_more bytes m n Short le cut = omega arith
cut_more bytes m n f le cut = cut

-- too few bytes behind a part are too few in all
pub cut_behind : (bytes : List ℕ) (k m n : ℕ) (f : ImageFault) → k ≤ length bytes → k + m ≡ n →
    IsCut (drop k bytes) m f → IsCut bytes n f
cut_behind bytes k m n Short within sum cut = omega (arith, cut, length-drop k bytes)
cut_behind bytes k m n ReadFault within sum cut = tt
cut_behind bytes k m n Memory within sum cut = tt
cut_behind bytes k m n f within sum cut = absurd cut
