-- The bits of the records that have been looked at.
use Rattle.std.proofs.Common.{◌≡◌, ◌≢◌, ℕ, ◌+◌, ◌*◌, ◌%◌, ◌^◌, ◌<◌, ◌≤◌, Bool, true, false, cond, List, length, bit_or}
use Rattle.std.proofs.Common.{w64, sym, ap, ◌∙◌, inl, inr, arith}
use Rattle.std.specs.Int.{bit_at}
use Rattle.std.proofs.lemmas.Bool.{cases_eq}
use Rattle.std.proofs.lemmas.Nat.Bits.{bit_at_set_same, bit_at_set_other, bit_at-zero, same_from_bits}
use Rattle.lh_page.specs.Going.{AreBitsOf}
use Rattle.lh_page.specs.declared.going.Going.{Going}
use Rattle.lh_page.specs.declared.pair.Pair.{Pair}
use Rattle.lh_page.specs.Records.{key_at}

-- the bits of the places before one say which records go, and no other bit is set
pub record AreBitsBelow (test : List ℕ → Bool) (bits : ℕ) (pairs : List Pair) (place : ℕ) : Type 0 where
  pub each : (i : ℕ) → i < place → bit_at bits i ≡ cond (test (key_at pairs i)) 1 0
  pub clear : (i : ℕ) → place ≤ i → bit_at bits i ≡ 0

-- where the next record goes, its bit is set
pub bits_set : (test : List ℕ → Bool) (bits : ℕ) (pairs : List Pair) (place : ℕ) → place < 64 →
    AreBitsBelow test bits pairs place → test (key_at pairs place) ≡ true →
    AreBitsBelow test (bit_or bits (1 * 2 ^ place % 2 ^ 64)) pairs (place + 1)
bits_set test bits pairs place within h goes = record {
  each = λ i below. elim (cases_eq i place) [
    | inl here ↦
        ap (bit_at (bit_or bits (1 * 2 ^ place % 2 ^ 64))) here
        ∙ (bit_at_set_same w64 bits place within ∙ sym (ap (λ k. cond (test (key_at pairs k)) 1 0) here
        ∙ ap (λ b. cond b 1 0) goes))
    | inr there ↦ bit_at_set_other w64 bits place within i there ∙ h.each i (omega arith)
  ];
  clear = λ i behind.
      let other : i ≢ place = omega arith in
      bit_at_set_other w64 bits place within i other ∙ h.clear i (omega arith);
}

-- where it stays, the bits are left as they are
pub bits_left : (test : List ℕ → Bool) (bits : ℕ) (pairs : List Pair) (place : ℕ) → AreBitsBelow test bits pairs place →
    test (key_at pairs place) ≡ false → AreBitsBelow test bits pairs (place + 1)
bits_left test bits pairs place h stays = record {
  each = λ i below. elim (cases_eq i place) [
    | inl here ↦
        ap (bit_at bits) here
        ∙ (h.clear place (omega arith) ∙ sym (ap (λ k. cond (test (key_at pairs k)) 1 0) here
        ∙ ap (λ b. cond b 1 0) stays))
    | inr there ↦ h.each i (omega arith)
  ];
  clear = λ i behind. h.clear i (omega arith);
}

-- of no records no bit is set
pub bits_none : (test : List ℕ → Bool) (going : Going) (pairs : List Pair) → AreBitsOf test going pairs →
    length pairs ≡ 0 → going.bits ≡ 0
bits_none test going pairs h none =
    same_from_bits going.bits 0 (λ i. h.others i (omega arith) ∙ sym (bit_at-zero i))
