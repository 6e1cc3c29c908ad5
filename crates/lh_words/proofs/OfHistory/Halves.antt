-- The codes of a bucket that is split are those of its halves
use Rattle.std.proofs.Common.{◌≡◌, ℕ, ◌+◌, ◌*◌, ◌^◌, ◌<◌, ◌≤◌, Bool, true, false, List, not, ◌&&◌}
use Rattle.std.proofs.Common.{eqb, refl, sym, ap, ◌∙◌, arith}
use Rattle.std.specs.FinMap.{retain_keys}
use Rattle.std.proofs.Math.Nat.{mod-lt}
use Rattle.std.specs.Option.{unwrap_or}
use Rattle.lh_addr.specs.Fnv.{code_of}
use Rattle.lh_addr.specs.Growth.{hash_at, HashRises}
use Rattle.lh_bucket.specs.Bucket.{Seen, raised_level, stays}
use Rattle.lh_bucket.specs.PlainMap.{Records}
use Rattle.lh_words.specs.History.BucketLaws.{split_at}
use Rattle.lh_words.specs.History.Buckets.{bit, owns, belongs, Mirrors, HasDivided}
use Rattle.lh_bucket.specs.PlainMapLaws.{kept_alike, kept_twice}

-- of a whole, the part that is in a half
in_half : (a b c : Bool) → bit a + bit b ≡ bit c → ((c && a) ≡ a) × ((c && not a) ≡ b)
in_half a b c e =
    elim a as (λ a. bit a + bit b ≡ bit c → ((c && a) ≡ a) × ((c && not a) ≡ b)) [
      | true ↦ elim b as (λ b. 1 + bit b ≡ bit c → ((c && true) ≡ true) × ((c && false) ≡ b)) [
        | true ↦
            elim c as (λ c. 1 + 1 ≡ bit c → ((c && true) ≡ true) × ((c && false) ≡ true))
            [ true ↦ λ h. absurd (omega arith) | false ↦ λ h. absurd (omega arith) ]
        | false ↦
            elim c as (λ c. 1 + 0 ≡ bit c → ((c && true) ≡ true) × ((c && false) ≡ false))
            [ true ↦ λ h. (refl, refl) | false ↦ λ h. absurd (omega arith) ]
      ]
      | false ↦ elim b as (λ b. 0 + bit b ≡ bit c → ((c && false) ≡ false) × ((c && true) ≡ b)) [
        | true ↦
            elim c as (λ c. 0 + 1 ≡ bit c → ((c && false) ≡ false) × ((c && true) ≡ true))
            [ true ↦ λ h. (refl, refl) | false ↦ λ h. absurd (omega arith) ]
        | false ↦
            elim c as (λ c. 0 + 0 ≡ bit c → ((c && false) ≡ false) × ((c && true) ≡ false))
            [ true ↦ λ h. absurd (omega arith) | false ↦ λ h. (refl, refl) ]
      ]
    ] e

module _ (rises : HashRises) (old low high : Seen) (divided : HasDivided old low high) (some : 1 ≤ old.head.initial)
    (below : old.head.number < old.head.initial * 2 ^ unwrap_or old.head.level 0) where
  low_owns : (c : ℕ) → owns c low ≡ eqb (hash_at old.head.initial (raised_level old.head) c) old.head.number
  low_owns c = ap (λ hd. owns c (record { head = hd; pairs = low.pairs })) divided.low_head

  high_owns : (c : ℕ) →
      owns c high ≡
      eqb (hash_at old.head.initial (raised_level old.head) c)
      (old.head.number + old.head.initial * 2 ^ unwrap_or old.head.level 0)
  high_owns c = λ i. eqb (hash_at (divided.initial i) (unwrap_or (divided.level i) 0) c) (divided.number i)

  -- each code of the bucket belongs to one half
  pub halves_count : (c : ℕ) → bit (owns c low) + bit (owns c high) ≡ bit (owns c old)
  halves_count c =
      let a = ap bit (low_owns c) in
      let b = ap bit (high_owns c) in
      let l : ℕ = unwrap_or old.head.level 0 in
      let p : ℕ = old.head.initial * 2 ^ l in
      let size : 0 < p = omega arith in
      let e =
      split_at (hash_at old.head.initial (l + 1) c) (hash_at old.head.initial l c) old.head.number p (mod-lt c size)
      below (rises old.head.initial l c some) in
      omega arith

  stays_is : (key : List ℕ) → stays old.head key ≡ owns (code_of key) low
  unfolding stays
  stays_is key = sym (low_owns (code_of key))

  -- each half holds what a map has of its keys, where the bucket did
  pub low_mirrors : (m : Records) → Mirrors m old → Mirrors m low
  low_mirrors m held =
      divided.low_content ∙ ap (λ z. retain_keys z (stays old.head)) held ∙ kept_twice m (belongs old) (stays old.head)
      ∙ kept_alike m (λ key. belongs old key && stays old.head key) (belongs low)
      (λ key.
      ap (λ b. belongs old key && b) (stays_is key)
      ∙ (in_half (owns (code_of key) low) (owns (code_of key) high) (owns (code_of key) old)
      (halves_count (code_of key))).0)

  -- the new half holds what the log leaves of its keys
  pub high_mirrors : (m : Records) → Mirrors m old → Mirrors m high
  high_mirrors m held =
      divided.high_content ∙ ap (λ z. retain_keys z (λ key. not (stays old.head key))) held
      ∙ kept_twice m (belongs old) (λ key. not (stays old.head key))
      ∙ kept_alike m (λ key. belongs old key && not (stays old.head key)) (belongs high)
      (λ key.
      ap (λ b. belongs old key && not b) (stays_is key)
      ∙ (in_half (owns (code_of key) low) (owns (code_of key) high) (owns (code_of key) old)
      (halves_count (code_of key))).1)
