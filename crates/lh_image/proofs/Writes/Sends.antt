-- Texts that a writer takes one behind another.
use Rattle.std.proofs.Common.{◌≡◌, ℕ, zero, suc, ◌+◌, ◌-◌, List, [], ◌∷◌, ◌++◌, length, take, drop, Option, None, Some}
use Rattle.std.proofs.Common.{Result, Ok, Err, sym, ap, subst, ◌∙◌, append-nil, append_assoc, take-append-drop, arith}
use Rattle.std.proofs.KnownBytes.{Appends-trans, Appends-kept}
use Rattle.std.proofs.lemmas.Grind.{common_steps}
use Rattle.std.specs.Io.KnownBytes.{Appends, Keeps}
use Rattle.lh_image.specs.Writing.{TakesBeginning, IsSent}

take_split : (i n : ℕ) (xs : List ℕ) → take i xs ++ take n (drop i xs) ≡ take (i + n) xs
take_split zero n xs = let e : n ≡ 0 + n = omega arith in ap (λ m. take m xs) e
take_split (suc i) n [] = grind (arith, common_steps)
take_split (suc i) n (x ∷ xs) =
    let e : suc (i + n) ≡ suc i + n = omega arith in ap (λ ys. x ∷ ys) (take_split i n xs) ∙ ap (λ m. take m (x ∷ xs)) e

part_from : (n : ℕ) (xs : List ℕ) → take (length xs - n) (drop n xs) ≡ drop n xs
part_from n xs = grind (arith, common_steps)

-- a write of what is left of a text makes the beginning that was taken longer by as much as it took
pub writes_more : (a b c : Option (List ℕ)) (xs : List ℕ) (i n : ℕ) → Appends a b (take i xs) →
    Appends b c (take n (take (length xs - i) (drop i xs))) → Appends a c (take (i + n) xs)
writes_more a b c xs i n h k =
    subst (Appends a c) (ap (λ ys. take i xs ++ take n ys) (part_from i xs) ∙ take_split i n xs)
    (Appends-trans a b c (take i xs) (take n (take (length xs - i) (drop i xs))) h k)

-- what was taken so far is a beginning, where a write failed
pub takes_beginning : (a b c : Option (List ℕ)) (xs : List ℕ) (i : ℕ) → Appends a b (take i xs) → Keeps b c →
    TakesBeginning a c xs
takes_beginning a b c xs i h k = record {
  taken = take i xs;
  left = drop i xs;
  appended = Appends-kept a b c (take i xs) h k;
  whole = take-append-drop i xs;
}

-- a write that took no byte changed nothing
pub keeps_none : (a b : Option (List ℕ)) (xs : List ℕ) (n : ℕ) → Appends a b (take n xs) → n ≡ 0 → Keeps a b
keeps_none None b xs n h e = tt
keeps_none (Some x) None xs n h e = absurd h
keeps_none (Some x) (Some y) xs n h e = h ∙ rw e (append-nil x)

-- a text taken, and then the beginning of another one
pub takes_after : (a b c : Option (List ℕ)) (xs ys : List ℕ) → Appends a b xs → TakesBeginning b c ys →
    TakesBeginning a c (xs ++ ys)
takes_after a b c xs ys h t = record {
  taken = xs ++ t.taken;
  left = t.left;
  appended = Appends-trans a b c xs t.taken h t.appended;
  whole = append_assoc xs t.taken t.left ∙ ap (λ zs. xs ++ zs) t.whole;
}

-- a beginning of a text is one of a longer text
pub takes_longer : (a b : Option (List ℕ)) (xs ys : List ℕ) → TakesBeginning a b xs → TakesBeginning a b (xs ++ ys)
takes_longer a b xs ys t = record {
  taken = t.taken;
  left = t.left ++ ys;
  appended = t.appended;
  whole = sym (append_assoc t.taken t.left ys) ∙ ap (λ zs. zs ++ ys) t.whole;
}

-- a text taken, and then another one sent
pub sent_after : {E : Type 0} (a b c : Option (List ℕ)) (xs ys : List ℕ) (r : Result (Unit {0}) E) → Appends a b xs →
    IsSent ys r b c → IsSent (xs ++ ys) r a c
sent_after a b c xs ys (Ok done) h s = Appends-trans a b c xs ys h s
sent_after a b c xs ys (Err e) h s = takes_after a b c xs ys h s
