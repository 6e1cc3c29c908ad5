-- The operands of a verb, by the number of the words behind it.
use Rattle.std.proofs.Common.{◌≡◌, ◌≢◌, ℕ, List, [], ◌∷◌, length, refl}
use Rattle.std.specs.Prelude.{Result, Err}
use Rattle.lh_script.specs.Calls.{then_key, then_pair, with_key, with_pair}
use Rattle.lh_script.specs.declared.fault.LineFault.{LineFault}
use Rattle.lh_script.specs.declared.fault.LineFault.TheVariants.{WordCount}
use Rattle.lh_script.specs.declared.notation.Notation.{Notation}

-- where not just one word is behind a verb of a key, the number of words is wrong
pub not_one : {A : Type 0} (n : Notation) (before : Result A LineFault) (ws : List (List ℕ)) → length ws ≢ 1 →
    with_key n before ws ≡ Err WordCount
unfolding with_key
not_one n before [] h = refl
not_one n before (k ∷ []) h = absurd (h refl)
not_one n before (k ∷ l ∷ ws) h = refl

-- where just one is, it is read as the key, after what stands before the verb
pub one_key : {A : Type 0} (n : Notation) (before : Result A LineFault) (ws : List (List ℕ)) (k : List ℕ) →
    ws ≡ k ∷ [] →
    with_key n before ws ≡ then_key n before k
unfolding with_key
one_key n before ws k e = rw e refl

-- where not just two words are behind a verb of a key and a value, the number of words is wrong
pub not_two : {A : Type 0} (n : Notation) (before : Result A LineFault) (ws : List (List ℕ)) → length ws ≢ 2 →
    with_pair n before ws ≡ Err WordCount
unfolding with_pair
not_two n before [] h = refl
not_two n before (k ∷ []) h = refl
not_two n before (k ∷ v ∷ []) h = absurd (h refl)
not_two n before (k ∷ v ∷ l ∷ ws) h = refl

-- where just two are, they are read as the key and the value, after what stands before the verb
pub two_words : {A : Type 0} (n : Notation) (before : Result A LineFault) (ws : List (List ℕ)) (k v : List ℕ) →
    ws ≡ k ∷ v ∷ [] →
    with_pair n before ws ≡ then_pair n before k v
unfolding with_pair
two_words n before ws k v e = rw e refl
