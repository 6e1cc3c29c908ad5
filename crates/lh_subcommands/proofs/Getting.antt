-- What is made of things one after another, up to the first error; and how a run of `get` ends by that
use Rattle.std.proofs.Common.{◌≡◌, ◌∙◌, ℕ, zero, suc, ◌+◌, ◌<◌, ◌≤◌, List, [], ◌∷◌, ◌++◌, length, map, drop, get_or}
use Rattle.std.proofs.Common.{◌⊎◌, Bool, true, false, inl, inr, Option, None, Some, IfSome, refl, sym, ap, subst, arith}
use Rattle.std.proofs.Common.{append_assoc, append-nil}
use Rattle.std.specs.Prelude.{Result, Ok, Err}
use Rattle.std.specs.Io.KnownBytes.{Appends}
use Rattle.std.proofs.KnownBytes.{Keeps-refl}
use Rattle.lh_bucket.specs.declared.call.Reply.{Reply}
use Rattle.lh_image.specs.declared.fault.ImageFault.{ImageFault}
use Rattle.lh_script.specs.declared.notation.Notation.{Notation}
use Rattle.lh_image.specs.declared.fault.ImageFault.TheVariants.{ReadFault, Memory as NoMemory}
use Rattle.lh_subcommands.specs.Get.{EndsFound, EndsGetting, EndsGettingOf, IsRefusedFor, each_in_turn, found_of}
use Rattle.lh_subcommands.specs.Get.{found_text, has_absent, keys_of, placed_from, told_by, with_first}
use Rattle.lh_subcommands.specs.Images.{refused_as}
use Rattle.lh_subcommands.specs.declared.get.NoKey.{NoKey}
use Rattle.lh_subcommands.specs.declared.status.Status.{Status}
use Rattle.lh_subcommands.specs.declared.status.Status.TheVariants.{Memory}

-- what was made stands before what is made of the rest
abbrev pub before : {B E : Type 0} → List B → Result (List B) E → Result (List B) E
before made (Ok rest) = Ok (made ++ rest)
before made (Err e) = Err e

before-more : {B E : Type 0} (made : List B) (y : B) (r : Result (List B) E) →
    before made (with_first (Ok y) r) ≡ before (made ++ y ∷ []) r
before-more made y (Ok ys) = ap (λ zs. Ok zs) (sym (append_assoc made (y ∷ []) ys))
before-more made y (Err e) = refl

-- this was made of the first i of some things, without an error
abbrev pub AreMade : {A B E : Type 0} → (A → Result B E) → List A → ℕ → List B → Type 0
AreMade f xs i made = each_in_turn f xs ≡ before made (each_in_turn f (drop i xs))

-- of one more
pub made-more : {A B E : Type 0} (f : A → Result B E) (xs : List A) (i : ℕ) (made : List B) (x : A) (y : B) →
    AreMade f xs i made → drop i xs ≡ x ∷ drop (suc i) xs → f x ≡ Ok y → AreMade f xs (suc i) (made ++ y ∷ [])
unfolding each_in_turn
made-more f xs i made x y h at is =
    h ∙ ap (λ rest. before made (each_in_turn f rest)) at
    ∙ ap (λ r. before made (with_first r (each_in_turn f (drop (suc i) xs)))) is
    ∙ before-more made y (each_in_turn f (drop (suc i) xs))

-- of all
pub made-all : {A B E : Type 0} (f : A → Result B E) (xs : List A) (i : ℕ) (made : List B) →
    AreMade f xs i made → drop i xs ≡ [] → each_in_turn f xs ≡ Ok made
unfolding each_in_turn
made-all f xs i made h end =
    h ∙ ap (λ rest. before made (each_in_turn f rest)) end ∙ ap (λ ys. Ok ys) (append-nil made)

-- but the next has an error
pub made-error : {A B E : Type 0} (f : A → Result B E) (xs : List A) (i : ℕ) (made : List B) (x : A) (e : E) →
    AreMade f xs i made → drop i xs ≡ x ∷ drop (suc i) xs → f x ≡ Err e → each_in_turn f xs ≡ Err e
unfolding each_in_turn
made-error f xs i made x e h at is =
    h ∙ ap (λ rest. before made (each_in_turn f rest)) at
    ∙ ap (λ r. before made (with_first r (each_in_turn f (drop (suc i) xs)))) is

-- what stands at a place, and what behind it
pub from-place : {A : Type 0} (xs : List A) (i : ℕ) (x : A) → i < length xs → x ≡ get_or xs i x →
    drop i xs ≡ x ∷ drop (suc i) xs
from-place [] i x h is = absurd (omega arith)
from-place (y ∷ ys) zero x h is = ap (λ z. z ∷ ys) (sym is)
from-place (y ∷ ys) (suc i) x h is = from-place ys i x (omega arith) is

pub from-end : {A : Type 0} (xs : List A) (i : ℕ) → length xs ≤ i → drop i xs ≡ []
from-end [] zero h = refl
from-end [] (suc i) h = refl
from-end (x ∷ xs) zero h = absurd (omega arith)
from-end (x ∷ xs) (suc i) h = from-end xs i (omega arith)

-- the same of texts by their places
pub placed-at : {A : Type 0} (text : A → List ℕ) (xs : List A) (n i : ℕ) (x : A) → i < length xs →
    x ≡ get_or xs i x →
    drop i (placed_from n (map text xs)) ≡ (n + i, text x) ∷ drop (suc i) (placed_from n (map text xs))
unfolding placed_from
placed-at text [] n i x h is = absurd (omega arith)
placed-at text (y ∷ ys) n zero x h is =
    let same : n ≡ n + 0 = omega arith in
    ap (λ z. (n, text z) ∷ placed_from (suc n) (map text ys)) (sym is)
    ∙ ap (λ k. (k, text x) ∷ placed_from (suc n) (map text ys)) same
placed-at text (y ∷ ys) n (suc i) x h is =
    let next : suc n + i ≡ n + suc i = omega arith in
    placed-at text ys (suc n) i x (omega arith) is
    ∙ ap (λ k. (k, text x) ∷ drop (suc i) (placed_from (suc n) (map text ys))) next

pub placed-end : {A : Type 0} (text : A → List ℕ) (xs : List A) (n i : ℕ) → length xs ≤ i →
    drop i (placed_from n (map text xs)) ≡ []
unfolding placed_from
placed-end text [] n zero h = refl
placed-end text [] n (suc i) h = refl
placed-end text (x ∷ xs) n zero h = absurd (omega arith)
placed-end text (x ∷ xs) n (suc i) h = placed-end text xs (suc n) i (omega arith)

-- ---- how a run ends

-- a run that wrote all lines is done, or says that a key is absent
pub told_all : (n : Notation) (replies : List Reply) (status : Status) (before now : Option (List ℕ)) →
    status ≡ told_by (has_absent replies) → Appends before now (found_text n replies) →
    EndsFound n status (Ok replies) before now
told_all n replies status before now is h = go (has_absent replies) refl
  where
    go : (b : Bool) → has_absent replies ≡ b → EndsFound n status (Ok replies) before now
    go true e =
        subst (λ (s : Status). EndsFound n s (Ok replies) before now) (sym (is ∙ ap told_by e)) (e, h)
    go false e =
        subst (λ (s : Status). EndsFound n s (Ok replies) before now) (sym (is ∙ ap told_by e)) (e, h)

-- what is found in the bytes that were read is found in the input
pub found_read : (n : Notation) (status : Status) (found : Result (List Reply) ImageFault) (bytes : List ℕ)
    (keys : List (List ℕ)) (left before now : Option (List ℕ)) →
    IfSome left (λ input. input ≡ bytes) → found_of bytes keys ≡ found → EndsFound n status found before now →
    IfSome left (λ input. EndsFound n status (found_of input keys) before now)
found_read n status found bytes keys None before now read is ends = tt
found_read n status found bytes keys (Some input) before now read is ends =
    subst (λ (r : Result (List Reply) ImageFault). EndsFound n status r before now)
    (sym (ap (λ b. found_of b keys) read ∙ is)) ends

-- an input in which a look-up meets a fault ends the run by it, with nothing written
pub unfound : (n : Notation) (fault : ImageFault) (found : Result (List Reply) ImageFault) (a : Option (List ℕ)) →
    (fault ≡ NoMemory) ⊎ (found ≡ Err fault) → EndsFound n (refused_as fault) found a a
unfound n fault found a (inl is) =
    subst (λ (f : ImageFault). EndsFound n (refused_as f) found a a) (sym is) (Keeps-refl a)
unfound n ReadFault found a (inr is) = Keeps-refl a
unfound n NoMemory found a (inr is) = Keeps-refl a
unfound n fault found a (inr is) = (is, Keeps-refl a)

pub unfound_read : (n : Notation) (fault : ImageFault) (status : Status) (bytes : List ℕ) (keys : List (List ℕ))
    (left a : Option (List ℕ)) →
    IfSome left (λ input. input ≡ bytes) → status ≡ refused_as fault →
    (fault ≡ NoMemory) ⊎ (found_of bytes keys ≡ Err fault) →
    IfSome left (λ input. EndsFound n status (found_of input keys) a a)
unfound_read n fault status bytes keys left a read is said =
    found_read n status (found_of bytes keys) bytes keys left a a read refl
    (subst (λ (s : Status). EndsFound n s (found_of bytes keys) a a) (sym is)
    (unfound n fault (found_of bytes keys) a said))

-- a run that is out of memory ends without a write
out_of_memory : (n : Notation) (given : Result (List (List ℕ)) NoKey) (left a : Option (List ℕ)) →
    EndsGettingOf n given Memory left left a a
out_of_memory n (Ok keys) None a = tt
out_of_memory n (Ok keys) (Some input) a = Keeps-refl a
out_of_memory n (Err wrong) left a = (tt, Keeps-refl left, Keeps-refl a)

-- a run that has no keys ends without a read
pub without_keys : (n : Notation) (words : List (List ℕ)) (status : Status) (left a : Option (List ℕ)) →
    (status ≡ Memory) ⊎ ((wrong : NoKey) × (keys_of n words ≡ Err wrong) × IsRefusedFor wrong status) →
    EndsGetting n words status left left a a
unfolding EndsGetting
without_keys n words status left a (inl is) =
    subst (λ (s : Status). EndsGettingOf n (keys_of n words) s left left a a) (sym is)
    (out_of_memory n (keys_of n words) left a)
without_keys n words status left a (inr said) =
    subst (λ (r : Result (List (List ℕ)) NoKey). EndsGettingOf n r status left left a a) (sym said.1)
    (said.2, Keeps-refl left, Keeps-refl a)

-- a run that has keys ends by what they lead to
pub with_keys : (n : Notation) (words keys : List (List ℕ)) (status : Status) (left rest before now : Option (List ℕ)) →
    keys_of n words ≡ Ok keys → IfSome left (λ input. EndsFound n status (found_of input keys) before now) →
    EndsGetting n words status left rest before now
unfolding EndsGetting
with_keys n words keys status left rest before now is ends =
    subst (λ (r : Result (List (List ℕ)) NoKey). EndsGettingOf n r status left rest before now) (sym is) ends
