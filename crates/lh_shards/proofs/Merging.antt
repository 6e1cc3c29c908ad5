-- Every merge of the shards' histories is a history of the whole map
use Rattle.std.proofs.Common.{◌≡◌, ◌≢◌, ℕ, ◌<◌, false, eqb, List, [], ◌∷◌, length, set, Some, refl, sym, ap, ◌∙◌, subst}
use Rattle.std.proofs.Common.{⊎_elim}
use borrow.Author.Tests.{eq-eqb}
use lib.ListN.{length-set}
use Rattle.std.specs.List.{slice_get}
use Rattle.std.proofs.lemmas.Bool.Decides.{eqb_tells}
use Rattle.std.proofs.lemmas.List.Elements.{All-head, All-tail}
use Rattle.std.proofs.lemmas.Option.{same_Some, slice_get_within}
use Rattle.lh_bucket.specs.PlainMap.{Records, reply, replies, after, outcome, key_of}
use Rattle.lh_bucket.specs.declared.call.Reply.{Reply}
use Rattle.lh_settling.specs.Acts.{calls_of, replies_of}
use Rattle.lh_settling.specs.declared.act.ActLine.{ActLine}
use Rattle.lh_shards.specs.Hands.{AreAtHome}
use Rattle.lh_shards.specs.Number.{home_of}
use Rattle.lh_shards.specs.OneMap.{IsPart, IsLegalFrom, IsMerge, OneMapLaw}
use Rattle.lh_shards.proofs.Places.{there, set_tells, set_same, set_other}
use Rattle.lh_shards.proofs.Parts.{reply_here, after_here, after_elsewhere}

head_of : (a b : Reply) (xs ys : List Reply) → a ∷ xs ≡ b ∷ ys → a ≡ b
head_of a b xs ys e = cc

tail_of : (a b : Reply) (xs ys : List Reply) → a ∷ xs ≡ b ∷ ys → xs ≡ ys
tail_of a b xs ys e = cc

not_here : (a b : ℕ) → a ≢ b → eqb a b ≡ false
not_here a b ne = ⊎_elim (λ e. absurd (ne e.1)) (λ e. e.0) (eqb_tells a b)

abbrev Parts : ℕ → Records → List Records → Type 0
Parts n whole parts = (shard : ℕ) (part : Records) → slice_get parts shard ≡ Some part → IsPart n shard whole part

abbrev Home : ℕ → List (List ActLine) → Type 0
Home n histories =
    (shard : ℕ) (history : List ActLine) → slice_get histories shard ≡ Some history → AreAtHome n shard history

abbrev Legal : List Records → List (List ActLine) → Type 0
Legal parts histories =
    (shard : ℕ) (part : Records) (history : List ActLine) → slice_get parts shard ≡ Some part →
    slice_get histories shard ≡ Some history → IsLegalFrom part history

abbrev Left : ℕ → Records → List Records → List (List ActLine) → Type 0
Left n left parts histories =
    (shard : ℕ) (part : Records) (history : List ActLine) → slice_get parts shard ≡ Some part →
    slice_get histories shard ≡ Some history → IsPart n shard left (outcome part (calls_of history))

module _ (n : ℕ) where
  parts_next : (whole : Records) (parts : List Records) (s : ℕ) (part : Records) (act : ActLine) →
      slice_get parts s ≡ Some part → home_of n (key_of act.call) ≡ s → Parts n whole parts →
      Parts n (after whole act.call) (set parts s (after part act.call))
  parts_next whole parts s part act at key are j p h =
      ⊎_elim
      (λ e.
      subst (λ k. IsPart n k (after whole act.call) p) (sym e.0)
      (subst (λ (x : Records). IsPart n s (after whole act.call) x) (sym e.1)
      (after_here (λ k. eqb (home_of n k) s) whole part (are s part at) act.call (eq-eqb _ _ key))))
      (λ e.
      after_elsewhere (λ k. eqb (home_of n k) j) whole p (are j p e.1) act.call
      (not_here _ _ (λ is. e.0 (sym is ∙ key))))
      (set_tells parts s (after part act.call) j p h)

  home_next : (histories : List (List ActLine)) (s : ℕ) (act : ActLine) (rest : List ActLine) →
      slice_get histories s ≡ Some (act ∷ rest) → Home n histories → Home n (set histories s rest)
  home_next histories s act rest at are j l h =
      ⊎_elim
      (λ e.
      subst (λ k. AreAtHome n k l) (sym e.0)
      (subst (λ (x : List ActLine). AreAtHome n s x) (sym e.1)
      (All-tail (λ (a : ActLine). home_of n (key_of a.call) ≡ s) act rest (are s (act ∷ rest) at))))
      (λ e. are j l e.1)
      (set_tells histories s rest j l h)

  legal_next : (parts : List Records) (histories : List (List ActLine)) (s : ℕ) (part : Records) (act : ActLine)
      (rest : List ActLine) → slice_get parts s ≡ Some part → slice_get histories s ≡ Some (act ∷ rest) →
      Legal parts histories → Legal (set parts s (after part act.call)) (set histories s rest)
  legal_next parts histories s part act rest at has are j p l hp hl =
      ⊎_elim
      (λ e. ⊎_elim
      (λ d.
      subst (λ (x : Records). IsLegalFrom x l) (sym e.1)
      (subst (λ (y : List ActLine). IsLegalFrom (after part act.call) y) (sym d.1)
      (tail_of act.reply (reply part act.call) (replies_of rest) (replies (after part act.call) (calls_of rest))
      (are s part (act ∷ rest) at has))))
      (λ d. absurd (d.0 e.0))
      (set_tells histories s rest j l hl))
      (λ e. ⊎_elim (λ d. absurd (e.0 d.0)) (λ d. are j p l e.1 d.1) (set_tells histories s rest j l hl))
      (set_tells parts s (after part act.call) j p hp)

  left_before : (left : Records) (parts : List Records) (histories : List (List ActLine)) (s : ℕ) (part : Records)
      (act : ActLine) (rest : List ActLine) → slice_get parts s ≡ Some part →
      slice_get histories s ≡ Some (act ∷ rest) →
      Left n left (set parts s (after part act.call)) (set histories s rest) → Left n left parts histories
  left_before left parts histories s part act rest at has are j p l hp hl =
      ⊎_elim
      (λ e.
      let same_part : part ≡ p = same_Some part p (sym at ∙ subst (λ k. slice_get parts k ≡ Some p) e.1 hp) in
      let same_list : act ∷ rest ≡ l =
      same_Some (act ∷ rest) l (sym has ∙ subst (λ k. slice_get histories k ≡ Some l) e.1 hl) in
      subst (λ k. IsPart n k left (outcome p (calls_of l))) (sym e.1)
      (subst (λ (x : Records). IsPart n s left (outcome x (calls_of l))) same_part
      (subst (λ (y : List ActLine). IsPart n s left (outcome part (calls_of y))) same_list
      (are s (after part act.call) rest (set_same parts s (after part act.call) part at)
      (set_same histories s rest (act ∷ rest) has)))))
      (λ e. are j p l (set_other parts s (after part act.call) j e.1 ∙ hp) (set_other histories s rest j e.1 ∙ hl))
      (eqb_tells j s)

  one_map : (merged : List ActLine) (whole : Records) (parts : List Records) (histories : List (List ActLine)) →
      length histories ≡ length parts → Parts n whole parts → Home n histories → Legal parts histories →
      IsMerge histories merged → IsLegalFrom whole merged × Left n (outcome whole (calls_of merged)) parts histories
  one_map [] whole parts histories many are home legal merge = (
    refl,
    λ j p l hp hl.
        subst (λ (y : List ActLine). IsPart n j whole (outcome p (calls_of y))) (sym (merge j l hl)) (are j p hp),
  )
  one_map (act ∷ merged) whole parts histories many are home legal (s, rest, has, more) =
      let lt : s < length parts = subst (λ k. s < k) many (slice_get_within histories s (act ∷ rest) has) in
      let found : (part : Records) × (slice_get parts s ≡ Some part) = there parts s lt in
      let part : Records = found.0 in
      let at : slice_get parts s ≡ Some part = found.1 in
      let key : home_of n (key_of act.call) ≡ s =
      All-head (λ (a : ActLine). home_of n (key_of a.call) ≡ s) act rest (home s (act ∷ rest) has) in
      let next = one_map merged (after whole act.call) (set parts s (after part act.call)) (set histories s rest)
      (length-set histories s rest ∙ many ∙ sym (length-set parts s (after part act.call)))
      (parts_next whole parts s part act at key are) (home_next histories s act rest has home)
      (legal_next parts histories s part act rest at has legal) more in
      let was : act.reply ≡ reply part act.call =
      head_of act.reply (reply part act.call) (replies_of rest) (replies (after part act.call) (calls_of rest))
      (legal s part (act ∷ rest) at has) in
      let same : reply part act.call ≡ reply whole act.call =
      reply_here (λ k. eqb (home_of n k) s) whole part (are s part at) act.call (eq-eqb _ _ key) in
      let first : act.reply ≡ reply whole act.call = was ∙ same in (
        ap (λ r. r ∷ replies_of merged) first
            ∙ ap (λ l. reply whole act.call ∷ l) next.0,
        left_before (outcome (after whole act.call) (calls_of merged)) parts histories s part act rest at has
            next.1,
      )

-- every merge of the shards' legal histories is legal from the whole map, and leaves what they leave as its parts
pub one_map_law : OneMapLaw
one_map_law whole parts histories merged many are home legal merge =
    one_map (length parts) merged whole parts histories many are home legal merge
