-- Histories one after another are a merge of them.
use Rattle.std.proofs.Common.{zero, suc, ◌≡◌, ℕ, List, [], ◌∷◌, ◌++◌, Some, refl, sym, ap, ◌∙◌, subst}
use Rattle.std.specs.Prelude.{flat_map, replicate, slice_get, slice_set}
use Rattle.std.proofs.lemmas.List.{map-append}
use Rattle.std.proofs.lemmas.Option.{same_Some, none-some}
use Rattle.lh_bucket.specs.declared.call.Reply.{Reply}
use Rattle.lh_settling.specs.Acts.{replies_of}
use Rattle.lh_settling.specs.declared.act.ActLine.{ActLine}
use Rattle.lh_shards.specs.OneMap.{IsMerge}

-- some histories, one after another
abbrev pub joined : List (List ActLine) → List ActLine
joined histories = flat_map (λ (history : List ActLine). history) histories

-- so many histories of no acts
abbrev idle : ℕ → List (List ActLine)
idle n = replicate n []

idle_more : (n : ℕ) (hs : List (List ActLine)) → idle (suc n) ++ hs ≡ idle n ++ [] ∷ hs
idle_more zero hs = refl
idle_more (suc n) hs = ap (λ (l : List (List ActLine)). [] ∷ l) (idle_more n hs)

idle_alone : (n shard : ℕ) (left : List ActLine) → slice_get (idle n ++ []) shard ≡ Some left → left ≡ []
idle_alone zero shard left at = absurd (none-some left at)
idle_alone (suc n) zero left at = sym (same_Some [] left at)
idle_alone (suc n) (suc shard) left at = idle_alone n shard left at

after_idle : (n : ℕ) (h : List ActLine) (hs : List (List ActLine)) → slice_get (idle n ++ h ∷ hs) n ≡ Some h
after_idle zero h hs = refl
after_idle (suc n) h hs = after_idle n h hs

set_after_idle : (n : ℕ) (h rest : List ActLine) (hs : List (List ActLine)) →
    slice_set (idle n ++ h ∷ hs) n rest ≡ idle n ++ rest ∷ hs
set_after_idle zero h rest hs = refl
set_after_idle (suc n) h rest hs = ap (λ (l : List (List ActLine)). [] ∷ l) (set_after_idle n h rest hs)

merge_one : (h : List ActLine) (hs : List (List ActLine)) (n : ℕ) → ((m : ℕ) → IsMerge (idle m ++ hs) (joined hs)) →
    IsMerge (idle n ++ h ∷ hs) (h ++ joined hs)
merge_one [] hs n rest = subst (λ (l : List (List ActLine)). IsMerge l (joined hs)) (idle_more n hs) (rest (suc n))
merge_one (act ∷ h) hs n rest = (
  n,
  h,
  after_idle n (act ∷ h) hs,
  subst (λ (l : List (List ActLine)). IsMerge l (h ++ joined hs)) (sym (set_after_idle n (act ∷ h) h hs))
      (merge_one h hs n rest),
)

merges : (hs : List (List ActLine)) (n : ℕ) → IsMerge (idle n ++ hs) (joined hs)
merges [] n = idle_alone n
merges (h ∷ hs) n = merge_one h hs n (merges hs)

-- histories one after another are a merge of them
pub joined_is_merge : (histories : List (List ActLine)) → IsMerge histories (joined histories)
joined_is_merge histories = merges histories 0

-- the replies of the histories, one after another, are those of the merge
pub replies_joined : (histories : List (List ActLine)) → flat_map replies_of histories ≡ replies_of (joined histories)
replies_joined [] = refl
replies_joined (h ∷ hs) =
    ap (λ (l : List Reply). replies_of h ++ l) (replies_joined hs)
    ∙ sym (map-append (λ (act : ActLine). act.reply) h (joined hs))
