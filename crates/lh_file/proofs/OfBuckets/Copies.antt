-- Records copied one after another
use Rattle.std.proofs.Common.{◌≡◌, ℕ, ◌+◌, ◌<◌, List, [], ◌∷◌, ◌++◌, length, take, Some, slice_get, sym, ap, ◌∙◌}
use Rattle.std.proofs.lemmas.Grind.{take_at_read}
use Rattle.std.proofs.lemmas.Option.{get_or_from_slice_get}
use Rattle.lh_page.specs.declared.pair.Pair.{Pair}

-- one record more is copied
pub copied_more : {copied more : List Pair} (pairs : List Pair) (i : ℕ) (p : Pair) → i < length pairs →
    slice_get pairs i ≡ Some p
    → copied ≡ take i pairs → more ≡ copied ++ p ∷ [] → more ≡ take (i + 1) pairs
copied_more pairs i p below at before now =
    now ∙ ap (λ ps. ps ++ p ∷ []) before
    ∙ ap (λ x. take i pairs ++ x ∷ []) (sym (get_or_from_slice_get pairs i p p at))
    ∙ sym (take_at_read pairs i p below).1
