-- The replies of a history, one after another
use Rattle.std.proofs.Common.{◌≡◌, ◌∙◌, ℕ, ◌+◌, ◌<◌, List, [], ◌∷◌, ◌++◌, append_assoc, length, take, Some, sym, ap}
use Rattle.std.proofs.Common.{subst, arith}
use Rattle.std.specs.Prelude.{flat_map, slice_get}
use Rattle.std.proofs.lemmas.Grind.{take_at_read}
use Rattle.std.proofs.lemmas.List.{flat_map_more, get_or-map, length-map}
use Rattle.std.proofs.lemmas.List.Concat.{length-flat_map}
use Rattle.std.proofs.lemmas.List.Sums.{sum_by_more_le}
use Rattle.std.proofs.lemmas.Option.{get_or_from_slice_get, slice_get_within}
use Rattle.lh_bucket.specs.declared.call.Reply.{Reply}
use Rattle.lh_settling.specs.Acts.{replies_of}
use Rattle.lh_settling.specs.declared.act.ActLine.{ActLine}
use Rattle.lhash.specs.Driven.{Counts}
use Rattle.lhash.specs.declared.driven.Driven.{Driven}

-- a history has a reply at each place where it has an act
pub replies-within : (acts : List ActLine) (k : ℕ) → k < length acts → k < length (replies_of acts)
replies-within acts k lt = subst (λ (n : ℕ). k < n) (sym (length-map acts (λ act. act.reply))) lt

-- the replies up to the next one
pub replies-more : (acts : List ActLine) (k : ℕ) (act : ActLine) → k < length acts → slice_get acts k ≡ Some act →
    take (k + 1) (replies_of acts) ≡ take k (replies_of acts) ++ act.reply ∷ []
replies-more acts k act lt at =
    let here =
    get_or-map (λ (a : ActLine). a.reply) acts k act act.reply lt
    ∙ ap (λ (a : ActLine). a.reply) (get_or_from_slice_get acts k act act at) in
    (take_at_read (replies_of acts) k act.reply (replies-within acts k lt)).1
    ∙ ap (λ (r : Reply). take k (replies_of acts) ++ r ∷ []) here

-- totals that count some replies, those of a history up to one, and then that one, count those up to the next
pub counts-more : (first : List Reply) (acts : List ActLine) (k : ℕ) (act : ActLine) (d : Driven) → k < length acts →
    slice_get acts k ≡ Some act →
    Counts ((first ++ take k (replies_of acts)) ++ act.reply ∷ []) d →
    Counts (first ++ take (k + 1) (replies_of acts)) d
counts-more first acts k act d lt at h =
    subst (λ (replies : List Reply). Counts replies d)
    (append_assoc first (take k (replies_of acts)) (act.reply ∷ [])
    ∙ ap (λ (l : List Reply). first ++ l) (sym (replies-more acts k act lt at))) h

-- how many replies there are in some histories and the next one
pub replies_within-next : (histories : List (List ActLine)) (k : ℕ) (history : List ActLine) (most : ℕ) →
    slice_get histories k ≡ Some history → length (flat_map replies_of histories) < most →
    length (flat_map replies_of (take k histories)) + length history < most
replies_within-next histories k history most at few =
    let count = λ (h : List ActLine). length (replies_of h) in
    let here = ap count (get_or_from_slice_get histories k history history at) in
    omega (
      arith,
      few,
      here,
      length-map history (λ (act : ActLine). act.reply),
      length-flat_map replies_of histories,
      length-flat_map replies_of (take k histories),
      sum_by_more_le count histories k history (slice_get_within histories k history at),
    )

-- and totals that count those of some histories, and then those of the next one, count those up to the next
pub counts-next : (histories : List (List ActLine)) (k : ℕ) (history : List ActLine) (d : Driven) →
    slice_get histories k ≡ Some history →
    Counts (flat_map replies_of (take k histories) ++ replies_of history) d →
    Counts (flat_map replies_of (take (k + 1) histories)) d
counts-next histories k history d at h =
    let next = (take_at_read histories k history (slice_get_within histories k history at)).1
    ∙ ap (λ (x : List ActLine). take k histories ++ x ∷ []) (get_or_from_slice_get histories k history history at) in
    subst (λ (replies : List Reply). Counts replies d)
    (flat_map_more replies_of [] (take k histories) history ∙ ap (flat_map replies_of) (sym next)) h
