-- Chains of pages without a fault: their records, and the least of them that has a misfit
use Rattle.std.proofs.Common.{◌≡◌, ℕ, ◌+◌, ◌<◌, ◌≤◌, Bool, true, false, ◌||◌, eqb, List, [], ◌∷◌, ◌++◌, Option, Some}
use Rattle.std.proofs.Common.{None, refl, sym, ap, ◌∙◌, arith}
use Rattle.std.specs.Prelude.{option_map}
use Rattle.std.specs.List.{range_with_len, find, list_any, flat_map}
use Rattle.std.specs.Option.{is_some}
use Rattle.std.proofs.lemmas.Bool.{or_left, or_right, eq-eqb}
use Rattle.std.proofs.lemmas.List.Concat.{flat_map-cons}
use Rattle.std.proofs.lemmas.List.Folds.{list_any-append}
use Rattle.lh_page.specs.declared.pair.Pair.{Pair}
use Rattle.lh_image.specs.declared.fault.ImageFault.TheVariants.{Next, Twice, Never, Slot}
use Rattle.lh_image.specs.declared.judge.page_checks.PageFaults.{PageFaults}
use Rattle.lh_image.specs.declared.table.PageEntry.{PageEntry}
use Rattle.lh_image.specs.Chains.{stands_in, IsCovered}
use Rattle.lh_image.specs.Faults.{bad_next, named_twice, on_no_chain, has_bad_slot, link_rows, first_fault_of}
use Rattle.lh_image.specs.Listed.{IsViewKept}
use Rattle.lh_image.specs.Misplaced.{IsLeastAmong}
use Rattle.lh_image.specs.PageChecks.{noted_rows}
use Rattle.lh_image.specs.Table.{page_records}
use Rattle.lh_image.specs.View.{View, bucket, next, buckets, page_count, record_count, links, chain_of}
use Rattle.lh_image.proofs.Faults.FirstAnswers.{none_first}
use Rattle.lh_image.proofs.Judging.Judging.{heads_fine, plain, slots_are}
use Rattle.lh_image.proofs.Paths.Linking.{Clean, linked_from_clean, on_from_clean}
use Rattle.lh_image.proofs.Faults.Ranges.{none_found, found_least}
use Rattle.lh_image.proofs.Faults.Sound.{row_clean}
use Rattle.lh_image.proofs.Paths.Walks.{covered_chains}

-- what is known behind the slots, where nothing was at fault
pub record AreFine (v : View) (entries : List PageEntry) (pairs : List Pair) (faults : PageFaults) : Type 0 where
  pub some : buckets v < page_count v
  pub kept : IsViewKept v entries pairs faults
  pub heads : None ≡ first_fault_of (noted_rows faults (record_count v))
  pub linked : first_fault_of (link_rows (links v)) ≡ None
  pub slots : None ≡ option_map Slot faults.slot

none_of : (o : Option ℕ) → is_some o ≡ false → o ≡ None
none_of None e = refl
none_of (Some i) e = absurd cc

module _ (v : View) (entries : List PageEntry) (pairs : List Pair) (faults : PageFaults)
    (fine : AreFine v entries pairs faults) where
  -- where nothing was at fault, the chains are paths, and each page stands on that of its bucket
  pub covered : IsCovered (next v) (bucket v) (buckets v) (page_count v) (chain_of v)
  covered =
      let rows = (none_first (link_rows (links v))).0 fine.linked in
      covered_chains (next v) (bucket v) (buckets v) (page_count v) fine.kept.view.none fine.some
      (linked_from_clean v fine.some
      (λ p low high. (heads_fine v entries pairs faults fine.some fine.kept fine.heads p low high).1)
      ((row_clean (page_count v) (bad_next (links v)) Next).0 rows.0)
      ((row_clean (page_count v) (named_twice (links v)) Twice).0 rows.1.0))
      (on_from_clean v ((row_clean (page_count v) (on_no_chain (links v)) Never).0 rows.1.1.0))

  -- the records that were kept of a page are those that the View shows
  pub records_same : (p : ℕ) → 1 ≤ p → p < page_count v → page_records entries pairs p ≡ v.records p
  records_same p low high =
      let slots : Clean (page_count v) (has_bad_slot v) =
      (row_clean (page_count v) (has_bad_slot v) Slot).0
      (sym (fine.slots ∙ ap (option_map Slot) (slots_are v entries pairs faults fine.some fine.kept fine.heads))) in
      fine.kept.records p low high (plain v entries pairs faults fine.some fine.kept fine.heads p low high)
      (none_of (v.bad_slot p) (slots p low high))

-- records that are the same page by page are the same along a list of pages
pub flat_same : (f g : ℕ → List Pair) (xs : List ℕ) → ((p : ℕ) → stands_in xs p ≡ true → f p ≡ g p) →
    flat_map f xs ≡ flat_map g xs
unfolding stands_in
flat_same f g [] same = refl
flat_same f g (x ∷ xs) same =
    let here : f x ≡ g x = same x (or_left (eqb x x) (list_any (λ q. eqb q x) xs) (eq-eqb x x refl)) in
    let rest : flat_map f xs ≡ flat_map g xs =
    flat_same f g xs (λ p h. same p (or_right (eqb x p) (list_any (λ q. eqb q p) xs) h)) in
    flat_map-cons f x xs ∙ ap (λ ys. ys ++ flat_map f xs) here ∙ ap (λ ys. g x ++ ys) rest ∙ sym (flat_map-cons g x xs)

-- the records that were kept along a chain are those that the View shows
pub chain_records_same : (v : View) (entries : List PageEntry) (pairs : List Pair) (faults : PageFaults) →
    AreFine v entries pairs faults → (i : ℕ) → i < buckets v →
    flat_map (page_records entries pairs) (chain_of v i) ≡ flat_map v.records (chain_of v i)
chain_records_same v entries pairs faults fine i less =
    let cover = covered v entries pairs faults fine in
    flat_same (page_records entries pairs) v.records (chain_of v i)
    (λ p here. let own = cover.own i p less here in records_same v entries pairs faults fine p own.0 own.1)

-- ---- the least

-- of a list that has all pages and nothing else, the least that fails a test is the one that a search finds
pub least_is : (bad : ℕ → Bool) (pages : List ℕ) (n : ℕ) (r : Option ℕ) →
    ((p : ℕ) → stands_in pages p ≡ true → (1 ≤ p) × (p < 1 + n)) →
    ((p : ℕ) → 1 ≤ p → p < 1 + n → stands_in pages p ≡ true) → IsLeastAmong bad pages r →
    find bad (range_with_len 1 n) ≡ r
least_is bad pages n None within all least_one = none_found bad 1 n (λ p low high. least_one p (all p low high))
least_is bad pages n (Some m) within all least_one =
    let at = within m least_one.0 in
    (found_least bad 1 n m).1
    (at.0, at.1, least_one.1, λ q low less. least_one.2 q (all q low (omega (arith, at.1))) less)

-- a page stands in joined lists exactly where it stands in one of them
pub stands_flat : {X : Type 0} (f : X → List ℕ) (xs : List X) (p : ℕ) →
    stands_in (flat_map f xs) p ≡ list_any (λ x. stands_in (f x) p) xs
unfolding stands_in
stands_flat f [] p = refl
stands_flat f (x ∷ xs) p =
    ap (list_any (λ q. eqb q p)) (flat_map-cons f x xs) ∙ list_any-append (λ q. eqb q p) (f x) (flat_map f xs)
    ∙ ap (λ (b : Bool). list_any (λ q. eqb q p) (f x) || b) (stands_flat f xs p)
