-- The last answers: the least page with a misfit, and the listing
use Rattle.std.proofs.Common.{◌≡◌, ℕ, zero, suc, ◌+◌, ◌-◌, ◌<◌, ◌≤◌, Bool, true, eqb, List, [], ◌∷◌, ◌++◌, length, map}
use Rattle.std.proofs.Common.{take, drop, get_or, Vec, Global, Option, Some, None, Ok, Err, refl, sym, ap, subst, ◌∙◌}
use Rattle.std.proofs.Common.{arith}
use Rattle.std.specs.Prelude.{option_map}
use Rattle.std.specs.List.{range_with_len, list_any, flat_map, before_first}
use Rattle.std.proofs.lemmas.Bool.{or_left}
use Rattle.std.proofs.lemmas.List.{take-append-drop, drop_more, length-map}
use Rattle.std.proofs.lemmas.List.Folds.{list_any-append}
use Rattle.std.proofs.lemmas.List.FromFn.{get_or-map-range_with_len, length-map-range_with_len}
use Rattle.lh_addr.specs.Extent.{Extent}
use Rattle.lh_page.specs.declared.pair.Pair.{Pair}
use Rattle.lh_page.specs.Records.{keys_of}
use Rattle.lh_image.specs.declared.fault.ImageFault.TheVariants.{Misfit}
use Rattle.lh_image.specs.declared.judge.page_checks.PageFaults.{PageFaults}
use Rattle.lh_image.specs.declared.table.PageEntry.{PageEntry}
use Rattle.lh_image.specs.Chains.{stands_in, IsPath}
use Rattle.lh_image.specs.Faults.{has_misfit, least, misfits, is_at_home, keys_before, page_fault}
use Rattle.lh_image.specs.Image.{listing_of}
use Rattle.lh_image.specs.Misplaced.{IsLeastAmong, IsTestOf, is_home}
use Rattle.lh_image.specs.Reading.{judged, judged_by}
use Rattle.lh_image.specs.Table.{page_records}
use Rattle.lh_image.specs.View.{View, initial, buckets, page_count, numbers, bucket, next, links, chain_of}
use Rattle.lh_image.proofs.Judging.Judging.{judged_as, misfits_last}
use Rattle.lh_image.proofs.Judging.Last.{AreFine, covered, records_same, flat_same, chain_records_same, least_is}
use Rattle.lh_image.proofs.Judging.Last.{stands_flat}
use Rattle.lh_image.proofs.Judging.LinkFaults.{on_chains}
use Rattle.lh_image.proofs.Faults.Misfits.{not_before, before_is}
use Rattle.lh_image.proofs.Faults.Ranges.{any_of, any_from}
use Rattle.lh_image.proofs.Paths.ShortPaths.{stands_at}

stands_front : (k q : ℕ) (xs : List ℕ) → stands_in (take k xs) q ≡ true → stands_in xs q ≡ true
unfolding stands_in
stands_front k q xs here =
    ap (list_any (λ y. eqb y q)) (sym (take-append-drop k xs)) ∙ list_any-append (λ y. eqb y q) (take k xs) (drop k xs)
    ∙ or_left (list_any (λ y. eqb y q) (take k xs)) (list_any (λ y. eqb y q) (drop k xs)) here

map_items : {V Y Z : Type 0} (items : V → Y) (g : Y → Z) (vs : List V) →
    map (λ v. g (items v)) vs ≡ map g (map items vs)
map_items items g [] = refl
map_items items g (v ∷ vs) = ap (λ zs. g (items v) ∷ zs) (map_items items g vs)

map_same : {Z : Type 0} (f g : ℕ → Z) (a n : ℕ) → ((i : ℕ) → a ≤ i → i < a + n → f i ≡ g i) →
    map f (range_with_len a n) ≡ map g (range_with_len a n)
map_same f g a zero same = refl
map_same f g a (suc n) same =
    ap (λ z. z ∷ map f (range_with_len (a + 1) n)) (same a (omega arith) (omega arith))
    ∙ ap (λ zs. g a ∷ zs) (map_same f g (a + 1) n (λ i low high. same i (omega arith) (omega arith)))

-- the chains that were followed are those of the View
abbrev pub AreChains : View → List (Vec ℕ Global) → Type 0
AreChains v chains = map (λ (c : Vec ℕ Global). c.items) chains ≡ map (chain_of v) (range_with_len 0 (buckets v))

module _ (v : View) (entries : List PageEntry) (pairs : List Pair) (faults : PageFaults)
    (fine : AreFine v entries pairs faults) where
  -- the test of a page says what the search finds
  tests_are : (i : ℕ) → i < buckets v →
      IsTestOf (has_misfit v) (is_at_home v i) (page_records entries pairs) (chain_of v i)
  unfolding has_misfit
  tests_are i less k within =
      let C : List ℕ = chain_of v i in
      let p : ℕ = get_or C k 0 in
      let cover = covered v entries pairs faults fine in
      let own = cover.own i p less (stands_at C k within) in
      let cut : C ≡ take k C ++ p ∷ drop (k + 1) C =
      sym (take-append-drop k C) ∙ ap (λ (ys : List ℕ). take k C ++ ys) (drop_more C k 0 within) in
      let path : IsPath (next v) (1 + i) (take k C ++ p ∷ drop (k + 1) C) =
      subst (IsPath (next v) (1 + i)) cut (cover.follows i less) in
      let before : before_first (λ q. eqb q p) C ≡ take k C =
      ap (before_first (λ q. eqb q p)) cut
      ∙ before_is (take k C) (drop (k + 1) C) p (not_before (next v) (take k C) (drop (k + 1) C) (1 + i) p path) in
      let same : flat_map (page_records entries pairs) (take k C) ≡ flat_map v.records (take k C) =
      flat_same (page_records entries pairs) v.records (take k C)
      (λ q here.
      let its = cover.own i q less (stands_front k q C here) in
      records_same v entries pairs faults fine q its.0 its.1) in
      let mine : page_records entries pairs p ≡ v.records p = records_same v entries pairs faults fine p own.0 own.1 in
      ap (λ (j : ℕ). misfits (is_at_home v j) (keys_before v j p) (v.records p)) own.2
      ∙ ap (λ (ps : List ℕ). misfits (is_at_home v i) (keys_of (flat_map v.records ps)) (v.records p)) before
      ∙ sym (rw (same, mine) refl)

  -- the pages of all chains are all pages
  pages_are : (chains : List (Vec ℕ Global)) → AreChains v chains → (p : ℕ) →
      stands_in (flat_map (λ (c : Vec ℕ Global). c.items) chains) p ≡
      list_any (λ i. stands_in (chain_of v i) p) (range_with_len 0 (buckets v))
  pages_are chains made p = stands_flat (λ (c : Vec ℕ Global). c.items) chains p ∙ on_chains (links v) chains p made

  -- the least page with a misfit is the one found along the chains, or there is none where none was found
  pub misfit_is : (root : Extent) (chains : List (Vec ℕ Global)) (r : Option ℕ) →
      root ≡ record { initial = initial v; buckets = buckets v } → AreChains v chains →
      ((bad : ℕ → Bool) →
      ((i : ℕ) → i < length chains →
      IsTestOf bad (is_home root i) (page_records entries pairs)
      (get_or (map (λ (c : Vec ℕ Global). c.items) chains) i [])) →
      IsLeastAmong bad (flat_map (λ (c : Vec ℕ Global). c.items) chains) r) →
      least (page_count v) (has_misfit v) ≡ r
  unfolding numbers
  misfit_is root chains r extent made found =
      let cover = covered v entries pairs faults fine in
      let size : length chains ≡ buckets v =
      sym (length-map chains (λ (c : Vec ℕ Global). c.items)) ∙ ap length made
      ∙ length-map-range_with_len (chain_of v) 0 (buckets v) in
      let one = found (has_misfit v) (λ i less.
      let at : get_or (map (λ (c : Vec ℕ Global). c.items) chains) i [] ≡ chain_of v i =
      ap (λ xs. get_or xs i []) made
      ∙ get_or-map-range_with_len (chain_of v) 0 (buckets v) i i [] (omega arith) (omega arith) in
      rw extent
      (subst (IsTestOf (has_misfit v) (is_at_home v i) (page_records entries pairs)) (sym at)
      (tests_are i (omega arith)))) in
      least_is (has_misfit v) (flat_map (λ (c : Vec ℕ Global). c.items) chains) (page_count v - 1) r
      (λ p here.
      let at = any_of (λ i. stands_in (chain_of v i) p) 0 (buckets v) (sym (pages_are chains made p) ∙ here) in
      let own = cover.own at.0 p (omega (arith, at.2)) at.3 in (own.0, omega (arith, own.1)))
      (λ p low high.
      let all = cover.all p low (omega (arith, fine.some)) in
      pages_are chains made p
      ∙ any_from (λ i. stands_in (chain_of v i) p) 0 (buckets v) (bucket v p) (omega arith) (omega (arith, all.0))
      all.1)
      one

  last_fault : (r : Option ℕ) → least (page_count v) (has_misfit v) ≡ r → page_fault v ≡ option_map Misfit r
  last_fault r e =
      misfits_last v entries pairs faults fine.some fine.kept fine.heads fine.linked fine.slots
      ∙ ap (option_map Misfit) e

  -- the least page with a misfit, where there is one, is the fault that is to be answered
  pub misfit_told : (p : ℕ) → least (page_count v) (has_misfit v) ≡ Some p → judged v ≡ Err (Misfit p)
  misfit_told p e = judged_as v (Misfit p) (last_fault (Some p) e)

  -- where no page has a misfit, the listing is to be answered
  pub read_whole : least (page_count v) (has_misfit v) ≡ None → judged v ≡ Ok (listing_of v)
  read_whole e = ap (λ o. judged_by o v) (last_fault None e)

  -- ---- the listing

  -- the lists that are filled along the chains are, with the header's configuration, the listing that the pages show
  pub listing_is : (chains : List (Vec ℕ Global)) (lists : List (List Pair)) → AreChains v chains →
      lists ≡ map (λ (c : Vec ℕ Global). flat_map (page_records entries pairs) c.items) chains →
      record { config = v.header.config; lists = lists } ≡ listing_of v
  unfolding listing_of
  listing_is chains lists made filled =
      let rec : ℕ → List Pair = page_records entries pairs in
      let all : lists ≡ map (λ i. flat_map v.records (chain_of v i)) (range_with_len 0 (buckets v)) =
      filled ∙ map_items (λ (c : Vec ℕ Global). c.items) (flat_map rec) chains ∙ ap (map (flat_map rec)) made
      ∙ sym (map_items (chain_of v) (flat_map rec) (range_with_len 0 (buckets v)))
      ∙ map_same (λ i. flat_map rec (chain_of v i)) (λ i. flat_map v.records (chain_of v i)) 0 (buckets v)
      (λ i low high. chain_records_same v entries pairs faults fine i (omega arith)) in
      λ j. record { config = v.header.config; lists = all j }
