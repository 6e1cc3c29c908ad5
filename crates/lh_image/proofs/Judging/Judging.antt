-- The faults of pages that were kept, row after row
use Rattle.std.proofs.Common.{◌≡◌, ℕ, suc, ◌-◌, ◌<◌, ◌≤◌, Bool, true, false, cond, not, ◌||◌, ◌&&◌, eqb, ltb, leb, List}
use Rattle.std.proofs.Common.{[], ◌∷◌, ◌++◌, Option, Some, None, Result, Err, refl, sym, ap, ◌∙◌, arith}
use Rattle.std.specs.Prelude.{option_map}
use Rattle.std.specs.List.{range_with_len, find}
use Rattle.std.proofs.lemmas.Bool.{le-ltb, ne_eqb}
use Rattle.std.proofs.lemmas.Bool.Decides.{nat_tests}
use Rattle.lh_bucket.specs.Listing.{Lists}
use Rattle.lh_page.specs.declared.pair.Pair.{Pair}
use Rattle.lh_image.specs.declared.fault.ImageFault.{ImageFault}
use Rattle.lh_image.specs.declared.fault.ImageFault.TheVariants.{Kind, BucketNumber, Level, Used, Slot, Misfit}
use Rattle.lh_image.specs.declared.fault.ImageFault.TheVariants.{ReadFault, Memory}
use Rattle.lh_image.specs.declared.judge.page_checks.PageFaults.{PageFaults}
use Rattle.lh_image.specs.declared.table.PageEntry.{PageEntry}
use Rattle.lh_image.specs.Faults.{at_head, bad_kind, bad_bucket, bad_level, bad_used, bad_total, bad_used_at}
use Rattle.lh_image.specs.Faults.{has_bad_slot, has_misfit, least, where_so, head_rows, link_rows, record_rows}
use Rattle.lh_image.specs.Faults.{page_fault, first_fault_of}
use Rattle.lh_image.specs.Listed.{IsMemoryOr, IsViewKept}
use Rattle.lh_image.specs.PageChecks.{known_bad_level, known_bad_slot, noted_rows}
use Rattle.lh_image.specs.Reading.{IsDueFault, judged, judged_by}
use Rattle.lh_image.specs.Table.{has_plain_head}
use Rattle.lh_image.specs.View.{View, buckets, bucket, capacity, page_count, record_count, numbers, used, next, links}
use Rattle.lh_image.proofs.Judging.Finding.{find_same}
use Rattle.lh_image.proofs.Faults.FirstAnswers.{first_behind, first_before}
use Rattle.lh_image.proofs.OfReading.FirstPage.{told}
use Rattle.lh_image.proofs.Paths.Packing.{used_rule}
use Rattle.lh_image.proofs.Bytes.PageTests.{kind_rule, one_or_two}
use Rattle.lh_image.proofs.Faults.Ranges.{find_none}

-- ---- heads

join_heads : (k b l known : Option ℕ) (t : Bool) (u : Option ℕ) → (b ≡ None → l ≡ known) →
    first_fault_of
    (option_map Kind k ∷ option_map BucketNumber b ∷ option_map Level l ∷ option_map Used (cond t (Some 0) u) ∷ [])
    ≡
    first_fault_of
    (option_map Kind k ∷ option_map BucketNumber b ∷ option_map Level known ∷ where_so t (Used 0)
    ∷ option_map Used u ∷ [])
unfolding first_fault_of
join_heads (Some p) b l known t u same = refl
join_heads None (Some p) l known t u same = refl
join_heads None None l known t u same = rw (same refl) (by known t)
  where
    by : (known : Option ℕ) (t : Bool) →
        first_fault_of (option_map Level known ∷ option_map Used (cond t (Some 0) u) ∷ []) ≡
        first_fault_of (option_map Level known ∷ where_so t (Used 0) ∷ option_map Used u ∷ [])
    by (Some p) t = refl
    by None true = refl
    by None false = refl

known_level : (b S : ℕ) (a bad : Bool) → (a || leb S b) ≡ false → bad ≡ (ltb b S && bad)
known_level b S a bad fine = let within : ltb b S ≡ true = grind (arith, nat_tests) in rw within refl

level_known : (v : View) (p : ℕ) → at_head bad_bucket v p ≡ false → at_head bad_level v p ≡ at_head known_bad_level v p
unfolding bad_bucket
level_known v p fine =
    known_level (bucket v p) (buckets v) (leb p (buckets v) && not (eqb (bucket v p) (p - 1))) (at_head bad_level v p)
    fine

-- no fault of heads
heads_none : (k b l : Option ℕ) (t : Bool) (u : Option ℕ) →
    None ≡
    first_fault_of
    (option_map Kind k ∷ option_map BucketNumber b ∷ option_map Level l ∷ where_so t (Used 0)
    ∷ option_map Used u ∷ []) → (k ≡ None) × (b ≡ None) × (u ≡ None)
unfolding first_fault_of
heads_none (Some p) b l t u e = absurd cc
heads_none None (Some p) l t u e = absurd cc
heads_none None None (Some p) t u e = absurd cc
heads_none None None None true u e = absurd cc
heads_none None None None false (Some p) e = absurd cc
heads_none None None None false None e = (refl, refl, refl)

-- ---- slots

plain_head : (v : View) (p : ℕ) → at_head bad_kind v p ≡ false → at_head bad_used v p ≡ false →
    has_plain_head v p ≡ true
unfolding bad_kind bad_used
plain_head v p fine few =
    let k = (kind_rule (v.head p).kind p (buckets v) (v.head p).clear).0 fine in
    let u = (used_rule (capacity v) (used v p) (next v p) (v.head p).kind).0 few in
    rw (one_or_two (v.head p).kind (leb p (buckets v)) k.0, k.1, le-ltb (capacity v) (used v p) u.0) refl

one_row : (o : Option ImageFault) → first_fault_of (o ∷ []) ≡ o
unfolding first_fault_of
one_row None = refl
one_row (Some f) = refl

-- the first fault of the pages is what is to be answered to them
pub judged_as : (v : View) (f : ImageFault) → page_fault v ≡ Some f → judged v ≡ Err f
judged_as v f e = ap (λ (o : Option ImageFault). judged_by o v) e

due_told : (f : ImageFault) (o : Option ImageFault) (answer : Result Lists ImageFault) → IsMemoryOr f o →
    (o ≡ Some f → answer ≡ Err f) → IsDueFault f answer
due_told Memory o answer due then_err = tt
due_told ReadFault o answer due then_err = tt
due_told f o answer due then_err = told f answer (then_err due)

module _ (v : View) (entries : List PageEntry) (pairs : List Pair) (faults : PageFaults)
    (some : buckets v < page_count v) (kept : IsViewKept v entries pairs faults) where
  heads_are : first_fault_of (head_rows v) ≡ first_fault_of (noted_rows faults (record_count v))
  unfolding numbers bad_total
  heads_are =
      let noted = kept.noted in
      let m : ℕ = page_count v - 1 in
      let size : page_count v ≡ suc m = omega arith in
      let useds : find (bad_used_at v) (range_with_len 0 (page_count v)) ≡
      cond (bad_total v) (Some 0) (find (at_head bad_used v) (range_with_len 1 m)) =
      ap (λ (n : ℕ). find (bad_used_at v) (range_with_len 0 n)) size
      ∙ ap (λ (o : Option ℕ). cond (bad_total v) (Some 0) o)
      (find_same (bad_used_at v) (at_head bad_used v) 1 m
      (λ p low high. rw (ne_eqb p 0 (λ z. omega arith)) refl)) in
      rw (useds, noted.kind, noted.bucket, noted.level, noted.used, noted.sum)
      (join_heads (find (at_head bad_kind v) (range_with_len 1 m)) (find (at_head bad_bucket v) (range_with_len 1 m))
      (find (at_head bad_level v) (range_with_len 1 m)) (find (at_head known_bad_level v) (range_with_len 1 m))
      (bad_total v)
      (find (at_head bad_used v) (range_with_len 1 m))
      (λ none.
      find_same (at_head bad_level v) (at_head known_bad_level v) 1 m
      (λ p low high. level_known v p (find_none (at_head bad_bucket v) 1 m none p low high))))

  -- the first fault that was noted of heads is the one that is due
  pub heads_told : (f : ImageFault) → Some f ≡ first_fault_of (noted_rows faults (record_count v)) →
      IsDueFault f (judged v)
  unfolding page_fault
  heads_told f e =
      told f (judged v)
      (judged_as v f (first_before (head_rows v) (link_rows (links v) ++ record_rows v) f (heads_are ∙ sym e)))

  module _ (fine : None ≡ first_fault_of (noted_rows faults (record_count v))) where
    -- no page has a fault of its head that the faults behind it rest on
    pub heads_fine : (p : ℕ) → 1 ≤ p → p < page_count v →
        (at_head bad_kind v p ≡ false) × (at_head bad_bucket v p ≡ false) × (at_head bad_used v p ≡ false)
    heads_fine p low high =
        let clean =
        heads_none faults.kind faults.bucket faults.level (not (eqb faults.sum (record_count v))) faults.used
        fine in (
          find_none (at_head bad_kind v) 1 (page_count v - 1) (sym kept.noted.kind ∙ clean.0) p low (omega arith),
          find_none (at_head bad_bucket v) 1 (page_count v - 1) (sym kept.noted.bucket ∙ clean.1) p low (omega arith),
          find_none (at_head bad_used v) 1 (page_count v - 1) (sym kept.noted.used ∙ clean.2) p low (omega arith),
        )

    -- where no fault of heads was noted, each page has a plain head
    pub plain : (p : ℕ) → 1 ≤ p → p < page_count v → has_plain_head v p ≡ true
    plain p low high = let f = heads_fine p low high in plain_head v p f.0 f.2

    behind_heads : page_fault v ≡ first_fault_of (link_rows (links v) ++ record_rows v)
    unfolding page_fault
    behind_heads = first_behind (head_rows v) (link_rows (links v) ++ record_rows v) (heads_are ∙ sym fine)

    -- where no fault of heads was noted, the first fault of links is the one that is due, unless memory ran out
    pub links_told : (f : ImageFault) → IsMemoryOr f (first_fault_of (link_rows (links v))) → IsDueFault f (judged v)
    links_told f due =
        due_told f (first_fault_of (link_rows (links v))) (judged v) due
        (λ e. judged_as v f (behind_heads ∙ first_before (link_rows (links v)) (record_rows v) f e))

    -- where no fault of heads was noted, the page noted for its slots is the least that has a bad slot
    pub slots_are : faults.slot ≡ least (page_count v) (has_bad_slot v)
    unfolding numbers
    slots_are =
        kept.noted.slot
        ∙ find_same (known_bad_slot v) (has_bad_slot v) 1 (page_count v - 1)
        (λ p low high. rw (plain p low (omega arith)) refl)

    module _ (linked : first_fault_of (link_rows (links v)) ≡ None) where
      behind_links : page_fault v ≡ first_fault_of (record_rows v)
      behind_links = behind_heads ∙ first_behind (link_rows (links v)) (record_rows v) linked

      -- where heads and links have no fault, the fault of the page noted for its slots is the one that is due
      pub slots_told : (f : ImageFault) → Some f ≡ option_map Slot faults.slot → IsDueFault f (judged v)
      slots_told f e =
          told f (judged v) (judged_as v f (behind_links
          ∙ first_before (option_map Slot (least (page_count v) (has_bad_slot v)) ∷ [])
          (option_map Misfit (least (page_count v) (has_misfit v)) ∷ []) f
          (one_row _ ∙ sym (e ∙ ap (option_map Slot) slots_are))))

      -- behind the slots without a fault
      pub misfits_last : None ≡ option_map Slot faults.slot →
          page_fault v ≡ option_map Misfit (least (page_count v) (has_misfit v))
      misfits_last e =
          behind_links
          ∙ first_behind (option_map Slot (least (page_count v) (has_bad_slot v)) ∷ [])
          (option_map Misfit (least (page_count v) (has_misfit v)) ∷ [])
          (one_row _ ∙ sym (e ∙ ap (option_map Slot) slots_are))
          ∙ one_row _
