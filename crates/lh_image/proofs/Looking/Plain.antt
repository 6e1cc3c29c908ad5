-- Pages that are looked at where they stand
use Rattle.std.proofs.Common.{◌≡◌, ℕ, zero, suc, ◌+◌, ◌-◌, ◌<◌, ◌≤◌, Bool, true, false, not, List}
use Rattle.std.proofs.Common.{length, drop, None, refl, sym, ap, subst, ◌∙◌, inl, inr, arith}
use Rattle.std.specs.List.{list_any, range_with_len, sum_by}
use Rattle.std.specs.Option.{is_some}
use Rattle.std.proofs.lemmas.Bool.{cases_lt, or_from, not_from_true}
use Rattle.std.proofs.lemmas.List.{get_or-set_other, get_or-set_same}
use Rattle.lh_addr.specs.Extent.{Extent}
use Rattle.lh_page.specs.declared.format.Format.{Format}
use Rattle.lh_page.specs.declared.head.PageHead.{PageHead}
use Rattle.lh_page.specs.declared.pair.Pair.{Pair}
use Rattle.lh_page.specs.Format.{slot_start}
use Rattle.lh_page.specs.PageFields.{all_zero, bad_slot, head_of, pair_of, pairs_of, used_of}
use Rattle.lh_page.specs.PageTable.{slot}
use Rattle.lh_image.specs.declared.checked.index.PageIndex.{PageIndex}
use Rattle.lh_image.specs.declared.fault.ImageFault.TheVariants.{Slot, Misfit}
use Rattle.lh_image.specs.declared.header.Header.{Header}
use Rattle.lh_image.specs.Checked.{no_index}
use Rattle.lh_image.specs.Faults.{bad_next, first_fault_of}
use Rattle.lh_image.specs.Indexed.{IsGoodPage}
use Rattle.lh_image.specs.Layout.{page, view_of}
use Rattle.lh_image.specs.LookUp.{IsOpenedImage, first_pairs, head_rows_at, own_fault}
use Rattle.lh_image.specs.Misplaced.{is_home}
use Rattle.lh_image.specs.Plain.{ArePlain, HasMarks, IsFaultlessPage, IsPut}
use Rattle.lh_image.specs.Version.{format_of, version_of}
use Rattle.lh_image.specs.View.{View, bucket, links, next, used}
use Rattle.lh_image.proofs.Judging.Misplacing.{any_last}
use Rattle.lh_image.proofs.OfReading.Steps.{sum_more}
use Rattle.lh_image.proofs.Looking.Scans.{first_pairs-all, first_pairs-more}
use Rattle.lh_image.proofs.Looking.Slots.{all_good, row_none}
use Rattle.lh_image.proofs.Looking.Steps.{fault_behind_head, format_is, head_is, rest_slots, slots_are, used_fits}

-- where each of the first slots has a record that is at home, none of their records is a stranger
pub no_stranger : (home : List ℕ → Bool) (f : Format) (pg : List ℕ) (n : ℕ) →
    ((i : ℕ) → i < n → home (pair_of f (slot f pg i)).key ≡ true) →
    list_any (λ (r : Pair). not (home r.key)) (first_pairs f pg n) ≡ false
no_stranger home f pg zero h = refl
no_stranger home f pg (suc n) h =
    let more : suc n ≡ n + 1 = omega arith in
    let test : Pair → Bool = λ (r : Pair). not (home r.key) in
    ap (λ m. list_any test (first_pairs f pg m)) more
    ∙ ap (list_any test) (first_pairs-more f pg n)
    ∙ any_last test (first_pairs f pg n) (pair_of f (slot f pg n))
    ∙ or_from (list_any test (first_pairs f pg n)) (test (pair_of f (slot f pg n)))
    (no_stranger home f pg n (λ i low. h i (omega (arith, low))))
    (not_from_true _ (h n (omega arith)))

module _ (bytes : List ℕ) (header : Header) (root : Extent) (o : IsOpenedImage bytes header root) (p : ℕ)
    (low : 1 ≤ p) (head : PageHead) (he : head ≡ (view_of bytes).head p) (f : Format) (pg : List ℕ)
    (fe : f ≡ format_of header.version) (pe : pg ≡ page bytes p)
    (none : None ≡ first_fault_of (head_rows_at (view_of bytes) p)) where
  -- the page has no more records than slots
  pub few_used : head.used ≤ f.slots
  few_used = omega (arith, ap (λ (h : PageHead). h.used) he, used_fits bytes header root o p f none fe)

  own_used : head.used ≡ used_of pg
  own_used = ap (λ (h : PageHead). h.used) he ∙ sym (ap (λ (h : PageHead). h.used) (head_is bytes p low))
      ∙ sym (ap used_of pe)

  own_next : head.next ≡ Rattle.lh_page.specs.PageFields.next_of pg
  own_next = ap (λ (h : PageHead). h.next) he ∙ sym (ap (λ (h : PageHead). h.next) (head_is bytes p low))
      ∙ sym (ap Rattle.lh_page.specs.PageFields.next_of pe)

  -- a page whose next page, records and other slots are looked at has no fault by itself
  pub plain_is : false ≡ bad_next (links (view_of bytes)) p → (marks : List ℕ) →
      HasMarks f pg (is_home root head.bucket) head.used marks →
      all_zero (drop (slot_start f head.used) pg) ≡ true →
      IsFaultlessPage bytes p (record { marks = marks; used = head.used; next = head.next })
  plain_is next marks marked clear =
      let v : View = view_of bytes in
      let i : ℕ = head.bucket in
      let g = format_is bytes header root o f fe in
      let same : i ≡ bucket v p = ap (λ (h : PageHead). h.bucket) he in
      let slots : bad_slot f pg ≡ None = all_good f pg head.used own_used marked.good clear in
      let homes : list_any (λ (r : Pair). not (is_home root i r.key)) (pairs_of f pg) ≡ false =
      ap (list_any (λ (r : Pair). not (is_home root i r.key))) (sym (first_pairs-all f pg head.used own_used))
      ∙ no_stranger (is_home root i) f pg head.used marked.at_home in
      let own : own_fault v i p ≡ None =
      fault_behind_head v i p none ∙ rest_slots v i p next
      ∙ sym (slots_are bytes header root o i p f pg g pe)
      ∙ sym (row_none (is_some (bad_slot f pg)) _ (Slot p) (Misfit p) (ap is_some slots) homes) in
      let entry : PageIndex = record { marks = marks; used = head.used; next = head.next } in
      let good : IsGoodPage f pg entry = record {
        few = omega (arith, few_used, own_used);
        good = λ k less. marked.good k (omega (arith, less, own_used));
        kept = record {
          used = own_used;
          next = own_next;
          marks = λ k less. marked.told k (omega (arith, less, own_used));
        };
      } in
      record {
        faultless = subst (λ j. own_fault v j p ≡ None) same own;
        good = subst (λ b. IsGoodPage (format_of (version_of bytes)) b entry) pe
            (subst (λ x. IsGoodPage x pg entry) g good);
      }

-- ---- one page after the other

-- before any page behind the header was looked at
pub plain_first : (bytes : List ℕ) (index : List PageIndex) → ArePlain bytes 1 index 0
plain_first bytes index = record { plain = λ p low high. absurd (omega arith); counted = refl }

-- with one page more, which has no fault by itself
pub plain_more : (bytes : List ℕ) (n : ℕ) (index new_index : List PageIndex) (sum own : ℕ) → 1 ≤ n → n < length index →
    ArePlain bytes n index sum → IsPut bytes n index new_index own → ArePlain bytes (n + 1) new_index (sum + own)
plain_more bytes n index new_index sum own low within are adds =
    let v : View = view_of bytes in
    let here : 1 + (n - 1) ≡ n = omega arith in
    let count : (n + 1) - 1 ≡ suc (n - 1) = omega arith in
    record {
      plain = λ p from high. elim (cases_lt p n) [
        | inl before ↦
            rw (adds.put, get_or-set_other index n p adds.entry no_index (λ z. omega (arith, before, z)))
            (are.plain p from before)
        | inr there ↦
            let at : p ≡ n = omega arith in
            rw (at, adds.put, get_or-set_same index n adds.entry no_index within) adds.plain
      ];
      counted =
          ap (λ k. k + own) are.counted
          ∙ ap (λ k. sum_by (used v) (range_with_len 1 (n - 1)) + k) adds.used_is
          ∙ sym (rw here at (sum_more (used v) 1 (n - 1)))
          ∙ ap (λ k. sum_by (used v) (range_with_len 1 k)) (sym count);
    }
