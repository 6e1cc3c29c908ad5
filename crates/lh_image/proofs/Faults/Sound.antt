-- No fault is answered exactly where no condition of the table holds.
use Rattle.std.proofs.Common.{◌≡◌, ◌≢◌, inl, inr, ℕ, ◌-◌, Bool, true, false, ltb, List, ◌++◌, length, Option, Some}
use Rattle.std.proofs.Common.{None, refl, ◌↔◌, arith}
use Rattle.std.specs.Prelude.{option_map}
use Rattle.std.specs.List.{find, range_with_len}
use Rattle.std.proofs.lemmas.Bool.{cases_eq, le-leb, ltb-false, ne_eqb, or_parts}
use Rattle.lh_image.specs.declared.fault.ImageFault.{ImageFault}
use Rattle.lh_image.specs.declared.fault.ImageFault.TheVariants.{Magic, HeaderField, Counts, Short, Trailing, Kind}
use Rattle.lh_image.specs.declared.fault.ImageFault.TheVariants.{BucketNumber, Level, Used, Next, Twice, Never, Slot}
use Rattle.lh_image.specs.declared.fault.ImageFault.TheVariants.{Misfit}
use Rattle.lh_image.specs.Faults.{where_so, least, has_header, no_magic, bad_field, bad_counts, is_short, has_trailing}
use Rattle.lh_image.specs.Faults.{at_head, bad_kind, bad_bucket, bad_level, bad_used, bad_total, bad_used_at, bad_next}
use Rattle.lh_image.specs.Faults.{named_twice, on_no_chain, has_bad_slot, has_misfit, header_rows, size_rows, page_rows}
use Rattle.lh_image.specs.Faults.{page_fault, image_fault}
use Rattle.lh_image.specs.Layout.{header_of, ends_in_zeros, image_bytes, view_of}
use Rattle.lh_image.specs.Version.{page_bytes, version_of}
use Rattle.lh_image.specs.View.{View, page_count, links, numbers}
use Rattle.lh_image.proofs.Faults.FirstAnswers.{AreNone, none_first}
use Rattle.lh_image.proofs.Bytes.HeaderTests.{some_page}
use Rattle.lh_image.proofs.Paths.Linking.{Clean}
use Rattle.lh_image.proofs.Faults.Ranges.{find_none, none_found}

-- no page has a fault
pub record IsClean (v : View) : Type 0 where
  pub kinds : Clean (page_count v) (at_head bad_kind v)
  pub numbers_are : Clean (page_count v) (at_head bad_bucket v)
  pub levels : Clean (page_count v) (at_head bad_level v)
  pub total : bad_total v ≡ false
  pub used : Clean (page_count v) (at_head bad_used v)
  pub nexts : Clean (page_count v) (bad_next (links v))
  pub twice : Clean (page_count v) (named_twice (links v))
  pub on_chains : Clean (page_count v) (on_no_chain (links v))
  pub slots : Clean (page_count v) (has_bad_slot v)
  pub fitting : Clean (page_count v) (has_misfit v)

pub record IsSound (bytes : List ℕ) : Type 0 where
  pub magic : no_magic bytes ≡ false
  pub header : has_header bytes ≡ true
  pub fields : bad_field (header_of bytes) (ends_in_zeros bytes) ≡ None
  pub counts : bad_counts (header_of bytes) ≡ false
  pub long_enough : is_short bytes ≡ false
  pub ended : has_trailing bytes ≡ false
  pub clean : IsClean (view_of bytes)

so_none : (t : Bool) (f : ImageFault) → (where_so t f ≡ None) ↔ (t ≡ false)
so_none true f = (λ e. absurd cc, λ e. absurd cc)
so_none false f = (λ e. refl, λ e. refl)

map_none : (o : Option ℕ) (K : ℕ → ImageFault) → (option_map K o ≡ None) ↔ (o ≡ None)
map_none None K = (λ e. refl, λ e. refl)
map_none (Some n) K = (λ e. absurd cc, λ e. absurd cc)

-- a row of the table's pages
pub row_clean : (P : ℕ) (test : ℕ → Bool) (K : ℕ → ImageFault) → (option_map K (least P test) ≡ None) ↔ Clean P test
unfolding numbers
row_clean P test K =
    let m = map_none (least P test) K in (
      λ e p low high. find_none test 1 (P - 1) (m.0 e) p low (omega arith),
      λ clean. m.1 (none_found test 1 (P - 1) (λ p low high. clean p low (omega arith))),
    )

used_clean : (v : View) → page_count v ≢ 0 →
    (option_map Used (find (bad_used_at v) (range_with_len 0 (page_count v))) ≡ None) ↔
    ((bad_total v ≡ false) × Clean (page_count v) (at_head bad_used v))
used_clean v some =
    let m = map_none (find (bad_used_at v) (range_with_len 0 (page_count v))) Used in (
      λ e. (
        find_none (bad_used_at v) 0 (page_count v) (m.0 e) 0 (omega arith) (omega arith),
        λ p low high.
            rw (ne_eqb p 0 (λ z. omega arith)) at
            (find_none (bad_used_at v) 0 (page_count v) (m.0 e) p (omega arith) (omega arith)),
      ),
      λ c. m.1 (none_found (bad_used_at v) 0 (page_count v) (λ p low high. elim (cases_eq p 0) [
        | inl first ↦ rw first c.0
        | inr other ↦ rw (ne_eqb p 0 other) (c.1 p (omega arith) (omega arith))
      ])),
    )

clean_rows : (v : View) → page_count v ≢ 0 → AreNone (page_rows v) ↔ IsClean v
clean_rows v some = (
  λ (kind, (number, (level, (used, (next, (twice, (never, (slot, (misfit, _))))))))).
      let total = (used_clean v some).0 used in
      record {
        kinds = (row_clean (page_count v) (at_head bad_kind v) Kind).0 kind;
        numbers_are = (row_clean (page_count v) (at_head bad_bucket v) BucketNumber).0 number;
        levels = (row_clean (page_count v) (at_head bad_level v) Level).0 level;
        total = total.0;
        used = total.1;
        nexts = (row_clean (page_count v) (bad_next (links v)) Next).0 next;
        twice = (row_clean (page_count v) (named_twice (links v)) Twice).0 twice;
        on_chains = (row_clean (page_count v) (on_no_chain (links v)) Never).0 never;
        slots = (row_clean (page_count v) (has_bad_slot v) Slot).0 slot;
        fitting = (row_clean (page_count v) (has_misfit v) Misfit).0 misfit;
      },
  λ c. (
    (row_clean (page_count v) (at_head bad_kind v) Kind).1 c.kinds,
    (
      (row_clean (page_count v) (at_head bad_bucket v) BucketNumber).1 c.numbers_are,
      (
        (row_clean (page_count v) (at_head bad_level v) Level).1 c.levels,
        (
          (used_clean v some).1 (c.total, c.used),
          (
            (row_clean (page_count v) (bad_next (links v)) Next).1 c.nexts,
            (
              (row_clean (page_count v) (named_twice (links v)) Twice).1 c.twice,
              (
                (row_clean (page_count v) (on_no_chain (links v)) Never).1 c.on_chains,
                (
                  (row_clean (page_count v) (has_bad_slot v) Slot).1 c.slots,
                  (
                    (row_clean (page_count v) (has_misfit v) Misfit).1 c.fitting,
                    tt,
                  ),
                ),
              ),
            ),
          ),
        ),
      ),
    ),
  ),
)

-- pages have no fault exactly where no page has one
pub clean_law : (v : View) → page_count v ≢ 0 → (page_fault v ≡ None) ↔ IsClean v
unfolding page_fault
clean_law v some =
    let all = none_first (page_rows v) in
    let rows = clean_rows v some in
    (λ e. rows.0 (all.0 e), λ c. all.1 (rows.1 c))

sound_from_rows : (bytes : List ℕ) → AreNone (header_rows bytes ++ size_rows bytes ++ page_rows (view_of bytes)) →
    IsSound bytes
unfolding is_short view_of
sound_from_rows bytes (magic, (field, (counts, (short, (trailing, pages))))) =
    let long = (so_none (is_short bytes) Short).0 short in
    let size : ℕ = page_bytes (version_of bytes) in
    let header : has_header bytes ≡ true =
    le-leb size (length bytes)
    (ltb-false (length bytes) size
    (or_parts (ltb (length bytes) size) (ltb (length bytes) (image_bytes bytes)) long).0) in
    let few : bad_counts (header_of bytes) ≡ false =
    (so_none (bad_counts (header_of bytes)) Counts).0 (rw header at counts) in
    record {
      magic = (so_none (no_magic bytes) Magic).0 magic;
      header = header;
      fields = (map_none (bad_field (header_of bytes) (ends_in_zeros bytes)) HeaderField).0 (rw header at field);
      counts = few;
      long_enough = long;
      ended = (so_none (has_trailing bytes) Trailing).0 trailing;
      clean = (clean_rows (view_of bytes) (some_page (header_of bytes) few)).0 pages;
    }

rows_from_sound : (bytes : List ℕ) → IsSound bytes →
    AreNone (header_rows bytes ++ size_rows bytes ++ page_rows (view_of bytes))
unfolding view_of
rows_from_sound bytes i = (
  (so_none (no_magic bytes) Magic).1 i.magic,
  (
    rw i.header ((map_none (bad_field (header_of bytes) (ends_in_zeros bytes)) HeaderField).1 i.fields),
    (
      rw i.header ((so_none (bad_counts (header_of bytes)) Counts).1 i.counts),
      (
        (so_none (is_short bytes) Short).1 i.long_enough,
        (
          (so_none (has_trailing bytes) Trailing).1 i.ended,
          (clean_rows (view_of bytes) (some_page (header_of bytes) i.counts)).1 i.clean,
        ),
      ),
    ),
  ),
)

-- bytes have no fault exactly where their first page, their size and their pages have none
pub sound_law : (bytes : List ℕ) → (image_fault bytes ≡ None) ↔ IsSound bytes
unfolding image_fault
sound_law bytes =
    let all = none_first (header_rows bytes ++ size_rows bytes ++ page_rows (view_of bytes)) in
    (λ e. sound_from_rows bytes (all.0 e), λ i. all.1 (rows_from_sound bytes i))
