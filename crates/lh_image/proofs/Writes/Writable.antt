-- The pages of a listing for which a version has room can be written in its format.
use Rattle.std.proofs.Common.{◌≡◌, ℕ, zero, suc, ◌+◌, ◌*◌, ◌<◌, ◌≤◌, ◌^◌, List, [], drop, get_or, cond, eqb, inl, inr}
use Rattle.std.proofs.Common.{sym, ap, ◌∙◌, arith}
use Rattle.std.proofs.lemmas.Bool.{cases_eq, eq-eqb, ne_eqb}
use Rattle.std.proofs.lemmas.List.{length-take}
use Rattle.std.proofs.lemmas.List.Elements.{All-take, All-drop}
use Rattle.lh_page.specs.declared.page.Page.{Page}
use Rattle.lh_page.specs.Format.{FitsSlot, FitsFormat}
use Rattle.lh_page.specs.PackedList.{PiecesLaw}
use Rattle.lh_page.specs.PageLaws.{PageTextLaw}
use Rattle.lh_page.specs.PageTable.{IsPage, IsWritable, page_text}
use Rattle.lh_bucket.specs.Listing.{Lists, IsListing, size, list_at}
use Rattle.lh_image.specs.declared.version.Version.{Version}
use Rattle.lh_image.specs.Canonical.{page_count_in, pages_in, page_in, page_total, page_number, text_in}
use Rattle.lh_image.specs.Fitting.{FitsVersion}
use Rattle.lh_image.specs.Layout.{most_pages}
use Rattle.lh_image.specs.Version.{format_of}
use Rattle.lh_image.proofs.Bytes.Fitting.{fitting_slots}
use Rattle.lh_image.proofs.Writes.Counting.{overflow_within, page_count_is, page_starts}

module _ (pieces : PiecesLaw) (v : Version) (l : Lists) (listing : IsListing l) (fit : FitsVersion v l)
    (few : page_total l ≤ most_pages) where
  -- each bucket has at least one page
  pub some_page : (i : ℕ) → 1 ≤ page_count_in l i
  some_page i = omega (arith, page_count_is l i pieces listing.config.capacity.0)

  -- the number of a bucket's page is behind the header's and below the number of pages
  pub number_within : (i k : ℕ) → i < size l → k < page_count_in l i →
      (1 ≤ page_number l i k) × (page_number l i k < page_total l)
  number_within i zero low under = (omega arith, omega arith)
  number_within i (suc k) low under = (omega arith, omega (arith, overflow_within l i (size l) low))

  next_low : (i k : ℕ) → i < size l → k < page_count_in l i →
      cond (eqb (k + 1) (page_count_in l i)) 0 (page_number l i (suc k)) < 2 ^ 32
  next_low i k low under = elim (cases_eq (k + 1) (page_count_in l i)) [
    | inl last ↦ rw (eq-eqb (k + 1) (page_count_in l i) last) (omega arith)
    | inr more ↦
        rw (ne_eqb (k + 1) (page_count_in l i) more) (omega (arith, few, number_within i (suc k) low (omega arith)))
  ]

  -- a page of the format has room for the records of a bucket's page
  pub fits_format : (i k : ℕ) → i < size l → k < page_count_in l i →
      FitsFormat (format_of v) (get_or (pages_in l i) k [])
  fits_format i k low under =
      let at = (page_starts l i k pieces listing.config.capacity.0 under).1 in
      rw at (record {
        few =
            omega (
              arith,
              length-take l.config.capacity (drop (k * l.config.capacity) (list_at l.lists i)),
              fit.capacity,
            );
        records = All-take (FitsSlot (format_of v)) l.config.capacity (drop (k * l.config.capacity) (list_at l.lists i))
            (All-drop (FitsSlot (format_of v)) (k * l.config.capacity) (list_at l.lists i)
            (fitting_slots v l listing fit i));
      })

  -- a bucket's page can be written in the format
  pub writable_page : (i k : ℕ) → i < size l → k < page_count_in l i → IsWritable (format_of v) (page_in l i k)
  writable_page i k low under = record {
    bucket = omega (arith, listing.shape.to_max, listing.config.max.1);
    next = next_low i k low under;
    pairs = fits_format i k low under;
  }

-- the bytes of a page that can be written are its text
pub text_is : (texts : PageTextLaw) (v w : Version) (l : Lists) (i k : ℕ) (bytes : List ℕ) (page : Page) → v ≡ w →
    page ≡ page_in l i k → IsWritable (format_of w) page → IsPage (format_of w) bytes page → bytes ≡ text_in v l i k
unfolding text_in
text_is texts v w l i k bytes page same is fits h =
    (texts (format_of w) bytes page fits).0 h ∙ ap (page_text (format_of w)) is
    ∙ ap (λ x. page_text (format_of x) (page_in l i k)) (sym same)
