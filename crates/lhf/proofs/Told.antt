-- What is told of what was found
use Rattle.std.proofs.Common.{◌≡◌, ℕ, List, [], ◌∷◌, ◌++◌, Option, Some, None, Result, Ok, Err, refl, sym, ap, subst}
use Rattle.std.proofs.Common.{◌∙◌, append_assoc, arith}
use Rattle.std.specs.FinMap.{get}
use Rattle.lh_addr.specs.Extent.{Extent, IsExtent}
use Rattle.lh_bucket.specs.Listing.{Lists, all_of}
use Rattle.lh_bucket.specs.Records.{map_of}
use Rattle.lh_image.specs.declared.fault.ImageFault.{ImageFault}
use Rattle.lh_image.specs.declared.version.Version.{Version}
use Rattle.lh_image.specs.declared.version.Version.TheVariants.{One, Two}
use Rattle.lh_image.specs.Checked.{IsChecked}
use Rattle.lh_image.specs.Faults.{first_fault_of, header_rows, image_fault, page_rows, size_rows}
use Rattle.lh_image.specs.Image.{IsImage, OneListingLaw}
use Rattle.lh_image.specs.Indexed.{extent_of}
use Rattle.lh_image.specs.Layout.{header_of, view_of}
use Rattle.lh_image.specs.LookUp.{MapLaw, look_up, opening_fault}
use Rattle.lh_image.specs.Version.{version_of}
use Rattle.lhf.specs.declared.handle.Handle.{Handle}
use Rattle.lhf.specs.Handles.{IsCheckedHandle, number_of_version}
use Rattle.lhf.specs.Replies.{IsReply, absent}

same : (a b : Option (List ℕ)) (r : Result (Option (List ℕ)) ImageFault) → r ≡ Ok a → r ≡ Ok b → b ≡ a
same a b r e g = cc

never : (a : Option (List ℕ)) (f : ImageFault) (r : Result (Option (List ℕ)) ImageFault) → r ≡ Ok a → r ≡ Err f → ⊥
never a f r e g = cc

module _ (law : MapLaw) (bytes key : List ℕ) (l : Lists) (image : IsImage bytes l) where
  -- a value that is found is told
  pub told_some : (value : List ℕ) → look_up (view_of bytes) key ≡ Ok (Some value) →
      IsReply (get (map_of (all_of l.lists)) key) 0 value
  told_some value found =
      subst (λ o. IsReply o 0 value)
      (sym (same (Some value) (get (map_of (all_of l.lists)) key) _ found (law bytes l key image))) (refl, refl)

  -- that none is found is told
  pub told_none : (value : List ℕ) → look_up (view_of bytes) key ≡ Ok None →
      IsReply (get (map_of (all_of l.lists)) key) absent value
  told_none value found =
      subst (λ o. IsReply o absent value)
      (sym (same None (get (map_of (all_of l.lists)) key) _ found (law bytes l key image))) refl

  -- in an image no look-up has a fault
  pub no_fault : (f : ImageFault) → look_up (view_of bytes) key ≡ Err f → ⊥
  no_fault f e = never (get (map_of (all_of l.lists)) key) f _ (law bytes l key image) e

-- ---- the handle of an image that was checked

-- a number is that of one version
pub version_same : (a b : Version) (n : ℕ) → n ≡ number_of_version a → n ≡ number_of_version b → a ≡ b
version_same One One n e g = refl
version_same Two Two n e g = refl
version_same One Two n e g = absurd (omega (arith, e, g))
version_same Two One n e g = absurd (omega (arith, e, g))

-- a header has the version of its bytes
pub header_version : (bytes : List ℕ) → (header_of bytes).version ≡ version_of bytes
unfolding header_of
header_version bytes = refl

module _ (h : Handle) (ready : IsCheckedHandle h) where
  -- the numbers of the handle are those of a file
  pub ready_extent : IsExtent (record { initial = h.initial; buckets = h.buckets })
  ready_extent =
      let range = ready.checked.opened.in_range in
      let n = ready.numbers in record {
        initial = (
          omega (arith, range.settings.initial.0, n.initial),
          omega (arith, range.settings.initial.1, n.initial),
        );
        buckets = (
          omega (arith, range.from_initial, n.initial, n.buckets),
          omega (arith, range.to_max, range.settings.max.1, n.buckets),
        );
      }

  -- its root is that of the file that was checked
  pub ready_root : (root : Extent) → root ≡ record { initial = h.initial; buckets = h.buckets } →
      IsChecked h.bytes.now (header_of h.bytes.now) root h.index.now
  ready_root root e =
      let n = ready.numbers in
      let same : root ≡ extent_of h.bytes.now = rw (e, n.initial, n.buckets) refl in
      subst (λ x. IsChecked h.bytes.now (header_of h.bytes.now) x h.index.now) (sym same) ready.checked

  -- its version is that of the header
  pub ready_version : (version : Version) → h.version ≡ number_of_version version →
      version ≡ (header_of h.bytes.now).version
  ready_version version e =
      version_same version (version_of h.bytes.now) h.version e ready.numbers.version
      ∙ sym (header_version h.bytes.now)

-- ---- faults of the first page

first_left : (xs ys : List (Option ImageFault)) (f : ImageFault) → first_fault_of xs ≡ Some f →
    first_fault_of (xs ++ ys) ≡ Some f
unfolding first_fault_of
first_left [] ys f e = absurd cc
first_left (None ∷ xs) ys f e = first_left xs ys f e
first_left (Some g ∷ xs) ys f e = e

-- the fault that opening answers is the first of the bytes
pub opening_first : (bytes : List ℕ) (f : ImageFault) → opening_fault bytes ≡ Some f → image_fault bytes ≡ Some f
unfolding opening_fault image_fault
opening_first bytes f e =
    ap first_fault_of (sym (append_assoc (header_rows bytes) (size_rows bytes) (page_rows (view_of bytes))))
    ∙ first_left (header_rows bytes ++ size_rows bytes) (page_rows (view_of bytes)) f e

-- an image opens
pub image_opens : OneListingLaw → (bytes : List ℕ) (l : Lists) (f : ImageFault) → IsImage bytes l →
    opening_fault bytes ≡ Some f → ⊥
image_opens one bytes l f image e = none_some f _ (one bytes l image).0 (opening_first bytes f e)
  where
    none_some : (f : ImageFault) (o : Option ImageFault) → o ≡ None → o ≡ Some f → ⊥
    none_some f o e g = cc
