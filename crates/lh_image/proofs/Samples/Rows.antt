-- The faults of small images and of edits of them: the definitions compute what the format's worked examples say.
use Rattle.std.proofs.Common.{◌≡◌, ℕ, ◌+◌, List, [], ◌∷◌, ◌++◌, Some, None, take, drop, set, length, refl}
use Rattle.lh_addr.specs.Fnv.{code_of}
use Rattle.lh_addr.specs.Growth.{address, greatest, level_of, level, pointer}
use Rattle.lh_page.specs.PageFields.{bad_slot, bucket_of, is_bad_record, is_bad_slot, is_clear, next_of, pairs_of}
use Rattle.lh_image.specs.declared.fault.ImageFault.TheVariants.{Magic, HeaderField, Counts, Short, Trailing, Kind}
use Rattle.lh_image.specs.declared.fault.ImageFault.TheVariants.{BucketNumber, Level, Used, Next, Twice, Never, Slot}
use Rattle.lh_image.specs.declared.fault.ImageFault.TheVariants.{Misfit}
use Rattle.lh_bucket.specs.Listing.{Lists}
use Rattle.lh_image.specs.Chains.{pages_from, stands_in}
use Rattle.lh_image.specs.Faults.{bad_bucket, bad_counts, bad_field, is_bad_field, bad_kind, bad_level, bad_next}
use Rattle.lh_image.specs.Faults.{bad_used, bad_total, has_misfit, has_trailing, image_fault, first_fault_of, is_short}
use Rattle.lh_image.specs.Faults.{misfits, names, no_magic, on_no_chain}
use Rattle.lh_image.specs.Image.{listing_of}
use Rattle.lh_image.specs.Layout.{header_of, page, view_of}
use Rattle.lh_image.specs.declared.version.Version.TheVariants.{One}
use Rattle.lh_image.specs.Version.{begins, page_bytes, version_of}
use Rattle.lh_image.specs.View.{numbers}
use Rattle.lh_image.proofs.Samples.Samples.{empty, empty_listing, five, five_listing, two_pages, two_pages_listing}
use Rattle.lh_image.proofs.Samples.Samples.{four_pages, four_pages_listing, two_chains, two_chains_listing, exchanged}

-- the bytes have no fault, and they are an image of the listing
abbrev Shows : List ℕ → Lists → Type 0
Shows bytes l = (image_fault bytes ≡ None) × (listing_of (view_of bytes) ≡ l)

-- bytes from an offset on replaced by others
abbrev with_bytes : ℕ → List ℕ → List ℕ → List ℕ
with_bytes offset new bytes = take offset bytes ++ new ++ drop (offset + length new) bytes

images : Shows (empty One) empty_listing × Shows (five One) five_listing × Shows (two_pages One) two_pages_listing
    × Shows (four_pages One) four_pages_listing × Shows (two_chains One) two_chains_listing
    × Shows (exchanged One) two_chains_listing
unfolding bad_bucket bad_counts bad_field is_bad_field bad_kind bad_level bad_next bad_used bad_total has_misfit
    has_trailing image_fault first_fault_of is_short misfits names no_magic numbers on_no_chain listing_of header_of
    view_of page pages_from stands_in bad_slot bucket_of is_bad_record is_bad_slot is_clear next_of pairs_of address
    code_of greatest level_of level pointer empty five two_pages four_pages two_chains exchanged begins page_bytes
    version_of
images = ((refl, refl), (refl, refl), (refl, refl), (refl, refl), (refl, refl), (refl, refl))

-- a part of an image, and a byte too many
cut :
    (image_fault (take 0 (five One)) ≡ Some Magic)
    × (image_fault (take 3 (five One)) ≡ Some Magic)
    × (image_fault (take 4 (five One)) ≡ Some Short)
    × (image_fault (take 10 (five One)) ≡ Some Short)
    × (image_fault (take 1023 (five One)) ≡ Some Short)
    × (image_fault (take 1024 (five One)) ≡ Some Short)
    × (image_fault (take 4095 (five One)) ≡ Some Short)
    × (image_fault ((five One) ++ 0 ∷ []) ≡ Some Trailing)
unfolding bad_bucket bad_counts bad_field is_bad_field bad_kind bad_level bad_next bad_used bad_total has_misfit
    has_trailing image_fault first_fault_of is_short misfits names no_magic numbers on_no_chain listing_of header_of
    view_of page pages_from stands_in bad_slot bucket_of is_bad_record is_bad_slot is_clear next_of pairs_of address
    code_of greatest level_of level pointer empty five two_pages four_pages two_chains exchanged begins page_bytes
    version_of
cut = (refl, refl, refl, refl, refl, refl, refl, refl)

-- fields of the header
headers :
    (image_fault (set (five One) 4 0) ≡ Some (HeaderField 4))
    × (image_fault (set (five One) 4 254) ≡ Some (HeaderField 16))
    × (image_fault (set (five One) 8 15) ≡ Some (HeaderField 8))
    × (image_fault (set (five One) 12 9) ≡ Some (HeaderField 12))
    × (image_fault (set (five One) 16 0) ≡ Some (HeaderField 16))
    × (image_fault (set (five One) 22 0) ≡ Some (HeaderField 20))
    × (image_fault (set (five One) 36 1) ≡ Some (HeaderField 36))
    × (image_fault (set (five One) 1023 1) ≡ Some (HeaderField 36))
    × (image_fault (set (five One) 28 6) ≡ Some (Used 0))
    × (image_fault (set (five One) 28 7) ≡ Some Counts)
    × (image_fault (set (five One) 24 3) ≡ Some Counts)
    × (image_fault (with_bytes 24 (255 ∷ 255 ∷ 255 ∷ 255 ∷ []) (take 1024 (five One))) ≡ Some Counts)
unfolding bad_bucket bad_counts bad_field is_bad_field bad_kind bad_level bad_next bad_used bad_total has_misfit
    has_trailing image_fault first_fault_of is_short misfits names no_magic numbers on_no_chain listing_of header_of
    view_of page pages_from stands_in bad_slot bucket_of is_bad_record is_bad_slot is_clear next_of pairs_of address
    code_of greatest level_of level pointer empty five two_pages four_pages two_chains exchanged begins page_bytes
    version_of
headers = (refl, refl, refl, refl, refl, refl, refl, refl, refl, refl, refl, refl)

-- single pages
pages :
    (image_fault (set (five One) 1024 2) ≡ Some (Kind 1))
    × (image_fault (set (five One) 1027 1) ≡ Some (Kind 1))
    × (image_fault (set (five One) 3087 1) ≡ Some (Kind 3))
    × (image_fault (set (five One) 2052 2) ≡ Some (BucketNumber 2))
    × (image_fault (set (five One) 1026 1) ≡ Some (Level 1))
    × (image_fault (set (set (five One) 2050 2) 2056 1) ≡ Some (Level 2))
    × (image_fault (set (set (five One) 1025 3) 28 6) ≡ Some (Used 1))
    × (image_fault (set (five One) 3080 1) ≡ Some (Used 3))
    × (image_fault (set (five One) 1032 1) ≡ Some (Next 1))
    × (image_fault (set (five One) 1043 1) ≡ Some (Slot 1))
    × (image_fault (set (five One) 1184 1) ≡ Some (Slot 1))
unfolding bad_bucket bad_counts bad_field is_bad_field bad_kind bad_level bad_next bad_used bad_total has_misfit
    has_trailing image_fault first_fault_of is_short misfits names no_magic numbers on_no_chain listing_of header_of
    view_of page pages_from stands_in bad_slot bucket_of is_bad_record is_bad_slot is_clear next_of pairs_of address
    code_of greatest level_of level pointer empty five two_pages four_pages two_chains exchanged begins page_bytes
    version_of
pages = (refl, refl, refl, refl, refl, refl, refl, refl, refl, refl, refl)

-- pages among each other
chains :
    (image_fault (set (two_pages One) 2056 1) ≡ Some (Next 2))
    × (image_fault (set (two_pages One) 2056 2) ≡ Some (Twice 2))
    × (image_fault (set (two_pages One) 1032 0) ≡ Some (Never 2))
    × (image_fault (set (set (four_pages One) 2056 0) 4104 3) ≡ Some (Never 3))
    × (image_fault (set (two_chains One) 1032 4) ≡ Some (Next 1))
unfolding bad_bucket bad_counts bad_field is_bad_field bad_kind bad_level bad_next bad_used bad_total has_misfit
    has_trailing image_fault first_fault_of is_short misfits names no_magic numbers on_no_chain listing_of header_of
    view_of page pages_from stands_in bad_slot bucket_of is_bad_record is_bad_slot is_clear next_of pairs_of address
    code_of greatest level_of level pointer empty five two_pages four_pages two_chains exchanged begins page_bytes
    version_of
chains = (refl, refl, refl, refl, refl)

-- records that stand where they don't belong
records_of_others :
    (image_fault (with_bytes 2064 (take 72 (drop 1040 (two_pages One))) (two_pages One)) ≡ Some (Misfit 2))
    × (image_fault (set (set (set (set (two_chains One) 1032 4) 2056 3) 3076 1) 4100 0) ≡ Some (Misfit 3))
unfolding bad_bucket bad_counts bad_field is_bad_field bad_kind bad_level bad_next bad_used bad_total has_misfit
    has_trailing image_fault first_fault_of is_short misfits names no_magic numbers on_no_chain listing_of header_of
    view_of page pages_from stands_in bad_slot bucket_of is_bad_record is_bad_slot is_clear next_of pairs_of address
    code_of greatest level_of level pointer empty five two_pages four_pages two_chains exchanged begins page_bytes
    version_of
records_of_others = (refl, refl)
