-- From the records that are loaded to those that are dumped.
use Rattle.std.proofs.Common.{◌≡◌, ℕ, suc, List, [], ◌∷◌, Option, None, Some, map, refl, sym, ap, subst, ◌∙◌}
use Rattle.std.proofs.Common.{IsPermutation}
use Rattle.std.specs.Prelude.{Ok, Err}
use Rattle.std.specs.FinMap.{empty, get}
use Rattle.std.specs.List.{All}
use Rattle.std.proofs.lemmas.List.Elements.{All-append, All-nil}
use Rattle.std.proofs.lemmas.List.Sorted.{All-permutation}
use Rattle.hex.specs.Hex.{IsBytes}
use Rattle.lh_addr.specs.Growth.{AddressLaw}
use Rattle.lh_addr.specs.Settings.{Settings}
use Rattle.lh_bucket.specs.declared.call.Call.{Call}
use Rattle.lh_bucket.specs.Laws.{LookupLaw, PlacedLaw}
use Rattle.lh_bucket.specs.Listing.{Lists, all_of, list_at}
use Rattle.lh_bucket.specs.PlainMap.{outcome}
use Rattle.lh_bucket.specs.Records.{map_of}
use Rattle.lh_exchange.specs.Exchanged.{RecordsOrFault, records_in}
use Rattle.lh_exchange.specs.ExchangeLaws.{CdbIsExactLaw, WrittenIsReadLaw}
use Rattle.lh_exchange.specs.declared.format.StreamFormat.{StreamFormat}
use Rattle.lh_exchange_laws.specs.LoadLaws.{DumpsRecordsOf, LoadedIsDumpedLaw}
use Rattle.lh_image.specs.declared.version.Version.{Version}
use Rattle.lh_image.specs.Reading.{reading_of}
use Rattle.lh_image.specs.RoundTrip.{RoundTripLaw}
use Rattle.lh_page.specs.declared.pair.Pair.{Pair}
use Rattle.lh_page.specs.Records.{IsRecord}
use Rattle.lh_subcommands.specs.Exporting.{export_due, exported_text, listed_records}
use Rattle.lh_subcommands.specs.Images.{IsImageAfter, IsLedTo, text_or_fault}
use Rattle.lh_subcommands.specs.Loading.{EndsLoading, EndsLoadingOf, adding, before_first_met, once_each, stream_calls}
use Rattle.lh_subcommands.specs.declared.status.Status.TheVariants.{Done}
use Rattle.lh_exchange_laws.proofs.AddedRecords.{added_to_none}
use Rattle.lh_exchange_laws.proofs.ListedRecords.{listed_map, listing_distinct, numbered}
use Rattle.lh_exchange_laws.proofs.ReadBytes.{HasBytes, records_have_bytes}
use Rattle.lh_exchange_laws.proofs.SameRecords.{Distinct, IsWithin, same_records}

-- what holds of each record of each list holds of each of all
in_all : (P : Pair → Type 0) (lists : List (List Pair)) → ((bucket : ℕ) → All P (list_at lists bucket)) →
    All P (all_of lists)
in_all P [] h = All-nil P
in_all P (pairs ∷ lists) h = All-append P pairs (all_of lists) (h 0) (in_all P lists (λ bucket. h (suc bucket)))

-- records are among others that have the same map
within_same : LookupLaw → (xs ys : List Pair) → Distinct xs → Distinct ys → map_of xs ≡ map_of ys → IsWithin xs ys
within_same lookup xs ys dx dy e p h =
    (lookup ys p.key p.value dy).0 (sym (ap (λ m. get m p.key) e) ∙ (lookup xs p.key p.value dx).1 h)

-- records of one map, no key twice, are one another in some order
same_map_permuted : LookupLaw → (xs ys : List Pair) → Distinct xs → Distinct ys → map_of xs ≡ map_of ys →
    IsPermutation xs ys
same_map_permuted lookup xs ys dx dy e =
    same_records xs ys dx dy (within_same lookup xs ys dx dy e) (within_same lookup ys xs dy dx (sym e))

module _ (address : AddressLaw) (lookup : LookupLaw) (placed : PlacedLaw) (exact : CdbIsExactLaw)
    (written : WrittenIsReadLaw) (back : RoundTripLaw) where
  -- a listing of the file to which calls lead that add records has them
  listed_permuted : (settings : Settings) (pairs : List Pair) (l : Lists) → IsLedTo settings (map adding pairs) l →
      before_first_met (map adding pairs) ≡ None → IsPermutation pairs (all_of l.lists)
  listed_permuted settings pairs l led none =
      let added = added_to_none pairs none in
      same_map_permuted lookup pairs (all_of l.lists) added.1 (listing_distinct l led.listing)
      (sym added.0 ∙ sym (listed_map address placed settings (outcome empty (map adding pairs)) _ l led))

  -- the image of such a listing
  image_dumped : (version : Version) (settings : Settings) (format : StreamFormat) (input image : List ℕ)
      (pairs : List Pair) → IsBytes input → records_in input ≡ Ok pairs →
      IsImageAfter (IsLedTo settings) version (map adding pairs) image →
      before_first_met (map adding pairs) ≡ None → DumpsRecordsOf input format image
  unfolding export_due exported_text
  image_dumped version settings format input image pairs bytes read made none =
      let l = made.listing in
      let same : IsPermutation pairs (listed_records l) =
      subst (IsPermutation pairs) (sym (numbered l.lists)) (listed_permuted settings pairs l made.led none) in
      let each : All HasBytes (listed_records l) =
      All-permutation HasBytes pairs (listed_records l) same (records_have_bytes exact input pairs bytes read) in
      let within : All IsRecord (listed_records l) =
      subst (All IsRecord) (sym (numbered l.lists)) (in_all IsRecord l.lists made.led.listing.records) in
      record {
        text = exported_text format l;
        due =
            ap (text_or_fault (exported_text format))
            (ap reading_of made.bytes ∙ back version l made.led.listing made.fits.fits made.fits.few);
        same = record {
          records = pairs;
          others = listed_records l;
          read = read;
          read_other = written format (listed_records l) (λ k d below. record {
            within = within k d below;
            key = (each k d below).0;
            value = (each k d below).1;
          });
          same = same;
        };
      }

  -- the calls that were made are those that add the records, and none met its key
  none_first : (calls made : List Call) (first : Option ℕ) → once_each calls first ≡ Ok made →
      (first ≡ None) × (calls ≡ made)
  none_first calls made None h = (refl, cc h)
  none_first calls made (Some n) h = cc h

  loaded : (version : Version) (settings : Settings) (format : StreamFormat) (input image : List ℕ)
      (given : RecordsOrFault) → IsBytes input → records_in input ≡ given →
      EndsLoadingOf version settings Done (stream_calls given) (Some []) (Some image) →
      DumpsRecordsOf input format image
  loaded version settings format input image (Err fault) bytes read ends = cc ends.2
  loaded version settings format input image (Ok pairs) bytes read ends =
      let met = none_first (map adding pairs) ends.0 (before_first_met (map adding pairs)) ends.2 in
      image_dumped version settings format input image pairs bytes read
      (subst (IsImageAfter (IsLedTo settings) version (map adding pairs)) (sym ends.4)
      (subst (λ (calls : List Call). IsImageAfter (IsLedTo settings) version calls ends.1) (sym met.1) ends.3))
      met.0

  -- what was loaded is dumped
  pub loaded_is_dumped : LoadedIsDumpedLaw
  unfolding EndsLoading
  loaded_is_dumped version settings format input image bytes ends =
      loaded version settings format input image (records_in input) bytes refl ends
