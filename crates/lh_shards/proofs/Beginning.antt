-- Traced shards that are being opened, one listing after another
use Rattle.std.proofs.Common.{◌≡◌, ℕ, ◌-◌, ◌^◌, ◌<◌, Bool, true, List, [], ◌∷◌, ◌++◌, length, min, Some}
use Rattle.std.proofs.Common.{refl, sym, ap, ◌∙◌, subst, ⊎_elim, arith}
use Rattle.std.specs.List.{slice_get}
use Rattle.std.proofs.lemmas.Option.{same_Some, slice_get_within}
use Rattle.lh_bucket.specs.Listing.{Lists, EachPlace, count_of}
use Rattle.lh_file.specs.Buckets.Rooms.{FitsAt}
use Rattle.lh_file.specs.FileState.{FileState}
use Rattle.lh_file.specs.FileState.{IsBegun}
use Rattle.lh_shards.specs.Openings.{AreBegun, AreBrandsOf, table_of, tables_of}
use Rattle.lh_shards.specs.Rooms.{FitFiles, FitListings}
use Rattle.lh_shards.proofs.Places.{at_push, there}

-- the file is begun from a listing as this shard
abbrev pub IsBegunAs : Lists → Bool → ℕ → FileState → Type 0
IsBegunAs listing recording shard file =
    IsBegun listing recording (min (count_of listing.lists) (2 ^ 64 - 1)) file × (file.shard ≡ shard)

-- each of these files is begun from the listing of its place
abbrev pub BegunFrom : List Lists → Bool → List FileState → Type 0
BegunFrom listings recording files =
    (shard : ℕ) (listing : Lists) (file : FileState) → slice_get listings shard ≡ Some listing →
    slice_get files shard ≡ Some file → IsBegunAs listing recording shard file

-- with one file more, begun from the next listing, each is begun from the listing of its place
pub begun_next : (listings : List Lists) (recording : Bool) (files : List FileState) (shard : ℕ) (listing : Lists)
    (file : FileState) → length files ≡ shard → slice_get listings shard ≡ Some listing →
    IsBegunAs listing recording shard file → BegunFrom listings recording files →
    BegunFrom listings recording (files ++ file ∷ [])
begun_next listings recording files shard listing file many at new was k other f kl kf =
    ⊎_elim
    (λ e. let here : k ≡ shard = e.0 ∙ many in
    let same : listing ≡ other =
    same_Some listing other (sym at ∙ subst (λ j. slice_get listings j ≡ Some other) here kl) in
    subst (λ j. IsBegunAs other recording j f) (sym here)
    (subst (λ l. IsBegunAs l recording shard f) same
    (subst (λ g. IsBegunAs listing recording shard g) (sym e.1) new)))
    (λ old. was k other f kl old)
    (at_push files file k f kf)

-- their tables are those of their shards
pub brands_of : (listings : List Lists) (recording : Bool) (files : List FileState) →
    AreBegun listings recording files → AreBrandsOf true (tables_of files) files
brands_of listings recording files begun shard file at =
    let lt : shard < length files = slice_get_within files shard file at in
    let from : (x : Lists) × (slice_get listings shard ≡ Some x) =
    there listings shard (omega (arith, lt, begun.count)) in
    let own : file.shard ≡ shard = (begun.each shard from.0 file from.1 at).1 in record {
      named_is = refl;
      own_is = λ traced. sym (ap table_of (ap (slice_get files) own ∙ at));
    }

-- where the records of the listings have room, so have those that the files begin from
pub fit_of : (room : ℕ) (listings : List Lists) (recording : Bool) (files : List FileState) →
    AreBegun listings recording files → FitListings room listings → FitFiles room files
fit_of room listings recording files begun fit narrow shard file at =
    let lt : shard < length files = slice_get_within files shard file at in
    let from : (x : Lists) × (slice_get listings shard ≡ Some x) =
    there listings shard (omega (arith, lt, begun.count)) in
    subst (λ (l : Lists). EachPlace (FitsAt room) l.lists) (sym (begun.each shard from.0 file from.1 at).0.listing_is)
    (fit narrow shard from.0 from.1)
