-- Empty listings are the parts of the empty map.
use Rattle.std.proofs.Common.{zero, suc, ◌≡◌, ℕ, ◌==◌, Bool, true, false, cond, List, [], length, Option, None, refl}
use Rattle.std.proofs.Common.{sym, ap, ◌∙◌, subst}
use Rattle.std.specs.FinMap.{empty, get, get-empty}
use Rattle.std.specs.List.{All}
use Rattle.std.specs.Ordering.{nat_cmp}
use Rattle.std.specs.Cmp.Lexicographic.{slice_cmp}
use Rattle.std.specs.Prelude.{replicate}
use Rattle.std.proofs.lemmas.Option.{get_or_from_slice_get, slice_get_within}
use Rattle.lh_addr.specs.Settings.{Settings}
use Rattle.lh_bucket.specs.Listing.{Lists, all_of}
use Rattle.lh_bucket.specs.PlainMap.{Records}
use Rattle.lh_bucket.specs.Records.{map_of}
use Rattle.lh_settling.specs.Settled.{map_in}
use Rattle.lh_shards.specs.Number.{home_of}
use Rattle.lh_shards.specs.OneMap.{IsPart}
use Rattle.lh_shards.specs.Settling.{AreParts}

no_records : (n : ℕ) → all_of (replicate n []) ≡ []
no_records zero = refl
no_records (suc n) = no_records n

no_map : map_of [] ≡ empty
unfolding map_of
no_map = refl

none_of_none : (b : Bool) (o : Option (List ℕ)) → o ≡ None → o ≡ cond b o None
none_of_none true o e = refl
none_of_none false o e = e

empty_part : (n i : ℕ) → IsPart n i empty empty
empty_part n i key = none_of_none (home_of n key == i) (get empty key) (get-empty (slice_cmp nat_cmp) key)

-- empty listings are the parts of the empty map
pub empties_are_parts : (config : Settings) (listings : List Lists) →
    All (λ (listing : Lists). listing ≡ record { config = config; lists = replicate config.initial [] }) listings →
    AreParts empty listings
empties_are_parts config listings each i listing at =
    let is : listing ≡ record { config = config; lists = replicate config.initial [] } =
    subst (λ (l : Lists). l ≡ record { config = config; lists = replicate config.initial [] })
    (get_or_from_slice_get listings i listing listing at)
    (each i listing (slice_get_within listings i listing at)) in
    let no : map_in listing ≡ empty = ap map_in is ∙ ap map_of (no_records config.initial) ∙ no_map in
    subst (λ (m : Records). IsPart (length listings) i empty m) (sym no) (empty_part (length listings) i)
