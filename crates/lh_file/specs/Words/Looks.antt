-- What a search knows of its record before its stamp is drawn
use Rattle.std.specs.Prelude.{◌≡◌, ◌<◌, ℕ, ⊤, List, length, IfSome}
use Rattle.lh_bucket.specs.Bucket.{Seen, content}
use Rattle.lh_bucket.specs.PagedBucket.{found_at}
use Rattle.lh_bucket.specs.PlainMap.{reply}
use Rattle.lh_bucket.specs.declared.call.Call.TheVariants.{Search}
use Rattle.lh_file.specs.declared.words.looks.Place.{Place}
use Rattle.lh_file.specs.declared.words.looks.Place.TheVariants.{Found, Unknown}

-- A place that was found is in the bucket, and a search for the key is answered by the record there; where none was
-- found, it is answered as absent.
abbrev pub IsPlaceIn : Seen → List ℕ → Place → Type 0
IsPlaceIn bucket key (Found place) =
    IfSome place (λ place. place < length bucket.pairs)
    × (found_at bucket.pairs place ≡ reply (content bucket) (Search key))
IsPlaceIn bucket key Unknown = ⊤
