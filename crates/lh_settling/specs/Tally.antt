-- What is known while the records of a file are taken out of a map, one after another
use Rattle.std.specs.Prelude.{◌≡◌, ◌≢◌, ℕ, ◌⊎◌, List, [], Option, None, MatchOption}
use Rattle.std.specs.Option.{option_to_list}
use Rattle.std.specs.FinMap.{get}
use Rattle.lh_page.specs.declared.pair.Pair.{Pair}
use Rattle.lh_bucket.specs.PlainMap.{Records}
use Rattle.lh_settling.specs.Contents.{IsBefore, values_under}

-- a key was not met among some records, or stands there just as in a map
abbrev pub Fits : Records → List Pair → List ℕ → Type 0
Fits records done key =
    (values_under key done ≡ []) ⊎ (values_under key done ≡ option_to_list (get records key))

-- the least key that was met and doesn't stand as in the map, or none
abbrev pub IsStrayOf : Records → List Pair → Option (List ℕ) → Type 0
IsStrayOf records done stray =
    MatchOption stray
    ((key : List ℕ) → Fits records done key)
    (λ s. (¬ Fits records done s) × ((key : List ℕ) → IsBefore key s → Fits records done key))

-- of a map, what is left after the keys of some records were taken out, and the least
-- key among these that doesn't stand as in the map
pub record IsTally (records : Records) (done : List Pair) (left : Records) (stray : Option (List ℕ)) : Type 0 where
  pub fresh : (key : List ℕ) → values_under key done ≡ [] → get left key ≡ get records key
  pub met : (key : List ℕ) → values_under key done ≢ [] → get left key ≡ None
  pub first : IsStrayOf records done stray
