-- What the exports answer
use Rattle.std.specs.Prelude.{◌≡◌, ℕ, ◌+◌, ◌≤◌, ◌⊎◌, List, Option, Some, None, Result, Ok, Err}
use Rattle.std.specs.FinMap.{get}
use Rattle.lh_bucket.specs.Listing.{Lists, all_of}
use Rattle.lh_bucket.specs.Records.{map_of}
use Rattle.lh_image.specs.declared.fault.ImageFault.{ImageFault}
use Rattle.lh_image.specs.Indexed.{HasRecordAt, StandsAt}
use Rattle.lh_image.specs.Layout.{view_of}
use Rattle.lh_image.specs.LookUp.{look_up, opening_fault}
use Rattle.lh_page.specs.Limits.{IsKey}
use Rattle.lhf.specs.declared.handle.Ask.{Ask}
use Rattle.lhf.specs.Codes.{code_of, place_of}

-- there is no such key
abbrev pub absent : ℕ
absent = 17

-- there is too little room for an image; the greatest code
abbrev pub too_small : ℕ
too_small = 21

-- the code of a fault and its place, or 0 for none
abbrev pub TellsFault : Option ImageFault → ℕ → ℕ → Type 0
TellsFault None code at = code ≡ 0
TellsFault (Some fault) code at = (code ≡ code_of fault) × (at ≡ place_of fault)

-- the first fault of bytes, or none, is told, or that memory ran out, or that the index has another length
abbrev pub IsJudged : Option ImageFault → ℕ → ℕ → Type 0
IsJudged due code at = (code ≡ 15) ⊎ (code ≡ 16) ⊎ TellsFault due code at

-- what is due is answered
abbrev pub IsReply : Option (List ℕ) → ℕ → List ℕ → Type 0
IsReply None code value = code ≡ absent
IsReply (Some due) code value = (code ≡ 0) × (value ≡ due)

-- the fault that opening shows, or else what is found
abbrev pub opened_first : Option ImageFault → Result (Option (List ℕ)) ImageFault → Result (Option (List ℕ)) ImageFault
opened_first (Some fault) found = Err fault
opened_first None found = found

-- what a look-up in bytes that weren't checked comes to
abbrev pub sought : List ℕ → List ℕ → Result (Option (List ℕ)) ImageFault
sought bytes key = opened_first (opening_fault bytes) (look_up (view_of bytes) key)

-- what such a look-up comes to is answered
abbrev pub IsSeekReply : Result (Option (List ℕ)) ImageFault → ℕ → ℕ → List ℕ → Type 0
IsSeekReply (Ok None) code at value = code ≡ absent
IsSeekReply (Ok (Some due)) code at value = (code ≡ 0) × (value ≡ due)
IsSeekReply (Err fault) code at value = (code ≡ code_of fault) × (at ≡ place_of fault)

-- of a key of a length that a key has, what the listing has is answered, and any other is absent
pub record IsAskReply (l : Lists) (ask : Ask) : Type 0 where
  pub found : IsKey ask.key.bytes.now →
      IsReply (get (map_of (all_of l.lists)) ask.key.bytes.now) ask.code ask.value.bytes.now
  pub strange : ¬ IsKey ask.key.bytes.now → ask.code ≡ absent

-- the first record from a place on is answered, and the place behind it, or that there is none
abbrev pub IsNextReply : List ℕ → ℕ → ℕ → ℕ → List ℕ → List ℕ → Type 0
IsNextReply bytes from code after key value =
    ((code ≡ 0) × (at : ℕ) × (after ≡ at + 1) × StandsAt bytes from at key value)
    ⊎ ((code ≡ absent) × ((i : ℕ) → from ≤ i → HasRecordAt bytes i → ⊥))
