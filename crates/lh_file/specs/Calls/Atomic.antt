-- What the calls promise that read what is under a key and write there in one act
use Rattle.std.specs.Prelude.{◌≡◌, ◌≢◌, ℕ, Bool, true, false, List, Option, Some, None, is_some, Result, IfOk}
use Rattle.lh_bucket.specs.PlainMap.{key_of}
use Rattle.lh_bucket.specs.declared.call.Call.{Call}
use Rattle.lh_bucket.specs.declared.call.Call.TheVariants.{Search, Insert, Delete, Replace}
use Rattle.lh_bucket.specs.declared.call.Reply.{Reply}
use Rattle.lh_bucket.specs.declared.call.Reply.TheVariants.{Found, Absent, Inserted, Replaced}
use Rattle.lh_file.specs.Calls.Lent.{remove_reply}
use Rattle.lh_file.specs.Calls.Served.{Makes}
use Rattle.lh_file.specs.FileState.{FileState}
use Rattle.lh_file.specs.History.Entered.{HasActedOn}
use Rattle.lh_file.specs.Words.HandState.{HandState}
use Rattle.lh_file.specs.declared.calls.atomic.Compared.{Compared}
use Rattle.lh_file.specs.declared.calls.atomic.Compared.TheVariants as compared
use Rattle.lh_file.specs.declared.fault.FileFault.{FileFault}

-- what a call does by a key under which it finds this, or nothing: the result that it gives, and the one act that it
-- makes, with the act's reply
abbrev pub Reaction : Type 0 → Type 1
Reaction T = List ℕ → Option (List ℕ) → T → Call → Reply → Type 0

-- What every call promises that reads and writes in one act: whether the file is traced, the file, the key, its hand
-- before, what it does, its result, and its hand after
pub record MakesAtOnce {T : Type 0} (traced : Bool) (file : FileState) (key : List ℕ) (old : HandState)
    (Does : Reaction T) (result : Result T FileFault) (new : HandState) : Type 0 where
  -- Something was under the key, or nothing. What the call has done with it
  pub was : Option (List ℕ)
  pub call : Call
  pub given : Reply
  pub by : key_of call ≡ key
  pub does : IfOk result (λ t. Does key was t call given)
  -- is the one act that its hand has made,
  pub made : Makes file old call result (λ t. given) new
  -- and in a traced file just that was under the key, in the history, when the act was made.
  pub met : traced ≡ true → IfOk result (λ t. HasActedOn old call given was new)

-- `upsert` adds the record, or gives the key this value in place of its own: whether the record is new.
abbrev pub Upserts : List ℕ → Reaction Bool
Upserts value key None is_new call given = (is_new ≡ true) × (call ≡ Insert key value) × (given ≡ Inserted)
Upserts value key (Some was) is_new call given = (is_new ≡ false) × (call ≡ Replace key value) × (given ≡ Replaced)

-- `get_or_put` hands out the value that is there, or adds the record.
abbrev pub GetsOrPuts : List ℕ → Reaction (Option (List ℕ))
GetsOrPuts value key None there call given = (there ≡ None) × (call ≡ Insert key value) × (given ≡ Inserted)
GetsOrPuts value key (Some was) there call given = (there ≡ Some was) × (call ≡ Search key) × (given ≡ Found was)

-- `take` deletes the record, and hands out the value that it had.
abbrev pub Takes : Reaction (Option (List ℕ))
Takes key was taken call given = (taken ≡ was) × (call ≡ Delete key) × (given ≡ remove_reply (is_some was))

-- `update` gives the key what the closure makes of its value: whether the key is there.
abbrev pub Updates : (List ℕ → List ℕ → Type 0) → Reaction Bool
Updates makes key None is_there call given = (is_there ≡ false) × (call ≡ Search key) × (given ≡ Absent)
Updates makes key (Some was) is_there call given =
    (value : List ℕ) × makes was value × (is_there ≡ true) × (call ≡ Replace key value) × (given ≡ Replaced)

-- `merge` adds the record with the first value, or gives the key what the closure makes of its value: whether the
-- record
-- is new.
abbrev pub Merges : List ℕ → (List ℕ → List ℕ → Type 0) → Reaction Bool
Merges first makes key None is_new call given = (is_new ≡ true) × (call ≡ Insert key first) × (given ≡ Inserted)
Merges first makes key (Some was) is_new call given =
    (value : List ℕ) × makes was value × (is_new ≡ false) × (call ≡ Replace key value) × (given ≡ Replaced)

-- `compare_and_set` gives the key a value in place of the expected one, and of no other.
abbrev pub ComparesAndSets : List ℕ → List ℕ → Reaction Compared
ComparesAndSets expected value key None told call given =
    (told ≡ compared.Absent) × (call ≡ Search key) × (given ≡ Absent)
ComparesAndSets expected value key (Some was) compared.Replaced call given =
    (was ≡ expected) × (call ≡ Replace key value) × (given ≡ Replaced)
ComparesAndSets expected value key (Some was) compared.Differs call given =
    (was ≢ expected) × (call ≡ Search key) × (given ≡ Found was)
ComparesAndSets expected value key (Some was) compared.Absent call given = ⊥
