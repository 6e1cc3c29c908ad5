-- What the results of calls without an answer stand for
use Rattle.std.specs.Prelude.{◌≡◌, ℕ, Bool, true, false, List, Option, Some, None}
use Rattle.lh_bucket.specs.declared.call.Reply.{Reply}
use Rattle.lh_bucket.specs.declared.call.Reply.TheVariants.{Found, Absent, Inserted, Exists, Deleted, Replaced}

-- the reply to a search, by whether the key was there and what was read of it
abbrev pub read_reply : List ℕ → Bool → Reply
read_reply value true = Found value
read_reply value false = Absent

-- the reply to an insert, by whether its record is new
abbrev pub put_reply : Bool → Reply
put_reply true = Inserted
put_reply false = Exists

-- the reply to a replace, by whether the key was there
abbrev pub set_reply : Bool → Reply
set_reply true = Replaced
set_reply false = Absent

-- the reply to a delete, by whether the key was there
abbrev pub remove_reply : Bool → Reply
remove_reply true = Deleted
remove_reply false = Absent

-- what a closure returned of the value that a search found and lent to it, or that there was none
abbrev pub LendsTo : {T : Type 0} → (List ℕ → T → Type 0) → Reply → Option T → Type 0
LendsTo returns (Found value) (Some told) = returns value told
LendsTo returns (Found value) None = ⊥
LendsTo returns given (Some told) = ⊥
LendsTo returns given None = given ≡ Absent
