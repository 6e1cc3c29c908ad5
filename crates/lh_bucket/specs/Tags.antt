-- How an answer is kept: with one key, at most one value, and a tag for the call and one for the reply
use Rattle.std.specs.Prelude.{◌≡◌, ℕ, Bool, true, false, List, [], refl}
use Rattle.std.proofs.Common.{sym}
use Rattle.lh_bucket.specs.declared.answer.Asked.{Asked}
use Rattle.lh_bucket.specs.declared.answer.Asked.TheVariants as asked
use Rattle.lh_bucket.specs.declared.answer.Given.{Given}
use Rattle.lh_bucket.specs.declared.answer.Given.TheVariants as given
use Rattle.lh_bucket.specs.declared.call.Call.{Call}
use Rattle.lh_bucket.specs.declared.call.Call.TheVariants.{Search, Insert, Delete, Replace}
use Rattle.lh_bucket.specs.declared.call.Reply.{Reply}
use Rattle.lh_bucket.specs.declared.call.Reply.TheVariants.{Found, Absent, Inserted, Exists, Deleted, Replaced}
use Rattle.lh_bucket.specs.Call.{key_of}

-- the call of a tag
abbrev pub call_by : Asked → List ℕ → List ℕ → Call
call_by asked.Search key value = Search key
call_by asked.Insert key value = Insert key value
call_by asked.Delete key value = Delete key
call_by asked.Replace key value = Replace key value

-- the reply of a tag
abbrev pub reply_by : Given → List ℕ → Reply
reply_by given.Found value = Found value
reply_by given.Absent value = Absent
reply_by given.Inserted value = Inserted
reply_by given.Exists value = Exists
reply_by given.Deleted value = Deleted
reply_by given.Replaced value = Replaced

-- the tag of a call
abbrev pub asked_of : Call → Asked
asked_of (Search key) = asked.Search
asked_of (Insert key value) = asked.Insert
asked_of (Delete key) = asked.Delete
asked_of (Replace key value) = asked.Replace

-- the tag of a reply
abbrev pub given_of : Reply → Given
given_of (Found value) = given.Found
given_of Absent = given.Absent
given_of Inserted = given.Inserted
given_of Exists = given.Exists
given_of Deleted = given.Deleted
given_of Replaced = given.Replaced

-- the value of a reply, and no bytes where it has none
abbrev pub value_found : Reply → List ℕ
value_found (Found value) = value
value_found _ = []

-- the value of a call, or else of its reply
abbrev pub value_of : Call → Reply → List ℕ
value_of (Search key) reply = value_found reply
value_of (Insert key value) reply = value
value_of (Delete key) reply = value_found reply
value_of (Replace key value) reply = value

-- whether the call or its reply has a value
abbrev pub has_value : Asked → Given → Bool
has_value asked.Search given.Found = true
has_value asked.Search _ = false
has_value asked.Insert _ = true
has_value asked.Delete _ = false
has_value asked.Replace _ = true

-- the tags and the value go together: only a search finds something, and where neither the call nor its reply has a
-- value, no bytes are kept
pub record GoTogether (call : Asked) (reply : Given) (value : List ℕ) : Type 0 where
  pub found : reply ≡ given.Found → call ≡ asked.Search
  pub empty : has_value call reply ≡ false → value ≡ []

-- ---- an answer's parts are those that its call and its reply have

pub key_back : (call : Asked) (key value : List ℕ) → key_of (call_by call key value) ≡ key
key_back asked.Search key value = refl
key_back asked.Insert key value = refl
key_back asked.Delete key value = refl
key_back asked.Replace key value = refl

pub asked_back : (call : Asked) (key value : List ℕ) → asked_of (call_by call key value) ≡ call
asked_back asked.Search key value = refl
asked_back asked.Insert key value = refl
asked_back asked.Delete key value = refl
asked_back asked.Replace key value = refl

pub given_back : (reply : Given) (value : List ℕ) → given_of (reply_by reply value) ≡ reply
given_back given.Found value = refl
given_back given.Absent value = refl
given_back given.Inserted value = refl
given_back given.Exists value = refl
given_back given.Deleted value = refl
given_back given.Replaced value = refl

pub value_back : (call : Asked) (reply : Given) (key value : List ℕ) → GoTogether call reply value →
    value_of (call_by call key value) (reply_by reply value) ≡ value
value_back asked.Insert reply key value h = refl
value_back asked.Replace reply key value h = refl
value_back asked.Search given.Found key value h = refl
value_back asked.Search given.Absent key value h = sym (h.empty refl)
value_back asked.Search given.Inserted key value h = sym (h.empty refl)
value_back asked.Search given.Exists key value h = sym (h.empty refl)
value_back asked.Search given.Deleted key value h = sym (h.empty refl)
value_back asked.Search given.Replaced key value h = sym (h.empty refl)
value_back asked.Delete given.Found key value h = refl
value_back asked.Delete given.Absent key value h = sym (h.empty refl)
value_back asked.Delete given.Inserted key value h = sym (h.empty refl)
value_back asked.Delete given.Exists key value h = sym (h.empty refl)
value_back asked.Delete given.Deleted key value h = sym (h.empty refl)
value_back asked.Delete given.Replaced key value h = sym (h.empty refl)
