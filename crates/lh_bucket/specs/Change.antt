-- Changes as the calls that they are, and their replies
use Rattle.lh_bucket.specs.declared.call.Call.{Call}
use Rattle.lh_bucket.specs.declared.call.Call.TheVariants as call
use Rattle.lh_bucket.specs.declared.call.Reply.{Reply}
use Rattle.lh_bucket.specs.declared.call.Reply.TheVariants as reply
use Rattle.lh_bucket.specs.declared.change.Change.{Change}
use Rattle.lh_bucket.specs.declared.change.Change.TheVariants.{Insert, Delete, Replace}
use Rattle.lh_bucket.specs.declared.change.ChangeReply.{ChangeReply}
use Rattle.lh_bucket.specs.declared.change.ChangeReply.TheVariants.{Inserted, Exists, Deleted, Replaced, Absent}

-- the call that a change is, with the key and the value that it was lent
abbrev pub call_of : Change → Call
call_of (Insert key value) = call.Insert key.now value.now
call_of (Delete key) = call.Delete key.now
call_of (Replace key value) = call.Replace key.now value.now

-- the reply that a reply to a change is
abbrev pub reply_of : ChangeReply → Reply
reply_of Inserted = reply.Inserted
reply_of Exists = reply.Exists
reply_of Deleted = reply.Deleted
reply_of Replaced = reply.Replaced
reply_of Absent = reply.Absent
