-- The totals of a settled run: what they count, and how they read
use Rattle.std.specs.Prelude.{◌≡◌, ◌==◌, ℕ, Bool, true, false, List, [], ◌++◌, if◌then◌else◌, length, count_by, codes}
use Rattle.lh_bucket.specs.declared.call.Reply.{Reply}
use Rattle.lh_bucket.specs.declared.call.Reply.TheVariants.{Found, Absent, Inserted, Exists, Deleted, Replaced}
use Rattle.lh_subcommands.specs.ImageTexts.{number_line}
use Rattle.lh_script.specs.Texts.{line}
use Rattle.lhash.specs.declared.driven.Driven.{Driven}

-- whether a reply is a value that was found
abbrev pub is_found : Reply → Bool
is_found (Found value) = true
is_found _ = false

-- whether it says that the key is absent
abbrev pub is_absent : Reply → Bool
is_absent Absent = true
is_absent _ = false

-- whether it says that the record was inserted
abbrev pub is_inserted : Reply → Bool
is_inserted Inserted = true
is_inserted _ = false

-- whether it says that the key exists
abbrev pub is_exists : Reply → Bool
is_exists Exists = true
is_exists _ = false

-- whether it says that the record was deleted
abbrev pub is_deleted : Reply → Bool
is_deleted Deleted = true
is_deleted _ = false

-- whether it says that the value was replaced
abbrev pub is_replaced : Reply → Bool
is_replaced Replaced = true
is_replaced _ = false

-- The totals count these replies: all of them, and those of each kind.
pub record Counts (replies : List Reply) (d : Driven) : Type 0 where
  pub calls : d.calls ≡ length replies
  pub found : d.found ≡ count_by is_found replies
  pub absent : d.absent ≡ count_by is_absent replies
  pub inserted : d.inserted ≡ count_by is_inserted replies
  pub exists : d.exists ≡ count_by is_exists replies
  pub deleted : d.deleted ≡ count_by is_deleted replies
  pub replaced : d.replaced ≡ count_by is_replaced replies

-- how many replies of each kind there were, a line each
unfoldable pub replies_text : Driven → List ℕ
replies_text d =
    number_line (codes "found ") d.found
    ++ number_line (codes "absent ") d.absent
    ++ number_line (codes "inserted ") d.inserted
    ++ number_line (codes "exists ") d.exists
    ++ number_line (codes "deleted ") d.deleted
    ++ number_line (codes "replaced ") d.replaced

-- a line with the number of snapshots, where any were asked for
unfoldable pub snapshots_text : ℕ → List ℕ
snapshots_text snapshots = if snapshots == 0 then [] else number_line (codes "snapshots ") snapshots

-- what `drive` writes without snapshots: a line with a word alone, and the totals
abbrev pub driven_text : Driven → List ℕ
driven_text d =
    line (codes "settled")
    ++ number_line (codes "calls ") d.calls
    ++ replies_text d
    ++ number_line (codes "records ") d.records
