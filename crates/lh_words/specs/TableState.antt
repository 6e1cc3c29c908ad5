-- What contracts see of the table of a file's words
use Rattle.std.specs.Prelude.{◌≡◌}
use Rattle.atomic_table.specs.Seated.{TableId}
use Rattle.lh_addr.specs.Settings.{IsInRange}
use Rattle.lh_bucket.specs.Listing.{Lists}
use Rattle.lh_words.specs.declared.offsets.TheConstants.{WIDTH}
use Rattle.lh_words.specs.declared.table.WordTable.TheInside.{Inside}

-- which table it is, and the listing that its file was opened from
pub record TableState : Type 0 where
  pub id : TableId
  pub listing : Lists

-- what contracts see of the fields
abbrev pub table_state_of : {M : Type 0} → Inside M → TableState
table_state_of table = record { id = table.words.shared.table_id; listing = table.words.shared.key }

-- the table has its words and no slot, and the listing's configuration is one that a file may have
pub record IsWordTable {M : Type 0} (table : Inside M) : Type 0 where
  pub in_range : IsInRange table.words.shared.key.config
  pub words : table.words.shared.table_id.words ≡ WIDTH
  pub slots : table.words.shared.table_id.slots ≡ 0
