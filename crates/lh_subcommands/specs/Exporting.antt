-- What `dump` writes in the formats of other stores
use Rattle.std.specs.Prelude.{ℕ, ◌+◌, ◌<◌, ◌≤◌, List, Result, Vec, flat_map, length, vec_capacity}
use Rattle.std.specs.declared.alloc.Global.{Global}
use Rattle.std.specs.List.{range_with_len}
use Rattle.lh_bucket.specs.Listing.{Lists, list_at, size}
use Rattle.lh_exchange.specs.StreamTexts.{longest_exchanged, stream_text}
use Rattle.lh_exchange.specs.declared.format.StreamFormat.{StreamFormat}
use Rattle.lh_image.specs.Reading.{reading_of}
use Rattle.lh_page.specs.declared.pair.Pair.{Pair}
use Rattle.lh_subcommands.specs.Devices.{written_at_once}
use Rattle.lh_subcommands.specs.Images.{text_or_fault}
use Rattle.lh_subcommands.specs.declared.status.InputFault.{InputFault}

-- the records of all buckets, these in rising order
abbrev pub listed_records : Lists → List Pair
listed_records l = flat_map (list_at l.lists) (range_with_len 0 (size l))

-- what `dump` writes in such a format: a stream of all records
unfoldable pub exported_text : StreamFormat → Lists → List ℕ
exported_text format l = stream_text format (listed_records l)

-- what it is to write for an input: the records of the listing that it is an image of
unfoldable pub export_due : StreamFormat → List ℕ → Result (List ℕ) InputFault
export_due format input = text_or_fault (exported_text format) (reading_of input)

-- fewer bytes wait than are written at once, and there is room for as many and a record more
pub record HasRecordRoom (waiting : Vec ℕ Global) : Type 0 where
  pub few : length waiting.items < written_at_once
  pub reserved : written_at_once + longest_exchanged ≤ vec_capacity waiting
