-- What `load` and `dump` in the formats of other stores are to each other
use Rattle.std.specs.Prelude.{◌≡◌, ℕ, List, [], Some, Ok, IsPermutation}
use Rattle.hex.specs.Hex.{IsBytes}
use Rattle.lh_addr.specs.Settings.{Settings}
use Rattle.lh_exchange.specs.Exchanged.{records_in}
use Rattle.lh_exchange.specs.declared.format.StreamFormat.{StreamFormat}
use Rattle.lh_image.specs.declared.version.Version.{Version}
use Rattle.lh_page.specs.declared.pair.Pair.{Pair}
use Rattle.lh_subcommands.specs.Exporting.{export_due}
use Rattle.lh_subcommands.specs.Loading.{EndsLoading}
use Rattle.lh_subcommands.specs.declared.status.Status.TheVariants.{Done}

-- two streams are read without a fault, and the records of one are those of the other, in some order
pub record HaveSameRecords (stream other : List ℕ) : Type 0 where
  pub records : List Pair
  pub others : List Pair
  pub read : records_in stream ≡ Ok records
  pub read_other : records_in other ≡ Ok others
  pub same : IsPermutation records others

-- what `dump` is to write of an image, in a format, is a stream of the same records as this one
pub record DumpsRecordsOf (stream : List ℕ) (format : StreamFormat) (image : List ℕ) : Type 0 where
  pub text : List ℕ
  pub due : export_due format image ≡ Ok text
  pub same : HaveSameRecords stream text

-- Where `load` ends done on an input of bytes, and its writer held nothing before, `dump` is to write of the image that
-- it then holds, in either format, a stream of the same records.
abbrev pub LoadedIsDumpedLaw : Type 0
LoadedIsDumpedLaw =
    (version : Version) (settings : Settings) (format : StreamFormat) (input image : List ℕ) → IsBytes input →
    EndsLoading version settings input Done (Some []) (Some image) → DumpsRecordsOf input format image
