-- What filling a buffer from a reader gives
use Rattle.std.specs.Prelude.{◌≡◌, ℕ, ◌<◌, ◌≤◌, List, length, take, drop, min, Option, Some, Result, Ok, Err}
use Rattle.std.specs.Io.KnownBytes.{Consumes, IsAtEnd}
use Rattle.lh_page.specs.PageLaws.{AreBytes}
use Rattle.lh_image.specs.declared.fault.ImageFault.{ImageFault}
use Rattle.lh_image.specs.declared.fault.ImageFault.TheVariants.{Short, ReadFault, Memory}

-- n bytes came to the front of the buffer, fewer than it holds only at the end
pub record Fills (old new : Option (List ℕ)) (n : ℕ) (buffer : List ℕ) : Type 0 where
  pub within : n ≤ length buffer
  pub bytes : Consumes old new (take n buffer)
  pub end : n < length buffer → IsAtEnd new

-- of these bytes as many came to the front of the buffer as it holds, or all
pub record IsFilled (bytes : List ℕ) (n : ℕ) (buffer : List ℕ) (now : Option (List ℕ)) : Type 0 where
  pub count : n ≡ min (length buffer) (length bytes)
  pub front : take n buffer ≡ take (length buffer) bytes
  pub rest : now ≡ Some (drop (length buffer) bytes)

-- the front of these bytes came, as much of it as the buffer holds
pub record FillsWhole (bytes buffer : List ℕ) (now : Option (List ℕ)) : Type 0 where
  pub enough : length buffer ≤ length bytes
  pub front : buffer ≡ take (length buffer) bytes
  pub rest : now ≡ Some (drop (length buffer) bytes)
  pub each_byte : AreBytes buffer

-- why fewer bytes came than this many
abbrev pub IsCut : List ℕ → ℕ → ImageFault → Type 0
IsCut bytes size Short = length bytes < size
IsCut bytes size ReadFault = Unit {0}
IsCut bytes size Memory = Unit {0}
IsCut bytes size f = ⊥

-- the buffer was filled, or why it was not
abbrev pub ReadsWhole : {X : Type 0} → List ℕ → Result X ImageFault → List ℕ → Option (List ℕ) → Type 0
ReadsWhole bytes (Ok x) buffer now = FillsWhole bytes buffer now
ReadsWhole bytes (Err f) buffer now = IsCut bytes (length buffer) f
