-- Rows of bytes: zeros, zeros behind other bytes, fields, and the room of a key.
use Rattle.std.specs.Prelude.{ℕ, ◌-◌, List, ◌++◌, length, take, drop, replicate}
use Rattle.lh_page.specs.Limits.{longest_key}

-- n zeros
abbrev pub zeros : ℕ → List ℕ
zeros n = replicate n 0

-- a list of bytes, with zeros behind it up to length n
abbrev pub padded : ℕ → List ℕ → List ℕ
padded n bytes = bytes ++ zeros (n - length bytes)

-- the bytes of a size from an offset on
abbrev pub field : List ℕ → ℕ → ℕ → List ℕ
field bytes offset size = take size (drop offset bytes)

-- the bytes of memory of a key
abbrev pub key_room : ℕ
key_room = longest_key
