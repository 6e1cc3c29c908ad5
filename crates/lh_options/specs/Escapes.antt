-- Text that a terminal shows as it stands
use Rattle.std.specs.Prelude.{ℕ, Bool, not, ◌&&◌, ◌==◌, List, nat_le}
use Rattle.std.specs.List.{list_all}

-- whether a byte is no control byte of ASCII; those of other characters are 128 and more
abbrev pub is_shown : ℕ → Bool
is_shown byte = nat_le 32 byte && not (byte == 127)

-- whether a text has no control byte
abbrev pub has_no_control : List ℕ → Bool
has_no_control text = list_all is_shown text
