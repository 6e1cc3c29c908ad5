-- Keys by words of eight bytes: whether two are the same, and the one-byte mark that tells most of them apart.
use Rattle.std.specs.Prelude.{ℕ, Bool, ◌&&◌, ◌==◌, ◌+◌, ◌*◌, ◌/◌, ◌%◌, ◌^◌, List}
use Rattle.byteorder.specs.Endian.{little_from}
use Rattle.lh_page.specs.Rows.{padded, key_room}

-- the number in the 8 bytes from a place
unfoldable pub word_at : List ℕ → ℕ → ℕ
word_at bytes place = little_from place 8 bytes

-- whether two rows of keys agree in their seven words
abbrev pub same_words : List ℕ → List ℕ → Bool
same_words a b =
    word_at a 0 == word_at b 0 && word_at a 8 == word_at b 8 && word_at a 16 == word_at b 16
    && word_at a 24 == word_at b 24 && word_at a 32 == word_at b 32 && word_at a 40 == word_at b 40
    && word_at a 48 == word_at b 48

-- the high byte of a sum of odd multiples of those words of a key's row
unfoldable pub mixed_words : List ℕ → ℕ
mixed_words bytes =
    (word_at bytes 0 * 11400714819323198485 + word_at bytes 8 * 14029467366897019727
    + word_at bytes 16 * 1609587929392839161 + word_at bytes 24 * 9650029242287828579
    + word_at bytes 32 * 2870177450012600261 + word_at bytes 40 * 15485907386658061715
    + word_at bytes 48 * 18397679294719823053) % 2 ^ 64 / 2 ^ 56

-- the mark of a key
abbrev pub mark_of : List ℕ → ℕ
mark_of key = mixed_words (padded key_room key)
