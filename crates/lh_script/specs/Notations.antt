-- Keys and values as words of a line, in a notation.
use Rattle.std.specs.Prelude.{ℕ, List, Option}
use Rattle.lh_page.specs.Texts.{hexadecimal_text}
use Rattle.lh_script.specs.Hexadecimal.{hexadecimal_bytes}
use Rattle.lh_script.specs.PlainTexts.{plain_bytes, plain_text}
use Rattle.lh_script.specs.declared.fault.LineFault.{LineFault}
use Rattle.lh_script.specs.declared.fault.LineFault.TheVariants.{BadHexadecimal, BadText}
use Rattle.lh_script.specs.declared.notation.Notation.{Notation}
use Rattle.lh_script.specs.declared.notation.Notation.TheVariants.{Hexadecimal, Text}

-- the bytes that a word stands for
abbrev pub byte_string : Notation → List ℕ → Option (List ℕ)
byte_string Hexadecimal word = hexadecimal_bytes word
byte_string Text word = plain_bytes word

-- the word of some bytes
abbrev pub byte_text : Notation → List ℕ → List ℕ
byte_text Hexadecimal bytes = hexadecimal_text bytes
byte_text Text bytes = plain_text bytes

-- the fault of a word that stands for no bytes
abbrev pub bad_in : Notation → LineFault
bad_in Hexadecimal = BadHexadecimal
bad_in Text = BadText
