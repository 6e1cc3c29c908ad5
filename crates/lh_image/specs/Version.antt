-- The versions of the image: what each begins with, and what its pages have room for
use Rattle.std.specs.Prelude.{ℕ, Bool, List, [], ◌∷◌, take, if◌then◌else◌}
use Rattle.std.specs.Str.{bytes_eq}
use Rattle.lh_page.specs.declared.format.Format.{Format}
use Rattle.lh_page.specs.Format.{version_1, version_2, page_size}
use Rattle.lh_image.specs.declared.version.Version.{Version}
use Rattle.lh_image.specs.declared.version.Version.TheVariants.{One, Two}

-- the bytes that tell the version
abbrev pub magic_bytes : ℕ
magic_bytes = 4

-- what they are: LHF1 or LHF2
abbrev pub magic : Version → List ℕ
magic One = 76 ∷ 72 ∷ 70 ∷ 49 ∷ []
magic Two = 76 ∷ 72 ∷ 70 ∷ 50 ∷ []

-- whether bytes begin as an image of a version does
unfoldable pub begins : List ℕ → Version → Bool
begins bytes version = bytes_eq (take magic_bytes bytes) (magic version)

-- the version of some bytes: 2 where they begin so, and 1 for all others
unfoldable pub version_of : List ℕ → Version
version_of bytes = if begins bytes Two then Two else One

-- what the pages have room for
abbrev pub format_of : Version → Format
format_of One = version_1
format_of Two = version_2

-- the most records of a page
abbrev pub slots : Version → ℕ
slots version = (format_of version).slots

-- the bytes of a page: 1,024 or 4,096
unfoldable pub page_bytes : Version → ℕ
page_bytes version = page_size (format_of version)
