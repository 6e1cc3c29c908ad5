-- Laws of a page's bytes: what is written, what is read, and which bytes are a page.
use Rattle.std.specs.Prelude.{◌≡◌, ℕ, ◌<◌, ◌≤◌, ◌↔◌, List, length, slice_index, None}
use Rattle.lh_page.specs.declared.format.Format.{Format}
use Rattle.lh_page.specs.declared.page.Page.{Page}
use Rattle.lh_page.specs.Format.{page_size}
use Rattle.lh_page.specs.PageFields.{page_of, fault_of}
use Rattle.lh_page.specs.PageTable.{IsPage, IsWritable, page_text}

-- each number of a row of bytes is one
abbrev pub AreBytes : List ℕ → Type 0
AreBytes bytes = (i : ℕ) → slice_index bytes i < 256

-- The table of a page is one row of bytes, and no other row has it.
abbrev pub PageTextLaw : Type 0
PageTextLaw = (f : Format) (bytes : List ℕ) (page : Page) → IsWritable f page →
    IsPage f bytes page ↔ (bytes ≡ page_text f page)

-- What is written is read back, without a fault where the page has room for its records.
abbrev pub ReadBackLaw : Type 0
ReadBackLaw = (f : Format) (bytes : List ℕ) (page : Page) (b : ℕ) → IsWritable f page → IsPage f bytes page →
    length page.pairs ≤ b → (page_of f bytes ≡ page) × (fault_of f bytes b ≡ None)

-- A page's bytes are the writing of their fields exactly where they have no fault.
abbrev pub FaultlessLaw : Type 0
FaultlessLaw = (f : Format) (bytes : List ℕ) → AreBytes bytes → length bytes ≡ page_size f →
    (fault_of f bytes f.slots ≡ None) ↔ (IsPage f bytes (page_of f bytes) × IsWritable f (page_of f bytes))
