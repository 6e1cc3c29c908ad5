-- The header of a db stream, line by line.
use Rattle.std.proofs.Common.{◌≡◌, ℕ, ◌+◌, suc, List, Option, None, Some, refl, ◌∙◌}
use Rattle.std.specs.Prelude.{Ok, Err}
use Rattle.lh_exchange.specs.DbHeader.{behind_header, header_cut, header_fault, header_from, header_line}
use Rattle.lh_exchange.specs.StreamLines.{whole_line}
use Rattle.lh_exchange.specs.declared.fault.StreamFault.{StreamFault}
use Rattle.lh_exchange.specs.declared.fault.StreamFault.TheVariants.{NoEnd}
use Rattle.lh_exchange.specs.declared.header.HeaderLine.TheVariants.{GoesOn, HeaderEnd}
use Rattle.lh_exchange.specs.declared.layout.Layout.{Layout}

-- the header from its next line on
pub one_line : (most less : ℕ) (named : Option Layout) (n : ℕ) (bytes : List ℕ) → most ≡ suc less →
    header_from most named n bytes
    ≡ header_cut (whole_line bytes) named n (λ layout behind. header_from less layout (n + 1) behind)
unfolding header_from
one_line most less named n bytes e = rw e refl

-- a line that goes on
pub header_goes_on : (most less : ℕ) (named layout : Option Layout) (n : ℕ) (bytes text behind : List ℕ) →
    most ≡ suc less → whole_line bytes ≡ Some (text, behind) → header_line named text ≡ Ok (GoesOn layout) →
    header_from most named n bytes ≡ header_from less layout (n + 1) behind
header_goes_on most less named layout n bytes text behind e f g = one_line most less named n bytes e ∙ rw (f, g) refl

-- the line with which the header ends
pub header_ends : (most less : ℕ) (named : Option Layout) (n : ℕ) (bytes text behind : List ℕ) →
    most ≡ suc less → whole_line bytes ≡ Some (text, behind) → header_line named text ≡ Ok HeaderEnd →
    header_from most named n bytes ≡ behind_header named n behind
header_ends most less named n bytes text behind e f g = one_line most less named n bytes e ∙ rw (f, g) refl

-- a line at fault
pub header_faulty : (most less : ℕ) (named : Option Layout) (n : ℕ) (bytes text behind : List ℕ)
    (fault : StreamFault) → most ≡ suc less → whole_line bytes ≡ Some (text, behind) →
    header_line named text ≡ Err fault → header_from most named n bytes ≡ Err (header_fault n fault)
header_faulty most less named n bytes text behind fault e f g = one_line most less named n bytes e ∙ rw (f, g) refl

-- no line more
pub header_stops : (most less : ℕ) (named : Option Layout) (n : ℕ) (bytes : List ℕ) → most ≡ suc less →
    whole_line bytes ≡ None → header_from most named n bytes ≡ Err (header_fault n NoEnd)
header_stops most less named n bytes e f = one_line most less named n bytes e ∙ rw f refl
