-- Reads and writes in turn.
use Rattle.std.proofs.Common.{inl, inr, ◌<◌, None, Some, IfSome, append-nil, length-append}
use Rattle.std.proofs.Common.{ℕ, List, [], ◌++◌, Option, ap, sym, ◌∙◌, subst, length}
use Rattle.std.proofs.Common.{arith}
use Rattle.std.proofs.KnownBytes.{Appends-kept, Consumes-trans, Consumes-nil}
use Rattle.std.specs.Io.KnownBytes.{Appends, Consumes, IsAtEnd, Keeps}
use Rattle.lh_subcommands.specs.Devices.{ReadsOnto, IsReadOf, TakesBeginning}

-- from a reader that is as it was nothing was taken
pub reads_none : (a : Option (List ℕ)) → Consumes a a []
reads_none a = Consumes-nil a

-- what was read and what was added to it since were taken from the reader together
pub reads_more : (a b c : Option (List ℕ)) (old new : List ℕ) → Consumes a b old → ReadsOnto b c old new →
    Consumes a c new
reads_more a b c old new h k = subst (Consumes a c) (sym k.2) (Consumes-trans a b c old k.0 h k.1)

-- what was taken up to the end of the reader is the whole input
pub read_whole : (a b : Option (List ℕ)) (v : List ℕ) (most : ℕ) → Consumes a b v → IsAtEnd b →
    IfSome a (λ input. IsReadOf most input v)
read_whole None b v most h k = tt
read_whole (Some x) None v most h k = absurd h
read_whole (Some x) (Some y) v most h k = inl (sym (h ∙ ap (λ z. v ++ z) k ∙ append-nil v))

-- what was taken, where it is more than the most bytes, shows that the input has more
pub read_part : (a b : Option (List ℕ)) (v : List ℕ) (most : ℕ) → Consumes a b v → most < length v →
    IfSome a (λ input. IsReadOf most input v)
read_part None b v most h k = tt
read_part (Some x) None v most h k = absurd h
read_part (Some x) (Some y) v most h k = inr (let e = ap length h ∙ length-append v y in omega arith, k)

-- a whole text is a beginning of itself
pub takes_whole : (a b c : Option (List ℕ)) (xs : List ℕ) → Appends a b xs → Keeps b c → TakesBeginning a c xs
takes_whole a b c xs h k = record { taken = xs; left = []; appended = Appends-kept a b c xs h k; whole = append-nil xs }
