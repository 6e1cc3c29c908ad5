-- A log that is one act longer, and the stamps of two hands' acts
use Rattle.std.proofs.Common.{◌≡◌, ℕ, zero, suc, ◌<◌, List, [], ◌∷◌, ◌++◌, length, false, refl, sym, ap, arith}
use mathlib.Core.Option.{some, some-ne-none}
use lib.ListN.{get_elem?}
use Rattle.lh_bucket.specs.PlainMap.{Records}
use Rattle.lh_settling.specs.Acts.{stamps_of}
use Rattle.lh_words.specs.History.Log.{passed, left_after, IsLegalAct, IsLegalLog, lines_of, stamps_in}
use Rattle.lh_words.specs.declared.seat_view.Entry.{Entry}

-- one act more: what the log leaves, and that it is legal
pub left_after-snoc : (m : Records) (log : List Entry) (e : Entry) →
    left_after m (log ++ e ∷ []) ≡ passed (left_after m log) e
left_after-snoc m [] e = refl
left_after-snoc m (b ∷ log) e = left_after-snoc (passed m b) log e

-- a legal log stays so with one act more that, unless it is outside, is legal there
pub legal-snoc : (m : Records) (log : List Entry) (e : Entry) → IsLegalLog m log →
    (e.outside ≡ false → IsLegalAct (left_after m log) e) → IsLegalLog m (log ++ e ∷ [])
legal-snoc m [] e legal is = (is, tt)
legal-snoc m (b ∷ log) e legal is = (legal.0, legal-snoc (passed m b) log e legal.1 is)

-- the stamps of two logs
pub stamps_in-append : (xs ys : List Entry) → stamps_in (xs ++ ys) ≡ stamps_in xs ++ stamps_in ys
stamps_in-append [] ys = refl
stamps_in-append (x ∷ xs) ys = ap (λ l. x.line.stamp ∷ l) (stamps_in-append xs ys)

-- the stamps of the lines of some acts
pub stamps_of-lines : (es : List Entry) → stamps_of (lines_of es) ≡ stamps_in es
stamps_of-lines [] = refl
stamps_of-lines (e ∷ es) = ap (λ l. e.line.stamp ∷ l) (stamps_of-lines es)

-- what stands in a log stands before its end
pub before_end : (log : List Entry) (place : ℕ) (e : Entry) → get_elem? log place ≡ some e → place < length log
before_end [] place e at = absurd (some-ne-none e (sym at))
before_end (b ∷ log) zero e at = omega arith
before_end (b ∷ log) (suc place) e at = let h = before_end log place e at in omega arith
