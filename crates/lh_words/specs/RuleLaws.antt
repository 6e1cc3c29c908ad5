-- What the rule's sums say, in plain words
use Rattle.std.specs.Prelude.{◌≡◌, ◌≢◌, ℕ, ◌%◌, ◌<◌, ◌≤◌, false, List}
use mathlib.Core.Option.{some}
use lib.ListN.{get_elem?}
use Rattle.lh_words.specs.Rule.{Each, rights_of, IsRule}
use Rattle.lh_words.specs.Sums.{times}
use Rattle.lh_words.specs.declared.numbers.FileWords.{FileWords}
use Rattle.lh_words.specs.declared.view.View.{View}

-- exactly one view has one of what is counted, and every other has none
pub record IsInOne (count : View → ℕ) (views : List View) : Type 0 where
  pub id : ℕ
  pub view : View
  pub there : get_elem? views id ≡ some view
  pub one : count view ≡ 1
  pub others : (j : ℕ) (other : View) → j ≢ id → get_elem? views j ≡ some other → count other ≡ 0

-- Where the root word is odd, exactly one hand has the right to split.
abbrev pub OneRight : Type 0
OneRight =
    (initial max : ℕ) (words : FileWords) (views : List View) → IsRule initial max words views →
    words.root % 2 ≡ 1 → IsInOne rights_of views

-- Where it is even, none has it.
abbrev pub NoRight : Type 0
NoRight =
    (initial max : ℕ) (words : FileWords) (views : List View) → IsRule initial max words views →
    words.root % 2 ≡ 0 → Each views (λ view. view.has_right ≡ false)

-- Each number below the stamp word stands in the list of exactly one hand, once.
abbrev pub DrawnOnce : Type 0
DrawnOnce =
    (initial max : ℕ) (words : FileWords) (views : List View) → IsRule initial max words views →
    (x : ℕ) → x < words.stamps → IsInOne (λ view. times x view.stamps) views

-- No list has any other number.
abbrev pub NotDrawn : Type 0
NotDrawn =
    (initial max : ℕ) (words : FileWords) (views : List View) → IsRule initial max words views →
    (x : ℕ) → words.stamps ≤ x → Each views (λ view. times x view.stamps ≡ 0)
