-- The rule of a running file, which holds of its words and of all its hands between any two atomic steps
use Rattle.std.specs.Prelude.{◌≡◌, ℕ, ◌+◌, ◌^◌, ◌%◌, ◌≤◌, ◌⊎◌, true, List, length, slice_index, if◌then◌else◌}
use mathlib.Core.Option.{some}
use lib.ListN.{get_elem?}
use Rattle.lh_addr.specs.RootWord.{buckets_of}
use Rattle.lh_words.specs.Sums.{total, times, once_below}
use Rattle.lh_words.specs.Views.{spent}
use Rattle.lh_words.specs.declared.numbers.FileWords.{FileWords}
use Rattle.lh_words.specs.declared.offsets.TheConstants.{ROOT, STAMPS, INSERTS, DELETES}
use Rattle.lh_words.specs.declared.view.View.{View}

-- a fact of every element of a list
abbrev pub Each : {A : Type 0} → List A → (A → Type 0) → Type 0
Each {A} list P = (place : ℕ) (element : A) → get_elem? list place ≡ some element → P element

-- how many rights to split a view has: one or none
abbrev pub rights_of : View → ℕ
rights_of view = if view.has_right then 1 else 0

-- the view is of a file that began with `initial` buckets and may have `max`
abbrev pub HasLimits : ℕ → ℕ → View → Type 0
HasLimits initial max view = (view.initial ≡ initial) × (view.max ≡ max)

-- The rule of a file that began with `initial` buckets and may have `max`
pub record IsRule (initial max : ℕ) (words : FileWords) (views : List View) : Type 0 where
  -- The file has no fewer buckets than it began with,
  pub least : initial ≤ buckets_of words.root
  -- and no more than it may have; it has fewer while the root word is odd
  pub greatest : buckets_of words.root + words.root % 2 ≤ max
  -- No hand has seen more buckets than there are
  pub known : Each views (λ view. view.known ≤ buckets_of words.root)
  -- Where the root word is odd exactly one hand has the right to split, and where it is even none has it
  pub right : total rights_of views ≡ words.root % 2
  -- The hand that has the right knows how many buckets there are
  pub exact : Each views (λ view. view.has_right ≡ true → view.known ≡ buckets_of words.root)
  -- Each number below the stamp word was drawn by exactly one hand, once, and no other number by any
  pub once : (x : ℕ) → total (λ view. times x view.stamps) views ≡ once_below x words.stamps
  -- The stamp word is the number of stamps that were drawn
  pub drawn : total (λ view. length view.stamps) views ≡ words.stamps
  -- What was drawn and what all hands may still draw are 2^63 together
  pub budget : words.stamps + total (λ view. view.left) views ≡ 2 ^ 63
  -- The counts are the sums of the hands' own counts
  pub inserts : total (λ view. view.inserted) views ≡ words.inserts
  pub deletes : total (λ view. view.deleted) views ≡ words.deletes
  -- No hand has counted more than it has drawn stamps
  pub few : Each views (λ view. view.inserted + view.deleted ≤ length view.stamps)
  -- No hand was told of more acts than there are
  pub floors : Each views (λ view. view.floor ≤ words.stamps)
  -- Each hand has the file's limits, or was joined into another
  pub limits : Each views (λ view. (view ≡ spent) ⊎ HasLimits initial max view)

-- the words of a file among those of its table
abbrev pub words_of : List ℕ → FileWords
words_of words = record {
  root = slice_index words ROOT;
  stamps = slice_index words STAMPS;
  inserts = slice_index words INSERTS;
  deletes = slice_index words DELETES;
}
