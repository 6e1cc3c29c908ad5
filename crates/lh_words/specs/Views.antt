-- What the rule knows of a hand: how such views begin, and how they are divided and joined
use Rattle.std.specs.Prelude.{ℕ, ◌+◌, ◌-◌, ◌^◌, Bool, false, [], ◌∷◌, ◌++◌, max}
use Rattle.lh_words.specs.declared.view.View.{View}

-- the number of buckets that a file began with, that it was opened with, and that it may have
pub record Sizes : Type 0 where
  pub initial : ℕ
  pub opened : ℕ
  pub max : ℕ

-- the view of a file's first hand: it knows the size that the file was opened with, and may draw 2^63 stamps
abbrev pub first_view : Sizes → View
first_view sizes = record {
  known = sizes.opened;
  has_right = false;
  stamps = [];
  left = 2 ^ 63;
  inserted = 0;
  deleted = 0;
  floor = 0;
  initial = sizes.initial;
  max = sizes.max;
}

-- what is left of a hand that was joined into another
abbrev pub spent : View
spent = record {
  known = 0;
  has_right = false;
  stamps = [];
  left = 0;
  inserted = 0;
  deleted = 0;
  floor = 0;
  initial = 0;
  max = 0;
}

-- the hand knows of this many buckets, and has the right to split or not
abbrev pub rooted : View → ℕ → Bool → View
rooted view known has_right = record view { known = known; has_right = has_right }

-- the hand drew one stamp more
abbrev pub stamped_with : View → ℕ → View
stamped_with view stamp = record view { stamps = view.stamps ++ stamp ∷ []; left = view.left - 1 }

-- the hand was told that there were this many acts
abbrev pub floored : View → ℕ → View
floored view floor = record view { floor = floor }

-- a hand that gave this many calls away
abbrev pub lessened : ℕ → View → View
lessened calls view = record view { left = view.left - calls }

-- the hand that got them: it knows what the other knows of the root and was told of the history, and has done nothing
abbrev pub branch : ℕ → View → View
branch calls view = record {
  known = view.known;
  has_right = false;
  stamps = [];
  left = calls;
  inserted = 0;
  deleted = 0;
  floor = view.floor;
  initial = view.initial;
  max = view.max;
}

-- two hands in one: it knows the greater size, was told the greater number of acts,
-- has the first one's right, and did what both did
abbrev pub joined_views : View → View → View
joined_views first second = record {
  known = max first.known second.known;
  has_right = first.has_right;
  stamps = first.stamps ++ second.stamps;
  left = first.left + second.left;
  inserted = first.inserted + second.inserted;
  deleted = first.deleted + second.deleted;
  floor = max first.floor second.floor;
  initial = first.initial;
  max = first.max;
}
