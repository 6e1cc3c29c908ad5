-- How large the parts of a picture are, in pixels
use Rattle.std.specs.Prelude.{ℕ}

-- how far the first lane is from the left edge, how wide a lane is, and how high a row
abbrev pub lanes_left : ℕ
lanes_left = 48

abbrev pub lane_width : ℕ
lane_width = 288

abbrev pub row_height : ℕ
row_height = 24

-- how far the first row is from the upper edge, and how high a picture without a row would be
abbrev pub rows_top : ℕ
rows_top = 72

abbrev pub empty_height : ℕ
empty_height = 84

-- how high a box is that ends in the row where it begins
abbrev pub box_height : ℕ
box_height = 20
