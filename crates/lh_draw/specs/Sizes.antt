-- How large the parts of a drawing are, in pixels, and how many pages of a chain are drawn
use Rattle.std.specs.Prelude.{ℕ, ◌+◌, ◌*◌}

-- how high a page is
abbrev pub page_height : ℕ
page_height = 36

-- how much is left free between a page and the one above it
abbrev pub page_gap : ℕ
page_gap = 4

-- how far the foot of a page is above that of the one before it in its chain
abbrev pub page_step : ℕ
page_step = page_height + page_gap

-- the most pages of a chain that are drawn; a number above them stands for the others
abbrev pub most_drawn : ℕ
most_drawn = 24

-- the most places of a chain, one above another: those of the pages that are drawn, and that of the number above them
abbrev pub most_places : ℕ
most_places = most_drawn + 1

-- how far above the floor that number begins
abbrev pub number_foot : ℕ
number_foot = page_step * most_drawn + page_gap

-- how high the title, the legend and the caption stand together, above the longest chain
abbrev pub head_height : ℕ
head_height = 92
