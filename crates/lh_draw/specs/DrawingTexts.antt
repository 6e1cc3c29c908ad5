-- The elements of a drawing as SVG text
use Rattle.std.specs.Prelude.{ℕ, ◌-◌, Bool, true, false, nat_le, if◌then◌else◌, List, [], ◌++◌, Option, None, Some}
use Rattle.std.specs.Prelude.{codes}
use Rattle.std.specs.Fmt.{decimal}
use Rattle.lh_draw.specs.Sizes.{most_drawn, number_foot, page_gap, page_height}
use Rattle.lh_draw.specs.declared.elements.Canvas.{Canvas}
use Rattle.lh_draw.specs.declared.elements.Title.{Title}
use Rattle.lh_draw.specs.declared.elements.Legend.{Legend}
use Rattle.lh_draw.specs.declared.elements.Caption.{Caption}
use Rattle.lh_draw.specs.declared.elements.Plot.{Plot}
use Rattle.lh_draw.specs.declared.bars.BarPart.{BarPart}
use Rattle.lh_draw.specs.declared.bars.Bar.{Bar}
use Rattle.lh_draw.specs.declared.bars.More.{More}
use Rattle.lh_draw.specs.declared.bars.Cuts.{Cuts}
use Rattle.lh_draw.specs.declared.elements.Label.{Label}
use Rattle.lh_draw.specs.declared.elements.Mark.{Mark}

-- the drawing's beginning
unfoldable pub canvas_text : Canvas → List ℕ
canvas_text c =
    codes "<svg xmlns='http://www.w3.org/2000/svg' width='" ++ (decimal c.width ++ (codes "' height='" ++ (
    decimal c.height ++ (codes "' viewBox='0 0 " ++ (decimal c.width ++ (codes " " ++ (decimal c.height ++
    codes "' role='img' aria-labelledby='title desc' font-family='sans-serif' font-size='12' fill='#333333'>\n")))))))

-- the file's numbers
unfoldable pub numbers_text : Title → List ℕ
numbers_text t =
    codes "buckets " ++ (decimal t.buckets ++ (codes ", level " ++ (decimal t.level ++ (codes ", pointer " ++ (
    decimal t.pointer ++ (codes ", records " ++ (decimal t.records ++ (codes ", pages " ++ (decimal t.pages ++ (
    codes ", longest chain " ++ decimal t.longest))))))))))

-- the drawing's title, and the same as a line of text on a white ground
unfoldable pub title_text : Title → List ℕ
title_text t =
    codes "<title id='title'>Linear hash file: " ++ (numbers_text t ++ (
    codes "</title>\n<rect width='100%' height='100%' fill='#ffffff'/>\n<text x='24' y='24'>" ++ (
    numbers_text t ++ codes "</text>\n")))

-- a square in the colour of each level that buckets have, and the number of buckets in a column
abbrev pub legend_of_levels : ℕ → Option ℕ → ℕ → List ℕ
legend_of_levels level (Some next) group =
    codes "<path fill='#0072b2' d='M24 50v-12h12v12z'/><text x='42' y='48'>level " ++ (decimal level ++ (
    codes "</text><path fill='#e69f00' d='M104 50v-12h12v12z'/><text x='122' y='48'>level " ++ (decimal next ++ (
    codes "</text><text x='184' y='48'>buckets in a column: " ++ (decimal group ++ codes "</text>\n")))))
legend_of_levels level None group =
    codes "<path fill='#0072b2' d='M24 50v-12h12v12z'/><text x='42' y='48'>level " ++ (decimal level ++ (
    codes "</text><text x='104' y='48'>buckets in a column: " ++ (decimal group ++ codes "</text>\n")))

unfoldable pub legend_text : Legend → List ℕ
legend_text l = legend_of_levels l.level l.next l.group

-- what a column shows: the drawing's description, and a line of text
unfoldable pub caption_text : Caption → List ℕ
caption_text c =
    if c.is_detailed
    then codes "<desc id='desc'>Columns of boxes, one for each bucket, blue at the level of the file and orange one above: a box is a page, coloured as far as its slots are used. A triangle marks the bucket that splits next.</desc>\n<text x='24' y='68'>a box is a page, coloured as far as its slots are used</text>\n"
    else codes "<desc id='desc'>Columns, one for each group of buckets, blue at the level of the file and orange one above: a column is as high as its longest chain, and coloured as far as its buckets are used on average. A triangle marks the bucket that splits next.</desc>\n<text x='24' y='68'>a column is as high as its longest chain, 24 pages at most, and coloured as far as its buckets are used on average</text>\n"

-- the columns' origin, where the floor meets the first of them
unfoldable pub plot_text : Plot → List ℕ
plot_text p =
    codes "<g transform='translate(24 " ++ (decimal p.floor ++ codes ")'>\n")

-- blue for the file's level and orange for the next one, pale where slots are free
abbrev pub colour_of : Bool → Bool → List ℕ
colour_of true true = codes "#e69f00"
colour_of true false = codes "#f8e2b3"
colour_of false true = codes "#0072b2"
colour_of false false = codes "#b3d5e8"

-- a rectangle on its foot
unfoldable pub part_text : BarPart → List ℕ
part_text p =
    codes "<path fill='" ++ (colour_of p.is_next p.is_used ++ (codes "' d='M" ++ (decimal p.left ++ (codes " -" ++ (
    decimal p.foot ++ (codes "v-" ++ (decimal p.height ++ (codes "h" ++ (decimal p.width ++ (codes "v" ++ (
    decimal p.height ++ codes "z'/>")))))))))))

-- a bar's rectangle of a height, for slots in use or free ones
abbrev pub bar_part : Bar → ℕ → Bool → BarPart
bar_part b height is_used = record {
  left = b.left;
  foot = b.foot;
  width = b.width;
  height = height;
  is_next = b.is_next;
  is_used = is_used;
}

-- a bar: a pale rectangle, and one as high as it is used
unfoldable pub bar_text : Bar → List ℕ
bar_text b =
    part_text (bar_part b b.height false) ++ (part_text (bar_part b b.used true) ++ codes "\n")

-- the pages beyond those that are drawn, if there are more: a number that stands upright above the chain
unfoldable pub more_text : More → List ℕ
more_text m =
    if nat_le m.pages most_drawn then []
    else (codes "<text transform='translate(" ++ (
    decimal m.centre ++ (codes " -" ++ (decimal number_foot ++ (codes ")rotate(-90)' dy='3' font-size='8'>+" ++ (
    decimal (m.pages - most_drawn) ++ codes "</text>\n"))))))

-- the dashes of the lines across all columns, from the top down: what is left free above a page, and the page
unfoldable pub dashes_text : List ℕ
dashes_text = decimal page_gap ++ (codes " " ++ decimal page_height)

-- white lines across all columns, one above each page: a broad dashed line from the top to the floor
unfoldable pub cuts_text : Cuts → List ℕ
cuts_text c =
    codes "<path stroke='#ffffff' stroke-width='" ++ (decimal c.width ++ (codes "' stroke-dasharray='" ++ (
    dashes_text ++ (codes "' d='M" ++ (decimal c.middle ++ (codes " -" ++ (decimal c.height ++ (codes "v" ++ (
    decimal c.height ++ codes "'/>\n")))))))))

-- a bucket's number below the floor
unfoldable pub label_text : Label → List ℕ
label_text l =
    codes "<text x='" ++ (decimal l.centre ++ (codes "' y='16' text-anchor='middle'>" ++ (decimal l.bucket ++
    codes "</text>\n")))

-- the split pointer as a triangle and a number, and the drawing's end
unfoldable pub mark_text : Mark → List ℕ
mark_text m =
    codes "<path d='M" ++ (decimal m.centre ++ (codes " 20l5 9h-10z'/><text x='" ++ (decimal m.centre ++ (
    codes "' y='43' text-anchor='middle'>n = " ++ (decimal m.pointer ++ codes "</text>\n</g>\n</svg>\n")))))
