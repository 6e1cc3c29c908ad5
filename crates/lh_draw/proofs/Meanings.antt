-- What a drawing means: the laws of its boxes, colours, columns and legend.
use Rattle.std.proofs.Common.{◌≡◌, ◌∙◌, ◌⊎◌, inl, inr, ℕ, zero, suc, ◌+◌, ◌-◌, ◌*◌, ◌/◌, ◌<◌, ◌≤◌, ◌^◌, Bool, true}
use Rattle.std.proofs.Common.{false, ◌||◌, if◌then◌else◌, cond, ltb, leb, List, [], ◌∷◌, ◌++◌, None, Some, length}
use Rattle.std.proofs.Common.{codes, decimal, drop, ap, sym, refl, subst, arith, append-nil, length-append, length-take}
use Rattle.std.proofs.Common.{length-drop}
use Rattle.std.specs.Prelude.{min, sum_by, flat_map}
use Rattle.std.proofs.lemmas.Grind.{flat_map-append}
use Rattle.std.proofs.lemmas.Bool.{cases_lt, le-leb, lt-ltb}
use Rattle.std.proofs.lemmas.Bool.Decides.{nat_tests}
use Rattle.std.proofs.Math.Nat.{mul-le-mul_left, mul-div-le, lt-mul-div-succ, div-eq_of_lt-le, div-mul-le_self}
use Rattle.std.proofs.lemmas.Nat.{le-div}
use Rattle.lh_addr.specs.Growth.{level, level_of, pointer}
use Rattle.lh_bucket.specs.Listing.{Lists, list_at, size}
use Rattle.lh_page.specs.declared.pair.Pair.{Pair}
use Rattle.lh_page.specs.PackedList.{PiecesLaw}
use Rattle.lh_draw.specs.Columns.{chain_length, column_count, group_size, lists_between, longest_of, pitch, whole_tally}
use Rattle.lh_draw.specs.Drawing.{chain_text, columns_text, group_bar, in_turn, legend_of, level_above, more_of}
use Rattle.lh_draw.specs.Drawing.{page_bar, part_of}
use Rattle.lh_draw.specs.DrawingTexts.{bar_text, more_text}
use Rattle.lh_draw.specs.declared.bars.More.{More}
use Rattle.lh_draw.specs.Meaning.{ApartLaw, BoxLaw, ColourLaw, ColumnLaw, IsColumnOf, LegendLaw, boxes_at, used_on}
use Rattle.lh_draw.specs.Sizes.{most_drawn, number_foot}
use Rattle.lh_draw.proofs.Tallies.{lists_none, longest_more, pages_more}

-- one item for each number
length-turn : {A : Type 0} (item : ℕ → A) (n : ℕ) → length (in_turn (λ i. item i ∷ []) n) ≡ n
unfolding in_turn
length-turn item zero = refl
length-turn item (suc n) = omega (arith, length-append (in_turn (λ i. item i ∷ []) n) (item n ∷ []), length-turn item n)

-- the texts of items in turn are the items' texts in turn
turn-texts : {A : Type 0} (text : A → List ℕ) (items : ℕ → List A) (n : ℕ) →
    flat_map text (in_turn items n) ≡ in_turn (λ i. flat_map text (items i)) n
unfolding in_turn
turn-texts text items zero = refl
turn-texts text items (suc n) =
    flat_map-append text (in_turn items n) (items n)
    ∙ ap (λ (some : List ℕ). some ++ flat_map text (items n)) (turn-texts text items n)

-- texts that agree, in turn
turn-same : (one other : ℕ → List ℕ) (n : ℕ) → ((i : ℕ) → i < n → one i ≡ other i) → in_turn one n ≡ in_turn other n
unfolding in_turn
turn-same one other zero same = refl
turn-same one other (suc n) same =
    λ i. turn-same one other n (λ k h. same k (omega (arith, h))) i ++ same n (omega arith) i

-- no chain is longer than the longest
chain-within : (l : Lists) (n bucket : ℕ) → n ≤ size l → bucket < n →
    chain_length l.config.capacity (list_at l.lists bucket) ≤ longest_of l.config.capacity (lists_between l 0 n)
chain-within l zero bucket within h = absurd (omega (arith, h))
chain-within l (suc n) bucket within h =
    let capacity : ℕ = l.config.capacity in
    let next : n + 1 ≡ suc n = omega arith in
    let more = longest_more l capacity 0 n (omega arith) (omega (arith, within)) in
    subst (λ (m : ℕ). chain_length capacity (list_at l.lists bucket) ≤ longest_of capacity (lists_between l 0 m)) next
    (elim (cases_lt bucket n) [
      | inl before ↦ omega (arith, more, chain-within l n bucket (omega (arith, within)) before)
      | inr last ↦
          let same : bucket ≡ n = omega (arith, h, last) in
          let chain : chain_length capacity (list_at l.lists bucket) ≡ chain_length capacity (list_at l.lists n) =
          ap (λ (b : ℕ). chain_length capacity (list_at l.lists b)) same in
          omega (arith, more, chain)
    ])

-- the boxes of a bucket without more pages than are drawn
boxes-each : (l : Lists) (bucket : ℕ) → chain_length l.config.capacity (list_at l.lists bucket) ≤ most_drawn →
    length (boxes_at l bucket) ≡ chain_length l.config.capacity (list_at l.lists bucket)
boxes-each l bucket short =
    length-turn (page_bar l bucket) (min (chain_length l.config.capacity (list_at l.lists bucket)) most_drawn)
    ∙ omega (arith, short)

-- the boxes of the first buckets
boxes-count : (l : Lists) (n : ℕ) → n ≤ size l → longest_of l.config.capacity (lists_between l 0 n) ≤ most_drawn →
    length (in_turn (boxes_at l) n) ≡ sum_by (chain_length l.config.capacity) (lists_between l 0 n)
unfolding in_turn
boxes-count l zero within short = sym (ap (sum_by (chain_length l.config.capacity)) (lists_none l 0))
boxes-count l (suc n) within short =
    let capacity : ℕ = l.config.capacity in
    let next : n + 1 ≡ suc n = omega arith in
    let low : longest_of capacity (lists_between l 0 (n + 1)) ≤ most_drawn =
    subst (λ (m : ℕ). longest_of capacity (lists_between l 0 m) ≤ most_drawn) (sym next) short in
    let longest = longest_more l capacity 0 n (omega arith) (omega (arith, within)) in
    let before : length (in_turn (boxes_at l) n) ≡ sum_by (chain_length capacity) (lists_between l 0 n) =
    boxes-count l n (omega (arith, within)) (omega (arith, low, longest)) in
    let here : length (boxes_at l n) ≡ chain_length capacity (list_at l.lists n) =
    boxes-each l n (omega (arith, low, longest)) in
    length-append (in_turn (boxes_at l) n) (boxes_at l n)
    ∙ (λ i. before i + here i)
    ∙ sym (pages_more l capacity 0 n (omega arith) (omega (arith, within)))
    ∙ ap (λ (m : ℕ). sum_by (chain_length capacity) (lists_between l 0 m)) next

-- no number stands above a chain of which all pages are drawn
more-none : (m : More) → m.pages ≤ most_drawn → more_text m ≡ []
unfolding more_text
more-none m short =
    ap
    (λ b.
    if b then []
    else (codes "<text transform='translate("
    ++ (decimal m.centre
    ++ (codes " -"
    ++ (decimal number_foot
    ++ (codes ")rotate(-90)' dy='3' font-size='8'>+"
    ++ (decimal (m.pages - most_drawn) ++ codes "</text>\n")))))))
    (le-leb m.pages most_drawn short)

-- the text of a chain is that of its boxes
chain-boxes : (l : Lists) (bucket : ℕ) → chain_length l.config.capacity (list_at l.lists bucket) ≤ most_drawn →
    chain_text l bucket ≡ flat_map bar_text (boxes_at l bucket)
unfolding chain_text more_of
chain-boxes l bucket short =
    let shown : ℕ = min (chain_length l.config.capacity (list_at l.lists bucket)) most_drawn in
    let bars : List ℕ = in_turn (λ p. bar_text (page_bar l bucket p)) shown in
    ap (λ (more : List ℕ). bars ++ more) (more-none (more_of l bucket) short)
    ∙ append-nil bars
    ∙ turn-same (λ p. bar_text (page_bar l bucket p)) (λ p. flat_map bar_text (page_bar l bucket p ∷ [])) shown
    (λ p h. sym (append-nil (bar_text (page_bar l bucket p))))
    ∙ sym (turn-texts bar_text (λ p. page_bar l bucket p ∷ []) shown)

-- of a file of 128 buckets or fewer, with no chain of more pages than are drawn, each page is drawn as a box
pub box_law : BoxLaw
unfolding columns_text whole_tally
box_law l few short = record {
  drawn =
      ap
      (λ b.
      if b then in_turn (chain_text l) (size l)
      else in_turn (λ column. bar_text (group_bar l column)) (column_count (size l))) (le-leb (size l) 128 few)
      ∙ turn-same (chain_text l) (λ bucket. flat_map bar_text (boxes_at l bucket)) (size l)
      (λ bucket h. chain-boxes l bucket (omega (arith, short, chain-within l (size l) bucket (omega arith) h)))
      ∙ sym (turn-texts bar_text (boxes_at l) (size l));
  as_many = boxes-count l (size l) (omega arith) short;
}

-- the records on a page, by the place of its first
used-is : PiecesLaw → (l : Lists) (bucket page : ℕ) → 1 ≤ l.config.capacity →
    page < chain_length l.config.capacity (list_at l.lists bucket) →
    min (length (list_at l.lists bucket) - l.config.capacity * page) l.config.capacity ≡ used_on l bucket page
used-is law l bucket page some h =
    let capacity : ℕ = l.config.capacity in
    let pairs : List Pair = list_at l.lists bucket in
    let pieces = law capacity pairs some in
    let piece = (pieces.1 page (omega (arith, h, pieces.0))).1 in
    let swapped : page * capacity ≡ capacity * page = grind arith in
    omega (arith, swapped, length-drop (page * capacity) pairs, length-take capacity (drop (page * capacity) pairs))
    ∙ sym (ap (λ (some : List Pair). length some) piece)

-- each box is coloured as far as its page is used
pub colour_law : PiecesLaw → ColourLaw
unfolding page_bar
colour_law law l bucket page some h = record {
  used = ap (λ (n : ℕ). part_of 36 n l.config.capacity) (used-is law l bucket page some h);
  colour = refl;
}

-- two boxes of a bucket, and boxes of two buckets, don't overlap
pub apart_law : ApartLaw
unfolding page_bar
apart_law = record {
  pages = λ l bucket page later h. inl (omega (arith, h));
  buckets = λ l bucket later page other h.
      let next : pitch (size l) * (bucket + 1) ≤ pitch (size l) * later =
      mul-le-mul_left (pitch (size l)) (omega (arith, h)) in
      let broad : pitch (size l) * (bucket + 1) ≡ pitch (size l) * bucket + pitch (size l) = grind arith in
      inr (omega (arith, next, broad));
}

-- a number's quotient is the only one of its kind
quotient-only : (g bucket column : ℕ) → g * column ≤ bucket → bucket < g * column + g → column ≡ bucket / g
quotient-only g bucket column low high =
    let swapped : column * g ≡ g * column = grind arith in
    let next : (column + 1) * g ≡ g * column + g = grind arith in
    sym (div-eq_of_lt-le g (omega (arith, low, swapped)) (omega (arith, high, next)))

quotient-below : (g buckets bucket : ℕ) → 0 < g → bucket < buckets → bucket / g < (buckets + g - 1) / g
quotient-below g buckets bucket some h =
    let low : bucket / g * g ≤ bucket = div-mul-le_self bucket g in
    let next : (bucket / g + 1) * g ≡ bucket / g * g + g = grind arith in
    omega (arith, le-div (bucket / g + 1) (buckets + g - 1) g some (omega (arith, low, next, h)))

quotient-high : (g bucket : ℕ) → 0 < g → bucket < g * (bucket / g) + g
quotient-high g bucket some =
    let next : g * (bucket / g + 1) ≡ g * (bucket / g) + g = grind arith in
    omega (arith, lt-mul-div-succ bucket some, next)

-- each bucket is shown by one column
pub column_law : ColumnLaw
unfolding column_count
column_law buckets bucket column h =
    let some : 0 < group_size buckets = omega (arith, h) in (
      λ is. quotient-only (group_size buckets) bucket column is.from_first (omega (arith, is.to_last)),
      λ is. subst (IsColumnOf buckets bucket) (sym is) (record {
        within = quotient-below (group_size buckets) buckets bucket some h;
        from_first = mul-div-le bucket (group_size buckets);
        to_last = omega (arith, quotient-high (group_size buckets) bucket some, h);
      }),
    )

-- a level over plain numbers: p is the size at level L, S the number of buckets
named : (p S L i : ℕ) → i < S → (above first : Bool) → (ltb i (S - p) || leb p i) ≡ above →
    (ltb 0 (S - p) || leb p 0) ≡ first →
    (cond above (L + 1) L ≡ L)
    ⊎ (cond (ltb L (cond first (L + 1) L)) (Some (cond first (L + 1) L)) None ≡ Some (cond above (L + 1) L))
named p S L i h false first is of_first = inl refl
named p S L i h true true is of_first = inr (ap (λ b. cond b (Some (L + 1)) None) (lt-ltb L (L + 1) (omega arith)))
named p S L i h true false is of_first = absurd (grind (arith, nat_tests))

-- the legend names the level of each bucket
pub legend_law : LegendLaw
unfolding legend_of level_above level_of pointer
legend_law l bucket h =
    named (l.config.initial * 2 ^ level l.config.initial (size l)) (size l) (level l.config.initial (size l)) bucket h _
    _ refl refl
