use Rattle.std.proofs.Common.{◌≡◌, ℕ, ◌-◌, List, length, get_or, leb, ap, ◌∙◌, arith}
use Rattle.std.specs.List.{find, range_with_len}
use Rattle.lh_image.specs.Faults.{named_twice}
use Rattle.lh_image.specs.Table.{links_in}
use Rattle.lh_image.specs.View.{numbers}
use Rattle.lh_image.proofs.Judging.Finding.{find_same}
use Rattle.lh_image.proofs.judge.links.least_named_twice.Goals as goal

pub returns-clause-least : goal.returns-clause-least
unfolding numbers
returns-clause-least c S =
    let items : List ℕ = c.in_ok-counts.counts.items in
    let size : length items ≡ length c.args.entries.now = c.in_ok-counts.ensures.size in
    let first : c.least_of_two.result ≡ find (λ p. leb 2 (get_or items p 0)) (range_with_len 1 (length items - 1)) =
    rw c.deref.ensures.value at c.least_of_two.ensures in
    first ∙ ap (λ (n : ℕ). find (λ p. leb 2 (get_or items p 0)) (range_with_len 1 (n - 1))) size
    ∙ find_same (λ p. leb 2 (get_or items p 0)) (named_twice (links_in c.args.entries.now S)) 1
    (length c.args.entries.now - 1)
    (λ p low high. ap (leb 2) (c.in_ok-counts.ensures.counts p (omega arith)))
