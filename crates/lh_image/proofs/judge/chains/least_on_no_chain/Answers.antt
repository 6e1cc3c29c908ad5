use Rattle.std.proofs.Common.{◌≡◌, ℕ, ◌-◌, Bool, List, Vec, Global, length, get_or, false, not, ap, ◌∙◌, arith}
use Rattle.std.specs.List.{find, list_any, range_with_len}
use Rattle.lh_image.specs.Chains.{stands_in}
use Rattle.lh_image.proofs.Judging.Finding.{find_same}
use Rattle.lh_image.proofs.judge.chains.least_on_no_chain.Goals as goal

pub returns-clause-least : goal.returns-clause-least
returns-clause-least c =
    let marks : List Bool = c.in_ok-marks.marks.items in
    let size : length marks ≡ c.args.pages = c.in_ok-marks.ensures.size in
    let first : c.least_unmarked.result ≡ find (λ p. not (get_or marks p false)) (range_with_len 1 (length marks - 1)) =
    rw c.deref.ensures.value at c.least_unmarked.ensures in
    first ∙ ap (λ (n : ℕ). find (λ p. not (get_or marks p false)) (range_with_len 1 (n - 1))) size
    ∙ find_same (λ p. not (get_or marks p false))
    (λ p. not (list_any (λ (chain : Vec ℕ Global). stands_in chain.items p) c.args.chains.now)) 1 (c.args.pages - 1)
    (λ p low high. ap not (c.in_ok-marks.ensures.marks p (omega arith)))
