use Rattle.std.proofs.Common.{ℕ, length, drop, ◌∙◌, refl, arith}
use Rattle.std.proofs.lemmas.List.{drop_at, drop-replicate, length-append, length-drop, length-replicate}
use Rattle.lh_page.specs.Rows.{zeros}
use Rattle.lh_page.proofs.rows.PaddedBytes.of.Goals as goal

pub invariant_of-result : goal.invariant_of-result
invariant_of-result g c =
    let bytes = c.args.bytes.now in
    let n = length bytes in
    let rest = drop n (zeros g.row.N) in
    rw c.copy_from_slice.ensures.after (
      c.requires,
      omega (arith, length-append bytes rest, length-drop n (zeros g.row.N), length-replicate {A = ℕ} g.row.N 0),
      drop_at bytes rest n refl ∙ drop-replicate {X = ℕ} n g.row.N 0,
    )
