use Rattle.std.proofs.Common.{◌≡◌, ◌+◌, ◌*◌, ◌^◌, ◌<◌, ◌++◌, ◌∷◌, [], List, sym, ap, ◌∙◌, subst, arith}
use Rattle.std.proofs.Math.Nat.{mod-eq_of_lt}
use Rattle.std.proofs.lemmas.Nat.{pow_below, mul-le}
use Rattle.lh_addr.specs.declared.aim.Aim.{Aim}
use Rattle.lh_file.specs.Snapshots.Scans.{times_aimed, IsWithin}
use Rattle.lh_words.specs.Rule.{Each}
use Rattle.lh_words.specs.Sums.{total}
use Rattle.lh_file.proofs.OfBuckets.Levels.{size_doubles}
use Rattle.lh_words.specs.EachLaws.{each_snoc}
use Rattle.lh_file.proofs.OfSnapshots.Aims.{at_level, aimed-snoc, raised, room_of, ahead-snoc, halves}
use Rattle.lh_file.proofs.snapshots.scan.push_raised.Goals as goal

pub loop-level-preserved : goal.loop-level-preserved
loop-level-preserved c =
    let first = c.args.first in
    let b = c.args.bucket in
    let k = c.loop-level.level in
    let inv = c.loop-level.invariant in
    let aims = c.loop-level.aims.items in
    let new : Aim = at_level (k + 1) (b + first * 2 ^ k) in
    let items = c.push_reserved.ensures.items in
    let doubles = size_doubles first k in
    let small : first * 2 ^ k < 4294967296 =
    (let power = pow_below k 17 (omega (arith, c.loop-level-test.true, c.requires.low)) in
    let product = mul-le first (2 ^ k) 256 131072 c.requires.first.1 (omega arith) in
    omega arith) in
    let same : c.push_reserved.new.self.items ≡ aims ++ new ∷ [] =
    items ∙ ap (λ x. aims ++ at_level (k + 1) (b + x) ∷ []) (mod-eq_of_lt small) in
    record {
      room =
          omega (
            arith,
            c.push_reserved.ensures.len,
            c.push_reserved.ensures.capacity,
            inv.room,
            c.loop-level-test.true,
          );
      upto = omega (arith, c.loop-level-test.true);
      reached = omega (arith, inv.reached, doubles);
      all =
          λ code.
          omega (
            arith,
            ap (times_aimed first code) same,
            aimed-snoc first code aims new,
            raised c.hashes_are_nested.ensures.rises first code k b c.requires.first.0 inv.reached,
            inv.all code,
          );
      ahead =
          omega (
            arith,
            ap (total room_of) same,
            ahead-snoc aims new,
            halves k (omega (arith, c.loop-level-test.true, c.requires.low)),
            inv.ahead,
          );
      within = subst (λ (l : List Aim). Each l (IsWithin first)) (sym same)
          (each_snoc (IsWithin first) aims new inv.within
          (record {
            low = omega (arith, c.loop-level-test.true, c.requires.low);
            reached = omega (arith, inv.reached, doubles);
          }));
    }
