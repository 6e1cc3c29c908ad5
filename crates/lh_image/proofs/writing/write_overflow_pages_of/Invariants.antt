use Rattle.std.proofs.Common.{◌-◌}
use Rattle.std.specs.List.{range_with_len, flat_map}
use Rattle.std.specs.Io.KnownBytes.{Appends}
use Rattle.lh_image.specs.Canonical.{text_in}
use Rattle.lh_image.proofs.writing.write_overflow_pages_of.Given as goal

abbrev pub invariant-loop-k : goal.invariant-loop-k
invariant-loop-k g l =
    Appends (g.W.Write.contents l.fn.writer) (g.W.Write.contents l.writer)
    (flat_map (text_in l.version l.listing l.bucket) (range_with_len 1 (l.k - 1)))
