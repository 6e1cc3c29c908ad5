use Rattle.std.proofs.Common.{arith}
use Rattle.lh_words.proofs.OfHistory.Opening.{opens}
use Rattle.lh_words.proofs.table.WordTable.begun.Goals as goal

pub of_words-requires : goal.of_words-requires
of_words-requires g c =
    opens c.address_is_only_bucket.ensures c.listing_is_placed.ensures c.args.listing.now c.buckets.ensures.kept
    g.M.Mode.traced c.new.result (let v = c.new.ensures.value in let b = c.buckets.ensures.value in omega arith)
