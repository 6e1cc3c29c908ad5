use Rattle.std.proofs.Common.{◌+◌, ◌∙◌, ap, sym, subst}
use Rattle.lh_addr.specs.Fnv.{code_of}
use Rattle.lh_addr.specs.Growth.{address}
use Rattle.lh_settling.proofs.Away.{IsAwayOf, away_same, away_more, key_read}
use Rattle.lh_settling.proofs.Values.{never_before}
use Rattle.lh_settling.proofs.contents.away_in.Goals as goal
use Rattle.lh_settling.proofs.contents.away_in.Goals.{then-address-bucket, else-address-bucket}

pub loop-pair-preserved : goal.loop-pair-preserved
loop-pair-preserved c =
    let initial = c.args.root.now.initial in
    let size = c.args.root.now.buckets in
    let pairs = c.args.pairs.now in
    let at = key_read pairs c.loop-pair.pair-index c.pair-item.result c.loop-pair-test.true c.pair-item.is in
    let code = c.address.ensures.value
    ∙ ap (address initial size) (c.fnv1a.ensures ∙ ap code_of c.bytes.ensures.value) in
    elim c.if-address-bucket.branch [
      | then-address-bucket w ↦ subst (IsAwayOf initial size c.args.bucket pairs (c.loop-pair.pair-index + 1))
          (sym w.away-is)
          (away_more initial size c.args.bucket pairs c.loop-pair.pair-index c.loop-pair.away c.pair-item.result.key
          w.lesser.result at (λ e. w.if-address-bucket.true (code ∙ e)) never_before w.lesser.ensures.either
          w.lesser.ensures.second w.lesser.ensures.first c.loop-pair.invariant)
      | else-address-bucket w ↦ subst (IsAwayOf initial size c.args.bucket pairs (c.loop-pair.pair-index + 1))
          (sym w.away-is)
          (away_same initial size c.args.bucket pairs c.loop-pair.pair-index c.loop-pair.away
          (ap (λ q. address initial size (code_of q)) at ∙ sym code
          ∙ w.if-address-bucket.false) c.loop-pair.invariant)
    ]
