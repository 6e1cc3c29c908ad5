use Rattle.std.proofs.Common.{[], ◌+◌, arith, ap, ◌∙◌, lit<}
use Rattle.lh_words.specs.declared.seat_view.SeatView.{SeatView}
use Rattle.lh_file.proofs.OfBuckets.Dealt.{dealt_next, first_dealt, undealt-past}
use Rattle.lh_file.proofs.buckets.segment.SizedSegment.push_opened.Goals as goal
use Rattle.lh_file.proofs.buckets.segment.SizedSegment.push_opened.Goals.{then-number-buckets+in_ok-bucket}
use Rattle.lh_file.proofs.buckets.segment.SizedSegment.push_opened.Goals.{else-number-buckets+in_ok-unfilled_bucket}

pub dealt-slot-requires : goal.dealt-slot-requires
dealt-slot-requires g c =
    let next =
    first_dealt c.args.listing.now g.M.Mode.traced c.args.number c.args.seat.now.me c.in_ok-bucket.bucket
    (omega (arith, c.buckets.ensures.value, c.if-number-buckets.true)) c.requires.before c.in_ok-bucket.ensures.head
    c.in_ok-bucket.ensures.pairs in
    (lit< tt, (lit< tt, (c.requires.at, (c.requires.brand, next))))

pub returns-clause-after : goal.returns-clause-after
returns-clause-after g c =
    let k = c.args.listing.now in let b = c.buckets.ensures.value in elim c.if-number-buckets.branch [
      | then-number-buckets+in_ok-bucket w ↦ let below = w.if-number-buckets.true in
          ap (λ s. s.me) w.seat-is
          ∙ dealt_next k g.M.Mode.traced c.args.number c.args.seat.now.me w.dealt-slot.new.seat.me (omega arith)
          c.requires.before w.dealt-slot.ensures.traced w.dealt-slot.ensures.untraced
      | else-number-buckets+in_ok-unfilled_bucket w ↦ let past = w.if-number-buckets.false in
          ap (λ s. s.me) w.seat-is ∙ c.requires.before
          ∙ ap (λ (d : SeatView). (d, []))
          (undealt-past k c.args.number (c.args.number + 1) g.M.Mode.traced (omega arith) (omega arith))
    ]
