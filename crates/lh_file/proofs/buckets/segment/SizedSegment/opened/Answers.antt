use Rattle.std.proofs.Common.{◌≡◌, ℕ, ◌+◌, [], refl, sym, ap, ◌∙◌, arith, lit<}
use Rattle.lh_addr.specs.Settings.{Settings}
use Rattle.lh_file.specs.Buckets.Segments.{start_of, end_of, segment_at}
use Rattle.lh_words.specs.Dealing.{undealt}
use Rattle.lh_words.specs.declared.seat_view.SeatView.{SeatView}
use Rattle.lh_file.proofs.OfBuckets.Rows.{segment_made, not_past}
use Rattle.lh_file.proofs.OfBuckets.Dealt.{segment_dealt}
use Rattle.lh_file.proofs.buckets.segment.SizedSegment.opened.Goals as goal

pub loop-number-init : goal.loop-number-init
loop-number-init g c =
    let first : c.start_of-first.result ≡ start_of c.args.listing.now.config.initial c.args.j =
    c.start_of-first.ensures
    ∙ ap (λ (n : ℕ). start_of n c.args.j)
    (c.initial.ensures.value ∙ ap (λ (s : Settings). s.initial) c.config-config.ensures.value) in (
      refl,
      c.requires.before ∙ ap (λ n. (undealt g.M.Mode.traced c.args.listing.now n, [])) (sym first),
      (let row = c.in_ok-segment.ensures in
          record {
            begins = ap (λ r. r.first) row;
            counts = ap (λ r. r.count) row ∙ omega arith;
            from_first = omega arith;
            within = omega arith;
          }),
    )

pub loop-number-preserved : goal.loop-number-preserved
loop-number-preserved g c = let below = c.loop-number-test.true in (
  c.push_opened.ensures.at ∙ c.loop-number.invariant.0,
  c.in_ok-push_opened.ensures.after,
  (let h = c.loop-number.invariant.2 in
      let row = c.in_ok-push_opened.ensures.put in
      record {
        begins = ap (λ r. r.first) row ∙ h.begins;
        counts = ap (λ r. r.count) row ∙ omega (arith, h.counts, h.from_first);
        from_first = omega (arith, h.from_first);
        within = omega (arith, h.within);
      }),
)

pub returns-clause-after : goal.returns-clause-after
returns-clause-after g c = let k = c.args.listing.now in let past = c.loop-number-test.false in
    let first : c.start_of-first.result ≡ start_of k.config.initial c.args.j =
    c.start_of-first.ensures
    ∙ ap (λ (n : ℕ). start_of n c.args.j)
    (c.initial.ensures.value ∙ ap (λ (s : Settings). s.initial) c.config-config.ensures.value) in
    let end : c.end_of-end.result ≡ end_of k.config.initial k.config.max c.args.j =
    c.end_of-end.ensures ∙ ap (λ (s : Settings). end_of s.initial s.max c.args.j) c.config-config.ensures.value in
    c.loop-number.invariant.1
    ∙ ap (λ (d : SeatView). (d, []))
    (segment_dealt k g.M.Mode.traced c.args.j c.start_of-first.result c.end_of-end.result c.loop-number.number
    c.config-config.ensures.kept.shape.to_max first end (omega arith)
    (not_past c.loop-number.segment c.start_of-first.result c.end_of-end.result c.loop-number.number
    c.loop-number.invariant.2))

pub push_opened-requires : goal.push_opened-requires
push_opened-requires g c =
    let h = c.loop-number.invariant.2 in
    let at = c.loop-number.invariant.0 ∙ c.requires.at in
    let next : c.loop-number.number ≡ c.loop-number.segment.first + c.loop-number.segment.count =
    omega (arith, h.begins, h.counts, h.from_first) in (
      lit< tt,
      (
        c.requires.initial,
        (
          c.requires.buckets,
          (
            at,
            (c.requires.brand, (c.loop-number.invariant.1, (next, (c.requires.room, c.requires.fits)))),
          ),
        ),
      ),
    )

pub returns-clause-made : goal.returns-clause-made
returns-clause-made g c =
    segment_made c.config-config.result c.args.j c.initial.result c.start_of-first.result c.end_of-end.result
    c.loop-number.number c.loop-number.segment c.initial.ensures.value c.start_of-first.ensures c.end_of-end.ensures
    c.loop-number.invariant.2 (omega (arith, c.loop-number-test.false))
    ∙ ap (λ config. segment_at config c.args.j) c.config-config.ensures.value
