use Rattle.std.proofs.Common.{ℕ, ◌≤◌, List, ◌++◌, flat_map, length, subst, take}
use Rattle.std.proofs.lemmas.List.{take_all}
use Rattle.lh_bucket.specs.Listing.{list_at}
use Rattle.lh_exchange.specs.StreamTexts.{pair_text}
use Rattle.lh_page.specs.declared.pair.Pair.{Pair}
use Rattle.lh_subcommands.specs.Devices.{Sends, TakesBeginning}
use Rattle.lh_subcommands.proofs.RecordLines.{piece_begins, piece_follows}
use Rattle.lh_subcommands.proofs.Sending.{on_err}
use Rattle.lh_subcommands.proofs.export.write_pairs.Goals as goal

pub returns-in_err-put_bytes-clause-err : goal.returns-in_err-put_bytes-clause-err
returns-in_err-put_bytes-clause-err g c before sent h =
    let pairs = list_at c.args.listing.now.lists c.args.bucket in
    let sent_so = sent ++ flat_map (pair_text c.args.format) (take c.loop-place.place pairs) in
    on_err c.from_residual.result
    (piece_begins (pair_text c.args.format) before _ sent pairs c.loop-place.place c.pair_at-pair.result
    c.pair_at-pair.ensures
    (subst (λ text. TakesBeginning before (g.W.Write.contents c.put_bytes.new.writer) (sent_so ++ text))
    c.write_record.ensures
    (c.in_err-put_bytes.ensures.err before _ (c.loop-place.invariant.1 before sent h))))

pub loop-place-preserved : goal.loop-place-preserved
loop-place-preserved g c = (
  c.in_ok-put_bytes.ensures.room,
  λ before sent h.
      let pairs = list_at c.args.listing.now.lists c.args.bucket in
      let sent_so = sent ++ flat_map (pair_text c.args.format) (take c.loop-place.place pairs) in
      piece_follows (pair_text c.args.format) before _ _ sent pairs c.loop-place.place c.pair_at-pair.result
      c.pair_at-pair.ensures
      (subst
      (λ text.
      Sends before (g.W.Write.contents c.put_bytes.new.writer) c.put_bytes.new.waiting.items (sent_so ++ text))
      c.write_record.ensures
      (c.in_ok-put_bytes.ensures.ok before _ (c.loop-place.invariant.1 before sent h))),
)

pub returns-clause-ok : goal.returns-clause-ok
returns-clause-ok g c before sent h =
    let pairs = list_at c.args.listing.now.lists c.args.bucket in
    let past : length pairs ≤ c.loop-place.place =
    subst (λ (n : ℕ). n ≤ c.loop-place.place) c.len_of-place-end.ensures.value c.loop-place-test.false in
    subst
    (λ (all : List Pair).
    Sends before (g.W.Write.contents c.loop-place.writer) c.loop-place.waiting.items
    (sent ++ flat_map (pair_text c.args.format) all))
    (take_all c.loop-place.place pairs past) (c.loop-place.invariant.1 before sent h)
