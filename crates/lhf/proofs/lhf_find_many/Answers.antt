use Rattle.std.proofs.Common.{◌<◌, List, length, arith}
use Rattle.lh_addr.specs.Extent.{Extent}
use Rattle.lh_image.specs.Layout.{header_of}
use Rattle.lhf.specs.declared.handle.Ask.{Ask}
use Rattle.lhf.specs.Many.{AreStarted, KeepStarts}
use Rattle.lhf.proofs.Told.{ready_root, ready_version}
use Rattle.lhf.proofs.lhf_find_many.Goals as goal

-- where key and start are kept, each look-up begins where it has to
started_kept : (root : Extent) (before after : List Ask) → KeepStarts before after → AreStarted root before →
    AreStarted root after
started_kept root before after kept started i low d =
    let e = kept.each i low d in
    let l : i < length before = omega (arith, kept.size) in
    rw (e.key, e.start) (started i l d)

pub returns-clause-found : goal.returns-clause-found
returns-clause-found c ready l image =
    let h = c.args.image.now in
    let root = c.in-Some-root_of.root in
    c.answer_all.ensures.found (header_of h.bytes.now) root
    (ready_version h ready c.in-Some.version c.in-Some.ensures.version)
    (ready_root h ready root c.in-Some-root_of.ensures.root)
    (started_kept root c.read_entries.new.asks c.read_slots.new.asks c.read_slots.ensures
    (started_kept root c.start_all.new.asks c.read_entries.new.asks c.read_entries.ensures
    c.start_all.ensures.started)) l image
