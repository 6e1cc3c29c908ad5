use Rattle.std.proofs.Common.{◌∙◌, subst}
use Rattle.lh_file.specs.FileState.{FileState}
use Rattle.lh_store.specs.Histories.{IsOneHistory}
use Rattle.lh_store.proofs.Histories.{history_of}
use Rattle.lh_store.proofs.file_session.SizedSession.left_by_all.Goals as goal

pub returns : goal.returns
returns g c t n =
    let e = c.in_ok-snapshot.ensures in
    rw (c.stamps-acts.ensures, c.of.ensures)
    (subst (λ (f : FileState). IsOneHistory f.listing c.in_ok-snapshot.snapshot.stamps c.into_known_listing.result)
    (c.self.invariant.named n)
    (history_of c.self.inside.file.now.state.listing c.in_ok-snapshot.snapshot c.self.inside.hand.entries e.told.1
    c.self.inside.hand.logs c.into_known_listing.result e.whole (e.config ∙ c.self.invariant.listed)
    c.into_known_listing.ensures (e.told.3 t)))
