use Rattle.std.proofs.Common.{◌∙◌}
use Rattle.lh_store.proofs.Histories.{history_of}
use Rattle.lh_store.proofs.file_session.SizedSessionSnapshots.snapshot.Goals as goal

pub returns : goal.returns
returns g c t =
    let e = c.in_ok-snapshot.ensures in
    rw (← c.self.view_is, c.of.ensures) (
      c.in_ok-snapshot.snapshot.stamps,
      history_of c.self.inside.file.now.state.listing c.in_ok-snapshot.snapshot c.self.inside.hand.entries e.told.1
          c.self.inside.hand.logs c.into_known_listing.result e.whole (e.config ∙ c.self.invariant.listed)
          c.into_known_listing.ensures (e.told.3 t),
    )
