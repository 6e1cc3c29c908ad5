use Rattle.lh_store.proofs.file_session.SizedSessionSession.told.Goals as goal

pub returns : goal.returns
returns g c = rw (← c.self.view_is) c.told.ensures
