use Rattle.lh_store.proofs.Keeping.{knows_itself}
use Rattle.lh_store.proofs.file_session.SizedSessionSession.len.Goals as goal

pub returns : goal.returns
returns g c = rw (← c.self.view_is, c.load-load.ensures.same) (knows_itself _)
