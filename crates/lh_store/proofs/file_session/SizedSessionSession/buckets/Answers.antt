use Rattle.lh_store.proofs.Keeping.{counting_knows, counting_keeps}
use Rattle.lh_store.proofs.file_session.SizedSessionSession.buckets.Goals as goal

pub invariant_of-self : goal.invariant_of-self
invariant_of-self g c = counting_keeps _ _ _ _ _ _ _ c.self.invariant c.buckets.ensures

pub returns-clause-idle : goal.returns-clause-idle
returns-clause-idle g c = rw (← c.self.view_is) (counting_knows _ _ _ _ c.buckets.ensures)

pub returns-clause-counts : goal.returns-clause-counts
returns-clause-counts g c = rw (← c.self.view_is, c.from.ensures) c.buckets.ensures
