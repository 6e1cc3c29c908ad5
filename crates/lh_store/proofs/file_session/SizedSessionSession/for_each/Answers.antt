use Rattle.lh_store.proofs.Keeping.{scanned_keeps}
use Rattle.lh_store.proofs.file_session.SizedSessionSession.for_each.Goals as goal

pub invariant_of-self : goal.invariant_of-self
invariant_of-self g c =
    let e = c.for_each.ensures.called in scanned_keeps _ _ _ _ e.0 _ _ _ _ c.self.invariant e.3

pub invariant_of-self-2 : goal.invariant_of-self-2
invariant_of-self-2 g c =
    let e = c.for_each.ensures.called in scanned_keeps _ _ _ _ e.0 _ _ _ _ c.self.invariant e.3
