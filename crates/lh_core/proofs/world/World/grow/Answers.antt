use Rattle.lh_core.proofs.OneCaller.Alone.{grown, may_lock_both, split_given_up}
use Rattle.lh_core.proofs.world.World.grow.Goals as goal

pub take_free-requires-2-clause-allowed : goal.take_free-requires-2-clause-allowed
take_free-requires-2-clause-allowed g c =
    may_lock_both c.args.self.now c.take_free.new.self c.take_free.result c.is_kept.ensures c.requires.rest
    c.requires.room c.take_free.ensures

pub returns-in-Ok-clause-ok : goal.returns-in-Ok-clause-ok
returns-in-Ok-clause-ok g c =
    grown c.args.self.now c.take_free.new.self c.take_free.result c.is_kept.ensures c.requires.rest c.requires.room
    c.take_free.ensures c.take_free-2.new.self c.take.new.self c.take_free-in-Ok.new.self c.take_free-in-Ok-2.new.self
    c.take_free-2.result c.in-Ok.field-0 c.take_free-in-Ok.result c.take_free-in-Ok-2.result c.take_free-2.ensures
    c.in-Ok.ensures.ok c.take_free-in-Ok.ensures c.take_free-in-Ok-2.ensures

pub returns-in-Err-clause-err : goal.returns-in-Err-clause-err
returns-in-Err-clause-err g c =
    split_given_up c.args.self.now c.take_free.new.self c.take_free.result c.is_kept.ensures c.requires.rest
    c.requires.room c.take_free.ensures c.take_free-2.new.self c.take.new.self c.take_free-2.result
    c.take_free-2.ensures c.in-Err.ensures.err c.take_free-in-Err.new.self c.take_free-in-Err.result
    c.take_free-in-Err.ensures c.take_free-in-Err-2.new.self c.take_free-in-Err-2.result c.take_free-in-Err-2.ensures
