use Rattle.lh_core.proofs.OneCaller.Alone.{given_up, may_lock, served}
use Rattle.lh_core.proofs.world.World.serve_alone.Goals as goal

pub take_free-requires-3-clause-allowed : goal.take_free-requires-3-clause-allowed
take_free-requires-3-clause-allowed g c =
    may_lock c.args.call c.args.self.now c.take_free.new.self c.take_free-2.new.self c.take_free.result
    c.take_free-2.result c.is_kept.ensures c.requires c.take_free.ensures c.take_free-2.ensures

pub returns-in-Answered-clause-ok : goal.returns-in-Answered-clause-ok
returns-in-Answered-clause-ok g c =
    served c.args.call c.args.self.now c.take_free.new.self c.take_free-2.new.self c.take_free.result
    c.take_free-2.result c.is_kept.ensures c.requires c.take_free.ensures c.take_free-2.ensures c.take_free-3.new.self
    c.take_free-3.result c.take_free-3.ensures c.take.new.self c.in-Ok.effect c.in-Ok.ensures.ok
    c.take_free-in-Ok.new.self c.take_free-in-Ok.result c.in-Answered.reply c.in-Answered.is c.take_free-in-Ok.ensures

pub returns-in-Err-clause-err : goal.returns-in-Err-clause-err
returns-in-Err-clause-err g c =
    given_up c.args.call c.args.self.now c.take_free.new.self c.take_free-2.new.self c.take_free.result
    c.take_free-2.result c.is_kept.ensures c.requires c.take_free.ensures c.take_free-2.ensures c.take_free-3.new.self
    c.take_free-3.result c.take_free-3.ensures c.take.new.self c.take_free-in-Err.new.self c.take_free-in-Err.result
    c.in-Err.ensures.err c.take_free-in-Err.ensures
