use Rattle.std.specs.FinMap.{empty}
use Rattle.lh_core.proofs.OneCaller.Serving.{first_rests, from_first, none_empty, no_records}
use Rattle.lh_core.proofs.serial_ran.serial.Goals as goal

pub serve_all-requires-clause-rest : goal.serve_all-requires-clause-rest
serve_all-requires-clause-rest g c = first_rests c.args.config c.in_ok-world.world.state c.in_ok-world.ensures.state

pub serve_all-requires-clause-records : goal.serve_all-requires-clause-records
serve_all-requires-clause-records g c = no_records c.in_ok-world.world c.in_ok-world.ensures.empty

pub returns : goal.returns
returns g c =
    from_first c.args.config c.in_ok-world.world _ _ _ c.in_ok-world.ensures.config c.in_ok-world.ensures.state
    (c.in_ok-replies.ensures.served empty c.in_ok-world.ensures.empty none_empty)
