use Rattle.lh_core.specs.Opened.{records_of}
use Rattle.lh_core.proofs.OneCaller.Serving.{from_opened}
use Rattle.lh_core.proofs.opened.serial_from.Goals as goal

pub serve_all-requires-clause-records : goal.serve_all-requires-clause-records
serve_all-requires-clause-records c =
    (records_of c.args.listing.now, c.in_ok-world.ensures.stands, c.in_ok-records.ensures.count)

pub returns-clause-served : goal.returns-clause-served
returns-clause-served c =
    from_opened c.args.listing.now c.in_ok-world.world (records_of c.args.listing.now) c.args.calls.now _ _
    c.in_ok-world.ensures
    (c.in_ok-replies.ensures.served (records_of c.args.listing.now) c.in_ok-world.ensures.stands
    c.in_ok-records.ensures.count)
