use Rattle.std.proofs.Common.{◌≡◌, take}
use Rattle.std.specs.FinMap.{len}
use Rattle.lh_bucket.specs.PlainMap.{Records}
use Rattle.lh_core.specs.World.{StandsFor}
use Rattle.lh_core.proofs.OneCaller.Serving.{Served}
use Rattle.lh_core.proofs.world.World.serve_all.Given as goal

abbrev pub invariant-loop-call : goal.invariant-loop-call
invariant-loop-call g l =
    (m : Records) → StandsFor l.fn.self m → l.start ≡ len m →
    Served l.fn.self m l.start (take l.call-index l.calls) l.replies.items l.self l.records
