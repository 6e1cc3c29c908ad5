use Rattle.std.proofs.Common.{Ok, subst}
use Rattle.lh_bucket.specs.Bucket.{Seen}
use Rattle.lh_bucket.specs.PagedBucket.{found_at}
use Rattle.lh_bucket.specs.declared.call.Call.TheVariants.{Search}
use Rattle.lh_file.specs.Calls.Served.{HasServed}
use Rattle.lh_file.proofs.OfCalls.Serving.{knows_then_makes}
use Rattle.lh_file.proofs.file.SizedFile.seek.Goals as goal

pub returns-in-Ok-clause-made : goal.returns-in-Ok-clause-made
returns-in-Ok-clause-made g c =
    let call = Search c.args.key.now in let place = c.in-Ok.place in
    knows_then_makes c.args.self.now.state c.args.hand.now c.begin.new.hand c.look.new.hand call
    (Ok (c.in_ok-guard.guard, c.home-home.result, place))
    _
    c.in_ok-aim.ensures.looked c.in_ok-aim.ensures.ready.left
    (subst (λ (s : Seen). HasServed c.begin.new.hand call (found_at s.pairs place) c.look.new.hand) c.deref-2.ensures
    c.in-Ok.ensures.served)
    c.look.ensures.of tt tt
