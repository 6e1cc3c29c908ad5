use Rattle.std.proofs.Common.{◌≡◌, Some, None, cond, is_some, refl, sym, ap, ◌∙◌}
use Rattle.std.specs.FinMap.{get}
use Rattle.std.specs.Sync.RwLock.{write_guard_value}
use Rattle.lh_bucket.specs.Bucket.{Seen, content}
use Rattle.lh_bucket.specs.Change.{reply_of}
use Rattle.lh_bucket.specs.PagedBucket.{found_at}
use Rattle.lh_bucket.specs.PlainMap.{found, reply}
use Rattle.lh_bucket.specs.declared.call.Call.TheVariants.{Search, Insert}
use Rattle.lh_bucket.specs.declared.call.Reply.TheVariants.{Inserted, Exists}
use Rattle.lh_file.specs.Calls.Atomic.{GetsOrPuts}
use Rattle.lh_file.proofs.OfCalls.AtOnce.{not_held, not_made, made_one, then_knows, was_some, was_none}
use Rattle.lh_file.proofs.file.SizedFile.get_or_put.Goals as goal

pub returns-in_err-guard : goal.returns-in_err-guard
returns-in_err-guard g c =
    not_held g.M.Mode.traced c.args.self.now.state (g.K.Coded.bytes c.args.key.now) (GetsOrPuts c.args.value.now)
    c.args.hand.now
    c.hold.new.hand c.from_residual.result c.in_err-guard.field-0.0 c.from_residual.ensures.1
    c.in_err-guard.ensures.spent c.in_err-guard.ensures.not_spent c.hold.ensures.looked c.hold.ensures.of

pub returns-in_err-leave_held-in-Some : goal.returns-in_err-leave_held-in-Some
returns-in_err-leave_held-in-Some g c =
    not_made g.M.Mode.traced c.args.self.now.state (g.K.Coded.bytes c.args.key.now) (GetsOrPuts c.args.value.now)
    c.args.hand.now
    c.hold.new.hand c.leave_held.new.hand c.from_residual-in_err-leave_held-in-Some.result
    c.in_err-leave_held-in-Some.field-0.0
    c.from_residual-in_err-leave_held-in-Some.ensures.1 c.hold.ensures.looked c.in_ok-guard.ensures.ready
    c.in_err-leave_held-in-Some.ensures.err c.in_err-leave_held-in-Some.ensures.fault c.leave_held.ensures.of

pub returns-in_err-change_held-in-None : goal.returns-in_err-change_held-in-None
returns-in_err-change_held-in-None g c =
    not_made g.M.Mode.traced c.args.self.now.state (g.K.Coded.bytes c.args.key.now) (GetsOrPuts c.args.value.now)
    c.args.hand.now
    c.hold.new.hand c.change_held.new.hand c.from_residual-in_err-change_held-in-None.result
    c.in_err-change_held-in-None.field-0.0
    c.from_residual-in_err-change_held-in-None.ensures.1 c.hold.ensures.looked c.in_ok-guard.ensures.ready
    c.in_err-change_held-in-None.ensures.err c.in_err-change_held-in-None.ensures.fault c.change_held.ensures.of

pub returns-in_ok-leave_held-in-Some : goal.returns-in_ok-leave_held-in-Some
returns-in_ok-leave_held-in-Some g c =
    let held = write_guard_value c.in_ok-guard.guard in
    let is : get (content held) c.key-in-Some.result.now ≡ Some c.in-Some.there =
    ap (get (content held)) (c.key-in-Some.ensures ∙ sym c.key.ensures) ∙ was_some (get (content held)
    c.key.result.now) c.in-Some.there
    (c.in-Some.ensures ∙ ap (λ (b : Seen). found_at b.pairs c.in_ok-guard.place) (c.bucket.ensures ∙ c.deref.ensures)
    ∙ c.in_ok-guard.ensures.found) in
    made_one g.M.Mode.traced c.args.self.now.state (g.K.Coded.bytes c.args.key.now) (GetsOrPuts c.args.value.now)
    c.args.hand.now c.hold.new.hand c.leave_held.new.hand
    (Some c.in-Some.there) (get (content held) c.key-in-Some.result.now) (Some c.in-Some.there) (Search
    c.key-in-Some.result.now) (reply (content held) (Search c.key-in-Some.result.now))
    c.hold.ensures.looked c.in_ok-guard.ensures.ready c.in_ok-leave_held-in-Some.ensures.served
    c.in_ok-leave_held-in-Some.ensures.met is
    c.leave_held.ensures.of c.key-in-Some.ensures
    (refl, ap Search c.key-in-Some.ensures, ap found is)

pub returns-in_ok-change_held-in-None : goal.returns-in_ok-change_held-in-None
returns-in_ok-change_held-in-None g c =
    let held = write_guard_value c.in_ok-guard.guard in
    let is : get (content held) c.key-in-None.result.now ≡ None =
    ap (get (content held)) (c.key-in-None.ensures ∙ sym c.key.ensures) ∙ was_none (get (content held) c.key.result.now)
    (c.in-None.ensures ∙ ap (λ (b : Seen). found_at b.pairs c.in_ok-guard.place) (c.bucket.ensures ∙ c.deref.ensures)
    ∙ c.in_ok-guard.ensures.found) in
    then_knows g.M.Mode.traced c.args.self.now.state (g.K.Coded.bytes c.args.key.now) (GetsOrPuts c.args.value.now)
    c.args.hand.now c.change_held.new.hand c.grow.new.hand None
    (made_one g.M.Mode.traced c.args.self.now.state (g.K.Coded.bytes c.args.key.now) (GetsOrPuts c.args.value.now)
    c.args.hand.now c.hold.new.hand c.change_held.new.hand
    None (get (content held) c.key-in-None.result.now) None (Insert c.key-in-None.result.now c.args.value.now)
    (reply_of c.in_ok-change_held-in-None.field-0)
    c.hold.ensures.looked c.in_ok-guard.ensures.ready c.in_ok-change_held-in-None.ensures.served
    c.in_ok-change_held-in-None.ensures.met is
    c.change_held.ensures.of c.key-in-None.ensures (
      refl,
      ap (λ x. Insert x c.args.value.now) c.key-in-None.ensures,
      c.in_ok-change_held-in-None.ensures.replied ∙ ap (λ o. cond (is_some o) Exists Inserted) is,
    ))
    c.grow.ensures.looked c.grow.ensures.of
