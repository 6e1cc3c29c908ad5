use Rattle.std.proofs.Common.{rules, ◌≡◌, ◌≤◌, ◌+◌, ℕ, List, length, subst}
use Rattle.std.proofs.Common.{Some, None, true, false, cond, is_some, refl, sym, ap, ◌∙◌}
use Rattle.std.specs.FinMap.{get}
use Rattle.std.specs.Fn.{FnOnceReturnsAt}
use Rattle.std.specs.Sync.RwLock.{write_guard_value}
use Rattle.lh_bucket.specs.Bucket.{Seen, content}
use Rattle.lh_bucket.specs.Call.{CallFits}
use Rattle.lh_bucket.specs.Change.{reply_of}
use Rattle.lh_bucket.specs.PagedBucket.{found_at}
use Rattle.lh_bucket.specs.PlainMap.{found, reply}
use Rattle.lh_bucket.specs.declared.call.Call.TheVariants.{Search, Replace}
use Rattle.lh_bucket.specs.declared.call.Reply.TheVariants.{Absent, Replaced}
use Rattle.lh_file.specs.Calls.Atomic.{Updates}
use Rattle.lh_file.proofs.OfCalls.AtOnce.{not_held, not_made, made_one, lent_some, lent_none}
use Rattle.lh_file.proofs.file.SizedFile.update.Goals as goal

pub change_held-requires : goal.change_held-requires
change_held-requires g c =
    let held = write_guard_value c.in_ok-guard.guard in
    let lent =
    lent_some (FnOnceReturnsAt g.F.FnOnce c.args.change) _ c.in-Some.value (get (content held) c.key.result.now)
    c.in-Some.ensures
    (ap (λ (b : Seen). found_at b.pairs c.in_ok-guard.place) (c.bucket.ensures ∙ c.deref.ensures)
    ∙ c.in_ok-guard.ensures.found) in
    let fits : CallFits g.row.ROOM (Replace c.key-in-Some.result.now c.in-Some.value) = λ narrow. subst
    (λ (k : List ℕ). length k + length c.in-Some.value ≤ g.row.ROOM)
    (sym c.key-in-Some.ensures) (c.requires.fits narrow lent.0 c.in-Some.value lent.2) in
    (search rules, (search rules, (search rules, (search rules, (search rules, (search rules, (search rules, fits)))))))

pub returns-in_err-guard : goal.returns-in_err-guard
returns-in_err-guard g c =
    not_held g.M.Mode.traced c.args.self.now.state (g.K.Coded.bytes c.args.key.now)
    (Updates (FnOnceReturnsAt g.F.FnOnce c.args.change)) c.args.hand.now
    c.hold.new.hand c.from_residual.result c.in_err-guard.field-0.0 c.from_residual.ensures.1
    c.in_err-guard.ensures.spent c.in_err-guard.ensures.not_spent c.hold.ensures.looked c.hold.ensures.of

pub returns-in_err-change_held-in-Some : goal.returns-in_err-change_held-in-Some
returns-in_err-change_held-in-Some g c =
    not_made g.M.Mode.traced c.args.self.now.state (g.K.Coded.bytes c.args.key.now)
    (Updates (FnOnceReturnsAt g.F.FnOnce c.args.change)) c.args.hand.now
    c.hold.new.hand c.change_held.new.hand c.from_residual-in_err-change_held-in-Some.result
    c.in_err-change_held-in-Some.field-0.0
    c.from_residual-in_err-change_held-in-Some.ensures.1 c.hold.ensures.looked c.in_ok-guard.ensures.ready
    c.in_err-change_held-in-Some.ensures.err c.in_err-change_held-in-Some.ensures.fault c.change_held.ensures.of

pub returns-in_err-leave_held-in-None : goal.returns-in_err-leave_held-in-None
returns-in_err-leave_held-in-None g c =
    not_made g.M.Mode.traced c.args.self.now.state (g.K.Coded.bytes c.args.key.now)
    (Updates (FnOnceReturnsAt g.F.FnOnce c.args.change)) c.args.hand.now
    c.hold.new.hand c.leave_held.new.hand c.from_residual-in_err-leave_held-in-None.result
    c.in_err-leave_held-in-None.field-0.0
    c.from_residual-in_err-leave_held-in-None.ensures.1 c.hold.ensures.looked c.in_ok-guard.ensures.ready
    c.in_err-leave_held-in-None.ensures.err c.in_err-leave_held-in-None.ensures.fault c.leave_held.ensures.of

pub returns-in_ok-change_held-in-Some : goal.returns-in_ok-change_held-in-Some
returns-in_ok-change_held-in-Some g c =
    let held = write_guard_value c.in_ok-guard.guard in
    let lent =
    lent_some (FnOnceReturnsAt g.F.FnOnce c.args.change) _ c.in-Some.value (get (content held) c.key.result.now)
    c.in-Some.ensures
    (ap (λ (b : Seen). found_at b.pairs c.in_ok-guard.place) (c.bucket.ensures ∙ c.deref.ensures)
    ∙ c.in_ok-guard.ensures.found) in
    let is : get (content held) c.key-in-Some.result.now ≡ Some lent.0 =
    ap (get (content held)) (c.key-in-Some.ensures ∙ sym c.key.ensures) ∙ lent.1 in
    made_one g.M.Mode.traced c.args.self.now.state (g.K.Coded.bytes c.args.key.now)
    (Updates (FnOnceReturnsAt g.F.FnOnce c.args.change)) c.args.hand.now c.hold.new.hand c.change_held.new.hand
    true (get (content held) c.key-in-Some.result.now) (Some lent.0) (Replace c.key-in-Some.result.now
    c.in-Some.value) (reply_of c.in_ok-change_held-in-Some.field-0)
    c.hold.ensures.looked c.in_ok-guard.ensures.ready c.in_ok-change_held-in-Some.ensures.served
    c.in_ok-change_held-in-Some.ensures.met is
    c.change_held.ensures.of c.key-in-Some.ensures (
      c.in-Some.value,
      lent.2,
      refl,
      ap (λ x. Replace x c.in-Some.value) c.key-in-Some.ensures,
      c.in_ok-change_held-in-Some.ensures.replied ∙ ap (λ o. cond (is_some o) Replaced Absent) is,
    )

pub returns-in_ok-leave_held-in-None : goal.returns-in_ok-leave_held-in-None
returns-in_ok-leave_held-in-None g c =
    let held = write_guard_value c.in_ok-guard.guard in
    let is : get (content held) c.key-in-None.result.now ≡ None =
    ap (get (content held)) (c.key-in-None.ensures ∙ sym c.key.ensures) ∙ lent_none (FnOnceReturnsAt g.F.FnOnce
    c.args.change) _ (get (content held) c.key.result.now) c.in-None.ensures
    (ap (λ (b : Seen). found_at b.pairs c.in_ok-guard.place) (c.bucket.ensures ∙ c.deref.ensures)
    ∙ c.in_ok-guard.ensures.found) in
    made_one g.M.Mode.traced c.args.self.now.state (g.K.Coded.bytes c.args.key.now)
    (Updates (FnOnceReturnsAt g.F.FnOnce c.args.change)) c.args.hand.now c.hold.new.hand c.leave_held.new.hand
    false (get (content held) c.key-in-None.result.now) (None) (Search c.key-in-None.result.now) (reply (content held)
    (Search c.key-in-None.result.now))
    c.hold.ensures.looked c.in_ok-guard.ensures.ready c.in_ok-leave_held-in-None.ensures.served
    c.in_ok-leave_held-in-None.ensures.met is
    c.leave_held.ensures.of c.key-in-None.ensures
    (refl, ap Search c.key-in-None.ensures, ap found is)
