use Rattle.std.proofs.Common.{◌≡◌, cond, is_some, refl, sym, ap, ◌∙◌}
use Rattle.std.specs.FinMap.{get}
use Rattle.std.specs.Sync.RwLock.{write_guard_value}
use Rattle.lh_bucket.specs.Bucket.{Seen, content}
use Rattle.lh_bucket.specs.Change.{reply_of}
use Rattle.lh_bucket.specs.PagedBucket.{found_at}
use Rattle.lh_bucket.specs.declared.call.Call.TheVariants.{Delete}
use Rattle.lh_bucket.specs.declared.call.Reply.TheVariants.{Deleted, Absent}
use Rattle.lh_file.specs.Calls.Atomic.{Takes}
use Rattle.lh_file.proofs.OfCalls.AtOnce.{not_held, not_made, made_one, same_found, removed}
use Rattle.lh_file.proofs.file.SizedFile.take.Goals as goal

pub returns-in_err-guard : goal.returns-in_err-guard
returns-in_err-guard g c =
    not_held g.M.Mode.traced c.args.self.now.state (g.K.Coded.bytes c.args.key.now) Takes c.args.hand.now
    c.hold.new.hand c.from_residual.result c.in_err-guard.field-0.0 c.from_residual.ensures.1
    c.in_err-guard.ensures.spent c.in_err-guard.ensures.not_spent c.hold.ensures.looked c.hold.ensures.of

pub returns-in_err-change_held : goal.returns-in_err-change_held
returns-in_err-change_held g c =
    not_made g.M.Mode.traced c.args.self.now.state (g.K.Coded.bytes c.args.key.now) Takes c.args.hand.now
    c.hold.new.hand c.change_held.new.hand c.from_residual-in_err-change_held.result c.in_err-change_held.field-0.0
    c.from_residual-in_err-change_held.ensures.1 c.hold.ensures.looked c.in_ok-guard.ensures.ready
    c.in_err-change_held.ensures.err c.in_err-change_held.ensures.fault c.change_held.ensures.of

pub returns : goal.returns
returns g c =
    let held = write_guard_value c.in_ok-guard.guard in
    let taken = c.value_found-taken.result in
    let is : get (content held) c.key-2.result.now ≡ taken =
    ap (get (content held)) (c.key-2.ensures ∙ sym c.key.ensures)
    ∙ sym
    (same_found taken (get (content held) c.key.result.now)
    (c.value_found-taken.ensures
    ∙ ap (λ (b : Seen). found_at b.pairs c.in_ok-guard.place) (c.bucket.ensures ∙ c.deref.ensures)
    ∙ c.in_ok-guard.ensures.found)) in
    made_one g.M.Mode.traced c.args.self.now.state (g.K.Coded.bytes c.args.key.now) Takes c.args.hand.now
    c.hold.new.hand c.change_held.new.hand taken (get (content held) c.key-2.result.now) taken
    (Delete c.key-2.result.now) (reply_of c.in_ok-change_held.field-0) c.hold.ensures.looked
    c.in_ok-guard.ensures.ready c.in_ok-change_held.ensures.served c.in_ok-change_held.ensures.met is
    c.change_held.ensures.of c.key-2.ensures (
      refl,
      ap Delete c.key-2.ensures,
      c.in_ok-change_held.ensures.replied ∙ ap (λ o. cond (is_some o) Deleted Absent) is ∙ removed (is_some taken),
    )
