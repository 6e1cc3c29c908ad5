use Rattle.std.proofs.Common.{◌≡◌, Some, None, cond, is_some, refl, sym, ap, ◌∙◌}
use Rattle.std.specs.FinMap.{get}
use Rattle.std.specs.Sync.RwLock.{write_guard_value}
use Rattle.lh_page.specs.Records.{value_at}
use Rattle.lh_bucket.specs.Bucket.{Seen, content}
use Rattle.lh_bucket.specs.Change.{reply_of}
use Rattle.lh_bucket.specs.PagedBucket.{found_at}
use Rattle.lh_bucket.specs.PlainMap.{found, reply}
use Rattle.lh_bucket.specs.declared.call.Call.TheVariants.{Search, Replace}
use Rattle.lh_bucket.specs.declared.call.Reply.TheVariants.{Absent, Replaced}
use Rattle.lh_file.specs.Calls.Atomic.{ComparesAndSets}
use Rattle.lh_file.specs.declared.calls.atomic.Compared.TheVariants as compared
use Rattle.lh_file.proofs.OfCalls.AtOnce.{not_held, not_made, made_one, was_some, was_none, equal_bytes, unequal_bytes}
use Rattle.lh_file.proofs.file.SizedFile.compare_and_set.Goals as goal

pub returns-in_err-guard : goal.returns-in_err-guard
returns-in_err-guard g c =
    not_held g.M.Mode.traced c.args.self.now.state (g.K.Coded.bytes c.args.key.now)
    (ComparesAndSets c.args.expected.now c.args.value.now) c.args.hand.now
    c.hold.new.hand c.from_residual.result c.in_err-guard.field-0.0 c.from_residual.ensures.1
    c.in_err-guard.ensures.spent c.in_err-guard.ensures.not_spent c.hold.ensures.looked c.hold.ensures.of

pub returns-in_err-leave_held : goal.returns-in_err-leave_held
returns-in_err-leave_held g c =
    not_made g.M.Mode.traced c.args.self.now.state (g.K.Coded.bytes c.args.key.now)
    (ComparesAndSets c.args.expected.now c.args.value.now) c.args.hand.now
    c.hold.new.hand c.leave_held.new.hand c.from_residual-in_err-leave_held.result c.in_err-leave_held.field-0.0
    c.from_residual-in_err-leave_held.ensures.1 c.hold.ensures.looked c.in_ok-guard.ensures.ready
    c.in_err-leave_held.ensures.err c.in_err-leave_held.ensures.fault c.leave_held.ensures.of

pub returns-in_err-leave_held-2 : goal.returns-in_err-leave_held-2
returns-in_err-leave_held-2 g c =
    not_made g.M.Mode.traced c.args.self.now.state (g.K.Coded.bytes c.args.key.now)
    (ComparesAndSets c.args.expected.now c.args.value.now) c.args.hand.now
    c.hold.new.hand c.leave_held-then-ne.new.hand c.from_residual-in_err-leave_held-2.result
    c.in_err-leave_held-2.field-0.0
    c.from_residual-in_err-leave_held-2.ensures.1 c.hold.ensures.looked c.in_ok-guard.ensures.ready
    c.in_err-leave_held-2.ensures.err c.in_err-leave_held-2.ensures.fault c.leave_held-then-ne.ensures.of

pub returns-in_err-change_held : goal.returns-in_err-change_held
returns-in_err-change_held g c =
    not_made g.M.Mode.traced c.args.self.now.state (g.K.Coded.bytes c.args.key.now)
    (ComparesAndSets c.args.expected.now c.args.value.now) c.args.hand.now
    c.hold.new.hand c.change_held.new.hand c.from_residual-in_err-change_held.result c.in_err-change_held.field-0.0
    c.from_residual-in_err-change_held.ensures.1 c.hold.ensures.looked c.in_ok-guard.ensures.ready
    c.in_err-change_held.ensures.err c.in_err-change_held.ensures.fault c.change_held.ensures.of

pub returns-in_default : goal.returns-in_default
returns-in_default g c =
    let held = write_guard_value c.in_ok-guard.guard in
    let is : get (content held) c.key-in_default.result.now ≡ None =
    ap (get (content held)) (c.key-in_default.ensures ∙ sym c.key.ensures) ∙ was_none (get (content held)
    c.key.result.now)
    (ap (found_at held.pairs) (sym c.in_default.is) ∙ c.in_ok-guard.ensures.found) in
    made_one g.M.Mode.traced c.args.self.now.state (g.K.Coded.bytes c.args.key.now)
    (ComparesAndSets c.args.expected.now c.args.value.now) c.args.hand.now c.hold.new.hand c.leave_held.new.hand
    compared.Absent (get (content held) c.key-in_default.result.now) None (Search c.key-in_default.result.now)
    (reply (content held) (Search c.key-in_default.result.now)) c.hold.ensures.looked c.in_ok-guard.ensures.ready
    c.in_ok-leave_held.ensures.served c.in_ok-leave_held.ensures.met is
    c.leave_held.ensures.of c.key-in_default.ensures
    (refl, ap Search c.key-in_default.ensures, ap found is)

pub returns-then-ne : goal.returns-then-ne
returns-then-ne g c =
    let held = write_guard_value c.in_ok-guard.guard in
    let was = value_at held.pairs c.in-Some.at in
    let met : c.value_bytes.result.now ≡ was =
    c.value_bytes.ensures.value ∙ ap (λ (b : Seen). value_at b.pairs c.in-Some.at) (c.bucket.ensures ∙
    c.deref.ensures) in
    let is : get (content held) c.key-then-ne.result.now ≡ Some was =
    ap (get (content held)) (c.key-then-ne.ensures ∙ sym c.key.ensures) ∙ was_some (get (content held)
    c.key.result.now) was
    (ap (found_at held.pairs) (sym c.in-Some.is) ∙ c.in_ok-guard.ensures.found) in
    made_one g.M.Mode.traced c.args.self.now.state (g.K.Coded.bytes c.args.key.now)
    (ComparesAndSets c.args.expected.now c.args.value.now) c.args.hand.now c.hold.new.hand c.leave_held-then-ne.new.hand
    compared.Differs (get (content held) c.key-then-ne.result.now) (Some was) (Search c.key-then-ne.result.now)
    (reply (content held) (Search c.key-then-ne.result.now)) c.hold.ensures.looked c.in_ok-guard.ensures.ready
    c.in_ok-leave_held-2.ensures.served c.in_ok-leave_held-2.ensures.met is
    c.leave_held-then-ne.ensures.of c.key-then-ne.ensures (
      λ same.
          unequal_bytes c.value_bytes.result.now c.bytes.result.now c.if-ne.ensures
          (met ∙ same ∙ sym c.bytes.ensures.value),
      ap Search c.key-then-ne.ensures,
      ap found is,
    )

pub returns : goal.returns
returns g c =
    let held = write_guard_value c.in_ok-guard.guard in
    let was = value_at held.pairs c.in-Some.at in
    let met : c.value_bytes.result.now ≡ was =
    c.value_bytes.ensures.value ∙ ap (λ (b : Seen). value_at b.pairs c.in-Some.at) (c.bucket.ensures ∙
    c.deref.ensures) in
    let is : get (content held) c.key-2.result.now ≡ Some was =
    ap (get (content held)) (c.key-2.ensures ∙ sym c.key.ensures) ∙ was_some (get (content held) c.key.result.now) was
    (ap (found_at held.pairs) (sym c.in-Some.is) ∙ c.in_ok-guard.ensures.found) in
    made_one g.M.Mode.traced c.args.self.now.state (g.K.Coded.bytes c.args.key.now)
    (ComparesAndSets c.args.expected.now c.args.value.now) c.args.hand.now c.hold.new.hand c.change_held.new.hand
    compared.Replaced (get (content held) c.key-2.result.now) (Some was) (Replace c.key-2.result.now c.args.value.now)
    (reply_of c.in_ok-change_held.field-0) c.hold.ensures.looked c.in_ok-guard.ensures.ready
    c.in_ok-change_held.ensures.served c.in_ok-change_held.ensures.met is
    c.change_held.ensures.of c.key-2.ensures (
      sym met ∙ equal_bytes c.value_bytes.result.now c.bytes.result.now c.if-ne.ensures ∙ c.bytes.ensures.value,
      ap (λ x. Replace x c.args.value.now) c.key-2.ensures,
      c.in_ok-change_held.ensures.replied ∙ ap (λ o. cond (is_some o) Replaced Absent) is,
    )
