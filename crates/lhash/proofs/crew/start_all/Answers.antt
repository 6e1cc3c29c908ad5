use Rattle.std.proofs.Common.{◌≡◌, ◌∙◌, ℕ, ◌+◌, ◌-◌, ◌<◌, ◌≤◌, ◌^◌, length, ap, refl, sym, arith, rules}
use Rattle.lhash.proofs.Places.{places_before, places_before-all, places_before-left, places_before-more}
use Rattle.lhash.proofs.HandCalls.{as_many}
use Rattle.lhash.specs.Crew.{places_from}
use Rattle.lhash.proofs.crew.start_all.Goals as goal

-- what is left has the calls of the next thread
to_deal : {Hands : Type 0} (Have : ℕ → ℕ → Hands → Type 0) (hands : Hands) (first threads calls left share : ℕ) →
    first < threads → calls ≤ 2 ^ 63 → left + places_before first threads calls ≡ 2 ^ 63 →
    share ≡ places_from first threads calls → Have left 0 hands → Have (left - share + share) 0 hands
to_deal Have hands first threads calls left share within few kept is have =
    as_many Have hands
    ((places_before-left first threads calls left (2 ^ 63) within few kept).0 ∙ ap (λ n. left - n + n) (sym is)) refl
    have

pub divide-requires : goal.divide-requires
divide-requires g c = (
  _,
  to_deal (g.T.SharedTable.have c.args.table.now) _ _ _ _ _ _ c.loop-first-test.true (omega arith)
      c.loop-first.invariant.kept c.calls_of_thread-share.ensures c.loop-first.invariant.hands,
)

pub returns-in_err-worker-clause-hands : goal.returns-in_err-worker-clause-hands
returns-in_err-worker-clause-hands g c = (
  _,
  c.in_ok-part.ensures.kept _
      (to_deal (g.T.SharedTable.have c.args.table.now) _ _ _ _ _ _ c.loop-first-test.true (omega arith)
      c.loop-first.invariant.kept c.calls_of_thread-share.ensures c.loop-first.invariant.hands),
  search rules,
)

pub returns-in_err-keep-clause-hands : goal.returns-in_err-keep-clause-hands
returns-in_err-keep-clause-hands g c = (
  _,
  c.in_ok-part.ensures.kept _
      (to_deal (g.T.SharedTable.have c.args.table.now) _ _ _ _ _ _ c.loop-first-test.true (omega arith)
      c.loop-first.invariant.kept c.calls_of_thread-share.ensures c.loop-first.invariant.hands),
  search rules,
)

pub loop-first-preserved : goal.loop-first-preserved
loop-first-preserved g c =
    let calls = length c.args.calls.now in
    let first = c.loop-first.first in
    let share = c.calls_of_thread-share in
    record {
      left = c.loop-first.invariant.left - share.result;
      hands = c.in_ok-part.ensures.kept _
          (to_deal (g.T.SharedTable.have c.args.table.now) _ _ _ _ _ _ c.loop-first-test.true (omega arith)
          c.loop-first.invariant.kept share.ensures c.loop-first.invariant.hands);
      kept = ap (λ n. c.loop-first.invariant.left - n + places_before (first + 1) c.args.threads calls) share.ensures
          ∙ (places_before-left first c.args.threads calls c.loop-first.invariant.left (2 ^ 63) c.loop-first-test.true
          (omega arith) c.loop-first.invariant.kept).1;
      each = c.in_ok-keep.ensures.all;
      dealt = c.in_ok-keep.ensures.calls
          ∙ omega (arith, c.in_ok-worker.ensures.calls, c.loop-first.invariant.dealt)
          ∙ sym (places_before-more first c.args.threads calls c.loop-first-test.true);
    }

pub returns-clause-hands : goal.returns-clause-hands
returns-clause-hands g c =
    let last : c.loop-first.first ≡ c.args.threads = omega (arith, c.loop-first-test.false, c.loop-first.auto) in
    let all =
    ap (λ first. places_before first c.args.threads (length c.args.calls.now)) last
    ∙ places_before-all c.args.threads (length c.args.calls.now) c.requires.threads in (
      c.loop-first.invariant.left,
      c.loop-first.invariant.hands,
      omega (arith, c.loop-first.invariant.kept, all),
    )

pub returns-clause-calls : goal.returns-clause-calls
returns-clause-calls g c =
    let last : c.loop-first.first ≡ c.args.threads = omega (arith, c.loop-first-test.false, c.loop-first.auto) in
    c.loop-first.invariant.dealt
    ∙ ap (λ first. places_before first c.args.threads (length c.args.calls.now)) last
    ∙ places_before-all c.args.threads (length c.args.calls.now) c.requires.threads
