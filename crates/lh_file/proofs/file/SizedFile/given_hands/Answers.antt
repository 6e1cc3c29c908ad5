use Rattle.std.proofs.Common.{◌≡◌, ◌*◌, ◌+◌, ◌-◌, All, sym, ap, ◌∙◌, subst, rules, arith}
use Rattle.std.proofs.lemmas.List.Elements.{All-push}
use Rattle.lh_file.specs.Words.HandState.{HandState, IsBranch, seeing}
use Rattle.lh_words.specs.Views.{lessened}
use Rattle.lh_file.proofs.file.SizedFile.given_hands.Goals as goal

pub loop-thread-init : goal.loop-thread-init
loop-thread-init g c =
    let hand : HandState = c.args.hand.now in
    let none : hand.view.left ≡ hand.view.left - 0 * c.args.calls = omega arith in record {
      many = search rules;
      len = search rules;
      room = search rules;
      given = search rules;
      kept = ap (λ left. seeing hand (record (hand.view) { left = left })) none;
    }

pub loop-thread-preserved : goal.loop-thread-preserved
loop-thread-preserved g c =
    let hand : HandState = c.args.hand.now in
    let before = c.loop-thread.invariant in
    let given = c.give.ensures.given in
    let loop = seeing hand (lessened (c.loop-thread._thread * c.args.calls) hand.view) in
    let of_loop : IsBranch c.args.calls loop given.0 =
    subst (λ (h : HandState). IsBranch c.args.calls h given.0) before.kept given.2 in
    let of_hand : IsBranch c.args.calls hand given.0 = record {
      table = of_loop.table;
      recording = of_loop.recording;
      view = of_loop.view;
      entries = of_loop.entries;
      logs = of_loop.logs;
      acts = of_loop.acts;
    } in
    let one_more : hand.view.left - c.loop-thread._thread * c.args.calls - c.args.calls
    ≡ hand.view.left - (c.loop-thread._thread + 1) * c.args.calls = omega arith in record {
      many = c.give.ensures.count ∙ ap (λ n. n + 1) before.many;
      len = c.give.ensures.len ∙ ap (λ n. n + 1) before.len;
      room = omega (arith, before.room, c.give.ensures.room);
      given =
          subst (All (IsBranch c.args.calls hand)) (sym given.1)
          (All-push (IsBranch c.args.calls hand) c.loop-thread.hands.items given.0 before.given of_hand);
      kept = c.give.ensures.kept
          ∙ ap (λ (h : HandState). seeing h (lessened c.args.calls h.view)) before.kept
          ∙ ap (λ left. seeing hand (record (hand.view) { left = left })) one_more;
    }
