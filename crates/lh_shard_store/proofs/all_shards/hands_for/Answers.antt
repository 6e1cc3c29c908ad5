use Rattle.std.proofs.Common.{◌+◌, ◌∙◌, All, ap, length, subst, sym, arith}
use Rattle.std.proofs.lemmas.List.{length_push}
use Rattle.std.proofs.lemmas.List.Elements.{All-push}
use Rattle.lh_shards.specs.Hands.{AreOf}
use Rattle.lh_shard_store.proofs.all_shards.hands_for.Goals as goal

pub loop-caller-preserved : goal.loop-caller-preserved
loop-caller-preserved c =
    let P = AreOf c.args.shards.now in record {
      of = c.in_ok-own.ensures.of;
      given =
          subst (All P) (sym c.push_reserved.ensures.items)
          (All-push P c.loop-caller.given.items c.in_ok-own.own c.loop-caller.invariant.given
          c.in_ok-own.ensures.given);
      count =
          ap length c.push_reserved.ensures.items
          ∙ length_push c.loop-caller.given.items c.in_ok-own.own
          ∙ ap (λ n. n + 1) c.loop-caller.invariant.count;
      room = omega (arith, c.push_reserved.ensures.capacity, c.loop-caller.invariant.room);
    }
