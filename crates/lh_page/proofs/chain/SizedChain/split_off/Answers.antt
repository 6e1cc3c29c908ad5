use Rattle.std.proofs.Common.{Bool, not, ◌∙◌}
use Rattle.lh_page.specs.declared.pair.Pair.{Pair}
use Rattle.lh_page.proofs.Distinct.{distinct_filter}
use Rattle.lh_page.proofs.chain.SizedChain.split_off.Goals as goal

pub invariant_of-result : goal.invariant_of-result
invariant_of-result g c =
    let h = c.self.invariant.1 in
    let test : Pair → Bool = λ p. g.S.KeySet.member c.args.keys.now p.key in (
      c.self.invariant.0,
      record {
        list =
            record {
              capacity = h.list.capacity;
              distinct =
                  rw (c.pairs.view_is ∙ c.in_ok-pairs.ensures.gone)
                  (distinct_filter test c.self.inside.pairs h.list.distinct);
            };
        room = c.pairs.invariant.0;
        marked = c.pairs.invariant.1;
      },
    )

pub invariant_of-self : goal.invariant_of-self
invariant_of-self g c =
    let h = c.self.invariant.1 in
    let test : Pair → Bool = λ p. not (g.S.KeySet.member c.args.keys.now p.key) in (
      c.self.invariant.0,
      record {
        list =
            record {
              capacity = h.list.capacity;
              distinct =
                  rw c.keep_rest.ensures.kept (distinct_filter test c.self.inside.pairs h.list.distinct);
            };
        room = c.keep_rest.ensures.room ∙ h.room;
        marked = c.keep_rest.ensures.marked;
      },
    )
