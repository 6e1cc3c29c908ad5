use Rattle.std.proofs.Common.{◌∙◌, ℕ, List, [], ◌∷◌, sym, ap, map, not}
use Rattle.std.specs.Cmp.Lexicographic.{nat_list_cmp_total}
use Rattle.std.specs.Map.{keys_of as entry_keys}
use Rattle.std.specs.Map.Iter.{deref_pair}
use Rattle.std.proofs.lemmas.List.{map-append}
use Rattle.std.proofs.lemmas.Map.Iter.{btree_map_turn, iter_end}
use Rattle.lh_bucket.specs.Leaving.{leads_to}
use Rattle.lh_bucket.proofs.PlainBuckets.{has_none, has_more, has_same, has_all, keys_shown}
use Rattle.lh_bucket.proofs.plain_bucket.select.Goals as goal

pub loop-key-init : goal.loop-key-init
loop-key-init c = record {
  has =
      has_none (λ key. not (leads_to c.args.leaving.now.initial c.args.leaving.now.level c.args.leaving.now.number key))
      c.args.records.now.entries c.new-moved.result.entries c.new-moved.ensures.empty;
  ordered = c.new-moved.ensures.ordered;
}

pub loop-key-preserved-in_ok-insert : goal.loop-key-preserved-in_ok-insert
loop-key-preserved-in_ok-insert c =
    let f =
    λ (key : List ℕ).
    not (leads_to c.args.leaving.now.initial c.args.leaving.now.level c.args.leaving.now.number key) in
    let turn =
    btree_map_turn deref_pair c.loop-key.yielded c.into_iter-key-iterator.result c.loop-key.key-iterator
    c.next.new.self c.next.result (c.in-Some.key, c.in-Some.value) c.loop-key.yielded_by c.in-Some.is
    c.next.ensures.steps nat_list_cmp_total c.args.records.now c.into_iter-key-iterator.ensures.into_iter_gives.0
    c.into_iter-key-iterator.ensures.into_iter_gives.5 in
    record {
      has = rw (map-append (λ e. e.0.now) c.loop-key.yielded ((c.in-Some.key, c.in-Some.value) ∷ []))
          (has_more f c.args.records.now.entries c.loop-key.moved.entries c.insert.new.self.entries
          (map (λ e. e.0.now) c.loop-key.yielded) c.in-Some.key.now c.in-Some.value.now
          (sym (c.contains.ensures ∙ ap f c.bytes.ensures.value) ∙ c.if-contains.true) turn.1 c.loop-key.invariant.has
          c.in_ok-insert.ensures.updates.0);
      ordered = c.insert.ensures.ordered;
    }

pub loop-key-preserved : goal.loop-key-preserved
loop-key-preserved c =
    let f =
    λ (key : List ℕ).
    not (leads_to c.args.leaving.now.initial c.args.leaving.now.level c.args.leaving.now.number key) in
    record {
      has = rw (map-append (λ e. e.0.now) c.loop-key.yielded ((c.in-Some.key, c.in-Some.value) ∷ []))
          (has_same f c.args.records.now.entries c.loop-key.moved.entries (map (λ e. e.0.now) c.loop-key.yielded)
          c.in-Some.key.now
          (sym (c.contains.ensures ∙ ap f c.bytes.ensures.value) ∙ c.if-contains.false) c.loop-key.invariant.has);
      ordered = c.loop-key.invariant.ordered;
    }

pub returns-clause-map : goal.returns-clause-map
returns-clause-map c =
    let f =
    λ (key : List ℕ).
    not (leads_to c.args.leaving.now.initial c.args.leaving.now.level c.args.leaving.now.number key) in
    let end =
    iter_end deref_pair c.args.records.now.entries c.loop-key.yielded c.into_iter-key-iterator.result
    c.loop-key.key-iterator c.next.new.self c.next.result c.into_iter-key-iterator.ensures.into_iter_gives.0
    c.loop-key.yielded_by c.in-None.is c.next.ensures.steps in
    has_all f c.args.records.now.entries c.loop-key.moved.entries (map (λ e. e.0.now) c.loop-key.yielded)
    (keys_shown c.loop-key.yielded ∙ ap entry_keys end.0) c.loop-key.invariant.has
