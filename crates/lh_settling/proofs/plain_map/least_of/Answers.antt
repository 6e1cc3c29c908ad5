use Rattle.std.proofs.Common.{[], ◌∷◌, map, ◌∙◌}
use Rattle.std.specs.Map.{keys_of as entry_keys}
use Rattle.std.specs.Map.Iter.{deref}
use Rattle.std.proofs.lemmas.List.{map-append}
use Rattle.std.proofs.lemmas.Map.Iter.{iter_end}
use Rattle.lh_settling.specs.declared.plain_map.Name.{Name}
use Rattle.lh_settling.proofs.Tables.{least_more, least_none, least_there, least_first}
use Rattle.lh_settling.proofs.plain_map.least_of.Goals as goal

pub loop-name-preserved : goal.loop-name-preserved
loop-name-preserved c =
    rw (map-append (deref {X = Name}) c.loop-name.yielded (c.in-Some.name ∷ []))
    (least_more
    (map deref c.loop-name.yielded) c.loop-name.least c.in-Some.name.now c.lesser.result c.loop-name.invariant
    c.lesser.ensures.either c.lesser.ensures.second c.lesser.ensures.first)

pub returns-clause-none : goal.returns-clause-none
returns-clause-none c =
    least_none c.args.records.now.entries (map deref c.loop-name.yielded) c.loop-name.least
    (iter_end deref
    (entry_keys c.args.records.now.entries) c.loop-name.yielded c.into_iter-name-iterator.result
    c.loop-name.name-iterator c.next.new.self c.next.result
    (c.into_iter-name-iterator.ensures.into_iter_gives
    ∙ c.keys-name-items.ensures.rest) c.loop-name.yielded_by c.in-None.is c.next.ensures.steps).0
    c.loop-name.invariant

pub returns-clause-there : goal.returns-clause-there
returns-clause-there c =
    least_there c.args.records.now.entries (map deref c.loop-name.yielded) c.loop-name.least
    (iter_end deref
    (entry_keys c.args.records.now.entries) c.loop-name.yielded c.into_iter-name-iterator.result
    c.loop-name.name-iterator c.next.new.self c.next.result
    (c.into_iter-name-iterator.ensures.into_iter_gives
    ∙ c.keys-name-items.ensures.rest) c.loop-name.yielded_by c.in-None.is c.next.ensures.steps).0
    c.loop-name.invariant

pub returns-clause-least : goal.returns-clause-least
returns-clause-least c =
    least_first c.args.records.now.entries (map deref c.loop-name.yielded) c.loop-name.least
    (iter_end deref
    (entry_keys c.args.records.now.entries) c.loop-name.yielded c.into_iter-name-iterator.result
    c.loop-name.name-iterator c.next.new.self c.next.result
    (c.into_iter-name-iterator.ensures.into_iter_gives
    ∙ c.keys-name-items.ensures.rest) c.loop-name.yielded_by c.in-None.is c.next.ensures.steps).0
    c.loop-name.invariant
