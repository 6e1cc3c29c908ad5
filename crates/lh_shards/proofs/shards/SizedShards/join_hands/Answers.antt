-- Hands that were given room are of the same files, and so are those that are joined.
use Rattle.std.proofs.Common.{lit<}
use Rattle.lh_shards.proofs.Joins.{joined_are_of, joined_from, same_are_of}
use Rattle.lh_shards.proofs.shards.SizedShards.join_hands.Goals as goal

pub joined-requires : goal.joined-requires
joined-requires g c = (
  lit< tt,
  (
    same_are_of c.args.self.now c.args.first c.make_room.new.first c.requires.first c.make_room.ensures.same,
    (c.requires.second, c.in-None.ensures.room),
  ),
)

pub returns-in-Some-clause-first_of : goal.returns-in-Some-clause-first_of
returns-in-Some-clause-first_of g c =
    same_are_of c.args.self.now c.args.first c.make_room.new.first c.requires.first c.make_room.ensures.same

pub returns-in-None-clause-united : goal.returns-in-None-clause-united
returns-in-None-clause-united g c = record {
  ok =
      joined_from c.args.first c.make_room.new.first c.args.second c.joined.result c.make_room.ensures.same
      c.joined.ensures;
  first_back = tt;
  second_back = tt;
  short = tt;
  before = tt;
}

pub returns-in-None-clause-of : goal.returns-in-None-clause-of
returns-in-None-clause-of g c =
    joined_are_of c.args.self.now c.args.first c.args.second c.joined.result c.requires.first c.requires.second
    (joined_from c.args.first c.make_room.new.first c.args.second c.joined.result c.make_room.ensures.same
    c.joined.ensures)
