use Rattle.std.proofs.Common.{◌≡◌, List, map, length, refl, sym, ap, subst, arith}
use Rattle.std.proofs.lemmas.List.{length-map}
use Rattle.std.specs.List.{All}
use Rattle.lh_page.specs.declared.pair.Pair.{Pair}
use Rattle.lh_page.specs.Records.{IsRecord}
use Rattle.lh_bucket.specs.Listing.{IsHome, EachPlace, list_at}
use Rattle.lh_bucket.proofs.listing.Listing.of_known.Goals as goal

pub invariant_of-result : goal.invariant_of-result
invariant_of-result c =
    let lists : List (List Pair) = map (λ v. v.items) c.args.lists.items in
    let many : length lists ≡ length c.args.lists.items = length-map c.args.lists.items (λ v. v.items) in record {
      config = c.initial-initial.ensures.in_range;
      shape = record {
        from_initial = omega (arith, many, c.requires.shape.from_initial);
        to_max = omega (arith, many, c.requires.shape.to_max);
        each = refl;
      };
      records =
          subst (λ (xs : List (List Pair)). (bucket : _) → All IsRecord (list_at xs bucket))
          (ap (map (λ v. v.items)) c.deref.ensures.value) c.lists_have_lengths.ensures;
      home = subst (λ n. EachPlace (IsHome c.args.config.initial n) lists) (sym many) c.requires.home;
      distinct = c.requires.distinct;
    }

pub returns-clause-kept : goal.returns-clause-kept
returns-clause-kept c = invariant_of-result c
