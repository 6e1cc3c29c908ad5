-- The listings are those of empty files, so that none is refused.
use Rattle.std.proofs.Common.{◌∙◌, length, ap, subst, sym}
use Rattle.lh_shards.specs.Hands.{IsCount}
use Rattle.lh_shards.specs.OpenFault.{IsOpenFault}
use Rattle.lh_shards.specs.declared.fault.OpenFault.TheVariants as open_fault
use Rattle.lhash.proofs.ShardHands.{none_refused}
use Rattle.lhash.proofs.ShardTotals.{listed_empty}
use Rattle.lhash.proofs.drive_shards.drive_shards_with.Goals as goal

pub unreachable-requires-in-Err-Misplaced : goal.unreachable-requires-in-Err-Misplaced
unreachable-requires-in-Err-Misplaced g c =
    let listings = c.deref.result.now in
    let many = ap length c.deref.ensures.value ∙ c.in_ok-empty.ensures.count in
    let empty =
    listed_empty c.args.config (length listings) listings c.in_ok-empty.empty.items c.deref.ensures.value
    (c.in_ok-empty.ensures.count ∙ sym many) c.in_ok-empty.ensures.each in
    none_refused c.args.config listings
    (open_fault.Misplaced c.in-Err-Misplaced.field-0-0 c.in-Err-Misplaced.field-0-1 c.in-Err-Misplaced.field-0-2)
    (subst IsCount (sym many) c.requires.shards) empty
    (subst (IsOpenFault listings) c.in-Err-Misplaced.field-0-is c.in-Err-Misplaced.ensures.err) (λ e. absurd cc)

pub driven_in-requires-clause-empty : goal.driven_in-requires-clause-empty
driven_in-requires-clause-empty g c lives outlive =
    listed_empty c.args.config (length c.in-Ok.openings) c.deref-2.result.now c.in_ok-empty.empty.items
    c.deref-2.ensures.value
    (sym (c.in-Ok.ensures.begun.count ∙ ap length c.deref.ensures.value)) c.in_ok-empty.ensures.each
