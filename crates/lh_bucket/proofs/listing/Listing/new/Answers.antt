use Rattle.std.proofs.Common.{◌≡◌, ℕ, List, ap, length, map, subst, arith}
use Rattle.std.proofs.lemmas.List.{length-map}
use Rattle.lh_addr.specs.Extent.{Extent}
use Rattle.std.specs.List.{All}
use Rattle.lh_page.specs.declared.pair.Pair.{Pair}
use Rattle.lh_page.specs.Records.{IsRecord}
use Rattle.lh_bucket.specs.ListingFault.{IsFaultAmong}
use Rattle.lh_bucket.specs.Listing.{IsHome, IsNew, IsShape, EachPlace, list_at}
use Rattle.lh_bucket.proofs.Listings.{listing_made, fault_is_first}
use Rattle.lh_bucket.proofs.listing.Listing.new.Goals as goal

pub invariant_of-result : goal.invariant_of-result
invariant_of-result c =
    let lists : List (List Pair) = map (λ v. v.items) c.args.lists.items in
    let same : map (λ v. v.items) c.deref.result.now ≡ lists = ap (map (λ v. v.items)) c.deref.ensures.value in
    let many : length lists ≡ length c.args.lists.items = length-map c.args.lists.items (λ v. v.items) in
    let each : length lists ≡ c.args.buckets = omega (arith, many, c.len.ensures, c.if-len-buckets.false) in
    let shape : IsShape c.args.config c.args.buckets lists =
    record {
      from_initial = omega (arith, c.if-buckets-initial.false, c.initial.ensures.value);
      to_max = omega (arith, c.if-buckets-max.false, c.max.ensures.value);
      each = each;
    } in
    let root = c.root-root.ensures.value in
    let home : EachPlace (IsHome c.args.config.initial c.args.buckets) lists =
    subst (EachPlace (IsHome c.args.config.initial c.args.buckets)) same
    (subst (λ (e : Extent). EachPlace (IsHome e.initial e.buckets) (map (λ v. v.items) c.deref.result.now)) root
    c.in-None.ensures.home) in
    let records : (bucket : ℕ) → All IsRecord (list_at lists bucket) =
    subst (λ (xs : List (List Pair)). (bucket : ℕ) → All IsRecord (list_at xs bucket)) same
    c.in-None.ensures.records in
    listing_made c.args.config c.args.buckets lists c.initial.ensures.in_range shape home records
    (subst (EachPlace IsNew) same c.in-None.ensures.new)

pub returns-in-None-clause-kept : goal.returns-in-None-clause-kept
returns-in-None-clause-kept c = invariant_of-result c

pub returns-in-Some-clause-err : goal.returns-in-Some-clause-err
returns-in-Some-clause-err c =
    let lists : List (List Pair) = map (λ v. v.items) c.args.lists.items in
    let same : map (λ v. v.items) c.deref.result.now ≡ lists = ap (map (λ v. v.items)) c.deref.ensures.value in
    let many : length lists ≡ length c.args.lists.items = length-map c.args.lists.items (λ v. v.items) in
    let each : length lists ≡ c.args.buckets = omega (arith, many, c.len.ensures, c.if-len-buckets.false) in
    let shape : IsShape c.args.config c.args.buckets lists =
    record {
      from_initial = omega (arith, c.if-buckets-initial.false, c.initial.ensures.value);
      to_max = omega (arith, c.if-buckets-max.false, c.max.ensures.value);
      each = each;
    } in
    let root = c.root-root.ensures.value in
    fault_is_first c.args.config c.args.buckets lists shape c.in-Some.fault
    (subst (λ (xs : List (List Pair)). IsFaultAmong c.args.config.initial c.args.buckets xs c.in-Some.fault) same
    (subst (λ (e : Extent). IsFaultAmong e.initial e.buckets (map (λ v. v.items) c.deref.result.now) c.in-Some.fault)
    root c.in-Some.ensures.fault))
