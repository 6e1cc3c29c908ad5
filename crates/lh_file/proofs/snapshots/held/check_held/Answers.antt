use Rattle.std.proofs.Common.{rules, ◌≡◌, ◌≤◌, refl, Some, length, map, sym, ap, ◌∙◌, subst}
use Rattle.std.specs.Sync.RwLock.{read_guard_value}
use Rattle.std.proofs.lemmas.List.{length-map}
use Rattle.lh_addr.specs.Extent.{Extent}
use Rattle.lh_addr.specs.Growth.{level_of}
use Rattle.lh_bucket.specs.Bucket.{Seen}
use Rattle.lh_file.specs.Snapshots.Held.{head_in}
use Rattle.lh_file.proofs.OfSnapshots.Held.{IsInPlace, row_at, row_more, row_whole}
use Rattle.lh_file.proofs.snapshots.held.check_held.Goals as goal

pub loop-place-preserved : goal.loop-place-preserved
loop-place-preserved g c =
    let config = c.args.config.now in
    let guards = c.args.guards.now in
    let n = c.loop-place.place in
    let v = c.index-guards-place.result in
    let b : Seen = c.bucket-bucket.result.now in
    let met : b ≡ read_guard_value v = c.bucket-bucket.ensures ∙ c.deref.ensures in
    let is = c.if-not-is_numbered.ensures.0 refl in
    let found : b.head.level ≡ Some c.level_of-level.result = search rules in
    let level : b.head.level ≡ Some (level_of config.initial (length guards) n) =
    found
    ∙ ap Some
    (c.level_of-level.ensures.value
    ∙ ap (λ (e : Extent). level_of e.initial e.buckets n) c.root-root.ensures.value) in
    let head : b.head ≡ head_in config (length guards) n =
    λ i. record { number = is.number i; initial = is.initial i; capacity = is.capacity i; level = level i } in
    row_more config (length guards) (map read_guard_value guards) n (read_guard_value v)
    (row_at read_guard_value guards n v c.loop-place-test.true c.index-guards-place.is (read_guard_value v))
    (subst (IsInPlace config (length guards) n) met (head, c.len-records.ensures.kept))
    c.loop-place.invariant

pub returns-clause-row : goal.returns-clause-row
returns-clause-row g c =
    let guards = c.args.guards.now in
    let size = sym (length-map guards read_guard_value) in
    row_whole c.args.config.now (length guards) (map read_guard_value guards) c.loop-place.place size
    (subst (λ n. n ≤ c.loop-place.place) size c.loop-place-test.false) c.loop-place.invariant
