use Rattle.std.proofs.Common.{◌≡◌, ◌<◌, map, ap, subst, ◌∙◌, arith, vec_len}
use Rattle.std.proofs.lemmas.List.{length-map}
use Rattle.lh_addr.specs.Growth.{pointer}
use Rattle.lh_core.specs.Splits.{IsSplit}
use Rattle.lh_core.specs.Kept.{IsBucketRow}
use Rattle.lh_core.specs.World.{IsPlaced}
use Rattle.lh_core.proofs.Records.Placing.{pointer_below, can_split, split_placed, split_row}
use Rattle.lh_core.proofs.row.divide.Goals as goal

pub split_one-requires-clause-within : goal.split_one-requires-clause-within
split_one-requires-clause-within g c =
    let row = map g.B.Bucket.seen c.args.buckets.now.items in
    let s = c.args.control.now.config in
    let size = c.args.control.now.root.buckets in
    let rows : IsBucketRow s size row = subst (λ n. IsBucketRow s n row) c.requires.before c.requires.world.row in
    let is : c.pointer-pointer.result ≡ pointer s.initial size =
    c.pointer-pointer.ensures ∙ ap (λ n. pointer n size) c.requires.control.root in
    omega (
      arith,
      is,
      pointer_below c.linear_hashing.ensures s size row rows c.requires.world.sound.some
          c.requires.world.sound.from_initial,
      rows.all,
      c.args.buckets.now.ok.0,
      length-map c.args.buckets.now.items g.B.Bucket.seen,
    )

pub split_one-requires-clause-can : goal.split_one-requires-clause-can
split_one-requires-clause-can g c =
    let row = map g.B.Bucket.seen c.args.buckets.now.items in
    let s = c.args.control.now.config in
    let size = c.args.control.now.root.buckets in
    let rows : IsBucketRow s size row = subst (λ n. IsBucketRow s n row) c.requires.before c.requires.world.row in
    let is : c.pointer-pointer.result ≡ pointer s.initial size =
    c.pointer-pointer.ensures ∙ ap (λ n. pointer n size) c.requires.control.root in
    let long : vec_len c.args.buckets.now ≡ size =
    omega (arith, rows.all, c.args.buckets.now.ok.0, length-map c.args.buckets.now.items g.B.Bucket.seen) in
    let few : size < 65536 = omega (arith, c.requires.room, c.requires.world.range.max) in
    rw (is, long, c.initial-initial.ensures.value, c.capacity-capacity.ensures.value)
    (can_split c.linear_hashing.ensures s size row rows c.requires.world.sound.some
    c.requires.world.sound.from_initial few)

pub returns-in-Ok-clause-row : goal.returns-in-Ok-clause-row
returns-in-Ok-clause-row g c =
    let row = map g.B.Bucket.seen c.args.buckets.now.items in
    let s = c.args.control.now.config in
    let size = c.args.control.now.root.buckets in
    let rows : IsBucketRow s size row = subst (λ n. IsBucketRow s n row) c.requires.before c.requires.world.row in
    let is : c.pointer-pointer.result ≡ pointer s.initial size =
    c.pointer-pointer.ensures ∙ ap (λ n. pointer n size) c.requires.control.root in
    let sp : IsSplit row (pointer s.initial size) s.initial s.capacity
    (map g.B.Bucket.seen c.split_one.new.buckets.items) =
    subst (λ x. IsSplit row x s.initial s.capacity (map g.B.Bucket.seen c.split_one.new.buckets.items)) is
    (subst
    (λ x. IsSplit row c.pointer-pointer.result x s.capacity (map g.B.Bucket.seen c.split_one.new.buckets.items))
    c.initial-initial.ensures.value
    (subst
    (λ x.
    IsSplit row c.pointer-pointer.result c.initial-initial.result x
    (map g.B.Bucket.seen c.split_one.new.buckets.items)) c.capacity-capacity.ensures.value
    c.in-Ok.ensures.split)) in
    split_row c.linear_hashing.ensures s size row rows c.requires.world.sound.some c.requires.world.sound.from_initial _
    sp

pub returns-in-Ok-clause-stands : goal.returns-in-Ok-clause-stands
returns-in-Ok-clause-stands g c = λ m p.
    let row = map g.B.Bucket.seen c.args.buckets.now.items in
    let s = c.args.control.now.config in
    let size = c.args.control.now.root.buckets in
    let rows : IsBucketRow s size row = subst (λ n. IsBucketRow s n row) c.requires.before c.requires.world.row in
    let is : c.pointer-pointer.result ≡ pointer s.initial size =
    c.pointer-pointer.ensures ∙ ap (λ n. pointer n size) c.requires.control.root in
    let sp : IsSplit row (pointer s.initial size) s.initial s.capacity
    (map g.B.Bucket.seen c.split_one.new.buckets.items) =
    subst (λ x. IsSplit row x s.initial s.capacity (map g.B.Bucket.seen c.split_one.new.buckets.items)) is
    (subst
    (λ x. IsSplit row c.pointer-pointer.result x s.capacity (map g.B.Bucket.seen c.split_one.new.buckets.items))
    c.initial-initial.ensures.value
    (subst
    (λ x.
    IsSplit row c.pointer-pointer.result c.initial-initial.result x
    (map g.B.Bucket.seen c.split_one.new.buckets.items)) c.capacity-capacity.ensures.value
    c.in-Ok.ensures.split)) in
    split_placed c.linear_hashing.ensures s size row rows c.requires.world.sound.some
    c.requires.world.sound.from_initial _ sp m (subst (λ n. IsPlaced s.initial n m row) c.requires.before p)
