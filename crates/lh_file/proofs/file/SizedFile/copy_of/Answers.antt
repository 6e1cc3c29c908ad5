use Rattle.std.proofs.Common.{rules, ◌≡◌, [], ◌∷◌, Some, refl, sym, ap, ◌∙◌}
use Rattle.lh_bucket.specs.Bucket.{Seen}
use Rattle.lh_file.specs.Snapshots.Scans.{bucket_of}
use Rattle.lh_file.specs.declared.snapshots.bucket_copy.BucketCopy.{BucketCopy}
use Rattle.lh_file.proofs.OfSnapshots.Moments.{surveyed_as}
use Rattle.lh_file.proofs.file.SizedFile.copy_of.Goals as goal

pub returns-clause-told : goal.returns-clause-told
returns-clause-told g c =
    let state = c.args.self.now.state in
    let entries = c.args.seat.now.me.0.entries in
    let b : Seen = c.bucket-bucket.result.now in
    let copy : BucketCopy =
    record {
      aim = record { level = c.in-Some.level; bucket = c.args.aim.bucket };
      stamps = c.in_ok-stamps.stamps;
      pairs = c.in_ok-pairs.pairs;
    } in
    let number : b.head.number ≡ c.args.aim.bucket = search rules in
    let initial : b.head.initial ≡ state.config.initial = search rules in
    let capacity : b.head.capacity ≡ state.config.capacity = search rules in
    let level : b.head.level ≡ Some c.in-Some.level = sym c.level-found.ensures ∙ c.in-Some.is in
    let same : b ≡ bucket_of state.config copy =
    λ i.
    record {
      head = record { number = number i; initial = initial i; capacity = capacity i; level = level i };
      pairs = sym c.in_ok-pairs.ensures.pairs i;
    } in
    let logs = c.args.seat.now.me.0.logs in
    let told = c.in_ok-stamps.ensures.told in (
      told.0,
      told.1,
      λ on.
          surveyed_as state.listing state.listing c.in_ok-stamps.stamps c.in_ok-stamps.stamps entries entries logs logs
          (c.args.slot.now ∷ []) (bucket_of state.config copy ∷ []) told.0 refl refl refl refl
          (ap (λ (x : Seen). x ∷ []) (sym c.bucket-bucket.ensures ∙ same)) (told.2 on),
    )
