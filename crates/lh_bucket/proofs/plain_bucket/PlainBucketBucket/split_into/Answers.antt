use Rattle.std.proofs.Common.{◌≡◌, ◌∙◌, ◌+◌, ◌*◌, ◌^◌, Some, not, sym, ap, subst}
use Rattle.std.specs.FinMap.{retain_keys}
use Rattle.lh_bucket.specs.Records.{map_of}
use Rattle.lh_bucket.specs.Bucket.{Head, Seen, HasOwnKeys, content, raised_level, stays}
use Rattle.lh_bucket.specs.PlainBucket.{pairs_of_entries}
use Rattle.lh_bucket.proofs.Kept.{stays-is, goes-is, home_stay, home_go}
use Rattle.lh_bucket.proofs.PlainBuckets.{plain_made}
use Rattle.lh_bucket.proofs.plain_bucket.PlainBucketBucket.split_into.Goals as goal

pub invariant_of-self : goal.invariant_of-self
invariant_of-self c =
    let head : Head =
    record {
      number = c.self.inside.number;
      initial = c.self.inside.initial;
      capacity = c.self.inside.capacity;
      level = c.self.inside.level;
    } in
    let level : c.unwrap_or-level.result + 1 ≡ raised_level head = ap (λ n. n + 1) c.unwrap_or-level.ensures in
    let filled : c.self.inside.level ≡ Some c.requires.level =
    ap (λ (s : Seen). s.head.level) c.self.view_is ∙ c.requires.filled in
    let old = pairs_of_entries c.self.inside.records.entries in
    let new = pairs_of_entries c.keep_others.new.records.entries in
    plain_made (record head { level = Some (c.unwrap_or-level.result + 1) }) c.keep_others.new.records.entries
    c.self.invariant.kept.initial c.self.invariant.kept.capacity c.keep_others.ensures.ordered
    (subst (λ n. HasOwnKeys head new (Some n)) (sym level)
    (home_stay head old new c.requires.level filled c.requires.below
    (stays-is head (c.unwrap_or-level.result + 1) (map_of old) (map_of new) level c.keep_others.ensures.map)))

pub invariant_of-new : goal.invariant_of-new
invariant_of-new c =
    let head : Head =
    record {
      number = c.self.inside.number;
      initial = c.self.inside.initial;
      capacity = c.self.inside.capacity;
      level = c.self.inside.level;
    } in
    let level : c.unwrap_or-level.result + 1 ≡ raised_level head = ap (λ n. n + 1) c.unwrap_or-level.ensures in
    let filled : c.self.inside.level ≡ Some c.requires.level =
    ap (λ (s : Seen). s.head.level) c.self.view_is ∙ c.requires.filled in
    let initial : c.new.inside.initial ≡ c.self.inside.initial =
    ap (λ (s : Seen). s.head.initial) c.new.view_is ∙ c.requires.initial
    ∙ sym (ap (λ (s : Seen). s.head.initial) c.self.view_is) in
    let number : c.new.inside.number ≡ c.self.inside.number + c.self.inside.initial * 2 ^ c.requires.level =
    ap (λ (s : Seen). s.head.number) c.new.view_is ∙ c.requires.number
    ∙ sym (ap (λ (s : Seen). s.head.number + s.head.initial * 2 ^ c.requires.level) c.self.view_is) in
    let old = pairs_of_entries c.self.inside.records.entries in
    let new = pairs_of_entries c.in_ok-moved.moved.entries in
    let target : Head =
    record {
      number = c.new.inside.number;
      initial = c.new.inside.initial;
      capacity = c.new.inside.capacity;
      level = Some (c.unwrap_or-level.result + 1);
    } in
    plain_made target c.in_ok-moved.moved.entries c.new.invariant.kept.initial c.new.invariant.kept.capacity
    c.in_ok-moved.ensures.ordered
    (subst (λ n. HasOwnKeys target new (Some n)) (sym level)
    (home_go head target old new c.requires.level c.hashes_are_nested.ensures.rises c.self.invariant.kept.initial.0
    filled c.requires.below number initial c.self.invariant.kept.home
    (goes-is head (c.unwrap_or-level.result + 1) (map_of old) (map_of new) level c.in_ok-moved.ensures.map)))

pub returns-clause-old_content : goal.returns-clause-old_content
returns-clause-old_content c =
    let head : Head =
    record {
      number = c.self.inside.number;
      initial = c.self.inside.initial;
      capacity = c.self.inside.capacity;
      level = c.self.inside.level;
    } in
    stays-is head (c.unwrap_or-level.result + 1) _ _ (ap (λ n. n + 1) c.unwrap_or-level.ensures)
    c.keep_others.ensures.map
    ∙ ap (λ (s : Seen). retain_keys (content s) (stays s.head)) c.self.view_is

pub returns-clause-new_content : goal.returns-clause-new_content
returns-clause-new_content c =
    let head : Head =
    record {
      number = c.self.inside.number;
      initial = c.self.inside.initial;
      capacity = c.self.inside.capacity;
      level = c.self.inside.level;
    } in
    goes-is head (c.unwrap_or-level.result + 1) _ _ (ap (λ n. n + 1) c.unwrap_or-level.ensures)
    c.in_ok-moved.ensures.map
    ∙ ap (λ (s : Seen). retain_keys (content s) (λ key. not (stays s.head key))) c.self.view_is
