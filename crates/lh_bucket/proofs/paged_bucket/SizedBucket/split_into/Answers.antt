use Rattle.std.proofs.Common.{◌≡◌, ◌∙◌, ◌+◌, ◌*◌, ◌^◌, Some, not, sym, ap, subst}
use Rattle.std.specs.List.{filter}
use Rattle.std.specs.FinMap.{retain_keys}
use Rattle.lh_page.specs.PackedList.{PackedList}
use Rattle.lh_bucket.specs.Records.{map_of}
use Rattle.lh_bucket.specs.Bucket.{Head, Seen, HasOwnKeys, content, raised_level, stays}
use Rattle.lh_bucket.proofs.MapOf.{map_of-filter}
use Rattle.lh_bucket.proofs.Kept.{stay_list, go_list, home_stay, home_go}
use Rattle.lh_bucket.proofs.paged_bucket.SizedBucket.split_into.Goals as goal

pub invariant_of-self-2 : goal.invariant_of-self-2
invariant_of-self-2 g c =
    let head : Head =
    record {
      number = c.self.inside.number;
      initial = c.self.inside.initial;
      capacity = c.self.inside.chain.capacity;
      level = c.self.inside.level;
    } in
    let level : c.unwrap_or-level.result + 1 ≡ raised_level head = ap (λ n. n + 1) c.unwrap_or-level.ensures in
    let old = c.self.inside.chain.pairs in
    let filled : c.self.inside.level ≡ Some c.requires.level =
    ap (λ (s : Seen). s.head.level) c.self.view_is ∙ c.requires.filled in
    let new = c.split_off.new.self.pairs in
    record {
      initial = c.self.invariant.initial;
      capacity = c.len.ensures.kept.capacity;
      distinct = c.len.ensures.kept.distinct;
      home = subst (λ n. HasOwnKeys head new (Some n)) (sym level)
          (home_stay head old new c.requires.level filled c.requires.below
          (ap map_of
          (stay_list head (c.unwrap_or-level.result + 1) old c.split_off.new.self.pairs level
          (ap (λ (l : PackedList). l.pairs) c.in_ok-gone.ensures.kept))
          ∙ map_of-filter (stays head) old));
    }

pub invariant_of-new : goal.invariant_of-new
invariant_of-new g c =
    let head : Head =
    record {
      number = c.self.inside.number;
      initial = c.self.inside.initial;
      capacity = c.self.inside.chain.capacity;
      level = c.self.inside.level;
    } in
    let level : c.unwrap_or-level.result + 1 ≡ raised_level head = ap (λ n. n + 1) c.unwrap_or-level.ensures in
    let old = c.self.inside.chain.pairs in
    let filled : c.self.inside.level ≡ Some c.requires.level =
    ap (λ (s : Seen). s.head.level) c.self.view_is ∙ c.requires.filled in
    let initial : c.new.inside.initial ≡ c.self.inside.initial =
    ap (λ (s : Seen). s.head.initial) c.new.view_is ∙ c.requires.initial
    ∙ sym (ap (λ (s : Seen). s.head.initial) c.self.view_is) in
    let number : c.new.inside.number ≡ c.self.inside.number + c.self.inside.initial * 2 ^ c.requires.level =
    ap (λ (s : Seen). s.head.number) c.new.view_is ∙ c.requires.number
    ∙ sym (ap (λ (s : Seen). s.head.number + s.head.initial * 2 ^ c.requires.level) c.self.view_is) in
    let new = c.in_ok-gone.gone.pairs in
    let target : Head =
    record {
      number = c.new.inside.number;
      initial = c.new.inside.initial;
      capacity = c.in_ok-gone.gone.capacity;
      level = Some (c.unwrap_or-level.result + 1);
    } in
    record {
      initial = c.new.invariant.initial;
      capacity = c.len-2.ensures.kept.capacity;
      distinct = c.len-2.ensures.kept.distinct;
      home = subst (λ n. HasOwnKeys target new (Some n)) (sym level)
          (home_go head target old new c.requires.level c.hashes_are_nested.ensures.rises c.self.invariant.initial.0
          filled c.requires.below number initial c.self.invariant.home
          (ap map_of
          (go_list head (c.unwrap_or-level.result + 1) old c.in_ok-gone.gone.pairs level
          (ap (λ (l : PackedList). l.pairs) c.in_ok-gone.ensures.gone))
          ∙ map_of-filter (λ key. not (stays head key)) old));
    }

pub returns-clause-old_content : goal.returns-clause-old_content
returns-clause-old_content g c =
    let head : Head =
    record {
      number = c.self.inside.number;
      initial = c.self.inside.initial;
      capacity = c.self.inside.chain.capacity;
      level = c.self.inside.level;
    } in
    let level : c.unwrap_or-level.result + 1 ≡ raised_level head = ap (λ n. n + 1) c.unwrap_or-level.ensures in
    let old = c.self.inside.chain.pairs in
    ap map_of
    (stay_list head (c.unwrap_or-level.result + 1) old c.split_off.new.self.pairs level
    (ap (λ (l : PackedList). l.pairs) c.in_ok-gone.ensures.kept)) ∙ map_of-filter (stays head) old
    ∙ ap (λ (s : Seen). retain_keys (content s) (stays s.head)) c.self.view_is

pub returns-clause-new_content : goal.returns-clause-new_content
returns-clause-new_content g c =
    let head : Head =
    record {
      number = c.self.inside.number;
      initial = c.self.inside.initial;
      capacity = c.self.inside.chain.capacity;
      level = c.self.inside.level;
    } in
    let level : c.unwrap_or-level.result + 1 ≡ raised_level head = ap (λ n. n + 1) c.unwrap_or-level.ensures in
    let old = c.self.inside.chain.pairs in
    ap map_of
    (go_list head (c.unwrap_or-level.result + 1) old c.in_ok-gone.gone.pairs level
    (ap (λ (l : PackedList). l.pairs) c.in_ok-gone.ensures.gone))
    ∙ map_of-filter (λ key. not (stays head key)) old
    ∙ ap (λ (s : Seen). retain_keys (content s) (λ key. not (stays s.head key))) c.self.view_is

pub returns-clause-old_order : goal.returns-clause-old_order
returns-clause-old_order g c =
    let head : Head =
    record {
      number = c.self.inside.number;
      initial = c.self.inside.initial;
      capacity = c.self.inside.chain.capacity;
      level = c.self.inside.level;
    } in
    let level : c.unwrap_or-level.result + 1 ≡ raised_level head = ap (λ n. n + 1) c.unwrap_or-level.ensures in
    let old = c.self.inside.chain.pairs in
    stay_list head (c.unwrap_or-level.result + 1) old c.split_off.new.self.pairs level
    (ap (λ (l : PackedList). l.pairs) c.in_ok-gone.ensures.kept)
    ∙ ap (λ (s : Seen). filter (λ p. stays s.head p.key) s.pairs) c.self.view_is

pub returns-clause-new_order : goal.returns-clause-new_order
returns-clause-new_order g c =
    let head : Head =
    record {
      number = c.self.inside.number;
      initial = c.self.inside.initial;
      capacity = c.self.inside.chain.capacity;
      level = c.self.inside.level;
    } in
    let level : c.unwrap_or-level.result + 1 ≡ raised_level head = ap (λ n. n + 1) c.unwrap_or-level.ensures in
    let old = c.self.inside.chain.pairs in
    go_list head (c.unwrap_or-level.result + 1) old c.in_ok-gone.gone.pairs level
    (ap (λ (l : PackedList). l.pairs) c.in_ok-gone.ensures.gone)
    ∙ ap (λ (s : Seen). filter (λ p. not (stays s.head p.key)) s.pairs) c.self.view_is
