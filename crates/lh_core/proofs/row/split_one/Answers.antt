use Rattle.std.proofs.Common.{◌≡◌, ◌<◌, ◌++◌, ◌∷◌, [], length, map, get_or, set, not, sym, ap, ◌∙◌, arith}
use Rattle.std.proofs.lemmas.List.{get_or-map, length-map, map-set, map-append}
use Rattle.std.proofs.Math.Seq.{map-set_same}
use Rattle.std.proofs.Common.{Result, Ok, Err}
use Rattle.std.specs.Result.{OnErr}
use Rattle.std.specs.FinMap.{retain_keys}
use Rattle.lh_bucket.specs.Bucket.{Seen, content, raised, stays}
use Rattle.lh_core.specs.Splits.{unfilled}
use Rattle.lh_core.specs.World.{no_bucket}
use Rattle.lh_core.proofs.row.split_one.Goals as goal

on_err : {X E : Type 0} {P : Type 0} (r : Result X E) → P → OnErr r P
on_err (Ok x) p = tt
on_err (Err x) p = p

pub returns-in_err-split_into-clause-unchanged : goal.returns-in_err-split_into-clause-unchanged
returns-in_err-split_into-clause-unchanged g c =
    let seen = g.B.Bucket.seen in
    let items : c.reserve.new.self.items ≡ c.args.buckets.now.items = c.reserve.ensures.items in
    let lt : c.args.i < length c.reserve.new.self.items = omega (arith, c.args.buckets.now.ok.0, ap length items) in
    let same : seen c.split_into.new.self ≡ seen (get_or c.reserve.new.self.items c.args.i c.index_mut-old.result.now) =
    c.in_err-split_into.ensures.old_unchanged ∙ ap seen c.index_mut-old.ensures.value in
    on_err _
    (map-set_same seen c.reserve.new.self.items c.args.i c.split_into.new.self c.index_mut-old.result.now same
    ∙ ap (map seen) items)

pub returns-clause-split : goal.returns-clause-split
returns-clause-split g c =
    let seen = g.B.Bucket.seen in
    let items : c.reserve.new.self.items ≡ c.args.buckets.now.items = c.reserve.ensures.items in
    let lt : c.args.i < length c.args.buckets.now.items = omega (arith, c.args.buckets.now.ok.0) in
    let at : seen c.index_mut-old.result.now ≡ get_or (map seen c.args.buckets.now.items) c.args.i no_bucket =
    ap seen c.index_mut-old.ensures.value ∙ ap (λ xs. seen (get_or xs c.args.i c.index_mut-old.result.now)) items
    ∙ sym (get_or-map seen c.args.buckets.now.items c.args.i _ no_bucket lt) in
    let number : c.len-number.result ≡ length (map seen c.args.buckets.now.items) =
    omega (arith, c.len-number.ensures, c.args.buckets.now.ok.0, length-map c.args.buckets.now.items seen) in
    let fresh : (seen c.in_ok-new.new).head ≡
    unfilled (length (map seen c.args.buckets.now.items)) c.args.initial c.args.capacity =
    ap (λ (s : Seen). s.head) c.in_ok-new.ensures ∙ ap (λ k. unfilled k c.args.initial c.args.capacity) number in
    record {
      stay = seen c.split_into.new.self;
      go = seen c.split_into.new.new;
      is =
          ap (map seen) c.in_default.ensures.items
          ∙ map-append seen (set c.reserve.new.self.items c.args.i c.split_into.new.self) (c.split_into.new.new ∷ [])
          ∙ ap (λ xs. xs ++ seen c.split_into.new.new ∷ [])
          (map-set seen c.reserve.new.self.items c.args.i c.split_into.new.self
          ∙ ap (λ xs. set (map seen xs) c.args.i (seen c.split_into.new.self)) items);
      stay_head = c.in_ok-split_into.ensures.old_head ∙ ap (λ (s : Seen). raised s.head s.head) at;
      go_head =
          c.in_ok-split_into.ensures.new_head ∙ ap (λ (s : Seen). raised s.head (seen c.in_ok-new.new).head) at
          ∙ ap (raised (get_or (map seen c.args.buckets.now.items) c.args.i no_bucket).head) fresh;
      stay_content =
          c.in_ok-split_into.ensures.old_content ∙ ap (λ (s : Seen). retain_keys (content s) (stays s.head)) at;
      go_content =
          c.in_ok-split_into.ensures.new_content
          ∙ ap (λ (s : Seen). retain_keys (content s) (λ k. not (stays s.head k))) at;
      stay_once = c.len.ensures.kept.distinct;
      go_once = c.len-2.ensures.kept.distinct;
    }
