use Rattle.std.proofs.Common.{◌≡◌, map, ap, sym, subst, refl, ◌∙◌}
use Rattle.std.specs.FinMap.{empty}
use Rattle.lh_addr.specs.Extent.{Extent}
use Rattle.lh_core.specs.declared.state.SplitState.TheVariants as split
use Rattle.lh_core.specs.State.{all_idle}
use Rattle.lh_core.specs.World.{IsPlaced}
use Rattle.lh_core.proofs.Worlds.Begin.{first_world, first_placed}
use Rattle.lh_core.proofs.Logs.Leading.{led_none}
use Rattle.lh_core.proofs.world.World.new.Goals as goal

pub invariant_of-result : goal.invariant_of-result
invariant_of-result g c =
    let s = c.args.config in
    let is : c.root-root.result ≡ record { initial = s.initial; buckets = s.initial } =
    c.root-root.ensures.value ∙ ap (λ n. record { initial = s.initial; buckets = n }) c.initial.ensures.value in
    first_world c.linear_hashing.ensures
    (record {
      config = s;
      root = c.root-root.result;
      filled = c.root-root.result;
      workers = all_idle;
      splitter = split.Idle;
    }) (map g.B.Bucket.seen c.in_ok-buckets.buckets.items) c.initial.ensures.in_range is
    refl
    (ap (λ (x : Extent). record { buckets = x.buckets; filled = x.buckets; workers = all_idle; splitter = split.Idle })
    is) c.in_ok-buckets.ensures

pub returns-clause-empty : goal.returns-clause-empty
returns-clause-empty g c =
    let s = c.args.config in
    let is : c.root-root.result ≡ record { initial = s.initial; buckets = s.initial } =
    c.root-root.ensures.value ∙ ap (λ n. record { initial = s.initial; buckets = n }) c.initial.ensures.value in
    subst (λ (x : Extent). IsPlaced s.initial x.buckets empty (map g.B.Bucket.seen c.in_ok-buckets.buckets.items))
    (sym is) (first_placed s (map g.B.Bucket.seen c.in_ok-buckets.buckets.items) c.in_ok-buckets.ensures)

pub returns-clause-led : goal.returns-clause-led
returns-clause-led g c =
    let s = c.args.config in
    let row = map g.B.Bucket.seen c.in_ok-buckets.buckets.items in
    let is : c.root-root.result ≡ record { initial = s.initial; buckets = s.initial } =
    c.root-root.ensures.value ∙ ap (λ n. record { initial = s.initial; buckets = n }) c.initial.ensures.value in
    let state =
    ap
    (λ (x : Extent). record { buckets = x.buckets; filled = x.buckets; workers = all_idle; splitter = split.Idle })
    is in
    led_none c.linear_hashing.ensures
    (record {
      config = s;
      state =
          record {
            buckets = c.root-root.result.buckets;
            filled = c.root-root.result.buckets;
            workers = all_idle;
            splitter = split.Idle;
          };
      buckets = row;
    })
    (first_world c.linear_hashing.ensures
    (record {
      config = s;
      root = c.root-root.result;
      filled = c.root-root.result;
      workers = all_idle;
      splitter = split.Idle;
    }) row c.initial.ensures.in_range is refl state c.in_ok-buckets.ensures).1
    state
    (subst (λ (x : Extent). IsPlaced s.initial x.buckets empty row) (sym is)
    (first_placed s row c.in_ok-buckets.ensures))
