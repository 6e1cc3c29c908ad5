use Rattle.std.proofs.Common.{◌≡◌, ◌≢◌, ◌∙◌, ◌%◌, List, refl, sym, ap, subst, arith}
use Rattle.std.specs.List.{range_with_len}
use Rattle.std.proofs.lemmas.Bool.{false≢true}
use Rattle.lh_addr.specs.Extent.{Extent}
use Rattle.lh_addr.specs.Growth.{address}
use Rattle.lh_addr.specs.Settings.{Settings}
use Rattle.lh_page.specs.declared.pair.Pair.{Pair}
use Rattle.lh_bucket.specs.Listing.{EachPlace, IsHome}
use Rattle.lh_bucket.specs.PlainMap.{Records}
use Rattle.lh_settling.specs.declared.act.ActLine.{ActLine}
use Rattle.lh_settling.specs.Acts.{stamps_of, IsInOrder}
use Rattle.lh_addr.specs.RootWord.{buckets_of}
use Rattle.lh_settling.specs.Contents.{StandsAs}
use Rattle.lh_settling.specs.Settled.{left_by, IsStamped, IsLegal, IsSettled, HoldsMap}
use Rattle.lh_settling.proofs.Placed.{placed}
use Rattle.lh_settling.proofs.settling.judge.Goals as goal

stamped : (c : goal.After-new) → IsStamped c.args.closed.now c.args.acts.now c.in_ok-history.history.items
stamped c =
    let shut : c.args.closed.now.root % 2 ≢ 1 =
    λ e. false≢true (sym c.if-split_open.false ∙ c.split_open.ensures.value.1 e) in
    record {
      whole = omega (arith, shut);
      order = subst (λ (acts : List ActLine).
          IsInOrder acts c.in_ok-history.history.items) c.lines.ensures c.in_ok-history.ensures;
      stamps = ap stamps_of (sym c.deref.ensures.value) ∙ c.in_default.ensures.none
          ∙ ap (range_with_len 0) c.stamps.ensures;
    }

holds : (c : goal.After-new) → HoldsMap c.args.closed.now (left_by c.args.opening.now c.in_ok-history.history.items)
holds c =
    let closed = c.args.closed.now in
    let initial = closed.config.initial in
    let size = buckets_of closed.root in
    let left : c.in_ok-records.records ≡ left_by c.args.opening.now c.in_ok-history.history.items =
    c.in_ok-records.ensures.left ∙ ap (left_by c.args.opening.now) c.deref-2.ensures.value in
    let root : c.root-root.result ≡ record { initial = initial; buckets = size } =
    c.root-root.ensures.value
    ∙ ap (λ n. record { initial = n; buckets = c.buckets.result })
    (ap (λ (s : Settings). s.initial) c.config.ensures.value)
    ∙ ap (λ n. record { initial = initial; buckets = n }) c.buckets.ensures.value in
    placed initial size (left_by c.args.opening.now c.in_ok-history.history.items) closed.lists
    (λ code. ((c.address_is_only_bucket.ensures initial size code
    (address initial size code) c.buckets.ensures.kept.config.initial.0 c.buckets.ensures.kept.from_initial).0 refl).0)
    (λ q. subst (λ (m : Records). StandsAs m closed.lists q) left
    (subst (λ (ls : List (List Pair)). StandsAs c.in_ok-records.records ls q) c.lists.ensures.value
    (c.in_default-first_stray.ensures.none q)))
    (subst (λ (e : Extent). EachPlace (IsHome e.initial e.buckets) closed.lists) root
    (subst (EachPlace
    (IsHome c.root-root.result.initial c.root-root.result.buckets)) c.lists-2.ensures.value c.in-None.ensures.none))

pub returns-in-None-clause-ok : goal.returns-in-None-clause-ok
returns-in-None-clause-ok c =
    subst (IsSettled c.args.opening.now c.args.closed.now c.args.acts.now) (sym c.new.ensures)
    (record {
      stamped = stamped c;
      legal = subst
          (IsLegal c.args.opening.now) c.deref-2.ensures.value c.in_ok-records.ensures.legal;
      placed = holds c;
    })
