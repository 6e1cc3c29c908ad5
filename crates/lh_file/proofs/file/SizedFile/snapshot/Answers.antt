use Rattle.std.proofs.Common.{◌≡◌, ◌%◌, ◌≤◌, List, map, length, sym, ap, ◌∙◌, subst, arith}
use Rattle.std.proofs.lemmas.List.{length-map}
use Rattle.std.specs.Sync.RwLock.{read_guard_value}
use Rattle.lh_addr.specs.RootWord.{buckets_of}
use Rattle.lh_addr.specs.Settings.{Settings}
use Rattle.lh_bucket.specs.Bucket.{Seen}
use Rattle.lh_settling.specs.ClosedFile.{ClosedFile}
use Rattle.lh_file.specs.FileState.{FileState}
use Rattle.lh_file.specs.HashFile.{Shared}
use Rattle.lh_file.specs.Snapshots.Held.{AreBucketsOf}
use Rattle.lh_file.specs.Words.Hand.{hand_state_of}
use Rattle.lh_file.specs.Words.HandState.{HandState, knowing, told_of}
use Rattle.lh_file.proofs.OfSnapshots.Moments.{lists_of, row_whole, row_snapshot, surveyed_as}
use Rattle.lh_file.proofs.OfWords.Fields as fields
use Rattle.lh_file.proofs.file.SizedFile.snapshot.Given.{Over}
use Rattle.lh_file.proofs.file.SizedFile.snapshot.Goals as goal

module _ (g : Over) (c : goal.After-ended g) where
  abbrev config : Settings
  config = c.words.inside.config

  abbrev row : List Seen
  row = map read_guard_value c.in_ok-guards.guards.items

  is_row : AreBucketsOf config row
  is_row =
      subst (λ l. AreBucketsOf config (map read_guard_value l)) c.deref.ensures.value c.in_ok-check_held.ensures.row

  same : c.words.inside.config ≡ c.args.self.now.state.config
  same = ap (λ (f : FileState). f.config) c.words.view_is ∙ ap (λ (s : Shared). s.state.config) c.self.view_is

  pos : 1 ≤ config.initial
  pos = c.words.invariant.in_range.initial.0

  long : length row ≡ c.in_ok-guards.guards.len
  long = length-map c.in_ok-guards.guards.items read_guard_value ∙ sym c.in_ok-guards.guards.ok.0

  least : config.initial ≤ length row
  least =
      let own = ap (λ (s : Settings). s.initial) same in
      omega (arith, long, c.in_ok-guards.ensures.least, c.buckets-buckets.ensures.range.0, own)

  size : buckets_of c.ended.result.root ≡ length row
  size =
      ap (λ (f : ClosedFile). buckets_of f.root) c.ended.ensures ∙ c.new-root.ensures.buckets ∙ c.len-size.ensures
      ∙ sym long

  even : c.ended.result.root % 2 ≡ 0
  even = ap (λ (f : ClosedFile). f.root % 2) c.ended.ensures ∙ fields.even c.new-root.result c.new-root.ensures.split

  lists : c.ended.result.lists ≡ lists_of row
  lists = ap (λ (f : ClosedFile). f.lists) c.ended.ensures ∙ c.in_ok-lists.ensures

pub returns-clause-config : goal.returns-clause-config
returns-clause-config g c = ap (λ (f : ClosedFile). f.config) c.ended.ensures ∙ same g c

pub returns-clause-whole : goal.returns-clause-whole
returns-clause-whole g c =
    row_whole c.address_is_only_bucket.ensures c.records_make_a_map.ensures.keys c.full_buckets_are_placed.ensures
    (config g c) (row g c) (pos g c) (least g c) (is_row g c) c.ended.result
    (ap (λ (f : ClosedFile). f.config) c.ended.ensures) (size g c) (lists g c) (even g c)

pub returns-clause-told : goal.returns-clause-told
returns-clause-told g c =
    let state = c.args.self.now.state in
    let old : HandState = c.args.hand.now in
    let inside = c.hand.inside in
    let acts = c.survey_held-acts.result.0 in
    let n = c.buckets-buckets.result in
    let told = c.survey_held-acts.ensures.told in
    let log = told.0 in
    let knows : hand_state_of inside ≡ knowing old n = c.hand.view_is ∙ c.buckets-buckets.ensures.knows in
    let stamps = sym (ap (λ (f : ClosedFile). f.stamps) c.ended.ensures) in (
      n,
      log,
      (λ i.
          record (hand_state_of inside) {
            table = c.survey_held-acts.ensures.at i;
            view = (told.1 i).0.view;
            entries = (told.1 i).0.entries;
            logs = (told.1 i).0.logs;
          })
          ∙ ap (λ (h : HandState). told_of h acts log) knows
          ∙ ap (λ k. told_of (knowing old n) k log) stamps,
      λ on.
          row_snapshot c.address_is_only_bucket.ensures c.records_make_a_map.ensures.keys
          c.full_buckets_are_placed.ensures (config g c) (row g c) (pos g c) (least g c) (is_row g c) c.ended.result
          (ap (λ (f : ClosedFile). f.config) c.ended.ensures) (size g c) (lists g c) state.listing old.entries old.logs
          log
          (surveyed_as _ state.listing _ c.ended.result.stamps _ old.entries _ old.logs _ (row g c) log
          (ap (λ (s : Shared). s.state.listing) c.self.view_is)
          stamps
          (ap (λ (h : HandState). h.entries) knows)
          (ap (λ (h : HandState). h.logs) knows)
          (ap (map read_guard_value) c.deref-2.ensures.value)
          (told.2 on
          (omega (
            arith,
            c.if-seats-len.false,
            c.len.ensures,
            ap length c.deref-2.ensures.value,
            c.in_ok-guards.guards.ok.0,
          )))),
    )
