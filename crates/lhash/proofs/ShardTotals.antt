-- The totals of closed shards that are settled
use Rattle.std.proofs.Common.{◌≡◌, ◌∙◌, ℕ, ◌+◌, ◌-◌, ◌^◌, ◌<◌, zero, suc, min, take, List, [], ◌∷◌, length, Some, refl}
use Rattle.std.proofs.Common.{◌≢◌, All, sym, ap, subst, arith}
use Rattle.std.specs.FinMap.{empty}
use Rattle.std.specs.Prelude.{flat_map, slice_get, sum_by}
use Rattle.std.proofs.lemmas.List.{length-map}
use Rattle.std.proofs.lemmas.List.Concat.{length-flat_map}
use Rattle.std.proofs.lemmas.List.Sorted.{length_permutation}
use Rattle.std.proofs.lemmas.List.Sums.{sum_by_more}
use Rattle.std.proofs.lemmas.Option.{get_or_from_slice_get, same_Some, slice_get_within}
use Rattle.lh_addr.specs.Settings.{Settings}
use Rattle.lh_bucket.specs.Listing.{Lists, count_of}
use Rattle.lh_bucket.specs.declared.call.Call.{Call as CallOf}
use Rattle.lh_settling.specs.Acts.{replies_of}
use Rattle.lh_settling.specs.Settled.{Settled}
use Rattle.lh_settling.specs.declared.act.ActLine.{ActLine}
use Rattle.lh_settling.specs.declared.settle_fault.SettleFault.{SettleFault}
use Rattle.lh_settling.specs.declared.settle_fault.SettleFault.TheVariants as settle
use Rattle.lh_shards.specs.Settling.{AreParts, AreSettled, IsFirstDue, MakeOneMap}
use Rattle.lh_shards.specs.declared.closed_shard.ClosedShard.{ClosedShard}
use Rattle.lhash.specs.Driven.{Counts}
use Rattle.lhash.specs.Driving.{empty_file, settle_fault_of}
use Rattle.lhash.specs.DrivingShards.{AreShardsOf, IsDrivenShards, IsDriveShardsFault, IsPartial, IsSettledWhole}
use Rattle.lhash.specs.DrivingShards.{acts_in, empty_files}
use Rattle.lhash.specs.declared.drive.DriveFault.TheVariants.{Settle}
use Rattle.lhash.specs.declared.driven.Driven.{Driven}
use Rattle.lhash.proofs.Merges.{joined, joined_is_merge, replies_joined}
use Rattle.lhash.proofs.ShardHands.{at_place, at_repeat, sums_agree, there}

-- listings that are all that of an empty file are those of so many empty files
all_empty : (settings : Settings) (shards : ℕ) (listings : List Lists) → length listings ≡ shards →
    ((k : ℕ) (listing : Lists) → slice_get listings k ≡ Some listing → listing ≡ empty_file settings) →
    listings ≡ empty_files settings shards
all_empty settings zero [] many each = refl
all_empty settings (suc n) [] many each = absurd (omega (arith, many))
all_empty settings zero (l ∷ ls) many each = absurd (omega (arith, many))
all_empty settings (suc n) (l ∷ ls) many each =
    ap (λ (first : Lists). first ∷ ls) (each 0 l refl)
    ∙ ap (λ (rest : List Lists). empty_file settings ∷ rest)
    (all_empty settings n ls (omega (arith, many)) (λ k. each (suc k)))

-- so many listings, each that of an empty file, are those of so many empty files
pub listed_empty : (settings : Settings) (shards : ℕ) (listings items : List Lists) → listings ≡ items →
    length items ≡ shards → All (λ (l : Lists). l ≡ empty_file settings) items →
    listings ≡ empty_files settings shards
listed_empty settings shards listings items is many each =
    is
    ∙ all_empty settings shards items many
    (λ k listing at. at_place (λ (l : Lists). l ≡ empty_file settings) items k listing each at)

-- there are as many listings of empty files as shards
pub empty_count : (settings : Settings) (shards : ℕ) → length (empty_files settings shards) ≡ shards
empty_count settings zero = refl
empty_count settings (suc n) = ap suc (empty_count settings n)

-- as many replies are in the histories as acts in the shards
pub replies_made : (openings : List Lists) (closed : List ClosedShard) (histories : List (List ActLine)) →
    length openings ≡ length closed → AreSettled openings closed histories →
    length (flat_map replies_of histories) ≡ acts_in closed
replies_made openings closed histories many settled =
    length-flat_map replies_of histories
    ∙ sums_agree (λ (shard : ClosedShard). length shard.acts) (λ (history : List ActLine). length (replies_of history))
    closed histories settled.count
    (λ k shard history ks kh.
    let opening = there openings k (subst (λ n. k < n) (sym many) (slice_get_within closed k shard ks)) in
    length-map history (λ act. act.reply)
    ∙ length_permutation shard.acts history
    (settled.each k opening.0 shard history opening.1 ks kh).stamped.order.same)

-- totals that count the replies and the records of settled shards are those of a legal history of one map
pub driven_shards : (settings : Settings) (shards : ℕ) (openings : List Lists) (closed : List ClosedShard)
    (histories : List (List ActLine)) (d : Driven) (calls : List CallOf) →
    AreShardsOf settings shards closed → openings ≡ empty_files settings shards → length openings ≡ length closed →
    AreParts empty openings → AreSettled openings closed histories → MakeOneMap openings closed histories →
    Counts (flat_map replies_of histories) d → length calls ≡ acts_in closed →
    d.records ≡ min (sum_by (λ (shard : ClosedShard). count_of shard.closed.lists) closed) (2 ^ 64 - 1) →
    IsDrivenShards settings shards calls d
driven_shards settings shards openings closed histories d calls of is many parts settled one_map counts made records =
    let merged = joined_is_merge histories in
    let map = one_map empty (joined histories) parts merged in record {
      closed = closed;
      histories = histories;
      history = joined histories;
      of = of;
      settled = subst (λ (l : List Lists). AreSettled l closed histories) is settled;
      merged = merged;
      legal = map.0;
      parts = map.1;
      counts = subst (λ replies. Counts replies d) (replies_joined histories) counts;
      made = counts.calls ∙ replies_made openings closed histories many settled ∙ sym made;
      records = records;
    }

-- the records of some shards and the next one
pub records_more : (closed : List ClosedShard) (k : ℕ) (shard : ClosedShard) (total term new : ℕ) →
    slice_get closed k ≡ Some shard →
    total ≡ min (sum_by (λ (s : ClosedShard). count_of s.closed.lists) (take k closed)) (2 ^ 64 - 1) →
    term ≡ min (count_of shard.closed.lists) (2 ^ 64 - 1) → new ≡ min (total + term) (2 ^ 64 - 1) →
    new ≡ min (sum_by (λ (s : ClosedShard). count_of s.closed.lists) (take (k + 1) closed)) (2 ^ 64 - 1)
records_more closed k shard total term new at so_far here is =
    let count = λ (s : ClosedShard). count_of s.closed.lists in
    omega (
      arith,
      so_far,
      here,
      is,
      sum_by_more count closed k shard (slice_get_within closed k shard at),
      ap count (get_or_from_slice_get closed k shard shard at),
    )

-- a shard that has a fault of settling was not met whole
partial : (settings : Settings) (shards : ℕ) (closed : List ClosedShard) (shard : ℕ) (fault : SettleFault) →
    All (IsSettledWhole settings) closed →
    IsFirstDue (empty_files settings shards) closed (record { shard = shard; fault = fault }) → shard < shards →
    fault ≢ settle.Memory → (here : ClosedShard) → slice_get closed shard ≡ Some here → IsPartial here
partial settings shards closed shard fault known due within ne here at gathered still =
    let same : due.closed ≡ here = same_Some due.closed here (sym due.closed_is ∙ at) in
    let opening : due.opening ≡ empty_file settings =
    same_Some due.opening (empty_file settings)
    (sym due.opening_is ∙ at_repeat (empty_file settings) shards shard within) in
    due.unsettled ne
    (subst (λ (c : ClosedShard). Settled due.opening c.closed c.acts) (sym same)
    (subst (λ (l : Lists). Settled l here.closed here.acts) (sym opening)
    (at_place (IsSettledWhole settings) closed shard here known at gathered still)))

-- a fault of settling is one of a run, or memory ran out
faulted : (settings : Settings) (shards : ℕ) (closed : List ClosedShard) (shard : ℕ) (fault : SettleFault) →
    AreShardsOf settings shards closed → All (IsSettledWhole settings) closed →
    IsFirstDue (empty_files settings shards) closed (record { shard = shard; fault = fault }) →
    fault ≢ settle.Memory → IsDriveShardsFault settings shards (Settle fault)
faulted settings shards closed shard fault of known due ne =
    let within = subst (λ n. shard < n) of.count (slice_get_within closed shard due.closed due.closed_is) in
    (closed, shard, of, due, ne, partial settings shards closed shard fault known due within ne)

-- the first fault of settling shards, or memory that ran out for it, is why a run of `drive` has no totals
pub settle_faulted : (settings : Settings) (shards : ℕ) (closed : List ClosedShard) (shard : ℕ) (fault : SettleFault) →
    AreShardsOf settings shards closed → All (IsSettledWhole settings) closed →
    IsFirstDue (empty_files settings shards) closed (record { shard = shard; fault = fault }) →
    IsDriveShardsFault settings shards (settle_fault_of fault)
settle_faulted settings shards closed shard settle.SplitUnderWay of known due =
    faulted settings shards closed shard settle.SplitUnderWay of known due (λ e. absurd cc)
settle_faulted settings shards closed shard (settle.MissingStamp stamp) of known due =
    faulted settings shards closed shard (settle.MissingStamp stamp) of known due (λ e. absurd cc)
settle_faulted settings shards closed shard (settle.Reply stamp given wanted) of known due =
    faulted settings shards closed shard (settle.Reply stamp given wanted) of known due (λ e. absurd cc)
settle_faulted settings shards closed shard (settle.Content key) of known due =
    faulted settings shards closed shard (settle.Content key) of known due (λ e. absurd cc)
settle_faulted settings shards closed shard (settle.Placed bucket key) of known due =
    faulted settings shards closed shard (settle.Placed bucket key) of known due (λ e. absurd cc)
settle_faulted settings shards closed shard settle.Memory of known due = tt
