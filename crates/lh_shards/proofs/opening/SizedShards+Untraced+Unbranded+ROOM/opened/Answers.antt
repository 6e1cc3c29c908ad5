-- A file and its first hand more, from the listing whose turn it is, and what stands there at the end
use Rattle.std.proofs.Common.{◌≡◌, ◌+◌, ◌-◌, ◌^◌, ◌<◌, ◌≤◌, ◌∷◌, ◌++◌, [], List, length, map, min, Some, refl, sym}
use Rattle.std.proofs.Common.{ap, ◌∙◌, subst, arith}
use Rattle.std.specs.List.{slice_get}
use Rattle.std.proofs.lemmas.List.{length_push}
use Rattle.std.proofs.lemmas.Option.{same_Some, slice_get_read, slice_get_within}
use Rattle.lh_bucket.specs.Listing.{Lists, count_of, size}
use Rattle.lh_file.specs.FileState.{IsOpened}
use Rattle.lh_file.specs.HashFile.{Shared}
use Rattle.lh_file.specs.Words.HandState.{HandState}
use Rattle.lh_shards.specs.Hands.{EachShard, ShardFact}
use Rattle.lh_shards.proofs.Homes.{OpenedFrom, opened_are_of}
use Rattle.lh_shards.proofs.OneShard.{grown_files}
use Rattle.lh_shards.proofs.Places.{length_mapped, there}
use Rattle.lh_shards.proofs.opening.SizedShards+Untraced+Unbranded+ROOM.opened.Goals as goal

pub loop-shard-preserved : goal.loop-shard-preserved
loop-shard-preserved g c =
    let Fact : ShardFact = OpenedFrom c.args.listings.now c.args.recording in
    let fs : List Shared = c.loop-shard.files.items in
    let hs : List HandState = c.loop-shard.hands.items in
    let many : length fs ≡ length hs = c.loop-shard.invariant.files ∙ sym c.loop-shard.invariant.hands in
    let here : slice_get c.args.listings.now c.loop-shard.shard ≡ Some c.index-listings-shard.result =
    slice_get_read c.args.listings.now (length c.args.listings.now) c.loop-shard.shard c.index-listings-shard.result
    refl (omega (arith, c.loop-shard-test.true)) c.index-listings-shard.is in
    record {
      files =
          ap length c.in_ok-push.ensures.items ∙ length_push fs c.in_ok-file.file
          ∙ ap (λ n. n + 1) c.loop-shard.invariant.files;
      hands =
          ap length c.in_ok-push-2.ensures.items ∙ length_push hs c.in_ok-file.hand
          ∙ ap (λ n. n + 1) c.loop-shard.invariant.hands;
      each =
          subst
          (λ (l : List Shared).
          EachShard Fact (map (λ (file : Shared). file.state) l) c.push-in-loop-shard.new.self.items)
          (sym c.in_ok-push.ensures.items)
          (subst
          (λ (l : List HandState).
          EachShard Fact (map (λ (file : Shared). file.state) (fs ++ c.in_ok-file.file ∷ [])) l)
          (sym c.in_ok-push-2.ensures.items)
          (grown_files Fact fs hs c.in_ok-file.file c.in_ok-file.hand many c.loop-shard.invariant.each
          (λ listing at.
          let same : c.index-listings-shard.result ≡ listing =
          same_Some c.index-listings-shard.result listing
          (sym here
          ∙ subst (λ k. slice_get c.args.listings.now k ≡ Some listing) c.loop-shard.invariant.hands at) in
          subst
          (λ (l : Lists).
          IsOpened l.config (size l) c.args.recording (min (count_of l.lists) (2 ^ 64 - 1))
          c.in_ok-file.file.state c.in_ok-file.hand × (c.in_ok-file.file.state.listing ≡ l)) same
          (c.in_ok-file.ensures.opened, c.in_ok-file.ensures.listing))));
    }

pub returns : goal.returns
returns g c =
    let fs : List Shared = c.loop-shard.files.items in
    let seen : length (map (λ (file : Shared). file.state) fs) ≡ length fs =
    length_mapped (λ (file : Shared). file.state) fs in
    let end : c.loop-shard.shard ≤ length c.args.listings.now = c.loop-shard.auto.shard-end in
    let all : c.loop-shard.shard ≡ length c.args.listings.now = omega (arith, c.loop-shard-test.false, end) in
    let count : length (map (λ (file : Shared). file.state) fs) ≡ length c.args.listings.now =
    seen ∙ c.loop-shard.invariant.files ∙ all in
    record {
      count = count;
      each = λ i listing file hand li fi hi. (c.loop-shard.invariant.each i file hand fi hi listing li).0;
      listing = λ i listing file li fi.
          let below : i < length (map (λ (file : Shared). file.state) fs) =
          slice_get_within (map (λ (file : Shared). file.state) fs) i file fi in
          let hand : (x : HandState) × (slice_get c.loop-shard.hands.items i ≡ Some x) =
          there c.loop-shard.hands.items i
          (omega (arith, below, seen, c.loop-shard.invariant.files, c.loop-shard.invariant.hands)) in
          (c.loop-shard.invariant.each i file hand.0 fi hand.1 listing li).1;
      of =
          opened_are_of c.args.listings.now c.args.recording (map (λ (file : Shared). file.state) fs)
          c.loop-shard.hands.items count (c.loop-shard.invariant.hands ∙ all) c.loop-shard.invariant.each;
    }
