-- A file and its first hand more, and what stands there at the end
use Rattle.std.proofs.Common.{◌≡◌, ◌+◌, ◌∷◌, ◌++◌, [], List, length, map, sym, ap, ◌∙◌, subst, arith}
use Rattle.std.proofs.lemmas.List.{length_push}
use Rattle.lh_file.specs.FileState.{IsOpened}
use Rattle.lh_file.specs.HashFile.{Shared}
use Rattle.lh_file.specs.Words.HandState.{HandState}
use Rattle.lh_shards.specs.Hands.{EachShard, ShardFact}
use Rattle.lh_shards.proofs.OneShard.{grown_files, opened_of}
use Rattle.lh_shards.proofs.Places.{length_mapped}
use Rattle.lh_shards.proofs.shards.SizedShards+Untraced+Unbranded+ROOM.created.Goals as goal

pub loop-shard-preserved : goal.loop-shard-preserved
loop-shard-preserved g c =
    let Fact : ShardFact = λ shard. IsOpened c.args.config c.args.config.initial c.args.recording 0 in
    let fs : List Shared = c.loop-shard.files.items in
    let hs : List HandState = c.loop-shard.hands.items in
    let many : length fs ≡ length hs = c.loop-shard.invariant.files ∙ sym c.loop-shard.invariant.hands in record {
      files =
          ap length c.in_ok-push.ensures.items ∙ length_push fs c.in_ok-file.file
          ∙ ap (λ n. n + 1) c.loop-shard.invariant.files;
      hands =
          ap length c.in_ok-push-2.ensures.items ∙ length_push hs c.in_ok-file.hand
          ∙ ap (λ n. n + 1) c.loop-shard.invariant.hands;
      each =
          subst
          (λ (l : List Shared).
          EachShard Fact (map (λ (file : Shared). file.state) l) c.push-in-loop-shard.new.self.items)
          (sym c.in_ok-push.ensures.items)
          (subst
          (λ (l : List HandState).
          EachShard Fact (map (λ (file : Shared). file.state) (fs ++ c.in_ok-file.file ∷ [])) l)
          (sym c.in_ok-push-2.ensures.items)
          (grown_files Fact fs hs c.in_ok-file.file c.in_ok-file.hand many c.loop-shard.invariant.each
          c.in_ok-file.ensures));
    }

pub returns : goal.returns
returns g c =
    let fs : List Shared = c.loop-shard.files.items in
    let seen : length (map (λ (file : Shared). file.state) fs) ≡ length fs =
    length_mapped (λ (file : Shared). file.state) fs in
    let done : length fs ≡ c.loop-shard._shard = c.loop-shard.invariant.files in
    let hands : length c.loop-shard.hands.items ≡ c.loop-shard._shard = c.loop-shard.invariant.hands in record {
      count = omega arith;
      each = c.loop-shard.invariant.each;
      of =
          opened_of (map (λ (file : Shared). file.state) fs) c.loop-shard.hands.items (λ shard. c.args.config)
          (λ shard. c.args.config.initial) c.args.recording (λ shard. 0) (omega arith) c.loop-shard.invariant.each;
    }
