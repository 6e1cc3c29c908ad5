-- The hand of the scan's shard is one of its file, and stays one; the others are as they were.
use Rattle.std.proofs.Common.{◌≡◌, ℕ, ◌∙◌, List, Result, Ok, Err, ap, length, lit<, refl, set, subst, sym}
use Rattle.std.specs.Prelude.{IfOk, OnErr, Some, slice_get}
use Rattle.lh_file.specs.Snapshots.Scans.{Scanning}
use Rattle.lh_file.specs.Words.HandState.{HandState}
use Rattle.lh_shards.specs.Hands.{AreAtHome}
use Rattle.lh_shards.specs.Snapshots.{ShardScanning}
use Rattle.lh_shards.proofs.Counting.{set_self}
use Rattle.lh_shards.proofs.Looks.{next_keeps}
use Rattle.lh_shards.proofs.OneShard.{at_same, of_kept}
use Rattle.lh_shards.proofs.scan.ShardScan.next.Goals as goal

pub next-requires : goal.next-requires
next-requires g c =
    let shard : c.self.inside.shard ≡ c.args.self.now.shard = ap (λ (s : ShardScanning). s.shard) c.self.view_is in (
      lit< tt,
      (
        ap (λ (s : ShardScanning). s.scan.initial) c.self.view_is
            ∙ c.requires.scan.initial _
            (subst (λ n. slice_get c.args.shards.now n ≡ Some c.file.result.now.state) shard c.file.ensures),
        (c.requires.of.each _ _ _ c.file.ensures c.at.ensures.value).of,
      ),
    )

pub returns-clause-visited : goal.returns-clause-visited
returns-clause-visited g c =
    at_same _ (ap (λ (s : ShardScanning). s.shard) c.self.view_is) c.file.ensures c.at.ensures.value
    c.next.ensures.visited

pub returns-clause-of : goal.returns-clause-of
returns-clause-of g c =
    of_kept c.requires.of c.file.ensures c.at.ensures.value c.next.ensures.of
    (next_keeps (λ (h : HandState). h.view.has_right) _ _ _ _ _ _ (λ n log. refl) c.next.result c.next.ensures.visited
    c.next.ensures.same c.next.ensures.err)
    (subst (λ acts. AreAtHome (length c.args.shards.now) c.self.inside.shard acts)
    (sym
    (next_keeps (λ (h : HandState). h.acts) _ _ _ _ _ _ (λ n log. refl) c.next.result c.next.ensures.visited
    c.next.ensures.same c.next.ensures.err)))

abbrev scan_at : ℕ → Scanning → ShardScanning
scan_at shard scan = record { shard = shard; scan = scan }

-- where the file's scan and its hand are as they were, so are the shard's scan and all hands
as_before : (shard : ℕ) (scan next : Scanning) (self : ShardScanning) (hands : List HandState)
    (old new : HandState) → scan_at shard scan ≡ self → slice_get hands shard ≡ Some old → (next ≡ scan) × (new ≡ old) →
    (scan_at shard next ≡ self) × (set hands shard new ≡ hands)
as_before shard scan next self hands old new is mine same = (
  ap (λ (s : Scanning). scan_at shard s) same.0 ∙ is,
  ap (λ (h : HandState). set hands shard h) same.1 ∙ set_self hands shard old mine,
)

at_ok : {T E : Type 0} {P Q : T → Type 0} (result : Result T E) → ((t : T) → P t → Q t) → IfOk result P → IfOk result Q
at_ok (Ok t) told had = told t had
at_ok (Err e) told had = tt

at_err : {T E P Q : Type 0} (result : Result T E) → (P → Q) → OnErr result P → OnErr result Q
at_err (Ok t) told had = tt
at_err (Err e) told had = told had

pub returns-clause-same : goal.returns-clause-same
returns-clause-same g c =
    at_ok c.next.result
    (λ t had none.
    as_before c.self.inside.shard c.self.inside.scan c.next.new.self c.args.self.now c.args.hands.now c.at.result.now
    c.next.new.hand c.self.view_is c.at.ensures.value (had none))
    c.next.ensures.same

pub returns-clause-err : goal.returns-clause-err
returns-clause-err g c =
    at_err c.next.result
    (as_before c.self.inside.shard c.self.inside.scan c.next.new.self c.args.self.now c.args.hands.now c.at.result.now
    c.next.new.hand c.self.view_is c.at.ensures.value)
    c.next.ensures.err
