use Rattle.std.proofs.Common.{◌≡◌, List}
use Rattle.std.specs.List.{FoldsTo}
use Rattle.lh_file.specs.FileState.{IsOf}
use Rattle.lh_file.specs.Snapshots.Scans.{Scanning, ahead, HasScanned}
use Rattle.lh_file.specs.Words.HandState.{HandState}
use Rattle.lh_file.specs.declared.snapshots.bucket_copy.BucketCopy.{BucketCopy}
use Rattle.lh_file.proofs.snapshots.scan.Scan.for_each.Given as goal

-- what is still to come goes on from what was done
abbrev pub invariant-loop-f : goal.invariant-loop-f
invariant-loop-f g l = record {
  callable : goal.F-IsAlwaysCallable g l.f;
  initial : l.self.initial ≡ l.file.state.config.initial;
  of : IsOf l.file.state l.hand;
  goes_on : (copies : List BucketCopy) (last : _) (after : Scanning) (left : HandState) →
      FoldsTo (λ p copy q. goal.F-step g p copy tt q) l.f copies last →
      HasScanned g.M.Mode.traced l.file.state l.self l.hand copies after left →
      (all : List BucketCopy) × FoldsTo (λ p copy q. goal.F-step g p copy tt q) l.fn.f all last
      × HasScanned g.M.Mode.traced l.file.state l.fn.self l.fn.hand all after left;
}

abbrev pub decreases-loop-f : goal.decreases-loop-f
decreases-loop-f g l = ahead l.self
