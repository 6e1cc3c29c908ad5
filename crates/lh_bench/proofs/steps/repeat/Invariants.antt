use Rattle.std.specs.Prelude.{◌≡◌}
use Rattle.lh_addr.specs.Fnv.{code_of}
use Rattle.lh_bucket.specs.Bucket.{verdict}
use Rattle.lh_bucket.specs.PlainMap.{key_of}
use Rattle.lh_bucket.specs.declared.verdict.Verdict.TheVariants.{Here}
use Rattle.lh_file.specs.FileState.{IsOf}
use Rattle.lh_bench.proofs.steps.repeat.Given as goal

abbrev pub invariant-loop : goal.invariant-loop
invariant-loop g l = record {
  of : IsOf l.file.state l.hand;
  here : verdict l.bucket.head (code_of (key_of l.call)) 0 ≡ Here;
}
