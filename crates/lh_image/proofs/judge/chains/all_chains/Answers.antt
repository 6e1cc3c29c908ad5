use Rattle.std.proofs.Common.{ℕ, length, Vec, Global}
use Rattle.lh_image.specs.Chains.{chain}
use Rattle.lh_image.specs.Table.{next_in}
use Rattle.lh_image.proofs.Judging.Finding.{made_more}
use Rattle.lh_image.proofs.judge.chains.all_chains.Goals as goal

pub loop-bucket-preserved : goal.loop-bucket-preserved
loop-bucket-preserved c =
    made_more (λ (chain : Vec ℕ Global). chain.items) c.loop-bucket.chains.items c.push.new.self.items
    c.in_ok-chain_from.field-0 (chain (next_in c.args.entries.now) (length c.args.entries.now)) c.loop-bucket.bucket
    c.in_ok-push.ensures.items c.in_ok-chain_from.ensures.ok c.loop-bucket.invariant
