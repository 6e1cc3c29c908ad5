use Rattle.std.proofs.Common.{[], ◌∷◌, refl, ap, ◌∙◌, arith}
use Rattle.lh_file.specs.Snapshots.Scans.{bucket_of}
use Rattle.lh_file.specs.Words.Hand.{hand_state_of}
use Rattle.lh_file.specs.Words.HandState.{HandState, told_of}
use Rattle.lh_file.proofs.OfSnapshots.Moments.{surveyed_as, ok_map, ok_both}
use Rattle.lh_file.proofs.file.SizedFile.visit.Goals as goal

pub returns-clause-visited : goal.returns-clause-visited
returns-clause-visited g c =
    let state = c.args.self.now.state in
    let seen = c.hand.view_is in
    let own = c.copy_of-copy.ensures in
    ok_map c.copy_of-copy.result _ _
    (ok_both c.copy_of-copy.result _ _ own.kept (ok_both c.copy_of-copy.result _ _ own.after own.told))
    (λ copy (kept, (after, t)). record {
      kept = kept;
      later = omega (arith, after, ap (λ (h : HandState). h.view.floor) seen);
      log = t.0;
      told =
          (λ i.
          record (hand_state_of c.hand.inside)
          { table = own.at i; view = (t.1 i).0.view; entries = (t.1 i).0.entries; logs = (t.1 i).0.logs })
          ∙ ap (λ (h : HandState). told_of h copy.stamps t.0) seen;
      leaves =
          λ on.
          surveyed_as state.listing state.listing copy.stamps copy.stamps (hand_state_of c.hand.inside).entries
          c.args.hand.now.entries (hand_state_of c.hand.inside).logs c.args.hand.now.logs
          (bucket_of state.config copy ∷ []) (bucket_of state.config copy ∷ []) t.0 refl refl
          (ap (λ (h : HandState). h.entries) seen) (ap (λ (h : HandState). h.logs) seen) refl (t.2 on);
    })
