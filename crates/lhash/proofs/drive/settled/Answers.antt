use Rattle.std.proofs.Common.{◌≡◌, ◌∙◌, ◌%◌, true, All, length, ap, refl, subst, rules}
use Rattle.lh_addr.specs.Settings.{Settings}
use Rattle.lh_bucket.specs.Listing.{Lists}
use Rattle.lh_settling.specs.Settled.{IsSettled}
use Rattle.lhash.specs.Driving.{IsSettledWith, IsDriveFaultWith, IsFaultOfOne, IsSettledBefore}
use Rattle.lhash.proofs.Driving.{first_of, replies_made, snapshot_fault}
use Rattle.lhash.proofs.drive.settled.Goals as goal

pub returns-clause-ok : goal.returns-clause-ok
returns-clause-ok c =
    let closed = c.args.closed.now in
    let acts = c.args.acts.now in
    let history = c.in_ok-history.history in record {
      driven = record {
        closed = closed;
        acts = acts;
        history = history;
        config = refl;
        settled = subst (λ opening. IsSettled opening closed acts history) c.requires.empty c.in_ok-history.ensures.ok;
        counts = c.of.ensures.counts;
        made = c.of.ensures.counts.calls ∙ replies_made acts history c.in_ok-history.ensures.ok.stamped.order;
        records = search rules;
      };
      taken = c.args.taken.now;
      count = refl;
      configs = c.requires.configs;
      each =
          first_of c.snapshots_are_settled.ensures.before closed.config closed acts history c.args.taken.now
          c.in_ok-history.ensures.ok.stamped
          (subst (λ (s : Settings). All (IsSettledBefore s acts) c.args.taken.now) (ap (λ l. l.config) c.requires.empty)
          c.in_ok-settle_each.ensures.ok);
    }

pub returns-in_err-settle_each-clause-err : goal.returns-in_err-settle_each-clause-err
returns-in_err-settle_each-clause-err c =
    let settings = c.args.closed.now.config in
    let acts = c.args.acts.now in
    let taken = c.args.taken.now in
    let fault = c.in_err-settle_each.field-0.0 in
    let known =
    subst
    (λ (l : Lists).
    c.args.closed.now.gathered ≡ true → c.args.closed.now.root % 2 ≡ 0 →
    IsSettledWith l c.args.closed.now acts taken) c.requires.empty c.requires.known in
    let due : IsDriveFaultWith settings (length taken) fault =
    snapshot_fault settings c.args.closed.now acts c.in_ok-history.history taken fault refl
    (subst (λ opening. IsSettled opening c.args.closed.now acts c.in_ok-history.history) c.requires.empty
    c.in_ok-history.ensures.ok)
    c.requires.configs known
    (subst (λ (s : Settings). IsFaultOfOne s acts taken fault) (ap (λ l. l.config) c.requires.empty)
    c.in_err-settle_each.ensures.err) in
    search rules
