use Rattle.std.proofs.Common.{◌≡◌, ◌∙◌, List, map, take, sym, ap, subst}
use Rattle.std.specs.Result.{IfOk, IfErr}
use Rattle.std.proofs.lemmas.List.{take-map}
use Rattle.lh_addr.specs.Settings.{Settings}
use Rattle.lh_page.specs.declared.pair.Pair.{Pair}
use Rattle.lh_bucket.specs.ListingFault.{IsFaultOf}
use Rattle.lh_settling.specs.ClosedFile.{ClosedFile}
use Rattle.lh_settling.proofs.closed_file.Closed.into_listing.Goals as goal

-- the lists that are left are those up to the size
left : (c : goal.After-new)
    → map (λ v. v.items) c.truncate.new.self.items ≡ take c.buckets-buckets.result c.args.self.lists
left c =
    ap (map (λ v. v.items)) c.truncate.ensures.items
    ∙ sym (take-map (λ v. v.items) c.buckets-buckets.result c.self.inside.lists.items)
    ∙ ap (λ (f : ClosedFile). take c.buckets-buckets.result f.lists) c.self.view_is

pub returns-clause-ok : goal.returns-clause-ok
returns-clause-ok c =
    subst (λ n. IfOk c.new.result (λ listing.
    listing ≡ record { config = c.args.self.config; lists = take n c.args.self.lists })) c.buckets-buckets.ensures.value
    (subst (λ (s : Settings). IfOk c.new.result
    (λ listing. listing ≡ record { config = s; lists = take c.buckets-buckets.result c.args.self.lists }))
    (ap (λ (f : ClosedFile). f.config) c.self.view_is)
    (subst (λ (ls : List (List Pair)).
    IfOk c.new.result (λ listing. listing ≡ record { config = c.self.inside.config; lists = ls }))
    (left c) c.new.ensures.ok))

pub returns-clause-err : goal.returns-clause-err
returns-clause-err c =
    subst (λ n. IfErr c.new.result (IsFaultOf c.args.self.config n
    (take n c.args.self.lists))) c.buckets-buckets.ensures.value
    (subst (λ (s : Settings). IfErr c.new.result
    (IsFaultOf s c.buckets-buckets.result (take c.buckets-buckets.result c.args.self.lists)))
    (ap (λ (f : ClosedFile). f.config) c.self.view_is)
    (subst (λ (ls : List (List Pair)). IfErr c.new.result (IsFaultOf c.self.inside.config c.buckets-buckets.result ls))
    (left c) c.new.ensures.err))
