use Rattle.std.proofs.Common.{◌≡◌, ◌∙◌, ◌⊎◌, inl, inr, ℕ, List, min, map, length, take, refl, sym, ap, subst, arith}
use Rattle.std.specs.Prelude.{Result, Ok, Err}
use Rattle.std.specs.Result.{IfOk, IfErr}
use Rattle.std.proofs.lemmas.List.{take-map, take_min, length-map}
use Rattle.lh_addr.specs.Settings.{Settings}
use Rattle.lh_page.specs.declared.pair.Pair.{Pair}
use Rattle.lh_bucket.specs.declared.listing.ListingFault.{ListingFault}
use Rattle.lh_bucket.specs.declared.listing.ListingFault.TheVariants.{Memory}
use Rattle.lh_bucket.specs.ListingFault.{IsFaultOf}
use Rattle.lh_settling.specs.ClosedFile.{ClosedFile}
use Rattle.lh_settling.proofs.closed_file.Closed.listing.Goals as goal

-- the lists up to the size, which may be fewer
cut : (lists : List (List Pair)) (n size : ℕ) → n ≡ min (length lists) size → take n lists ≡ take size lists
cut lists n size is =
    let swapped : n ≡ min size (length lists) = omega (arith, is) in
    ap (λ n. take n lists) swapped ∙ take_min size lists

copies : (c : goal.After-new)
    → map (λ v. v.items) c.in-Ok.lists.items ≡ take c.buckets-buckets.result c.args.self.now.lists
copies c =
    let lists : List (List Pair) = map (λ v. v.items) c.self.inside.lists.items in
    c.in-Ok.ensures
    ∙ ap (λ vs. map (λ v. v.items) (take c.min-end.result vs)) c.deref.ensures.value
    ∙ sym (take-map (λ v. v.items) c.min-end.result c.self.inside.lists.items)
    ∙ cut lists c.min-end.result c.buckets-buckets.result
    (omega (arith, c.min-end.ensures, c.len.ensures, length-map c.self.inside.lists.items (λ v. v.items)))
    ∙ ap (λ (f : ClosedFile). take c.buckets-buckets.result f.lists) c.self.view_is

pub returns-in-Ok-clause-ok : goal.returns-in-Ok-clause-ok
returns-in-Ok-clause-ok c =
    subst (λ n. IfOk c.new.result (λ listing.
    listing ≡ record { config = c.args.self.now.config; lists = take n c.args.self.now.lists }))
    c.buckets-buckets.ensures.value
    (subst (λ (s : Settings). IfOk c.new.result
    (λ listing. listing ≡ record { config = s; lists = take c.buckets-buckets.result c.args.self.now.lists }))
    (ap (λ (f : ClosedFile). f.config) c.self.view_is)
    (subst (λ (ls : List (List Pair)).
    IfOk c.new.result (λ listing. listing ≡ record { config = c.self.inside.config; lists = ls }))
    (copies c) c.new.ensures.ok))

or_memory : {X : Type 0} (Is : ListingFault → Type 0) (r : Result X ListingFault) → IfErr r Is
    → IfErr r (λ fault. (fault ≡ Memory) ⊎ Is fault)
or_memory Is (Ok x) is = tt
or_memory Is (Err fault) is = inr is

pub returns-in-Ok-clause-err : goal.returns-in-Ok-clause-err
returns-in-Ok-clause-err c =
    or_memory _ c.new.result
    (subst (λ n. IfErr c.new.result
    (IsFaultOf c.args.self.now.config n (take n c.args.self.now.lists))) c.buckets-buckets.ensures.value
    (subst (λ (s : Settings). IfErr c.new.result
    (IsFaultOf s c.buckets-buckets.result (take c.buckets-buckets.result c.args.self.now.lists)))
    (ap (λ (f : ClosedFile). f.config) c.self.view_is)
    (subst (λ (ls : List (List Pair)). IfErr c.new.result (IsFaultOf c.self.inside.config c.buckets-buckets.result ls))
    (copies c) c.new.ensures.err)))

pub returns-in-Err-clause-err : goal.returns-in-Err-clause-err
returns-in-Err-clause-err c = inl refl
