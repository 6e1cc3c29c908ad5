use Rattle.std.proofs.Common.{◌≡◌, refl, sym, ◌∙◌}
use Rattle.std.specs.Prelude.{Result, Ok, Err, OnErr}
use Rattle.lh_bucket.specs.declared.call.Call.TheVariants.{Insert}
use Rattle.lh_bucket.specs.declared.call.Reply.TheVariants.{Inserted}
use Rattle.lh_bucket.specs.PlainMap.{reply}
use Rattle.lh_bucket.specs.Records.{map_of}
use Rattle.lh_bucket.proofs.Chained.{stands_there, stands_nowhere}
use Rattle.lh_bucket.proofs.paged_bucket.insert_into.Goals as goal

pub returns-in-Some-clause-reply : goal.returns-in-Some-clause-reply
returns-in-Some-clause-reply g c =
    rw (stands_there c.args.chain.now.pairs c.args.key.now c.in-Some.field-0 (sym c.in-Some.is ∙ c.requires.place)).2
    refl

pub returns-in_ok-append-in-None-clause-reply : goal.returns-in_ok-append-in-None-clause-reply
returns-in_ok-append-in-None-clause-reply g c =
    rw (stands_nowhere c.args.chain.now.pairs c.args.key.now (sym c.in-None.is ∙ c.requires.place)) refl

on_err : {X E P : Type 0} (r : Result X E) → P → OnErr r P
on_err (Ok x) p = tt
on_err (Err e) p = p

pub returns-in_err-append-in-None-clause-new_key : goal.returns-in_err-append-in-None-clause-new_key
returns-in_err-append-in-None-clause-new_key g c =
    let new : reply (map_of c.args.chain.now.pairs) (Insert c.args.key.now c.args.value.now) ≡ Inserted =
    rw (stands_nowhere c.args.chain.now.pairs c.args.key.now (sym c.in-None.is ∙ c.requires.place)) refl in
    on_err c.from_residual.result new
