use Rattle.std.proofs.Common.{◌≡◌, ◌∙◌, ◌++◌, ℕ, List, [], Option, Some, None, inl, inr, map, refl, sym, ap, subst}
use Rattle.std.proofs.Common.{append-nil}
use Rattle.std.specs.Io.Buffered.{writer_contents}
use Rattle.std.specs.Io.KnownBytes.{Keeps, append_known}
use Rattle.lhash.specs.Serving.{IsRunOn}
use Rattle.lhash_program.proofs.run_whole_on.Goals as goal

keeps : (known : Option (List ℕ)) → Keeps known known
keeps None = tt
keeps (Some bytes) = refl

-- where nothing is left gathered, the device holds all
emptied : (known held : Option (List ℕ)) (gathered : List ℕ) → gathered ≡ [] →
    Keeps known (append_known held gathered) → Keeps known held
emptied None held gathered e kept = tt
emptied (Some bytes) None gathered e kept = kept
emptied (Some bytes) (Some all) gathered e kept = sym (append-nil all) ∙ ap (λ l. all ++ l) (sym e) ∙ kept

pub returns-clause-done : goal.returns-clause-done
returns-clause-done g c whole =
    let told = c.finish.ensures.done whole in (
      _,
      subst
          (λ status. IsRunOn c.args.is_terminal (map (λ w. w.now) c.args.words.now) status
          (g.Q.Read.remaining c.args.file.now)
          (g.Q.Read.remaining c.run_on-ended.new.file)
          (g.R.Read.remaining c.args.reader.now)
          (g.R.Read.remaining c.run_on-ended.new.reader)
          (writer_contents g.W.Write.contents c.args.output.now)
          (writer_contents g.W.Write.contents c.run_on-ended.new.writer))
          (sym told.0) c.run_on-ended.ensures,
      emptied _ _ _ told.1 c.finish.ensures.kept,
    )

pub returns-in-Some-clause-ran : goal.returns-in-Some-clause-ran
returns-in-Some-clause-ran g c not =
    elim c.in-Some.ensures.only.1 [
      | inl memory ↦ (_, (c.in-Some.status, inr (memory, keeps _, keeps _, keeps _), inl refl), keeps _)
      | inr asked ↦ absurd (not c.in-Some.ensures.only.0 asked)
    ]
