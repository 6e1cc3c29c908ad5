use Rattle.std.proofs.Common.{◌∙◌, Some, ap, inl, inr, sym}
use Rattle.lh_options.specs.AskingLaws.{apply, check, draw, dump, get, migrate, query, serve_by}
use Rattle.lh_options.specs.declared.options.Request.TheVariants as request
use Rattle.lh_options.proofs.options.asked.Goals as goal

pub returns-in-check-clause-value : goal.returns-in-check-clause-value
returns-in-check-clause-value c = check _ _ _ _ _ _ c.in-check.is (c.requires.none (inl c.in-check.is))

pub returns-in-dump-clause-value : goal.returns-in-dump-clause-value
returns-in-dump-clause-value c =
    dump _ _ _ _ _ _ c.in-dump.is (c.requires.none (inr (inl c.in-dump.is)))
    ∙ ap (λ format. Some (request.Dump format)) (sym c.format_in.ensures)

pub returns-in-draw-clause-value : goal.returns-in-draw-clause-value
returns-in-draw-clause-value c = draw _ _ _ _ _ _ c.in-draw.is (c.requires.none (inr (inr (inl c.in-draw.is))))

pub returns-in-migrate-clause-value : goal.returns-in-migrate-clause-value
returns-in-migrate-clause-value c =
    migrate _ _ _ _ _ _ c.in-migrate.is (c.requires.none (inr (inr (inr (inl c.in-migrate.is)))))

pub returns-in-query-clause-value : goal.returns-in-query-clause-value
returns-in-query-clause-value c =
    query _ _ _ _ _ _ c.in-query.is (c.requires.none (inr (inr (inr (inr (inl c.in-query.is))))))

pub returns-in-apply-clause-value : goal.returns-in-apply-clause-value
returns-in-apply-clause-value c =
    apply _ _ _ _ _ _ _ c.in-apply.is (c.requires.none (inr (inr (inr (inr (inr (inl c.in-apply.is)))))))
    c.version_in.ensures

pub returns-in_ok-keys_in-in-get-clause-value : goal.returns-in_ok-keys_in-in-get-clause-value
returns-in_ok-keys_in-in-get-clause-value c =
    get _ _ _ _ _ _ c.in-get.is (c.requires.none (inr (inr (inr (inr (inr (inr c.in-get.is)))))))
    ∙ ap (λ keys. Some (request.Get keys)) (sym c.in_ok-keys_in-in-get.ensures)

pub returns-in-serve-clause-value : goal.returns-in-serve-clause-value
returns-in-serve-clause-value c = serve_by _ _ _ _ _ _ c.in-serve.is ∙ c.serve_asked.ensures.value

pub file_asked-requires-clause-settings : goal.file_asked-requires-clause-settings
file_asked-requires-clause-settings c =
    elim c.requires.named [
      | inl file ↦ c.requires.settings file
      | inr (inl n) ↦ absurd (c.in_default.not-check n)
      | inr (inr (inl n)) ↦ absurd (c.in_default.not-dump n)
      | inr (inr (inr (inl n))) ↦ absurd (c.in_default.not-draw n)
      | inr (inr (inr (inr (inl n)))) ↦ absurd (c.in_default.not-migrate n)
      | inr (inr (inr (inr (inr (inl n))))) ↦ absurd (c.in_default.not-query n)
      | inr (inr (inr (inr (inr (inr (inl n)))))) ↦ absurd (c.in_default.not-apply n)
      | inr (inr (inr (inr (inr (inr (inr n)))))) ↦ absurd (c.in_default.not-get n)
    ]
