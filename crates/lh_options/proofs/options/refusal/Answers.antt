use Rattle.std.proofs.Common.{◌∙◌, inl, inr, sym}
use Rattle.lh_options.proofs.options.refusal.Goals as goal

pub returns-in-OutOfMemory : goal.returns-in-OutOfMemory
returns-in-OutOfMemory c = tt

pub returns-in_ok-help_text-in-DisplayHelp : goal.returns-in_ok-help_text-in-DisplayHelp
returns-in_ok-help_text-in-DisplayHelp c = inl (sym c.kind.ensures ∙ c.in-DisplayHelp.is)

pub returns-in_ok-help_text-in-DisplayVersion : goal.returns-in_ok-help_text-in-DisplayVersion
returns-in_ok-help_text-in-DisplayVersion c = inr (sym c.kind.ensures ∙ c.in-DisplayVersion.is)

pub returns-in_ok-first_line-in_default : goal.returns-in_ok-first_line-in_default
returns-in_ok-first_line-in_default c = (
  λ shown.
      elim shown [
        | inl h ↦ c.in_default.not-DisplayHelp (c.kind.ensures ∙ h)
        | inr h ↦ c.in_default.not-DisplayVersion (c.kind.ensures ∙ h)
      ],
  λ h. c.in_default.not-OutOfMemory (c.kind.ensures ∙ h),
  c.in_ok-first_line-in_default.ensures,
)
