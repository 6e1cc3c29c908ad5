use Rattle.std.proofs.Common.{◌≡◌, ◌∙◌, ap, ap₂, arith, Option, [], ◌∷◌, Some, pos}
use Rattle.std.proofs.lemmas.Grind.{common_steps}
use Rattle.std.specs.Borrow.{Bor}
use Rattle.clap.specs.Words.{Rule, Text, new_rule, rule_of}
use Rattle.clap.specs.declared.builder.action.ArgAction.TheVariants.{Set}
use Rattle.clap.specs.declared.builder.arg.Arg.{Arg}
use Rattle.clap.specs.declared.builder.texts.Texts.TheVariants.{One}
use Rattle.clap.specs.declared.builder.value_parser.ValueParser.{ValueParser}
use Rattle.clap.specs.declared.builder.value_parser.ValueParser.TheVariants as parser
use Rattle.lh_options.proofs.app.option.Goals as goal

-- the rule of an argument that is made step by step
made : (start long help action parsed last : Arg) (name text default : Bor Text) (range : Option ValueParser)
    → rule_of start ≡ new_rule name.now → long ≡ record start { long = Some name }
    → help ≡ record long { help = Some text }
    → action ≡ record help { action = Some Set } → parsed ≡ record action { value_parser = parsed.value_parser }
    → parsed.value_parser ≡ range → last ≡ record parsed { default_vals = One default }
    → rule_of last
    ≡
    record (new_rule name.now)
    { long = Some name.now; action = Some Set; defaults = default.now ∷ []; parser = range }
made start long help action parsed last name text default range is l h a p q d =
    let named = ap rule_of l ∙ ap (λ (r : Rule). record r { long = Some name.now }) is in
    let set = ap rule_of a ∙ ap (λ (r : Rule). record r { action = Some Set }) (ap rule_of h ∙ named) in
    let ranged = ap rule_of p ∙ ap₂ (λ (r : Rule) v. record r { parser = v }) set q in
    ap rule_of d ∙ ap (λ (r : Rule). record r { defaults = default.now ∷ [] }) ranged

pub returns-clause-rule : goal.returns-clause-rule
returns-clause-rule c =
    made c.new.result c.long.result c.help.result c.action.result c.value_parser-2.result c.default_value.result _ _ _
    (Some (parser.Signed (pos c.args.least) (pos c.args.most)))
    c.new.ensures.rule c.long.ensures c.help.ensures c.action.ensures c.value_parser-2.ensures.others
    (grind (arith, common_steps)) c.default_value.ensures
