use Rattle.std.proofs.Common.{◌∙◌, ap, sym, subst}
use Rattle.std.specs.String.{string_bytes}
use Rattle.lh_script.specs.Texts.{line}
use Rattle.lh_serving.specs.Conversations.{ConversationSeen, IsAt}
use Rattle.lh_serving.proofs.Hearing.{answered, came, nothing_behind}
use Rattle.lh_serving.proofs.conversation.Conversation.hear.Goals as goal

pub returns-in-None-clause-heard : goal.returns-in-None-clause-heard
returns-in-None-clause-heard c = λ s heard answers h.
    let was = subst (λ t. IsAt s t heard answers) (sym c.self.view_is) h in (
      c.args.bytes.now,
      nothing_behind c.args.bytes.now,
      came s c.self.inside.notation c.self.inside.is_terminal c.self.inside.world c.self.inside.records
          c.self.inside.missed c.self.inside.part c.add.new.self
          (string_bytes c.self.inside.waiting) c.self.inside.image heard answers c.args.bytes.now was c.add.ensures
          c.in-None.ensures,
    )

pub returns-in_ok-put-in-Some-clause-heard : goal.returns-in_ok-put-in-Some-clause-heard
returns-in_ok-put-in-Some-clause-heard c = λ s heard answers h.
    let was = subst (λ t. IsAt s t heard answers) (sym c.self.view_is) h in (
      line c.in-Some.line.now,
      c.in-Some.ensures.0,
      answered s c.self.inside.notation c.self.inside.is_terminal c.self.inside.world c.answer_to-said.new.world
          c.self.inside.records c.answer_to-said.new.records
          c.self.inside.missed c.answer_to-said.new.missed
          c.self.inside.part c.add-in-Some.new.self c.clear.new.self (string_bytes c.self.inside.waiting)
          (string_bytes c.put.new.waiting) heard answers c.in-Some.line.now c.self.inside.image
          c.answer_to-said.result.image c.asked-asked.result c.answer_to-said.result.answer
          (ap (λ (t : ConversationSeen). t.image) c.self.view_is ∙ c.requires) was c.add-in-Some.ensures
          c.in-Some.ensures.1 c.asked-asked.ensures c.answer_to-said.ensures.answered c.clear.ensures
          c.in_ok-put-in-Some.ensures,
    )
