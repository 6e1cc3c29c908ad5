use Rattle.std.proofs.Common.{◌≡◌, ℕ, Bool, ◌++◌, List, [], append-nil, Option, None, Some, Ok, inl, inr, refl, sym, ap}
use Rattle.std.proofs.Common.{subst, ◌∙◌}
use Rattle.std.specs.Prelude.{Result}
use Rattle.lh_addr.specs.Extent.{Extent}
use Rattle.lh_core.specs.World.{WorldSeen}
use Rattle.lh_script.specs.declared.notation.Notation.{Notation}
use Rattle.lh_script.specs.declared.requests.ClientRequest.{ClientRequest}
use Rattle.lh_script.specs.declared.requests.ClientRequest.TheVariants as ask
use Rattle.lh_serving.specs.Answers.{AnswersLine, FileSeen, HoldsFile}
use Rattle.lh_serving.specs.Texts.{image_text, answer_line}
use Rattle.lh_serving.specs.declared.answer.LineAnswer.{LineAnswer}
use Rattle.lh_serving.specs.declared.answer.LineAnswer.TheVariants as answer
use Rattle.lh_serving.specs.declared.answer.Fault.{Fault}
use Rattle.lh_serving.specs.declared.serving.Said.{Said}
use Rattle.lh_serving.proofs.serving.answer_to.Goals as goal

-- an answer, and the file that it leaves, by what was asked
abbrev Leaves : Notation → FileSeen → List ℕ → WorldSeen → ℕ → Bool → Result (Option ClientRequest) Fault → Type 0
Leaves k file said w n b asked = (next : FileSeen) × AnswersLine k file asked said next × HoldsFile w n b next

-- an answer that no image follows
only_said : (k : Notation) (s : Said) (a : LineAnswer) → s ≡ record { answer = Some a; image = None } →
    answer_line k s.answer ++ image_text s.image ≡ answer_line k (Some a)
only_said k s a e =
    ap (λ (s : Said). answer_line k s.answer ++ image_text s.image) e ∙ append-nil (answer_line k (Some a))

only_leaves : (k : Notation) (file : FileSeen) (s : Said) (a : LineAnswer) (w : WorldSeen) (n : ℕ) (b : Bool)
    (asked : Result (Option ClientRequest) Fault) → s ≡ record { answer = Some a; image = None } →
    Leaves k file (answer_line k (Some a)) w n b asked →
    Leaves k file (answer_line k s.answer ++ image_text s.image) w n b asked
only_leaves k file s a w n b asked e h = subst (λ said. Leaves k file said w n b asked) (sym (only_said k s a e)) h

asked_some : {a : Result (Option ClientRequest) Fault} {o : Option ClientRequest} {r t : ClientRequest} → a ≡ Ok o →
    o ≡ Some r → r ≡ t → a ≡ Ok (Some t)
asked_some e f g = e ∙ ap (λ x. Ok x) (f ∙ ap (λ x. Some x) g)

pub returns-in-Ok-None-clause-answered : goal.returns-in-Ok-None-clause-answered
returns-in-Ok-None-clause-answered c = λ k file h.
    subst (Leaves k file [] c.args.world.now c.args.records.now c.args.missed.now)
    (sym (c.in-Ok-None.is ∙ ap (λ x. Ok x) c.in-Ok-None.field-0-is)) (file, (refl, refl), h)

pub returns-in-Ok-Some-Call-clause-answered : goal.returns-in-Ok-Some-Call-clause-answered
returns-in-Ok-Some-Call-clause-answered c = λ k file h.
    let d = c.serve_call.ensures.answered file h in
    only_leaves k file c.only.result c.serve_call.result c.serve_call.new.world c.serve_call.new.records
    c.serve_call.new.missed c.args.asked
    c.only.ensures
    (subst
    (Leaves k file (answer_line k (Some c.serve_call.result)) c.serve_call.new.world c.serve_call.new.records
    c.serve_call.new.missed)
    (sym
    (asked_some {t = ask.Call c.in-Ok-Some-Call.call} c.in-Ok-Some-Call.is c.in-Ok-Some-Call.field-0-is
    c.in-Ok-Some-Call.field-0-0-is))
    (d.0, (c.serve_call.result, refl, d.1), d.2))

pub returns-in-Ok-Some-Buckets-clause-answered : goal.returns-in-Ok-Some-Buckets-clause-answered
returns-in-Ok-Some-Buckets-clause-answered c = λ k file h.
    let e : c.buckets.result ≡ file.size =
    c.buckets.ensures.value ∙ ap (λ (r : Extent). r.buckets) c.root.ensures.value ∙ h.size in
    only_leaves k file c.only-in-Ok-Some-Buckets.result (answer.Buckets c.buckets.result) c.args.world.now
    c.args.records.now c.args.missed.now c.args.asked c.only-in-Ok-Some-Buckets.ensures
    (subst
    (Leaves k file (answer_line k (Some (answer.Buckets c.buckets.result))) c.args.world.now c.args.records.now
    c.args.missed.now)
    (sym
    (asked_some {t = ask.Buckets} c.in-Ok-Some-Buckets.is c.in-Ok-Some-Buckets.field-0-is
    c.in-Ok-Some-Buckets.field-0-0-is))
    (file, (ap (λ n. answer_line k (Some (answer.Buckets n))) e, refl), h))

pub returns-in-Ok-Some-Records-clause-answered : goal.returns-in-Ok-Some-Records-clause-answered
returns-in-Ok-Some-Records-clause-answered c = λ k file h.
    only_leaves k file c.only-in-Ok-Some-Records.result (answer.Records c.args.records.now) c.args.world.now
    c.args.records.now c.args.missed.now c.args.asked c.only-in-Ok-Some-Records.ensures
    (subst
    (Leaves k file (answer_line k (Some (answer.Records c.args.records.now))) c.args.world.now c.args.records.now
    c.args.missed.now)
    (sym
    (asked_some {t = ask.Records} c.in-Ok-Some-Records.is c.in-Ok-Some-Records.field-0-is
    c.in-Ok-Some-Records.field-0-0-is))
    (file, (ap (λ n. answer_line k (Some (answer.Records n))) h.count, refl), h))

pub returns-in-Ok-clause-answered : goal.returns-in-Ok-clause-answered
returns-in-Ok-clause-answered c = λ k file h.
    subst
    (Leaves k file (answer_line k (Some (answer.Image c.in-Ok.len)) ++ image_text (Some c.in-Ok.listing))
    c.args.world.now
    c.args.records.now c.args.missed.now)
    (sym
    (asked_some {t = ask.Image} c.in-Ok-Some-Image.is c.in-Ok-Some-Image.field-0-is
    c.in-Ok-Some-Image.field-0-0-is))
    (file, (inl (c.in-Ok.ensures.ok k c.args.records.now c.args.missed.now file h), refl), h)

pub returns-in-Err-imaged-clause-answered : goal.returns-in-Err-imaged-clause-answered
returns-in-Err-imaged-clause-answered c = λ k file h.
    only_leaves k file c.only-in-Err-imaged.result (answer.Fault c.in-Err-imaged.fault) c.args.world.now
    c.args.records.now c.args.missed.now c.args.asked c.only-in-Err-imaged.ensures
    (subst
    (Leaves k file (answer_line k (Some (answer.Fault c.in-Err-imaged.fault))) c.args.world.now c.args.records.now
    c.args.missed.now)
    (sym
    (asked_some {t = ask.Image} c.in-Ok-Some-Image.is c.in-Ok-Some-Image.field-0-is
    c.in-Ok-Some-Image.field-0-0-is)) (
      file,
      (
        inr
            (c.in-Err-imaged.fault, refl, c.in-Err-imaged.ensures.err c.args.records.now c.args.missed.now file h),
        refl,
      ),
      h,
    ))

pub returns-in-Err-clause-answered : goal.returns-in-Err-clause-answered
returns-in-Err-clause-answered c = λ k file h.
    only_leaves k file c.only-in-Err.result (answer.Fault c.in-Err.fault) c.args.world.now c.args.records.now
    c.args.missed.now c.args.asked
    c.only-in-Err.ensures
    (subst
    (Leaves k file (answer_line k (Some (answer.Fault c.in-Err.fault))) c.args.world.now c.args.records.now
    c.args.missed.now)
    (sym c.in-Err.is) (file, (refl, refl), h))
