use Rattle.std.proofs.Math.Bool.{and_assoc}
use Rattle.lh_bucket.specs.Tags.{key_back, value_back, asked_back, given_back}
use Rattle.lh_bucket.proofs.answer.AnswerPartialEq.eq.Goals as goal

pub returns : goal.returns
returns c =
    let a = c.t1-1 in
    let b = c.t2-1 in
    rw (
      ← a.view_is,
      ← b.view_is,
      c.and_eq-6.ensures,
      c.and_eq-5.ensures,
      c.and_eq-4.ensures,
      c.and_eq-3.ensures,
      c.and_eq-2.ensures,
      c.and_eq.ensures,
      c.eq.ensures,
    )
    (simp (
      and_assoc,
      key_back,
      asked_back,
      given_back,
      value_back a.inside.asked a.inside.given a.inside.key a.inside.value a.invariant.0,
      value_back b.inside.asked b.inside.given b.inside.key b.inside.value b.invariant.0,
    ))
