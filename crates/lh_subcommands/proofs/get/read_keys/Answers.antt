use Rattle.std.proofs.Common.{◌≡◌, ◌∙◌, ◌+◌, suc, inr, length, length-append, map, sym, ap, subst, arith}
use Rattle.std.specs.Prelude.{Err, Ok}
use Rattle.std.specs.String.{string_bytes}
use Rattle.lh_script.specs.Operands.{key}
use Rattle.lh_subcommands.specs.Get.{word_key, key_or, keys_of, placed_from}
use Rattle.lh_subcommands.proofs.Getting.{AreMade, made-all, made-error, made-more, placed-at, placed-end}
use Rattle.lh_subcommands.proofs.get.read_keys.Goals as goal

pub returns-in-Err : goal.returns-in-Err
unfolding keys_of
returns-in-Err c =
    let i = c.loop-word.word-index in
    let word = string_bytes c.word-item.result in
    let place : 1 + i ≡ c.len-place.result + 1 = search arith in
    let is : word_key c.args.notation (1 + i, word)
    ≡ Err (record { place = c.len-place.result + 1; fault = c.in-Err.fault }) =
    ap (λ b. key_or (1 + i) (key c.args.notation b)) (sym c.as_bytes.ensures.value)
    ∙ ap (key_or (1 + i)) (sym c.in-Err.ensures)
    ∙ ap (λ n. Err (record { place = n; fault = c.in-Err.fault })) place in
    inr (
      record { place = c.len-place.result + 1; fault = c.in-Err.fault },
      made-error (word_key c.args.notation)
          (placed_from 1 (map string_bytes c.args.words.now)) i c.loop-word.keys.items (1 + i, word) _
          c.loop-word.invariant.made
          (placed-at string_bytes c.args.words.now 1 i c.word-item.result (omega arith) c.word-item.is) is,
      c.refused.ensures,
    )

pub loop-word-preserved : goal.loop-word-preserved
loop-word-preserved c =
    let i = c.loop-word.word-index in
    let word = string_bytes c.word-item.result in
    let next : suc i ≡ i + 1 = omega arith in
    let is : word_key c.args.notation (1 + i, word) ≡ Ok c.in-Ok.key =
    ap (λ b. key_or (1 + i) (key c.args.notation b)) (sym c.as_bytes.ensures.value)
    ∙ ap (key_or (1 + i)) (sym c.in-Ok.ensures) in
    record {
      made =
          subst (λ n. AreMade (word_key c.args.notation)
          (placed_from 1 (map string_bytes c.args.words.now)) n c.push.new.self.items) next
          (subst (AreMade (word_key c.args.notation) (placed_from 1 (map string_bytes c.args.words.now)) (suc i))
          (sym c.in-Ok-push.ensures.items)
          (made-more (word_key c.args.notation)
          (placed_from 1 (map string_bytes c.args.words.now)) i c.loop-word.keys.items (1 + i, word)
          c.in-Ok.key c.loop-word.invariant.made
          (placed-at string_bytes c.args.words.now 1 i c.word-item.result (omega arith) c.word-item.is) is));
      count = ap length c.in-Ok-push.ensures.items ∙ length-append c.loop-word.keys.items _
          ∙ ap (λ n. n + 1) c.loop-word.invariant.count;
    }

pub returns : goal.returns
unfolding keys_of
returns c =
    made-all (word_key c.args.notation) (placed_from 1 (map string_bytes c.args.words.now)) _ _
    c.loop-word.invariant.made
    (placed-end string_bytes c.args.words.now 1 _ (omega arith))
