use Rattle.std.proofs.Common.{◌≡◌, ◌∙◌, ap, sym, ℕ, Some, arith}
use Rattle.std.specs.Str.Parse.{digits_value, without_leading_plus}
use Rattle.clap.specs.Words.{found_of, one_text, rows_of}
use Rattle.clap.proofs.WalkLemmas.{one_text-rows}
use Rattle.lh_options.proofs.Requests.{digits-all, number-is}
use Rattle.lh_options.proofs.options.number.Goals as goal

pub unreachable-requires : goal.unreachable-requires
unreachable-requires c =
    let given = c.requires in
    let text : one_text (found_of c.args.matches.now) c.args.name.now ≡ Some given.text =
    one_text-rows (found_of c.args.matches.now) c.args.name.now ∙ given.as_read in
    let read = c.in-None.ensures.value given.text text in
    absurd (read.1.0 (digits-all (without_leading_plus given.text) given.numeral, omega (arith, given.high)))

pub returns : goal.returns
returns c =
    let given = c.requires in
    let text : one_text (found_of c.args.matches.now) c.args.name.now ≡ Some given.text =
    one_text-rows (found_of c.args.matches.now) c.args.name.now ∙ given.as_read in
    let read = c.in-Some.ensures.value given.text text in
    let is : c.in-Some.number ≡ digits_value 10 (without_leading_plus given.text) = read.0.1 in
    number-is (rows_of (found_of c.args.matches.now)) c.args.name.now 0 4294967295 given
    ∙ sym (ap (λ (n : ℕ). Some n) is)
