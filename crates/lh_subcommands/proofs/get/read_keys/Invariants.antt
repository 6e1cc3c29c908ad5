use Rattle.std.proofs.Common.{◌≡◌, length, map}
use Rattle.std.specs.String.{string_bytes}
use Rattle.lh_subcommands.specs.Get.{word_key, placed_from}
use Rattle.lh_subcommands.proofs.Getting.{AreMade}
use Rattle.lh_subcommands.proofs.get.read_keys.Given as goal

abbrev pub invariant-loop-word : goal.invariant-loop-word
invariant-loop-word l = record {
  made : AreMade (word_key l.notation) (placed_from 1 (map string_bytes l.words)) l.word-index l.keys.items;
  count : length l.keys.items ≡ l.word-index;
}
