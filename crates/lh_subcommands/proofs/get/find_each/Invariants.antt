use Rattle.lh_image.specs.Layout.{view_of}
use Rattle.lh_image.specs.LookUp.{look_up}
use Rattle.lh_subcommands.specs.Get.{look_up_reply}
use Rattle.lh_subcommands.proofs.Getting.{AreMade}
use Rattle.lh_subcommands.proofs.get.find_each.Given as goal

abbrev pub invariant-loop-key : goal.invariant-loop-key
invariant-loop-key l = AreMade (λ k. look_up_reply (look_up (view_of l.image) k)) l.keys l.key-index l.replies.items
