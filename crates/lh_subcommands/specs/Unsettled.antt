-- How it reads that what threads did is not settled
use Rattle.std.specs.Prelude.{ℕ, List, ◌++◌, codes}
use Rattle.std.specs.Fmt.{decimal}
use Rattle.lh_page.specs.Texts.{hexadecimal_text}
use Rattle.lh_subcommands.specs.declared.unsettled.Unsettled.{Unsettled}
use Rattle.lh_subcommands.specs.declared.unsettled.Unsettled.TheVariants.{SplitUnderWay, MissingStamp, Reply, Content}
use Rattle.lh_subcommands.specs.declared.unsettled.Unsettled.TheVariants.{Placed, Call}

-- the text of such a fault
abbrev pub unsettled_text : Unsettled → List ℕ
unsettled_text SplitUnderWay = codes "split under way"
unsettled_text (MissingStamp stamp) = codes "missing stamp " ++ decimal stamp
unsettled_text (Reply stamp) = codes "reply at " ++ decimal stamp
unsettled_text (Content key) = codes "content of " ++ hexadecimal_text key
unsettled_text (Placed bucket key) =
    codes "place of " ++ (hexadecimal_text key ++ (codes " in bucket " ++ decimal bucket))
unsettled_text Call = codes "call fault"
