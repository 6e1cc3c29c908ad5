use Rattle.std.proofs.Common.{◌≡◌, take}
use Rattle.lh_addr.specs.Fnv.{code_of}
use Rattle.lh_image.specs.Checked.{code_mark}
use Rattle.lh_image.specs.Plain.{IsIndexOf, IsNoneOf, keys_on}
use Rattle.lh_image.proofs.checked.apart.lack.Given as goal

abbrev pub invariant-loop-page : goal.invariant-loop-page
invariant-loop-page l =
    IsIndexOf l.bytes l.fn.version l.index → l.fn.mark ≡ code_mark (code_of l.key) →
    IsNoneOf l.key (keys_on l.bytes (take l.page-index l.pages))
