use Rattle.std.proofs.Common.{◌≡◌, ℕ, List, take}
use Rattle.lh_addr.specs.Fnv.{code_of}
use Rattle.lh_image.specs.declared.version.Version.{Version}
use Rattle.lh_image.specs.Checked.{code_mark}
use Rattle.lh_image.specs.Plain.{IsIndexOf, IsNoneOf, keys_on}
use Rattle.lh_image.proofs.checked.apart.lack_mark.Given as goal

abbrev pub invariant-loop-page : goal.invariant-loop-page
invariant-loop-page l =
    (bytes : List ℕ) (version : Version) (key : List ℕ) → IsIndexOf bytes version l.index →
    l.fn.mark ≡ code_mark (code_of key) → IsNoneOf key (keys_on bytes (take l.page-index l.pages))
