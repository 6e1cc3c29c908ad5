-- How a client's answers read
use Rattle.std.specs.Prelude.{ℕ, List, [], ◌++◌, Option, None, Some, codes}
use Rattle.std.specs.Fmt.{decimal}
use Rattle.lh_bucket.specs.Listing.{Lists}
use Rattle.lh_image.specs.Canonical.{canonical}
use Rattle.lh_image.specs.Texts.{write_image_fault_text}
use Rattle.lh_image.specs.declared.version.Version.TheVariants.{Two}
use Rattle.lh_script.specs.FaultTexts.{line_fault_text}
use Rattle.lh_script.specs.Texts.{line, reply_text, size_text}
use Rattle.lh_script.specs.declared.notation.Notation.{Notation}
use Rattle.lh_serving.specs.declared.answer.LineAnswer.{LineAnswer}
use Rattle.lh_serving.specs.declared.answer.LineAnswer.TheVariants as answer
use Rattle.lh_serving.specs.declared.answer.Fault.{Fault}
use Rattle.lh_serving.specs.declared.answer.Fault.TheVariants as fault

-- why a line was not served
abbrev pub fault_text : Fault → List ℕ
fault_text (fault.Line f) = line_fault_text f
fault_text fault.TooLong = codes "line too long"
fault_text fault.Terminal = codes "image on a terminal"
fault_text fault.Memory = codes "no memory"
fault_text (fault.Image f) = write_image_fault_text f

-- an answer, without its LF; a value is written in a notation
abbrev pub answer_text : Notation → LineAnswer → List ℕ
answer_text notation (answer.Reply reply) = reply_text notation reply
answer_text notation (answer.Buckets buckets) = size_text buckets
answer_text notation (answer.Records records) = codes "records " ++ decimal records
answer_text notation (answer.Image bytes) = codes "image " ++ decimal bytes
answer_text notation (answer.Fault f) = codes "fault " ++ fault_text f

-- an answer as a line, where there is one
abbrev pub answer_line : Notation → Option LineAnswer → List ℕ
answer_line notation None = []
answer_line notation (Some a) = line (answer_text notation a)

-- an image that is written, where one is
abbrev pub image_text : Option Lists → List ℕ
image_text None = []
image_text (Some l) = canonical Two l
