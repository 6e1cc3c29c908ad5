-- How faults of a script read.
use Rattle.std.specs.Prelude.{ℕ, List, ◌++◌, codes}
use Rattle.std.specs.Fmt.{decimal}
use Rattle.lh_script.specs.declared.fault.LineFault.{LineFault}
use Rattle.lh_script.specs.declared.fault.LineFault.TheVariants.{UnknownWord, WordCount, BadHexadecimal, BadText}
use Rattle.lh_script.specs.declared.fault.LineFault.TheVariants.{KeyLength, ValueLength, WorkerNumber}
use Rattle.lh_script.specs.declared.fault.ScriptFault.{ScriptFault}
use Rattle.lh_script.specs.declared.fault.ScriptFault.TheVariants.{TooLong, AtLine}

-- the text of a line's fault
abbrev pub line_fault_text : LineFault → List ℕ
line_fault_text UnknownWord = codes "unknown word"
line_fault_text WordCount = codes "wrong number of words"
line_fault_text BadHexadecimal = codes "bad hexadecimal"
line_fault_text BadText = codes "bad text"
line_fault_text (KeyLength n) = codes "key length " ++ decimal n
line_fault_text (ValueLength n) = codes "value length " ++ decimal n
line_fault_text WorkerNumber = codes "bad worker number"

-- the text of a script's fault
abbrev pub script_fault_text : ScriptFault → List ℕ
script_fault_text TooLong = codes "script too long"
script_fault_text (AtLine n fault) = codes "line " ++ (decimal n ++ (codes ": " ++ line_fault_text fault))
