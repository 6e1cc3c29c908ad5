-- How a run ended: its exit status, and its text on standard error
use Rattle.std.specs.Prelude.{ℕ, List, [], ◌++◌, codes}
use Rattle.std.specs.Fmt.{decimal}
use Rattle.std.specs.String.{string_bytes}
use Rattle.lh_exchange.specs.StreamFaultTexts.{exchange_fault_text}
use Rattle.lh_image.specs.Texts.{image_fault_text, write_image_fault_text}
use Rattle.lh_script.specs.FaultTexts.{script_fault_text}
use Rattle.lh_subcommands.specs.declared.status.DeviceFault.{DeviceFault}
use Rattle.lh_subcommands.specs.declared.status.DeviceFault.TheVariants.{Read, Write}
use Rattle.lh_subcommands.specs.declared.status.InputFault.{InputFault}
use Rattle.lh_subcommands.specs.declared.load.RecordsFault.{RecordsFault}
use Rattle.lh_subcommands.specs.declared.load.RecordsFault.TheVariants.{KeyTwice, Stream}
use Rattle.lh_subcommands.specs.declared.status.InputFault.TheVariants.{Script, Image, Load, Unwritten}
use Rattle.lh_subcommands.specs.declared.status.Status.{Status}
use Rattle.lh_subcommands.specs.declared.status.Status.TheVariants.{Done, Input, Words, Device, KeyAbsent, Memory}
use Rattle.lh_subcommands.specs.declared.status.Status.TheVariants.{NotSettled}
use Rattle.lh_subcommands.specs.Unsettled.{unsettled_text}

-- the exit status
abbrev pub status_code : Status → ℕ
status_code Done = 0
status_code (Input fault) = 1
status_code (Words text) = 2
status_code (Device fault) = 3
status_code Memory = 4
status_code (NotSettled fault) = 5
status_code KeyAbsent = 6

abbrev pub records_fault_text : RecordsFault → List ℕ
records_fault_text (Stream fault) = exchange_fault_text fault
records_fault_text (KeyTwice n) = codes "record " ++ (decimal n ++ codes ": its key came before")

abbrev pub input_fault_text : InputFault → List ℕ
input_fault_text (Script fault) = script_fault_text fault
input_fault_text (Image fault) = image_fault_text fault
input_fault_text (Unwritten fault) = write_image_fault_text fault
input_fault_text (Load fault) = records_fault_text fault

abbrev pub device_text : DeviceFault → List ℕ
device_text Read = codes "read failed"
device_text Write = codes "write failed"

abbrev pub status_text : Status → List ℕ
status_text Done = []
status_text (Input fault) = input_fault_text fault
status_text (Words text) = string_bytes text
status_text (Device fault) = device_text fault
status_text Memory = codes "no memory"
status_text (NotSettled fault) = codes "not settled: " ++ unsettled_text fault
status_text KeyAbsent = codes "a key is absent"
