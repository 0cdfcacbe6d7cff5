-- How the program ends.
use Rattle.std.specs.Prelude.{ℕ, List, codes, Some, None}
use Rattle.std.specs.declared.option.Option.{Option}
use Rattle.hrt_top.specs.declared.status.Status.{Status}
use Rattle.hrt_top.specs.declared.status.Status.TheVariants as statuses

-- the number that the process ends with
abbrev pub code_of : Status → ℕ
code_of statuses.Ok = 0
code_of statuses.Usage = 2
code_of statuses.Refused = 3
code_of statuses.ReadFault = 4
code_of statuses.WriteFault = 5
code_of statuses.OutOfMemory = 6

-- the line for standard error, where there is one
abbrev pub message_of : Status → Option (List ℕ)
message_of statuses.Ok = None
message_of statuses.Usage = Some (codes "usage: hrt run | hrt gen --seed N --lanes N --calls N")
message_of statuses.Refused = None
message_of statuses.ReadFault = Some (codes "hrt: read fault")
message_of statuses.WriteFault = Some (codes "hrt: write fault")
message_of statuses.OutOfMemory = Some (codes "hrt: out of memory")
