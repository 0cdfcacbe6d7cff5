-- The words that scripts and records share, and the word of a test.
use Rattle.std.specs.Prelude.{ℕ, List, Bool, if◌then◌else◌, codes}
use Rattle.std.specs.Fmt.{decimal}
use Rattle.ktime.specs.declared.clock_id.ClockId.{ClockId}
use Rattle.ktime.specs.declared.clock_id.ClockId.TheVariants as clocks
use Rattle.ktime.specs.declared.mode.Mode.{Mode}
use Rattle.ktime.specs.declared.mode.Mode.TheVariants as modes
use Rattle.record_text.specs.declared.version.Version.{Version}
use Rattle.record_text.specs.declared.version.Version.TheVariants as versions

-- the number of a version
abbrev pub version_word : Version → List ℕ
version_word versions.One = codes "1"
version_word versions.Two = codes "2"

-- the name of a clock
abbrev pub clock_word : ClockId → List ℕ
clock_word clocks.Monotonic = codes "monotonic"
clock_word clocks.Realtime = codes "realtime"
clock_word clocks.Boottime = codes "boottime"

-- the name of a mode of starting
abbrev pub mode_word : Mode → List ℕ
mode_word modes.Abs = codes "abs"
mode_word modes.Rel = codes "rel"
mode_word modes.Keep = codes "keep"

-- 1 where a test holds, else 0
abbrev pub flag : Bool → List ℕ
flag b = decimal (if b then 1 else 0)
