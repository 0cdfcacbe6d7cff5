-- Large scripts that are made from a number: the numbers that are drawn from it, the rounds of calls, and the bytes of a script.
use Rattle.std.specs.Prelude.{ℕ, zero, suc, ◌+◌, ◌-◌, ◌*◌, ◌/◌, ◌%◌, ◌==◌, min, if◌then◌else◌, List, [], ◌∷◌, ◌++◌, map}
use Rattle.std.specs.List.{flat_map, range_with_len}
use Rattle.ktime.specs.declared.clock_id.ClockId.TheVariants as clocks
use Rattle.ktime.specs.declared.mode.Mode.TheVariants as modes
use Rattle.ktime.specs.declared.write.Write.TheVariants as writes
use Rattle.seq_timer.specs.declared.context.Context.TheVariants as contexts
use Rattle.record_text.specs.declared.version.Version.TheVariants as versions
use Rattle.script_text.specs.declared.form.Line.{Line}
use Rattle.script_text.specs.declared.script.Callback.TheVariants as callbacks
use Rattle.script_text.specs.declared.script.Kind.TheVariants as kinds
use Rattle.script_text.specs.declared.script.Call.{Call}
use Rattle.script_text.specs.declared.script.Call.TheVariants as calls
use Rattle.script_text.specs.declared.script.Declaration.{Declaration}
use Rattle.script_text.specs.declared.script.LaneCall.{LaneCall}
use Rattle.script_text.specs.declared.script.Round.{Round}
use Rattle.script_text.specs.declared.script.Script.{Script}
use Rattle.script_text.specs.Grammar.{spelled}
use Rattle.script_text.specs.Scripts.{script_lines}
use Rattle.script_text.specs.Declarations.{without_slack}

-- ---- numbers that are drawn

-- the number after x
abbrev pub next_number : ℕ → ℕ
next_number x = (x * 1103515245 + 12345) % 2147483648

-- the number that is so many after x
unfoldable pub number_after : ℕ → ℕ → ℕ
number_after zero x = x
number_after (suc n) x = number_after n (next_number x)

-- what is drawn from x on, after so many draws
abbrev pub draw : ℕ → ℕ → ℕ
draw x n = number_after (n + 1) x / 65536

-- ---- calls

-- a lane's call by three draws: a says what is asked for, b which of the lane's two timers, d how long
unfoldable pub call_by : ℕ → ℕ → ℕ → ℕ → Call
call_by lane a b d =
    if a % 4 == 0 then calls.Cancel (2 * lane + b % 2)
    else if a % 4 == 3 then calls.Expire contexts.Hard lane 8
    else calls.Start (2 * lane + b % 2) (without_slack modes.Rel (d % 100) lane)

-- a lane's call in a turn that draws from x on: lane 0 has the first three draws, lane 1 the next
abbrev pub drawn_call : ℕ → ℕ → LaneCall
drawn_call x lane = record { lane = lane; call = call_by lane (draw x (3 * lane)) (draw x (3 * lane + 1)) (draw x (3 * lane + 2)) }

-- a turn from x on: one call of each lane
abbrev pub turn : ℕ → ℕ → List LaneCall
turn x lanes = map (drawn_call x) (range_with_len 0 lanes)

-- so many turns from x on, each with three draws for each lane
abbrev pub drawn_turns : ℕ → ℕ → ℕ → List LaneCall
drawn_turns x lanes count = flat_map (λ i. turn (number_after (3 * lanes * i) x) lanes) (range_with_len 0 count)

-- ---- the script

-- a lane's timers: a periodic one, and one that runs once
abbrev pub timers_of_lane : ℕ → List Declaration
timers_of_lane lane =
    record { clock = clocks.Monotonic; kind = kinds.Raw contexts.Hard (callbacks.Every 100) }
    ∷ record { clock = clocks.Monotonic; kind = kinds.Raw contexts.Hard callbacks.Once } ∷ []

-- the timers of all lanes
abbrev pub lane_timers : ℕ → List Declaration
lane_timers lanes = flat_map timers_of_lane (range_with_len 0 lanes)

-- a round in which lane 0 moves the clock on
abbrev pub clock_round : Round
clock_round = record { calls = record { lane = 0; call = calls.Clock (writes.Advance 50) } ∷ [] }

-- a round in which each lane expires its base
abbrev pub expiry_round : ℕ → Round
expiry_round lanes = record { calls = map (λ lane. record { lane = lane; call = calls.Expire contexts.Hard lane 8 }) (range_with_len 0 lanes) }

-- the clock moves, and the four turns from a multiple of four on are made in one round, or as many as are left of all
abbrev pub four_turns : ℕ → ℕ → ℕ → ℕ → List Round
four_turns seed lanes count i =
    clock_round ∷ record { calls = drawn_turns (number_after (3 * lanes * (4 * i)) seed) lanes (min 4 (count - 4 * i)) } ∷ []

-- the script of so many turns; in the end the clock moves, and each lane expires its base
abbrev pub generated : ℕ → ℕ → ℕ → Script
generated seed lanes count = record {
  version = versions.One;
  bases = lanes;
  lanes = lanes;
  limit = 1000000;
  timers = lane_timers lanes;
  rounds = flat_map (four_turns seed lanes count) (range_with_len 0 ((count + 3) / 4)) ++ clock_round ∷ expiry_round lanes ∷ [];
}

-- ---- bytes

-- the bytes of lines: each as it is spelled, and a newline after it
abbrev pub lines_bytes : List Line → List ℕ
lines_bytes ls = flat_map (λ l. spelled l ++ 10 ∷ []) ls

-- the bytes of a script: its lines, and nothing else
abbrev pub script_bytes : Script → List ℕ
script_bytes s = lines_bytes (script_lines s)
