-- The summary of a record: how many lines of each kind it has, and how many periods its timers were forwarded.
use Rattle.std.specs.Prelude.{ℕ, List, [], ◌∷◌, ◌++◌, length, codes}
use Rattle.std.specs.List.{sum_by}
use Rattle.std.specs.Fmt.{decimal}
use Rattle.seq_timer.specs.declared.event.EventBy.{EventBy}
use Rattle.seq_timer.specs.declared.event.EventBy.TheVariants as events
use Rattle.seq_timer.specs.declared.event.Reply.{Reply}
use Rattle.seq_timer.specs.declared.event.Reply.TheVariants as replies
use Rattle.record_text.specs.declared.record.Entry.{Entry}
use Rattle.record_text.specs.declared.record.RunRecord.{RunRecord}

-- an entry is counted as one
abbrev pub entry_count : Entry → ℕ
entry_count entry = 1

-- a claim is counted as one, and no other event
abbrev pub claims_in : EventBy ℕ → ℕ
claims_in (events.Claim base reading) = 1
claims_in other = 0

-- a cancel is counted as one, and no other event
abbrev pub cancels_in : EventBy ℕ → ℕ
cancels_in events.Cancel = 1
cancels_in other = 0

-- the periods by which a forward moved its timer
abbrev pub periods_told : Reply → ℕ
periods_told (replies.Forward moved) = moved.count
periods_told other = 0

-- what all entries of all timers come to
abbrev pub of_entries : (Entry → ℕ) → RunRecord → ℕ
of_entries amount r = sum_by (λ lines. sum_by (λ line. amount line.entry) lines) r.timers

-- a line of the summary: a name and a number
abbrev pub named : List ℕ → ℕ → List ℕ
named name n = name ++ 32 ∷ (decimal n ++ 10 ∷ [])

-- the nine lines of a record's summary
abbrev pub summary_of : RunRecord → List ℕ
summary_of r =
    codes "summary 1\n"
    ++ (named (codes "lanes") (length r.answers)
    ++ (named (codes "calls") (sum_by length r.answers)
    ++ (named (codes "clock") (length r.clock)
    ++ (named (codes "entries") (of_entries entry_count r)
    ++ (named (codes "claims") (of_entries (λ e. claims_in e.event) r)
    ++ (named (codes "cancels") (of_entries (λ e. cancels_in e.event) r)
    ++ (named (codes "periods") (of_entries (λ e. periods_told e.reply) r)
    ++ codes "end\n")))))))
