-- Where the words of a table stand. Two threads that store to neighbouring words slow each other, so the words that are used lie apart; those
-- between are no part of the rule.
use Rattle.std.specs.Prelude.{ℕ, ◌+◌, ◌*◌, ◌/◌, ◌%◌}

-- a base's lock word: 16 words, so 128 bytes, from word 0 and from the next base's
abbrev pub lock_at : ℕ → ℕ
lock_at b = 16 * b + 16

-- a timer's word, behind the lock words. With the number of timers it is the number of words.
abbrev pub word_at : ℕ → ℕ → ℕ
word_at bases t = 16 * bases + 16 + 16 * t

-- a counter's word: two of them stand behind each of these, the first two behind word 0
abbrev pub counter_at : ℕ → ℕ
counter_at k = 16 * (k / 2) + 1 + k % 2

-- so many counters have words in a table of so many bases and timers
abbrev pub most_counters : ℕ → ℕ → ℕ
most_counters bases timers = 4 * bases + 2 * timers + 2
