-- Where the words of a row's table stand. Two threads that store to neighbouring words slow each other, so the words that are used lie apart;
-- those between are no part of the rule.
use Rattle.std.specs.Prelude.{ℕ, ◌+◌, ◌*◌}

-- a value's word: 16 words, so 128 bytes, from word 0 and from the next value's. With the number of values it is the number of words.
abbrev pub row_word_at : ℕ → ℕ
row_word_at i = 16 * i + 16
