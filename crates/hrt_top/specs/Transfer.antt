-- What was read of a source, as far as it tells.
use Rattle.std.specs.Prelude.{◌<◌, ◌≤◌, ◌+◌, ◌⊎◌, ℕ, List, length}
use Rattle.std.specs.declared.option.Option.{Option}
use Rattle.std.specs.Io.KnownBytes.{Consumes, IsAtEnd}

-- the most bytes that a script may have
abbrev pub most_bytes : ℕ
most_bytes = 1048576

-- the most bytes that one read asks for
abbrev pub chunk : ℕ
chunk = 4096

-- these bytes were read: to the source's end, or by one read past the most that a script may have
pub record IsRead (left now : Option (List ℕ)) (bytes : List ℕ) : Type 0 where
  pub front : Consumes left now bytes
  pub whole : IsAtEnd now ⊎ (most_bytes < length bytes)
  pub few : length bytes ≤ most_bytes + chunk

-- at most so many bytes were taken
pub record TakesAtMost (left now : Option (List ℕ)) (most : ℕ) : Type 0 where
  pub bytes : List ℕ
  pub front : Consumes left now bytes
  pub few : length bytes ≤ most
