-- What a counter's calls mean, and what is left in a pass that has made some.
use Rattle.std.specs.Prelude.{◌≡◌, ◌≢◌, ℕ, ◌+◌, ◌^◌, ◌<◌, [], length, None}
use Rattle.pass_names.specs.Counts.{count}
use Rattle.pass_names.specs.Passes.{GoesOn, is_place}
use Rattle.counted_row.specs.Meaning.{CallMeaning, plain}
use Rattle.counted_row.specs.Views.{PassOfRow}
use Rattle.table_uses.specs.declared.rows.counter.Counter.{Counter}

-- the call n adds n and replies the total; there are no claims
abbrev pub adding : CallMeaning Counter ℕ ℕ
adding = record {
  may = λ s n. s.total + n < 2 ^ 64;
  next = λ s n. record { total = s.total + n };
  reply = λ s n. s.total + n;
  claims = λ s. [];
  effect = λ s n. plain;
}

-- the pass has made so many calls on the value, and holds nothing
pub record Made (index calls : ℕ) (old new : PassOfRow Counter ℕ ℕ) : Type 0 where
  pub id : new.knows.pass.id ≡ old.knows.pass.id
  pub seen : GoesOn old.knows.pass.seen new.knows.pass.seen
  pub mine : length new.knows.pass.mine ≡ length old.knows.pass.mine + calls
  pub elsewhere : (i k : ℕ) → i ≢ index → count (is_place i k) new.knows.pass.mine ≡ count (is_place i k) old.knows.pass.mine
  pub claims : new.knows.claims ≡ old.knows.claims
  pub held : new.knows.held ≡ None
