-- Whether a base is on line: what each event of a base leaves, and its own history.
use Rattle.std.specs.Prelude.{ℕ, ◌≡◌, ◌+◌, ◌<◌, Some, None, IsSome, List, [], ◌∷◌}
use Rattle.seq_timer.specs.declared.standing.BaseEvent.{BaseEvent}
use Rattle.seq_timer.specs.declared.standing.BaseEvent.TheVariants as shifts
use Rattle.seq_timer.specs.declared.standing.Standing.{Standing}

-- a base to which nothing has happened is on line
abbrev pub first_standing : Standing
first_standing = record { stamp = 0; heir = None }

-- the stamp from which a base isn't taken off line any more
abbrev pub last_standing : ℕ
last_standing = 65534

-- a base's standing after an event of it
abbrev pub standing_after : Standing → BaseEvent → Standing
standing_after s (shifts.Offline heir) = record { stamp = s.stamp + 1; heir = Some heir }
standing_after s shifts.Online = record { stamp = s.stamp + 1; heir = None }

-- what an event of a base needs of its standing
abbrev pub MayShift : ℕ → Standing → BaseEvent → Type 0
MayShift base s (shifts.Offline heir) = (s.heir ≡ None) × (heir < base) × (s.stamp < last_standing)
MayShift base s shifts.Online = IsSome s.heir

-- what holds of a base's standing at all times: its stamp is below 2^16, and has room for the entry that brings the base on line again
pub record IsStanding (base : ℕ) (s : Standing) : Type 0 where
  pub stamp : s.stamp < 65536
  pub back : IsSome s.heir → s.stamp < 65535
  pub heir : (to : ℕ) → s.heir ≡ Some to → to < base

-- events of a base by turns: off line and on line, beginning on line
abbrev pub AreShifts : ℕ → Standing → List BaseEvent → Type 0
AreShifts base s [] = Unit {0}
AreShifts base s (e ∷ es) = MayShift base s e × AreShifts base (standing_after s e) es

-- a base's standing after events of it
abbrev pub standing_after_all : Standing → List BaseEvent → Standing
standing_after_all s [] = s
standing_after_all s (e ∷ es) = standing_after_all (standing_after s e) es
