use Rattle.std.proofs.Common.{◌≡◌, ℕ, ◌<◌, ◌≤◌, length, ap, sym, refl, ◌∙◌, subst, arith}
use Rattle.std.specs.Prelude.{Option, Some, None, IfSome}
use Rattle.atomic_table.specs.Table.{Step}
use Rattle.seq_timer.specs.declared.standing.Standing.{Standing}
use Rattle.seq_timer.specs.Standings.{IsStanding}
use Rattle.seq_timer.specs.Systems.{BaseContent}
use Rattle.base_row.specs.declared.view.Opening.{Opening}
use Rattle.base_row.specs.Places.{word_at}
use Rattle.base_row.specs.Rules.{base_place, standing_number, base_seen}
use Rattle.base_row.specs.Plays.{KnowsOwn, LoadedWord, LooksOwn, SeatState}
use Rattle.base_row.specs.Calls.{BasePassOf}
use Rattle.base_row.proofs.Holding.{knows_about}
use Rattle.base_row.proofs.Placed.{standing_seen}
use Rattle.base_row.proofs.row.BaseRow.load_standing.Goals as goal

heir_fits : (b bases : ℕ) (heir : Option ℕ) → ((to : ℕ) → heir ≡ Some to → to < b) → b < bases → bases ≤ 256 → IfSome heir (λ h. h < 256)
heir_fits b bases None below inside few = tt
heir_fits b bases (Some to) below inside few = omega (arith, below to refl, inside, few)

-- the number that was loaded is read as the base's standing
read : (o : Opening) (few : o.bases ≤ 256) (st : Step (Option BaseContent)) (me new : SeatState) (number b : ℕ) (r : Standing) → me.0.opening ≡ o
    → LooksOwn st me number new → KnowsOwn new.0 → st.word ≡ word_at o.bases (base_place (length o.timers) b) → b < o.bases
    → ((s : Standing) → s.stamp < 65536 → IfSome s.heir (λ h. h < 256) → standing_number s ≡ number → r ≡ s)
    → (r ≡ (base_seen o new.0 b).standing) × IsStanding b r
read o few st me new number b r about looked knows at within back =
    let told = subst (λ (q : Opening). LoadedWord q st me number new) about looked in
    let known = knows_about o new.0 (ap (λ (m : SeatState). m.0.opening) told.rest ∙ about) knows in
    let fits = standing_seen o new.0 known b in
    let is = back (base_seen o new.0 b).standing fits.stamp (heir_fits b o.bases (base_seen o new.0 b).standing.heir fits.heir within few)
    (sym (told.standing b at within)) in
    (is, subst (λ s. IsStanding b s) (sym is) fits)

found : (c : goal.After-unpack_standing) → (c.unpack_standing.result ≡ (base_seen c.args.self.now.about c.look-number.new.seat.me.0 c.args.base).standing)
    × IsStanding c.args.base c.unpack_standing.result
found c =
    read c.args.self.now.about c.fresh.ensures.few _ c.pass.inside.seat.me c.look-number.new.seat.me
    c.look-number.result c.args.base c.unpack_standing.result (ap (λ (p : BasePassOf). p.knows.opening) c.pass.view_is ∙ c.requires.row.about)
    c.look-number.ensures.looked c.known.ensures c.base_index-index.ensures.place c.requires.within c.unpack_standing.ensures

pub returns-clause-standing : goal.returns-clause-standing
returns-clause-standing c = (found c).0

pub returns-clause-fits : goal.returns-clause-fits
returns-clause-fits c = (found c).1
