use Rattle.std.proofs.Common.{◌≡◌, ℕ, ◌<◌, ◌≤◌, ◌∙◌, ap, length, subst, arith}
use Rattle.std.specs.Prelude.{Option}
use Rattle.atomic_table.specs.Table.{Step}
use Rattle.seq_timer.specs.Systems.{BaseContent}
use Rattle.seq_timer.specs.Histories.{peek_of}
use Rattle.seq_timer.specs.Words.{IsWord, packed}
use Rattle.seq_timer.specs.declared.observation.Peek.{Peek}
use Rattle.base_row.specs.declared.view.Opening.{Opening}
use Rattle.base_row.specs.Places.{word_at}
use Rattle.base_row.specs.Plays.{KnowsOwn, LoadedWord, LooksOwn, SeatState}
use Rattle.base_row.specs.Calls.{AreFresh, BasePassOf}
use Rattle.base_row.proofs.Holding.{knows_about}
use Rattle.base_row.proofs.Placed.{reads_back, placed_seen}
use Rattle.base_row.proofs.row.BaseRow.load_word.Goals as goal
use Rattle.base_row.specs.Rules.{timer_seen}

-- the number that was loaded is read as the timer's word, of one of the bases
reads : (o : Opening) (fresh : AreFresh o.timers) (some : 0 < o.bases) (few : o.bases ≤ 256) (st : Step (Option BaseContent)) (me new : SeatState)
    (number t : ℕ) (r : Peek) → me.0.opening ≡ o → LooksOwn st me number new → KnowsOwn new.0 → st.word ≡ word_at o.bases t
    → t < length o.timers → ((w : Peek) → IsWord w → packed w ≡ number → r ≡ w)
    → (r ≡ peek_of (timer_seen o new.0 t)) × ((timer_seen o new.0 t).base < o.bases)
reads o fresh some few st me new number t r about looked knows at within back =
    let told = subst (λ (q : Opening). LoadedWord q st me number new) about looked in
    let known = knows_about o new.0 (ap (λ (m : SeatState). m.0.opening) told.rest ∙ about) knows in
    (reads_back o new.0 fresh known some few t number (told.timer t at within) r back, placed_seen o new.0 fresh known some t)

found : (c : goal.After-read) → let w = timer_seen c.args.self.now.about c.look-number.new.seat.me.0 c.args.timer in
    (c.read.result ≡ peek_of w) × (w.base < c.args.self.now.about.bases)
found c =
    reads c.args.self.now.about c.fresh.ensures.fresh c.fresh.ensures.some c.fresh.ensures.few _ c.pass.inside.seat.me c.look-number.new.seat.me
    c.look-number.result c.args.timer c.read.result (ap (λ (p : BasePassOf). p.knows.opening) c.pass.view_is ∙ c.requires.row.about)
    c.look-number.ensures.looked c.known.ensures c.word_index-index.ensures c.requires.within c.read.ensures.back

pub returns-clause-word : goal.returns-clause-word
returns-clause-word c = (found c).0

pub returns-clause-placed : goal.returns-clause-placed
returns-clause-placed c = omega (arith, ap (λ (w : Peek). w.base) (returns-clause-word c), (found c).1)
