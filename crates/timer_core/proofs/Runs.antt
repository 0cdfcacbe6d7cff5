-- Along a run of calls a timer's entries are steps in turn.
use Rattle.std.proofs.Common.{◌≡◌, ◌<◌, ℕ, true, false, List, [], ◌∷◌, ◌++◌, nat_eq, get_or, length, if◌then◌else◌, refl, sym, ap, subst}
use Rattle.std.proofs.lemmas.Bool.{eqb-true, eqb-false}
use Rattle.std.proofs.lemmas.List.{get_or-map}
use Rattle.seq_timer.specs.declared.context.Declared.{Declared}
use Rattle.seq_timer.specs.declared.context.Terms.{Terms}
use Rattle.seq_timer.specs.Events.{Event}
use Rattle.seq_timer.specs.Steps.{Timer, after, opening}
use Rattle.seq_timer.specs.Histories.{Entry, AreSteps, after_all}
use Rattle.seq_timer.specs.Tables.{no_declared, no_timer, timer_at}
use Rattle.seq_timer.specs.Calls.{step_all, entries_along}
use Rattle.timer_core.specs.Kept.{Kept, AreAllowed, Makes, opened}
use Rattle.timer_core.specs.Runs.{MakeCalls, Call, history_along}

-- entries are steps in turn from one state to the other
abbrev pub LeadsTo : Timer → List Entry → Timer → Type 0
LeadsTo t history end = AreSteps t history × (after_all t history ≡ end)

-- entries of allowed events do so, with more behind them
pub LeadsTo-entries_along : (t end : Timer) (es : List Event) (more : List Entry) → AreAllowed t es → LeadsTo (step_all t es) more end
    → LeadsTo t (entries_along t es ++ more) end
LeadsTo-entries_along t end [] more allowed leads = leads
LeadsTo-entries_along t end (e ∷ es) more allowed leads =
    let rest = LeadsTo-entries_along (after t e) end es more allowed.1 leads in ((allowed.0, refl, rest.0), rest.1)

pub leads_along : (old new : Kept) (calls : List Call) (id : ℕ) → MakeCalls old calls new
    → LeadsTo (timer_at old.timers id) (history_along id (timer_at old.timers id) calls) (timer_at new.timers id)
leads_along old new [] id run = (tt, ap (λ (k : Kept). timer_at k.timers id) (sym run))
leads_along old new (c ∷ cs) id run =
    let t = timer_at old.timers id in
    let end = timer_at new.timers id in
    let rest = leads_along run.0 new cs id run.2 in
    elim (nat_eq c.timer id) as (λ b. nat_eq c.timer id ≡ b
    → LeadsTo t (if b then entries_along t c.events ++ history_along id (step_all t c.events) cs else history_along id t cs) end) [
      | true ↦ λ same.
          let made = subst (λ i. Makes old i c.events run.0) (eqb-true c.timer id same) run.1 in
          LeadsTo-entries_along t end c.events (history_along id (step_all t c.events) cs) made.allowed
          (subst (λ u. LeadsTo u (history_along id u cs) end) made.timer rest)
      | false ↦ λ apart. subst (λ u. LeadsTo u (history_along id u cs) end) (run.1.others id (λ same. eqb-false c.timer id apart (sym same))) rest
    ] refl

-- the timer of a clock at the opening
pub timer_at-opened : (bases : ℕ) (terms : Terms) (id : ℕ) (list : List Declared) → id < length list
    → timer_at (opened bases list terms).timers id ≡ opening (get_or list id no_declared) terms
timer_at-opened bases terms id list there = get_or-map (λ clock. opening clock terms) list id no_declared no_timer there

pub legal_along : (bases : ℕ) (terms : Terms) (id : ℕ) (list : List Declared) (calls : List Call) (end : Kept) → MakeCalls (opened bases list terms) calls end
    → id < length list → LeadsTo (opening (get_or list id no_declared) terms)
    (history_along id (opening (get_or list id no_declared) terms) calls) (timer_at end.timers id)
legal_along bases terms id list calls end run there = subst (λ t. LeadsTo t (history_along id t calls) (timer_at end.timers id))
    (timer_at-opened bases terms id list there) (leads_along (opened bases list terms) end calls id run)
