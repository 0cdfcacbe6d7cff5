-- The records that don't fit by what they say of signals.
use Rattle.std.proofs.Common.{◌≡◌, ◌<◌, ◌≤◌, ℕ, ◌+◌, zero, suc, true, false, List, [], ◌∷◌, ◌++◌, Some, length, get_or, arith, refl, ap, ◌∙◌, subst}
use Rattle.std.specs.List.{AllByRecursion, slice_get}
use Rattle.std.proofs.lemmas.Bool.{false≢true, true≢false}
use Rattle.record_text.specs.declared.record.AcceptReply.TheVariants as acceptances
use Rattle.record_text.specs.declared.record.Answer.{Answer}
use Rattle.record_text.specs.declared.record.Label.{Label}
use Rattle.record_text.specs.declared.record.ObjectEntry.{ObjectEntry}
use Rattle.record_text.specs.declared.record.ObjectEntry.TheVariants as object_entries
use Rattle.record_text.specs.declared.record.ObjectLine.{ObjectLine}
use Rattle.record_text.specs.declared.record.RunRecord.{RunRecord}
use Rattle.script_text.specs.declared.script.Script.{Script}
use Rattle.posix_timer.specs.Queued.{is_fresh}
use Rattle.signal_queue.specs.declared.signal.Signal.{Signal}
use Rattle.run_history.specs.Actions.{Made, Signalled, made}
use Rattle.run_history.specs.Fits.{Fits}
use Rattle.run_history.specs.Objects.{queued_after}
use Rattle.run_history.specs.Order.{is_before}
use Rattle.run_history.specs.Signals.{most_signals}
use Rattle.run_history.specs.Truths.{WasFresh}
use Rattle.run_history.specs.Witnesses.{witness_with}
use Rattle.run_history.proofs.Actions.{made-append}
use Rattle.run_history.proofs.Lists.{all_at}
use Rattle.fit_laws.specs.Signals.{IsCounted, IsNamedBy, NamedBefore, Names, Sent, SentNoLater}
use Rattle.fit_laws.proofs.SignalLaws.{found_empty, found_full, signal_named_once, signals_in_turn}
use Rattle.run_cases.specs.Fitting.{filled_script}
use Rattle.run_cases.specs.Lines.{accepted_entry, at}
use Rattle.run_cases.specs.Wrong.{outdated_record, outdated_script, pending_record, pending_script, renamed_record, renamed_script, roomless_record, roomy_record, roomy_script, unheard_record, unheard_script, younger_record, younger_script}
use Rattle.run_cases.proofs.Settimes.{last_is}

-- ---- what no answer names, and what no entry says

-- what holds along each list of a table holds of what is at a place of one
at_place : {X : Type 0} (P : X → Type 0) (table : List (List X)) → AllByRecursion (AllByRecursion P) table → (i k : ℕ) (x : X)
    → slice_get (get_or table i []) k ≡ Some x → P x
at_place P [] all i k x at = absurd (cc)
at_place P (xs ∷ table) all zero k x at = all_at P xs k x all.0 at
at_place P (xs ∷ table) all (suc i) k x at = at_place P table all.1 i k x at

-- an answer that names no such signal
abbrev pub NamesNot : Signal → Answer → Type 0
NamesNot x answer = IsNamedBy answer x → ⊥

pub unnamed : (r : RunRecord) (x : Signal) → AllByRecursion (AllByRecursion (NamesNot x)) r.answers → (c : Label) → Names r c x → ⊥
unnamed r x none c named = at_place (NamesNot x) r.answers none c.lane c.call named.0 named.1 named.2

-- a line whose entry is no expiry that counted
abbrev CountsNot : ObjectLine → Type 0
CountsNot line = IsCounted line.entry → ⊥

unsent : (s : Script) (r : RunRecord) → AllByRecursion (AllByRecursion CountsNot) r.objects → (c : Label) (x : Signal) → Sent s r c x → ⊥
unsent s r none c x sent = at_place CountsNot r.objects none x.timer sent.made.before sent.made.line sent.made.there sent.made.such

-- the signal of the second entry of a timer
abbrev pub signal_of : ℕ → Signal
signal_of timer = record { timer = timer; number = 2 }

-- ---- a call is told that no signal waits, and one does

-- law: it does not fit
pub unheard_doesnt_fit : Fits unheard_script unheard_record → ⊥
unheard_doesnt_fit fits =
    let sent : Sent unheard_script unheard_record (at 0 2) (signal_of 0) =
    record { queued = tt; made = record { before = 1; count = refl; line = _; there = refl; label = refl; such = tt } } in
    let named = found_empty unheard_script unheard_record fits (at 0 3) refl (signal_of 0) (at 0 2, sent, refl) in
    unnamed unheard_record (signal_of 0) ((λ e. e, (λ e. e, (λ e. e, (λ e. e, tt)))), tt) named.0 named.1

-- ---- a signal is named twice

-- law: it does not fit
pub renamed_doesnt_fit : Fits renamed_script renamed_record → ⊥
renamed_doesnt_fit fits =
    let same : at 0 3 ≡ at 0 4 =
    signal_named_once renamed_script renamed_record fits (at 0 3) (at 0 4) (signal_of 0) (_, refl, (refl, refl)) (_, refl, (refl, refl)) in
    omega (arith, ap (λ (c : Label). c.call) same)

-- ---- of two signals the one that was sent later is named first

-- law: it does not fit
pub younger_doesnt_fit : Fits younger_script younger_record → ⊥
younger_doesnt_fit fits =
    let older : Sent younger_script younger_record (at 0 3) (signal_of 0) =
    record { queued = tt; made = record { before = 1; count = refl; line = _; there = refl; label = refl; such = tt } } in
    let younger : Sent younger_script younger_record (at 0 5) (signal_of 1) =
    record { queued = tt; made = record { before = 1; count = refl; line = _; there = refl; label = refl; such = tt } } in
    let named = signals_in_turn younger_script younger_record fits (at 0 6) (at 0 5) (signal_of 0) (signal_of 1) (_, refl, (refl, refl)) younger
    (at 0 3, older, refl) in
    let last : named.0 ≡ at 0 7 =
    signal_named_once younger_script younger_record fits named.0 (at 0 7) (signal_of 0) named.1 (_, refl, (refl, refl)) in
    true≢false (subst (λ c. is_before younger_script (at 0 6) c ≡ false) last named.2)

-- ---- an expiry finds no room for its signal behind a call that was told that none waits, and none was sent between

none_waits : (xs : List Signal) → length xs ≡ most_signals
    → AllByRecursion (λ x. SentNoLater roomy_script roomy_record (at 0 3) x × (NamedBefore roomy_script roomy_record (at 0 3) x → ⊥)) xs → ⊥
none_waits [] many all = absurd (omega (arith, many))
none_waits (x ∷ xs) many all =
    unsent roomy_script roomy_record ((λ e. e, (λ e. e, tt)), tt) all.0.0.0 x all.0.0.1

-- law: it does not fit
pub roomy_doesnt_fit : Fits roomy_script roomy_record → ⊥
roomy_doesnt_fit fits =
    let full = found_full roomy_script roomy_record fits (at 0 3)
    (0, 2, record { before = 1; count = refl; line = _; there = refl; label = refl; such = tt }) in
    none_waits full.0 full.1 full.3

-- ---- a signal is told as stale beside the expiry run that sends it, and is pending from then on

-- it is pending behind its own entry
still_pending : (stamp : ℕ) → 2 ≤ stamp → is_fresh (queued_after pending_script pending_record 0 0 stamp) 2 ≡ false → ⊥
still_pending zero sent stale = absurd (omega (arith, sent))
still_pending (suc zero) sent stale = absurd (omega (arith, sent))
still_pending (suc (suc zero)) sent stale = true≢false stale
still_pending (suc (suc (suc k))) sent stale = true≢false stale

-- law: it does not fit
pub pending_doesnt_fit : Fits pending_script pending_record → ⊥
pending_doesnt_fit o = let gone = (o.3.calls 1).1.0.holds in still_pending gone.stamp gone.sent gone.stale

-- ---- a signal is told as stale that was pending as long as its timer's history had room

-- it is pending behind its own entry, and behind the next one the history has no room
pending_in_room : (stamp : ℕ) → 2 ≤ stamp → stamp < 3 → is_fresh (queued_after filled_script roomless_record 0 0 stamp) 2 ≡ false → ⊥
pending_in_room zero sent room stale = absurd (omega (arith, sent))
pending_in_room (suc zero) sent room stale = absurd (omega (arith, sent))
pending_in_room (suc (suc zero)) sent room stale = true≢false stale
pending_in_room (suc (suc (suc k))) sent room stale = absurd (omega (arith, room))

-- law: it does not fit
pub roomless_doesnt_fit : Fits filled_script roomless_record → ⊥
roomless_doesnt_fit o = let gone = (o.3.calls 1).1.0.holds in pending_in_room gone.stamp gone.sent gone.room gone.stale

-- ---- a signal is accepted whose timer was set anew since, and expired again

-- behind four entries the pending signal is the second one
not_pending : (stamp : ℕ) → stamp ≡ 4 → is_fresh (queued_after outdated_script outdated_record 0 0 stamp) 2 ≡ true → ⊥
not_pending stamp is fresh =
    false≢true (subst (λ (n : ℕ). is_fresh (queued_after outdated_script outdated_record 0 0 n) 2 ≡ true) is fresh)

-- law: it does not fit
pub outdated_doesnt_fit : Fits outdated_script outdated_record → ⊥
outdated_doesnt_fit o =
    let w = witness_with outdated_script outdated_record o.0 o.1 o.2 in
    let call = (o.3.calls 0).2.2.2.2.2.2.1.0 in
    let pop = call.does.0 in
    let m = pop.3 in
    let e = object_entries.Accept (o.2 (at 0 6)).at m.arm (acceptances.Accepted 0) in
    let its : (5, accepted_entry 2) ∷ [] ≡ made 0 m.start ++ (m.stamp + 1, e) ∷ [] =
    call.traced.objects 0 ∙ ap (made 0) (pop.2 ∙ ap (λ ds. Signalled 3 pop.0 (signal_of 0) ∷ ds) m.done)
    ∙ made-append 0 m.start (Made 0 (m.stamp + 1) e ∷ []) in
    let number : 5 ≡ m.stamp + 1 = ap (λ (x : ℕ × ObjectEntry). x.0) (last_is (5, accepted_entry 2) (m.stamp + 1, e) (made 0 m.start) its) in
    not_pending m.stamp (omega (arith, number)) (subst (λ ds. WasFresh w 0 0 2 ds) (pop.2 ∙ ap (λ ds. Signalled 3 pop.0 (signal_of 0) ∷ ds) m.done) call.holds)
