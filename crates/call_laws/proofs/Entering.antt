-- Entries that a call makes of a timer, as receipts: where they stand in what its pass has seen, and the record's entries that show them.
use Rattle.hr_timers.proofs.Moments.{stamp_then}
use Rattle.run_history.proofs.Lists.{all_at, each}
use Rattle.run_history.specs.Objects.{present}
use Rattle.lane_notes.proofs.Receipts.{present-append}
use Rattle.base_row.specs.Plays.{RisesFrom}
use Rattle.ordered_clock.specs.Moments.{RisesAt}
use Rattle.pass_names.specs.SharedHistory.{LooksOn}
use Rattle.seq_timer.specs.Systems.{rises_of}
use Rattle.seq_timer.specs.declared.system.SystemEntry.TheVariants as entries
use Rattle.run_history.proofs.Known.{behind_all}
use Rattle.std.proofs.Common.{◌<◌, ◌≤◌}
use Rattle.std.proofs.Common.{◌≡◌, ℕ, ◌+◌, Option, None, Some, List, [], ◌∷◌, ◌++◌, length, map, arith, refl, sym, ap, ◌∙◌, subst}
use Rattle.std.specs.List.{AllByRecursion}
use Rattle.std.proofs.lemmas.List.{append_assoc, append-nil, length-map, map-append}
use Rattle.hr_timers.specs.Moves.{ShiftsBase}
use Rattle.run_history.proofs.Known.{shift_made, shows_made_on}
use Rattle.script_text.specs.Declarations.{declareds_of, terms_of}
use Rattle.script_text.specs.declared.script.Script.{Script}
use Rattle.seq_timer.specs.Systems.{shifts_of}
use Rattle.seq_timer.specs.declared.standing.BaseEvent.{BaseEvent}
use Rattle.std.proofs.lemmas.Simd.{map-map}
use Rattle.seq_timer.specs.declared.context.Terms.{Terms}
use Rattle.seq_timer.specs.declared.context.Declared.{Declared}
use Rattle.pass_names.specs.Passes.{Begins, places}
use Rattle.seq_timer.specs.Histories as seq
use Rattle.seq_timer.specs.declared.system.SystemEntry.{SystemEntry}
use Rattle.seq_timer.specs.Systems.{entries_of, openings}
use Rattle.seq_timer.specs.Tables.{timer_at}
use Rattle.seq_timer.proofs.Agreement.{first_stamp}
use Rattle.base_row.specs.declared.view.Opening.{Opening}
use Rattle.hr_timers.specs.Known.{KnownOfTimers, MadeAt, timer_then}
use Rattle.record_text.specs.declared.record.ClockLine.{ClockLine}
use Rattle.record_text.specs.declared.record.RunRecord.{RunRecord}
use Rattle.run_history.proofs.Stamped.{all_stamped_shown, entry_stamped, HasReading, HaveReadings}
use Rattle.run_history.specs.Receipts.{count_owned, PlacedEntry, receipt, ShowsEntry}
use Rattle.run_history.proofs.Known.{adds_made, AreEntries, AreMade, made-append, made_goes_on, made_wider, none_made, numbered, shows_made}
use Rattle.run_history.proofs.Known.{one_note, rise_made}
use Rattle.script_text.proofs.Lists.{All-append}
use Rattle.run_history.proofs.Owners.{timers_entry}
use Rattle.run_history.specs.Witnesses.{OfBase, OfRise, OfTimer, Shown, TimersList}
use Rattle.pass_names.proofs.Passes.{begins_trans, begins_length}

-- ---- receipts between two moments of a pass

-- the place of an entry among a pass's own, by its receipt: a base's stand behind those of the timers, and a rise of a counter is no pass's own
abbrev pub place_told : Script → ℕ × Shown → Option (ℕ × ℕ)
place_told s (number, OfTimer t entry) = Some (t, number)
place_told s (number, OfBase b event) = Some (length s.timers + b, number)
place_told s (number, OfRise k) = None

abbrev pub own_places : Script → List PlacedEntry → List (ℕ × ℕ)
own_places s notes = present (map (λ x. place_told s (receipt x)) notes)

-- Between two moments a pass made the entries of these receipts, and no others, and seen has gone on. A record shows them whose clock is so.
pub record EntersNotes (s : Script) (IsSo : List ClockLine → Type 0) (v w : KnownOfTimers) (notes : List PlacedEntry) : Type 0 where
  pub seen : Begins v.seen w.seen
  pub made : AreMade w.seen (length v.seen) (length w.seen) notes
  pub mine : w.mine ≡ v.mine ++ own_places s notes
  pub shows : (r : RunRecord) (order later : List SystemEntry) → order ≡ w.seen ++ later → IsSo r.clock → AllByRecursion (ShowsEntry r order) notes

-- law: receipts of two parts of a call are those of both
pub enters-append : {s : Script} {IsSo : List ClockLine → Type 0} {u v w : KnownOfTimers} {xs ys : List PlacedEntry} → EntersNotes s IsSo u v xs
    → EntersNotes s IsSo v w ys → EntersNotes s IsSo u w (xs ++ ys)
enters-append {s = s} {u = u} {v = v} {w = w} {xs = xs} {ys = ys} one two = record {
  seen = begins_trans one.seen two.seen;
  made = made-append w.seen (length u.seen) (length v.seen) (length w.seen) xs ys
      (made_goes_on w.seen v.seen two.seen.rest (length u.seen) (length v.seen) xs two.seen.whole one.made) two.made
      (begins_length one.seen) (begins_length two.seen);
  mine = two.mine ∙ rw (one.mine, map-append (λ x. place_told s (receipt x)), present-append, append_assoc) refl;
  shows = λ r order later is so. All-append (ShowsEntry r order) xs ys
      (one.shows r order (two.seen.rest ++ later) (is ∙ rw (two.seen.whole, append_assoc) refl) so) (two.shows r order later is so);
}

-- a pass that only looked
pub enters_none : {s : Script} {IsSo : List ClockLine → Type 0} {v w : KnownOfTimers} → Begins v.seen w.seen → w.mine ≡ v.mine → EntersNotes s IsSo v w []
enters_none {v = v} {w = w} seen mine = record {
  seen = seen;
  made = none_made w.seen (length v.seen) (length w.seen);
  mine = mine ∙ sym (append-nil v.mine);
  shows = λ r order later is so. tt;
}

made_places : (s : Script) (t k : ℕ) (es : List seq.Entry) → places t k es ≡ present (map (place_told s) (numbered t k (map entry_stamped es)))
made_places s t k [] = refl
made_places s t k (e ∷ es) = ap (λ ps. (t, k + 1) ∷ ps) (made_places s t (k + 1) es)

-- a timer's stamp is the number of its entries
pub stamp_counts : (o : Opening) (clocks : List Declared) (terms : Terms) (x : List SystemEntry) (t : ℕ) → o.timers ≡ openings clocks terms
    → (timer_then o x t).stamp ≡ count_owned (TimersList t) x
stamp_counts o clocks terms x t is = omega (arith, stamp_then o x t, ap (λ ts. (timer_at ts t).stamp) is ∙ first_stamp clocks terms t)

-- law: the entries that a call made of a timer at a moment are receipts that stand in what its pass has seen, behind what it had seen before
pub enters_at : (s : Script) (IsSo : List ClockLine → Type 0) (o : Opening) {v w : KnownOfTimers} {t : ℕ} {x : List SystemEntry} {es : List seq.Entry}
    → o.timers ≡ openings (declareds_of s) (terms_of s) → MadeAt v w t x es → ((clock : List ClockLine) → IsSo clock → HaveReadings clock es)
    → (notes : List PlacedEntry) × EntersNotes s IsSo v w notes × (map receipt notes ≡ numbered t (timer_then o x t).stamp (map entry_stamped es))
enters_at s IsSo o {v = v} {w = w} {t = t} {x = x} {es = es} is made reads =
    let stamp : count_owned (TimersList t) x ≡ (timer_then o x t).stamp = sym (stamp_counts o (declareds_of s) (terms_of s) x t is) in
    let shown = map entry_stamped es in
    let adds = adds_made x made.seen.rest t es shown (ap (entries_of t) (sym made.seen.whole) ∙ made.own) (length-map es entry_stamped) in
    let there : AreMade w.seen (length x) (length w.seen) adds.0 =
    subst (λ xs. AreMade xs (length x) (length xs) adds.0) (sym made.seen.whole) adds.1 in
    let are : map receipt adds.0 ≡ numbered t (timer_then o x t).stamp shown = adds.2 ∙ ap (λ n. numbered t n shown) stamp in (
      adds.0,
      record {
        seen = begins_trans made.from made.seen;
        made = made_wider w.seen (length v.seen) (length x) (length w.seen) (length w.seen) adds.0 (begins_length made.from) (omega arith) there;
        mine = made.mine ∙ ap (λ ps. v.mine ++ ps) (made_places s t (count_owned (TimersList t) x) es
            ∙ ap present (ap (map (place_told s)) (sym adds.2) ∙ map-map (place_told s) receipt adds.0));
        shows = λ r order later whole so. shows_made r order w.seen later t (timer_then o x t).stamp adds.0 es shown whole
            (subst (λ xs. AreEntries xs adds.0 (map (timers_entry t) es)) (sym made.seen.whole) adds.3) are (all_stamped_shown r.clock es (reads r.clock so));
      },
      are,
    )

-- law: receipts between two lengths of what was seen stand between them
pub made_inside : {order : List SystemEntry} {low high : ℕ} {notes : List PlacedEntry} → AreMade order low high notes
    → AllByRecursion (λ x. (low ≤ x.place) × (x.place < high)) notes
made_inside {low = low} {notes = notes} made =
    each _ notes (λ j x at. (all_at _ notes j x (behind_all low low notes (omega arith) made.rise) at, all_at _ notes j x made.below at))

-- a pass made one entry, with this receipt
abbrev pub EntersOne : Script → (List ClockLine → Type 0) → KnownOfTimers → KnownOfTimers → ℕ × Shown → Type 0
EntersOne s IsSo v w r = (n : PlacedEntry) × EntersNotes s IsSo v w (n ∷ []) × (receipt n ≡ r)

-- law: one entry of a timer is one receipt
pub enters_once : (s : Script) (IsSo : List ClockLine → Type 0) (o : Opening) {v w : KnownOfTimers} {t : ℕ} {x : List SystemEntry} {e : seq.Entry} {number : ℕ}
    → o.timers ≡ openings (declareds_of s) (terms_of s) → MadeAt v w t x (e ∷ []) → ((clock : List ClockLine) → IsSo clock → HasReading clock e.event)
    → number ≡ (timer_then o x t).stamp + 1 → EntersOne s IsSo v w (number, OfTimer t (entry_stamped e))
enters_once s IsSo o {t = t} {e = e} {number = number} is made reads counted =
    let at = enters_at s IsSo o is made (λ clock so. (reads clock so, tt)) in
    let one = one_note at.0 (number, OfTimer t (entry_stamped e)) (rw counted at.2) in (one.0, rw one.1 at at.1, one.2)

-- law: so is an entry of a base
pub enters_shift : {s : Script} {IsSo : List ClockLine → Type 0} {o : Opening} {v w : KnownOfTimers} {base number : ℕ} {event : BaseEvent}
    → length o.timers ≡ length s.timers → ShiftsBase o v w base event → number ≡ length (shifts_of base v.seen) + 1
    → EntersOne s IsSo v w (number, OfBase base event)
enters_shift {s = s} {v = v} {w = w} {base = base} {number = number} {event = event} many shift counted =
    let its = shift_made v.seen shift.seen.rest base event (ap (shifts_of base) (sym shift.seen.whole) ∙ shift.own) in
    let one = one_note its.0 (number, OfBase base event) (its.2 ∙ ap (λ n. (n, OfBase base event) ∷ []) (sym counted)) in (
      one.0,
      record {
        seen = shift.seen;
        made = subst (λ ns. AreMade w.seen (length v.seen) (length w.seen) ns) one.1
            (subst (λ xs. AreMade xs (length v.seen) (length xs) its.0) (sym shift.seen.whole) its.1);
        mine = shift.mine ∙ ap (λ n. v.mine ++ (n + base, length (shifts_of base v.seen) + 1) ∷ []) many
            ∙ ap (λ n. v.mine ++ (length s.timers + base, n) ∷ []) (sym counted) ∙ ap (λ r. v.mine ++ present (place_told s r ∷ [])) (sym one.2);
        shows = λ r order later whole so. subst (AllByRecursion (ShowsEntry r order)) one.1
            (shows_made_on r order (v.seen ++ shift.seen.rest) later (length (shifts_of base v.seen)) its.0 _ (OfBase base event ∷ [])
            (whole ∙ ap (λ xs. xs ++ later) shift.seen.whole) its.3 its.2 refl);
      },
      one.2,
    )

-- law: so is a rise of a counter, by the exchange that raised it
pub enters_rise : {s : Script} {IsSo : List ClockLine → Type 0} {v w : KnownOfTimers} (k n : ℕ) → LooksOn v w → RisesFrom k n v.seen w.seen
    → EntersOne s IsSo v w (n + 1, OfRise k)
enters_rise {s = s} {v = v} {w = w} k n looks rises =
    let one = rise_made k n (length v.seen) rises.before w.seen rises.last rises.count (begins_length rises.seen) in (
      one.0,
      record {
        seen = looks.seen;
        made = one.1;
        mine = looks.mine ∙ sym (append-nil v.mine) ∙ ap (λ r. v.mine ++ present (place_told s r ∷ [])) (sym one.2);
        shows = λ r order later whole so. shows_made_on r order w.seen later n (one.0 ∷ []) _ (OfRise k ∷ []) whole one.3 (ap (λ y. y ∷ []) one.2) refl;
      },
      one.2,
    )

-- law: so is one whose place alone is known
pub enters_risen : {s : Script} {IsSo : List ClockLine → Type 0} {v w : KnownOfTimers} (k number : ℕ) → LooksOn v w → RisesAt k v.seen w.seen number
    → EntersOne s IsSo v w (number, OfRise k)
enters_risen {s = s} {v = v} {w = w} k number looks at =
    let n = rises_of k at.before in
    let seen = at.before ++ entries.Rise k ∷ [] in
    let one = rise_made k n (length v.seen) at.before seen refl refl (begins_length at.from) in (
      one.0,
      record {
        seen = looks.seen;
        made = made_wider w.seen (length v.seen) (length v.seen) (length seen) (length w.seen) (one.0 ∷ []) (omega arith) (begins_length at.seen)
            (made_goes_on w.seen seen at.seen.rest (length v.seen) (length seen) (one.0 ∷ []) at.seen.whole one.1);
        mine = looks.mine ∙ sym (append-nil v.mine) ∙ ap (λ r. v.mine ++ present (place_told s r ∷ [])) (sym one.2);
        shows = λ r order later whole so. shows_made_on r order seen (at.seen.rest ++ later) n (one.0 ∷ []) _ (OfRise k ∷ [])
            (whole ∙ ap (λ xs. xs ++ later) at.seen.whole ∙ append_assoc seen at.seen.rest later) one.3 (ap (λ y. y ∷ []) one.2) refl;
      },
      one.2 ∙ ap (λ m. (m, OfRise k)) at.count,
    )

-- law: a call that made no entry of its timer saw more, and made none
pub looks_made : {v w : KnownOfTimers} {t : ℕ} {at : List SystemEntry} → MadeAt v w t at [] → Begins v.seen w.seen × (w.mine ≡ v.mine)
looks_made {v = v} made = (begins_trans made.from made.seen, made.mine ∙ append-nil v.mine)
