-- Of which timers, bases, counters and objects the last passes have seen entries: of those that are there.
use Rattle.run_history.specs.Receipts as receipts
use Rattle.std.proofs.Common.{◌≡◌, ℕ, ◌<◌, ◌≤◌, ◌+◌, zero, suc, Some, List, [], ◌∷◌, ◌++◌, length, take, arith, refl, sym, ap, ◌∙◌, subst}
use Rattle.std.specs.List.{slice_get}
use Rattle.std.proofs.Math.Logic.{⊎_elim}
use Rattle.std.proofs.lemmas.Bool.{and_right, cases_lt, lt-leb}
use Rattle.std.proofs.lemmas.List.{append-nil, get_or_past, length-map, take_all}
use Rattle.std.proofs.lemmas.Option.{same_Some, slice_get_within}
use Rattle.base_row.specs.Rings.{counters_in}
use Rattle.base_row.specs.declared.view.Opening.{Opening}
use Rattle.pass_names.specs.Counts.{count, one_if}
use Rattle.pass_names.specs.Passes.{Begins, is_place, within}
use Rattle.run_history.proofs.Laid.{counts_more}
use Rattle.run_history.proofs.Owners.{count-append, count_is, entries_at}
use Rattle.run_history.proofs.Shown.{entry_place}
use Rattle.run_history.specs.Witnesses.{BasesList, CountersList, Owner, TimersList, owner_of_entry}
use Rattle.script_text.specs.Declarations.{declared_as, declareds_of}
use Rattle.script_text.specs.declared.script.Script.{Script}
use Rattle.std.proofs.Common.{◌⊎◌, inl, inr}
use Rattle.seq_timer.proofs.Systems.{entries_of-append, shifts_of-append}
use Rattle.seq_timer.specs.Systems.{after_one, AreSystemSteps, entries_of, MayCome, rises_of, shifts_of, System}
use Rattle.seq_timer.specs.declared.system.SystemEntry.{SystemEntry}
use Rattle.seq_timer.specs.declared.system.SystemEntry.TheVariants as entries
use Rattle.timer_objects.specs.Known.{seen_of}
use Rattle.lane_notes.proofs.Left.{AreLastPasses}
use Rattle.lane_notes.specs.Worlds.{WorldOf}
use Rattle.lane_notes.specs.declared.lane.WorldPass.{WorldPass}
use Rattle.record_laws.proofs.Numbered.{nobody, none_long, within_from}

-- an entry of a timer or of a base is of one that is there
abbrev pub IsWithin : ℕ → ℕ → SystemEntry → Type 0
IsWithin bases many (entries.Timer e) = e.timer < many
IsWithin bases many (entries.Base c) = c.base < bases
IsWithin bases many (entries.Rise k) = Unit

within_step : (bases many : ℕ) (w : System) (x : SystemEntry) → MayCome bases many w x → IsWithin bases many x
within_step bases many w (entries.Timer e) step = step.within
within_step bases many w (entries.Base c) step = step.within
within_step bases many w (entries.Rise k) step = tt

entry_within : (bases many : ℕ) (w : System) (es : List SystemEntry) (p : ℕ) (e : SystemEntry) → AreSystemSteps bases many w es
    → slice_get es p ≡ Some e → IsWithin bases many e
entry_within bases many w [] p e steps at = absurd (cc)
entry_within bases many w (y ∷ es) zero e steps at = subst (IsWithin bases many) (same_Some y e at) (within_step bases many w y steps.0)
entry_within bases many w (y ∷ es) (suc p) e steps at = entry_within bases many (after_one w y) es p e steps.1 at

-- whether a list is there; of counters those of the clock's writes, of each object's turns, and of pushes and pops are
abbrev pub IsThere : Script → Owner → Type 0
IsThere s (TimersList t) = t < length s.timers
IsThere s (BasesList b) = b < s.bases
IsThere s (CountersList k) = k < length s.timers + 3

module _ {s : Script} {x : WorldOf} {q : WorldPass} (last : AreLastPasses s x q) where
  pub timers_many : length x.timers.about.timers ≡ length s.timers
  timers_many = ap (λ (o : Opening). length o.timers) last.world.timers ∙ length-map (declareds_of s) _ ∙ length-map s.timers declared_as

  pub bases_many : x.timers.about.bases ≡ s.bases
  bases_many = ap (λ (o : Opening). o.bases) last.world.timers

  many_counters : counters_in x.timers.about ≡ length s.timers + 3
  many_counters = omega (arith, ap (λ (o : Opening). counters_in o) last.world.timers)

  -- law: where a rise was seen its counter has risen more often than before it
  pub rose_more : (p k : ℕ) → slice_get q.timers.known.seen p ≡ Some (entries.Rise k)
      → rises_of k (take p q.timers.known.seen) < rises_of k q.timers.known.seen
  rose_more p k at =
      let seen = q.timers.known.seen in
      let more = counts_more seen p (length seen) (CountersList k) (entries.Rise k) at refl (slice_get_within seen p (entries.Rise k) at) in
      omega (arith, more, ap (rises_of k) (take_all (length seen) seen (omega arith)))

  -- a rise that was seen is that of a counter that is there
  rose_there : (p k : ℕ) → slice_get q.timers.known.seen p ≡ Some (entries.Rise k) → k < length s.timers + 3
  rose_there p k at = ⊎_elim (λ (less : k < length s.timers + 3). less)
      (λ (past : length s.timers + 3 ≤ k).
      let never = last.passes.timers.knows.counters k (subst (λ n. n ≤ k) (sym many_counters) past) in absurd (omega (arith, rose_more p k at, never)))
      (cases_lt k (length s.timers + 3))

  -- law: the list of an entry that was seen is there
  pub there_within : (p : ℕ) (e : SystemEntry) → slice_get q.timers.known.seen p ≡ Some e → IsThere s (owner_of_entry e)
  there_within p e at = here e at (subst (λ n. IsWithin n (length s.timers) e) bases_many (subst (λ n. IsWithin x.timers.about.bases n e) timers_many
      (entry_within _ _ _ q.timers.known.seen p e last.passes.timers.knows.history at)))
    where
      here : (e : SystemEntry) → slice_get q.timers.known.seen p ≡ Some e → IsWithin s.bases (length s.timers) e → IsThere s (owner_of_entry e)
      here (entries.Timer e) at in_it = in_it
      here (entries.Base c) at in_it = in_it
      here (entries.Rise k) at in_it = rose_there p k at

  pub many_objects : length q.objects.knows.opening ≡ length s.timers
  many_objects = ap length last.passes.objects.row.made ∙ length-map x.objects.decls _ ∙ ap length last.world.decls ∙ length-map s.timers _

  -- law: no entries were seen of an object that isn't there
  pub objects_past : (i : ℕ) → length s.timers ≤ i → seen_of q.objects i ≡ []
  objects_past i past = get_or_past q.objects.knows.pass.seen i [] (subst (λ n. n ≤ i) (sym (last.passes.objects.knows.wide ∙ many_objects)) past)

  -- law: nor of a timer, a base or a counter that isn't there
  pub none_past : (o : Owner) → (IsThere s o → ⊥) → receipts.count_owned o q.timers.known.seen ≡ 0
  none_past o past = count_is o q.timers.known.seen ∙ ap length (nobody (entries_at o q.timers.known.seen) (λ e st.
      let at = entry_place o st.0 e q.timers.known.seen st.1 in
      past (subst (IsThere s) at.owner (there_within at.place e at.there))))

-- ---- what was seen later

-- two numbers below which the same numbers lie are the same
same_bound : (a b : ℕ) → a ≤ b → ((n : ℕ) → one_if (within n a) ≡ one_if (within n b)) → b ≡ a
same_bound a b le same = ⊎_elim
    (λ (less : a < b).
    let none : one_if (within b a) ≡ 0 = ap one_if (and_right _ _ (lt-leb b a less)) in
    absurd (omega (arith, none, same b, within_from b b (omega (arith, less)) (omega arith))))
    (λ (more : b ≤ a). omega (arith, le, more))
    (cases_lt a b)

-- law: last passes that have only seen more have seen no more entries of timers and bases
module _ {s : Script} {x : WorldOf} {p q : WorldPass} (one : AreLastPasses s x p) (two : AreLastPasses s x q)
    (on : Begins p.timers.known.seen q.timers.known.seen) (mine : q.timers.known.mine ≡ p.timers.known.mine) where
  as_many_seen : (o : Owner) → (IsThere s o → (n : ℕ) → one_if (within n (receipts.count_owned o p.timers.known.seen))
      ≡ one_if (within n (receipts.count_owned o q.timers.known.seen))) → (IsThere s o ⊎ (IsThere s o → ⊥)) → receipts.count_owned o on.rest ≡ 0
  as_many_seen o same there =
      let a = receipts.count_owned o p.timers.known.seen in
      let b = receipts.count_owned o q.timers.known.seen in
      let whole : b ≡ a + receipts.count_owned o on.rest = ap (receipts.count_owned o) on.whole ∙ count-append o p.timers.known.seen on.rest in
      let bound : b ≡ a = ⊎_elim (λ is. same_bound a b (omega (arith, whole)) (same is)) (λ not. none_past two o not ∙ sym (none_past one o not)) there in
      omega (arith, whole, bound)

  pub same_entries : (t : ℕ) → entries_of t q.timers.known.seen ≡ entries_of t p.timers.known.seen
  same_entries t =
      let none = none_long (entries_of t on.rest) (as_many_seen (TimersList t) (λ is n.
      let there = subst (λ m. t < m) (sym (timers_many one)) is in
      sym ((one.passes.timers.knows.whole one.last.timers).once t n there) ∙ sym (ap (count (is_place t n)) mine)
      ∙ (two.passes.timers.knows.whole two.last.timers).once t n there) (⊎_elim (λ (less : t < length s.timers). inl less)
      (λ (past : length s.timers ≤ t). inr (λ less. omega (arith, less, past))) (cases_lt t (length s.timers)))) in
      ap (entries_of t) on.whole ∙ entries_of-append t p.timers.known.seen on.rest ∙ ap (λ es. entries_of t p.timers.known.seen ++ es) none
      ∙ append-nil (entries_of t p.timers.known.seen)

  pub same_shifts : (b : ℕ) → shifts_of b q.timers.known.seen ≡ shifts_of b p.timers.known.seen
  same_shifts b =
      let none = none_long (shifts_of b on.rest) (as_many_seen (BasesList b) (λ is n.
      let there = subst (λ m. b < m) (sym (bases_many one)) is in
      let place = length x.timers.about.timers + b in
      sym (one.passes.timers.knows.shifts one.last.timers b n there) ∙ sym (ap (count (is_place place n)) mine)
      ∙ two.passes.timers.knows.shifts two.last.timers b n there)
      (⊎_elim (λ (less : b < s.bases). inl less) (λ (past : s.bases ≤ b). inr (λ less. omega (arith, less, past))) (cases_lt b s.bases))) in
      ap (shifts_of b) on.whole ∙ shifts_of-append b p.timers.known.seen on.rest ∙ ap (λ es. shifts_of b p.timers.known.seen ++ es) none
      ∙ append-nil (shifts_of b p.timers.known.seen)
