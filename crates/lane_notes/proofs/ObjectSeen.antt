-- An object as a pass has seen it is the record's, in every run that goes on from there.
use Rattle.std.proofs.Common.{◌≡◌, ℕ, List, [], ◌∷◌, ◌++◌, length, map, take, refl, sym, ap, ◌∙◌, subst}
use Rattle.counted_row.specs.Meaning.{Leads}
use Rattle.counted_row.specs.Views.{StateAfter}
use Rattle.posix_timer.specs.States.{posix_opening}
use Rattle.posix_timer.specs.Queued.{queued_opening}
use Rattle.timer_fd.specs.States.{fd_opening}
use Rattle.sleeper.specs.States.{sleeper_opening}
use Rattle.timer_setting.specs.StepTables.{after_calls, AnsweredCall, AreCalls, StepTable}
use Rattle.timer_objects.specs.Meaning.{object_meaning, opened_objects}
use Rattle.timer_objects.specs.Steps.{opened_object}
use Rattle.timer_objects.proofs.Counting.{opened_at}
use Rattle.timer_objects.proofs.KindOfObject.{KindOfObject, fd_objects, posix_objects, queued_objects, raw_leads, sleeper_objects}
use Rattle.timer_objects.specs.declared.object.Object.TheVariants as objects
use Rattle.timer_setting.specs.declared.object_call.ObjectCall.{ObjectCall}
use Rattle.timer_setting.specs.declared.object_call.ObjectReply.{ObjectReply}
use Rattle.record_text.specs.declared.record.ClockLine.{ClockLine}
use Rattle.record_text.specs.declared.record.ObjectLine.{ObjectLine}
use Rattle.run_history.specs.ObjectEntries.{object_entry_shown}
use Rattle.script_text.specs.Declarations.{clock_of, kind_of}
use Rattle.run_history.specs.Objects.{fd_after, lines_of_object, posix_after, queued_after, sleeper_after}
use Rattle.script_text.specs.declared.script.Kind.TheVariants as kinds
use Rattle.script_text.specs.declared.script.Script.{Script}
use Rattle.run_history.specs.Runs.{Ending}
use Rattle.lane_notes.specs.Runs.{AreObjectLines, ObjectMove}
use Rattle.lane_notes.proofs.Kept.{FollowsObject}
use Rattle.script_text.specs.declared.script.Kind.{Kind}
use Rattle.timer_objects.specs.declared.object.Object.{Object}
use Rattle.lane_notes.specs.Worlds.{decl_as, IsWorldOf, WorldOf}
use Rattle.lane_notes.proofs.Declared.{declared_in, no_decl}
use Rattle.record_text.specs.declared.record.RunRecord.{RunRecord}

take_none : {A : Type 0} (xs : List A) → take 0 xs ≡ []
take_none [] = refl
take_none (x ∷ xs) = refl

-- ---- by its kind

module _ {S : Type 0} (k : KindOfObject S) (clock : List ClockLine) where
  abbrev table : StepTable S ObjectCall ObjectReply
  table = k.kind.table

  -- the calls that lines show, with their answers
  abbrev pub calls_in : List ObjectLine → List (AnsweredCall ObjectCall ObjectReply)
  calls_in lines = map (object_entry_shown clock) (map (λ line. line.entry) lines)

  -- law: an object after calls that the first of these lines show is that after the calls that these lines tell
  pub leads_to : (t : S) (log rest : List ObjectMove) (lines : List ObjectLine) (now : Object) → Leads object_meaning (k.object t) log now
      → AreObjectLines clock (log ++ rest) lines → now ≡ k.object (after_calls table t (take (length log) (calls_in lines)))
  leads_to t [] rest lines now leads are = leads ∙ ap (λ xs. k.object (after_calls table t xs)) (sym (take_none (calls_in lines)))
  leads_to t (e ∷ es) rest [] now leads are = absurd are
  leads_to t (e ∷ es) rest (line ∷ lines) now leads are =
      let same = k.law.told t e.call (k.allows t e.call leads.0) in
      leads_to (table.next t e.call) es rest lines now (subst (λ o. Leads object_meaning o es now) (k.step t e.call) leads.2) are.1
      ∙ ap (λ u. k.object (after_calls table u (take (length es) (calls_in lines))))
      (sym same.next ∙ ap (λ (a : AnsweredCall ObjectCall ObjectReply). table.next t a.call) (sym are.0))

  -- law: lines that show all calls of an object are a legal history of it
  pub legal : (t : S) (to : Object) (hs : List ObjectMove) (lines : List ObjectLine) → Leads object_meaning (k.object t) hs to → AreObjectLines clock hs lines
      → AreCalls table t (calls_in lines)
  legal t to [] [] leads are = tt
  legal t to [] (line ∷ lines) leads are = absurd are
  legal t to (h ∷ hs) [] leads are = absurd are
  legal t to (h ∷ hs) (line ∷ lines) leads are =
      let same = k.law.told t h.call (k.allows t h.call leads.0) in
      let rest = legal (table.next t h.call) to hs lines (subst (λ o. Leads object_meaning o hs to) (k.step t h.call) leads.2) are.1 in
      subst (λ (a : AnsweredCall ObjectCall ObjectReply). table.allows t a.call × (a.reply ≡ table.answer t a.call) × AreCalls table (table.next t a.call) (calls_in lines))
      (sym are.0) (
        same.allows,
        leads.1 ∙ (k.answer t h.call ∙ sym same.answer),
        subst (λ u. AreCalls table u (calls_in lines)) (sym same.next) rest,
      )

-- ---- as a script declares them

-- an object of this kind after its first so many entries
abbrev pub object_after : Script → RunRecord → ℕ → ℕ → Kind → Object
object_after s r i n (kinds.Raw context callback) = objects.Raw
object_after s r i n (kinds.Posix base) = objects.Posix (posix_after s r i base n)
object_after s r i n (kinds.Fd base) = objects.Fd (fd_after s r i base n)
object_after s r i n (kinds.Queued base) = objects.Queued (queued_after s r i base n)
object_after s r i n (kinds.Sleeper base) = objects.Sleeper (sleeper_after s r i base n)

module _ (s : Script) (x : WorldOf) (world : IsWorldOf s x) (i : ℕ) (seen : List ObjectMove) (now : Object)
    (after : StateAfter object_meaning (opened_objects x.objects.decls x.objects.limit) i seen now) where
  -- law: an object leads from where its declaration opens it
  pub leads_from : (k : Kind) → kind_of s i ≡ k → Leads object_meaning (opened_object s.limit (decl_as k (clock_of s i))) seen now
  leads_from k is =
      subst (λ c. Leads object_meaning c seen now) (opened_at x.objects.limit x.objects.decls i after.from no_decl after.at
      ∙ ap (opened_object x.objects.limit) (declared_in s x i world ∙ ap (λ k. decl_as k (clock_of s i)) is)
      ∙ ap (λ n. opened_object n (decl_as k (clock_of s i))) world.limit) after.leads

  module _ (e : Ending) (follows : FollowsObject e i seen) where
    shown : AreObjectLines e.run.clock (seen ++ follows.goes_on.rest) (lines_of_object e.run i)
    shown = subst (λ hs. AreObjectLines e.run.clock hs (lines_of_object e.run i)) follows.goes_on.whole follows.lines

    -- law: an object after what was seen of it is the record's after so many entries
    pub object_seen : now ≡ object_after s e.run i (length seen) (kind_of s i)
    object_seen = by_kind (kind_of s i) refl
      where
        by_kind : (k : Kind) → kind_of s i ≡ k → now ≡ object_after s e.run i (length seen) k
        by_kind (kinds.Raw context callback) is = raw_leads seen now (leads_from (kinds.Raw context callback) is)
        by_kind (kinds.Posix base) is =
            leads_to posix_objects e.run.clock (posix_opening (clock_of s i) base s.limit) seen follows.goes_on.rest
            (lines_of_object e.run i) now (leads_from (kinds.Posix base) is) shown
        by_kind (kinds.Fd base) is =
            leads_to fd_objects e.run.clock (fd_opening (clock_of s i) base s.limit) seen follows.goes_on.rest (lines_of_object e.run i)
            now (leads_from (kinds.Fd base) is) shown
        by_kind (kinds.Queued base) is =
            leads_to queued_objects e.run.clock (queued_opening (clock_of s i) base s.limit) seen follows.goes_on.rest
            (lines_of_object e.run i) now (leads_from (kinds.Queued base) is) shown
        by_kind (kinds.Sleeper base) is =
            leads_to sleeper_objects e.run.clock (sleeper_opening (clock_of s i) base s.limit) seen follows.goes_on.rest
            (lines_of_object e.run i) now (leads_from (kinds.Sleeper base) is) shown
