-- Notes of some calls and of others, joined: each call's own notes are among its own, and each note is still of something that passes have seen.
use Rattle.run_history.proofs.Lists.{all_at, each}
use Rattle.lane_notes.proofs.Kept.{each_both, each_none}
use Rattle.std.proofs.Common.{◌≡◌, ◌⊎◌, filter, List, [], ◌∷◌, refl, sym, ap, ◌∙◌, subst, ⊎_elim}
use Rattle.std.specs.List.{AllByRecursion}
use Rattle.std.proofs.lemmas.Bool.{cond-false, cond-true}
use Rattle.std.proofs.lemmas.List.Elements.{filter-append}
use Rattle.lane_notes.specs.Notes.{both_noted, no_notes, NotesOf}
use Rattle.record_text.specs.declared.record.Answer.{Answer}
use Rattle.record_text.specs.declared.record.Label.{Label}
use Rattle.run_history.specs.Runs.{CallLog}
use Rattle.run_history.proofs.Labels.{label_itself, refuted, same_label}
use Rattle.run_history.specs.Order.{is_label}
use Rattle.script_text.specs.declared.script.Call.{Call}
use Rattle.script_text.specs.declared.script.Script.{Script}
use Rattle.lane_notes.specs.Called.{LaneOf}
use Rattle.lane_notes.proofs.Kept.{KeepsCall, log_of, label_of, list_of, IsNoteSeen, TellLog, BaseNotes, SkipNotes, ObjectNotes, LookNotes, EntryNotes, NoteKind, WriteNotes, own_notes}
use Rattle.lane_notes.proofs.SeenMore.{SeesMore, seen_later}
use Rattle.lane_notes.specs.declared.lane.WorldPass.{WorldPass}
use Rattle.lane_notes.proofs.PartLists.{no_notes-joins, notes_same, each_weaker}
use Rattle.run_history.specs.Actions.{also}

-- notes of calls, with what was kept of each, and of something that the passes have seen; which calls, and what was kept of them, is `Of`
pub record AreOf (p : WorldPass) (notes : NotesOf) (Of : Label → CallLog → Type 0) : Type 0 where
  pub tell : (c : Label) (g : CallLog) → Of c g → TellLog g (own_notes c notes)
  pub seen : (k : NoteKind) → AllByRecursion (λ n. (g : CallLog) × Of (label_of k n) g × IsNoteSeen k p g n) (list_of k notes)

-- ---- lists of labelled items

-- none of them is of this call
filter_none : {X : Type 0} (label : X → Label) (c : Label) (xs : List X) → AllByRecursion (λ x. label x ≡ c → ⊥) xs
    → filter (λ x. is_label c (label x)) xs ≡ []
filter_none label c [] all = refl
filter_none label c (x ∷ xs) all =
    cond-false (is_label c (label x)) _ _ (refuted (is_label c (label x)) (λ same. all.0 (same_label c (label x) same)))
    ∙ filter_none label c xs all.1

-- all of them are of this call
filter_all : {X : Type 0} (label : X → Label) (c : Label) (xs : List X) → AllByRecursion (λ x. label x ≡ c) xs
    → filter (λ x. is_label c (label x)) xs ≡ xs
filter_all label c [] all = refl
filter_all label c (x ∷ xs) all =
    cond-true (is_label c (label x)) _ _ (ap (is_label c) all.0 ∙ label_itself c) ∙ ap (λ ys. x ∷ ys) (filter_all label c xs all.1)

-- ---- a call's own notes

own_notes-both : (c : Label) (a b : NotesOf) → own_notes c (both_noted a b) ≡ both_noted (own_notes c a) (own_notes c b)
own_notes-both c a b = notes_same (own_notes c (both_noted a b)) (both_noted (own_notes c a) (own_notes c b))
    (filter-append _ a.entries b.entries) (filter-append _ a.looks b.looks) (filter-append _ a.objects b.objects)
    (filter-append _ a.skips b.skips) (filter-append _ a.bases b.bases) (filter-append _ a.writes b.writes)

-- law: a call of which they are not has none of them
pub own_notes-none : {p : WorldPass} {notes : NotesOf} {Of : Label → CallLog → Type 0} (c : Label) → AreOf p notes Of → ((g : CallLog) → Of c g → ⊥)
    → own_notes c notes ≡ no_notes
own_notes-none {p} {notes} {Of} c are never = notes_same (own_notes c notes) no_notes (none EntryNotes) (none LookNotes) (none ObjectNotes) (none SkipNotes)
    (none BaseNotes) (none WriteNotes)
  where
    none : (k : NoteKind) → filter (λ n. is_label c (label_of k n)) (list_of k notes) ≡ []
    none k = filter_none (label_of k) c (list_of k notes)
        (each_weaker (list_of k notes) (λ n is same. never is.0 (subst (λ d. Of d is.0) same is.1)) (are.seen k))

-- law: when more was seen they still are
pub are_later : {p q : WorldPass} {notes : NotesOf} {Of : Label → CallLog → Type 0} → SeesMore p q → AreOf p notes Of → AreOf q notes Of
are_later {notes = notes} more are = record {
  tell = are.tell;
  seen = λ k. each_weaker (list_of k notes) (λ n is. (is.0, is.1, seen_later k is.0 n more is.2)) (are.seen k);
}

-- law: nothing is of no call
pub none_noted : {p : WorldPass} {Of : Label → CallLog → Type 0} → ((c : Label) (g : CallLog) → Of c g → ⊥) → AreOf p no_notes Of
none_noted {p} {Of} never = record {
  tell = λ c g of. absurd (never c g of);
  seen = λ k. each_none k (λ n. (g : CallLog) × Of (label_of k n) g × IsNoteSeen k p g n);
}

-- ---- some notes and others

module _ {p : WorldPass} {a b : NotesOf} {Of Also Both : Label → CallLog → Type 0} (one : AreOf p a Of) (two : AreOf p b Also)
    (apart : (c : Label) (g h : CallLog) → Of c g → Also c h → ⊥)
    (left : (c : Label) (g : CallLog) → Of c g → Both c g) (right : (c : Label) (g : CallLog) → Also c g → Both c g)
    (parts : (c : Label) (g : CallLog) → Both c g → Of c g ⊎ Also c g) where
  own_left : (c : Label) (g : CallLog) → Of c g → own_notes c a ≡ own_notes c (both_noted a b)
  own_left c g of = no_notes-joins (own_notes c a)
      ∙ sym (own_notes-both c a b ∙ ap (both_noted (own_notes c a)) (own_notes-none c two (λ h also. apart c g h of also)))

  own_right : (c : Label) (g : CallLog) → Also c g → own_notes c b ≡ own_notes c (both_noted a b)
  own_right c g also =
      sym (own_notes-both c a b ∙ ap (λ ns. both_noted ns (own_notes c b)) (own_notes-none c one (λ h of. apart c h g of also)))

  -- law: both together are of both calls
  pub joined : AreOf p (both_noted a b) Both
  joined = record {
    tell = λ c g both. ⊎_elim (λ of. subst (TellLog g) (own_left c g of) (one.tell c g of))
        (λ also. subst (TellLog g) (own_right c g also) (two.tell c g also)) (parts c g both);
    seen = λ k. each_both k _ a b (each_weaker (list_of k a) (λ n is. (is.0, left (label_of k n) is.0 is.1, is.2)) (one.seen k))
        (each_weaker (list_of k b) (λ n is. (is.0, right (label_of k n) is.0 is.1, is.2)) (two.seen k));
  }

-- ---- one call

-- this is what was kept of the call
abbrev pub IsOne : Label → CallLog → Label → CallLog → Type 0
IsOne label log c g = (c ≡ label) × (log ≡ g)

-- law: what a lane keeps of a call has the notes of this one
pub call_notes : {s : Script} {l : LaneOf} {call : Call} {a : Answer} {m : LaneOf} (kept : KeepsCall s l call a m)
    → AreOf m.pass kept.added (IsOne l.label (log_of l.pass m.pass kept.notes kept.trace kept.turned))
call_notes {l = l} {m = m} kept =
    let log = log_of l.pass m.pass kept.notes kept.trace kept.turned in record {
      tell = λ c g is. subst (λ h. TellLog h (own_notes c kept.added)) is.1 (subst (TellLog log) (own c is.0) kept.tells);
      seen = λ k. each _ (list_of k kept.added) (λ i n at. (log, (all_at _ _ i n (kept.bears k) at, refl), all_at _ _ i n (kept.seen k) at));
    }
  where
    own : (c : Label) → c ≡ l.label → kept.added ≡ own_notes c kept.added
    own c is =
        let all = λ (k : NoteKind). filter_all (label_of k) c (list_of k kept.added)
        (each_weaker (list_of k kept.added) (λ n bears. bears ∙ sym is) (kept.bears k)) in
        sym (notes_same (own_notes c kept.added) kept.added (all EntryNotes) (all LookNotes) (all ObjectNotes) (all SkipNotes) (all BaseNotes) (all WriteNotes))
