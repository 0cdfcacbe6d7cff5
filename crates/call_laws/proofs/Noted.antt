-- What a call noted, as its actions say it.
use Rattle.std.proofs.Common.{◌≡◌, ℕ, suc, ◌+◌, ◌-◌, nat_eq, List, [], ◌∷◌, ◌++◌, map, arith, refl, sym, ap, ◌∙◌, subst}
use Rattle.std.specs.List.{AllByRecursion}
use Rattle.std.specs.List.Sorted.{IsPermutation}
use Rattle.std.proofs.lemmas.List.{append_assoc, append-nil, map-append}
use Rattle.std.proofs.lemmas.List.Sorted.{IsPermutation-append, IsPermutation-cons, IsPermutation-map, IsPermutation-middle, IsPermutation-refl, IsPermutation-sym, IsPermutation-trans}
use Rattle.seq_timer.specs.Histories as seq
use Rattle.base_row.specs.Logs.{receipts_of}
use Rattle.base_row.specs.declared.log.Receipt.{Receipt}
use Rattle.timer_objects.specs.declared.log.ObjectReceipt.{ObjectReceipt}
use Rattle.record_text.specs.declared.record.Label.{Label}
use Rattle.record_text.specs.declared.record.ObjectEntry.{ObjectEntry}
use Rattle.lane_notes.specs.declared.notes.ObjectNote.{ObjectNote}
use Rattle.run_history.specs.Actions.{Action, Began, Entered, Looked, Made, Shifted, Signalled, Skipped, Wrote, also, looked, made, skipped, wrote}
use Rattle.run_history.specs.Traces.{all_entered}
use Rattle.run_history.proofs.Known.{numbered}
use Rattle.run_history.proofs.Stamped.{entry_stamped}
use Rattle.lane_notes.specs.Entries.{entry_note, entry_notes, look_note, look_notes}
use Rattle.lane_notes.specs.Notes.{NotesOf, both_noted, no_notes}
use Rattle.lane_notes.specs.Objects.{object_note, object_notes, skip_note, skip_notes}
use Rattle.lane_notes.proofs.Standing.{All-permuted}
use Rattle.lane_notes.specs.Called.{with_done, with_shift}
use Rattle.seq_timer.specs.declared.standing.BaseEvent.{BaseEvent}
use Rattle.run_history.specs.Witnesses.{OfBase, OfRise, OfTimer, Shown}
use Rattle.lane_notes.proofs.Kept.{BaseNotes, EntryNotes, LookNotes, NoteKind, NoteOf, ObjectNotes, SkipNotes, WriteNotes, each_both, each_none, entries_told, label_of, list_of, looks_on, made_on, of_base, of_entry, of_object, of_turn, of_write, signals_of, signals_told, skips_on, told_in, turn_notes}
use Rattle.call_laws.proofs.Signals.{signals_of-append}
use Rattle.lane_notes.proofs.PartLists.{both_noted-assoc, notes-append, notes_same, same_order, turns_by_kind}
use Rattle.std.proofs.lemmas.Simd.{map-map}

-- ---- of actions

-- the note of one action; that of a write is made of the clock's reading too
abbrev pub one_noted : Label → Action → NotesOf
one_noted label (Entered timer number entry) =
    record no_notes { entries = record { label = label; timer = timer; number = number; entry = entry } ∷ [] }
one_noted label (Looked timer number reply) = record no_notes { looks = record { label = label; timer = timer; number = number; reply = reply } ∷ [] }
one_noted label (Made i number entry) = record no_notes { objects = record { label = label; object = i; number = number; entry = entry } ∷ [] }
one_noted label (Skipped i number generation) =
    record no_notes { skips = record { label = label; object = i; number = number; generation = generation } ∷ [] }
one_noted label (Shifted base number event) = record no_notes { bases = record { label = label; base = base; number = number; event = event } ∷ [] }
one_noted label (Began i stamp) = no_notes
one_noted label (Wrote number write) = no_notes
one_noted label (Signalled counter number signal) = no_notes

-- the notes of what a call did, in its order
abbrev pub noted_by : Label → List Action → NotesOf
noted_by label [] = no_notes
noted_by label (d ∷ ds) = both_noted (one_noted label d) (noted_by label ds)

-- law: of two parts
pub noted_by-append : (label : Label) (ds es : List Action) → noted_by label (ds ++ es) ≡ both_noted (noted_by label ds) (noted_by label es)
noted_by-append label [] es = refl
noted_by-append label (d ∷ ds) es =
    ap (both_noted (one_noted label d)) (noted_by-append label ds es) ∙ sym (both_noted-assoc (one_noted label d) (noted_by label ds) (noted_by label es))

-- law: they bear the call's label
pub noted_bears : (k : NoteKind) (label : Label) (ds : List Action) → AllByRecursion (λ n. label_of k n ≡ label) (list_of k (noted_by label ds))
noted_bears k label [] = each_none k (λ n. label_of k n ≡ label)
noted_bears k label (d ∷ ds) = each_both k _ (one_noted label d) (noted_by label ds) (one k d) (noted_bears k label ds)
  where
    one : (k : NoteKind) (d : Action) → AllByRecursion (λ n. label_of k n ≡ label) (list_of k (one_noted label d))
    one EntryNotes (Entered timer number entry) = (refl, tt)
    one LookNotes (Looked timer number reply) = (refl, tt)
    one ObjectNotes (Made i number entry) = (refl, tt)
    one SkipNotes (Skipped i number generation) = (refl, tt)
    one BaseNotes (Shifted base number event) = (refl, tt)
    one WriteNotes (Wrote number write) = tt
    one k d = tt

-- law: the looks at a timer, the entries of an object and the expiries that it refused
pub noted_looks : (t : ℕ) (label : Label) (ds : List Action) → looks_on t (noted_by label ds).looks ≡ looked t ds
noted_looks t label [] = refl
noted_looks t label (Looked timer number reply ∷ ds) = ap (also (nat_eq timer t) (number, reply)) (noted_looks t label ds)
noted_looks t label (d ∷ ds) = noted_looks t label ds

pub noted_made : (i : ℕ) (label : Label) (ds : List Action) → made_on i (noted_by label ds).objects ≡ made i ds
noted_made i label [] = refl
noted_made i label (Made j number entry ∷ ds) = ap (also (nat_eq j i) (number, entry)) (noted_made i label ds)
noted_made i label (d ∷ ds) = noted_made i label ds

pub noted_skips : (i : ℕ) (label : Label) (ds : List Action) → skips_on i (noted_by label ds).skips ≡ skipped i ds
noted_skips i label [] = refl
noted_skips i label (Skipped j number generation ∷ ds) = ap (also (nat_eq j i) (number, generation)) (noted_skips i label ds)
noted_skips i label (d ∷ ds) = noted_skips i label ds

-- law: no write's
pub noted_writes : (label : Label) (ds : List Action) → (noted_by label ds).writes ≡ []
noted_writes label [] = refl
noted_writes label (Wrote number write ∷ ds) = noted_writes label ds
noted_writes label (d ∷ ds) = noted_writes label ds

-- ---- turns of objects

-- the turns that a call began, and those in which it made its entry: the object, and the entry's number
abbrev pub turns_begun : List Action → List (ℕ × ℕ)
turns_begun [] = []
turns_begun (Began i stamp ∷ ds) = (i, stamp + 1) ∷ turns_begun ds
turns_begun (d ∷ ds) = turns_begun ds

abbrev pub turns_made : List Action → List (ℕ × ℕ)
turns_made [] = []
turns_made (Made i number entry ∷ ds) = (i, number) ∷ turns_made ds
turns_made (d ∷ ds) = turns_made ds

-- each turn that began has its entry
abbrev pub HasWholeTurns : List Action → Type 0
HasWholeTurns ds = turns_begun ds ≡ turns_made ds

turns_begun-append : (ds es : List Action) → turns_begun (ds ++ es) ≡ turns_begun ds ++ turns_begun es
turns_begun-append [] es = refl
turns_begun-append (Began i stamp ∷ ds) es = ap (λ ts. (i, stamp + 1) ∷ ts) (turns_begun-append ds es)
turns_begun-append (d ∷ ds) es = turns_begun-append ds es

turns_made-append : (ds es : List Action) → turns_made (ds ++ es) ≡ turns_made ds ++ turns_made es
turns_made-append [] es = refl
turns_made-append (Made i number entry ∷ ds) es = ap (λ ts. (i, number) ∷ ts) (turns_made-append ds es)
turns_made-append (d ∷ ds) es = turns_made-append ds es

-- law: of two parts
pub whole_turns-append : (ds es : List Action) → HasWholeTurns ds → HasWholeTurns es → HasWholeTurns (ds ++ es)
whole_turns-append ds es one two = turns_begun-append ds es ∙ (λ i. one i ++ two i) ∙ sym (turns_made-append ds es)

-- no turn of an object, and no signal
abbrev pub HasNoTurns : List Action → Type 0
HasNoTurns ds = (turns_begun ds ≡ []) × (turns_made ds ≡ []) × (signals_of ds ≡ [])

-- law: a turn in which the call did what is no turn
pub whole_turn : (i stamp : ℕ) (entry : ObjectEntry) (ds : List Action) → HasNoTurns ds → HasWholeTurns (Began i stamp ∷ ds ++ Made i (stamp + 1) entry ∷ [])
whole_turn i stamp entry ds none =
    ap (λ ts. (i, stamp + 1) ∷ ts) (turns_begun-append ds _ ∙ ap (λ ts. ts ++ []) none.0)
    ∙ sym (turns_made-append ds _ ∙ ap (λ ts. ts ++ (i, stamp + 1) ∷ []) none.1)

-- law: it pushes and pops nothing
pub no_signals : (i stamp : ℕ) (entry : ObjectEntry) (ds : List Action) → HasNoTurns ds → signals_of (Began i stamp ∷ ds ++ Made i (stamp + 1) entry ∷ []) ≡ []
no_signals i stamp entry ds none = signals_of-append ds (Made i (stamp + 1) entry ∷ []) ∙ ap (λ xs. xs ++ []) none.2

-- the moves of turns
abbrev begin_told : ℕ × ℕ → ℕ × Shown
begin_told t = (t.1 + t.1 - 1, OfRise (suc t.0))

abbrev end_told : ℕ × ℕ → ℕ × Shown
end_told t = (t.1 + t.1, OfRise (suc t.0))

-- what comes in front of two parts stands between them in another order
in_middle : {X : Type 0} (this : X) (all xs ys whole : List X) → IsPermutation all (xs ++ ys) → whole ≡ xs ++ this ∷ ys → IsPermutation (this ∷ all) whole
in_middle this all xs ys whole same is =
    IsPermutation-trans (this ∷ all) (this ∷ (xs ++ ys)) whole (IsPermutation-cons this all (xs ++ ys) same)
    (subst (IsPermutation (this ∷ (xs ++ ys))) (sym is) (IsPermutation-sym (xs ++ this ∷ ys) (this ∷ (xs ++ ys)) (IsPermutation-middle xs this ys)))

-- what was done, by kinds: entries of timers and of bases, beginnings of turns and their ends, pushes and pops
kinds_noted : (label : Label) (ds : List Action) → wrote ds ≡ [] → let ns = noted_by label ds in
    IsPermutation (all_entered ds)
    (map told_in (map of_entry ns.entries) ++ (map told_in (map of_base ns.bases) ++ (map begin_told (turns_begun ds) ++ (map end_told (turns_made ds) ++ signals_told ds))))
kinds_noted label [] none = IsPermutation-refl []
kinds_noted label (Entered timer number entry ∷ ds) none = IsPermutation-cons _ _ _ (kinds_noted label ds none)
kinds_noted label (Wrote number write ∷ ds) none = absurd (cc)
kinds_noted label (Looked timer number reply ∷ ds) none = kinds_noted label ds none
kinds_noted label (Skipped i number generation ∷ ds) none = kinds_noted label ds none
kinds_noted label (Shifted base number event ∷ ds) none =
    in_middle (number, OfBase base event) (all_entered ds) (map told_in (map of_entry (noted_by label ds).entries)) _ _ (kinds_noted label ds none) refl
kinds_noted label (Began i stamp ∷ ds) none =
    let ns = noted_by label ds in
    let es = map told_in (map of_entry ns.entries) in
    let bs = map told_in (map of_base ns.bases) in
    let rest = map begin_told (turns_begun ds) ++ (map end_told (turns_made ds) ++ signals_told ds) in
    let this : begin_told (i, stamp + 1) ≡ (stamp + stamp + 1, OfRise (suc i)) = ap (λ n. (n, OfRise (suc i))) (omega arith) in
    in_middle (stamp + stamp + 1, OfRise (suc i)) (all_entered ds) (es ++ bs) rest _
    (subst (IsPermutation (all_entered ds)) (sym (append_assoc es bs rest)) (kinds_noted label ds none))
    (ap (λ r. es ++ (bs ++ r ∷ rest)) this ∙ sym (append_assoc es bs ((stamp + stamp + 1, OfRise (suc i)) ∷ rest)))
kinds_noted label (Made i number entry ∷ ds) none =
    let ns = noted_by label ds in
    let es = map told_in (map of_entry ns.entries) in
    let bs = map told_in (map of_base ns.bases) in
    let begins = map begin_told (turns_begun ds) in
    let ends = map end_told (turns_made ds) ++ signals_told ds in
    let split : (xs : List (ℕ × Shown)) → es ++ (bs ++ (begins ++ xs)) ≡ (es ++ (bs ++ begins)) ++ xs =
    λ xs. ap (λ ys. es ++ ys) (sym (append_assoc bs begins xs)) ∙ sym (append_assoc es (bs ++ begins) xs) in
    in_middle (number + number, OfRise (suc i)) (all_entered ds) (es ++ (bs ++ begins)) ends _
    (subst (IsPermutation (all_entered ds)) (split ends) (kinds_noted label ds none)) (split ((number + number, OfRise (suc i)) ∷ ends))
kinds_noted label (Signalled counter number signal ∷ ds) none =
    let ns = noted_by label ds in
    let es = map told_in (map of_entry ns.entries) in
    let bs = map told_in (map of_base ns.bases) in
    let begins = map begin_told (turns_begun ds) in
    let ends = map end_told (turns_made ds) in
    let split : (xs : List (ℕ × Shown)) → es ++ (bs ++ (begins ++ (ends ++ xs))) ≡ (es ++ (bs ++ (begins ++ ends))) ++ xs =
    λ xs. ap (λ ys. es ++ (bs ++ ys)) (sym (append_assoc begins ends xs)) ∙ ap (λ ys. es ++ ys) (sym (append_assoc bs (begins ++ ends) xs))
    ∙ sym (append_assoc es (bs ++ (begins ++ ends)) xs) in
    in_middle (number, OfRise counter) (all_entered ds) (es ++ (bs ++ (begins ++ ends))) (signals_told ds) _
    (subst (IsPermutation (all_entered ds)) (split (signals_told ds)) (kinds_noted label ds none)) (split ((number, OfRise counter) ∷ signals_told ds))

-- the notes of objects tell their turns
turns_noted : (label : Label) (ds : List Action) → map (λ n. (n.object, n.number)) (noted_by label ds).objects ≡ turns_made ds
turns_noted label [] = refl
turns_noted label (Made i number entry ∷ ds) = ap (λ ts. (i, number) ∷ ts) (turns_noted label ds)
turns_noted label (d ∷ ds) = turns_noted label ds

-- law: what a call entered, in another order, where it wrote nothing and each turn that it began has its entry
pub noted_entries : (label : Label) (ds : List Action) → wrote ds ≡ [] → HasWholeTurns ds
    → IsPermutation (all_entered ds) (entries_told (noted_by label ds) ++ signals_told ds)
noted_entries label ds none whole =
    let ns = noted_by label ds in
    let es = map told_in (map of_entry ns.entries) in
    let bs = map told_in (map of_base ns.bases) in
    let made = turns_noted label ds in
    let place : ObjectNote → ℕ × ℕ = λ n. (n.object, n.number) in
    let begins : map begin_told (turns_begun ds) ≡ map told_in (map of_turn ns.objects) =
    ap (map begin_told) (whole ∙ sym made) ∙ map-map begin_told place ns.objects ∙ sym (map-map told_in of_turn ns.objects) in
    let ends : map end_told (turns_made ds) ≡ map told_in (map of_object ns.objects) =
    ap (map end_told) (sym made) ∙ map-map end_told place ns.objects ∙ sym (map-map told_in of_object ns.objects) in
    let those = signals_told ds in
    let kinds = subst (λ xs. IsPermutation (all_entered ds) (es ++ (bs ++ xs)))
    (sym (append_assoc (map begin_told (turns_begun ds)) (map end_told (turns_made ds)) those)
    ∙ ap (λ xs. xs ++ those) ((λ i. begins i ++ ends i) ∙ sym (map-append told_in (map of_turn ns.objects) (map of_object ns.objects))))
    (kinds_noted label ds none) in
    let told : entries_told ns ≡ es ++ (bs ++ map told_in (turn_notes ns.objects)) =
    map-append told_in (map of_entry ns.entries) _ ∙ ap (λ xs. es ++ xs) (map-append told_in (map of_base ns.bases) _
    ∙ ap (λ ws. bs ++ map told_in (map of_write ws ++ turn_notes ns.objects)) (noted_writes label ds)) in
    subst (IsPermutation (all_entered ds)) (ap (λ ys. es ++ ys) (sym (append_assoc bs (map told_in (turn_notes ns.objects)) those))
    ∙ sym (append_assoc es (bs ++ map told_in (turn_notes ns.objects)) those) ∙ ap (λ xs. xs ++ those) (sym told))
    (IsPermutation-trans (all_entered ds) _ (es ++ (bs ++ (map told_in (turn_notes ns.objects) ++ those))) kinds
    (IsPermutation-append es es _ _ (IsPermutation-refl es) (IsPermutation-append bs bs _ _ (IsPermutation-refl bs)
    (IsPermutation-append _ _ those those (IsPermutation-map told_in _ _ (turns_by_kind ns.objects)) (IsPermutation-refl those)))))

-- ---- in another order

-- the same notes, those of timers' entries in some order
pub record SameNotes (a b : NotesOf) : Type 0 where
  pub entries : IsPermutation a.entries b.entries
  pub others : record a { entries = [] } ≡ record b { entries = [] }

-- law: notes that are the same, and those of two parts
pub same_notes : {a b : NotesOf} → a ≡ b → SameNotes a b
same_notes is = record { entries = same_order (ap (λ n. n.entries) is); others = ap (λ (n : NotesOf). record n { entries = [] }) is }

pub same-both : {a b c d : NotesOf} → SameNotes a c → SameNotes b d → SameNotes (both_noted a b) (both_noted c d)
same-both one two =
    record { entries = IsPermutation-append _ _ _ _ one.entries two.entries; others = λ i. both_noted (one.others i) (two.others i) }

pub same-trans : {a b c : NotesOf} → SameNotes a b → SameNotes b c → SameNotes a c
same-trans one two = record { entries = IsPermutation-trans _ _ _ one.entries two.entries; others = one.others ∙ two.others }

module _ {a b : NotesOf} (same : SameNotes a b) where
  -- law: what holds of each of the ones holds of each of the others
  pub each_same : (k : NoteKind) (P : NoteOf k → Type 0) → AllByRecursion P (list_of k b) → AllByRecursion P (list_of k a)
  each_same EntryNotes P all = All-permuted P _ _ (IsPermutation-sym _ _ same.entries) all
  each_same LookNotes P all = subst (λ (n : NotesOf). AllByRecursion P n.looks) (sym same.others) all
  each_same ObjectNotes P all = subst (λ (n : NotesOf). AllByRecursion P n.objects) (sym same.others) all
  each_same SkipNotes P all = subst (λ (n : NotesOf). AllByRecursion P n.skips) (sym same.others) all
  each_same BaseNotes P all = subst (λ (n : NotesOf). AllByRecursion P n.bases) (sym same.others) all
  each_same WriteNotes P all = subst (λ (n : NotesOf). AllByRecursion P n.writes) (sym same.others) all

  -- law: they tell the same entries
  pub told_same : IsPermutation (entries_told b) (entries_told a)
  told_same = IsPermutation-map told_in _ _ (IsPermutation-append _ _ _ _ (IsPermutation-map of_entry _ _ (IsPermutation-sym _ _ same.entries))
      (same_order (ap (λ (n : NotesOf). map of_base n.bases ++ (map of_write n.writes ++ turn_notes n.objects)) (sym same.others))))

-- ---- of receipts

-- the notes that a call's receipts give
abbrev pub notes_of : Label → List Receipt → List ObjectReceipt → NotesOf
notes_of label log object_log = record no_notes {
  entries = entry_notes label log;
  looks = look_notes label log;
  objects = object_notes label object_log;
  skips = skip_notes label object_log;
}

-- law: a lane adds them behind its own
pub with_done-joins : (notes : NotesOf) (label : Label) (log : List Receipt) (object_log : List ObjectReceipt)
    → with_done notes label log object_log ≡ both_noted notes (notes_of label log object_log)
with_done-joins notes label log object_log =
    notes_same (with_done notes label log object_log) (both_noted notes (notes_of label log object_log)) refl refl refl refl (sym (append-nil notes.bases))
    (sym (append-nil notes.writes))

-- law: and the note of a base's entry
pub with_shift-joins : (notes : NotesOf) (label : Label) (base number : ℕ) (event : BaseEvent)
    → with_shift notes label base number event ≡ both_noted notes (one_noted label (Shifted base number event))
with_shift-joins notes label base number event =
    notes_same (with_shift notes label base number event) (both_noted notes (one_noted label (Shifted base number event))) (sym (append-nil notes.entries))
    (sym (append-nil notes.looks)) (sym (append-nil notes.objects)) (sym (append-nil notes.skips)) refl (sym (append-nil notes.writes))

-- law: of two logs
pub notes_of-append : (label : Label) (log more : List Receipt) (object_log object_more : List ObjectReceipt)
    → notes_of label (log ++ more) (object_log ++ object_more) ≡ both_noted (notes_of label log object_log) (notes_of label more object_more)
notes_of-append label log more object_log object_more =
    notes_same _ _ (notes-append (entry_note label) log more) (notes-append (look_note label) log more)
    (notes-append (object_note label) object_log object_more)
    (notes-append (skip_note label) object_log object_more) refl refl

-- ---- entries of a timer

-- a timer's entries, behind so many, as what a call did
abbrev pub entered_on : ℕ → ℕ → List seq.Entry → List Action
entered_on t k [] = []
entered_on t k (e ∷ es) = Entered t (k + 1) (entry_stamped e) ∷ entered_on t (k + 1) es

-- law: their receipts are noted so
pub entered_noted : (label : Label) (t k : ℕ) (es : List seq.Entry) → notes_of label (receipts_of t k es) [] ≡ noted_by label (entered_on t k es)
entered_noted label t k [] = refl
entered_noted label t k (e ∷ es) =
    ap (both_noted (one_noted label (Entered t (k + 1) (entry_stamped e)))) (entered_noted label t (k + 1) es)

pub entered_all : (t k : ℕ) (es : List seq.Entry) → numbered t k (map entry_stamped es) ≡ all_entered (entered_on t k es)
entered_all t k [] = refl
entered_all t k (e ∷ es) = ap (λ xs. (k + 1, OfTimer t (entry_stamped e)) ∷ xs) (entered_all t (k + 1) es)

-- law: they are no turns
pub entered_turns : (t k : ℕ) (es : List seq.Entry) → HasNoTurns (entered_on t k es)
entered_turns t k [] = (refl, refl, refl)
entered_turns t k (e ∷ es) = entered_turns t (k + 1) es

-- law: they are no looks and of no object
pub entered_only : (t k i : ℕ) (es : List seq.Entry) → let ds = entered_on t k es in (looked i ds ≡ []) × (made i ds ≡ [])
entered_only t k i [] = (refl, refl)
entered_only t k i (e ∷ es) = entered_only t (k + 1) i es
