-- A call that was entered in an object's history.
use Rattle.std.proofs.Common.{arith, sym, ap, subst, ◌≡◌, ◌∙◌, ℕ, ◌+◌, ◌<◌, [], ◌∷◌, ◌++◌, length, length-append}
use Rattle.pass_names.specs.declared.Pass.{Pass}
use Rattle.pass_names.specs.Passes.{Adds, entries}
use Rattle.counted_row.specs.declared.view.Locked.{Locked}
use Rattle.counted_row.specs.Views.{IsPassOfRow, Locks, StateAfter}
use Rattle.counted_row.specs.Calls.{Commits}
use Rattle.counted_row.proofs.Calls.{commits_of}
use Rattle.timer_objects.specs.declared.object.Object.{Object}
use Rattle.timer_setting.specs.declared.object_call.ObjectCall.{ObjectCall}
use Rattle.timer_setting.specs.declared.object_call.ObjectReply.{ObjectReply}
use Rattle.timer_objects.specs.Steps.{IsObjectOf, object_answer}
use Rattle.timer_objects.specs.Meaning.{object_meaning}
use Rattle.timer_objects.specs.Known.{EntersObjectCall, IsObjectsPass, ObjectsOf, ObjectsPass, decl_at, receipt_of, row_of, seen_of}
use Rattle.timer_objects.specs.Calls.{Caller, EntersCall}
use Rattle.timer_objects.proofs.Counting.{state_is}

-- behind what was there before stands one entry
pub one_behind : {E : Type 0} (a b : Pass E) (i : ℕ) (e : E) (adds : Adds a b i (e ∷ [])) → length (entries i b.seen) ≡ length adds.before + 1
one_behind a b i e adds = omega (arith, ap length adds.last, length-append adds.before (e ∷ []))

module _ (x : ObjectsOf) (p m q : ObjectsPass) (id : ℕ) (h : Locked Object) (call : ObjectCall) (answer : ObjectReply)
    (locks : Locks object_meaning p m id h) (row : IsPassOfRow (row_of x) m) (is : IsObjectsPass x q) (enters : EntersObjectCall m q h call answer) where
  abbrev pub commits : Commits object_meaning p q id call
  commits = commits_of {r = row_of x} locks row is.row
      (subst (λ r. Adds m.knows.pass q.knows.pass h.index (record { call = call; reply = r } ∷ [])) enters.reply enters.adds) enters.knows is.knows

  -- the object is that of its declaration
  pub declared : IsObjectOf (decl_at x id) x.limit (length commits.adds.before) commits.state
  declared = state_is x id commits.adds.before commits.state
      (subst (λ made. StateAfter object_meaning made id commits.adds.before commits.state) (sym commits.opening ∙ is.row.made) commits.at)

  pub stamp_before : length commits.adds.before ≡ h.stamp
  stamp_before = omega (arith, one_behind _ _ _ _ commits.adds, ap (λ i. length (seen_of q i)) (sym locks.index), enters.count)

  -- the call stands last, and its receipt too
  abbrev pub enters_call : (old new : Caller) → old.objects ≡ p → new.objects ≡ q → h.stamp < x.limit
      → new.object_log ≡ old.object_log ++ receipt_of h call ∷ [] → EntersCall x (record old { objects = p }) (record new { objects = q }) id call answer
  enters_call old new e f room noted = record {
    commits = commits;
    declared = declared;
    may = enters.may;
    reply = enters.reply;
    room = omega (arith, stamp_before, room);
    object_log = noted ∙ ap (λ r. old.object_log ++ r ∷ [])
        (ap (λ i. record { object = i; number = h.stamp + 1; call = call; reply = object_answer h.state call }) locks.index
        ∙ (ap (λ n. record { object = id; number = n + 1; call = call; reply = object_answer h.state call }) (sym stamp_before)
        ∙ ap (λ r. record { object = id; number = length commits.adds.before + 1; call = call; reply = r }) (sym enters.reply)));
  }

-- the same call by its answer
abbrev pub answered : {x : ObjectsOf} {old new : Caller} {id : ℕ} {call : ObjectCall} {r s : ObjectReply} → r ≡ s → EntersCall x old new id call r
    → EntersCall x old new id call s
answered {old = old} {id = id} {call = call} same e = record {
  commits = e.commits;
  declared = e.declared;
  may = e.may;
  reply = sym same ∙ e.reply;
  room = e.room;
  object_log = e.object_log
      ∙ ap (λ r. old.object_log ++ record { object = id; number = length e.commits.adds.before + 1; call = call; reply = r } ∷ []) same;
}
