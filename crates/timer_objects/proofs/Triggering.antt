-- A trigger, from the clauses of the lock of its object and of its end.
use Rattle.std.specs.Prelude.{Option}
use Rattle.std.proofs.Common.{◌≡◌, ℕ, ◌+◌, ◌<◌, List, [], ◌∷◌, ◌++◌, length, ap, sym, ◌∙◌, subst, refl}
use Rattle.pass_names.specs.Passes.{Adds}
use Rattle.pass_names.specs.SharedHistory.{LooksOn}
use Rattle.pass_names.proofs.SharedHistory.{looks_refl}
use Rattle.hr_timers.specs.Known.{KnownOfTimers}
use Rattle.counted_row.specs.declared.view.Locked.{Locked}
use Rattle.counted_row.specs.Views.{IsPassOfRow, Locks, StateAfter}
use Rattle.counted_row.specs.Calls.{Commits}
use Rattle.counted_row.proofs.Calls.{commits_of}
use Rattle.timer_objects.specs.declared.object.Object.{Object}
use Rattle.timer_setting.specs.declared.object_call.ObjectCall.{ObjectCall}
use Rattle.timer_objects.specs.declared.log.ObjectReceipt.{ObjectReceipt}
use Rattle.timer_setting.specs.declared.object_call.ObjectReply.{ObjectReply}
use Rattle.timer_objects.specs.Steps.{object_answer}
use Rattle.timer_objects.specs.Meaning.{object_meaning}
use Rattle.timer_objects.specs.Known.{EntersObjectCall, IsObjectsPass, ObjectsOf, ObjectsPass, receipt_of, row_of, seen_of}
use Rattle.timer_objects.specs.Triggers.{EntersTrigger, IsRungFor, TellsReader}
use Rattle.timer_objects.specs.Turns.{HasTurn}
use Rattle.timer_objects.proofs.Counting.{state_is}

module _ (x : ObjectsOf) (p m q : ObjectsPass) (id : ℕ) (h : Locked Object) (call : ObjectCall) (log log' : List ObjectReceipt)
    (locks : Locks object_meaning p m id h) (here : IsPassOfRow (row_of x) m) (after : IsObjectsPass x q) where
  -- what is held counts the entries of its object
  counted : h.stamp ≡ length (seen_of m id)
  counted = locks.now.stamp ∙ ap (λ i. length (seen_of m i)) locks.index

  -- the trigger of the object as it was held
  pub record EntersHeld (v begun worked w : KnownOfTimers) : Type 0 where
    pub made : EntersTrigger x p q log log' v w id call
    pub state : made.commits.state ≡ h.state
    pub before : length made.commits.adds.before ≡ h.stamp
    pub begins : made.begun ≡ begun
    pub works : made.worked ≡ worked

  pub entered_held : (answer : ObjectReply) → EntersObjectCall m q h call answer → h.stamp < x.limit → log' ≡ log ++ receipt_of h call ∷ []
      → (v begun worked w : KnownOfTimers) → HasTurn id h.stamp v begun worked w → LooksOn begun worked → EntersHeld v begun worked w
  entered_held answer enters room noted v begun worked w turn looks =
      let told = subst (λ r. Adds m.knows.pass q.knows.pass h.index (record { call = call; reply = r } ∷ [])) enters.reply enters.adds in
      let commits : Commits object_meaning p q id call = commits_of locks here after.row told enters.knows after.knows in
      record {
        state = refl;
        before = sym counted;
        begins = refl;
        works = refl;
        made = record {
          commits = commits;
          declared = state_is x id commits.adds.before commits.state
              (subst (λ made. StateAfter object_meaning made id commits.adds.before commits.state) (sym commits.opening ∙ after.row.made) commits.at);
          may = enters.may;
          room = subst (λ n. n < x.limit) counted room;
          begun = begun;
          worked = worked;
          turn = subst (λ n. HasTurn id n v begun worked w) counted turn;
          looks = looks;
          receipt = noted ∙ (λ i. log ++ record {
            object = locks.index i;
            number = counted i + 1;
            call = call;
            reply = object_answer h.state call;
          } ∷ []);
        };
      }

  pub entered : (answer : ObjectReply) → EntersObjectCall m q h call answer → h.stamp < x.limit → log' ≡ log ++ receipt_of h call ∷ []
      → (v begun w : KnownOfTimers) → HasTurn id h.stamp v begun begun w → EntersTrigger x p q log log' v w id call
  entered answer enters room noted v begun w turn = (entered_held answer enters room noted v begun begun w turn (looks_refl begun)).made

-- who is told by a trigger's reply is told by the receipt that has it
pub tells_of : {id n : ℕ} {reply : ObjectReply} {rung : Option ℕ} {log log' : List ObjectReceipt} (receipt : ObjectReceipt) → n ≡ id → reply ≡ receipt.reply
    → log' ≡ log ++ receipt ∷ [] → IsRungFor n reply rung → TellsReader id rung log log'
tells_of {id} {n} {reply} {rung} receipt here same noted told = record {
  receipt = receipt;
  noted = noted;
  told = subst (λ i. IsRungFor i receipt.reply rung) here (subst (λ r. IsRungFor n r rung) same told);
}
