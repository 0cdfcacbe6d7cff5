-- What one step does: a claim, a finish, or one of the others.
use Rattle.std.proofs.Common.{unwrap_or, ◌≡◌, ◌⊎◌, ℕ, Bool, true, false, Option, Some, None, IsSome, is_some, refl, ap, ◌∙◌, inl, inr}
use Rattle.std.proofs.Math.Logic.{⊎_elim}
use Rattle.std.proofs.lemmas.Bool.{false≢true}
use Rattle.seq_timer.specs.declared.effect.QueueEffect.{QueueEffect}
use Rattle.seq_timer.specs.declared.effect.QueueEffect.TheVariants as queues
use Rattle.seq_timer.specs.declared.effect.RunEffect.{RunEffect}
use Rattle.seq_timer.specs.declared.effect.RunEffect.TheVariants as functions
use Rattle.seq_timer.specs.Events.{Event}
use Rattle.seq_timer.specs.Effects.{effect}
use Rattle.seq_timer.specs.Steps.{Timer, Needs, after, reply_to}
use Rattle.seq_timer.specs.Histories.{cancel_in, claim_in, finish_in, is_finish, told_in}
use Rattle.seq_timer.proofs.Effects.{QueueNeeds, RunNeeds, armed_afterwards, by_effect, is_cancelling, running_afterwards, some_of, told_by_effect}

pub record IsClaiming (t : Timer) (e : Event) : Type 0 where
  pub generation : ℕ
  pub told : claim_in (reply_to t e) ≡ Some generation
  pub no_finish : is_finish (reply_to t e) ≡ false
  pub idle : t.running ≡ None
  pub armed : t.armed ≡ Some generation
  pub disarmed : (after t e).armed ≡ None
  pub runs : (after t e).running ≡ Some generation

pub record IsFinishing (t : Timer) (e : Event) : Type 0 where
  pub told : claim_in (reply_to t e) ≡ None
  pub finish : is_finish (reply_to t e) ≡ true
  pub ended : (after t e).running ≡ None
  pub answers : (generation : ℕ) → t.running ≡ Some generation → finish_in (reply_to t e) ≡ Some generation

pub record IsPassing (t : Timer) (e : Event) : Type 0 where
  pub told : claim_in (reply_to t e) ≡ None
  pub no_finish : is_finish (reply_to t e) ≡ false
  pub runs : (after t e).running ≡ t.running

pub record IsCancelling (t : Timer) (e : Event) : Type 0 where
  pub generation : ℕ
  pub told : cancel_in (reply_to t e) ≡ Some generation
  pub no_claim : claim_in (reply_to t e) ≡ None
  pub armed : t.armed ≡ Some generation
  pub disarmed : (after t e).armed ≡ None

-- what a reply tells of a claim, a cancel, a finish
abbrev ToldIn : Type 0
ToldIn = Option ℕ × Option ℕ × Option ℕ

unwrapped : (o : Option ℕ) (g : ℕ) → o ≡ Some g → Some (unwrap_or o 0) ≡ Some g
unwrapped (Some h) g is = is
unwrapped None g is = absurd (cc)

-- by what becomes of the timer's function
kind_by : (t : Timer) (e : Event) (f : RunEffect) (by_claimer cancelling : Bool) → told_in (reply_to t e) ≡ told_by_effect f cancelling t
    → (after t e).running ≡ running_afterwards f t → RunNeeds f by_claimer t (after t e) → IsClaiming t e ⊎ (IsFinishing t e ⊎ IsPassing t e)
kind_by t e functions.Stays by_claimer cancelling told running needs = inr (inr (record {
  told = ap (λ (k : ToldIn). k.0) told;
  no_finish = ap (λ (k : ToldIn). is_some k.2) told;
  runs = running;
}))
kind_by t e (functions.Begins reading) by_claimer cancelling told running needs = inl (record {
  generation = unwrap_or t.armed 0;
  told = ap (λ (k : ToldIn). k.0) told;
  no_finish = ap (λ (k : ToldIn). is_some k.2) told;
  idle = needs.idle;
  armed = some_of t.armed needs.armed;
  disarmed = needs.disarmed;
  runs = running ∙ some_of t.armed needs.armed;
})
kind_by t e functions.Ends by_claimer cancelling told running needs = inr (inl (record {
  told = ap (λ (k : ToldIn). k.0) told;
  finish = ap (λ (k : ToldIn). is_some k.2) told;
  ended = running;
  answers = λ g is. ap (λ (k : ToldIn). k.2) told ∙ unwrapped t.running g is;
}))

pub kind_of : (t : Timer) (e : Event) → Needs t e → IsClaiming t e ⊎ (IsFinishing t e ⊎ IsPassing t e)
kind_of t e needs =
    let goes = by_effect t e in
    let d = effect t e in
    kind_by t e d.function d.by_claimer (is_cancelling d.queue d.sent) goes.told goes.running (goes.needs needs).function

-- what claims nothing
pub claims_none : (t : Timer) (e : Event) → IsFinishing t e ⊎ IsPassing t e → claim_in (reply_to t e) ≡ None
claims_none t e others = ⊎_elim (λ (finishing : IsFinishing t e). finishing.told) (λ (passing : IsPassing t e). passing.told) others

-- a cancel takes the armed generation off
disarms : (t now : Timer) (q : QueueEffect) (sent : Option ℕ) → QueueNeeds q sent t now → now.armed ≡ armed_afterwards q t → is_cancelling q sent ≡ true
    → IsSome t.armed × (now.armed ≡ None)
disarms t now queues.Stays sent needs armed is = absurd (false≢true is)
disarms t now queues.Leaves None needs armed is = (needs, armed)
disarms t now queues.Leaves (Some base) needs armed is = absurd (false≢true is)
disarms t now queues.Armed sent needs armed is = absurd (false≢true is)

cancels_by : (t : Timer) (e : Event) (f : RunEffect) (cancelling : Bool) → told_in (reply_to t e) ≡ told_by_effect f cancelling t
    → (cancelling ≡ true → IsSome t.armed × ((after t e).armed ≡ None)) → IsCancelling t e ⊎ (cancel_in (reply_to t e) ≡ None)
cancels_by t e functions.Stays true told disarmed = let both = disarmed refl in inl (record {
  generation = unwrap_or t.armed 0;
  told = ap (λ (k : ToldIn). k.1) told;
  no_claim = ap (λ (k : ToldIn). k.0) told;
  armed = some_of t.armed both.0;
  disarmed = both.1;
})
cancels_by t e functions.Stays false told disarmed = inr (ap (λ (k : ToldIn). k.1) told)
cancels_by t e (functions.Begins reading) cancelling told disarmed = inr (ap (λ (k : ToldIn). k.1) told)
cancels_by t e functions.Ends cancelling told disarmed = inr (ap (λ (k : ToldIn). k.1) told)

pub cancelling_of : (t : Timer) (e : Event) → Needs t e → IsCancelling t e ⊎ (cancel_in (reply_to t e) ≡ None)
cancelling_of t e needs =
    let goes = by_effect t e in
    let d = effect t e in
    cancels_by t e d.function (is_cancelling d.queue d.sent) goes.told (disarms t (after t e) d.queue d.sent (goes.needs needs).queue goes.armed)
