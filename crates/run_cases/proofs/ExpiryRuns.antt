-- An expiry run that claimed one timer, an object's: its last entry is the finish; and where the expiry was skipped, the object was full before the finish.
use Rattle.std.proofs.Common.{◌≡◌, ◌≤◌, ℕ, ◌+◌, List, [], ◌∷◌, ◌++◌, length, take, arith, sym, ap, ◌∙◌, subst}
use Rattle.std.proofs.Math.Logic.{⊎_elim}
use Rattle.std.proofs.lemmas.Bool.{eq-eqb}
use Rattle.std.proofs.lemmas.List.{append-nil, take-map}
use Rattle.seq_timer.specs.declared.context.Context.{Context}
use Rattle.record_text.specs.declared.record.Entry.{Entry}
use Rattle.record_text.specs.declared.record.Label.{Label}
use Rattle.record_text.specs.declared.record.ObjectEntry.TheVariants as object_entries
use Rattle.record_text.specs.declared.record.ObjectEntry.{ObjectEntry}
use Rattle.script_text.specs.Declarations.{kind_of}
use Rattle.script_text.specs.declared.script.Script.{Script}
use Rattle.run_history.specs.Starts.{Sight}
use Rattle.run_history.specs.Actions.{Action, also, Entered, entered, made, Skipped}
use Rattle.run_history.specs.Deeds.{IsBody, IsExpiryRun, IsTrigger, fires}
use Rattle.run_history.specs.Truths.{AreTrue}
use Rattle.run_history.specs.Order.{made_by}
use Rattle.run_history.specs.Traces.{all_entered, own_moves}
use Rattle.run_history.specs.Witnesses.{Fired, IsOneHistory, Move, OfTimer, TimersList, Witness, moves_on, timer_along, turns_along}
use Rattle.run_history.proofs.Actions.{all_entered-append}
use Rattle.run_history.proofs.Expires.{claim_of, finish_of}
use Rattle.fit_laws.proofs.EachTimer.{heads, true_at}
use Rattle.fit_laws.proofs.OwnParts.{count_moves}
use Rattle.fit_laws.proofs.OwnPoints.{stamp_then}
use Rattle.fit_laws.proofs.Moments.{HasAll, all_by_last}

-- the one callback of a run that claimed timer 0
pub record IsOne (base reading : ℕ) (fired : List Fired) (actions : List Action) : Type 0 where
  pub one : Fired
  pub timer : one.timer ≡ 0
  pub done : actions ≡ Entered one.timer one.claim (claim_of base reading one) ∷ (one.body ++ Entered one.timer one.finish (finish_of one) ∷ [])
  pub trigger : IsTrigger reading one

module _ {sight : Sight} {s : Script} {x : Context} {reading base shown : ℕ} {actions : List Action} where
  -- law: a run that claimed timer 0 alone, which is an object's, has one callback
  pub fired_one : (fired : List Fired) → IsExpiryRun sight s x reading base fired shown (0 ∷ []) actions
      → ((f : Fired) → IsBody sight s (kind_of s 0) reading f → IsTrigger reading f) → IsOne base reading fired actions
  fired_one [] run is_object = absurd (let none = run.claimed in cc)
  fired_one (f ∷ g ∷ fs) run is_object = absurd (let many = run.claimed in cc)
  fired_one (f ∷ []) run is_object =
      let timer : 0 ≡ f.timer = heads 0 f.timer [] [] run.claimed in
      record {
        one = f;
        timer = sym timer;
        done = run.done ∙ append-nil (fires base reading f);
        trigger = is_object f (subst (λ t. IsBody sight s (kind_of s t) reading f) (sym timer) run.bodies.0);
      }

module _ {base reading : ℕ} {fired : List Fired} {actions : List Action} (o : IsOne base reading fired actions) where
  abbrev claim : Action
  claim = Entered o.one.timer o.one.claim (claim_of base reading o.one)

  abbrev finish : Action
  finish = Entered o.one.timer o.one.finish (finish_of o.one)

  -- of the timer it entered the claim and the finish
  two_entries : entered 0 actions ≡ (o.one.claim, claim_of base reading o.one) ∷ (o.one.finish, finish_of o.one) ∷ []
  two_entries =
      ap (entered 0) o.done
      ∙ ⊎_elim (λ m. ap (λ body. entered 0 (claim ∷ (body ++ finish ∷ []))) m.2) (λ m. ap (λ body. entered 0 (claim ∷ (body ++ finish ∷ []))) m.1) o.trigger.0
      ∙ ap (λ b. also b (o.one.claim, claim_of base reading o.one) (also b (o.one.finish, finish_of o.one) [])) (eq-eqb o.one.timer 0 o.timer)

  second : {X : Type 0} (x y z v : X) → x ∷ y ∷ [] ≡ z ∷ v ∷ [] → y ≡ v
  second x y z v is = cc

  module _ (w : Witness) (history : IsOneHistory w) (c : Label) (own : own_moves c w.moves ≡ all_entered actions) where
    -- law: a moment at which the timer has the finish has all that the run did
    pub all_by_finish : length w.run.timers ≡ length w.script.timers → (one two : ℕ × Entry) (n : ℕ) → one ∷ two ∷ [] ≡ entered 0 actions
        → two.0 ≤ (timer_along w n 0).stamp → HasAll w c n
    all_by_finish timers one two n entries reached =
        let f = o.one in
        let same : two ≡ (f.finish, finish_of f) = second one two _ _ (entries ∙ two_entries) in
        all_by_last w history c ((f.claim, OfTimer f.timer (claim_of base reading f)) ∷ all_entered f.body) f.finish n (OfTimer f.timer (finish_of f))
        (own ∙ ap all_entered o.done
        ∙ ap (λ xs. (f.claim, OfTimer f.timer (claim_of base reading f)) ∷ xs) (all_entered-append f.body (finish ∷ [])))
        (subst (λ t. f.finish ≤ length (moves_on (TimersList t) (take n w.moves))) (sym o.timer)
        (omega (arith, reached, ap (λ (x : ℕ × Entry). x.0) same, stamp_then w history timers n 0)))

    -- law: where the run made no entry of the object, it skipped its expiry at a moment at which the object was full, before the finish
    pub skipped_before_finish : (first last : ℕ) → made 0 actions ≡ [] → AreTrue w c first [] actions last
        → (n : ℕ) × (HasAll w c n → ⊥) × (w.script.limit + w.script.limit ≤ turns_along w n 0)
    skipped_before_finish first last none truth = ⊎_elim
        (λ m.
        let e : ℕ × ObjectEntry = (m.0 + 1, object_entries.Trigger o.one.generation reading m.1) in
        absurd (some e (sym (ap (λ b. also b e []) (eq-eqb o.one.timer 0 o.timer))
        ∙ sym (ap (λ body. made 0 (claim ∷ (body ++ finish ∷ []))) m.2) ∙ sym (ap (made 0) o.done) ∙ none)))
        (λ m.
        let split : actions ≡ (claim ∷ []) ++ Skipped o.one.timer m.0 o.one.generation ∷ finish ∷ [] =
        o.done ∙ ap (λ body. claim ∷ (body ++ finish ∷ [])) m.1 in
        let there = true_at w c first [] actions (claim ∷ []) (Skipped o.one.timer m.0 o.one.generation) (finish ∷ []) last truth split in
        let n = there.0 in (
          n,
          (λ all. omega (
            arith,
            all,
            ap length own ∙ ap (λ ds. length (all_entered ds)) split,
            there.1.0.so_many,
            ap (made_by c) (take-map (λ (m : Move). m.label) n w.moves) ∙ count_moves c (take n w.moves),
          )),
          omega (arith, there.1.1.1, there.1.1.0, ap (turns_along w n) o.timer),
        ))
        o.trigger.0
      where
        some : {X : Type 0} (x : X) → x ∷ [] ≡ [] → ⊥
        some x is = cc
