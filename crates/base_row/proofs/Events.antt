-- How claims and carry go along with each event.
use Rattle.std.proofs.Common.{◌≡◌, ℕ, eqb, ◌&&◌, ◌+◌, ◌<◌, ◌≢◌, ◌⊎◌, ⊎_elim, ◌∙◌, Bool, true, false, List, [], ◌∷◌, ◌++◌, refl, ap, sym, arith, if◌then◌else◌}
use Rattle.std.specs.Prelude.{Option, Some, None, IsSome, unwrap_or}
use Rattle.std.proofs.lemmas.Bool.{false≢true, true≢false, and_parts, eqb-true, eq-eqb, ne_eqb}
use Rattle.seq_timer.specs.Events.{Event}
use Rattle.seq_timer.specs.declared.effect.RunEffect.{RunEffect}
use Rattle.seq_timer.specs.declared.effect.RunEffect.TheVariants as functions
use Rattle.seq_timer.specs.declared.event.Reply.{Reply}
use Rattle.seq_timer.specs.Effects.{effect}
use Rattle.seq_timer.specs.Steps.{Timer, Needs, after}
use Rattle.seq_timer.proofs.Effects.{IsSent, RunNeeds, SentNeeds, by_effect, running_afterwards}
use Rattle.pass_names.specs.Counts.{one_if, count}
use Rattle.pass_names.proofs.Counts.{total-append, count-without_first}
use Rattle.base_row.specs.declared.view.Claimed.{Claimed}
use Rattle.base_row.specs.declared.view.BaseView.{BaseView}
use Rattle.seq_timer.specs.Systems.{BaseContent}
use Rattle.base_row.specs.Rules.{carried_in, is_base_claim, is_generation, runs}
use Rattle.base_row.specs.Plays.{CarriesAlone, GoAlong, OwnNeeds, OwnNeedsBy, carried_by, carry_after, claims_by, claims_with_event}

none_runs : (g b : ℕ) (t : Timer) → t.running ≡ None → one_if (runs g b t) ≡ 0
none_runs g b t none = ap (λ r. one_if (is_generation g r && eqb t.base b)) none

its_generation : (g : ℕ) (o : Option ℕ) → IsSome o → is_generation g o ≡ eqb (unwrap_or o 0) g
its_generation g None is = absurd (true≢false (sym is))
its_generation g (Some r) is = refl

one_claim : (id k g b a base : ℕ) (claims : List Claimed)
    → count (is_base_claim k g b) (claims ++ record { timer = id; generation = a; base = base } ∷ []) ≡ count (is_base_claim k g b) claims + one_if
    (eqb id k && (eqb a g && eqb base b))
one_claim id k g b a base claims = omega (
  arith,
  total-append (λ (c : Claimed). one_if (is_base_claim k g b c)) claims
      (record { timer = id; generation = a; base = base } ∷ []),
)

claim_is : (id g b : ℕ) (c : Claimed) → is_base_claim id g b c ≡ true → (c.timer ≡ id) × ((c.generation ≡ g) × (c.base ≡ b))
claim_is id g b c e =
    let p = and_parts (eqb c.timer id) (eqb c.generation g && eqb c.base b) e in
    let q = and_parts (eqb c.generation g) (eqb c.base b) p.1 in
    (eqb-true c.timer id p.0, (eqb-true c.generation g q.0, eqb-true c.base b q.1))

let_go : (id k g b r base : ℕ) (c : Claimed) → is_base_claim id r base c ≡ true → is_base_claim k g b c ≡ (eqb id k && (eqb r g && eqb base b))
let_go id k g b r base c e = let t = claim_is id r base c e in rw (t.0, t.1.0, t.1.1) refl

-- what an event needs of its pass, taken apart
own_claims : (v : BaseView BaseContent) (id : ℕ) (t : Timer) (by_claimer : Bool) (sent : Option ℕ) → OwnNeedsBy by_claimer sent v id t → by_claimer ≡ true
    → 0 < count (is_base_claim id (unwrap_or t.running 0) t.base) v.claims
own_claims v id t false sent own is = absurd (false≢true is)
own_claims v id t true None own is = own
own_claims v id t true (Some base) own is = own.0

own_carry : (v : BaseView BaseContent) (id base : ℕ) (t : Timer) (by_claimer : Bool) → OwnNeedsBy by_claimer (Some base) v id t → CarriesAlone v id t
own_carry v id base t false own = own
own_carry v id base t true own = own.1

-- ---- what is carried

carry_none : (id : ℕ) (was is : Bool) (carry : Option ℕ) → (is ≡ was) ⊎ (is ≡ false) → (was ≡ true → carry ≡ Some id)
    → carried_in id (if is then carry else if was then None else carry) + one_if was ≡ carried_in id carry + one_if is
carry_none id true true carry goes has = refl
carry_none id true false carry goes has = omega (arith, ap (carried_in id) (has refl), ap one_if (eq-eqb id id refl))
carry_none id false true carry goes has = ⊎_elim (λ same. absurd (true≢false same)) (λ stops. absurd (true≢false stops)) goes
carry_none id false false carry goes has = refl

carry_none_else : (id k : ℕ) (was is : Bool) (carry : Option ℕ) → k ≢ id → (was ≡ true → carry ≡ Some id)
    → carried_in k (if is then carry else if was then None else carry) ≡ carried_in k carry
carry_none_else id k was true carry n has = refl
carry_none_else id k true false carry n has = omega (arith, ap (carried_in k) (has refl), ap one_if (ne_eqb id k (λ e. n (sym e))))
carry_none_else id k false false carry n has = refl

carry_alone : (id : ℕ) (moving : Bool) (carry : Option ℕ) → carry ≡ (if moving then Some id else None) → carried_in id carry ≡ one_if moving
carry_alone id true carry is = omega (arith, ap (carried_in id) is, ap one_if (eq-eqb id id refl))
carry_alone id false carry is = omega (arith, ap (carried_in id) is)

carry_alone_else : (id k : ℕ) (moving : Bool) (carry : Option ℕ) → k ≢ id → carry ≡ (if moving then Some id else None) → carried_in k carry ≡ 0
carry_alone_else id k true carry n is = omega (arith, ap (carried_in k) is, ap one_if (ne_eqb id k (λ e. n (sym e))))
carry_alone_else id k false carry n is = omega (arith, ap (carried_in k) is)

module _ (v : BaseView BaseContent) (id : ℕ) (t now : Timer) (by_claimer : Bool) (moves : t.moving ≡ true → v.carry ≡ Some id) where
  carry_here : (sent : Option ℕ) → IsSent sent t now → SentNeeds sent t now → OwnNeedsBy by_claimer sent v id t
      → carried_in id (carried_by sent id t now v.carry) + one_if t.moving ≡ carried_in id v.carry + one_if now.moving
  carry_here None is needs own = carry_none id t.moving now.moving v.carry is.1 moves
  carry_here (Some base) is needs own = omega (
    arith,
    carry_alone id t.moving v.carry (own_carry v id base t by_claimer own),
    ap one_if (eq-eqb id id refl),
    ap one_if is.1,
  )

  carry_else : (sent : Option ℕ) → OwnNeedsBy by_claimer sent v id t → (k : ℕ) → k ≢ id
      → carried_in k (carried_by sent id t now v.carry) ≡ carried_in k v.carry
  carry_else None own k n = carry_none_else id k t.moving now.moving v.carry n moves
  carry_else (Some base) own k n = omega (
    arith,
    carry_alone_else id k t.moving v.carry n (own_carry v id base t by_claimer own),
    ap one_if (ne_eqb id k (λ e. n (sym e))),
  )

-- ---- claims

-- a timer whose function runs on does so in the same generation on the same base
runs_same : (g b : ℕ) (t now : Timer) (sent : Option ℕ) → IsSent sent t now → SentNeeds sent t now → now.running ≡ t.running
    → one_if (runs g b now) ≡ one_if (runs g b t)
runs_same g b t now None is needs same = λ i. one_if (is_generation g (same i) && eqb (is.0 i) b)
runs_same g b t now (Some base) is needs same = none_runs g b now needs.2 ∙ sym (none_runs g b t needs.0)

module _ (v : BaseView BaseContent) (id : ℕ) (t now : Timer) (by_claimer : Bool)
    (claimed : by_claimer ≡ true → 0 < count (is_base_claim id (unwrap_or t.running 0) t.base) v.claims) where
  abbrev kept : RunEffect → ℕ → ℕ → ℕ → ℕ
  kept f k g b = count (is_base_claim k g b) (claims_by f id t v.claims)

  -- of a function that ends its claim is gone
  gone : by_claimer ≡ true → (k g b : ℕ)
      → kept functions.Ends k g b + one_if (eqb id k && (eqb (unwrap_or t.running 0) g && eqb t.base b)) ≡ count (is_base_claim k g b) v.claims
  gone is k g b = count-without_first (is_base_claim id (unwrap_or t.running 0) t.base) (is_base_claim k g b)
      (eqb id k && (eqb (unwrap_or t.running 0) g && eqb t.base b)) (let_go id k g b (unwrap_or t.running 0) t.base) v.claims (claimed is)

  claims_here : (f : RunEffect) → now.running ≡ running_afterwards f t → RunNeeds f by_claimer t now
      → ((g b : ℕ) → now.running ≡ t.running → one_if (runs g b now) ≡ one_if (runs g b t))
      → (g b : ℕ) → kept f id g b + one_if (runs g b t) ≡ count (is_base_claim id g b) v.claims + one_if (runs g b now)
  claims_here functions.Stays running needs same g b = omega (arith, same g b running)
  claims_here (functions.Begins reading) running needs same g b = omega (
    arith,
    one_claim id id g b (unwrap_or t.armed 0) t.base v.claims,
    ap (λ x. one_if (x && (eqb (unwrap_or t.armed 0) g && eqb t.base b))) (eq-eqb id id refl),
    none_runs g b t needs.idle,
    begun_runs,
  )
    where
      begun_runs : one_if (runs g b now) ≡ one_if (eqb (unwrap_or t.armed 0) g && eqb t.base b)
      begun_runs = (λ i. one_if (is_generation g (running i) && eqb (needs.base i) b))
          ∙ ap (λ x. one_if (x && eqb t.base b)) (its_generation g t.armed needs.armed)
  claims_here functions.Ends running needs same g b = omega (
    arith,
    gone needs.claimed id g b,
    ap (λ x. one_if (x && (eqb (unwrap_or t.running 0) g && eqb t.base b))) (eq-eqb id id refl),
    ap (λ x. one_if (x && eqb t.base b)) (its_generation g t.running needs.runs),
    none_runs g b now running,
  )

  claims_else : (f : RunEffect) → RunNeeds f by_claimer t now → (k g b : ℕ) → k ≢ id → kept f k g b ≡ count (is_base_claim k g b) v.claims
  claims_else functions.Stays needs k g b n = refl
  claims_else (functions.Begins reading) needs k g b n = omega (
    arith,
    one_claim id k g b (unwrap_or t.armed 0) t.base v.claims,
    ap (λ x. one_if (x && (eqb (unwrap_or t.armed 0) g && eqb t.base b))) (ne_eqb id k (λ e. n (sym e))),
  )
  claims_else functions.Ends needs k g b n = omega (
    arith,
    gone needs.claimed k g b,
    ap (λ x. one_if (x && (eqb (unwrap_or t.running 0) g && eqb t.base b))) (ne_eqb id k (λ e. n (sym e))),
  )

pub go_along : (v : BaseView BaseContent) (id : ℕ) (t : Timer) (event : Event) (reply : Reply) → Needs t event → OwnNeeds v id t event
    → (t.moving ≡ true → v.carry ≡ Some id)
    → GoAlong t (record { timer = id; event = event; reply = reply }) v (claims_with_event id t event v.claims) (carry_after id t event v.carry)
go_along v id t event reply needs own moves =
    let d = effect t event in
    let now = after t event in
    let goes = by_effect t event in
    let allowed = goes.needs needs in
    let claimed = own_claims v id t d.by_claimer d.sent own in
    record {
      own = claims_here v id t now d.by_claimer claimed d.function goes.running allowed.function
          (λ g b same. runs_same g b t now d.sent goes.sent allowed.sent same);
      apart = claims_else v id t now d.by_claimer claimed d.function allowed.function;
      carry_here = carry_here v id t now d.by_claimer moves d.sent goes.sent allowed.sent own;
      carry_else = carry_else v id t now d.by_claimer moves d.sent own;
    }
