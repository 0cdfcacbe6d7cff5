-- Each step of a seat keeps the rule of its handoff.
use Rattle.std.proofs.Common.{◌≡◌, ◌≢◌, ◌<◌, ℕ, zero, suc, List, [], ◌∷◌, refl, sym, ◌∙◌, ap, arith, subst}
use Rattle.std.specs.Prelude.{⊤, Bool, MatchBool, true, false, Option, None, Some, ◌++◌, get_or, slice_index, slice_set}
use mathlib.Core.Option.{none, some, some-injective, some-ne-none}
use lib.ListN.{get_elem?}
use Rattle.atomic_table.specs.Table.{Act, Allows, Me, Splits, State, Valid, carried_after, gives, keeps, opening, step, stepped, takes}
use Rattle.handoff.specs.declared.rule.Part.{Part}
use Rattle.handoff.specs.declared.rule.Part.TheVariants.{First, Alone, Idle, Gave, Ended, Ready, Works, Dismissed}
use Rattle.handoff.specs.declared.rule.View.{View}
use Rattle.atomic_table.specs.Seated.{TableId}
use Rattle.handoff.specs.Seated.{Has, HasGiven, HandoffOf, SeatOf}
use Rattle.handoff.specs.Handoffs.{BeginsGiving, EndsGiving, GivesValue, IsHandoff, LooksForWork, MayStand, ReturnsValue, Stand, TakesValue, LooksForEnd, fresh, alone, idle, given, taken, returned, ended, dismissed, knows, state_at}

module _ {T : Type 0} where
  -- what lies in a slot is one thing
  same_slot : (k : ℕ) (x y : Option T) (xs ys : List (ℕ × Option T)) → (k, x) ∷ xs ≡ (k, y) ∷ ys → x ≡ y
  same_slot k x y xs ys e = ap (λ (l : List (ℕ × Option T)). (get_or {A = ℕ × Option T} l 0 (k, x)).1) e

  same_value : (v w : T) → Some v ≡ Some w → v ≡ w
  same_value v w e = cc

  same_given : (v w : T) → Gave v ≡ Gave w → v ≡ w
  same_given v w e = cc

  same_work : (v w : T) → Works v ≡ Works w → v ≡ w
  same_work v w e = cc

  -- what the first seat does
  abbrev giving : Stand T → Part T
  giving fresh = First
  giving alone = Alone
  giving idle = Idle
  giving (given v) = Gave v
  giving (taken v) = Gave v
  giving (returned v w) = Gave v
  giving ended = Ended
  giving dismissed = Ended

  -- what the worker does; where there is none yet, any part of a worker will do
  abbrev working : Stand T → Part T
  working fresh = Dismissed
  working alone = Dismissed
  working idle = Ready
  working (given v) = Ready
  working (taken v) = Works v
  working (returned v w) = Ready
  working ended = Ready
  working dismissed = Dismissed

  -- the parts of the first seat, which is the giver's
  abbrev IsGiversPart : Part T → Type 0
  IsGiversPart First = ⊤
  IsGiversPart Alone = ⊤
  IsGiversPart Idle = ⊤
  IsGiversPart (Gave v) = ⊤
  IsGiversPart Ended = ⊤
  IsGiversPart p = ⊥

  -- the parts of the worker's seat
  abbrev IsWorkersPart : Part T → Type 0
  IsWorkersPart Ready = ⊤
  IsWorkersPart (Works v) = ⊤
  IsWorkersPart Dismissed = ⊤
  IsWorkersPart p = ⊥

  -- neither does what the other may: by each stand
  working_not_givers : (x : Stand T) → IsGiversPart (working x) → ⊥
  working_not_givers fresh may = may
  working_not_givers x may = may

  giving_not_workers : (x : Stand T) → IsWorkersPart (giving x) → ⊥
  giving_not_workers fresh may = may
  giving_not_workers x may = may

module _ {T K : Type 0} (key : K) where
  part_is : (p q : Part T) → some (knows key p) ≡ some (knows key q) → p ≡ q
  part_is p q e = ap (λ (v : View T K). v.part) (some-injective (knows key p) (knows key q) e)

  first_of : (a b p : Part T) (id : ℕ) → b ≢ p → get_elem? (knows key a ∷ knows key b ∷ []) id ≡ some (knows key p) → (id ≡ 0) × (a ≡ p)
  first_of a b p zero other e = (refl, part_is a p e)
  first_of a b p (suc zero) other e = absurd (other (part_is b p e))
  first_of a b p (suc (suc id)) other e = absurd (some-ne-none (knows key p) (sym e))

  only_one : (a p : Part T) (id : ℕ) → get_elem? (knows key a ∷ []) id ≡ some (knows key p) → (id ≡ 0) × (a ≡ p)
  only_one a p zero e = (refl, part_is a p e)
  only_one a p (suc id) e = absurd (some-ne-none (knows key p) (sym e))

  second_of : (a b p : Part T) (id : ℕ) → a ≢ p → get_elem? (knows key a ∷ knows key b ∷ []) id ≡ some (knows key p) → (id ≡ 1) × (b ≡ p)
  second_of a b p zero other e = absurd (other (part_is a p e))
  second_of a b p (suc zero) other e = (refl, part_is b p e)
  second_of a b p (suc (suc id)) other e = absurd (some-ne-none (knows key p) (sym e))

  first_in : (x : Stand T) (p : Part T) (id : ℕ) → working x ≢ p → get_elem? (state_at key x).views id ≡ some (knows key p) → (id ≡ 0) × (giving x ≡ p)
  first_in fresh p id other e = only_one First p id e
  first_in alone p id other e = only_one Alone p id e
  first_in x p id other e = first_of (giving x) (working x) p id other e

  second_in : (x : Stand T) (p : Part T) (id : ℕ) → giving x ≢ p → get_elem? (state_at key x).views id ≡ some (knows key p) → (id ≡ 1) × (working x ≡ p)
  second_in fresh p id other e = absurd (other (only_one First p id e).1)
  second_in alone p id other e = absurd (other (only_one Alone p id e).1)
  second_in x p id other e = second_of (giving x) (working x) p id other e

  -- a seat with a part of the giver's is the first
  giver_at : (x : Stand T) (p : Part T) (id : ℕ) → IsGiversPart p → get_elem? (state_at key x).views id ≡ some (knows key p) → (id ≡ 0) × (giving x ≡ p)
  giver_at x p id is at = first_in x p id (λ e. working_not_givers x (subst IsGiversPart (sym e) is)) at

  -- a seat with a part of the worker's is the second
  worker_at : (x : Stand T) (p : Part T) (id : ℕ) → IsWorkersPart p → get_elem? (state_at key x).views id ≡ some (knows key p) → (id ≡ 1) × (working x ≡ p)
  worker_at x p id is at = second_in x p id (λ e. giving_not_workers x (subst IsWorkersPart (sym e) is)) at

module _ {T K : Type 0} (can : K → T → Type 0) (done : K → T → T → Type 0) (key : K) where
  abbrev Keeps : State (Option T) (View T K) → Type 0
  Keeps = IsHandoff (can key) (done key) key

  -- what a step has to show of a state
  abbrev Goes : ℕ → Me (Option T) (View T K) → (ℕ → ℕ) → (ℕ → Me (Option T) (View T K) → Type 0) → State (Option T) (View T K) → Type 0
  Goes id me f then s = (w : View T K) × (a : Act (Option T)) × Valid s.homes me.1 a × Keeps (stepped s 0 (f (slice_index s.words 0)) id me.1 w a)
      × then (slice_index s.words 0) (w, carried_after me.1 a)

  -- a step is allowed where it can be made of each stand in which the handoff may be
  allowed : (slots id : ℕ) (me : Me (Option T) (View T K)) (f : ℕ → ℕ) (then : ℕ → Me (Option T) (View T K) → Type 0)
      → ((x : Stand T) → MayStand (can key) (done key) x → get_elem? (state_at key x).views id ≡ some me.0 → Goes id me f then (state_at key x))
      → Allows Keeps slots id me 0 f then
  allowed slots id me f then each s handoff many at small =
      subst (Goes id me f then) (sym handoff.is) (each handoff.stand handoff.may (subst (λ (t : State (Option T) (View T K)). get_elem? t.views id ≡ some me.0) handoff.is at))

  -- the same of a seat whose part is one of the giver's
  allowed_giver : (slots id : ℕ) (p : Part T) (has : List (ℕ × Option T)) (f : ℕ → ℕ) (then : ℕ → Me (Option T) (View T K) → Type 0) → IsGiversPart p
      → ((x : Stand T) → MayStand (can key) (done key) x → giving x ≡ p → Goes 0 (knows key p, has) f then (state_at key x))
      → Allows Keeps slots id (knows key p, has) 0 f then
  allowed_giver slots id p has f then is each = allowed slots id (knows key p, has) f then
      (λ x may at. let first = giver_at key x p id is at in
      subst (λ (n : ℕ). Goes n (knows key p, has) f then (state_at key x)) (sym first.0) (each x may first.1))

  -- and of the worker's
  allowed_worker : (slots id : ℕ) (p : Part T) (has : List (ℕ × Option T)) (f : ℕ → ℕ) (then : ℕ → Me (Option T) (View T K) → Type 0) → IsWorkersPart p
      → ((x : Stand T) → MayStand (can key) (done key) x → working x ≡ p → Goes 1 (knows key p, has) f then (state_at key x))
      → Allows Keeps slots id (knows key p, has) 0 f then
  allowed_worker slots id p has f then is each = allowed slots id (knows key p, has) f then
      (λ x may at. let second = worker_at key x p id is at in
      subst (λ (n : ℕ). Goes n (knows key p, has) f then (state_at key x)) (sym second.0) (each x may second.1))

  -- ---- a new handoff

  pub is_fresh : Keeps (opening (0 ∷ []) (None ∷ []) (knows key First))
  is_fresh = record { stand = fresh; is = refl; may = tt }

  begins_standing : (slots : ℕ) (x : Stand T) → giving x ≡ First
      → Goes 0 (knows key First, []) (λ n. 0) (λ n m. BeginsGiving (step slots 0 0 0 none) (knows key First, []) 0 m) (state_at key x)
  begins_standing slots fresh e = (knows key Alone, takes 0 None, refl, record { stand = alone; is = refl; may = tt }, refl)
  begins_standing slots x e = absurd (cc)

  pub begins : (slots id : ℕ) → Allows Keeps slots id (knows key First, []) 0 (λ n. 0) (λ n m. BeginsGiving (step slots 0 0 0 none) (knows key First, []) 0 m)
  begins slots id = allowed_giver slots id First [] (λ n. 0) (λ n m. BeginsGiving (step slots 0 0 0 none) (knows key First, []) 0 m) tt
      (λ x may e. begins_standing slots x e)

  abbrev Parted : ℕ → State (Option T) (View T K) → Type 0
  Parted id s = Keeps (record { words = s.words; homes = s.homes; views = slice_set s.views id (knows key Idle) ++ knows key Ready ∷ [] })

  parts_standing : (x : Stand T) → giving x ≡ Alone → Parted 0 (state_at key x)
  parts_standing alone e = record { stand = idle; is = refl; may = tt }
  parts_standing x e = absurd (cc)

  pub parts : (id : ℕ) → Splits Keeps id (knows key Alone) (knows key Idle) (knows key Ready)
  parts id s handoff at =
      let x = handoff.stand in
      let seen = subst (λ (t : State (Option T) (View T K)). get_elem? t.views id ≡ some (knows key Alone)) handoff.is at in
      let first = giver_at key x Alone id tt seen in
      subst (Parted id) (sym handoff.is) (subst (λ (n : ℕ). Parted n (state_at key x)) (sym first.0) (parts_standing x first.1))

  -- ---- the giver

  abbrev filled : T → Me (Option T) (View T K)
  filled v = (knows key Idle, (0, Some v) ∷ [])

  gives_standing : (slots : ℕ) (v : T) → can key v → (x : Stand T) → giving x ≡ Idle
      → Goes 0 (filled v) (λ n. 1) (λ n m. GivesValue (step slots 0 1 0 none) (filled v) 1 m) (state_at key x)
  gives_standing slots v may idle e = (
    knows key (Gave v),
    gives,
    tt,
    record { stand = given v; is = refl; may = may },
    λ u same. ap (λ (x : T). (knows key (Gave x), [])) (same_value v u (same_slot 0 (Some v) (Some u) [] [] same)),
  )
  gives_standing slots v may x e = absurd (cc)

  pub gives_value : (slots id : ℕ) (v : T) → can key v
      → Allows Keeps slots id (filled v) 0 (λ n. 1) (λ n m. GivesValue (step slots 0 1 0 none) (filled v) 1 m)
  gives_value slots id v may = allowed_giver slots id Idle ((0, Some v) ∷ []) (λ n. 1) (λ n m. GivesValue (step slots 0 1 0 none) (filled v) 1 m) tt
      (λ x fits e. gives_standing slots v may x e)

  abbrev waiting : T → Me (Option T) (View T K)
  waiting v = (knows key (Gave v), [])

  abbrev Takes : ℕ → T → State (Option T) (View T K) → Type 0
  Takes slots v = Goes 0 (waiting v) (λ n. n) (TakesValue done (step slots 0 0 0 none) (waiting v))

  waits_standing : (slots : ℕ) (v : T) → can key v → Takes slots v (state_at key (given v))
  waits_standing slots v may = (knows key (Gave v), keeps, tt, record { stand = given v; is = refl; may = may }, λ u same. refl)

  worked_standing : (slots : ℕ) (v : T) → Takes slots v (state_at key (taken v))
  worked_standing slots v = (knows key (Gave v), keeps, tt, record { stand = taken v; is = refl; may = tt }, λ u same. refl)

  takes_standing : (slots : ℕ) (v w : T) → done key v w → Takes slots v (state_at key (returned v w))
  takes_standing slots v w did = (
    knows key Idle,
    takes 0 (Some w),
    refl,
    record { stand = idle; is = refl; may = tt },
    λ u same. (w, subst (λ (x : T). done key x w) (same_given v u same) did, refl),
  )

  takes_any : (slots : ℕ) (v : T) (x : Stand T) → MayStand (can key) (done key) x → giving x ≡ Gave v → Takes slots v (state_at key x)
  takes_any slots v (given u) may e = let same = same_given u v e in
      subst (λ (x : T). Takes slots v (state_at key (given x))) (sym same) (waits_standing slots v (subst (can key) same may))
  takes_any slots v (taken u) may e = subst (λ (x : T). Takes slots v (state_at key (taken x))) (sym (same_given u v e)) (worked_standing slots v)
  takes_any slots v (returned u w) may e = let same = same_given u v e in
      subst (λ (x : T). Takes slots v (state_at key (returned x w))) (sym same) (takes_standing slots v w (subst (λ (x : T). done key x w) same may))
  takes_any slots v x may e = absurd (cc)

  pub takes_value : (slots id : ℕ) (v : T)
      → Allows Keeps slots id (waiting v) 0 (λ n. n) (TakesValue done (step slots 0 0 0 none) (waiting v))
  takes_value slots id v = allowed_giver slots id (Gave v) [] (λ n. n) (TakesValue done (step slots 0 0 0 none) (waiting v)) tt (takes_any slots v)

  abbrev emptied : Me (Option T) (View T K)
  emptied = (knows key Idle, (0, None) ∷ [])

  ends_standing : (slots : ℕ) (x : Stand T) → giving x ≡ Idle
      → Goes 0 emptied (λ n. 2) (λ n m. EndsGiving (step slots 0 2 0 none) emptied 2 m) (state_at key x)
  ends_standing slots idle e = (knows key Ended, gives, tt, record { stand = ended; is = refl; may = tt }, refl)
  ends_standing slots x e = absurd (cc)

  pub ends : (slots id : ℕ) → Allows Keeps slots id emptied 0 (λ n. 2) (λ n m. EndsGiving (step slots 0 2 0 none) emptied 2 m)
  ends slots id = allowed_giver slots id Idle ((0, None) ∷ []) (λ n. 2) (λ n m. EndsGiving (step slots 0 2 0 none) emptied 2 m) tt
      (λ x may e. ends_standing slots x e)

  empty_standing : (x : Stand T) → giving x ≡ Ended → get_elem? (state_at key x).homes 0 ≡ some (some None)
  empty_standing ended e = refl
  empty_standing dismissed e = refl
  empty_standing x e = absurd (cc)

  -- where the giver has ended, the slot is empty
  pub slot_empty : (s : State (Option T) (View T K)) (id : ℕ) → Keeps s → get_elem? s.views id ≡ some (knows key Ended) → get_elem? s.homes 0 ≡ some (some None)
  slot_empty s id handoff at =
      let x = handoff.stand in
      let seen = subst (λ (t : State (Option T) (View T K)). get_elem? t.views id ≡ some (knows key Ended)) handoff.is at in
      subst (λ (t : State (Option T) (View T K)). get_elem? t.homes 0 ≡ some (some None)) (sym handoff.is)
      (empty_standing x (giver_at key x Ended id tt seen).1)

  -- ---- the worker

  abbrev ready : Me (Option T) (View T K)
  ready = (knows key Ready, [])

  abbrev Looked : ℕ → State (Option T) (View T K) → Type 0
  Looked slots = Goes 1 ready (λ n. n) (LooksForWork can (step slots 0 0 0 none) ready)

  looks_standing : (slots : ℕ) (x : Stand T) → MayStand (can key) (done key) x → working x ≡ Ready → Looked slots (state_at key x)
  looks_standing slots idle may e = (knows key Ready, keeps, tt, record { stand = idle; is = refl; may = tt }, refl)
  looks_standing slots (given v) may e = (knows key (Works v), takes 0 (Some v), refl, record { stand = taken v; is = refl; may = tt }, (v, may, refl))
  looks_standing slots (returned v w) may e = (knows key Ready, keeps, tt, record { stand = returned v w; is = refl; may = may }, refl)
  looks_standing slots ended may e = (knows key Ready, keeps, tt, record { stand = ended; is = refl; may = tt }, refl)
  looks_standing slots x may e = absurd (cc)

  pub looks : (slots id : ℕ) → Allows Keeps slots id ready 0 (λ n. n) (LooksForWork can (step slots 0 0 0 none) ready)
  looks slots id = allowed_worker slots id Ready [] (λ n. n) (LooksForWork can (step slots 0 0 0 none) ready) tt (looks_standing slots)

  abbrev SeenEnd : ℕ → State (Option T) (View T K) → Type 0
  SeenEnd slots = Goes 1 ready (λ n. n) (LooksForEnd (step slots 0 0 0 none) ready)

  sees_standing : (slots : ℕ) (x : Stand T) → MayStand (can key) (done key) x → working x ≡ Ready → SeenEnd slots (state_at key x)
  sees_standing slots idle may e = (knows key Ready, keeps, tt, record { stand = idle; is = refl; may = tt }, refl)
  sees_standing slots (given v) may e = (knows key Ready, keeps, tt, record { stand = given v; is = refl; may = may }, refl)
  sees_standing slots (returned v w) may e = (knows key Ready, keeps, tt, record { stand = returned v w; is = refl; may = may }, refl)
  sees_standing slots ended may e = (knows key Dismissed, keeps, tt, record { stand = dismissed; is = refl; may = tt }, refl)
  sees_standing slots x may e = absurd (cc)

  pub sees_end : (slots id : ℕ) → Allows Keeps slots id ready 0 (λ n. n) (LooksForEnd (step slots 0 0 0 none) ready)
  sees_end slots id = allowed_worker slots id Ready [] (λ n. n) (LooksForEnd (step slots 0 0 0 none) ready) tt (sees_standing slots)

  abbrev worked : T → T → Me (Option T) (View T K)
  worked v w = (knows key (Works v), (0, Some w) ∷ [])

  abbrev Returns : ℕ → T → T → State (Option T) (View T K) → Type 0
  Returns slots v w = Goes 1 (worked v w) (λ n. 0) (λ n m. ReturnsValue (step slots 0 0 0 none) (worked v w) 0 m)

  returns_standing : (slots : ℕ) (v w : T) → done key v w → Returns slots v w (state_at key (taken v))
  returns_standing slots v w did = (knows key Ready, gives, tt, record { stand = returned v w; is = refl; may = did }, refl)

  returns_any : (slots : ℕ) (v w : T) → done key v w → (x : Stand T) → working x ≡ Works v → Returns slots v w (state_at key x)
  returns_any slots v w did (taken u) e = subst (λ (x : T). Returns slots v w (state_at key (taken x))) (sym (same_work u v e)) (returns_standing slots v w did)
  returns_any slots v w did x e = absurd (cc)

  pub returns_value : (slots id : ℕ) (v w : T) → done key v w
      → Allows Keeps slots id (worked v w) 0 (λ n. 0) (λ n m. ReturnsValue (step slots 0 0 0 none) (worked v w) 0 m)
  returns_value slots id v w did = allowed_worker slots id (Works v) ((0, Some w) ∷ []) (λ n. 0)
      (λ n m. ReturnsValue (step slots 0 0 0 none) (worked v w) 0 m) tt (λ x may e. returns_any slots v w did x e)

-- ---- a seat, by what it has

module _ {T K : Type 0} (can : K → T → Type 0) (done : K → T → T → Type 0) {id : TableId} {key : K} {handoff : HandoffOf K}
    (view : record { id = id; key = key } ≡ handoff) (words : id.words ≡ 1) where
  -- what a step on the word asks of a seat: its table, that the table has a word, and that the rule allows the step
  pub may_step : {p : Part T} {has : List (ℕ × Option T)} (seat : SeatOf T K) (f : ℕ → ℕ) (then : ℕ → Me (Option T) (View T K) → ℕ → Me (Option T) (View T K) → Type 0)
      → Has handoff p has seat → Allows (IsHandoff (can handoff.key) (done handoff.key) handoff.key) handoff.id.slots seat.id (knows handoff.key p, has) 0 f
      (then handoff.id.slots (knows handoff.key p, has))
      → (seat.table_id ≡ id) × (0 < id.words) × Allows (IsHandoff (can key) (done key) key) id.slots seat.id seat.me 0 f (then id.slots seat.me)
  may_step seat f then has may = (
    has.same ∙ sym (ap (λ (h : HandoffOf K). h.id) view),
    omega (arith, words),
    subst (λ (h : HandoffOf K). Allows (IsHandoff (can h.key) (done h.key) h.key) h.id.slots seat.id seat.me 0 f (then h.id.slots seat.me)) (sym view)
        (subst (λ m. Allows (IsHandoff (can handoff.key) (done handoff.key) handoff.key) handoff.id.slots seat.id m 0 f (then handoff.id.slots m)) (sym has.me) may),
  )

-- what a look of the giver tells, by its clauses
pub looked : {T K : Type 0} (done : K → T → T → Type 0) (handoff : HandoffOf K) (v : T) (old new : SeatOf T K) → HasGiven handoff v old
    → new.table_id ≡ old.table_id → (b : Bool)
    → MatchBool b ((w : T) × done old.me.0.key v w × (new.me ≡ (knows old.me.0.key Idle, (0, Some w) ∷ []))) (new.me ≡ (old.me.0, []))
    → MatchBool b ((w : T) × (done handoff.key v w × Has handoff Idle ((0, Some w) ∷ []) new)) (HasGiven handoff v new)
looked {T} {K} done handoff v old new giver same true told =
    let w = told.0 in (
      w,
      (
        subst (λ (k : K). done k v w) (ap (λ (m : Me (Option T) (View T K)). m.0.key) giver.me) told.1,
        record { same = same ∙ giver.same; me = told.2 ∙ ap (λ (m : Me (Option T) (View T K)). (knows m.0.key Idle, (0, Some w) ∷ [])) giver.me },
      ),
    )
looked {T} {K} done handoff v old new giver same false told =
    record { same = same ∙ giver.same; me = told ∙ ap (λ (m : Me (Option T) (View T K)). (m.0, [])) giver.me }
