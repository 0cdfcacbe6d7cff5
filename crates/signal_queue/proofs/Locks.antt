-- A try of a lock, and its end, keep its rule.
use Rattle.std.proofs.Common.{◌≡◌, ◌⊎◌, inl, inr, ⊎_elim, ℕ, zero, suc, true, false, List, [], ◌∷◌, ◌++◌, length, refl, sym, ◌∙◌, subst, ap}
use Rattle.std.specs.Prelude.{Option, Some, get_or, slice_index, slice_set}
use Rattle.std.proofs.lemmas.Bool.{true≢false, cases_Bool}
use mathlib.Core.Option.{none, some, some-injective, some-ne-none}
use lib.ListN.{get_elem?}
use Rattle.atomic_table.specs.Table.{Act, Allows, Arrives, Enters, Me, State, Valid, carried_after, gives, homes_after, keeps, step, stepped, takes}
use Rattle.atomic_table.proofs.Lists.{at_set}
use Rattle.signal_queue.specs.Ends.{SeatOfQueue}
use Rattle.signal_queue.specs.declared.ends.End.{End}
use Rattle.signal_queue.specs.Locks.{FreesLock, IsLock, SeesLock, TriesLock, first_lock_view, idle_lock_view}
use Rattle.signal_queue.specs.declared.lock.LockView.{LockView}
use Rattle.signal_queue.specs.declared.lock.Past.{Past}
use Rattle.signal_queue.specs.declared.lock.Past.TheVariants.{GaveBack, New, Refused}

-- a view that comes last stands at the length of the list, or was there before
last_is : (views : List LockView) (w v : LockView) (j : ℕ) → get_elem? (views ++ w ∷ []) j ≡ some v → (get_elem? views j ≡ some v) ⊎ ((j ≡ length views) × (w ≡ v))
last_is [] w v zero e = inr (refl, some-injective w v e)
last_is [] w v (suc j) e = absurd (some-ne-none v (sym e))
last_is (x ∷ xs) w v zero e = inl e
last_is (x ∷ xs) w v (suc j) e = ⊎_elim (λ t. inl t) (λ t. inr (ap suc t.0, t.1)) (last_is xs w v j e)

module _ (is_end : SeatOfQueue → End → Type 0) (of : SeatOfQueue) where
  -- what a try of a lock in this state has to show
  abbrev Goes : State (Option End) LockView → Type 0
  Goes s = (w : LockView) × (a : Act (Option End)) × Valid s.homes [] a
      × IsLock is_end of record { words = slice_set s.words 0 1; homes = homes_after s.homes [] a; views = s.views ++ w ∷ [] }
      × TriesLock is_end (step 1 0 1 0 none) (first_lock_view of, []) (slice_index s.words 0) (w, carried_after [] a)

  goes_free : (end : End) (views : List LockView) → is_end of end
      → ((j : ℕ) (v : LockView) → get_elem? views j ≡ some v → (v.of ≡ of) × (v.holds ≡ false))
      → Goes (record { words = 0 ∷ []; homes = some (Some end) ∷ []; views = views })
  goes_free end views fits known = (
    record { of = of; holds = true; past = New },
    takes 0 (Some end),
    refl,
    inr (record {
      words = refl;
      homes = refl;
      by = length views;
      views = λ j v e. ⊎_elim (λ t. let k = known j v t in (k.0, λ on. absurd (true≢false (sym on ∙ k.1))))
          (λ t. (ap (λ (u : LockView). u.of) (sym t.1), λ on. t.0)) (last_is views (record { of = of; holds = true; past = New }) v j e);
    }),
    (end, refl, fits),
  )

  -- a seat without an end may come last
  comes_last : (past : Past) (views : List LockView) (P : ℕ → LockView → Type 0) → ((j : ℕ) (v : LockView) → get_elem? views j ≡ some v → P j v)
      → ((j : ℕ) → P j (idle_lock_view past of)) → (j : ℕ) (v : LockView) → get_elem? (views ++ idle_lock_view past of ∷ []) j ≡ some v → P j v
  comes_last past views P known last j v e =
      ⊎_elim (λ t. known j v t) (λ t. subst (P j) t.1 (last j)) (last_is views (idle_lock_view past of) v j e)

  goes_taken : (by : ℕ) (views : List LockView)
      → ((j : ℕ) (v : LockView) → get_elem? views j ≡ some v → (v.of ≡ of) × (v.holds ≡ true → j ≡ by))
      → Goes (record { words = 1 ∷ []; homes = none ∷ []; views = views })
  goes_taken by views known = (
    idle_lock_view Refused of,
    keeps,
    tt,
    inr (record {
      words = refl;
      homes = refl;
      by = by;
      views = comes_last Refused views (λ j v. (v.of ≡ of) × (v.holds ≡ true → j ≡ by)) known (λ j. (refl, λ on. absurd (true≢false (sym on))));
    }),
    refl,
  )

  -- a try keeps the rule
  pub tries : (slots : ℕ) → Arrives (IsLock is_end of) slots 0 (λ n. 1) (TriesLock is_end (step slots 0 1 0 none) (first_lock_view of, []))
  tries slots s (inl free) many small =
      subst Goes (sym (λ i. record { words = free.words i; homes = free.homes i; views = s.views })) (goes_free free.end s.views free.fits free.views)
  tries slots s (inr taken) many small =
      subst Goes (sym (λ i. record { words = taken.words i; homes = taken.homes i; views = s.views })) (goes_taken taken.by s.views taken.views)

  -- what a look at a lock in this state has to show
  abbrev Looks : State (Option End) LockView → Type 0
  Looks s = (w : LockView) × IsLock is_end of record { words = s.words; homes = s.homes; views = s.views ++ w ∷ [] }
      × SeesLock (step 1 0 0 0 none) (first_lock_view of, []) (slice_index s.words 0) (w, [])

  -- a look keeps the rule
  pub sees : (slots : ℕ) → Enters (IsLock is_end of) slots 0 (λ n w. SeesLock (step slots 0 0 0 none) (first_lock_view of, []) n (w, []))
  sees slots s (inl free) many small =
      subst Looks (sym (λ i. record { words = free.words i; homes = free.homes i; views = s.views })) (
        first_lock_view of,
        inl (record {
          words = refl;
          end = free.end;
          homes = refl;
          fits = free.fits;
          views = comes_last New s.views (λ j v. (v.of ≡ of) × (v.holds ≡ false)) free.views (λ j. (refl, refl));
        }),
        refl,
      )
  sees slots s (inr taken) many small =
      subst Looks (sym (λ i. record { words = taken.words i; homes = taken.homes i; views = s.views })) (
        idle_lock_view Refused of,
        inr (record {
          words = refl;
          homes = refl;
          by = taken.by;
          views = comes_last Refused s.views (λ j v. (v.of ≡ of) × (v.holds ≡ true → j ≡ taken.by)) taken.views (λ j. (refl, λ on. absurd (true≢false (sym on))));
        }),
        refl,
      )

  -- ---- the end is put back

  abbrev pub held : End → Me (Option End) LockView
  held end = (record { of = of; holds = true; past = New }, (0, Some end) ∷ [])

  abbrev Returns : ℕ → End → State (Option End) LockView → Type 0
  Returns id end s = (w : LockView) × (a : Act (Option End)) × Valid s.homes (held end).1 a × IsLock is_end of (stepped s 0 0 id (held end).1 w a)
      × FreesLock (step 1 0 0 0 none) (held end) 0 (w, carried_after (held end).1 a)

  returns_taken : (id : ℕ) (end : End) (by : ℕ) (views : List LockView) → is_end of end
      → ((j : ℕ) (v : LockView) → get_elem? views j ≡ some v → (v.of ≡ of) × (v.holds ≡ true → j ≡ by))
      → get_elem? views id ≡ some (held end).0
      → Returns id end (record { words = 1 ∷ []; homes = none ∷ []; views = views })
  returns_taken id end by views fits known at =
      let here : id ≡ by = (known id (held end).0 at).1 refl in (
        idle_lock_view GaveBack of,
        gives,
        tt,
        inl (record {
          words = refl;
          end = end;
          homes = refl;
          fits = fits;
          views = λ j v e. ⊎_elim (λ t. (ap (λ (u : LockView). u.of) (sym t.1), ap (λ (u : LockView). u.holds) (sym t.1)))
              (λ t. let k = known j v t.1 in (k.0, ⊎_elim (λ on. absurd (t.0 (k.1 on ∙ sym here))) (λ off. off) (cases_Bool v.holds)))
              (at_set views id j (idle_lock_view GaveBack of) v e);
        }),
        refl,
      )

  pub returns : (slots id : ℕ) (end : End) → is_end of end → Allows (IsLock is_end of) slots id (held end) 0 (λ n. 0) (λ n. FreesLock (step slots 0 0 0 none) (held end) 0)
  returns slots id end fits s (inl free) many at small = absurd (true≢false ((free.views id (held end).0 at).1))
  returns slots id end fits s (inr taken) many at small =
      subst (Returns id end) (sym (λ i. record { words = taken.words i; homes = taken.homes i; views = s.views }))
      (returns_taken id end taken.by s.views fits taken.views at)

-- what lies in a slot is one thing
pub same_slot : (k : ℕ) (x y : Option End) (xs ys : List (ℕ × Option End)) → (k, x) ∷ xs ≡ (k, y) ∷ ys → x ≡ y
same_slot k x y xs ys e = ap (λ (l : List (ℕ × Option End)). (get_or {A = ℕ × Option End} l 0 (k, x)).1) e

pub same_end : (x y : End) → Some x ≡ Some y → x ≡ y
same_end x y e = cc
