-- What a pass has taken of base locks, and knows of their words, goes on.
use Rattle.std.proofs.Common.{◌≡◌, ◌≢◌, ℕ, ◌+◌, ◌≤◌, List, [], ◌∷◌, ◌++◌, arith, zero, suc, ap, sym, subst, ⊎_elim, set}
use Rattle.std.specs.Prelude.{Some, slice_index}
use Rattle.std.proofs.lemmas.Bool.{cases_eq}
use Rattle.pass_names.specs.Passes.{Begins}
use Rattle.pass_names.proofs.Passes.{begins_refl, begins_trans}
use Rattle.seq_timer.specs.Events.{Event}
use Rattle.seq_timer.specs.Systems.{BaseContent}
use Rattle.seq_timer.specs.declared.standing.BaseEvent.{BaseEvent}
use Rattle.base_row.specs.declared.view.HeldContent.{HeldContent}
use Rattle.base_row.specs.declared.view.Opening.{Opening}
use Rattle.base_row.specs.declared.view.BaseView.{BaseView}
use Rattle.base_row.specs.Calls as rows
use Rattle.base_row.specs.Plays.{KnowsOwn, greater}
use Rattle.hr_timers.specs.Known.{LocksGoOnFrom, LocksGoOnIn}

-- ---- lists

begins_same : {E : Type 0} (xs ys : List E) → ys ≡ xs → Begins xs ys
begins_same xs ys same = subst (λ l. Begins xs l) (sym same) (begins_refl xs)

-- a word that becomes no older is the only one that is another
set_no_older : (met : List ℕ) (b word c : ℕ) → slice_index met b ≤ word → slice_index met c ≤ slice_index (set met b word) c
set_no_older [] b word c le = omega arith
set_no_older (x ∷ xs) zero word zero le = le
set_no_older (x ∷ xs) zero word (suc c) le = omega arith
set_no_older (x ∷ xs) (suc b) word zero le = omega arith
set_no_older (x ∷ xs) (suc b) word (suc c) le = set_no_older xs b word c le

greater_no_older : (xs ys : List ℕ) (c : ℕ) → slice_index xs c ≤ slice_index (greater xs ys) c
greater_no_older [] ys c = omega arith
greater_no_older (x ∷ xs) [] c = omega arith
greater_no_older (x ∷ xs) (y ∷ ys) zero = omega arith
greater_no_older (x ∷ xs) (y ∷ ys) (suc c) = greater_no_older xs ys c

-- ---- any two passes

pub locks_refl : (x : List (ℕ × ℕ)) (k : List ℕ) → LocksGoOnFrom x x k k
locks_refl x k = record { takes = begins_refl x; met = λ b. omega arith }

pub locks_trans : {x y z : List (ℕ × ℕ)} {k l m : List ℕ} → LocksGoOnFrom x y k l → LocksGoOnFrom y z l m → LocksGoOnFrom x z k m
locks_trans a b = record { takes = begins_trans a.takes b.takes; met = λ c. omega (arith, a.met c, b.met c) }

pub locks_same : (x y : List (ℕ × ℕ)) (k l : List ℕ) → y ≡ x → l ≡ k → LocksGoOnFrom x y k l
locks_same x y k l takes met = record { takes = begins_same x y takes; met = λ b. omega (arith, ap (λ q. slice_index q b) met) }

-- takes of another pass, and what it knows of lock words
pub locks_told : (x y z : List (ℕ × ℕ)) (k l m : List ℕ) → z ≡ x ++ y → m ≡ greater k l → LocksGoOnFrom x z k m
locks_told x y z k l m takes met = record {
  takes = record { rest = y; whole = takes };
  met = λ b. omega (arith, ap (λ q. slice_index q b) met, greater_no_older k l b);
}

-- ---- calls on bases

abbrev takes_of : BaseView BaseContent → List (ℕ × ℕ)
takes_of v = v.takes

abbrev met_of : BaseView BaseContent → List ℕ
met_of v = v.met

pub locks_seen : (v w : BaseView BaseContent) → rows.SeesFurther v w → LocksGoOnIn v w
locks_seen v w s = locks_same v.takes w.takes v.met w.met (ap takes_of s.rest) (ap met_of s.rest)

no_older : (base : ℕ) (v w : BaseView BaseContent) → slice_index v.met base ≤ slice_index w.met base
    → ((c : ℕ) → c ≢ base → slice_index w.met c ≡ slice_index v.met c) → (b : ℕ) → slice_index v.met b ≤ slice_index w.met b
no_older base v w newer apart b = ⊎_elim
    (λ (e : b ≡ base). subst (λ q. slice_index v.met q ≤ slice_index w.met q) (sym e) newer)
    (λ n. omega (arith, apart b n))
    (cases_eq b base)

pub locks_got : (base : ℕ) (v w : BaseView BaseContent) (h : HeldContent BaseContent) → rows.GetsBase base v w h → LocksGoOnIn v w
locks_got base v w h got = record {
  takes = record { rest = (base, got.number) ∷ []; whole = ap takes_of got.rest };
  met = no_older base v w got.newer got.apart;
}

pub locks_missed : (base : ℕ) (v w : BaseView BaseContent) → rows.MissesBase base v w → LocksGoOnIn v w
locks_missed base v w missed = record {
  takes = begins_same v.takes w.takes (ap takes_of missed.waits.rest);
  met = no_older base v w missed.waits.newer missed.waits.apart;
}

pub locks_entered : (o : Opening) (h : HeldContent BaseContent) (t : ℕ) (event : Event) (v w : BaseView BaseContent) → rows.Appended o h t event v w
    → LocksGoOnIn v w
locks_entered o h t event v w told = locks_same v.takes w.takes v.met w.met (ap takes_of told.rest) (ap met_of told.rest)

pub locks_shifted : (o : Opening) (h : HeldContent BaseContent) (event : BaseEvent) (v w : BaseView BaseContent) → rows.Shifted o h event v w
    → LocksGoOnIn v w
locks_shifted o h event v w told = locks_same v.takes w.takes v.met w.met (ap takes_of told.rest) (ap met_of told.rest)

-- a base that is let go is held with the lock word that its pass knows
pub locks_freed : (o : Opening) (h : HeldContent BaseContent) (v w : BaseView BaseContent) → KnowsOwn v → v.held ≡ Some h → rows.LetsGo o h v w
    → LocksGoOnIn v w
locks_freed o h v w own held free = record {
  takes = begins_same v.takes w.takes (ap takes_of free.rest);
  met = λ b. subst (λ l. slice_index v.met b ≤ slice_index l b) (sym (ap met_of free.rest))
      (set_no_older v.met h.base (h.word + 1) b (omega (arith, (own.held h held).1.1)));
}
