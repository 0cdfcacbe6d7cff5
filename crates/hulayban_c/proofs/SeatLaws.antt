-- How seats come and go has one answer for each seat.
use Rattle.std.proofs.Common.{◌≡◌, ap, sym, ◌∙◌, subst, refl, ◌⊎◌, inl, inr}
use Rattle.std.specs.Prelude.{ℕ, ℤ, ◌≢◌, List, Option, Some, None}
use Rattle.base_row.specs.Calls.{BaseRowOf}
use Rattle.hr_timers.specs.Known.{KnownOfTimers, PassOf}
use Rattle.hr_timers.specs.declared.numbers.ClaimNumbers.{ClaimNumbers}
use Rattle.hulayban_c.specs.SeatLaws.{AreAlikeKept, AreAlikeSeats, IsSeatIfAny, known_by_held}
use Rattle.hulayban_c.specs.Seats.{IsHeld, IsSeat, SeatAt, claims_of_seat}
use Rattle.hulayban_c.specs.SharedSeats.{IsFirstSeat, SharedLeave, SharedOpen, SharedSplit, SplitsNone, SplitsOff, fault_shared}
use Rattle.hulayban_c.specs.declared.codes.TheConstants.{DONE, NO_MEMORY}
use Rattle.hulayban_c.specs.declared.crossing.Declares.{Declares}
use Rattle.hulayban_c.specs.declared.shared.held.Held.{Held}
use Rattle.hulayban_c.specs.declared.shared.held.Held.TheVariants as holds

-- ---- what is alike

alike_kept : (k : Option SeatAt) → AreAlikeKept k k
alike_kept None = tt
alike_kept (Some s) = record { about = refl; known = refl; claim = refl }

same_kept : (k l m : Option SeatAt) → k ≡ m → l ≡ m → AreAlikeKept k l
same_kept k l m e f = subst (λ x. AreAlikeKept x l) (sym e) (subst (AreAlikeKept m) (sym f) (alike_kept m))

seats_kept : (k l : Option SeatAt) (s t : SeatAt) → k ≡ Some s → l ≡ Some t → AreAlikeSeats s t → AreAlikeKept k l
seats_kept k l s t e f same = subst (λ x. AreAlikeKept x l) (sym e) (subst (AreAlikeKept (Some s)) (sym f) same)

known_of : (h : Held) (p : PassOf) (k : KnownOfTimers) → h ≡ holds.Rests p → p.known ≡ k → known_by_held h ≡ Some k
known_of h p k e f = ap known_by_held e ∙ ap Some f

abbrev resting : BaseRowOf → PassOf → Option ClaimNumbers → SeatAt
resting timers p claim = record { timers = timers; held = holds.Rests p; claim = claim }

-- two seats at the same timers, by passes that know the same
resting_alike : (timers : BaseRowOf) (p q : PassOf) (claim : Option ClaimNumbers) (s t : SeatAt) (k : KnownOfTimers) → s ≡ resting timers p claim
    → t ≡ resting timers q claim → p.known ≡ k → q.known ≡ k → AreAlikeSeats s t
resting_alike timers p q claim s t k e f g h = record {
  about = ap (λ (x : SeatAt). x.timers.about) e ∙ sym (ap (λ (x : SeatAt). x.timers.about) f);
  known = known_of s.held p k (ap (λ (x : SeatAt). x.held) e) g ∙ sym (known_of t.held q k (ap (λ (x : SeatAt). x.held) f) h);
  claim = ap (λ (x : SeatAt). x.claim) e ∙ sym (ap (λ (x : SeatAt). x.claim) f);
}

-- a seat that holds nothing keeps no invariant
not_taken : (s : SeatAt) → IsSeat s.timers s.held s.claim → s.held ≡ holds.Taken → ⊥
not_taken s whole e = subst (λ h. IsHeld s.timers (claims_of_seat s.claim) h) e whole.0

-- ---- open

module _ (bases : ℕ) (declares : List Declares) (max_events : ℕ) (r r' : ℤ) (is is' : Option SeatAt) (no : r ≢ NO_MEMORY) (no' : r' ≢ NO_MEMORY) where
  abbrev Opens : ℤ → Option SeatAt → Type 0
  Opens n k = ((n ≡ DONE) × (s : SeatAt) × (k ≡ Some s) × IsFirstSeat bases declares max_events s) ⊎ ((n ≡ NO_MEMORY) × (k ≡ None))

  first_alike : (s t : SeatAt) → IsFirstSeat bases declares max_events s → IsFirstSeat bases declares max_events t → AreAlikeSeats s t
  first_alike s t a b = record {
    about = a.about ∙ sym b.about;
    known = known_of s.held a.first.0 _ a.first.1 a.first.2 ∙ sym (known_of t.held b.first.0 _ b.first.1 b.first.2);
    claim = a.claim ∙ sym b.claim;
  }

  opened_once : Opens r is → Opens r' is' → (r ≡ r') × AreAlikeKept is is'
  opened_once (inl x) (inl y) = (x.0 ∙ sym y.0, seats_kept is is' x.1 y.1 x.2 y.2 (first_alike x.1 y.1 x.3 y.3))
  opened_once (inl x) (inr y) = absurd (no' y.0)
  opened_once (inr x) y = absurd (no x.0)

  pub open_once : (was : Option SeatAt) → SharedOpen was bases declares max_events r is → SharedOpen was bases declares max_events r' is'
      → (r ≡ r') × AreAlikeKept is is'
  open_once (Some s) a b = let x = a.in_use refl in let y = b.in_use refl in (x.0 ∙ sym y.0, same_kept is is' (Some s) x.1 y.1)
  open_once None a b = by_fault (fault_shared bases declares max_events) refl
    where
      by_fault : (f : Option ℤ) → fault_shared bases declares max_events ≡ f → (r ≡ r') × AreAlikeKept is is'
      by_fault (Some code) e = let x = a.bad code refl e in let y = b.bad code refl e in (x.0 ∙ sym y.0, same_kept is is' None x.1 y.1)
      by_fault None e = opened_once (a.opened refl e) (b.opened refl e)

-- ---- split

module _ (r r' : ℤ) (is is' new new' : Option SeatAt) (no : r ≢ NO_MEMORY) (no' : r' ≢ NO_MEMORY) where
  abbrev Splits : SeatAt → PassOf → ℤ → Option SeatAt → Option SeatAt → Type 0
  Splits s p n k l = ((n ≡ DONE) × (t : SeatAt) × (u : SeatAt) × (k ≡ Some t) × (l ≡ Some u) × SplitsOff s p t u)
      ⊎ ((n ≡ NO_MEMORY) × (t : SeatAt) × (k ≡ Some t) × (l ≡ None) × SplitsNone s p t)

  abbrev Same : Type 0
  Same = (r ≡ r') × AreAlikeKept is is' × AreAlikeKept new new'

  splits_once : (s : SeatAt) (p : PassOf) → Splits s p r is new → Splits s p r' is' new' → Same
  splits_once s p (inl x) (inl y) =
      let a = x.5 in
      let b = y.5 in (
        x.0 ∙ sym y.0,
        seats_kept is is' x.1 y.1 x.3 y.3
            (resting_alike s.timers a.stays.0 b.stays.0 s.claim x.1 y.1 _ a.stays.2 b.stays.2 a.stays.1 b.stays.1),
        seats_kept new new' x.2 y.2 x.4 y.4 (resting_alike s.timers a.goes.0 b.goes.0 None x.2 y.2 _ a.goes.2 b.goes.2 a.goes.1 b.goes.1),
      )
  splits_once s p (inl x) (inr y) = absurd (no' y.0)
  splits_once s p (inr x) y = absurd (no x.0)

  pub split_once : (was none : Option SeatAt) → IsSeatIfAny was → SharedSplit was none r is new → SharedSplit was none r' is' new' → Same
  split_once None none whole a b =
      let x = a.no_timers refl in
      let y = b.no_timers refl in (x.0 ∙ sym y.0, same_kept is is' None x.1 y.1, same_kept new new' none x.2 y.2)
  split_once (Some s) (Some n) whole a b =
      let x = a.in_use s refl refl in
      let y = b.in_use s refl refl in (x.0 ∙ sym y.0, same_kept is is' (Some s) x.1 y.1, same_kept new new' (Some n) x.2 y.2)
  split_once (Some s) None whole a b = by_held s.held refl
    where
      by_held : (h : Held) → s.held ≡ h → Same
      by_held (holds.Carries c) e =
          let x = a.carries s c refl refl e in
          let y = b.carries s c refl refl e in (x.0 ∙ sym y.0, same_kept is is' (Some s) x.1 y.1, same_kept new new' None x.2 y.2)
      by_held (holds.Rests p) e = splits_once s p (a.splits s p refl refl e) (b.splits s p refl refl e)
      by_held holds.Taken e = absurd (not_taken s whole e)

-- ---- leave

module _ (r r' : ℤ) (is is' : Option SeatAt) where
  pub leave_once : (was : Option SeatAt) → IsSeatIfAny was → SharedLeave was r is → SharedLeave was r' is' → (r ≡ r') × (is ≡ is')
  leave_once None whole a b = let x = a.no_timers refl in let y = b.no_timers refl in (x.0 ∙ sym y.0, x.1 ∙ sym y.1)
  leave_once (Some s) whole a b = by_held s.held s.claim refl refl
    where
      by_held : (h : Held) (claim : Option ClaimNumbers) → s.held ≡ h → s.claim ≡ claim → (r ≡ r') × (is ≡ is')
      by_held (holds.Carries c) claim e f =
          let x = a.carries s c refl e in
          let y = b.carries s c refl e in (x.0 ∙ sym y.0, x.1 ∙ sym y.1)
      by_held (holds.Rests p) (Some n) e f =
          let x = a.holds s p n refl e f in
          let y = b.holds s p n refl e f in (x.0 ∙ sym y.0, x.1 ∙ sym y.1)
      by_held (holds.Rests p) None e f =
          let x = a.left s refl ((p, e), f) in
          let y = b.left s refl ((p, e), f) in (x.0 ∙ sym y.0, x.1 ∙ sym y.1)
      by_held holds.Taken claim e f = absurd (not_taken s whole e)
