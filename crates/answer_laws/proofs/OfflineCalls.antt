-- By the moments of its moves, and by what was then seen, taking a base off line has one answer; and so has taking it on line.
use Rattle.std.proofs.Common.{◌≡◌, ◌≤◌, ◌<◌, ℕ, List, [], ◌∷◌, ap, sym, ◌∙◌, subst, refl, Bool, true, false, length, length-append, arith, ◌⊎◌, inl, inr}
use Rattle.std.specs.Prelude.{Option, Some, None, IsSome, ◌+◌, ◌++◌, nat_le, nat_lt, if◌then◌else◌}
use Rattle.ktime.specs.Readings.{ClockReading}
use Rattle.seq_timer.specs.Contents.{front_of}
use Rattle.seq_timer.specs.Halves.{running_on}
use Rattle.seq_timer.specs.Standings.{AreShifts, first_standing, last_standing, standing_after, standing_after_all}
use Rattle.seq_timer.specs.Systems.{first_system, shifts_of, system_after}
use Rattle.seq_timer.specs.Tables.{in_context, is_armed_on}
use Rattle.seq_timer.specs.declared.context.Context.TheVariants as contexts
use Rattle.seq_timer.specs.declared.standing.BaseEvent.{BaseEvent}
use Rattle.seq_timer.specs.declared.standing.BaseEvent.TheVariants as shifts
use Rattle.seq_timer.specs.declared.standing.Standing.{Standing}
use Rattle.seq_timer.specs.declared.system.SystemEntry.{SystemEntry}
use Rattle.seq_timer.proofs.Systems.{after_entries-shifts_of, shifts_by_turns}
use Rattle.std.proofs.lemmas.Bool.{true≢false}
use Rattle.std.proofs.lemmas.Bool.Decides.{nat_tests}
use Rattle.base_row.specs.Calls.{AreFresh}
use Rattle.base_row.specs.declared.log.Receipt.{Receipt}
use Rattle.base_row.specs.declared.view.Opening.{Opening}
use Rattle.hr_timers.specs.declared.answer.OfflineAnswer.{OfflineAnswer}
use Rattle.hr_timers.specs.declared.answer.OfflineAnswer.TheVariants as offs
use Rattle.hr_timers.specs.declared.answer.OnlineAnswer.{OnlineAnswer}
use Rattle.hr_timers.specs.declared.answer.OnlineAnswer.TheVariants as ons
use Rattle.hr_timers.specs.Known.{KnownOfTimers, KnowsTimers, timer_then}
use Rattle.hr_timers.specs.Logged.{IsLogged}
use Rattle.hr_timers.specs.Moves.{AreMoved, EndFits, GoesOffline, IsFront, MovesTimer, OfflineFits, OnlineFits, OnlyLooks, RunsFirst, RunsNone, ShiftsBase, move_entries}
use Rattle.hr_timers.specs.Ways.{standing_then}
use Rattle.answer_laws.specs.Offline.{goes_at, moves_at, offline_at}
use Rattle.answer_laws.specs.Outcomes.{SameOwn}
use Rattle.answer_laws.proofs.BaseCalls.{some_is}
use Rattle.answer_laws.proofs.ClaimCalls.{no_idle, one_function}
use Rattle.answer_laws.proofs.Outcomes.{logged_once, looked_once, made_once, own_same}

-- ---- what a moment tells

one_front : (o : Opening) (x y : List SystemEntry) (base t u : ℕ) → x ≡ y → IsFront o x base t → IsFront o y base u → t ≡ u
one_front o x y base t u e p q =
    ap (λ (k : ℕ × ℕ). k.1) (some_is _ _ (sym p.1 ∙ (ap (λ z. front_of ((system_after o.timers z).bases base).content) e ∙ q.1)))

one_first : (o : Opening) (k : KnownOfTimers) (base t g u h : ℕ) → AreFresh o.timers → KnowsTimers o k → RunsFirst o k.seen base t g
    → RunsFirst o k.seen base u h
    → (t ≡ u) × (g ≡ h)
one_first o k base t g u h fresh knows (inl a) (inl b) = one_function o k contexts.Hard base t g u h fresh knows a b
one_first o k base t g u h fresh knows (inr a) (inr b) = one_function o k contexts.Soft base t g u h fresh knows a.1 b.1
one_first o k base t g u h fresh knows (inl a) (inr b) = absurd (no_idle base g (in_context contexts.Hard (timer_then o k.seen) t) (b.0 t) a)
one_first o k base t g u h fresh knows (inr a) (inl b) = absurd (no_idle base h (in_context contexts.Hard (timer_then o k.seen) u) (a.0 u) b)

shifted_once : (o : Opening) (v v' w w' : KnownOfTimers) (base : ℕ) (event : BaseEvent) → SameOwn v v' → w.seen ≡ w'.seen → ShiftsBase o v w base event
    → ShiftsBase o v' w' base event → (length (shifts_of base v.seen) ≡ length (shifts_of base v'.seen)) × SameOwn w w'
shifted_once o v v' w w' base event own e a b =
    let before : length (shifts_of base v.seen) ≡ length (shifts_of base v'.seen) = omega (
      arith,
      ap length a.own,
      ap length b.own,
      ap (λ l. length (shifts_of base l)) e,
      length-append (shifts_of base v.seen) (event ∷ []),
      length-append (shifts_of base v'.seen) (event ∷ []),
    ) in
    let mine = a.mine in
    let mine' = b.mine in
    let places = own.mine in (before, record { mine = cc; id = a.id ∙ (own.id ∙ sym b.id); claims = a.claims ∙ (own.claims ∙ sym b.claims) })

-- ---- moves

module _ {A : Type 0} (put : A → Receipt → A) (o : Opening) (base heir : ℕ) (reading : ClockReading) where
  moved_once : (v v' w w' : KnownOfTimers) (t u : ℕ) (s s' r r' : A) → SameOwn v v' → s ≡ s' → (c : MovesTimer put o base heir reading v w t s r)
      → (d : MovesTimer put o base heir reading v' w' u s' r') → c.at ≡ d.at → (t ≡ u) × SameOwn w w' × (r ≡ r')
  moved_once v v' w w' t u s s' r r' own sinks c d e =
      let timer = one_front o c.at d.at base t u e c.front d.front in
      let es = ap (λ x. move_entries (timer_then o x t) heir reading) e ∙ ap (λ i. move_entries (timer_then o d.at i) heir reading) timer in (
        timer,
        (made_once v v' w w' t u c.at d.at _ _ own c.made d.made timer e es (c.claims ∙ (own.claims ∙ sym d.claims))).own,
        logged_once put o t u c.at d.at _ _ s r r' c.logged
            (subst (λ x. IsLogged put o u d.at (move_entries (timer_then o d.at u) heir reading) x r') (sym sinks) d.logged) timer e es,
      )

  moves_once : (ts us : List ℕ) (v v' w w' : KnownOfTimers) (s s' r r' : A) → SameOwn v v' → s ≡ s' → (m : AreMoved put o base heir reading v ts w s r)
      → (n : AreMoved put o base heir reading v' us w' s' r')
      → moves_at put o base heir reading v ts w s r m ≡ moves_at put o base heir reading v' us w' s' r' n
      → (ts ≡ us) × SameOwn w w' × (r ≡ r')
  moves_once [] [] v v' w w' s s' r r' own sinks m n e =
      (refl, subst (λ x. SameOwn x w') (sym m.0) (subst (SameOwn v) (sym n.0) own), m.1 ∙ (sinks ∙ sym n.1))
  moves_once [] (u ∷ us) v v' w w' s s' r r' own sinks m n e = absurd cc
  moves_once (t ∷ ts) [] v v' w w' s s' r r' own sinks m n e = absurd cc
  moves_once (t ∷ ts) (u ∷ us) v v' w w' s s' r r' own sinks m n e =
      let at : m.2.at ≡ n.2.at = cc in
      let later : moves_at put o base heir reading m.0 ts w m.1 r m.3 ≡ moves_at put o base heir reading n.0 us w' n.1 r' n.3 = cc in
      let one = moved_once v v' m.0 n.0 t u s s' m.1 n.1 own sinks m.2 n.2 at in
      let rest = moves_once ts us m.0 n.0 w w' m.1 n.1 r r' one.1 one.2 m.3 n.3 later in
      let timer = one.0 in
      let timers = rest.0 in (cc, rest.1, rest.2)

  -- ---- the end

  runs_then : (x y : List SystemEntry) (t g : ℕ) → x ≡ y → RunsNone o y base → running_on base (timer_then o x t) ≡ Some g → ⊥
  runs_then x y t g e idle runs = no_idle base g (timer_then o y t) (idle t) (ap (λ z. running_on base (timer_then o z t)) (sym e) ∙ runs)

  armed_then : (x y : List SystemEntry) (t : ℕ) → x ≡ y → ((u : ℕ) → is_armed_on base (timer_then o y u) ≡ false)
      → is_armed_on base (timer_then o x t) ≡ true → ⊥
  armed_then x y t e none armed = let f = ap (λ z. is_armed_on base (timer_then o z t)) e in let g = none t in cc

  module _ (v v' w w' : KnownOfTimers) (own : SameOwn v v') (e : w.seen ≡ w'.seen) (fresh : AreFresh o.timers) (knows : KnowsTimers o w) (on on' : Bool)
      (n n' : ℕ) (s s' r r' : A) (many : n ≡ n') (goes : on ≡ on') (sinks : s ≡ s') where
    only_once : OnlyLooks v w s r → OnlyLooks v' w' s' r' → (r ≡ r') × SameOwn w w'
    only_once a b = (a.sink ∙ (sinks ∙ sym b.sink), looked_once v v' w w' own a.looks b.looks)

    end_once : (a a' : OfflineAnswer) → EndFits put o base heir reading v w on n a s r → EndFits put o base heir reading v' w' on' n' a' s' r'
        → (a ≡ a') × (r ≡ r') × SameOwn w w'
    end_once (offs.AlreadyOffline k) a' c d = absurd c
    end_once (offs.HeirOffline k) a' c d = absurd c
    end_once (offs.BaseSpent k) a' c d = absurd c
    end_once a (offs.AlreadyOffline k) c d = absurd d
    end_once a (offs.HeirOffline k) c d = absurd d
    end_once a (offs.BaseSpent k) c d = absurd d
    end_once (offs.Busy m t g) (offs.Busy k u h) c d =
        let one = one_first o w base t g u h fresh knows c.1.2 (subst (λ x. RunsFirst o x base u h) (sym e) d.1.2) in
        let same = only_once c.1.0 d.1.0 in
        let p = c.0 in
        let q = d.0 in
        let timer = one.0 in
        let generation = one.1 in (cc, same.0, same.1)
    end_once (offs.Busy m t g) (offs.Offline k x) c d = absurd (runs_then _ _ t g e d.1.2.idle c.1.1)
    end_once (offs.Busy m t g) (offs.More k) c d = absurd (runs_then _ _ t g e d.1.1.1 c.1.1)
    end_once (offs.Busy m t g) (offs.Spent k u x) c d = absurd (runs_then _ _ t g e d.1.1 c.1.1)
    end_once (offs.Offline m x) (offs.Busy k t g) c d = absurd (runs_then _ _ t g (sym e) c.1.2.idle d.1.1)
    end_once (offs.Offline m x) (offs.Offline k y) c d =
        let one = shifted_once o v v' w w' base (shifts.Offline heir) own e c.1.0 d.1.0 in
        let p = c.0 in
        let q = d.0 in
        let stamp : x ≡ y = c.1.1 ∙ (ap (λ l. l + 1) one.0 ∙ sym d.1.1) in (cc, c.1.3 ∙ (sinks ∙ sym d.1.3), one.1)
    end_once (offs.Offline m x) (offs.More k) c d = absurd (armed_then _ _ d.1.0 (sym e) c.1.2.unarmed d.1.1.3)
    end_once (offs.Offline m x) (offs.Spent k u y) c d = absurd (armed_then _ _ u (sym e) c.1.2.unarmed d.1.3)
    end_once (offs.More m) (offs.Busy k t g) c d = absurd (runs_then _ _ t g (sym e) c.1.1.1 d.1.1)
    end_once (offs.More m) (offs.Offline k x) c d = absurd (armed_then _ _ c.1.0 e d.1.2.unarmed c.1.1.3)
    end_once (offs.More m) (offs.More k) c d =
        let same = only_once c.1.1.0 d.1.1.0 in (ap offs.More (c.0 ∙ (many ∙ sym d.0)), same.0, same.1)
    end_once (offs.More m) (offs.Spent k u x) c d = let f = c.1.1.2 in let g = d.1.2 in absurd cc
    end_once (offs.Spent m t x) (offs.Busy k u g) c d = absurd (runs_then _ _ u g (sym e) c.1.1 d.1.1)
    end_once (offs.Spent m t x) (offs.Offline k y) c d = absurd (armed_then _ _ t e d.1.2.unarmed c.1.3)
    end_once (offs.Spent m t x) (offs.More k) c d = let f = c.1.2 in let g = d.1.1.2 in absurd cc
    end_once (offs.Spent m t x) (offs.Spent k u y) c d =
        let timer = one_front o w.seen w'.seen base t u e c.1.6 d.1.6 in
        let stamp : x ≡ y = c.1.4 ∙ (ap (λ z. (timer_then o z t).stamp) e ∙ (ap (λ i. (timer_then o w'.seen i).stamp) timer ∙ sym d.1.4)) in
        let same = only_once c.1.0 d.1.0 in
        let p = c.0 in
        let q = d.0 in (cc, same.0, same.1)

  -- ---- the whole call

  -- why a call is refused at once, by what its pass had seen of bases
  abbrev refused : Option ℕ → Option ℕ → ℕ → ℕ → Option OfflineAnswer
  refused (Some x) k n m = Some (offs.AlreadyOffline n)
  refused None (Some y) n m = Some (offs.HeirOffline m)
  refused None None n m = if nat_le last_standing n then Some (offs.BaseSpent n) else None

  abbrev refusal : KnownOfTimers → Option OfflineAnswer
  refusal v = refused (standing_then o v.seen base).heir (standing_then o v.seen heir).heir (standing_then o v.seen base).stamp
      (standing_then o v.seen heir).stamp

  off_first : (h k : Option ℕ) (n m : ℕ) → IsSome h → refused h k n m ≡ Some (offs.AlreadyOffline n)
  off_first (Some x) k n m is = refl
  off_first None k n m is = absurd (true≢false (sym is))

  off_heir : (h k : Option ℕ) (n m : ℕ) → h ≡ None → IsSome k → refused h k n m ≡ Some (offs.HeirOffline m)
  off_heir (Some x) k n m none is = absurd cc
  off_heir None (Some y) n m none is = refl
  off_heir None None n m none is = absurd (true≢false (sym is))

  off_spent : (h k : Option ℕ) (n m : ℕ) → h ≡ None → k ≡ None → last_standing ≤ n → refused h k n m ≡ Some (offs.BaseSpent n)
  off_spent (Some x) k n m first second most = absurd cc
  off_spent None (Some y) n m first second most = absurd cc
  off_spent None None n m first second most = grind (arith, nat_tests)

  off_goes : (h k : Option ℕ) (n m : ℕ) → h ≡ None → k ≡ None → n < last_standing → refused h k n m ≡ None
  off_goes (Some x) k n m first second few = absurd cc
  off_goes None (Some y) n m first second few = absurd cc
  off_goes None None n m first second few = grind (arith, nat_tests)

  module _ (v w : KnownOfTimers) (budget : ℕ) (s r : A) where
    abbrev Sorted : (a : OfflineAnswer) → OfflineFits put o base heir reading v w budget a s r → Type 0
    Sorted a f = ((refusal v ≡ Some a) × OnlyLooks v w s r) ⊎ ((refusal v ≡ None) × (g : GoesOffline put o base heir reading v w budget a s r)
        × (offline_at put o base heir reading v w budget a s r f ≡ goes_at put o base heir reading v w budget a s r g))

    goes : (a : OfflineAnswer) → GoesOffline put o base heir reading v w budget a s r → refusal v ≡ None
    goes a g = off_goes _ _ _ _ g.may.online g.may.heir_online g.may.stamp

    sorted : (a : OfflineAnswer) (f : OfflineFits put o base heir reading v w budget a s r) → Sorted a f
    sorted (offs.AlreadyOffline n) f = inl (off_first _ _ _ _ f.1 ∙ ap (λ k. Some (offs.AlreadyOffline k)) (sym f.2), f.0)
    sorted (offs.HeirOffline n) f = inl (off_heir _ _ _ _ f.1 f.2 ∙ ap (λ k. Some (offs.HeirOffline k)) (sym f.3), f.0)
    sorted (offs.BaseSpent n) f = inl (off_spent _ _ _ _ f.1 f.2 (subst (λ k. last_standing ≤ k) f.4 f.3) ∙ ap (λ k. Some (offs.BaseSpent k)) (sym f.4), f.0)
    sorted (offs.Busy n t g) f = inr (goes (offs.Busy n t g) f, f, refl)
    sorted (offs.Offline n stamp) f = inr (goes (offs.Offline n stamp) f, f, refl)
    sorted (offs.More n) f = inr (goes (offs.More n) f, f, refl)
    sorted (offs.Spent n t stamp) f = inr (goes (offs.Spent n t stamp) f, f, refl)

  module _ (v w w' : KnownOfTimers) (budget : ℕ) (s r r' : A) (fresh : AreFresh o.timers) (knows : KnowsTimers o w) (e : w.seen ≡ w'.seen) where
    goes_once : (a a' : OfflineAnswer) (c : GoesOffline put o base heir reading v w budget a s r) (d : GoesOffline put o base heir reading v w' budget a' s r')
        → goes_at put o base heir reading v w budget a s r c ≡ goes_at put o base heir reading v w' budget a' s r' d → (a ≡ a') × (r ≡ r') × SameOwn w w'
    goes_once a a' c d at =
        let begins = looked_once v v c.begins d.begins (own_same v) c.looks d.looks in
        let p = c.evacuates in
        let q = d.evacuates in
        let moves = moves_once p.timers q.timers c.begins d.begins p.mid q.mid s s p.between q.between begins refl p.moves q.moves at in
        end_once p.mid q.mid w w' moves.1 e fresh knows _ _ _ _ p.between q.between r r' (ap (λ (l : List ℕ). length l) moves.0)
        (ap (λ (l : List ℕ). nat_lt (length l) budget) moves.0) moves.2 a a' p.last q.last

    pub offline_once : (a a' : OfflineAnswer) (c : OfflineFits put o base heir reading v w budget a s r)
        (d : OfflineFits put o base heir reading v w' budget a' s r')
        → offline_at put o base heir reading v w budget a s r c ≡ offline_at put o base heir reading v w' budget a' s r' d
        → (a ≡ a') × (r ≡ r') × SameOwn w w'
    offline_once a a' c d at = by_kind (sorted v w budget s r a c) (sorted v w' budget s r' a' d)
      where
        by_kind : Sorted v w budget s r a c → Sorted v w' budget s r' a' d → (a ≡ a') × (r ≡ r') × SameOwn w w'
        by_kind (inl p) (inl q) = (some_is a a' (sym p.0 ∙ q.0), p.1.sink ∙ sym q.1.sink, looked_once v v w w' (own_same v) p.1.looks q.1.looks)
        by_kind (inl p) (inr q) = let x = p.0 in let y = q.0 in absurd cc
        by_kind (inr p) (inl q) = let x = p.0 in let y = q.0 in absurd cc
        by_kind (inr p) (inr q) = goes_once a a' p.1 q.1 (sym p.2 ∙ (at ∙ q.2))

-- ---- on line again

some_heir : (base : ℕ) (s : Standing) (es : List BaseEvent) → AreShifts base s (es ++ shifts.Online ∷ []) → IsSome (standing_after_all s es).heir
some_heir base s [] are = are.0
some_heir base s (e ∷ es) are = some_heir base (standing_after s e) es are.1

-- a base that is on line gets no entry that brings it there
on_line_once : (o : Opening) (v w : KnownOfTimers) (base : ℕ) → KnowsTimers o w → ShiftsBase o v w base shifts.Online
    → (standing_then o v.seen base).heir ≡ None → ⊥
on_line_once o v w base knows shift none =
    let are = subst (AreShifts base first_standing) shift.own (shifts_by_turns o.bases (length o.timers) (first_system o.timers) base w.seen knows.history) in
    true≢false (sym (subst IsSome (ap (λ (s : Standing). s.heir) (sym (after_entries-shifts_of (first_system o.timers) base v.seen)) ∙ none)
    (some_heir base first_standing (shifts_of base v.seen) are)))

pub online_once : (o : Opening) (v w w' : KnownOfTimers) (base : ℕ) (a a' : OnlineAnswer) → KnowsTimers o w → KnowsTimers o w' → OnlineFits o v w base a
    → OnlineFits o v w' base a' → (a ≡ a') × SameOwn w w'
online_once o v w w' base (ons.Online n) (ons.Online m) k l c d = (
  ap ons.Online (c.1 ∙ sym d.1),
  record {
    mine = c.0.mine ∙ sym d.0.mine;
    id = c.0.id ∙ sym d.0.id;
    claims = c.0.claims ∙ sym d.0.claims;
  },
)
online_once o v w w' base (ons.Online n) (ons.AlreadyOnline m) k l c d = absurd (on_line_once o v w base k c.0 d.2)
online_once o v w w' base (ons.AlreadyOnline n) (ons.Online m) k l c d = absurd (on_line_once o v w' base l d.0 c.2)
online_once o v w w' base (ons.AlreadyOnline n) (ons.AlreadyOnline m) k l c d =
    (ap ons.AlreadyOnline (c.3 ∙ sym d.3), looked_once v v w w' (own_same v) c.0 d.0)
