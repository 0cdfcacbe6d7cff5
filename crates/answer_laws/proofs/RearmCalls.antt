-- An accept, a read and a gettime have one answer at one moment; so has a look.
use Rattle.std.proofs.Common.{◌≡◌, ◌≤◌, ◌<◌, ℕ, ap, sym, ◌∙◌, subst, refl, length, arith, ◌⊎◌, inl, inr}
use Rattle.ktime.specs.Readings.{ClockReading}
use Rattle.timer_setting.specs.declared.answers.AcceptAnswer.{AcceptAnswer}
use Rattle.timer_setting.specs.declared.answers.AcceptAnswer.TheVariants as acceptances
use Rattle.timer_setting.specs.declared.answers.ReadAnswer.{ReadAnswer}
use Rattle.timer_setting.specs.declared.answers.ReadAnswer.TheVariants as reads
use Rattle.timer_setting.specs.declared.object_call.ObjectReply.TheVariants as replies
use Rattle.base_row.specs.declared.view.Opening.{Opening}
use Rattle.posix_timer.specs.States.{PosixTimer, setting_of}
use Rattle.timer_fd.specs.Steps.{count_length}
use Rattle.timer_objects.specs.declared.answers.BlockingRead.{BlockingRead}
use Rattle.timer_objects.specs.declared.answers.BlockingRead.TheVariants as blocking
use Rattle.timer_objects.specs.declared.answers.Gettime.{Gettime}
use Rattle.timer_objects.specs.declared.answers.Gettime.TheVariants as gettimes
use Rattle.timer_objects.specs.declared.object.Kind.{Kind}
use Rattle.timer_objects.specs.declared.object.Kind.TheVariants as kinds
use Rattle.timer_objects.specs.declared.object.Object.TheVariants as objects
use Rattle.timer_objects.specs.declared.wanting.Ended.{Ended}
use Rattle.timer_objects.specs.declared.wanting.Ended.TheVariants as ends
use Rattle.timer_objects.specs.declared.wanting.Rearming.{Rearming}
use Rattle.timer_objects.specs.declared.wanting.Rearming.TheVariants as rearmings
use Rattle.timer_objects.specs.BlockingReads.{ReadsBlocking}
use Rattle.timer_objects.specs.Calls.{Accepts, Caller, FindsHistoryFull, Gettimes, ReadsFd, RearmingMade, rearming_call}
use Rattle.timer_objects.specs.Known.{ObjectsOf}
use Rattle.answer_laws.specs.Objects.{AreOne, ObjectMoment, SameWork, accept_at, gettime_at, looked_at, read_at, rearming_at}
use Rattle.answer_laws.specs.ObjectReads.{blocking_at}
use Rattle.answer_laws.proofs.AnewCalls.{are_one_as}
use Rattle.answer_laws.proofs.ObjectCalls.{full_made, full_once, look_once, rearmed_once}
use Rattle.answer_laws.proofs.Outcomes.{own_same}
use Rattle.answer_laws.proofs.RowCalls.{row_same}

work_same : (c : Caller) (id : ℕ) → SameWork c c id
work_same c id = record {
  caller = record { timers = own_same c.timers; objects = row_same c.objects; log = refl; object_log = refl };
  entries = refl;
}

pub work_kept : (old new new' : Caller) (id : ℕ) → new ≡ old → new' ≡ old → SameWork new new' id
work_kept old new new' id e f = subst (λ c. SameWork c new' id) (sym e) (subst (λ c. SameWork old c id) (sym f) (work_same old id))

-- how a call that may arm its timer again ends: it finds the history full, or makes an entry. The entry's number isn't told here.
abbrev Rearms : (x : ObjectsOf) (o : Opening) (old new : Caller) (id : ℕ) (r : Rearming) (reading : ClockReading) → Ended → Type 0
Rearms x o old new id r reading (ends.Full n) = FindsHistoryFull x old new id n
Rearms x o old new id r reading (ends.Made n reply) = RearmingMade x o old new id r reading reply × (n ≡ 0)

abbrev rearms_at : (x : ObjectsOf) (o : Opening) (old new : Caller) (id : ℕ) (r : Rearming) (reading : ClockReading) (e : Ended)
    → Rearms x o old new id r reading e → ObjectMoment
rearms_at x o old new id r reading (ends.Full n) f = looked_at x o old new id
rearms_at x o old new id r reading (ends.Made n reply) f = rearming_at x o old new id r reading reply f.0

module _ (x : ObjectsOf) (o : Opening) (old new new' : Caller) (id : ℕ) (r : Rearming) (reading : ClockReading) where
  rearms_once : (e e' : Ended) (c : Rearms x o old new id r reading e) (d : Rearms x o old new' id r reading e')
      → AreOne (rearms_at x o old new id r reading e c) (rearms_at x o old new' id r reading e' d) → (e ≡ e') × SameWork new new' id
  rearms_once (ends.Full n) (ends.Full m) c d at = let same = full_once x o old new new' id n m c d at in (ap ends.Full same.0, same.1)
  rearms_once (ends.Full n) (ends.Made m q) c d at = absurd (full_made x o old new new' id (rearming_call r reading d.0.arm) q n c d.0.enters at)
  rearms_once (ends.Made n p) (ends.Full m) c d at = absurd (full_made x o old new' new id (rearming_call r reading c.0.arm) p m d c.0.enters (sym at))
  rearms_once (ends.Made n p) (ends.Made m q) c d at =
      let same = rearmed_once x o old new new' id r reading p q c.0 d.0 at in
      let reply = same.0 in
      let none = c.1 in
      let neither = d.1 in (cc, same.1)

-- ---- each call as one that ended so

abbrev accept_ended : AcceptAnswer → Ended
accept_ended (acceptances.Spent n) = ends.Full n
accept_ended a = ends.Made 0 (replies.Accept a)

abbrev accept_of : Ended → AcceptAnswer
accept_of (ends.Full n) = acceptances.Spent n
accept_of (ends.Made n (replies.Accept a)) = a
accept_of e = acceptances.NoSignal

accept_back : (a : AcceptAnswer) → accept_of (accept_ended a) ≡ a
accept_back (acceptances.Spent n) = refl
accept_back (acceptances.Accepted overrun) = refl
accept_back acceptances.NoSignal = refl

abbrev read_ended : ReadAnswer → Ended
read_ended (reads.Spent n) = ends.Full n
read_ended a = ends.Made 0 (replies.Read a)

abbrev read_of : Ended → ReadAnswer
read_of (ends.Full n) = reads.Spent n
read_of (ends.Made n (replies.Read a)) = a
read_of e = reads.Again

read_back : (a : ReadAnswer) → read_of (read_ended a) ≡ a
read_back (reads.Spent n) = refl
read_back reads.ShortBuffer = refl
read_back (reads.Count total) = refl
read_back reads.Canceled = refl
read_back reads.Again = refl

abbrev blocking_ended : BlockingRead → Ended
blocking_ended (blocking.Spent n) = ends.Full n
blocking_ended (blocking.Count total) = ends.Made 0 (replies.Read (reads.Count total))
blocking_ended blocking.Zero = ends.Made 0 (replies.Read reads.Again)
blocking_ended blocking.Canceled = ends.Made 0 (replies.Read reads.Canceled)
blocking_ended blocking.ShortBuffer = ends.Made 0 (replies.Read reads.ShortBuffer)

abbrev blocking_of : Ended → BlockingRead
blocking_of (ends.Full n) = blocking.Spent n
blocking_of (ends.Made n (replies.Read (reads.Count total))) = blocking.Count total
blocking_of (ends.Made n (replies.Read reads.Again)) = blocking.Zero
blocking_of (ends.Made n (replies.Read reads.Canceled)) = blocking.Canceled
blocking_of e = blocking.ShortBuffer

blocking_back : (a : BlockingRead) → blocking_of (blocking_ended a) ≡ a
blocking_back (blocking.Spent n) = refl
blocking_back (blocking.Count total) = refl
blocking_back blocking.Zero = refl
blocking_back blocking.Canceled = refl
blocking_back blocking.ShortBuffer = refl

module _ (x : ObjectsOf) (o : Opening) (old : Caller) (id : ℕ) (reading : ClockReading) where
  accept_ends : (new : Caller) (a : AcceptAnswer) (s : Accepts x o old new id reading a)
      → (f : Rearms x o old new id rearmings.Accepting reading (accept_ended a))
      × (accept_at x o old new id reading a s ≡ rearms_at x o old new id rearmings.Accepting reading (accept_ended a) f)
  accept_ends new (acceptances.Spent n) s = (s, refl)
  accept_ends new (acceptances.Accepted overrun) s = ((s, refl), refl)
  accept_ends new acceptances.NoSignal s = ((s, refl), refl)

  pub accept_once : (new new' : Caller) (a a' : AcceptAnswer) (c : Accepts x o old new id reading a) (d : Accepts x o old new' id reading a')
      → AreOne (accept_at x o old new id reading a c) (accept_at x o old new' id reading a' d) → (a ≡ a') × SameWork new new' id
  accept_once new new' a a' c d at =
      let p = accept_ends new a c in
      let q = accept_ends new' a' d in
      let same = rearms_once x o old new new' id rearmings.Accepting reading (accept_ended a) (accept_ended a') p.0 q.0 (are_one_as _ _ _ _ p.1 q.1 at) in
      (sym (accept_back a) ∙ (ap accept_of same.0 ∙ accept_back a'), same.1)

  -- a read has a buffer that is too short, or ends so
  module _ (len : ℕ) where
    abbrev Sorted : (R : Type 0) (short : R) (new : Caller) (a : R) (e : Ended) (m : ObjectMoment) → Type 0
    Sorted R short new a e m = ((a ≡ short) × (len < count_length) × (new ≡ old))
        ⊎ ((count_length ≤ len) × (f : Rearms x o old new id rearmings.Reading reading e) × (m ≡ rearms_at x o old new id rearmings.Reading reading e f))

    read_sorted : (new : Caller) (a : ReadAnswer) (s : ReadsFd x o old new id len reading a)
        → Sorted ReadAnswer reads.ShortBuffer new a (read_ended a) (read_at x o old new id len reading a s)
    read_sorted new reads.ShortBuffer s = inl (refl, s.0, s.1)
    read_sorted new (reads.Spent n) s = inr (s.0, s.1, refl)
    read_sorted new (reads.Count total) s = inr (s.0, (s.1, refl), refl)
    read_sorted new reads.Canceled s = inr (s.0, (s.1, refl), refl)
    read_sorted new reads.Again s = inr (s.0, (s.1, refl), refl)

    blocking_sorted : (new : Caller) (a : BlockingRead) (s : ReadsBlocking x o old new id len reading a)
        → Sorted BlockingRead blocking.ShortBuffer new a (blocking_ended a) (blocking_at x o old new id len reading a s)
    blocking_sorted new blocking.ShortBuffer s = inl (refl, s.0, s.1)
    blocking_sorted new (blocking.Spent n) s = inr (s.0, s.1, refl)
    blocking_sorted new (blocking.Count total) s = inr (s.0, (s.2.made, refl), refl)
    blocking_sorted new blocking.Zero s = inr (s.0, (s.1.made, refl), refl)
    blocking_sorted new blocking.Canceled s = inr (s.0, (s.1.made, refl), refl)

    sorted_once : (R : Type 0) (short : R) (back : Ended → R) (new new' : Caller) (a a' : R) (e e' : Ended) (m m' : ObjectMoment) → back e ≡ a → back e' ≡ a'
        → Sorted R short new a e m → Sorted R short new' a' e' m' → AreOne m m' → (a ≡ a') × SameWork new new' id
    sorted_once R short back new new' a a' e e' m m' b b' (inl p) (inl q) at = (p.0 ∙ sym q.0, work_kept old new new' id p.2 q.2)
    sorted_once R short back new new' a a' e e' m m' b b' (inl p) (inr q) at = absurd (omega (arith, p.1, q.0))
    sorted_once R short back new new' a a' e e' m m' b b' (inr p) (inl q) at = absurd (omega (arith, q.1, p.0))
    sorted_once R short back new new' a a' e e' m m' b b' (inr p) (inr q) at =
        let same = rearms_once x o old new new' id rearmings.Reading reading e e' p.1 q.1 (are_one_as _ _ _ _ p.2 q.2 at) in
        (sym b ∙ (ap back same.0 ∙ b'), same.1)

    pub read_once : (new new' : Caller) (a a' : ReadAnswer) (c : ReadsFd x o old new id len reading a) (d : ReadsFd x o old new' id len reading a')
        → AreOne (read_at x o old new id len reading a c) (read_at x o old new' id len reading a' d) → (a ≡ a') × SameWork new new' id
    read_once new new' a a' c d at = sorted_once ReadAnswer reads.ShortBuffer read_of new new' a a' _ _ _ _ (read_back a) (read_back a')
        (read_sorted new a c) (read_sorted new' a' d) at

    pub blocking_once : (new new' : Caller) (a a' : BlockingRead) (c : ReadsBlocking x o old new id len reading a)
        (d : ReadsBlocking x o old new' id len reading a')
        → AreOne (blocking_at x o old new id len reading a c) (blocking_at x o old new' id len reading a' d) → (a ≡ a') × SameWork new new' id
    blocking_once new new' a a' c d at = sorted_once BlockingRead blocking.ShortBuffer blocking_of new new' a a' _ _ _ _ (blocking_back a) (blocking_back a')
        (blocking_sorted new a c) (blocking_sorted new' a' d) at

  -- ---- gettime

  left_same : (l m i j s t : ℕ) → l ≡ m → i ≡ j → s ≡ t → gettimes.Left l i s ≡ gettimes.Left m j t
  left_same l m i j s t e f g = cc

  same_posix : (t u : PosixTimer) → objects.Posix t ≡ objects.Posix u → t ≡ u
  same_posix t u e = cc

  module _ (new new' : Caller) where
    abbrev Alike : (kind : Kind) (a a' : Gettime) → Gettimes x o old new id reading kind a → Gettimes x o old new' id reading kind a' → Type 0
    Alike kind a a' c d = AreOne (gettime_at x o old new id reading kind a c) (gettime_at x o old new' id reading kind a' d) → (a ≡ a') × SameWork new new' id

    pub gettime_once : (kind : Kind) (a a' : Gettime) (c : Gettimes x o old new id reading kind a) (d : Gettimes x o old new' id reading kind a')
        → Alike kind a a' c d
    gettime_once kinds.Raw a a' c d at = absurd c
    gettime_once kinds.Sleeper a a' c d at = absurd c
    gettime_once kinds.Posix (gettimes.Spent n) a' c d at = absurd c
    gettime_once kinds.Posix (gettimes.Left l i s) (gettimes.Spent n) c d at = absurd d
    gettime_once kinds.Posix (gettimes.Left l i s) (gettimes.Left m j t) c d at =
        let same = look_once old new new' id (objects.Posix c.0) (objects.Posix d.0) s t c.1 d.1 at in
        let timer = same_posix c.0 d.0 same.0 in
        let setting = c.2 ∙ (ap (λ u. setting_of u reading) timer ∙ sym d.2) in
        (left_same l m i j s t (ap (λ z. z.left) setting) (ap (λ z. z.interval) setting) same.1, same.2)
    gettime_once kinds.Queued (gettimes.Spent n) a' c d at = absurd c
    gettime_once kinds.Queued (gettimes.Left l i s) (gettimes.Spent n) c d at = absurd d
    gettime_once kinds.Queued (gettimes.Left l i s) (gettimes.Left m j t) c d at =
        let same = look_once old new new' id (objects.Queued c.0) (objects.Queued d.0) s t c.1 d.1 at in
        let object = same.0 in
        let timer : c.0 ≡ d.0 = cc in
        let setting = c.2 ∙ (ap (λ u. setting_of u.timer reading) timer ∙ sym d.2) in
        (left_same l m i j s t (ap (λ z. z.left) setting) (ap (λ z. z.interval) setting) same.1, same.2)
    gettime_once kinds.Fd (gettimes.Spent n) (gettimes.Spent m) c d at = let same = full_once x o old new new' id n m c d at in
        (ap gettimes.Spent same.0, same.1)
    gettime_once kinds.Fd (gettimes.Spent n) (gettimes.Left m j t) c d at =
        absurd (full_made x o old new new' id (rearming_call rearmings.Getting reading d.0.arm) _ n c d.0.enters at)
    gettime_once kinds.Fd (gettimes.Left l i s) (gettimes.Spent n) c d at =
        absurd (full_made x o old new' new id (rearming_call rearmings.Getting reading c.0.arm) _ n d c.0.enters (sym at))
    gettime_once kinds.Fd (gettimes.Left l i s) (gettimes.Left m j t) c d at =
        let same = rearmed_once x o old new new' id rearmings.Getting reading _ _ c.0 d.0 at in
        let reply = same.0 in
        let left : l ≡ m = cc in
        let interval : i ≡ j = cc in (left_same l m i j s t left interval (c.1 ∙ (ap length same.1.entries ∙ sym d.1)), same.1)
