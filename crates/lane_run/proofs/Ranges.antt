-- The calls of a script in range can be made in its world.
use Rattle.std.proofs.Common.{◌≡◌, ◌<◌, ℕ, zero, suc, true, List, [], ◌∷◌, length, get_or, arith, refl, sym, ap, ◌∙◌, subst}
use Rattle.std.specs.List.{AllByRecursion}
use Rattle.std.proofs.lemmas.List.{length-map}
use Rattle.record_text.proofs.Lists.{All-back, All-front}
use Rattle.seq_timer.specs.declared.context.Context.{Context}
use Rattle.base_row.specs.declared.view.Opening.{Opening}
use Rattle.timer_objects.specs.declared.object.Kind as object_kind
use Rattle.timer_objects.specs.declared.object.Kind.TheVariants as over
use Rattle.timer_objects.specs.Known.{decl_at}
use Rattle.script_text.specs.Forms.{suits}
use Rattle.script_text.specs.declared.form.Form.{Form}
use Rattle.script_text.specs.declared.form.Form.TheVariants as forms
use Rattle.script_text.specs.declared.script.Call.{Call}
use Rattle.script_text.specs.declared.script.Call.TheVariants as calls
use Rattle.script_text.specs.declared.script.Kind.{Kind}
use Rattle.script_text.specs.declared.script.Kind.TheVariants as kinds
use Rattle.script_text.specs.declared.script.LaneCall.{LaneCall}
use Rattle.script_text.specs.declared.script.Round.{Round}
use Rattle.script_text.specs.declared.script.Script.{Script}
use Rattle.script_text.specs.Scripts.{IsInRange, all_calls}
use Rattle.script_text.specs.CallLines.{IsCallInRange, HasTimerFor}
use Rattle.lane_notes.specs.Called.{CanCall}
use Rattle.lane_notes.specs.Worlds.{IsWorldOf, WorldOf, decl_of}
use Rattle.lane_run.proofs.Making.{whole_of}
use Rattle.lane_notes.proofs.Declared.{declared_over, over_of}
use Rattle.hr_timers.specs.Known.{IsEvacuable}
use Rattle.hr_timers.proofs.Shifts.{evacuable_on}
use Rattle.record_text.specs.declared.version.Version.{Version}
use Rattle.record_text.specs.declared.version.Version.TheVariants as versions
use Rattle.timer_objects.specs.Calls.{HasSetting, IsPosixKind}
use Rattle.script_text.specs.VersionOne.{IsHardCall}
use Rattle.script_text.specs.Declarations.{declareds_of, kind_of, reach_of, terms_of}
use Rattle.script_text.specs.declared.script.Callback.{Callback}

module _ {s : Script} {x : WorldOf} (range : IsInRange s) (is : IsWorldOf s x) where
  -- there are as many objects, timers and bases in the world as the script declares
  object_there : {n : ℕ} → n < length s.timers → n < length x.objects.decls
  object_there {n} here = subst (λ k. n < k) (sym (ap length is.decls ∙ length-map s.timers decl_of)) here

  timer_there : {n : ℕ} → n < length s.timers → n < length x.timers.about.timers
  timer_there {n} here = subst (λ k. n < k) (sym (whole_of s x range is).suits.many) (object_there here)

  base_there : {n : ℕ} → n < s.bases → n < x.timers.about.bases
  base_there {n} here = subst (λ k. n < k) (sym (ap (λ (o : Opening). o.bases) is.timers)) here

  -- what holds of each kind that a form's call may be on holds of the object's
  on_object : (t : ℕ) (form : Form) (Q : object_kind.Kind → Type 0) → HasTimerFor s.timers t form
      → ((y : Context) (c : Callback) → suits form (kinds.Raw y c) ≡ true → Q over.Raw) → ((b : ℕ) → suits form (kinds.Posix b) ≡ true → Q over.Posix)
      → ((b : ℕ) → suits form (kinds.Fd b) ≡ true → Q over.Fd) → ((b : ℕ) → suits form (kinds.Queued b) ≡ true → Q over.Queued)
      → ((b : ℕ) → suits form (kinds.Sleeper b) ≡ true → Q over.Sleeper)
      → (t < length x.objects.decls) × Q (decl_at x.objects t).kind
  on_object t form Q has raw posix fd queued sleeper = (object_there has.0, subst Q (sym (declared_over s x t is)) (by_kind (kind_of s t) has.1))
    where
      by_kind : (k : Kind) → suits form k ≡ true → Q (over_of k)
      by_kind (kinds.Raw y c) e = raw y c e
      by_kind (kinds.Posix b) e = posix b e
      by_kind (kinds.Fd b) e = fd b e
      by_kind (kinds.Queued b) e = queued b e
      by_kind (kinds.Sleeper b) e = sleeper b e

  -- bases may go off line where the script is of a later version than the first
  evacuable : (s.version ≡ versions.One → ⊥) → IsEvacuable x.timers.about
  evacuable later = subst IsEvacuable (sym is.timers) (evacuable_on s.bases (declareds_of s) (terms_of s) (by_version s.version later))
    where
      by_version : (v : Version) → (v ≡ versions.One → ⊥) → 0 < reach_of v
      by_version versions.One later = absurd (later refl)
      by_version versions.Two later = omega arith

  can_call : (lane : ℕ) (c : Call) → IsCallInRange lane s.bases s.timers c → (s.version ≡ versions.One → IsHardCall c) → CanCall x lane c
  can_call lane (calls.Start timer request) ok hard = (timer_there ok.0.0, base_there ok.1)
  can_call lane (calls.Expire context base budget) ok hard = (base_there ok.0, ok.1)
  can_call lane (calls.Clock write) ok hard = tt
  can_call lane (calls.Settime timer flags value interval) ok hard =
      on_object timer forms.Settime HasSetting ok (λ y c e. absurd cc) (λ b e. (λ is. cc, λ is. cc)) (λ b e. (λ is. cc, λ is. cc)) (λ b e. (λ is. cc, λ is. cc))
      (λ b e. absurd cc)
  can_call lane (calls.Gettime timer) ok hard =
      on_object timer forms.Gettime HasSetting ok (λ y c e. absurd cc) (λ b e. (λ is. cc, λ is. cc)) (λ b e. (λ is. cc, λ is. cc)) (λ b e. (λ is. cc, λ is. cc))
      (λ b e. absurd cc)
  can_call lane (calls.Accept timer) ok hard =
      on_object timer forms.Accept IsPosixKind ok (λ y c e. absurd cc) (λ b e. tt) (λ b e. absurd cc) (λ b e. tt) (λ b e. absurd cc)
  can_call lane (calls.Overrun timer) ok hard =
      on_object timer forms.Overrun IsPosixKind ok (λ y c e. absurd cc) (λ b e. tt) (λ b e. absurd cc) (λ b e. tt) (λ b e. absurd cc)
  can_call lane (calls.Read timer len) ok hard =
      on_object timer forms.Read (λ k. k ≡ over.Fd) ok (λ y c e. absurd cc) (λ b e. absurd cc) (λ b e. refl) (λ b e. absurd cc) (λ b e. absurd cc)
  can_call lane (calls.Readable timer) ok hard =
      on_object timer forms.Readable (λ k. k ≡ over.Fd) ok (λ y c e. absurd cc) (λ b e. absurd cc) (λ b e. refl) (λ b e. absurd cc) (λ b e. absurd cc)
  can_call lane (calls.Sleep timer flags time) ok hard =
      on_object timer forms.Sleep (λ k. k ≡ over.Sleeper) ok (λ y c e. absurd cc) (λ b e. absurd cc) (λ b e. absurd cc) (λ b e. absurd cc)
      (λ b e. refl)
  can_call lane (calls.Interrupt timer) ok hard =
      on_object timer forms.Interrupt (λ k. k ≡ over.Sleeper) ok (λ y c e. absurd cc) (λ b e. absurd cc) (λ b e. absurd cc) (λ b e. absurd cc)
      (λ b e. refl)
  can_call lane (calls.Slept timer) ok hard =
      on_object timer forms.Slept (λ k. k ≡ over.Sleeper) ok (λ y c e. absurd cc) (λ b e. absurd cc) (λ b e. absurd cc) (λ b e. absurd cc)
      (λ b e. refl)
  can_call lane calls.Sigwait ok hard = tt
  can_call lane (calls.Offline base heir budget) ok hard = (ok.0, base_there ok.1, ok.2, ok.3, evacuable hard)
  can_call lane (calls.Online base) ok hard = (ok.0, base_there ok.1, evacuable hard)
  can_call lane call ok hard = timer_there ok.0

  -- so can those of each round
  pub round_can : (rs : List Round) (i : ℕ) (r : Round) → i < length rs
      → AllByRecursion (λ (c : LaneCall). IsCallInRange c.lane s.bases s.timers c.call) (all_calls rs)
      → (s.version ≡ versions.One → AllByRecursion (λ (c : LaneCall). IsHardCall c.call) (all_calls rs))
      → AllByRecursion (λ (c : LaneCall). CanCall x c.lane c.call) (get_or rs i r).calls
  round_can [] i r here all hard = absurd (omega (arith, here))
  round_can (y ∷ rs) zero r here all hard =
      calls_can y.calls (All-front _ y.calls (all_calls rs) all) (λ one. All-front _ y.calls (all_calls rs) (hard one))
    where
      calls_can : (cs : List LaneCall) → AllByRecursion (λ (c : LaneCall). IsCallInRange c.lane s.bases s.timers c.call) cs
          → (s.version ≡ versions.One → AllByRecursion (λ (c : LaneCall). IsHardCall c.call) cs)
          → AllByRecursion (λ (c : LaneCall). CanCall x c.lane c.call) cs
      calls_can [] range hard = tt
      calls_can (c ∷ cs) range hard = (can_call c.lane c.call range.0 (λ one. (hard one).0), calls_can cs range.1 (λ one. (hard one).1))
  round_can (y ∷ rs) (suc i) r here all hard =
      round_can rs i r (omega (arith, here)) (All-back _ y.calls (all_calls rs) all) (λ one. All-back _ y.calls (all_calls rs) (hard one))
