-- A call and its line, both ways, and where it is in range.
use Rattle.std.specs.Prelude.{ℕ, ◌≡◌, ◌<◌, ◌≤◌, true, List, [], ◌∷◌, length, map, get_or, Option, Some, None}
use Rattle.std.specs.Option.{option_or}
use Rattle.ktime.specs.declared.mode.Mode.{Mode}
use Rattle.ktime.specs.declared.mode.Mode.TheVariants as modes
use Rattle.ktime.specs.declared.write.Write.TheVariants as writes
use Rattle.seq_timer.specs.declared.context.Context.TheVariants as contexts
use Rattle.script_text.specs.declared.form.Form.{Form}
use Rattle.script_text.specs.declared.form.Form.TheVariants as forms
use Rattle.script_text.specs.declared.form.Line.{Line}
use Rattle.script_text.specs.declared.form.Value.{Value}
use Rattle.script_text.specs.declared.form.Value.TheVariants as values
use Rattle.script_text.specs.declared.script.Callback.TheVariants as callbacks
use Rattle.script_text.specs.declared.script.Kind.TheVariants as kinds
use Rattle.script_text.specs.declared.script.Call.{Call}
use Rattle.script_text.specs.declared.script.Call.TheVariants as calls
use Rattle.script_text.specs.declared.script.Declaration.{Declaration}
use Rattle.script_text.specs.declared.script.LaneCall.{LaneCall}
use Rattle.script_text.specs.Forms.{suits}
use Rattle.script_text.specs.Grammar.{of_numbers}

-- ---- the line of a call

-- the line of a start of this mode, time and base, without a slack or with one
abbrev pub asking_line : ℕ → ℕ → Mode → ℕ → ℕ → Option ℕ → Line
asking_line lane timer mode ns base None =
    record { form = forms.Start; values = values.Number lane ∷ values.Number timer ∷ values.Mode mode ∷ values.Number ns ∷ values.Number base ∷ [] }
asking_line lane timer mode ns base (Some slack) = record {
  form = forms.StartRange;
  values = values.Number lane ∷ values.Number timer ∷ values.Mode mode ∷ values.Number ns ∷ values.Number slack ∷ values.Number base ∷ [];
}

-- the line of a lane's call
abbrev pub call_line : ℕ → Call → Line
call_line lane (calls.Start timer request) = asking_line lane timer request.mode request.ns request.base request.slack
call_line lane (calls.Cancel timer) = of_numbers forms.Cancel (lane ∷ timer ∷ [])
call_line lane (calls.Peek timer) = of_numbers forms.Peek (lane ∷ timer ∷ [])
call_line lane (calls.Expire contexts.Hard base budget) = of_numbers forms.Expire (lane ∷ base ∷ budget ∷ [])
call_line lane (calls.Expire contexts.Soft base budget) = of_numbers forms.SoftExpire (lane ∷ base ∷ budget ∷ [])
call_line lane (calls.Clock (writes.Advance by)) = of_numbers forms.Advance (lane ∷ by ∷ [])
call_line lane (calls.Clock (writes.Set to)) = of_numbers forms.Set (lane ∷ to ∷ [])
call_line lane (calls.Clock (writes.Suspend by)) = of_numbers forms.Suspend (lane ∷ by ∷ [])
call_line lane (calls.Settime timer flags value interval) =
    of_numbers forms.Settime (lane ∷ timer ∷ flags ∷ value.sec ∷ value.nsec ∷ interval.sec ∷ interval.nsec ∷ [])
call_line lane (calls.Gettime timer) = of_numbers forms.Gettime (lane ∷ timer ∷ [])
call_line lane (calls.Accept timer) = of_numbers forms.Accept (lane ∷ timer ∷ [])
call_line lane (calls.Overrun timer) = of_numbers forms.Overrun (lane ∷ timer ∷ [])
call_line lane (calls.Read timer len) = of_numbers forms.Read (lane ∷ timer ∷ len ∷ [])
call_line lane (calls.Readable timer) = of_numbers forms.Readable (lane ∷ timer ∷ [])
call_line lane (calls.Sleep timer flags time) = of_numbers forms.Sleep (lane ∷ timer ∷ flags ∷ time.sec ∷ time.nsec ∷ [])
call_line lane (calls.Interrupt timer) = of_numbers forms.Interrupt (lane ∷ timer ∷ [])
call_line lane (calls.Slept timer) = of_numbers forms.Slept (lane ∷ timer ∷ [])
call_line lane calls.Sigwait = of_numbers forms.Sigwait (lane ∷ [])
call_line lane (calls.Offline base heir budget) = of_numbers forms.Offline (lane ∷ base ∷ heir ∷ budget ∷ [])
call_line lane (calls.Online base) = of_numbers forms.Online (lane ∷ base ∷ [])

-- ---- the call of a line

-- the call that this lane makes on a timer, where it has no other argument, by the form of its line
unfoldable pub timer_call_of : Form → ℕ → ℕ → Option LaneCall
timer_call_of forms.Cancel k i = Some (record { lane = k; call = calls.Cancel i })
timer_call_of forms.Peek k i = Some (record { lane = k; call = calls.Peek i })
timer_call_of forms.Gettime k i = Some (record { lane = k; call = calls.Gettime i })
timer_call_of forms.Accept k i = Some (record { lane = k; call = calls.Accept i })
timer_call_of forms.Overrun k i = Some (record { lane = k; call = calls.Overrun i })
timer_call_of forms.Readable k i = Some (record { lane = k; call = calls.Readable i })
timer_call_of forms.Interrupt k i = Some (record { lane = k; call = calls.Interrupt i })
timer_call_of forms.Slept k i = Some (record { lane = k; call = calls.Slept i })
timer_call_of form k i = None

-- that of a line that has a lane's and a timer's number and nothing else
unfoldable pub on_timer_of : Form → List Value → Option LaneCall
on_timer_of form (values.Number k ∷ values.Number i ∷ []) = timer_call_of form k i
on_timer_of form vs = None

-- the call of a raw timer, of a base or of the clock that a line asks for, and its lane, by its form and values
unfoldable pub plain_call_of : Form → List Value → Option LaneCall
plain_call_of forms.Start (values.Number k ∷ values.Number i ∷ values.Mode m ∷ values.Number n ∷ values.Number b ∷ []) =
    Some (record { lane = k; call = calls.Start i (record { mode = m; ns = n; slack = None; base = b }) })
plain_call_of forms.StartRange (values.Number k ∷ values.Number i ∷ values.Mode m ∷ values.Number n ∷ values.Number s ∷ values.Number b ∷ []) =
    Some (record { lane = k; call = calls.Start i (record { mode = m; ns = n; slack = Some s; base = b }) })
plain_call_of forms.Expire (values.Number k ∷ values.Number b ∷ values.Number n ∷ []) =
    Some (record { lane = k; call = calls.Expire contexts.Hard b n })
plain_call_of forms.SoftExpire (values.Number k ∷ values.Number b ∷ values.Number n ∷ []) =
    Some (record { lane = k; call = calls.Expire contexts.Soft b n })
plain_call_of forms.Advance (values.Number k ∷ values.Number n ∷ []) = Some (record { lane = k; call = calls.Clock (writes.Advance n) })
plain_call_of forms.Set (values.Number k ∷ values.Number n ∷ []) = Some (record { lane = k; call = calls.Clock (writes.Set n) })
plain_call_of forms.Suspend (values.Number k ∷ values.Number n ∷ []) = Some (record { lane = k; call = calls.Clock (writes.Suspend n) })
plain_call_of forms.Offline (values.Number k ∷ values.Number b ∷ values.Number h ∷ values.Number n ∷ []) =
    Some (record { lane = k; call = calls.Offline b h n })
plain_call_of forms.Online (values.Number k ∷ values.Number b ∷ []) = Some (record { lane = k; call = calls.Online b })
plain_call_of form vs = None

-- the call of an object, or of the queue of signals, that a line asks for, and its lane, by its form and values
unfoldable pub object_call_of : Form → List Value → Option LaneCall
object_call_of forms.Settime
    (values.Number k ∷ values.Number i ∷ values.Number f ∷ values.Number vs ∷ values.Number vn ∷ values.Number is ∷ values.Number in_ ∷ []) =
    Some (record { lane = k; call = calls.Settime i f (record { sec = vs; nsec = vn }) (record { sec = is; nsec = in_ }) })
object_call_of forms.Read (values.Number k ∷ values.Number i ∷ values.Number n ∷ []) = Some (record { lane = k; call = calls.Read i n })
object_call_of forms.Sleep (values.Number k ∷ values.Number i ∷ values.Number f ∷ values.Number s ∷ values.Number n ∷ []) =
    Some (record { lane = k; call = calls.Sleep i f (record { sec = s; nsec = n }) })
object_call_of forms.Sigwait (values.Number k ∷ []) = Some (record { lane = k; call = calls.Sigwait })
object_call_of form vs = None

-- the call that a line asks for, and its lane
unfoldable pub call_of : Form → List Value → Option LaneCall
call_of form vs = option_or (option_or (on_timer_of form vs) (plain_call_of form vs)) (object_call_of form vs)

-- ---- the range of a call

-- how many timers one expire may claim, or one call may move off a base
abbrev pub most_budget : ℕ
most_budget = 4096

-- there is a timer of this number, and its kind suits calls of this form
abbrev pub HasTimerFor : List Declaration → ℕ → Form → Type 0
HasTimerFor timers timer form = (timer < length timers) ×
    (suits form (get_or (map (λ d. d.kind) timers) timer (kinds.Raw contexts.Hard callbacks.Once)) ≡ true)

-- a script can give this mode of starting
abbrev pub IsGivenMode : Mode → Type 0
IsGivenMode modes.Keep = ⊥
IsGivenMode mode = Unit

-- a lane's call is of a timer and on a base that exist, and suits the timer's kind; lane 0 alone takes a base off line, with a lower one as its heir,
-- and on line again
abbrev pub IsCallInRange : ℕ → ℕ → List Declaration → Call → Type 0
IsCallInRange lane bases timers (calls.Start timer request) =
    HasTimerFor timers timer forms.Start × (request.base < bases) × IsGivenMode request.mode
IsCallInRange lane bases timers (calls.Cancel timer) = HasTimerFor timers timer forms.Cancel
IsCallInRange lane bases timers (calls.Peek timer) = HasTimerFor timers timer forms.Peek
IsCallInRange lane bases timers (calls.Expire context base budget) = (base < bases) × (budget ≤ most_budget)
IsCallInRange lane bases timers (calls.Clock write) = Unit
IsCallInRange lane bases timers (calls.Settime timer flags value interval) = HasTimerFor timers timer forms.Settime
IsCallInRange lane bases timers (calls.Gettime timer) = HasTimerFor timers timer forms.Gettime
IsCallInRange lane bases timers (calls.Accept timer) = HasTimerFor timers timer forms.Accept
IsCallInRange lane bases timers (calls.Overrun timer) = HasTimerFor timers timer forms.Overrun
IsCallInRange lane bases timers (calls.Read timer len) = HasTimerFor timers timer forms.Read
IsCallInRange lane bases timers (calls.Readable timer) = HasTimerFor timers timer forms.Readable
IsCallInRange lane bases timers (calls.Sleep timer flags time) = HasTimerFor timers timer forms.Sleep
IsCallInRange lane bases timers (calls.Interrupt timer) = HasTimerFor timers timer forms.Interrupt
IsCallInRange lane bases timers (calls.Slept timer) = HasTimerFor timers timer forms.Slept
IsCallInRange lane bases timers calls.Sigwait = Unit
IsCallInRange lane bases timers (calls.Offline base heir budget) = (lane ≡ 0) × (base < bases) × (heir < base) × (budget ≤ most_budget)
IsCallInRange lane bases timers (calls.Online base) = (lane ≡ 0) × (base < bases)
