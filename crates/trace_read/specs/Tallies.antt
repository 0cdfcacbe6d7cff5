-- What the events of a trace have in them, by numbers. Lists of events have the newest one first here.
use Rattle.std.specs.Prelude.{ℕ, ◌≡◌, ◌+◌, ◌-◌, max, nat_eq, Bool, false, if◌then◌else◌, is_some, List, [], ◌∷◌, length, Option, Some, None, unwrap_or}
use Rattle.std.specs.List.{IsDistinct, list_any}
use Rattle.std.specs.Ordering.{nat_cmp}
use Rattle.std.specs.BTreeMap as sorted
use Rattle.std.specs.BTreeMap.{BTreeMap}
use Rattle.std.specs.HashMap.{get}
use Rattle.std.specs.HashSet.{contains}
use Rattle.seq_timer.specs.declared.context.Context.{Context}
use Rattle.seq_timer.specs.declared.context.Context.TheVariants as contexts
use Rattle.trace_text.specs.declared.event.KernelEvent.{KernelEvent}
use Rattle.trace_text.specs.declared.event.KernelEvent.TheVariants as kernel
use Rattle.trace_read.specs.declared.tally.EventCounts.{EventCounts}
use Rattle.trace_read.specs.declared.tally.Latest.{Latest}
use Rattle.trace_read.specs.declared.tally.Tally.{Tally}

-- events in the order of their lines, put one by one before those that came earlier
abbrev pub onto_past : List KernelEvent → List KernelEvent → List KernelEvent
onto_past past [] = past
onto_past past (e ∷ es) = onto_past (e ∷ past) es

abbrev pub newest_first : List KernelEvent → List KernelEvent
newest_first es = onto_past [] es

-- so many numbers pass a test
pub record IsHowMany (test : ℕ → Bool) (n : ℕ) : Type 0 where
  pub each : List ℕ
  pub once : IsDistinct nat_eq each
  pub all : (x : ℕ) → list_any (nat_eq x) each ≡ test x
  pub number : n ≡ length each

-- an event names a timer
abbrev pub names_timer : ℕ → KernelEvent → Bool
names_timer t (kernel.SetUp u clock context) = nat_eq t u
names_timer t (kernel.Start u soft expires was_armed) = nat_eq t u
names_timer t (kernel.Cancel u) = nat_eq t u
names_timer t (kernel.Entry u site now) = nat_eq t u
names_timer t (kernel.Exit u site) = nat_eq t u
names_timer t kernel.Lost = false

-- an expiry or a return names a processor
abbrev pub names_processor : ℕ → KernelEvent → Bool
names_processor p (kernel.SetUp u clock context) = false
names_processor p (kernel.Start u soft expires was_armed) = false
names_processor p (kernel.Cancel u) = false
names_processor p (kernel.Entry u site now) = nat_eq p site.processor
names_processor p (kernel.Exit u site) = nat_eq p site.processor
names_processor p kernel.Lost = false

-- how many timers and processors events name
abbrev pub NamesTimers : List KernelEvent → ℕ → Type 0
NamesTimers past n = IsHowMany (λ t. list_any (names_timer t) past) n

abbrev pub NamesProcessors : List KernelEvent → ℕ → Type 0
NamesProcessors past n = IsHowMany (λ p. list_any (names_processor p) past) n

-- ---- how many events of each kind there are

abbrev pub no_counts : EventCounts
no_counts = record { set_ups = 0; starts = 0; cancels = 0; expiries = 0; returns = 0; losses = 0 }

abbrev pub with_event : KernelEvent → EventCounts → EventCounts
with_event (kernel.SetUp u clock context) c = record c { set_ups = c.set_ups + 1 }
with_event (kernel.Start u soft expires was_armed) c = record c { starts = c.starts + 1 }
with_event (kernel.Cancel u) c = record c { cancels = c.cancels + 1 }
with_event (kernel.Entry u site now) c = record c { expiries = c.expiries + 1 }
with_event (kernel.Exit u site) c = record c { returns = c.returns + 1 }
with_event kernel.Lost c = record c { losses = c.losses + 1 }

abbrev pub counts_of : List KernelEvent → EventCounts
counts_of [] = no_counts
counts_of (e ∷ past) = with_event e (counts_of past)

-- ---- which timers are armed

-- the hard expiry that a timer is armed for behind an event, where that is known; nothing is known behind a loss
abbrev pub armed_behind : ℕ → KernelEvent → Option ℕ → Option ℕ
armed_behind t (kernel.SetUp u clock context) before = if nat_eq t u then None else before
armed_behind t (kernel.Start u soft expires was_armed) before = if nat_eq t u then Some expires else before
armed_behind t (kernel.Cancel u) before = if nat_eq t u then None else before
armed_behind t (kernel.Entry u site now) before = if nat_eq t u then None else before
armed_behind t (kernel.Exit u site) before = before
armed_behind t kernel.Lost before = None

abbrev pub armed_for : List KernelEvent → ℕ → Option ℕ
armed_for [] t = None
armed_for (e ∷ past) t = armed_behind t e (armed_for past t)

-- so many timers at most were known to be armed at once
abbrev pub IsMostArmed : List KernelEvent → ℕ → Type 0
IsMostArmed [] most = most ≡ 0
IsMostArmed (e ∷ past) most = (before : ℕ) × (now : ℕ) × IsMostArmed past before × IsHowMany (λ t. is_some (armed_for (e ∷ past) t)) now × (most ≡ max now before)

-- ---- how late timers expire

-- the time from a timer's hard expiry on, where that is known
abbrev pub lateness : ℕ → Option ℕ → ℕ
lateness now None = 0
lateness now (Some expires) = now - expires

-- the latest expiries with one more, by its context: one that isn't told counts as hard
abbrev pub later : Option Context → ℕ → Latest → Latest
later None late l = record l { hard = Some (max late (unwrap_or l.hard 0)) }
later (Some contexts.Hard) late l = record l { hard = Some (max late (unwrap_or l.hard 0)) }
later (Some contexts.Soft) late l = record l { soft = Some (max late (unwrap_or l.soft 0)) }

abbrev pub none_late : Latest
none_late = record { hard = None; soft = None }

-- the latest expiries on a processor behind an event, by when each timer was armed for before
abbrev pub later_by : ℕ → KernelEvent → (ℕ → Option ℕ) → Latest → Latest
later_by p (kernel.SetUp u clock context) armed l = l
later_by p (kernel.Start u soft expires was_armed) armed l = l
later_by p (kernel.Cancel u) armed l = l
later_by p (kernel.Entry u site now) armed l = if nat_eq p site.processor then later site.context (lateness now (armed u)) l else l
later_by p (kernel.Exit u site) armed l = l
later_by p kernel.Lost armed l = l

abbrev pub latest_on : List KernelEvent → ℕ → Latest
latest_on [] p = none_late
latest_on (e ∷ past) p = later_by p e (λ t. armed_for past t) (latest_on past p)

-- what a table has of a processor
abbrev pub latest_in : BTreeMap ℕ Latest → ℕ → Latest
latest_in m p = unwrap_or (sorted.get nat_cmp m p) none_late

-- ---- all of it

-- a tally has the numbers of these events
pub record IsTallyOf (t : Tally) (past : List KernelEvent) : Type 0 where
  pub counts : t.counts ≡ counts_of past
  pub timers : (x : ℕ) → contains nat_eq t.timers x ≡ list_any (names_timer x) past
  pub processors : (x : ℕ) → contains nat_eq t.processors x ≡ list_any (names_processor x) past
  pub armed : (x : ℕ) → get nat_eq t.armed x ≡ armed_for past x
  pub most : IsMostArmed past t.most_armed
  pub latest : (p : ℕ) → latest_in t.latest p ≡ latest_on past p
