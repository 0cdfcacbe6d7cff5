-- What the first pass sees of bases: nothing but its own entries of them.
use Rattle.std.proofs.Common.{add-one, ◌^◌, ◌≡◌, ◌+◌, eqb, ℕ, ◌<◌, ◌≤◌, true, List, [], ◌∷◌, ◌++◌, length, Some, None, is_some, if◌then◌else◌, refl, ap, sym, subst, ◌∙◌, arith}
use Rattle.std.proofs.lemmas.Bool.{true≢false}
use Rattle.std.proofs.lemmas.Bool.Decides.{nat_tests}
use Rattle.seq_timer.specs.declared.event.EventBy.TheVariants as events
use Rattle.seq_timer.specs.Steps.{Timer, may_send}
use Rattle.std.proofs.lemmas.List.{append-nil}
use Rattle.pass_names.specs.declared.PassId.{PassId}
use Rattle.seq_timer.specs.Events.{Event}
use Rattle.seq_timer.specs.declared.system.SystemEntry.TheVariants as entries
use Rattle.seq_timer.specs.Systems.{BaseContent, shifts_of}
use Rattle.seq_timer.proofs.Systems.{shifts_of-append}
use Rattle.base_row.specs.declared.view.HeldContent.{HeldContent}
use Rattle.base_row.specs.declared.view.Opening.{Opening}
use Rattle.base_row.specs.declared.view.BaseView.{BaseView}
use Rattle.base_row.specs.Plays.{Steady}
use Rattle.base_row.specs.Calls as rows
use Rattle.std.proofs.lemmas.Bool.{eq-eqb, ne_eqb}
use Rattle.pass_names.specs.Passes.{Begins}
use Rattle.pass_names.proofs.Passes.{begins_trans, begins_more}
use Rattle.seq_timer.specs.declared.standing.BaseEvent.{BaseEvent}
use Rattle.seq_timer.specs.declared.standing.BaseEvent.TheVariants as turns
use Rattle.seq_timer.specs.declared.standing.Standing.{Standing}
use Rattle.seq_timer.specs.Standings.{first_standing, standing_after, standing_after_all}
use Rattle.seq_timer.specs.Systems.{after_entries, first_system}
use Rattle.seq_timer.specs.Tables.{IsUnused, is_armed_on, timer_at}
use Rattle.seq_timer.proofs.Agreement.{agrees}
use Rattle.seq_timer.proofs.OffLine.{unused}
use Rattle.base_row.specs.Rules.{base_place}
use Rattle.base_row.specs.Plays.{KnowsBases, KnowsOwn}
use Rattle.seq_timer.specs.Systems.{IsOn}
use Rattle.hr_timers.proofs.Standing.{knows_in}
use Rattle.hr_timers.specs.Known.{OnlySeesMore}
use Rattle.std.proofs.Math.Pow.{pow_mono}
use Rattle.std.proofs.Math.Nat.{pow-suc}
use Rattle.std.proofs.lemmas.Nat.{pow_pos}
use Rattle.hr_timers.specs.Moves.{KeepsBases, ShiftsBase}
use Rattle.hr_timers.specs.Ways.{Falls, bits_of}
use Rattle.hr_timers.proofs.Shifts.{stamp_shifts, standing-push, standing_kept, standing_own}
use Rattle.base_row.proofs.Placed.{off_line_seen, terms_now}
use Rattle.hr_timers.proofs.Making.{looks_trans}

pub keeps_trans : (v x w : BaseView BaseContent) → KeepsBases (rows.known_of v) (rows.known_of x) → KeepsBases (rows.known_of x) (rows.known_of w) → x.id ≡ v.id → KeepsBases (rows.known_of v) (rows.known_of w)
keeps_trans v x w first second id name b = second (ap (λ (i : PassId). i.name) id ∙ name) b ∙ first name b

pub keeps_steady : (v w : BaseView BaseContent) → Steady v w → KeepsBases (rows.known_of v) (rows.known_of w)
keeps_steady v w steady = steady.shifts

-- an entry of a timer
pub keeps_appended : (o : Opening) (h : HeldContent BaseContent) (t : ℕ) (event : Event) (v w : BaseView BaseContent) → rows.Appended o h t event v w
    → KeepsBases (rows.known_of v) (rows.known_of w)
keeps_appended o h t event v w told name b =
    ap (λ (x : BaseView BaseContent). shifts_of b x.seen) told.rest
    ∙ (shifts_of-append b told.before (entries.Timer (rows.entry_in o v t event) ∷ []) ∙ (append-nil (shifts_of b told.before) ∙ told.shifts name b))

-- and then its base is let go
pub keeps_freed : (o : Opening) (h g : HeldContent BaseContent) (t : ℕ) (event : Event) (v w x : BaseView BaseContent) → rows.Appended o h t event v w
    → rows.LetsGo o g w x → KeepsBases (rows.known_of v) (rows.known_of x)
keeps_freed o h g t event v w x told free =
    keeps_trans v w x (keeps_appended o h t event v w told) free.steady.shifts (ap (λ (y : BaseView BaseContent). y.id) told.rest)

-- a timer on its way may be sent on by who carries it, from a base that is off line to its heir
pub may_send_on : (o : Opening) (v : BaseView BaseContent) (h : HeldContent BaseContent) (t to : ℕ) → t < length o.timers → v.held ≡ Some h
    → v.carry ≡ Some t → (rows.timer_seen o v t).moving ≡ true → (rows.timer_seen o v t).base ≡ h.base → (rows.timer_seen o v t).running ≡ None
    → to < h.base → h.base < o.bases → o.bases ≤ 64 → 0 < (rows.timer_seen o v t).terms.reach
    → (rows.base_seen o v h.base).standing.heir ≡ Some to → rows.MayAppend o v h t (events.Out to)
may_send_on o v h t to inside held carry moves here idle down within few reach off = record {
  may = record {
    held = held;
    allowed = record {
      within = inside;
      needs = (ap is_some idle, (λ same. omega (arith, same, here, down)), sends_down (rows.timer_seen o v t) to moves (omega (arith, here, down)) (omega (arith, down, within, few)) reach);
      reply = refl;
      base = record {
        needs = omega (arith, down, within);
        online = λ is. absurd (true≢false (sym is));
        heir = λ moving. subst (λ q. (rows.base_seen o v q).standing.heir ≡ Some to) (sym here) off;
      };
    };
    base = here;
    carries = λ m. carry;
  };
  own = carry ∙ ap (λ b. if b then Some t else None) (sym moves);
}
  where
    sends_down : (s : Timer) (to : ℕ) → s.moving ≡ true → to < s.base → to < 64 → 0 < s.terms.reach → may_send s to ≡ true
    sends_down s to moves down few reach = grind (arith, nat_tests)

-- where a pass has seen a base off line, it has seen it unused
pub unused_seen : (o : Opening) (v : BaseView BaseContent) → rows.AreFresh o.timers → KnowsBases o v → (b heir : ℕ)
    → (rows.base_seen o v b).standing.heir ≡ Some heir → IsUnused (rows.timer_seen o v) b
unused_seen o v fresh knows b heir off = unused (after_entries (first_system o.timers) v.seen)
    (agrees o.bases o.timers v.seen fresh.each knows.allowed) b ((off_line_seen o v fresh knows).each b heir off)

-- ---- an entry of a base, which is then let go

module _ (o : Opening) (h g : HeldContent BaseContent) (event : BaseEvent) (v w x : BaseView BaseContent) (name : v.id.name ≡ [])
    (told : rows.Shifted o h event v w) (free : rows.LetsGo o g w x) (here : h.content.standing ≡ (rows.base_seen o v h.base).standing) where
  seen : w.seen ≡ told.before ++ entries.Base (record { base = h.base; event = event }) ∷ []
  seen = ap (λ (y : BaseView BaseContent). y.seen) told.rest

  later : (b : ℕ) → shifts_of b x.seen ≡ shifts_of b v.seen ++ (if eqb h.base b then event ∷ [] else [])
  later b =
      free.steady.shifts (ap (λ (y : BaseView BaseContent). y.id.name) told.rest ∙ name) b
      ∙ (ap (shifts_of b) seen ∙ (shifts_of-append b told.before (entries.Base (record { base = h.base; event = event }) ∷ [])
      ∙ ap (λ l. l ++ (if eqb h.base b then event ∷ [] else [])) (told.shifts b)))

  pub shifts_freed : ShiftsBase o (rows.known_of v) (rows.known_of x) h.base event
  shifts_freed = record {
    seen = begins_trans (subst (λ l. Begins v.seen l) (sym seen) (begins_trans told.seen (begins_more told.before _))) free.seen;
    own = later h.base ∙ ap (λ q. shifts_of h.base v.seen ++ (if q then event ∷ [] else [])) (eq-eqb h.base h.base refl);
    others = λ b apart. later b ∙ (ap (λ q. shifts_of b v.seen ++ (if q then event ∷ [] else [])) (ne_eqb h.base b (λ q. apart (sym q)))
        ∙ append-nil (shifts_of b v.seen));
    mine = ap (λ (y : BaseView BaseContent). y.mine) free.rest ∙ (ap (λ (y : BaseView BaseContent). y.mine) told.rest
        ∙ ap (λ n. v.mine ++ (base_place (length o.timers) h.base, n + 1) ∷ [])
        (ap (λ (s : Standing). s.stamp) here ∙ stamp_shifts o v h.base));
    id = ap (λ (y : BaseView BaseContent). y.id) free.rest ∙ ap (λ (y : BaseView BaseContent). y.id) told.rest;
    claims = ap (λ (y : BaseView BaseContent). y.claims) free.rest ∙ ap (λ (y : BaseView BaseContent). y.claims) told.rest;
  }

  -- the base is off line then
  pub off_freed : (heir : ℕ) → event ≡ turns.Offline heir → (rows.base_seen o x h.base).standing.heir ≡ Some heir
  unfolding shifts_freed
  off_freed heir is =
      ap (λ (s : Standing). s.heir) (standing_own o x h.base ∙ (ap (standing_after_all first_standing) shifts_freed.own
      ∙ (standing-push first_standing (shifts_of h.base v.seen) event ∙ ap (standing_after (standing_after_all first_standing (shifts_of h.base v.seen))) is)))

-- ---- looks before

pub looks_keeps : (u v w : BaseView BaseContent) → OnlySeesMore u v → Steady u v → OnlySeesMore v w → KeepsBases (rows.known_of v) (rows.known_of w) → OnlySeesMore u w × KeepsBases (rows.known_of u) (rows.known_of w)
looks_keeps u v w first steady second keeps = (looks_trans u v w first second, keeps_trans u v w steady.shifts keeps first.id)

pub looks_shifts : (o : Opening) (u v w : BaseView BaseContent) (b : ℕ) (e : BaseEvent) → u.id.name ≡ [] → OnlySeesMore u v → Steady u v
    → ShiftsBase o (rows.known_of v) (rows.known_of w) b e → ShiftsBase o (rows.known_of u) (rows.known_of w) b e
looks_shifts o u v w b e name looks steady told = record {
  seen = begins_trans looks.seen told.seen;
  own = told.own ∙ ap (λ l. l ++ e ∷ []) (steady.shifts name b);
  others = λ c n. told.others c n ∙ steady.shifts name c;
  mine = told.mine ∙ (ap (λ l. l ++ (base_place (length o.timers) b, length (shifts_of b v.seen) + 1) ∷ []) looks.mine
      ∙ ap (λ l. u.mine ++ (base_place (length o.timers) b, length l + 1) ∷ []) (steady.shifts name b));
  id = told.id ∙ looks.id;
  claims = told.claims ∙ looks.claims;
}

-- a timer keeps its terms
pub terms_kept : (o : Opening) (v : BaseView BaseContent) (t : ℕ) → (rows.timer_seen o v t).terms ≡ (timer_at o.timers t).terms
terms_kept o v t = terms_now o.timers v.seen t

-- a base that is locked stands as it was seen before, where nothing more of it was seen
pub standing_locked : (o : Opening) (v w : BaseView BaseContent) (h : HeldContent BaseContent) (b : ℕ) → w.opening ≡ o → KnowsOwn w → w.held ≡ Some h
    → h.base ≡ b → shifts_of b w.seen ≡ shifts_of b v.seen → h.content.standing ≡ (rows.base_seen o v b).standing
standing_locked o v w h b about own held at same =
    ap (λ (x : BaseContent). x.standing) ((knows_in o w about own).held h held).1.0
    ∙ (ap (λ q. (rows.base_seen o w q).standing) at ∙ standing_kept o v w b same)

-- an armed timer is on its base
pub armed_on : (b : ℕ) (t : Timer) → is_armed_on b t ≡ true → IsOn b t
armed_on b t armed = record { at = grind (arith, nat_tests); still = grind (arith, nat_tests) }

-- ---- bits of bases

pub bits_below : (base : ℕ) (outs : List ℕ) → Falls base outs → bits_of outs < 2 ^ base
bits_below base [] falls = pow_pos base
bits_below base (b ∷ bs) falls = omega (arith, bits_below b bs falls.1, pow_mono {i = b + 1} {j = base} (omega (arith, falls.0)), double b)
  where
    double : (n : ℕ) → 2 ^ (n + 1) ≡ 2 ^ n + 2 ^ n
    double n = rw add-one (omega (arith, pow-suc 2 n))

pub bits_fit : (base bits more : ℕ) (outs : List ℕ) → base < 64 → Falls base outs → bits ≡ 2 ^ base → more ≡ bits_of outs → bits + more < 2 ^ 64
bits_fit base bits more outs few falls bit counted =
    let all = bits_below (base + 1) (base ∷ outs) (omega arith, falls) in
    omega (arith, all, bit, counted, pow_mono {i = base + 1} {j = 64} (omega (arith, few)))
