-- Ways from base to base.
use Rattle.std.proofs.Common.{◌≡◌, ℕ, ◌≤◌, List, [], ◌∷◌, ◌++◌, Option, Some, None, length, append_assoc, subst, sym, ap, refl, ◌∙◌}
use Rattle.pass_names.specs.Passes.{Begins}
use Rattle.pass_names.proofs.Passes.{begins_more, begins_refl, begins_trans}
use Rattle.seq_timer.specs.Systems.{AreSystemSteps, System, after_entries, first_system, system_after}
use Rattle.seq_timer.specs.declared.system.SystemEntry.{SystemEntry}
use Rattle.seq_timer.proofs.OffLine.{heir_on_line}
use Rattle.seq_timer.proofs.Systems.{after_entries-append, steps_rest}
use Rattle.base_row.specs.declared.view.Opening.{Opening}
use Rattle.hr_timers.specs.Known.{timer_then}
use Rattle.hr_timers.specs.Ways.{Finds, IsSentBy, IsWay, standing_then}

-- ---- ways

pub way_lower : (o : Opening) (low low' : List SystemEntry) (a : ℕ) (path : List ℕ) (b : ℕ) (at : List SystemEntry) → Begins low low'
    → IsWay o low' a path b at → IsWay o low a path b at
way_lower o low low' a [] b at down w = (w.0, record { from = begins_trans down w.1.from; stood = w.1.stood })
way_lower o low low' a (c ∷ cs) b at down w = (w.0, record { from = begins_trans down w.1.from; stood = w.1.stood }, w.2)

-- a way ends behind its beginning
pub way_rises : (o : Opening) (low : List SystemEntry) (a : ℕ) (path : List ℕ) (b : ℕ) (at : List SystemEntry) → IsWay o low a path b at → Begins low at
way_rises o low a [] b at w = w.1.from
way_rises o low a (c ∷ cs) b at w = begins_trans w.1.from (way_rises o w.0 c cs b at w.2)

-- at its end the last base is on line
pub way_ends : (o : Opening) (low : List SystemEntry) (a : ℕ) (path : List ℕ) (b : ℕ) (at : List SystemEntry) → IsWay o low a path b at
    → (standing_then o at b).heir ≡ None
way_ends o low a [] b at w = subst (λ x. (standing_then o at x).heir ≡ None) w.0 w.1.stood
way_ends o low a (c ∷ cs) b at w = way_ends o w.0 c cs b at w.2

way_join : (o : Opening) (low : List SystemEntry) (a : ℕ) (cs : List ℕ) (b : ℕ) (at : List SystemEntry) (ds : List ℕ) (c : ℕ) (at' : List SystemEntry)
    → IsWay o low a cs b at → IsWay o at b ds c at' → IsWay o low a (cs ++ ds) c at'
way_join o low a [] b at ds c at' first second =
    way_lower o low at a ds c at' first.1.from (subst (λ x. IsWay o at x ds c at') (sym first.0) second)
way_join o low a (x ∷ xs) b at ds c at' first second = (first.0, first.1, way_join o first.0 x xs b at ds c at' first.2 second)

-- ---- a start's bases

module _ (o : Opening) (high : List SystemEntry) (t : ℕ) where
  -- a base that is found on line once more
  pub finds_here : (low : List SystemEntry) (n a : ℕ) → Begins low high → (timer_then o low t).stamp ≤ n → (standing_then o low a).heir ≡ None
      → Finds o high t low n a a
  finds_here low n a seen few on =
      record { path = []; at = low; way = (refl, record { from = begins_refl low; stood = on }); seen = seen; few = few }

  abbrev finds_from : (low : List SystemEntry) (n a b c : ℕ) (f : Finds o high t low n a b) → Finds o high t f.at n b c → Finds o high t low n a c
  finds_from low n a b c f g =
      record { path = f.path ++ g.path; at = g.at; way = way_join o low a f.path b f.at g.path c g.at f.way g.way; seen = g.seen; few = g.few }

  -- law: what was asked for was found by a way of its own
  pub sent_from : (low : List SystemEntry) (n a b : ℕ) (f : Finds o high t low n a b) (sent : List ℕ) (last : ℕ)
      → IsSentBy o high t f.at n b sent last → IsSentBy o high t low n a sent last
  sent_from low n a b f [] last sent = finds_from low n a b last f sent
  sent_from low n a b f (s ∷ ss) last sent = (finds_from low n a b s f sent.0, sent.1, sent.2)

-- ---- heirs

module _ (o : Opening) (low now : List SystemEntry) (steps : AreSystemSteps o.bases (length o.timers) (first_system o.timers) now) (before : Begins low now)
    (a heir : ℕ) (on : (standing_then o low a).heir ≡ None) (off : (standing_then o now a).heir ≡ Some heir) where
  abbrev w : System
  w = system_after o.timers low

  whole : now ≡ low ++ before.rest
  whole = before.whole

  -- law: a base that was on line, and is off line now, went off line to an heir that was on line
  pub heir_found : (at : List SystemEntry) × IsWay o low a (heir ∷ []) heir at × Begins at now
  heir_found =
      let first = first_system o.timers in
      let rest = before.rest in
      let all = subst (AreSystemSteps o.bases (length o.timers) first) whole steps in
      let then : (x : List SystemEntry) → ℕ → Option ℕ = λ x b. (standing_then o x b).heir in
      let joined : (ys : List SystemEntry) (b : ℕ) → then (low ++ ys) b ≡ ((after_entries w ys).bases b).standing.heir =
      λ ys b. ap (λ (u : System). (u.bases b).standing.heir) (after_entries-append first low ys) in
      let is = heir_on_line o.bases (length o.timers) a w rest (steps_rest o.bases (length o.timers) first low rest all) on heir
      (sym (joined rest a) ∙ (ap (λ x. then x a) (sym whole) ∙ off)) in
      let at : List SystemEntry = low ++ is.0 in (
        at,
        (
          at,
          record { from = begins_more low is.0; stood = joined is.0 a ∙ is.3.0 },
          (refl, record { from = begins_refl at; stood = joined is.0 heir ∙ is.3.1 }),
        ),
        record { rest = is.1; whole = whole ∙ (ap (λ x. low ++ x) is.2 ∙ sym (append_assoc low is.0 is.1)) },
      )
