-- A look at a lock, and then an exchange.
use Rattle.std.proofs.Common.{◌≡◌, ℕ, ◌+◌, ◌%◌, ◌/◌, ◌^◌, ◌-◌, ◌≤◌, ◌⊎◌, inl, inr, ⊎_elim, List, [], ◌∷◌, ◌++◌, set, ap, sym, ◌∙◌, arith}
use Rattle.std.specs.Prelude.{slice_index, Option, Some, None, MatchOption}
use Rattle.std.proofs.lemmas.List.{get_or-set_other}
use Rattle.pass_names.proofs.Passes.{begins_trans}
use Rattle.base_row.proofs.Stable.{steady_trans}
use Rattle.base_row.specs.declared.view.HeldContent.{HeldContent}
use Rattle.base_row.specs.declared.view.Opening.{Opening}
use Rattle.seq_timer.specs.Systems.{BaseContent}
use Rattle.base_row.specs.Rules.{takes_at}
use Rattle.base_row.specs.Plays.{SameElsewhere, SeatState, Met, GotBase, Lost, carried_slots}

module _ (o : Opening) (b : ℕ) (me mid : SeatState) (found : ℕ) (met : Met o b me found mid) where
  mid_met : mid.0.met ≡ set me.0.met b found
  mid_met = ap (λ (m : SeatState). m.0.met) met.rest

  else_met : SameElsewhere b me.0 mid.0
  else_met c n = ap (λ (l : List ℕ). slice_index l c) mid_met ∙ get_or-set_other me.0.met b c found 0 n

  -- the word was odd, or the last one
  pub lost_at : (found % 2 ≡ 1) ⊎ (2 ^ 64 - 2 ≤ found) → Lost o b me mid
  lost_at odd = record {
    rest = met.rest ∙ (λ i. (record me.0 { seen = mid.0.seen; heard = []; met = sym mid_met i }, me.1));
    missed = ⊎_elim
        (λ one. inl (found / 2 + 1, met.others (found / 2 + 1) (omega (arith, met.newer)), omega (arith, met.newer), omega (arith, met.is)))
        (λ last. inr (omega (arith, met.is)))
        odd;
    newer = omega (arith, met.newer, met.is);
    apart = else_met;
    seen = met.seen;
    steady = met.steady;
    knows = met.knows;
  }

  -- a miss after the look
  pub lost_after : (new : SeatState) → Lost o b mid new → Lost o b me new
  lost_after new lost = record {
    rest = lost.rest ∙ ap (λ (m : SeatState). (record m.0 { seen = new.0.seen; heard = []; met = new.0.met }, m.1)) met.rest;
    missed = ⊎_elim
        (λ t. inl (t.0, ap (λ (m : SeatState). takes_at b t.0 m.0) (sym met.rest) ∙ t.1, omega (arith, met.newer, met.is, t.2), t.3))
        (λ last. inr last)
        lost.missed;
    newer = omega (arith, met.newer, met.is, lost.newer);
    apart = λ c n. lost.apart c n ∙ else_met c n;
    seen = begins_trans met.seen lost.seen;
    steady = steady_trans met.steady lost.steady (ap (λ (m : SeatState). m.0.carry) met.rest) (ap (λ (m : SeatState). m.0.id) met.rest);
    knows = lost.knows;
  }

  -- a hit after the look
  pub caught_after : (new : SeatState) (h : HeldContent BaseContent) → GotBase o b mid new h → GotBase o b me new h
  caught_after new h caught = record {
    at = caught.at;
    number = caught.number;
    rest = caught.rest ∙ ap (λ (m : SeatState). (
      record m.0 {
        seen = new.0.seen;
        heard = [];
        held = Some h;
        takes = m.0.takes ++
            (b, caught.number) ∷ [];
        met = new.0.met;
      },
      carried_slots (Some h),
    )) met.rest;
    word = caught.word;
    newer = omega (arith, met.newer, met.is, caught.newer);
    apart = λ c n. caught.apart c n ∙ else_met c n;
    seen = begins_trans met.seen caught.seen;
    steady = steady_trans met.steady caught.steady (ap (λ (m : SeatState). m.0.carry) met.rest) (ap (λ (m : SeatState). m.0.id) met.rest);
    knows = caught.knows;
  }

  -- either, after the look
  pub told_after : (new : SeatState) (r : Option (HeldContent BaseContent)) → MatchOption r (Lost o b mid new) (λ h. GotBase o b mid new h)
      → MatchOption r (Lost o b me new) (λ h. GotBase o b me new h)
  told_after new None lost = lost_after new lost
  told_after new (Some h) caught = caught_after new h caught
