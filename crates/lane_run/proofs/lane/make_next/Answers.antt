use Rattle.std.proofs.Common.{◌≡◌, ◌∙◌, ◌+◌, min, refl, sym, ap}
use Rattle.record_text.specs.declared.record.Label.{Label}
use Rattle.lane_run.proofs.Calls.{makes_one, no_error}
use Rattle.lane_run.proofs.lane.make_next.Goals as goal

pub returns-clause-calls : goal.returns-clause-calls
returns-clause-calls g c = λ quiet.
    let made = c.make_noted-done in
    let mid = made.new.lane in
    let next : c.saturating_add-lane.result ≡ min (mid.label.call + 1) 4294967295 =
    c.saturating_add-lane.ensures ∙ ap (λ (l : Label). min (l.call + 1) 4294967295) (sym made.ensures.label) in
    makes_one made.ensures.label (no_error made.result (sym c.is_err-lane.ensures.value ∙ quiet) made.ensures.call) refl
    (ap (λ n. record { label = record { lane = mid.label.lane; call = n }; pass = mid.pass; notes = mid.notes }) next)
