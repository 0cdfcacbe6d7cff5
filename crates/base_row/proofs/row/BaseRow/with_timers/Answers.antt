use Rattle.base_row.specs.Places.{word_at}
use Rattle.std.proofs.Common.{◌+◌, ◌≡◌, ◌∙◌, Some, length, refl, replicate, ap, arith, sym, subst}
use Rattle.seq_timer.specs.Systems.{no_base}
use Rattle.base_row.specs.declared.view.Opening.{Opening}
use Rattle.base_row.specs.Plays.{IsResting}
use Rattle.base_row.proofs.Beginning.{begins, knows_first}
use Rattle.base_row.proofs.row.BaseRow.with_timers.Goals as goal

pub new-requires : goal.new-requires
new-requires c =
    let told = ap (λ v. v.items) c.of.ensures in
    let rings = ap (λ v. v.items) c.of-2.ensures in
    let timers = c.args.timers in
    let count : c.timer_index.result ≡ word_at c.args.bases (length timers.items + c.args.bases) = omega (arith, c.len-count.ensures, timers.ok.0) in
    rw (c.from.ensures, c.from-2.ensures, told, rings)
    (begins (record { bases = c.args.bases; timers = timers.items; counters = c.args.counters; rings = c.args.rings.now.items }) c.requires.fresh c.requires.counters _ _
    (c.as_slice.ensures.value ∙ (c.in_ok-words.ensures ∙ ap (λ n. replicate n 0) count))
    c.in_ok-slots.ensures)

pub invariant_of-result-in-Ok : goal.invariant_of-result-in-Ok
invariant_of-result-in-Ok c =
    let o : Opening = record { bases = c.args.bases; timers = c.args.timers.items; counters = c.args.counters; rings = c.args.rings.now.items } in
    subst IsResting (sym c.in-Ok.ensures.ok.4)
    (rw (c.from.ensures, c.from-2.ensures, ap (λ v. v.items) c.of.ensures, ap (λ v. v.items) c.of-2.ensures)
    (record { live = refl; heard = refl; carried = refl; knows = knows_first o c.requires.fresh c.requires.counters }))
