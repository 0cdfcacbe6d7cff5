use Rattle.std.proofs.Common.{◌≡◌, ◌∙◌, length, replicate, ap, sym, subst, arith}
use Rattle.counted_row.specs.Places.{row_word_at}
use Rattle.counted_row.specs.Views.{Knows, first_view}
use Rattle.counted_row.proofs.Opening.{opens, knows_first}
use Rattle.counted_row.proofs.row.Row.make.Goals as goal

pub new-requires : goal.new-requires
new-requires g c =
    let values = c.args.values in
    let told = ap (λ v. v.items) c.of-about.ensures in
    let count : c.len.result ≡ length values.items = omega (arith, c.len.ensures, values.ok.0) in
    rw told
    (opens g.O.Object.meaning values.items _ _ c.requires.unclaimed
    (c.as_slice.ensures.value ∙ (c.in_ok-words.ensures ∙ ap (λ n. replicate (row_word_at n) 0) count))
    c.in_ok-slots.ensures)

pub returns-in-Ok-clause-known : goal.returns-in-Ok-clause-known
returns-in-Ok-clause-known g c =
    let m = g.O.Object.meaning in
    let told = ap (λ v. v.items) c.of-about.ensures in
    let first = knows_first m c.args.values.items c.requires.unclaimed in
    subst (λ me. Knows m me.0) (sym c.in-Ok.ensures.ok.4) (subst (λ items. Knows m (first_view items)) (sym told) first)
