use Rattle.std.proofs.Common.{◌≡◌, rules, length, map, ap, sym, ◌∙◌, subst}
use Rattle.table_uses.specs.Lanes.{IsMainPass, name_of}
use Rattle.table_uses.proofs.Covering.{same_names, written, main_same}
use Rattle.table_uses.proofs.rows.lanes.count_in_lanes.Goals as goal

pub returns-clause-main : goal.returns-clause-main
returns-clause-main g c = λ main is.
    let lent = c.deref_mut.result.now in
    let old = c.args.lanes.now in
    let new = c.for_each_mut.new.s in
    let value = c.deref_mut.ensures.value in
    let len : length new ≡ length lent = search rules in
    let names = same_names lent new len (λ k d h. let t = (c.for_each_mut.ensures k d h).1 in search rules) ∙ ap (map name_of) value in
    subst (λ lanes. IsMainPass c.args.row.now main lanes) (sym (written new old.items old.len (len ∙ ap length value) old.ok.0))
    (main_same c.args.row.now main old.items new names is)
