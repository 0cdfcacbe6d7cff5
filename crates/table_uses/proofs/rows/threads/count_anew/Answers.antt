use Rattle.std.proofs.Common.{length, ap, sym, ◌∙◌, subst, arith}
use Rattle.table_uses.proofs.Counting.{IsOnOne, first_on_one, still_on_one, all_on_one, none_on_others}
use Rattle.table_uses.proofs.rows.threads.count_anew.Goals as goal

pub returns-clause-stamp : goal.returns-clause-stamp
returns-clause-stamp g c =
    let counted = c.count_by_two-first.ensures in
    let look = c.peek_stamp-stamp.ensures in
    let start : IsOnOne c.in_ok-row.pass.knows.pass = subst (λ v. IsOnOne v.pass) (sym c.in_ok-row.ensures.first) (first_on_one _) in
    let joined : IsOnOne c.count_by_two-first.new.main.knows.pass =
    record { last = counted.last start.last; elsewhere = λ i k apart. counted.elsewhere i k apart ∙ start.elsewhere i k apart } in
    let peeked = still_on_one _ _ joined look.sees.pass.id look.sees.pass.mine in
    omega (
      arith,
      look.stamp,
      all_on_one c.peek_stamp-stamp.new.pass.knows look.known peeked,
      ap length look.sees.pass.mine,
      counted.mine,
      ap (λ v. length v.pass.mine) c.in_ok-row.ensures.first,
    )

pub returns-clause-other : goal.returns-clause-other
returns-clause-other g c =
    let counted = c.count_by_two-first.ensures in
    let look = c.peek_stamp-stamp.ensures.sees.pass in
    let again = c.peek_stamp-other.ensures in
    let start : IsOnOne c.in_ok-row.pass.knows.pass = subst (λ v. IsOnOne v.pass) (sym c.in_ok-row.ensures.first) (first_on_one _) in
    let joined : IsOnOne c.count_by_two-first.new.main.knows.pass =
    record { last = counted.last start.last; elsewhere = λ i k apart. counted.elsewhere i k apart ∙ start.elsewhere i k apart } in
    let peeked = still_on_one _ _ joined (again.sees.pass.id ∙ look.id) (again.sees.pass.mine ∙ look.mine) in
    again.stamp ∙ none_on_others c.peek_stamp-other.new.pass.knows again.known peeked 1 (λ e. omega arith)
