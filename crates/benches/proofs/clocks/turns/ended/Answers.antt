use Rattle.std.proofs.Common.{◌≡◌, ◌∙◌, length, ap, sym, refl, subst, arith}
use Rattle.pass_names.specs.Names.{IsLast}
use Rattle.clock_cell.proofs.Counting.{all_made}
use Rattle.benches.proofs.clocks.turns.ended.Goals as goal

pub returns : goal.returns
returns g c =
    let read = c.read.ensures in
    let seen = c.read.new.pass.knows in
    let last : IsLast seen.pass.id = subst IsLast (sym read.looks.id) c.requires.last in
    let all : c.read.result.stamp ≡ c.args.made =
    omega (arith, read.count, all_made seen read.known last, ap length read.looks.mine, c.requires.made) in
    let stamp : c.stamp.inside.stamp ≡ c.args.made = ap (λ r. r.stamp) c.stamp.view_is ∙ all in
    rw stamp refl
