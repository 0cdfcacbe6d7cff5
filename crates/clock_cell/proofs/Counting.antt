-- How many writes passes have made, and that the last pass has made them all.
use Rattle.std.proofs.Common.{◌≡◌, ◌≢◌, ◌+◌, ℕ, zero, suc, [], ◌∷◌, length, refl, ap, sym, ◌∙◌, length-append, arith}
use Rattle.std.proofs.lemmas.Bool.Decides.{nat_tests}
use Rattle.ktime.specs.declared.write.Write.{Write}
use Rattle.pass_names.specs.Counts.{one_if}
use Rattle.pass_names.specs.Names.{IsLast}
use Rattle.pass_names.specs.Passes.{entries, within}
use Rattle.pass_names.proofs.Passes.{places_of_one}
use Rattle.clock_cell.specs.declared.view.ClockView.{ClockView}
use Rattle.clock_cell.specs.Views.{KnowsClock, writes, joined_clock_view}

-- how many writes a pass has made
abbrev pub made : ClockView → ℕ
made v = length v.pass.mine

pub made_joined : (v w : ClockView) {joined : ClockView} → joined ≡ joined_clock_view v w → made joined ≡ made v + made w
made_joined v w e = ap made e ∙ length-append v.pass.mine w.pass.mine

pub all_made : (v : ClockView) → KnowsClock v → IsLast v.pass.id → length (writes v) ≡ made v
all_made v knows last =
    let each = knows.all_entries last in
    sym (places_of_one 0 (length (writes v)) v.pass.mine (λ k. each.once 0 k)
    (λ j k apart. each.once j k ∙ (ap (λ seen. one_if (within k (length (entries j seen)))) knows.one ∙ elsewhere j k apart)))
  where
    elsewhere : (j k : ℕ) → j ≢ 0 → one_if (within k (length (entries {E = Write} j (writes v ∷ [])))) ≡ 0
    elsewhere zero k apart = absurd (apart refl)
    elsewhere (suc j) k apart = grind (arith, nat_tests)
