-- A write is made or refused by the writes before it.
use Rattle.std.proofs.Common.{◌≡◌, ◌≤◌, ◌<◌, ℕ, List, [], ◌∷◌, ap, sym, ◌∙◌, subst, refl, Result, Ok, Err, arith}
use Rattle.std.specs.Prelude.{◌++◌}
use Rattle.ktime.specs.Readings.{ClockReading}
use Rattle.ktime.specs.Clocks.{IsAccepted, IsRefusedAs, after_write, greatest, last_stamp}
use Rattle.ktime.specs.declared.write.ClockFault.{ClockFault}
use Rattle.ktime.specs.declared.write.ClockFault.TheVariants.{ClockRange, ClockSpent}
use Rattle.ktime.specs.declared.write.Write.{Write}
use Rattle.clock_cell.specs.Views.{AnswersWrite, reading_after, writes}
use Rattle.clock_cell.specs.declared.view.ClockView.{ClockView}
use Rattle.pass_names.specs.declared.PassId.{PassId}
use Rattle.answer_laws.specs.Clocks.{write_moment}

abbrev refusal : ClockFault → Result ClockReading ClockFault
refusal f = Err f

-- a clock that takes a write refuses it for no cause
taken : (r s : ClockReading) (w : Write) (fault : ClockFault) → r ≡ s → IsAccepted r w → IsRefusedAs s w (refusal fault) → ⊥
taken r s w ClockSpent e ok refused = omega (arith, ok.counted, refused.spent.0 refl, ap (λ (x : ClockReading). x.stamp) e)
taken r s w (ClockRange would_be) e ok refused =
    let why = (refused.range would_be).0 refl in
    omega (arith, ok.timely, why.1, why.2, ap (λ x. greatest (after_write x w)) e)

refused_once : (r s : ClockReading) (w : Write) (f g : ClockFault) → r ≡ s → IsRefusedAs r w (refusal f)
    → IsRefusedAs s w (refusal g) → refusal f ≡ refusal g
refused_once r s w ClockSpent g e a b = sym (b.spent.1 (subst (λ (x : ClockReading). last_stamp ≤ x.stamp) e (a.spent.0 refl)))
refused_once r s w (ClockRange x) g e a b = let why = (a.range x).0 refl in
    sym ((b.range x).1 (subst (λ (y : ClockReading). y.stamp < last_stamp) e why.0, why.1, why.2 ∙ ap (λ y. greatest (after_write y w)) e))

-- a view of a pass that was told of nothing more than it has seen
abbrev view_of : PassId → List (ℕ × ℕ) → List Write → ClockView
view_of id mine ws = record { pass = record { id = id; seen = ws ∷ []; mine = mine }; heard = [] }

viewed : (v : ClockView) → v.pass.seen ≡ writes v ∷ [] → v.heard ≡ [] → v ≡ view_of v.pass.id v.pass.mine (writes v)
viewed v seen heard =
    ap (λ l. record { pass = record { id = v.pass.id; seen = l; mine = v.pass.mine }; heard = v.heard }) seen
    ∙ ap (λ l. record { pass = record { id = v.pass.id; seen = writes v ∷ []; mine = v.pass.mine }; heard = l }) heard

view_once : (i j : PassId) (m n : List (ℕ × ℕ)) (x y : List Write) → i ≡ j → m ≡ n → x ≡ y → view_of i m x ≡ view_of j n y
view_once i j m n x y a b c = cc

module _ (w : Write) (v n n' : ClockView) where
  alike : (r r' : Result ClockReading ClockFault) (a : AnswersWrite w v n r) (b : AnswersWrite w v n' r') → n.pass.id ≡ n'.pass.id
      → n.pass.mine ≡ n'.pass.mine → writes n ≡ writes n' → n ≡ n'
  alike r r' a b id mine seen =
      viewed n a.known.one a.hears.none ∙ (view_once _ _ _ _ _ _ id mine seen ∙ sym (viewed n' b.known.one b.hears.none))

  pub write_once : (r r' : Result ClockReading ClockFault) (a : AnswersWrite w v n r) (b : AnswersWrite w v n' r')
      → write_moment w v n r a ≡ write_moment w v n' r' b → (r ≡ r') × (n ≡ n')
  write_once (Ok r) (Ok s) a b e =
      let seen : writes n ≡ writes n' = a.ok.adds.last ∙ (ap (λ l. l ++ w ∷ []) e ∙ sym b.ok.adds.last) in
      let same : r ≡ s = a.ok.shows ∙ (ap reading_after seen ∙ sym b.ok.shows) in (
        ap Ok same,
        alike (Ok r) (Ok s) a b (a.ok.adds.id ∙ sym b.ok.adds.id)
            (a.ok.place ∙ (ap (λ (x : ClockReading). v.pass.mine ++ (0, x.stamp) ∷ []) same ∙ sym b.ok.place)) seen,
      )
  write_once (Ok r) (Err f) a b e = absurd (taken _ _ w f (ap reading_after e) a.ok.accepted b.err.cause)
  write_once (Err f) (Ok r) a b e = absurd (taken _ _ w f (ap reading_after (sym e)) b.ok.accepted a.err.cause)
  write_once (Err f) (Err g) a b e = (
    refused_once _ _ w f g (ap reading_after e) a.err.cause b.err.cause,
    alike (Err f) (Err g) a b (a.err.looks.id ∙ sym b.err.looks.id) (a.err.looks.mine ∙ sym b.err.looks.mine) e,
  )
