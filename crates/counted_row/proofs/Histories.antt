-- Histories that lead from state to state.
use Rattle.std.proofs.Common.{◌≡◌, ℕ, List, [], ◌∷◌, ◌++◌, refl, ap, sym, ◌∙◌, subst}
use mathlib.Core.Option.{some-injective}
use Rattle.pass_names.specs.Passes.{Begins}
use Rattle.counted_row.specs.declared.view.Entry.{Entry}
use Rattle.counted_row.specs.Meaning.{CallMeaning, Leads}
use Rattle.counted_row.specs.Views.{StateAfter}

module _ {S C R : Type 0} (m : CallMeaning S C R) where
  pub leads_one : (x y z : S) (log : List (Entry C R)) → Leads m x log y → Leads m x log z → y ≡ z
  leads_one x y z [] a b = a ∙ sym b
  leads_one x y z (e ∷ es) a b = leads_one (m.next x e.call) y z es a.2 b.2

  pub leads_push : (x y : S) (log : List (Entry C R)) (e : Entry C R) → Leads m x log y → m.may y e.call → e.reply ≡ m.reply y e.call
      → Leads m x (log ++ e ∷ []) (m.next y e.call)
  leads_push x y [] e a may reply =
      (subst (λ s. m.may s e.call) a may, reply ∙ ap (λ s. m.reply s e.call) a, ap (λ s. m.next s e.call) a)
  leads_push x y (d ∷ ds) e a may reply = (a.0, a.1, leads_push (m.next x d.call) y ds e a.2 may reply)

  pub leads_part : (x z : S) (log more : List (Entry C R)) → Leads m x (log ++ more) z → (y : S) × Leads m x log y
  leads_part x z [] more a = (x, refl)
  leads_part x z (e ∷ es) more a = let r = leads_part (m.next x e.call) z es more a.2 in (r.0, (a.0, a.1, r.1))

  pub after_one : (made : List S) (i : ℕ) (log : List (Entry C R)) (x y : S) → StateAfter m made i log x → StateAfter m made i log y → x ≡ y
  after_one made i log x y a b =
      let h : a.from ≡ b.from = some-injective a.from b.from (sym a.at ∙ b.at) in
      leads_one b.from x y log (subst (λ s. Leads m s log x) h a.leads) b.leads

  pub after_push : (made : List S) (i : ℕ) (log : List (Entry C R)) (e : Entry C R) (x : S) → StateAfter m made i log x → m.may x e.call
      → e.reply ≡ m.reply x e.call
      → StateAfter m made i (log ++ e ∷ []) (m.next x e.call)
  after_push made i log e x a may reply = record { from = a.from; at = a.at; leads = leads_push a.from x log e a.leads may reply }

  pub after_part : (made : List S) (i : ℕ) (part log : List (Entry C R)) (x : S) → Begins part log → StateAfter m made i log x
      → (y : S) × StateAfter m made i part y
  after_part made i part log x b a =
      let r = leads_part a.from x part b.rest (subst (λ l. Leads m a.from l x) b.whole a.leads) in (r.0, record { from = a.from; at = a.at; leads = r.1 })
