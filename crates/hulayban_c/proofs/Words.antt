-- A box by value is two words, and so is what it is taken apart to: the pointer, and the heap's.
use Rattle.std.proofs.Common.{◌≡◌, ℕ, List, [], ◌∷◌, ◌++◌, refl, sym, subst}
use seplogic.Ra.Ura.{Ura}
use mir.Val.{Val}
use base.Logic.{SProp, ent, id⊢}
use types.Logic.{Logic}
use types.Kit.{Item, Goal, Seq, ‵, ◌$◌}
use Rattle.core.proofs.alloc.Calls.{Fits}
use Rattle.std_alloc.proofs.BoxSteps.Form.{Bx, D, B, word}
use Rattle.std_alloc.proofs.BoxSteps.Steps.{box_out, box_in}

-- a proof's step: what owns a box is at its one machine value
module _ (E : Bx) {M : Type 1} {𝓤 : Ura M} {𝓛 : Logic 𝓤} {K : Type 0} {Γ : List (Item 𝓤)} {G : Goal 𝓤 𝓛.H} where
  pub at_words : K → (d : D E) (vs : List Val)
      → ((b o : ℕ) (h : Val) → vs ≡ word E h b o ∷ [] → Fits E.al h → Seq K 𝓛 (‵ ((B E).own_val d (word E h b o ∷ [])) ∷ Γ) G)
      → Seq K 𝓛 (‵ ((B E).own_val d vs) ∷ Γ) G
  at_words t d vs k = box_out E t d vs (λ b o h at is fits. box_in E t d b o d.value at refl $ k b o h is fits)

-- what is shown of a function at one machine value holds at the list that is that value
module _ {M : Type 1} (𝓤 : Ura M) (Run : List Val → SProp 𝓤) (v : Val) where
  pub runs_at : (vs : List Val) → vs ≡ v ∷ [] → ent 𝓤 (Run (v ∷ [])) (Run (vs ++ []))
  runs_at vs is = subst (λ (us : List Val). ent 𝓤 (Run (v ∷ [])) (Run us)) (sym (λ i. is i ++ [])) (id⊢ 𝓤 (Run (v ∷ [])))
