-- Labels: which are the same, and what of a call's order holds by places.
use Rattle.std.proofs.Common.{◌≡◌, ℕ, Bool, true, false, nat_eq, refl, sym, ap, ◌∙◌}
use Rattle.std.proofs.lemmas.Bool.{and_from, and_parts, eq-eqb, eqb-true}
use Rattle.record_text.specs.declared.record.Label.{Label}
use Rattle.run_history.specs.Order.{is_label}

pub label_itself : (c : Label) → is_label c c ≡ true
label_itself c = and_from _ _ (eq-eqb c.lane c.lane refl) (eq-eqb c.call c.call refl)

pub same_label : (c x : Label) → is_label c x ≡ true → x ≡ c
same_label c x e =
    let parts = and_parts (nat_eq c.lane x.lane) (nat_eq c.call x.call) e in
    sym (ap {A = ℕ} (λ n. record { lane = n; call = c.call }) (eqb-true c.lane x.lane parts.0)
    ∙ ap {A = ℕ} (λ n. record { lane = x.lane; call = n }) (eqb-true c.call x.call parts.1))

-- a test that can't hold doesn't
pub refuted : (b : Bool) → (b ≡ true → ⊥) → b ≡ false
refuted true never = absurd (never refl)
refuted false never = refl
