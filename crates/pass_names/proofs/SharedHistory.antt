-- Looks and entries one after another.
use Rattle.std.proofs.Common.{◌≡◌, ℕ, ◌+◌, List, [], ◌∷◌, ◌++◌, length, refl, ap, ◌∙◌, arith}
use Rattle.pass_names.specs.Passes.{places}
use Rattle.pass_names.specs.SharedHistory.{Known, LooksOn, ExtendsBy}
use Rattle.pass_names.proofs.Passes.{begins_refl, begins_trans}

module _ {E C : Type 0} where
  pub looks_refl : (k : Known E C) → LooksOn k k
  looks_refl k = record { seen = begins_refl k.seen; mine = refl; id = refl; claims = refl }

  pub looks_trans : (a b c : Known E C) → LooksOn a b → LooksOn b c → LooksOn a c
  looks_trans a b c first second = record {
    seen = begins_trans first.seen second.seen;
    mine = second.mine ∙ first.mine;
    id = second.id
        ∙ first.id;
    claims = second.claims ∙ first.claims;
  }

pub places-append : {X : Type 0} (t n : ℕ) (xs ys : List X) → places t n (xs ++ ys) ≡ places t n xs ++ places t (n + length xs) ys
places-append t n [] ys = ap (λ k. places t k ys) (omega arith)
places-append t n (x ∷ xs) ys = (λ i. (t, n + 1) ∷ places-append t (n + 1) xs ys i)
    ∙ ap (λ k. (t, n + 1) ∷ (places t (n + 1) xs ++ places t k ys)) (omega arith)

module _ {E C X : Type 0} (part : ℕ → List E → List X) where
  -- a look before or behind that sees nothing more of the timer adds nothing to it
  pub looks_extends : (v w x : Known E C) (t : ℕ) (es : List X) → LooksOn v w → part t w.seen ≡ part t v.seen → ExtendsBy part w x t es
      → ExtendsBy part v x t es
  looks_extends v w x t es l own a = record {
    seen = begins_trans l.seen a.seen;
    own = a.own ∙ ap (λ q. q ++ es) own;
    mine = a.mine ∙ (ap (λ q. q ++ places t (length (part t w.seen)) es) l.mine ∙ ap (λ q. v.mine ++ places t (length q) es) own);
    id = a.id ∙ l.id;
  }

  pub extends_looks : (v w x : Known E C) (t : ℕ) (es : List X) → ExtendsBy part v w t es → LooksOn w x → part t x.seen ≡ part t w.seen
      → ExtendsBy part v x t es
  extends_looks v w x t es a l own = record { seen = begins_trans a.seen l.seen; own = own ∙ a.own; mine = l.mine ∙ a.mine; id = l.id ∙ a.id }
