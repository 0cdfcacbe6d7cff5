-- What each call on a base leaves is a function of what was then seen.
use Rattle.std.proofs.Common.{◌≡◌, ◌+◌, ℕ, List, [], ◌∷◌, ap, sym, ◌∙◌, refl, Bool, true, false, arith}
use Rattle.std.specs.Prelude.{Option, Some, None, ◌++◌, ◌-◌, slice_index, unwrap_or}
use Rattle.seq_timer.specs.Systems.{BaseContent, rises_of, system_after}
use Rattle.seq_timer.specs.declared.system.SystemEntry.{SystemEntry}
use Rattle.seq_timer.specs.declared.system.SystemEntry.TheVariants as entries
use Rattle.base_row.specs.Calls.{GetsBase, Waits}
use Rattle.base_row.specs.Plays.{KnowsOwn, RaisesTo, rises}
use Rattle.base_row.specs.Rules.{base_seen}
use Rattle.base_row.specs.declared.view.BaseView.{BaseView}
use Rattle.base_row.specs.declared.view.HeldContent.{HeldContent}
use Rattle.base_row.specs.declared.view.Opening.{Opening}
use Rattle.answer_laws.specs.Bases.{FrontFits, StepFits, step_moment}

-- what is a function of what was seen is the same where that is
pub by_seen : {A B : Type 0} (f : A → B) (x y : A) (w w' : B) → w ≡ f x → w' ≡ f y → x ≡ y → w ≡ w'
by_seen f x y w w' a b e = a ∙ (ap f e ∙ sym b)

pub waits_once : (base : ℕ) (v w w' : BaseView BaseContent) → Waits base v w → Waits base v w' → w.seen ≡ w'.seen → w.heard ≡ w'.heard
    → w.met ≡ w'.met → w ≡ w'
waits_once base v w w' a b s h m =
    a.rest ∙ (ap (λ l. record v { seen = l; heard = w.heard; met = w.met }) s ∙ (ap (λ l. record v { seen = w'.seen; heard = l; met = w.met }) h
    ∙ (ap (λ l. record v { seen = w'.seen; heard = w'.heard; met = l }) m ∙ sym b.rest)))

abbrev held : ℕ → ℕ → BaseContent → HeldContent BaseContent
held b word content = record { base = b; word = word; content = content }

held_same : (b c m n : ℕ) (x y : BaseContent) → b ≡ c → m ≡ n → x ≡ y → held b m x ≡ held c n y
held_same b c m n x y e f g = cc

doubled : (m n a b : ℕ) → m + 1 ≡ a + a → n + 1 ≡ b + b → m ≡ n → a ≡ b
doubled m n a b e f g = omega (arith, e, f, g)

pub gets_once : (base : ℕ) (v w w' : BaseView BaseContent) (h h' : HeldContent BaseContent) → GetsBase base v w h → GetsBase base v w' h'
    → KnowsOwn w → KnowsOwn w'
    → w.seen ≡ w'.seen → w.met ≡ w'.met → (h ≡ h') × (w ≡ w')
gets_once base v w w' h h' a b k l s m =
    let own = k.held h (ap (λ (x : BaseView BaseContent). x.held) a.rest) in
    let own' = l.held h' (ap (λ (x : BaseView BaseContent). x.held) b.rest) in
    let opening : w.opening ≡ w'.opening = ap (λ (x : BaseView BaseContent). x.opening) a.rest ∙ sym (ap (λ (x : BaseView BaseContent). x.opening) b.rest) in
    let at : h.base ≡ h'.base = a.at ∙ sym b.at in
    let word : h.word ≡ h'.word = own.1.1 ∙ (ap (slice_index w.met) at ∙ (ap (λ l. slice_index l h'.base) m ∙ sym own'.1.1)) in
    let content : h.content ≡ h'.content = own.1.0 ∙ (ap (λ (o : Opening). (system_after o.timers w.seen).bases h.base) opening
    ∙ (ap (λ l. (system_after w'.opening.timers l).bases h.base) s ∙ (ap (base_seen w'.opening w') at ∙ sym own'.1.0))) in
    let same : h ≡ h' = held_same h.base h'.base h.word h'.word h.content h'.content at word content in
    let number : a.number ≡ b.number = doubled (slice_index w.met base) (slice_index w'.met base) _ _ a.word b.word (ap (λ l. slice_index l base) m) in (
      same,
      a.rest ∙ (ap (λ l. record v { seen = l; heard = []; held = Some h; takes = v.takes ++ (base, a.number) ∷ []; met = w.met }) s
          ∙ (ap (λ x. record v { seen = w'.seen; heard = []; held = Some x; takes = v.takes ++ (base, a.number) ∷ []; met = w.met }) same
          ∙ (ap (λ n. record v { seen = w'.seen; heard = []; held = Some h'; takes = v.takes ++ (base, n) ∷ []; met = w.met }) number
          ∙ (ap (λ l. record v { seen = w'.seen; heard = []; held = Some h'; takes = v.takes ++ (base, b.number) ∷ []; met = l }) m ∙ sym b.rest)))),
    )

pub some_is : {A : Type 0} (x y : A) → Some x ≡ Some y → x ≡ y
some_is x y e = ap (λ o. unwrap_or o x) e

pub front_once : (o : Opening) (v : BaseView BaseContent) (h : HeldContent BaseContent) (a a' : Option ℕ) → FrontFits o v h a → FrontFits o v h a' → a ≡ a'
front_once o v h (Some t) (Some u) p q = ap (λ (x : ℕ × ℕ). Some x.1) (some_is _ _ (sym p.front.1 ∙ q.front.1))
front_once o v h (Some t) None p q = let e = p.armed in let f = q.none t in absurd cc
front_once o v h None (Some t) p q = let e = q.armed in let f = p.none t in absurd cc
front_once o v h None None p q = refl

pub raises_once : (k to : ℕ) (old new new' : List SystemEntry) (c : RaisesTo k to old new) (d : RaisesTo k to old new') → c.before ≡ d.before → new ≡ new'
raises_once k to old new new' c d e = by_seen (λ l. l ++ rises k (to - rises_of k l)) _ _ _ _ c.whole d.whole e

pub steps_once : (k from : ℕ) (old new new' : List SystemEntry) (rose rose' : Bool) (c : StepFits k from old new rose) (d : StepFits k from old new' rose')
    → step_moment k from old new rose c ≡ step_moment k from old new' rose' d → (rose ≡ rose') × (new ≡ new')
steps_once k from old new new' true true c d e = (refl, by_seen (λ l. l ++ entries.Rise k ∷ []) _ _ _ _ c.last d.last e)
steps_once k from old new new' true false c d e = absurd (d (sym (ap (rises_of k) e) ∙ c.count))
steps_once k from old new new' false true c d e = absurd (c (ap (rises_of k) e ∙ d.count))
steps_once k from old new new' false false c d e = (refl, e)
