-- A history leads a value to one state, so what is known of a value after it is fixed.
use Rattle.std.proofs.Common.{◌≡◌, ℕ, List, [], ◌∷◌, ap, sym, ◌∙◌, subst, refl, length, Some}
use Rattle.pass_names.specs.declared.Pass.{Pass}
use Rattle.pass_names.specs.Passes.{Looks, entries}
use Rattle.counted_row.specs.Meaning.{CallMeaning, Leads}
use Rattle.counted_row.specs.Calls.{Commits, ReadsValue}
use Rattle.counted_row.specs.Views.{Locks, PassOfRow, Sees, StateAfter}
use Rattle.counted_row.specs.declared.view.Entry.{Entry}
use Rattle.counted_row.specs.declared.view.Locked.{Locked}
use Rattle.answer_laws.specs.Rows.{SameOfRow, SamePlaces}

pub looks_once : {E : Type 0} (p q r : Pass E) → Looks p q → Looks p r → SamePlaces q r
looks_once p q r a b = record { id = a.id ∙ sym b.id; mine = a.mine ∙ sym b.mine }

module _ {S C R : Type 0} where
  pub sees_once : (p q r : PassOfRow S C R) → Sees p q → Sees p r → SameOfRow q r
  sees_once p q r a b = record {
    row = a.row ∙ sym b.row;
    opening = a.opening ∙ sym b.opening;
    pass = looks_once _ _ _ a.pass b.pass;
    claims = a.claims ∙ sym b.claims;
    held = a.held ∙ sym b.held;
  }

  pub row_same : (p : PassOfRow S C R) → SameOfRow p p
  row_same p = record { row = refl; opening = refl; pass = record { id = refl; mine = refl }; claims = refl; held = refl }

module _ {S C R : Type 0} (m : CallMeaning S C R) where
  leads_once : (a b x y : S) (log : List (Entry C R)) → a ≡ b → Leads m a log x → Leads m b log y → x ≡ y
  leads_once a b x y [] e p q = p ∙ (e ∙ sym q)
  leads_once a b x y (c ∷ cs) e p q = leads_once (m.next a c.call) (m.next b c.call) x y cs (ap (λ s. m.next s c.call) e) p.2 q.2

  abbrev locked : ℕ → ℕ → S → Locked S
  locked i n x = record { index = i; state = x; stamp = n }

  locked_same : (i j n o : ℕ) (x y : S) → i ≡ j → n ≡ o → x ≡ y → locked i n x ≡ locked j o y
  locked_same i j n o x y a b c = cc

  pub state_once : (made made' : List S) (i : ℕ) (log log' : List (Entry C R)) (x y : S) → made ≡ made' → log ≡ log' → StateAfter m made i log x
      → StateAfter m made' i log' y → x ≡ y
  state_once made made' i log log' x y f e p q =
      let from : p.from ≡ q.from = let here = p.at in let there = q.at in cc in
      leads_once p.from q.from x y log' from (subst (λ l. Leads m p.from l x) e p.leads) q.leads

  pub locks_once : (p q r : PassOfRow S C R) (i : ℕ) (h k : Locked S) → Locks m p q i h → Locks m p r i k
      → entries i q.knows.pass.seen ≡ entries i r.knows.pass.seen → (h ≡ k) × SameOfRow q r
  locks_once p q r i h k a b e =
      let index : h.index ≡ k.index = a.index ∙ sym b.index in
      let seen : entries h.index q.knows.pass.seen ≡ entries k.index r.knows.pass.seen =
      ap (λ j. entries j q.knows.pass.seen) a.index ∙ (e ∙ sym (ap (λ j. entries j r.knows.pass.seen) b.index)) in
      let opening : q.knows.opening ≡ r.knows.opening = a.opening ∙ sym b.opening in
      let state : h.state ≡ k.state = state_once _ _ h.index _ _ _ _ opening seen a.now.state
      (subst (λ j. StateAfter m r.knows.opening j (entries k.index r.knows.pass.seen) k.state) (sym index) b.now.state) in
      let stamp : h.stamp ≡ k.stamp = a.now.stamp ∙ (ap length seen ∙ sym b.now.stamp) in
      let same : h ≡ k = locked_same h.index k.index h.stamp k.stamp h.state k.state index stamp state in (
        same,
        record {
          row = a.row ∙ sym b.row;
          opening = opening;
          pass = looks_once _ _ _ a.pass b.pass;
          claims = a.claims ∙ sym b.claims;
          held = a.held ∙ (ap Some same ∙ sym b.held);
        },
      )

  pub commits_once : (p q p' r : PassOfRow S C R) (i : ℕ) (call call' : C) → SameOfRow p p' → call ≡ call' → (a : Commits m p q i call)
      → (b : Commits m p' r i call') → a.adds.before ≡ b.adds.before
      → (a.state ≡ b.state) × (entries i q.knows.pass.seen ≡ entries i r.knows.pass.seen) × SameOfRow q r
  commits_once p q p' r i call call' alike same a b e =
      let state : a.state ≡ b.state = state_once _ _ i _ _ _ _ alike.opening e a.at b.at in
      let reply : m.reply a.state call ≡ m.reply b.state call' = ap (λ s. m.reply s call) state ∙ ap (m.reply b.state) same in
      let effect : m.effect a.state call ≡ m.effect b.state call' = ap (λ s. m.effect s call) state ∙ ap (m.effect b.state) same in
      let last = a.adds.last in
      let last' = b.adds.last in
      let mine = a.adds.mine in
      let mine' = b.adds.mine in
      let claims = a.claims in
      let claims' = b.claims in
      let own = alike.pass.mine in
      let held = alike.claims in (
        state,
        cc,
        record {
          row = a.row ∙ (alike.row ∙ sym b.row);
          opening = a.opening ∙ (alike.opening ∙ sym b.opening);
          pass = record { id = a.adds.id ∙ (alike.pass.id ∙ sym b.adds.id); mine = cc };
          claims = cc;
          held = a.idle ∙ sym b.idle;
        },
      )

  pub reads_once : (p q r : PassOfRow S C R) (i : ℕ) (a : ReadsValue m p q i) (b : ReadsValue m p r i)
      → entries i q.knows.pass.seen ≡ entries i r.knows.pass.seen → (a.state ≡ b.state) × SameOfRow q r
  reads_once p q r i a b e = (
    state_once _ _ i _ _ _ _ refl e a.at b.at,
    record {
      row = a.row ∙ sym b.row;
      opening = a.opening ∙ sym b.opening;
      pass = looks_once _ _ _ a.pass b.pass;
      claims = a.claims ∙ sym b.claims;
      held = a.held ∙ sym b.held;
    },
  )
