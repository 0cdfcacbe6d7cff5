-- The store of a commit keeps the rule: one entry more, of the seat that holds the value.
use Rattle.std.proofs.Common.{◌≡◌, ℕ, eqb, ◌&&◌, ◌^◌, ◌+◌, ◌<◌, ◌≤◌, ◌≢◌, true, false, List, [], ◌∷◌, ◌++◌, length, set, refl, ap, sym, ◌∙◌, subst, ◌⊎◌, inl, inr, ⊎_elim, length-append, arith}
use Rattle.std.specs.Prelude.{slice_set, Option, Some}
use Rattle.std.proofs.lemmas.Bool.{cases_eq, eqb-true, true≢false}
use Rattle.std.proofs.lemmas.List.{length-set}
use mathlib.Core.Option.{some, none}
use lib.ListN.{get_elem?}
use Rattle.atomic_table.specs.Table.{State, step, gives, Allows}
use Rattle.pass_names.specs.Counts.{one_if, total, count}
use Rattle.pass_names.specs.Names.{occurrences}
use Rattle.pass_names.specs.Passes.{Begins, entries, GoesOn, within}
use Rattle.pass_names.proofs.Counts.{total_set, total_at}
use Rattle.pass_names.proofs.Passes.{begins_refl, begins_nil, begins_length}
use Rattle.counted_row.specs.declared.view.Entry.{Entry}
use Rattle.counted_row.specs.declared.view.Locked.{Locked}
use Rattle.counted_row.specs.declared.view.View.{View}
use Rattle.counted_row.specs.Meaning.{CallMeaning}
use Rattle.counted_row.specs.Views.{HasClaim, is_claim, StateAfter, Knows}
use Rattle.counted_row.specs.Places.{row_word_at}
use Rattle.counted_row.specs.Rules.{row_places, claims_at, Cell, HoldsValue, RowAgrees, RowInvariant}
use Rattle.counted_row.proofs.Frames.{moved}
use Rattle.pass_names.proofs.Counts.{set_there}
use Rattle.counted_row.proofs.Knowing.{knows_of, no_lock}
use Rattle.std.proofs.lemmas.Bool.{and_parts, cases_lt, ne_eqb, eq-eqb}
use Rattle.pass_names.specs.Names.{same}
use Rattle.pass_names.specs.Passes.{Adds}
use Rattle.pass_names.proofs.Names.{same_eq}
use Rattle.pass_names.proofs.Counts.{met, total-append, count-without_first}
use Rattle.pass_names.proofs.Passes.{begins_whole, entries_here, entries_else, count_place, within_more, adds_added}
use Rattle.counted_row.specs.Meaning.{Effect, plain, opens, uses, ends, Counts, times_opened, times_ended}
use Rattle.counted_row.specs.Views.{HasClaimFor, claims_after, committed}
use Rattle.counted_row.specs.Plays.{Enters}
use Rattle.counted_row.proofs.Histories.{after_one, after_push}

-- a claim on one value is not one on another
other_value : (i k : ℕ) (claim name : List ℕ) → k ≢ i → (c : ℕ × List ℕ) → is_claim i claim c ≡ true → is_claim k name c ≡ false
other_value i k claim name apart c e =
    let p = and_parts (eqb c.0 i) (same claim c.1) e in
    rw (ne_eqb c.0 k (λ t. apart (sym t ∙ eqb-true c.0 i p.0))) refl

-- a claim of that name answers to a name as the name does
same_value : (i : ℕ) (claim name : List ℕ) → (c : ℕ × List ℕ) → is_claim i claim c ≡ true → is_claim i name c ≡ same name claim
same_value i claim name c e =
    let p = and_parts (eqb c.0 i) (same claim c.1) e in
    rw p.0 (ap (same name) (sym (same_eq claim c.1 p.1)))

-- claims on other values stay
pub claims_else : (claims : List (ℕ × List ℕ)) (i : ℕ) (e : Effect) → HasClaimFor claims i e → (k : ℕ) (name : List ℕ) → k ≢ i
    → count (is_claim k name) (claims_after claims i e) ≡ count (is_claim k name) claims
claims_else claims i plain ok k name apart = refl
claims_else claims i (opens claim) ok k name apart =
    omega (
      arith,
      total-append (λ (c : ℕ × List ℕ). one_if (is_claim k name c)) claims ((i, claim) ∷ []),
      ap (λ b. one_if (b && same name claim)) (ne_eqb i k (λ t. apart (sym t))),
    )
claims_else claims i (uses claim) ok k name apart = refl
claims_else claims i (ends claim) ok k name apart =
    omega (arith, count-without_first (is_claim i claim) (is_claim k name) false (other_value i k claim name apart) claims ok)

-- the claims on the value change as the effect says
pub claims_here : (claims : List (ℕ × List ℕ)) (i : ℕ) (e : Effect) → HasClaimFor claims i e → (name : List ℕ)
    → count (is_claim i name) (claims_after claims i e) + times_ended name e ≡ count (is_claim i name) claims + times_opened name e
claims_here claims i plain ok name = refl
claims_here claims i (opens claim) ok name =
    omega (
      arith,
      total-append (λ (c : ℕ × List ℕ). one_if (is_claim i name c)) claims ((i, claim) ∷ []),
      ap (λ b. one_if (b && same name claim)) (eq-eqb i i refl),
    )
claims_here claims i (uses claim) ok name = refl
claims_here claims i (ends claim) ok name =
    omega (arith, count-without_first (is_claim i claim) (is_claim i name) (same name claim) (same_value i claim name) claims ok)

module _ {S C R : Type 0} (m : CallMeaning S C R) (counts : Counts m) (made : List S) (slots id : ℕ) (v : View S C R) (h : Locked S) (c : C)
    (live : v.pass.id.live ≡ true) (heard : v.heard ≡ []) (held : v.held ≡ Some h) (may : m.may h.state c)
    (permits : HasClaimFor v.claims h.index (m.effect h.state c)) (low : h.stamp < 2 ^ 48)
    (s : State (Option S) (View S C R)) (inv : RowInvariant m made s) (at : get_elem? s.views id ≡ some v) where
  abbrev i : ℕ
  i = h.index

  abbrev entry : Entry C R
  entry = record { call = c; reply = m.reply h.state c }

  abbrev log : List (Entry C R)
  log = entries i inv.logs

  abbrev longer : List (Entry C R)
  longer = log ++ entry ∷ []

  abbrev logs' : List (List (Entry C R))
  logs' = set inv.logs i longer

  abbrev v' : View S C R
  v' = committed m h c v

  agrees : RowAgrees m made inv.logs inv.holders id v
  agrees = inv.each_view id v at

  holds : HoldsValue m made inv.logs inv.holders id v.pass.seen h
  holds = agrees.held h held

  wide : length v.pass.seen ≡ length made
  wide = agrees.wide live

  in_logs : i < length inv.logs
  in_logs = omega (arith, inv.logs_len, holds.within)

  in_seen : i < length v.pass.seen
  in_seen = omega (arith, wide, holds.within)

  seen_here : entries i v'.pass.seen ≡ longer
  seen_here = entries_here v.pass.seen i (entries i v.pass.seen ++ entry ∷ []) in_seen ∙ ap (λ l. l ++ entry ∷ []) holds.seen

  seen_else : (k : ℕ) → k ≢ i → entries k v'.pass.seen ≡ entries k v.pass.seen
  seen_else k n = entries_else v.pass.seen i k (entries i v.pass.seen ++ entry ∷ []) n

  logs_here : entries i logs' ≡ longer
  logs_here = entries_here inv.logs i longer in_logs

  logs_else : (k : ℕ) → k ≢ i → entries k logs' ≡ entries k inv.logs
  logs_else k n = entries_else inv.logs i k longer n

  next_state : StateAfter m made i longer (m.next h.state c)
  next_state = after_push m made i log entry h.state holds.state may refl

  -- the claims of all seats on the value are the open ones after the call
  open_here : (name : List ℕ) (x : S) → StateAfter m made i longer x → total (claims_at i name) (set s.views id v') ≡ occurrences name (m.claims x)
  open_here name x after =
      omega (
        arith,
        total_set (claims_at i name) s.views id v v' at,
        claims_here v.claims i (m.effect h.state c) permits name,
        counts h.state c name may,
        inv.claims i name h.state holds.state,
        ap (λ (y : S). occurrences name (m.claims y)) (after_one m made i longer x (m.next h.state c) after next_state),
      )

  seen_agrees : GoesOn v'.pass.seen logs'
  seen_agrees = record {
    each = λ k. ⊎_elim
        (λ e. subst (λ q. Begins (entries q v'.pass.seen) (entries q logs')) (sym e)
        (subst (λ l. Begins l (entries i logs')) (sym seen_here) (subst (λ l. Begins longer l) (sym logs_here) (begins_refl longer))))
        (λ n. subst (λ l. Begins l (entries k logs')) (sym (seen_else k n))
        (subst (λ l. Begins (entries k v.pass.seen) l) (sym (logs_else k n)) (agrees.seen.each k)))
        (cases_eq k i);
  }

  longer_seen : (k : ℕ) → length (entries k v.pass.seen) ≤ length (entries k v'.pass.seen)
  longer_seen k =
      ⊎_elim
      (λ e. subst (λ q. length (entries q v.pass.seen) ≤ length (entries q v'.pass.seen)) (sym e)
      (omega (arith, ap length seen_here, length-append log (entry ∷ []), ap length holds.seen)))
      (λ n. omega (arith, ap length (seen_else k n)))
      (cases_eq k i)

  place_more : (k n : ℕ) → row_places k n v' ≡ row_places k n v + one_if (eqb i k && eqb (length (entries i v.pass.seen) + 1) n)
  place_more k n = count_place i k n (length (entries i v.pass.seen) + 1) v.pass.mine

  -- the pass's places are within what it has seen
  own_places : (k n : ℕ) → 0 < row_places k n v' → (n ≤ length (entries k v'.pass.seen)) ⊎ (n ≤ length (entries k v'.heard))
  own_places k n some_one =
      ⊎_elim
      (λ old. ⊎_elim (λ t. inl (omega (arith, longer_seen k))) (λ t. inr t) (agrees.mine k n old))
      (λ none.
      let t = and_parts (eqb i k) (eqb (length (entries i v.pass.seen) + 1) n)
      (met (eqb i k && eqb (length (entries i v.pass.seen) + 1) n) (omega (arith, place_more k n))) in
      inl (subst (λ q. n ≤ length (entries q v'.pass.seen)) (eqb-true i k t.0)
      (omega (arith, eqb-true (length (entries i v.pass.seen) + 1) n t.1, ap length seen_here, length-append log (entry ∷ []), ap length holds.seen))))
      (cases_lt 0 (row_places k n v))

  same_places : (k n : ℕ)
      → row_places k n v' + one_if (within n (length (entries k inv.logs))) ≡ row_places k n v + one_if (within n (length (entries k logs')))
  same_places k n =
      ⊎_elim
      (λ e. subst (λ q. row_places q n v' + one_if (within n (length (entries q inv.logs))) ≡ row_places q n v + one_if
      (within n (length (entries q logs')))) (sym e)
      (omega (
        arith,
        place_more i n,
        ap (λ b. one_if (b && eqb (length (entries i v.pass.seen) + 1) n)) (eq-eqb i i refl),
        ap (λ (l : List (Entry C R)). one_if (eqb (length l + 1) n)) holds.seen,
        ap (λ (l : List (Entry C R)). one_if (within n (length l))) logs_here,
        ap (λ q. one_if (within n q)) (length-append log (entry ∷ [])),
        within_more n (length log),
      )))
      (λ apart. omega (
        arith,
        place_more k n,
        ap (λ b. one_if (b && eqb (length (entries i v.pass.seen) + 1) n)) (ne_eqb i k (λ t. apart (sym t))),
        ap (λ (l : List (Entry C R)). one_if (within n (length l))) (logs_else k apart),
      ))
      (cases_eq k i)

  own_claims : (k : ℕ) (name : List ℕ) (past : List (Entry C R)) (x : S) → HasClaim k name v'.claims → Begins (entries k v'.pass.seen) past
      → Begins (entries k v'.heard) past
      → Begins past (entries k logs') → StateAfter m made k past x → 0 < occurrences name (m.claims x)
  own_claims k name past x has a b d after =
      ⊎_elim
      (λ e.
      let has' : HasClaim i name v'.claims = subst (λ q. HasClaim q name v'.claims) e has in
      let a' : Begins longer past = subst (λ l. Begins l past) seen_here (subst (λ q. Begins (entries q v'.pass.seen) past) e a) in
      let d' : Begins past longer = subst (λ l. Begins past l) logs_here (subst (λ q. Begins past (entries q logs')) e d) in
      let whole : past ≡ longer = begins_whole d' (begins_length a') in
      let after' : StateAfter m made i longer x = subst (λ l. StateAfter m made i l x) whole (subst (λ q. StateAfter m made q past x) e after) in
      omega (arith, open_here name x after', total_at (claims_at i name) (set s.views id v') id v' (set_there s.views id v v' at)))
      (λ n. agrees.claims k name past x (omega (arith, claims_else v.claims i (m.effect h.state c) permits k name n))
      (subst (λ l. Begins l past) (seen_else k n) a) b (subst (λ l. Begins past l) (logs_else k n) d) after)
      (cases_eq k i)

  agrees_after : RowAgrees m made logs' (set inv.holders i 0) id v'
  agrees_after = record {
    opening = agrees.opening;
    wide = λ alive. length-set v.pass.seen i (entries i v.pass.seen ++ entry ∷ []) ∙ wide;
    seen = seen_agrees;
    heard = record { each = λ k. subst (λ l. Begins (entries k l) (entries k logs')) (sym heard) (begins_nil (entries k logs')) };
    held = λ g e. absurd (no_lock g e);
    mine = own_places;
    claims = own_claims;
    gone = λ off. absurd (true≢false (sym live ∙ off));
  }

  cell : Cell m made i longer (some (some (Some (m.next h.state c)))) (h.stamp + 1) 0
  cell = record {
    state = m.next h.state c;
    after = next_state;
    short = omega (arith, length-append log (entry ∷ []), holds.stamp);
    free = λ e. (omega (arith, length-append log (entry ∷ []), holds.stamp), refl);
    taken = λ n. absurd (n refl);
  }

  pub enters_adds : Adds v.pass v'.pass i (entry ∷ [])
  enters_adds = adds_added v.pass i entry in_seen

  pub enters_count : length (entries i v'.pass.seen) ≡ h.stamp + 1
  enters_count = omega (arith, ap length seen_here, length-append log (entry ∷ []), holds.stamp)

  -- the table after the store
  abbrev stored : State (Option S) (View S C R)
  stored = record {
    words = slice_set s.words (row_word_at i) (h.stamp + 1);
    homes = slice_set s.homes i (some (Some (m.next h.state c)));
    views = slice_set s.views id v';
  }

  pub enters_inv : RowInvariant m made stored
  enters_inv =
      moved m made s inv i id v v' longer (h.stamp + 1) 0 (some (Some (m.next h.state c))) at holds.within (inr (entry, refl))
      (inr holds.holder) cell agrees_after refl same_places
      (λ k name n. claims_else v.claims i (m.effect h.state c) permits k name n) open_here

  pub enters_knows : Knows m v'
  enters_knows = knows_of m made stored enters_inv id v' (set_there s.views id v v' at) live heard

module _ {S C R : Type 0} (m : CallMeaning S C R) (counts : Counts m) (made : List S) where
  pub enters : (slots id : ℕ) (v : View S C R) (h : Locked S) (c : C) (asks : C → Type 0) → asks c
      → v.pass.id.live ≡ true → v.heard ≡ [] → v.held ≡ Some h → m.may h.state c → HasClaimFor v.claims h.index (m.effect h.state c) → h.stamp < 2 ^ 48
      → Allows (RowInvariant m made) slots id (v, (h.index, Some (m.next h.state c)) ∷ []) (row_word_at h.index) (λ _. h.stamp + 1)
      (λ _. Enters m asks (step slots (row_word_at h.index) (h.stamp + 1) 0 none) (v, (h.index, Some (m.next h.state c)) ∷ []) (h.stamp + 1))
  enters slots id v h c asks asked live heard held may permits low s inv many at small = (
    committed m h c v,
    gives,
    tt,
    enters_inv m counts made slots id v h c live heard held may permits low s inv at,
    λ g e.
        let t : h ≡ g = cc in
        record {
          call = c;
          asked = asked;
          after = ap (λ q. (committed m q c v, [])) t;
          adds = subst (λ q. Adds v.pass (committed m h c v).pass q.index (record { call = c; reply = m.reply q.state c } ∷ [])) t
              (enters_adds m counts made slots id v h c live heard held may permits low s inv at);
          count = subst (λ q. length (entries q.index (committed m h c v).pass.seen) ≡ q.stamp + 1) t
              (enters_count m counts made slots id v h c live heard held may permits low s inv at);
          knows = enters_knows m counts made slots id v h c live heard held may permits low s inv at;
        },
  )
