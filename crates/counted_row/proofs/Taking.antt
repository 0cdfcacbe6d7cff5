-- An exchange takes a lock, and a store lets it go: both keep the rule.
use Rattle.std.proofs.Common.{◌≡◌, ℕ, eqb, ◌+◌, ◌<◌, Bool, true, false, List, [], ◌∷◌, length, set, refl, ap, sym, ◌∙◌, subst, inl, inr, ⊎_elim, arith}
use Rattle.std.specs.Prelude.{slice_index, slice_set, Option, Some, None, MatchBool}
use Rattle.std.proofs.lemmas.Bool.{cases_eq, eqb-true}
use Rattle.std.proofs.lemmas.List.{get_or-set_same}
use mathlib.Core.Option.{some, none}
use lib.ListN.{get_elem?}
use prog.Atomic.{either}
use Rattle.atomic_table.specs.Table.{State, step, Act, takes, gives, Valid, carried_after, Allows, stepped}
use Rattle.pass_names.specs.Passes.{entries}
use Rattle.counted_row.specs.declared.view.Entry.{Entry}
use Rattle.counted_row.specs.declared.view.Locked.{Locked}
use Rattle.counted_row.specs.declared.view.View.{View}
use Rattle.counted_row.specs.Meaning.{CallMeaning}
use Rattle.counted_row.specs.Views.{having_seen}
use Rattle.counted_row.specs.Places.{row_word_at}
use Rattle.counted_row.specs.Rules.{taken_mark, Cell, HoldsValue, RowAgrees, RowInvariant}
use Rattle.counted_row.specs.Plays.{Looked, Hit, Took}
use Rattle.pass_names.proofs.Counts.{set_there}
use Rattle.counted_row.proofs.Knowing.{knows_of, no_lock}
use Rattle.counted_row.specs.Views.{released}
use Rattle.counted_row.specs.Plays.{Freed}
use Rattle.counted_row.proofs.Frames.{shifted}
use Rattle.counted_row.proofs.Looking.{agrees_seen, looks_at}

module _ {S C R : Type 0} (m : CallMeaning S C R) (made : List S) where
  -- a seat may come to hold what fits, whoever holds what else
  agrees_held : (logs : List (List (Entry C R))) (holders holders' : List ℕ) (id : ℕ) (v : View S C R) (held : Option (Locked S))
      → RowAgrees m made logs holders id v → ((h : Locked S) → held ≡ Some h → HoldsValue m made logs holders' id v.pass.seen h)
      → RowAgrees m made logs holders' id (record v { held = held })
  agrees_held logs holders holders' id v held agrees holds = record {
    opening = agrees.opening;
    wide = agrees.wide;
    seen = agrees.seen;
    heard = agrees.heard;
    held = holds;
    mine = agrees.mine;
    claims = agrees.claims;
    gone = agrees.gone;
  }

  module _ (slots id : ℕ) (v : View S C R) (live : v.pass.id.live ≡ true) (idle : v.held ≡ None) (i stamp : ℕ) (inside : i < slots)
      (low : stamp < taken_mark) where
    abbrev Goes : State (Option S) (View S C R) → Bool → Type 0
    Goes s hit =
        (w : View S C R) × (a : Act (Option S)) × Valid s.homes [] a × RowInvariant m made
        (stepped s (row_word_at i) (either hit (stamp + taken_mark) (slice_index s.words (row_word_at i))) id [] w a)
        × ((k : ℕ) → row_word_at i ≡ row_word_at k
        → MatchBool hit (Hit m (step slots (row_word_at i) stamp (stamp + taken_mark) none) (v, []) k (w, carried_after [] a))
        (Looked m (step slots (row_word_at i) stamp (stamp + taken_mark) none) (v, []) (slice_index s.words (row_word_at i)) (w, carried_after [] a)))

    goes : (s : State (Option S) (View S C R)) → RowInvariant m made s → length s.homes ≡ slots → get_elem? s.views id ≡ some v
        → (hit : Bool) → eqb (slice_index s.words (row_word_at i)) stamp ≡ hit → Goes s hit
    goes s inv many at false miss =
        let l = looks_at m made slots id v [] live (step slots (row_word_at i) stamp (stamp + taken_mark) none) (row_word_at i) refl refl s inv many at in
        (l.0, l.1, l.2, l.3, λ k e. l.4)
    goes s inv many at true hit =
        let found : slice_index s.words (row_word_at i) ≡ stamp = eqb-true (slice_index s.words (row_word_at i)) stamp hit in
        let in_made : i < length made = omega (arith, inv.homes_len) in
        let cell = inv.each_cell i in_made in
        let unheld : slice_index inv.holders i ≡ 0 = ⊎_elim (λ e. e) (λ n. absurd (omega (arith, cell.taken n))) (cases_eq (slice_index inv.holders i) 0) in
        let free = cell.free unheld in
        let h : Locked S = record { index = i; stamp = stamp; state = cell.state } in
        let v1 : View S C R = having_seen inv.logs v in
        let v2 : View S C R = record v1 { held = Some h } in
        let holders : List ℕ = set inv.holders i (id + 1) in
        let holds : HoldsValue m made inv.logs holders id inv.logs h = record {
          within = in_made;
          holder = get_or-set_same inv.holders i (id + 1) 0 (omega (arith, inv.holders_len));
          stamp = sym found ∙ free.0;
          seen = refl;
          state = cell.after;
        } in
        let agrees : RowAgrees m made inv.logs holders id v2 =
        agrees_held inv.logs inv.holders holders id v1 (Some h) (agrees_seen m made inv.logs inv.holders id v inv.logs_len (inv.each_view id v at))
        (λ k e. let t : h ≡ k = cc in subst (HoldsValue m made inv.logs holders id inv.logs) t holds) in
        let cell' : Cell m made i (entries i inv.logs) (some none) (stamp + taken_mark) (id + 1) = record {
          state = cell.state;
          after = cell.after;
          short = cell.short;
          free = λ e. absurd (omega arith);
          taken = λ n. omega (arith, free.0);
        } in
        let taken : State (Option S) (View S C R) = record {
          words = slice_set s.words (row_word_at i) (stamp + taken_mark);
          homes = slice_set s.homes i none;
          views = slice_set s.views id v2;
        } in
        let next : RowInvariant m made taken =
        shifted m made s inv i id v v2 (stamp + taken_mark) (id + 1) none at in_made (inl unheld) cell' agrees refl (λ k n. refl) (λ k name. refl) in (
          v2,
          takes i (Some cell.state),
          free.1,
          next,
          λ k e.
              subst (λ q. Hit m (step slots (row_word_at i) stamp (stamp + taken_mark) none) (v, []) q (v2, (i, Some cell.state) ∷ [])) (omega arith) (record {
                state = cell.state;
                seen = inv.logs;
                goes_on = (inv.each_view id v at).seen;
                rest = refl;
                knows = knows_of m made taken next id v2 (set_there s.views id v v2 at) live refl;
              }),
        )

    pub takes_lock : Allows (RowInvariant m made) slots id (v, []) (row_word_at i) (λ n. either (eqb n stamp) (stamp + taken_mark) n)
        (Took m (step slots (row_word_at i) stamp (stamp + taken_mark) none) (v, []))
    takes_lock s inv many at small = goes s inv many at (eqb (slice_index s.words (row_word_at i)) stamp) refl

  module _ (slots id : ℕ) (v : View S C R) (h : Locked S) (live : v.pass.id.live ≡ true) (heard : v.heard ≡ []) (held : v.held ≡ Some h) where
    pub frees : Allows (RowInvariant m made) slots id (v, (h.index, Some h.state) ∷ []) (row_word_at h.index) (λ _. h.stamp)
        (λ _. Freed m (step slots (row_word_at h.index) h.stamp 0 none) (v, (h.index, Some h.state) ∷ []) h.stamp)
    frees s inv many at small =
        let t = (inv.each_view id v at).held h held in
        let i = h.index in
        let v' : View S C R = released v in
        let cell = inv.each_cell i t.within in
        let agrees : RowAgrees m made inv.logs (set inv.holders i 0) id v' =
        agrees_held inv.logs inv.holders (set inv.holders i 0) id v None (inv.each_view id v at) (λ h e. absurd (no_lock h e)) in
        let cell' : Cell m made i (entries i inv.logs) (some (some (Some h.state))) h.stamp 0 = record {
          state = h.state;
          after = t.state;
          short = cell.short;
          free = λ e. (t.stamp, refl);
          taken = λ n. absurd (n refl);
        } in
        let freed : State (Option S) (View S C R) = record {
          words = slice_set s.words (row_word_at i) h.stamp;
          homes = slice_set s.homes i (some (Some h.state));
          views = slice_set s.views id v';
        } in
        let next : RowInvariant m made freed =
        shifted m made s inv i id v v' h.stamp 0 (some (Some h.state)) at t.within (inr t.holder) cell' agrees refl (λ k n. refl) (λ k name. refl) in (
          v',
          gives,
          tt,
          next,
          record {
            after = refl;
            count = λ g e. let same : h ≡ g = cc in subst (λ q. q.stamp ≡ length (entries q.index v.pass.seen)) same (t.stamp ∙ ap length (sym t.seen));
            knows = knows_of m made freed next id v' (set_there s.views id v v' at) live heard;
          },
        )
