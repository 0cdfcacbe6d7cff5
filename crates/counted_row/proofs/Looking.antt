-- A load, and an exchange of a lock's word, keep the rule.
use Rattle.std.proofs.Common.{◌≡◌, ℕ, true, List, [], length, refl, sym, ◌∙◌, subst, inl, inr, ⊎_elim, arith}
use Rattle.std.specs.Prelude.{slice_index, slice_set, Option}
use Rattle.std.proofs.lemmas.Bool.{cases_eq}
use Rattle.std.proofs.lemmas.List.{set-get_or}
use mathlib.Core.Option.{some, none, some-injective, some-ne-none}
use lib.ListN.{get_elem?}
use Rattle.atomic_table.specs.Table.{State, Step, step, Act, keeps, Valid, carried_after, Allows, stepped}
use Rattle.pass_names.specs.Passes.{entries}
use Rattle.pass_names.proofs.Passes.{begins_trans, begins_length, goes_refl, goes_nil}
use Rattle.counted_row.specs.declared.view.Entry.{Entry}
use Rattle.counted_row.specs.declared.view.View.{View}
use Rattle.counted_row.specs.Meaning.{CallMeaning}
use Rattle.counted_row.specs.Views.{having_seen}
use Rattle.counted_row.specs.Places.{row_word_at}
use Rattle.counted_row.specs.Rules.{Cell, RowAgrees, RowInvariant}
use Rattle.counted_row.specs.Plays.{IsLockWord, Looked, Checked}
use Rattle.counted_row.proofs.Frames.{turned}
use Rattle.pass_names.proofs.Counts.{set_there}
use Rattle.counted_row.proofs.Knowing.{knows_of}

module _ {S C R : Type 0} (m : CallMeaning S C R) (made : List S) where
  -- what a seat knows stays true once it has seen all histories
  pub agrees_seen : (logs : List (List (Entry C R))) (holders : List ℕ) (id : ℕ) (v : View S C R) → length logs ≡ length made
      → RowAgrees m made logs holders id v → RowAgrees m made logs holders id (having_seen logs v)
  agrees_seen logs holders id v wide agrees = record {
    opening = agrees.opening;
    wide = λ live. wide;
    seen = goes_refl logs;
    heard = goes_nil logs;
    held = λ h e. let t = agrees.held h e in record { within = t.within; holder = t.holder; stamp = t.stamp; seen = refl; state = t.state };
    mine = λ i k some_one. ⊎_elim
        (λ t. inl (omega (arith, begins_length (agrees.seen.each i))))
        (λ t. inl (omega (arith, begins_length (agrees.heard.each i))))
        (agrees.mine i k some_one);
    claims = λ i name log x has a b c after. agrees.claims i name log x has (begins_trans (agrees.seen.each i) a)
        (begins_trans (agrees.heard.each i) a) c after;
    gone = agrees.gone;
  }

  -- the word of a value tells how many entries its history has
  word_tells : (i : ℕ) (log : List (Entry C R)) (slot : mathlib.Core.Option.Option (mathlib.Core.Option.Option (Option S))) (word holder : ℕ)
      → Cell m made i log slot word holder → IsLockWord (length log) word
  word_tells i log slot word holder cell = record {
    short = cell.short;
    is = ⊎_elim (λ e. inl (cell.free e).0) (λ n. inr (cell.taken n)) (cases_eq holder 0);
  }

  module _ (slots id : ℕ) (v : View S C R) (carried : List (ℕ × Option S)) (live : v.pass.id.live ≡ true) where
    pub looks_at : (st : Step (Option S)) (word : ℕ) → st.word ≡ word → st.slots ≡ slots → (s : State (Option S) (View S C R))
        → RowInvariant m made s → length s.homes ≡ slots → get_elem? s.views id ≡ some v
        → (w : View S C R) × (a : Act (Option S)) × Valid s.homes carried a × RowInvariant m made
        (stepped s word (slice_index s.words word) id carried w a) × Looked m st (v, carried) (slice_index s.words word)
        (w, carried_after carried a)
    looks_at st word at_word as_many s inv many at =
        let v' : View S C R = having_seen inv.logs v in
        let next : RowInvariant m made record { words = s.words; homes = s.homes; views = slice_set s.views id v' } =
        turned m made s inv id v v' at (agrees_seen inv.logs inv.holders id v inv.logs_len (inv.each_view id v at)) refl (λ k n. refl) (λ k name. refl) in (
          v',
          keeps,
          tt,
          subst (λ ws. RowInvariant m made record { words = ws; homes = s.homes; views = slice_set s.views id v' }) (sym (set-get_or s.words word 0)) next,
          record {
            rest = refl;
            seen = (inv.each_view id v at).seen;
            heard = (inv.each_view id v at).heard;
            knows = knows_of m made record { words = s.words; homes = s.homes; views = slice_set s.views id v' } next id v'
                (set_there s.views id v v' at) live refl;
            counts = λ i e h.
                let c = inv.each_cell i (omega (arith, inv.homes_len)) in
                subst (λ k. IsLockWord (length (entries i inv.logs)) (slice_index s.words k)) (sym e ∙ at_word)
                (word_tells i (entries i inv.logs) (get_elem? s.homes i) (slice_index s.words (row_word_at i)) (slice_index inv.holders i) c);
          },
        )

    pub looks : (word : ℕ) → Allows (RowInvariant m made) slots id (v, carried) word (λ n. n) (Looked m (step slots word 0 0 none) (v, carried))
    looks word s inv many at small = looks_at (step slots word 0 0 none) word refl refl s inv many at

  pub checks : (slots id : ℕ) (v : View S C R) (carried : List (ℕ × Option S)) → v.pass.id.live ≡ true → v.heard ≡ [] → (word : ℕ)
      → Allows (RowInvariant m made) slots id (v, carried) word (λ n. n) (Checked m (step slots word 0 0 none) (v, carried))
  checks slots id v carried live heard word s inv many at small =
      let next : RowInvariant m made record { words = s.words; homes = s.homes; views = slice_set s.views id v } =
      turned m made s inv id v v at (inv.each_view id v at) refl (λ k n. refl) (λ k name. refl) in (
        v,
        keeps,
        tt,
        subst (λ ws. RowInvariant m made record { words = ws; homes = s.homes; views = slice_set s.views id v }) (sym (set-get_or s.words word 0)) next,
        record { same = refl; knows = knows_of m made s inv id v at live heard },
      )
