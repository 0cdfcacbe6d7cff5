-- The rule holds of a new row: every lock is free and every history is empty.
use Rattle.std.proofs.Common.{◌≡◌, ℕ, zero, suc, ◌<◌, List, [], ◌∷◌, length, map, replicate, refl, ap, sym, ◌∙◌, subst, arith}
use Rattle.std.specs.Prelude.{slice_index, Option, Some, All}
use Rattle.std.proofs.lemmas.Bool.Decides.{nat_tests}
use Rattle.std.proofs.lemmas.List.{length-replicate, length-map, get_or-replicate}
use mathlib.Core.Option.{some, some-injective, some-ne-none}
use lib.ListN.{get_elem?}
use Rattle.atomic_table.proofs.Lists.{at_map}
use Rattle.atomic_table.specs.Table.{opening}
use Rattle.pass_names.specs.Counts.{one_if}
use Rattle.pass_names.specs.Names.{occurrences}
use Rattle.pass_names.specs.Passes.{entries, within}
use Rattle.pass_names.proofs.Names.{first_tree}
use Rattle.pass_names.proofs.Passes.{goes_refl, entries_replicate}
use Rattle.counted_row.specs.declared.view.Entry.{Entry}
use Rattle.counted_row.specs.declared.view.View.{View}
use Rattle.counted_row.specs.Meaning.{CallMeaning}
use Rattle.counted_row.specs.Views.{StateAfter, Knows, first_view}
use Rattle.counted_row.specs.Places.{row_word_at}
use Rattle.counted_row.specs.Rules.{Cell, RowAgrees, RowInvariant}
use Rattle.counted_row.proofs.Knowing.{knows_of}
use Rattle.counted_row.proofs.Splitting.{agrees_reader}

value_at : {A : Type 0} (xs : List A) (i : ℕ) → i < length xs → (x : A) × (get_elem? xs i ≡ some x)
value_at [] i h = absurd (omega arith)
value_at (x ∷ xs) zero h = (x, refl)
value_at (x ∷ xs) (suc i) h = value_at xs i (omega arith)

slot_at : {A : Type 0} (xs : List A) (i : ℕ) (x : A) → get_elem? xs i ≡ some x → get_elem? (map some (map Some xs)) i ≡ some (some (Some x))
slot_at xs i x e = at_map some (map Some xs) i (Some x) (at_map Some xs i x e)

module _ {S C R : Type 0} (m : CallMeaning S C R) (made : List S) where
  abbrev first : View S C R
  first = first_view made

  abbrev logs : List (List (Entry C R))
  logs = replicate (length made) []

  abbrev holders : List ℕ
  holders = replicate (length made) 0

  empty : (i : ℕ) → length (entries i logs) ≡ 0
  empty i = ap length (entries_replicate (length made) i)

  agrees_first : (j : ℕ) → RowAgrees m made logs holders j first
  agrees_first j = agrees_reader m made logs holders j first.pass.id made logs (λ live. refl) (λ live. length-replicate (length made) []) (goes_refl logs)

  start : (i : ℕ) (x : S) → get_elem? made i ≡ some x → StateAfter m made i (entries i logs) x
  start i x at = subst (λ l. StateAfter m made i l x) (sym (entries_replicate (length made) i)) (record { from = x; at = at; leads = refl })

  cell : (i : ℕ) → i < length made
      → Cell m made i (entries i logs) (get_elem? (map some (map Some made)) i) (slice_index (replicate (row_word_at (length made)) 0) (row_word_at i))
      (slice_index holders i)
  cell i h =
      let x = value_at made i h in
      record {
        state = x.0;
        after = start i x.0 x.1;
        short = omega (arith, empty i);
        free = λ e. (omega (arith, get_or-replicate {A = ℕ} (row_word_at (length made)) (row_word_at i) 0 0 (omega arith), empty i), slot_at made i x.0 x.1);
        taken = λ n. absurd (n (get_or-replicate (length made) i 0 0 h));
      }

  no_entry : (i k : ℕ) → one_if (within k (length (entries i logs))) ≡ 0
  no_entry i k = ap (λ n. one_if (within k n)) (empty i) ∙ none k
    where
      none : (k : ℕ) → one_if (within k 0) ≡ 0
      none k = grind (arith, nat_tests)

  pub opens_inv : ((i : ℕ) (x : S) → get_elem? made i ≡ some x → m.claims x ≡ [])
      → RowInvariant m made (opening (replicate (row_word_at (length made)) 0) (map Some made) first)
  opens_inv unclaimed = record {
    logs = logs;
    holders = holders;
    words_len = length-replicate (row_word_at (length made)) 0;
    homes_len = length-map (map Some made) some ∙ length-map made Some;
    logs_len = length-replicate (length made) [];
    holders_len = length-replicate (length made) 0;
    each_cell = cell;
    each_view = λ j v e. here j v e;
    tree = first_tree;
    tally = λ i k. omega (arith, no_entry i k);
    claims = λ i name x after. omega (arith, no_claim i name x after);
  }
    where
      here : (j : ℕ) (v : View S C R) → get_elem? (first ∷ []) j ≡ some v → RowAgrees m made logs holders j v
      here zero v e = subst (λ w. RowAgrees m made logs holders 0 w) (some-injective first v e) (agrees_first 0)
      here (suc j) v e = absurd (some-ne-none v (sym e))

      no_claim : (i : ℕ) (name : List ℕ) (x : S) → StateAfter m made i (entries i logs) x → occurrences name (m.claims x) ≡ 0
      no_claim i name x after =
          let begins : StateAfter m made i [] x = subst (λ l. StateAfter m made i l x) (entries_replicate (length made) i) after in
          ap (occurrences name) (ap m.claims begins.leads ∙ unclaimed i begins.from begins.at)

  all_at : (P : S → Type 0) (xs : List S) → All P xs → (i : ℕ) (x : S) → get_elem? xs i ≡ some x → P x
  all_at P [] all i x e = absurd (some-ne-none x (sym e))
  all_at P (y ∷ ys) all zero x e = subst P (some-injective y x e) (all 0 y (omega arith))
  all_at P (y ∷ ys) all (suc i) x e = all_at P ys (λ k d h. all (suc k) d (omega arith)) i x e

  pub opens : (words : List ℕ) (slots : List (Option S)) → All (λ x. m.claims x ≡ []) made → words ≡ replicate (row_word_at (length made)) 0
      → slots ≡ map Some made → RowInvariant m made (opening words slots first)
  opens words slots unclaimed is_words is_slots =
      subst (λ ws. RowInvariant m made (opening ws slots first)) (sym is_words)
      (subst (λ ss. RowInvariant m made (opening (replicate (row_word_at (length made)) 0) ss first)) (sym is_slots)
      (opens_inv (λ i x e. all_at (λ y. m.claims y ≡ []) made unclaimed i x e)))

  -- the first pass knows that it is the last
  pub knows_first : All (λ x. m.claims x ≡ []) made → Knows m first
  knows_first unclaimed =
      knows_of m made (opening (replicate (row_word_at (length made)) 0) (map Some made) first)
      (opens (replicate (row_word_at (length made)) 0) (map Some made) unclaimed refl refl) 0 first refl refl refl
