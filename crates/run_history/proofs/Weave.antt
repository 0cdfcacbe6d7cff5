-- From an order of entries, which bears no labels, and the lists of a record: where each entry of the order is shown by the line of its number in its list,
-- the record's lines can be laid along the order, and are one history.
use Rattle.std.proofs.Common.{◌≡◌, ℕ, ◌+◌, suc, Bool, true, false, List, [], ◌∷◌, ◌++◌, length, map, drop, arith, refl, sym, ap, ◌∙◌, subst}
use Rattle.std.proofs.lemmas.List.{append_assoc, drop_all, drop_more}
use Rattle.seq_timer.specs.Systems.{IsSystemHistory}
use Rattle.seq_timer.specs.declared.system.SystemEntry.{SystemEntry}
use Rattle.run_history.specs.Actions.{also}
use Rattle.script_text.specs.Declarations.{terms_of, declareds_of}
use Rattle.script_text.specs.declared.script.Script.{Script}
use Rattle.run_history.specs.Witnesses.{RunLists, entries_in, entry_of_move, IsOneHistory, is_owner, lines_at, moves_from, moves_on, Owner, owner_of, owner_of_entry}
use Rattle.run_history.specs.Receipts.{count_owned, move_at, move_of, no_line, weave}
use Rattle.run_history.specs.Runs.{witness_of, Ending, lists_of}
use Rattle.run_history.proofs.Owners.{and_one, count_cons, count_none, count_push, owner_at, same_owner}

-- ---- the moves of each list are its lines

weave_on : (r : RunLists) (o : Owner) (done xs : List SystemEntry) → count_owned o done + count_owned o xs ≡ length (lines_at r o)
    → moves_on o (weave r done xs) ≡ moves_from (count_owned o done) (drop (count_owned o done) (lines_at r o))
weave_on r o done [] all =
    ap (moves_from (count_owned o done)) (sym (drop_all (count_owned o done) (lines_at r o) (omega (arith, all, count_none o))))
weave_on r o done (x ∷ xs) all =
    let its = is_owner (owner_of_entry x) o in
    let whose : is_owner (owner_of (move_of r done x).shown) o ≡ its =
    ap (λ y. is_owner y o) (owner_at r (owner_of_entry x) (count_owned (owner_of_entry x) done)) in
    ap (λ b. also b (move_of r done x) (moves_on o (weave r (done ++ x ∷ []) xs))) whose
    ∙ go its refl (count_push o done x) (ap (λ n. count_owned o done + n) (sym (count_cons o x xs)) ∙ all) (weave_on r o (done ++ x ∷ []) xs)
  where
    go : (b : Bool) → is_owner (owner_of_entry x) o ≡ b → count_owned o (done ++ x ∷ []) ≡ and_one b (count_owned o done)
        → count_owned o done + and_one b (count_owned o xs) ≡ length (lines_at r o)
        → (count_owned o (done ++ x ∷ []) + count_owned o xs ≡ length (lines_at r o)
        → moves_on o (weave r (done ++ x ∷ []) xs) ≡ moves_from (count_owned o (done ++ x ∷ [])) (drop (count_owned o (done ++ x ∷ [])) (lines_at r o)))
        → also b (move_of r done x) (moves_on o (weave r (done ++ x ∷ []) xs)) ≡ moves_from (count_owned o done) (drop (count_owned o done) (lines_at r o))
    go true is now all further =
        let rest = further (omega (arith, all, now)) in
        ap (λ (y : Owner). move_at r y (count_owned y done) ∷ moves_on o (weave r (done ++ x ∷ []) xs)) (same_owner (owner_of_entry x) o is)
        ∙ ap (λ ms. move_at r o (count_owned o done) ∷ ms) (rest ∙ ap (λ n. moves_from n (drop n (lines_at r o))) now)
        ∙ ap (moves_from (count_owned o done)) (sym (drop_more (lines_at r o) (count_owned o done) (no_line o) (omega (arith, all))))
    go false is now all further =
        further (omega (arith, all, now)) ∙ ap (λ n. moves_from n (drop n (lines_at r o))) now

-- ---- and show the order's entries

-- the line of an entry that stands behind these shows it
abbrev pub IsShown : RunLists → List SystemEntry → SystemEntry → Type 0
IsShown r before x = entry_of_move r.run.clock (move_of r before x) ≡ x

weave_shows : (r : RunLists) (order done xs : List SystemEntry) → order ≡ done ++ xs
    → ((before : List SystemEntry) (x : SystemEntry) (later : List SystemEntry) → order ≡ before ++ x ∷ later → IsShown r before x)
    → map (entry_of_move r.run.clock) (weave r done xs) ≡ xs
weave_shows r order done [] is shows = refl
weave_shows r order done (x ∷ xs) is shows =
    ap (λ (y : SystemEntry). y ∷ map (entry_of_move r.run.clock) (weave r (done ++ x ∷ []) xs)) (shows done x xs is)
    ∙ ap (λ ys. x ∷ ys) (weave_shows r order (done ++ x ∷ []) xs (is ∙ sym (append_assoc done (x ∷ []) xs)) shows)

pub length_weave : (r : RunLists) (done xs : List SystemEntry) → length (weave r done xs) ≡ length xs
length_weave r done [] = refl
length_weave r done (x ∷ xs) = ap suc (length_weave r (done ++ x ∷ []) xs)

-- so a record whose lists each show their part of a history of all timers and bases is one history in that order
module _ (s : Script) (e : Ending)
    (shows : (before : List SystemEntry) (x : SystemEntry) (later : List SystemEntry) → e.order ≡ before ++ x ∷ later → IsShown (lists_of e) before x) where
  pub woven : entries_in (witness_of s e) ≡ e.order
  woven = weave_shows (lists_of e) e.order [] e.order refl shows

  pub one_history_from : ((o : Owner) → length (lines_at (lists_of e) o) ≡ count_owned o e.order)
      → IsSystemHistory s.bases (declareds_of s) (terms_of s) e.order → IsOneHistory (witness_of s e)
  one_history_from whole history = record {
    all = λ o. weave_on (lists_of e) o [] e.order (ap (λ n. n + count_owned o e.order) (count_none o) ∙ from_none (count_owned o e.order) ∙ sym (whole o))
        ∙ ap (λ n. moves_from n (drop n (lines_at (lists_of e) o))) (count_none o);
    history = subst (IsSystemHistory s.bases (declareds_of s) (terms_of s)) (sym woven) history;
  }
    where
      from_none : (n : ℕ) → 0 + n ≡ n
      from_none n = omega arith
