-- Whole turns on a value: from the clauses of a lock and of its end, and one after another.
use Rattle.std.proofs.Common.{◌≡◌, ℕ, ◌<◌, List, [], ◌∷◌, ◌++◌, None, length, ap, sym, ◌∙◌, subst, arith}
use Rattle.std.proofs.lemmas.List.{length-drop}
use mathlib.Core.Option.{some}
use lib.ListN.{get_elem?}
use Rattle.atomic_table.proofs.Lists.{drop_at}
use Rattle.pass_names.specs.Passes.{Adds, Looks, entries, places}
use Rattle.pass_names.proofs.Passes.{begins_trans, goes_trans, looks_trans, entries_here}
use Rattle.counted_row.specs.declared.view.Entry.{Entry}
use Rattle.counted_row.specs.declared.view.Locked.{Locked}
use Rattle.counted_row.specs.Meaning.{CallMeaning}
use Rattle.counted_row.specs.Views.{RowOf, PassOfRow, IsPassOfRow, StateAfter, Knows, Sees, Locks, claims_after, committed, released}
use Rattle.counted_row.specs.Calls.{Commits, ReadsValue}

pub in_list : {A : Type 0} (xs : List A) (i : ℕ) (x : A) → get_elem? xs i ≡ some x → i < length xs
in_list xs i x e = omega (arith, ap length (drop_at xs i x e), length-drop i xs)

module _ {S C R : Type 0} {m : CallMeaning S C R} where
  -- a lock, and the commit that ended it
  abbrev pub commits_of : {r : RowOf S} {old mid new : PassOfRow S C R} {i : ℕ} {h : Locked S} {call : C} → Locks m old mid i h
      → IsPassOfRow r mid → IsPassOfRow r new → Adds mid.knows.pass new.knows.pass h.index (record { call = call; reply = m.reply h.state call } ∷ [])
      → new.knows ≡ committed m h call mid.knows → Knows m new.knows → Commits m old new i call
  commits_of {r} {old} {mid} {new} {i} {h} {call} locks here after adds is knows =
      let seen = mid.knows.pass.seen in
      let entry : Entry C R = record { call = call; reply = m.reply h.state call } in
      let now = subst (λ k. StateAfter m mid.knows.opening k (entries k seen) h.state) locks.index locks.now.state in
      let inside : i < length seen = omega (arith, in_list mid.knows.opening i now.from now.at, locks.knows.wide) in
      let made = is ∙ ap (λ k. committed m (record { index = k; stamp = h.stamp; state = h.state }) call mid.knows) locks.index in
      record {
        row = after.row ∙ sym here.row ∙ locks.row;
        opening = ap (λ v. v.opening) made ∙ locks.opening;
        state = h.state;
        adds = record {
          seen = goes_trans locks.pass.seen adds.seen;
          before = entries i seen;
          begins = locks.pass.seen.each i;
          last = ap (λ v. entries i v.pass.seen) made ∙ entries_here seen i (entries i seen ++ entry ∷ []) inside;
          mine = ap (λ v. v.pass.mine) made ∙ ap (λ l. l ++ places i (length (entries i seen)) (entry ∷ [])) locks.pass.mine;
          id = ap (λ v. v.pass.id) made ∙ locks.pass.id;
        };
        at = subst (λ o. StateAfter m o i (entries i seen) h.state) locks.opening now;
        claims = ap (λ v. v.claims) made ∙ ap (λ cs. claims_after cs i (m.effect h.state call)) locks.claims;
        idle = ap (λ v. v.held) made;
        knows = knows;
      }

  -- a lock, and the release that ended it
  abbrev pub reads_of : {r : RowOf S} {old mid new : PassOfRow S C R} {i : ℕ} {h : Locked S} → Locks m old mid i h
      → IsPassOfRow r mid → IsPassOfRow r new → old.knows.held ≡ None → new.knows ≡ released mid.knows → Knows m new.knows → ReadsValue m old new i
  reads_of {r} {old} {mid} {new} {i} {h} locks here after idle is knows = record {
    row = after.row ∙ sym here.row ∙ locks.row;
    opening = ap (λ v. v.opening) is ∙ locks.opening;
    pass = subst (λ p. Looks old.knows.pass p) (sym (ap (λ v. v.pass) is)) locks.pass;
    state = h.state;
    at = subst (λ p. StateAfter m old.knows.opening i (entries i p.seen) h.state) (sym (ap (λ v. v.pass) is))
        (subst (λ o. StateAfter m o i (entries i mid.knows.pass.seen) h.state) locks.opening
        (subst (λ k. StateAfter m mid.knows.opening k (entries k mid.knows.pass.seen) h.state) locks.index locks.now.state));
    claims = ap (λ v. v.claims) is ∙ locks.claims;
    held = ap (λ v. v.held) is ∙ sym idle;
    knows = knows;
  }

  -- what is done after a look
  pub locks_after : {p q r : PassOfRow S C R} {i : ℕ} {h : Locked S} → Sees p q → Locks m q r i h → Locks m p r i h
  locks_after a b = record {
    row = b.row ∙ a.row;
    pass = looks_trans a.pass b.pass;
    opening = b.opening ∙ a.opening;
    claims = b.claims ∙ a.claims;
    held = b.held;
    index = b.index;
    now = b.now;
    knows = b.knows;
  }

  abbrev pub reads_after : {p q r : PassOfRow S C R} {i : ℕ} → Sees p q → ReadsValue m q r i → ReadsValue m p r i
  reads_after {p} {q} {r} {i} a b = record {
    row = b.row ∙ a.row;
    opening = b.opening ∙ a.opening;
    pass = looks_trans a.pass b.pass;
    state = b.state;
    at = subst (λ o. StateAfter m o i (entries i r.knows.pass.seen) b.state) a.opening b.at;
    claims = b.claims ∙ a.claims;
    held = b.held ∙ a.held;
    knows = b.knows;
  }

  abbrev pub commits_after : {p q r : PassOfRow S C R} {i : ℕ} {call : C} → Sees p q → Commits m q r i call → Commits m p r i call
  commits_after {p} {q} {r} {i} {call} a b =
      let adds = b.adds in
      let entry : Entry C R = record { call = call; reply = m.reply b.state call } in
      record {
        row = b.row ∙ a.row;
        opening = b.opening ∙ a.opening;
        state = b.state;
        adds = record {
          seen = goes_trans a.pass.seen adds.seen;
          before = adds.before;
          begins = begins_trans (a.pass.seen.each i) adds.begins;
          last = adds.last;
          mine = adds.mine ∙ ap (λ l. l ++ places i (length adds.before) (entry ∷ [])) a.pass.mine;
          id = adds.id ∙ a.pass.id;
        };
        at = subst (λ o. StateAfter m o i adds.before b.state) a.opening b.at;
        claims = b.claims ∙ ap (λ cs. claims_after cs i (m.effect b.state call)) a.claims;
        idle = b.idle;
        knows = b.knows;
      }
