-- Calls that a pass has made, added up.
use Rattle.std.proofs.Common.{◌≡◌, ℕ, ◌+◌, ◌<◌, ◌≢◌, eqb, ◌&&◌, List, [], ◌∷◌, length, refl, ap, sym, ◌∙◌, subst, ⊎_elim, length-append, arith}
use Rattle.std.proofs.lemmas.Bool.{ne_eqb, cases_lt}
use Rattle.std.proofs.lemmas.Bool.Decides.{nat_tests}
use Rattle.pass_names.specs.declared.Pass.{Pass}
use Rattle.pass_names.specs.Counts.{one_if, count}
use Rattle.pass_names.specs.Names.{IsLast}
use Rattle.pass_names.specs.Passes.{is_place, within, entries}
use Rattle.pass_names.proofs.Passes.{count_place, places_of_one}
use Rattle.counted_row.specs.declared.view.Entry.{Entry}
use Rattle.counted_row.specs.declared.view.View.{View}
use Rattle.counted_row.specs.Calls.{Commits}
use Rattle.counted_row.specs.Views.{PassOfRow, Knows, first_view}
use Rattle.table_uses.specs.declared.rows.counter.Counter.{Counter}
use Rattle.table_uses.specs.Counters.{adding, Made}

-- a turn with a call
pub made_one : {index call : ℕ} {p q : PassOfRow Counter ℕ ℕ} → Commits adding p q index call → Made index 1 p q
made_one {index} {call} {p} {q} turn =
    let adds = turn.adds in
    let number = length adds.before + 1 in
    record {
      id = adds.id;
      seen = adds.seen;
      mine = omega (arith, ap length adds.mine, length-append p.knows.pass.mine ((index, number) ∷ []));
      elsewhere = λ i k apart.
          omega (
            arith,
            ap (count (is_place i k)) adds.mine,
            count_place index i k number p.knows.pass.mine,
            ap (λ b. one_if (b && eqb number k)) (ne_eqb index i (λ t. apart (sym t))),
          );
      claims = turn.claims;
      held = turn.idle;
    }

in_range : (n : ℕ) → 0 < n → one_if (within n n) ≡ 1
in_range n h = grind (arith, nat_tests)

-- the last pass, and all its places are on value 0
pub record IsOnOne (p : Pass (Entry ℕ ℕ)) : Type 0 where
  pub last : IsLast p.id
  pub elsewhere : (i k : ℕ) → i ≢ 0 → count (is_place i k) p.mine ≡ 0

pub first_on_one : (made : List Counter) → IsOnOne (first_view made).pass
first_on_one made = record { last = record { first = refl; alone = refl }; elsewhere = λ i k apart. refl }

pub still_on_one : (p q : Pass (Entry ℕ ℕ)) → IsOnOne p → q.id ≡ p.id → q.mine ≡ p.mine → IsOnOne q
still_on_one p q one id mine =
    record { last = subst IsLast (sym id) one.last; elsewhere = λ i k apart. ap (count (is_place i k)) mine ∙ one.elsewhere i k apart }

-- then that value's history has just so many entries, and the others have none
pub all_on_one : (v : View Counter ℕ ℕ) → Knows adding v → IsOnOne v.pass → length (entries 0 v.pass.seen) ≡ length v.pass.mine
all_on_one v knows one = sym (places_of_one 0 (length (entries 0 v.pass.seen)) v.pass.mine (λ k. (knows.all_entries one.last).once 0 k) one.elsewhere)

pub none_on_others : (v : View Counter ℕ ℕ) → Knows adding v → IsOnOne v.pass → (i : ℕ) → i ≢ 0 → length (entries i v.pass.seen) ≡ 0
none_on_others v knows one i apart =
    let n = length (entries i v.pass.seen) in
    ⊎_elim
    (λ some_one. absurd (omega (arith, one.elsewhere i n apart, (knows.all_entries one.last).once i n, in_range n some_one)))
    (λ none. omega arith)
    (cases_lt 0 (length (entries i v.pass.seen)))
