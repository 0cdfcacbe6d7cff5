-- A pass covers those that are split off it, until it takes them in.
use Rattle.std.proofs.Common.{◌≡◌, ℕ, ◌+◌, List, [], ◌∷◌, ◌++◌, refl, ap, sym, arith}
use Rattle.pass_names.specs.declared.PassId.{PassId}
use Rattle.pass_names.specs.Counts.{one_if, without_first}
use Rattle.pass_names.specs.Names.{same, occurrences, child_of, next_name, after_split, after_retire, AnswersFor, Covers, IsLast}
use Rattle.pass_names.proofs.Counts.{total-append, count-without_first}
use Rattle.pass_names.proofs.Names.{same-refl, same_eq, occurrences_push}

-- a pass that answers for none covers none
pub covers_none : (l : PassId) → l.split ≡ [] → Covers l []
covers_none l alone = record { each = λ name. ap (occurrences name) (sym alone) }

-- after a split it covers one more
pub covers_split : (l m n : PassId) (names : List (List ℕ)) → m ≡ after_split l → n ≡ child_of l → Covers l names → Covers m (names ++ n.name ∷ [])
covers_split l m n names splitter child covers = record {
  each = λ name. omega (
    arith,
    covers.each name,
    occurrences_push name n.name names,
    occurrences_push name (next_name l) l.split,
    ap (λ (x : PassId). occurrences name x.split) splitter,
    ap (λ (x : PassId). one_if (same name x.name)) child,
  );
}

-- the names of a list about one of them
occurrences_about : (name one : List ℕ) (before after : List (List ℕ))
    → occurrences name (before ++ one ∷ after) ≡ occurrences name (before ++ after) + one_if (same name one)
occurrences_about name one before after = omega
    (arith, total-append (λ n. one_if (same name n)) before (one ∷ after), total-append (λ n. one_if (same name n)) before after)

-- it answers for each that it covers
pub covers_answers : (l other : PassId) (before after : List (List ℕ)) → Covers l (before ++ other.name ∷ after) → AnswersFor l other
covers_answers l other before after covers = omega
    (arith, covers.each other.name, occurrences_about other.name other.name before after, ap one_if (same-refl other.name))

-- and covers the others once it has taken that one in, if that one answers for none
pub covers_retire : (l other m : PassId) (before after : List (List ℕ)) → other.split ≡ [] → m ≡ after_retire l other
    → Covers l (before ++ other.name ∷ after) → Covers m (before ++ after)
covers_retire l other m before after alone retired covers = record {
  each = λ name. omega (
    arith,
    covers.each name,
    occurrences_about name other.name before after,
    ap (λ (x : PassId). occurrences name x.split) retired,
    total-append (λ n. one_if (same name n)) (without_first (same other.name) l.split) other.split,
    ap (occurrences name) alone,
    count-without_first (same other.name) (same name) (same name other.name) (λ x e. ap (same name) (sym (same_eq other.name x e))) l.split
        (covers_answers l other before after covers),
  );
}

-- a list in which no name stands is empty
none_listed : (ns : List (List ℕ)) → ((name : List ℕ) → 0 ≡ occurrences name ns) → ns ≡ []
none_listed [] none = refl
none_listed (n ∷ ns) none = absurd (omega (arith, none n, ap one_if (same-refl n)))

-- the first pass is the last when it covers none
pub covers_last : (l : PassId) → l.name ≡ [] → Covers l [] → IsLast l
covers_last l first covers = record { first = first; alone = none_listed l.split covers.each }
