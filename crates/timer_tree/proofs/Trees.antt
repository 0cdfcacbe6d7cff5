-- What a write leaves of a tree that stands in the block.
use Rattle.std.proofs.Common.{◌≡◌, ℕ, ◌+◌, ◌<◌, ◌≤◌, Bool, true, false, List, [], ◌∷◌, ◌++◌, length, nat_eq, nat_lt, if◌then◌else◌, arith, refl, ap}
use Rattle.std.proofs.Common.{get_or-set_same, get_or-set_other, slice_set, append_assoc, append-nil, length-append, inl, inr, ◌∙◌, sym, subst, length-set}
use Rattle.std.proofs.lemmas.Bool.{cases_eq, eq-eqb, ne_eqb, eqb-true, eqb-false, ltb-true, ltb-false}
use Rattle.std.proofs.lemmas.Bool.Decides.{nat_tests}
use Rattle.std.proofs.lemmas.List.{get_or_past, set_past}
use Rattle.timer_tree.specs.Nodes.{none, blank, child_side, node_at, with_links, pick}
use Rattle.timer_queue.specs.Pairs.{IsQueue}
use Rattle.timer_tree.specs.Links.{adopted, with_child, replaced, relinked}
use Rattle.timer_tree.specs.Trees.{Tree, Leaf, Fork, top, tall, pairs, Stands, IsAt, HasRank, IsBalanced, one, times, Keeps}
use Rattle.timer_tree.specs.Contexts.{Frame, fork, filled, plug, parent_of, root_of, IsAround, around, pairs_before, pairs_after}
use Rattle.timer_tree.specs.Contexts.{FitsRank, Fit, Cut, IsTree, Way, IsUnbalanced}
use Rattle.timer_tree.specs.declared.node.Node.{Node}
use Rattle.timer_tree.specs.declared.repair.Unbalanced.{Unbalanced}
use Rattle.timer_tree.specs.declared.node.Side.{Side}
use Rattle.timer_tree.specs.declared.node.Side.TheVariants as sides

-- ---- both cases of a test

pub by_eq : (P : Bool → Type 0) (a b : ℕ) → (a ≡ b → P true) → ((a ≡ b → ⊥) → P false) → P (nat_eq a b)
by_eq P a b same other = elim (nat_eq a b) as (λ x. nat_eq a b ≡ x → P x) [ true ↦ λ is. same (eqb-true _ _ is) | false ↦ λ is. other (eqb-false _ _ is) ] refl

pub by_lt : (P : Bool → Type 0) (a b : ℕ) → (a < b → P true) → (b ≤ a → P false) → P (nat_lt a b)
by_lt P a b less more = elim (nat_lt a b) as (λ x. nat_lt a b ≡ x → P x) [ true ↦ λ is. less (ltb-true _ _ is) | false ↦ λ is. more (ltb-false _ _ is) ] refl

-- ---- how often a timer stands in a list

pub times-append : (k : ℕ) (ps qs : List (ℕ × ℕ)) → times k (ps ++ qs) ≡ times k ps + times k qs
times-append k [] qs = omega arith
times-append k (p ∷ ps) qs = omega (arith, times-append k ps qs)

pub times-fork : (k : ℕ) (s : Side) (a b : Tree) (n e h : ℕ) → times k (pairs (fork s a n e h b)) ≡ times k (pairs a) + times k (pairs b) + one k n
times-fork k sides.Left a b n e h = omega (arith, times-append k (pairs a) ((e, n) ∷ pairs b))
times-fork k sides.Right a b n e h = omega (arith, times-append k (pairs b) ((e, n) ∷ pairs a))

pub times-plug : (k : ℕ) (c : List Frame) (t : Tree) → times k (pairs (plug c t)) ≡ times k (pairs t) + times k (around c)
times-plug k [] t = omega arith
times-plug k (f ∷ c) t = omega (arith, times-plug k c (filled f t), times-fork k f.side t f.other f.n f.e f.h, times-append k (pairs f.other) (around c))

pub one_same : (k : ℕ) → one k k ≡ 1
one_same k = grind (arith, nat_tests)

pub one_le : (k n : ℕ) → one k n ≤ 1
one_le k n = by_eq (λ x. (if x then 1 else 0) ≤ 1) k n (λ same. omega arith) (λ other. omega arith)

pub one_apart : (k n : ℕ) → one k n ≡ 0 → k ≡ n → ⊥
one_apart k n none same = grind (arith, nat_tests)

pub apart_one : (k n : ℕ) → (k ≡ n → ⊥) → one k n ≡ 0
apart_one k n apart = grind (arith, nat_tests)

-- a timer that isn't in a list stands once with it
pub once_with : (k n : ℕ) (ps : List (ℕ × ℕ)) → times n ps ≡ 0 → times k ps ≤ 1 → one k n + times k ps ≤ 1
once_with k n ps gone once = elim (cases_eq k n) [
  | inl same ↦ omega (arith, subst (λ j. times j ps ≡ 0) (sym same) gone, one_le k n)
  | inr apart ↦ omega (arith, apart_one k n apart, once)
]

-- ---- what is kept where some nodes have changed

pub Keeps-then : {f g : ℕ → ℕ} {xs ys zs : List Node} → Keeps f xs ys → Keeps g ys zs → Keeps (λ k. f k + g k) xs zs
Keeps-then a b = record { size = b.size ∙ a.size; rest = λ k gone. b.rest k (omega (arith, gone)) ∙ a.rest k (omega (arith, gone)) }

pub Keeps-for : {f g : ℕ → ℕ} {xs ys : List Node} → ((k : ℕ) → g k ≡ 0 → f k ≡ 0) → Keeps f xs ys → Keeps g xs ys
Keeps-for out a = record { size = a.size; rest = λ k gone. a.rest k (out k gone) }

pub set_keeps : (xs : List Node) (n : ℕ) (node : Node) → Keeps (λ k. one k n) xs (slice_set xs n node)
set_keeps xs n node = record { size = length-set xs n node; rest = λ k gone. get_or-set_other xs n k node blank (one_apart k n gone) }

pub set_stands : (xs : List Node) (n : ℕ) (node : Node) → n < length xs → Stands (slice_set xs n node) n node
set_stands xs n node inside = record { inside = omega (arith, length-set xs n node); is = get_or-set_same xs n node blank inside }

pub Stands-kept : {f : ℕ → ℕ} {xs ys : List Node} {n : ℕ} {node : Node} → Keeps f xs ys → f n ≡ 0 → Stands xs n node → Stands ys n node
Stands-kept {n = n} a out stands = record { inside = omega (arith, a.size, stands.inside); is = a.rest n out ∙ stands.is }

pub IsAt-kept : {f : ℕ → ℕ} {xs ys : List Node} (p : ℕ) (t : Tree) → Keeps f xs ys → ((k : ℕ) → f k + times k (pairs t) ≤ 1) → IsAt xs p t → IsAt ys p t
IsAt-kept p Leaf a apart at = tt
IsAt-kept p (Fork l n e h r) a apart at = (
  Stands-kept a (omega (arith, apart n, times-fork n sides.Left l r n e h, one_same n)) at.0,
  IsAt-kept n l a (λ k. omega (arith, apart k, times-fork k sides.Left l r n e h)) at.1,
  IsAt-kept n r a (λ k. omega (arith, apart k, times-fork k sides.Left l r n e h)) at.2,
)

pub IsAround-kept : {f : ℕ → ℕ} {xs ys : List Node} (hole : ℕ) (c : List Frame) → Keeps f xs ys → ((k : ℕ) → f k + times k (around c) ≤ 1) →
    IsAround xs hole c → IsAround ys hole c
IsAround-kept hole [] a apart at = tt
IsAround-kept hole (f ∷ c) a apart at = (
  Stands-kept a (omega (arith, apart f.n, one_same f.n)) at.0,
  IsAt-kept f.n f.other a (λ k. omega (arith, apart k, times-append k (pairs f.other) (around c))) at.1,
  IsAround-kept f.n c a (λ k. omega (arith, apart k, times-append k (pairs f.other) (around c))) at.2,
)

pub Fit-size : {xs ys : List Node} {ps : List (ℕ × ℕ)} → length ys ≡ length xs → Fit xs ps → Fit ys ps
Fit-size {ps = ps} size fit =
    record { small = omega (arith, size, fit.small); few = fit.few; once = fit.once; queue = subst (λ n. IsQueue n ps) (sym size) fit.queue }

-- the rank of a subtree is that of its top node; the blank node past the block has the rank 0
pub rank_at : (xs : List Node) (p : ℕ) (t : Tree) → length xs ≤ none → IsAt xs p t → (node_at xs (top t)).rank ≡ tall t
rank_at xs p Leaf small at = ap (λ (x : Node). x.rank) (get_or_past xs none blank small)
rank_at xs p (Fork l n e h r) small at = ap (λ (x : Node). x.rank) at.0.is

-- a subtree whose top has no number is none
pub no_top : (xs : List Node) (p : ℕ) (t : Tree) → length xs ≤ none → IsAt xs p t → top t ≡ none → t ≡ Leaf
no_top xs p Leaf small at is = refl
no_top xs p (Fork l n e h r) small at is = let never : ⊥ = omega (arith, is, at.0.inside, small) in absurd never

-- ---- a subtree gets another parent

pub adopted_keeps : (xs : List Node) (q : ℕ) (t : Tree) → length xs ≤ none → Keeps (λ k. times k (pairs t)) xs (adopted xs (top t) q)
adopted_keeps xs q Leaf small =
    subst (λ ys. Keeps (λ k. 0) xs ys) (sym (set_past xs none (record (node_at xs none) { parent = q }) small)) (record { size = refl; rest = λ k gone. refl })
adopted_keeps xs q (Fork l n e h r) small =
    Keeps-for (λ k gone. omega (arith, gone, times-fork k sides.Left l r n e h)) (set_keeps xs n (record (node_at xs n) { parent = q }))

pub IsAt-adopted : (xs : List Node) (p q : ℕ) (t : Tree) → ((k : ℕ) → times k (pairs t) ≤ 1) → IsAt xs p t → IsAt (adopted xs (top t) q) q t
IsAt-adopted xs p q Leaf once at = tt
IsAt-adopted xs p q (Fork l n e h r) once at =
    let new = record (node_at xs n) { parent = q } in
    let stands = set_stands xs n new at.0.inside in (
      record { inside = stands.inside; is = stands.is ∙ ap (λ (x : Node). record x { parent = q }) at.0.is },
      IsAt-kept n l (set_keeps xs n new) (λ k. omega (arith, times-fork k sides.Left l r n e h, once k)) at.1,
      IsAt-kept n r (set_keeps xs n new) (λ k. omega (arith, times-fork k sides.Left l r n e h, once k)) at.2,
    )

-- two subtrees get other parents
pub both_adopted : (xs : List Node) (p o q r : ℕ) (a b : Tree) → length xs ≤ none → ((k : ℕ) → times k (pairs a) + times k (pairs b) ≤ 1) → IsAt xs p a →
    IsAt xs o b → let ys = adopted (adopted xs (top a) q) (top b) r in
    IsAt ys q a × IsAt ys r b × Keeps (λ k. times k (pairs a) + times k (pairs b)) xs ys
both_adopted xs p o q r a b small once at_a at_b =
    let us = adopted xs (top a) q in
    let first = adopted_keeps xs q a small in
    let second = adopted_keeps us r b (omega (arith, first.size, small)) in (
      IsAt-kept q a second (λ k. omega (arith, once k)) (IsAt-adopted xs p q a (λ k. omega (arith, once k)) at_a),
      IsAt-adopted us o r b (λ k. omega (arith, once k)) (IsAt-kept o b first once at_b),
      Keeps-then first second,
    )

-- ---- a node by its sides

pub length-fork : (s : Side) (a b : Tree) (n e h : ℕ) → length (pairs (fork s a n e h b)) ≡ length (pairs a) + length (pairs b) + 1
length-fork sides.Left a b n e h = omega (arith, length-append (pairs a) ((e, n) ∷ pairs b))
length-fork sides.Right a b n e h = omega (arith, length-append (pairs b) ((e, n) ∷ pairs a))

pub IsAt-fork : (xs : List Node) (p : ℕ) (s : Side) (a b : Tree) (n e h : ℕ) → IsAt xs p (fork s a n e h b) →
    Stands xs n (with_links s e (top a) (top b) p h) × IsAt xs n a × IsAt xs n b
IsAt-fork xs p sides.Left a b n e h at = at
IsAt-fork xs p sides.Right a b n e h at = (at.0, at.2, at.1)

pub fork-IsAt : (xs : List Node) (p : ℕ) (s : Side) (a b : Tree) (n e h : ℕ) → Stands xs n (with_links s e (top a) (top b) p h) → IsAt xs n a → IsAt xs n b →
    IsAt xs p (fork s a n e h b)
fork-IsAt xs p sides.Left a b n e h stands at_a at_b = (stands, at_a, at_b)
fork-IsAt xs p sides.Right a b n e h stands at_a at_b = (stands, at_b, at_a)

pub turned : (a b h : ℕ) → HasRank a b h → HasRank b a h
turned a b h has =
    record { below_a = has.below_b; below_b = has.below_a; near_a = has.near_b; near_b = has.near_a; near_both = omega (arith, has.near_both) }

-- the two subtrees of a balanced node, by their sides
abbrev pub Balances : Tree → Tree → ℕ → Type 0
Balances a b h = HasRank (tall a) (tall b) h × IsBalanced a × IsBalanced b

pub IsBalanced-fork : (s : Side) (a b : Tree) (n e h : ℕ) → IsBalanced (fork s a n e h b) → Balances a b h
IsBalanced-fork sides.Left a b n e h balanced = balanced
IsBalanced-fork sides.Right a b n e h balanced = (turned (tall b) (tall a) h balanced.0, balanced.2, balanced.1)

pub fork-IsBalanced : (s : Side) (a b : Tree) (n e h : ℕ) → Balances a b h → IsBalanced (fork s a n e h b)
fork-IsBalanced sides.Left a b n e h balanced = balanced
fork-IsBalanced sides.Right a b n e h balanced = (turned (tall a) (tall b) h balanced.0, balanced.2, balanced.1)

-- a tree has at least as many nodes as it is high
pub tall-le : (t : Tree) → IsBalanced t → tall t ≤ length (pairs t)
tall-le Leaf balanced = omega arith
tall-le (Fork l n e h r) balanced = omega (arith, balanced.0.near_both, tall-le l balanced.1, tall-le r balanced.2, length-fork sides.Left l r n e h)

-- ---- another number in a hole

pub child_side_is : (s : Side) (e a b p h : ℕ) → (b ≡ a → ⊥) → child_side (with_links s e a b p h) a ≡ s
child_side_is sides.Left e a b p h apart = ap (λ x. if x then sides.Left else sides.Right) (eq-eqb a a refl)
child_side_is sides.Right e a b p h apart = ap (λ x. if x then sides.Left else sides.Right) (ne_eqb b a apart)

pub with_child-with_links : (s : Side) (e a b p h to : ℕ) → with_child (with_links s e a b p h) s to ≡ with_links s e to b p h
with_child-with_links sides.Left e a b p h to = refl
with_child-with_links sides.Right e a b p h to = refl

replaced_with_links : (s : Side) (e a b p h to : ℕ) → (b ≡ a → ⊥) → replaced (with_links s e a b p h) a to ≡ with_links s e to b p h
replaced_with_links s e a b p h to apart =
    ap (λ d. with_child (with_links s e a b p h) d to) (child_side_is s e a b p h apart) ∙ with_child-with_links s e a b p h to

-- a subtree that doesn't have a node doesn't have it at the top
pub top_apart : (n : ℕ) (t : Tree) → n < none → times n (pairs t) ≡ 0 → top t ≡ n → ⊥
top_apart n Leaf low gone same = omega (arith, low, same)
top_apart n (Fork l m e h r) low gone same = omega (arith, times-fork n sides.Left l r m e h, one_same n, ap (λ k. one n k) same, gone)

-- the hole's parent is written with another number in the hole
pub frame_written : (xs : List Node) (hole to : ℕ) (f : Frame) (c : List Frame) (new : Node) → ((k : ℕ) → times k (around (f ∷ c)) ≤ 1) →
    IsAround xs hole (f ∷ c) → new ≡ with_links f.side f.e to (top f.other) (parent_of c) f.h →
    IsAround (slice_set xs f.n new) to (f ∷ c) × Keeps (λ k. times k (around (f ∷ c))) xs (slice_set xs f.n new)
frame_written xs hole to f c new once at is =
    let kept = set_keeps xs f.n new in
    let stands = set_stands xs f.n new at.0.inside in
    let sum = λ (k : ℕ). times-append k (pairs f.other) (around c) in
    let other = IsAt-kept f.n f.other kept (λ k. omega (arith, sum k, once k)) at.1 in
    let above = IsAround-kept f.n c kept (λ k. omega (arith, sum k, once k)) at.2 in
    ((record { inside = stands.inside; is = stands.is ∙ is }, other, above), Keeps-for (λ k gone. omega (arith, gone)) kept)

-- a context with another number in its hole
pub record Linked (xs : List Node) (hole : ℕ) (c : List Frame) (new : List Node × ℕ) : Type 0 where
  pub at : IsAround new.0 hole c
  pub root_is : new.1 ≡ root_of hole c
  pub kept : Keeps (λ k. times k (around c)) xs new.0

pub relinked_linked : (xs : List Node) (root hole to : ℕ) (c : List Frame) → length xs ≤ none → ((k : ℕ) → times k (around c) + one k hole ≤ 1) →
    hole < none → IsAround xs hole c → root ≡ root_of hole c → Linked xs to c (relinked xs root (parent_of c) hole to)
relinked_linked xs root hole to [] small once low at root_is = record { at = tt; root_is = refl; kept = record { size = refl; rest = λ k out. refl } }
relinked_linked xs root hole to (f ∷ c) small once low at root_is =
    let new = replaced (node_at xs f.n) hole to in
    let apart = top_apart hole f.other low (omega (arith, times-append hole (pairs f.other) (around c), once hole, one_same hole)) in
    let some : nat_eq f.n none ≡ false = ne_eqb f.n none (λ same. omega (arith, same, at.0.inside, small)) in
    let done = frame_written xs hole to f c new (λ k. omega (arith, once k)) at
    (ap (λ x. replaced x hole to) at.0.is ∙ replaced_with_links f.side f.e hole (top f.other) (parent_of c) f.h to apart) in
    subst (λ x. Linked xs to (f ∷ c) (if x then (xs, to) else (slice_set xs f.n new, root))) (sym some)
    (record { at = done.0; root_is = root_is; kept = done.1 })

-- ---- a context and what its hole holds

pub length-plug : (c : List Frame) (t : Tree) → length (pairs (plug c t)) ≡ length (pairs t) + length (around c)
length-plug [] t = omega arith
length-plug (f ∷ c) t = omega (arith, length-plug c (filled f t), length-fork f.side t f.other f.n f.e f.h, length-append (pairs f.other) (around c))

sides_of : (s : Side) (o t : Tree) (e n h : ℕ) (ps qs : List (ℕ × ℕ)) → ps ++ (pairs (fork s t n e h o) ++ qs) ≡
    pick s ps (ps ++ (pairs o ++ (e, n) ∷ [])) ++ (pairs t ++ pick s ((e, n) ∷ pairs o ++ qs) qs)
sides_of sides.Left o t e n h ps qs = simp append_assoc refl
sides_of sides.Right o t e n h ps qs = simp append_assoc refl

pub pairs-plug : (c : List Frame) (t : Tree) → pairs (plug c t) ≡ pairs_before c ++ (pairs t ++ pairs_after c)
pairs-plug [] t = sym (append-nil (pairs t))
pairs-plug (f ∷ c) t = pairs-plug c (filled f t) ∙ sides_of f.side f.other t f.e f.n f.h (pairs_before c) (pairs_after c)

-- ---- a tree that is cut at a subtree

pub cut_times : {xs : List Node} {root h : ℕ} {c : List Frame} {t : Tree} {ps : List (ℕ × ℕ)} → Cut xs root c t h ps → (k : ℕ) →
    times k ps ≡ times k (pairs t) + times k (around c)
cut_times {c = c} {t = t} cut k = subst (λ qs. times k qs ≡ times k (pairs t) + times k (around c)) cut.pairs_are (times-plug k c t)

-- a node's subtree on a side
pub cut_down : {xs : List Node} {root : ℕ} {c : List Frame} {ps : List (ℕ × ℕ)} (s : Side) (t o : Tree) (n e h : ℕ) → Cut xs root c (fork s t n e h o) h ps →
    Cut xs root (record { side = s; n = n; e = e; h = h; other = o } ∷ c) t (tall t) ps
cut_down {xs} {root} {c} {ps} s t o n e h cut =
    let parts = IsAt-fork xs (parent_of c) s t o n e h cut.under in
    let ranks = IsBalanced-fork s t o n e h cut.balanced in search arith

-- the whole tree
pub cut_whole : (xs : List Node) (root : ℕ) (c : List Frame) (t : Tree) (ps : List (ℕ × ℕ)) → Cut xs root c t (tall t) ps →
    Cut xs root [] (plug c t) (tall (plug c t)) ps
cut_whole xs root [] t ps cut = cut
cut_whole xs root (f ∷ c) t ps cut =
    let under = fork-IsAt xs (parent_of c) f.side t f.other f.n f.e f.h cut.linked.0 cut.under cut.linked.1 in
    let balanced = fork-IsBalanced f.side t f.other f.n f.e f.h (cut.fits.0, cut.balanced, cut.fits.1) in
    let up : Cut xs root c (filled f t) f.h ps = search arith in cut_whole xs root c (filled f t) ps up

-- the ranks are wrong at most from the parent of this subtree upwards
abbrev pub cut_unbalanced : {rising : Bool} {xs : List Node} {root h : ℕ} {c : List Frame} {t : Tree} {ps : List (ℕ × ℕ)} (r : Unbalanced) →
    Cut xs root c t h ps → r.at ≡ parent_of c → r.child ≡ top t → r.rank ≡ tall t → Way rising h t → IsUnbalanced rising xs root r ps
cut_unbalanced {h = h} {c = c} {t = t} r cut at_is child rank way =
    record { context = c; subtree = t; old_rank = h; cut = cut; at_is = at_is; changed = λ some. (child, rank, way) }

-- a node that stands in a tree, with what is above it
pub record Located (xs : List Node) (root k : ℕ) (ps : List (ℕ × ℕ)) : Type 0 where
  pub context : List Frame
  pub l : Tree
  pub e : ℕ
  pub h : ℕ
  pub r : Tree
  pub cut : Cut xs root context (Fork l k e h r) h ps

pub locate : (xs : List Node) (root k : ℕ) (ps : List (ℕ × ℕ)) (c : List Frame) (t : Tree) → Cut xs root c t (tall t) ps → 0 < times k (pairs t) →
    Located xs root k ps
locate xs root k ps c Leaf cut some = let never : ⊥ = omega (arith, some) in absurd never
locate xs root k ps c (Fork l n e h r) cut some =
    elim (cases_eq k n) [
      | inl same ↦ record { context = c; l = l; e = e; h = h; r = r; cut = subst (λ j. Cut xs root c (Fork l j e h r) h ps) (sym same) cut }
      | inr apart ↦ elim (cases_eq (times k (pairs l)) 0) [
        | inl gone ↦ locate xs root k ps _ r (cut_down sides.Right r l n e h cut)
            (omega (arith, times-fork k sides.Left l r n e h, apart_one k n apart, some, gone))
        | inr here ↦ locate xs root k ps _ l (cut_down sides.Left l r n e h cut) (omega (arith, here))
      ]
    ]

pub located : (xs : List Node) (root k : ℕ) (ps : List (ℕ × ℕ)) → IsTree xs root ps → 0 < times k ps → Located xs root k ps
located xs root k ps is some =
    locate xs root k ps [] is.tree is.whole (subst (λ qs. 0 < times k qs) (sym is.whole.pairs_are) some)

-- ---- contexts one behind the other

pub IsAt-cut : (xs : List Node) (d c : List Frame) (t : Tree) → IsAround xs (top (plug d t)) c → IsAt xs (parent_of c) (plug d t) →
    IsAround xs (top t) (d ++ c) × IsAt xs (parent_of (d ++ c)) t
IsAt-cut xs [] c t at under = (at, under)
IsAt-cut xs (f ∷ d) c t at under =
    let rest = IsAt-cut xs d c (filled f t) at under in
    let parts = IsAt-fork xs (parent_of (d ++ c)) f.side t f.other f.n f.e f.h rest.1 in
    ((parts.0, parts.2, rest.0), parts.1)

pub IsAt-join : (xs : List Node) (d c : List Frame) (t : Tree) → IsAround xs (top t) (d ++ c) → IsAt xs (parent_of (d ++ c)) t →
    IsAround xs (top (plug d t)) c × IsAt xs (parent_of c) (plug d t)
IsAt-join xs [] c t at under = (at, under)
IsAt-join xs (f ∷ d) c t at under =
    IsAt-join xs d c (filled f t) at.2 (fork-IsAt xs (parent_of (d ++ c)) f.side t f.other f.n f.e f.h at.0 under at.1)

pub plug-append : (d c : List Frame) (t : Tree) → plug (d ++ c) t ≡ plug c (plug d t)
plug-append [] c t = refl
plug-append (f ∷ d) c t = plug-append d c (filled f t)

pub times-frames : (k : ℕ) (d c : List Frame) → times k (around (d ++ c)) ≡ times k (around d) + times k (around c)
times-frames k [] c = omega arith
times-frames k (f ∷ d) c = omega (arith, times-frames k d c, times-append k (pairs f.other) (around (d ++ c)), times-append k (pairs f.other) (around d))

pub root_of-frames : (hole : ℕ) (d : List Frame) (f : Frame) (c : List Frame) → root_of hole (d ++ f ∷ c) ≡ root_of f.n c
root_of-frames hole [] f c = refl
root_of-frames hole (g ∷ d) f c = root_of-frames g.n d f c

-- whether a context fits doesn't hang on the numbers of its nodes
pub Fits-renamed : (d : List Frame) (f g : Frame) (c : List Frame) (h : ℕ) → g.h ≡ f.h → g.other ≡ f.other → FitsRank (d ++ f ∷ c) h → FitsRank (d ++ g ∷ c) h
Fits-renamed [] f g c h same_h same_t fits =
    subst (λ t. HasRank h (tall t) g.h × IsBalanced t × FitsRank c g.h) (sym same_t) (subst (λ k. HasRank h (tall f.other) k × IsBalanced f.other × FitsRank c k)
    (sym same_h) fits)
Fits-renamed (e ∷ d) f g c h same_h same_t fits = (fits.0, fits.1, Fits-renamed d f g c e.h same_h same_t fits.2)
