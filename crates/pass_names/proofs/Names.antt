-- The passes that there are stay a tree at each split and each retire, and the last pass is alone.
use Rattle.std.proofs.Common.{◌≡◌, ℕ, zero, suc, ◌+◌, ◌<◌, ◌≤◌, ◌≢◌, Bool, true, false, eqb, ◌&&◌, List, [], ◌∷◌, ◌++◌, length, set, refl, ap, sym, ◌∙◌, subst, ◌⊎◌, inl, inr, ⊎_elim, append_assoc, length-append, arith}
use Rattle.std.proofs.lemmas.Bool.{cases_Bool, cases_eq, cases_lt, and_parts, eqb-true, eq-eqb, true≢false}
use Rattle.std.proofs.lemmas.List.{append_cancel_left}
use mathlib.Core.Option.{some, some-injective, some-ne-none}
use lib.ListN.{get_elem?}
use Rattle.atomic_table.proofs.Lists.{at_set, at_snoc, set_else}
use Rattle.pass_names.specs.declared.PassId.{PassId}
use Rattle.pass_names.specs.Counts.{one_if, total, without_first}
use Rattle.pass_names.specs.Names.{same, occurrences, Extends, first_pass_id, gone_pass_id, next_name, child_of, after_split, after_retire, AnswersFor, IsLast, listed, bearers, IsPassTree}
use Rattle.pass_names.proofs.Counts.{total-append, total_set, total_at, total_two, total_found, count-without_first, count-without_first-le}

pub same-refl : (n : List ℕ) → same n n ≡ true
same-refl [] = refl
same-refl (x ∷ xs) = grind (arith, eq-eqb x x refl, same-refl xs)

pub same_eq : (m n : List ℕ) → same m n ≡ true → m ≡ n
same_eq [] [] h = refl
same_eq (x ∷ xs) (y ∷ ys) h = let p = and_parts (eqb x y) (same xs ys) h in λ k. eqb-true x y p.0 k ∷ same_eq xs ys p.1 k
same_eq [] (y ∷ ys) h = absurd (true≢false (sym h))
same_eq (x ∷ xs) [] h = absurd (true≢false (sym h))

-- a name is listed once more where it is put last
pub occurrences_push : (n m : List ℕ) (ns : List (List ℕ)) → occurrences n (ns ++ m ∷ []) ≡ occurrences n ns + one_if (same n m)
occurrences_push n m ns = omega (arith, total-append (λ k. one_if (same n k)) ns (m ∷ []))

-- the pass that was split off last is answered for
pub child_listed : (l : PassId) → 0 < occurrences (next_name l) (l.split ++ next_name l ∷ [])
child_listed l = omega (arith, occurrences_push (next_name l) (next_name l) l.split, ap one_if (same-refl (next_name l)))

-- the splitter answers for the pass that it split off
pub answers_split : (l m n : PassId) → m ≡ after_split l → n ≡ child_of l → AnswersFor m n
answers_split l m n splitter child =
    subst (λ x. AnswersFor x n) (sym splitter) (subst (λ x. AnswersFor (after_split l) x) (sym child) (child_listed l))

-- neither of the two is the last pass
pub splitter_not_last : (l : PassId) → IsLast (after_split l) → ⊥
splitter_not_last l last = omega (arith, ap length last.alone, length-append l.split (next_name l ∷ []))

pub child_not_last : (l : PassId) → IsLast (child_of l) → ⊥
child_not_last l last = omega (arith, ap length last.first, length-append l.name ((l.made + 1) ∷ []))

longer_name : (a : List ℕ) (k : ℕ) (n : List ℕ) → Extends a k n → length a < length n
longer_name a k n e = omega (arith, ap length e.whole, length-append a (k ∷ e.rest))

-- a live pass's name is borne by one pass at least
pub bearers_at : (ids : List PassId) (j : ℕ) (l : PassId) → get_elem? ids j ≡ some l → l.live ≡ true → 0 < bearers l.name ids
bearers_at ids j l at live =
    let one : one_if (l.live && same l.name l.name) ≡ 1 = rw (live, same-refl l.name) refl in
    omega (arith, one, total_at (λ (m : PassId). one_if (m.live && same l.name m.name)) ids j l at)

-- two live passes have two names
pub one_name : (ids : List PassId) → IsPassTree ids → (i j : ℕ) (l m : PassId) → i ≢ j → get_elem? ids i ≡ some l → get_elem? ids j ≡ some m
    → l.live ≡ true → m.live ≡ true → m.name ≡ l.name → ⊥
one_name ids tree i j l m apart at_l at_m live_l live_m same_name =
    let one : one_if (l.live && same l.name l.name) ≡ 1 = rw (live_l, same-refl l.name) refl in
    let two : one_if (m.live && same l.name m.name) ≡ 1 = rw (live_m, same_name, same-refl l.name) refl in
    omega (arith, one, two, tree.once l.name, total_two (λ (x : PassId). one_if (x.live && same l.name x.name)) ids i j l m apart at_l at_m)

-- a pass that lists a name is live
lists_live : (ids : List PassId) → IsPassTree ids → (j : ℕ) (l : PassId) (n : List ℕ) → get_elem? ids j ≡ some l → 0 < occurrences n l.split
    → l.live ≡ true
lists_live ids tree j l n at has =
    ⊎_elim (λ t. t) (λ f. absurd (omega (arith, ap (λ ns. occurrences n ns) (tree.dead j l at f)))) (cases_Bool l.live)

-- a name that is not empty is listed by a pass whose name it goes on from
listed_by : (ids : List PassId) → IsPassTree ids → (x : ℕ) (xs : List ℕ) → 0 < bearers (x ∷ xs) ids
    → (j : ℕ) × (l : PassId) × (k : ℕ) × (get_elem? ids j ≡ some l) × (l.live ≡ true) × (0 < occurrences (x ∷ xs) l.split) × Extends l.name k (x ∷ xs)
listed_by ids tree x xs borne =
    let f = total_found (λ (l : PassId). occurrences (x ∷ xs) l.split) ids (omega (arith, tree.each (x ∷ xs))) in
    let e = tree.longer f.0 f.1 (x ∷ xs) f.2 f.3 in (f.0, f.1, e.0, f.2, lists_live ids tree f.0 f.1 (x ∷ xs) f.2 f.3, f.3, e.1)

alone_below : (ids : List PassId) → IsPassTree ids → (i : ℕ) (root : PassId) → get_elem? ids i ≡ some root → root.live ≡ true → IsLast root
    → (fuel : ℕ) (n : List ℕ) → length n < fuel → 0 < bearers n ids → n ≡ []
alone_below ids tree i root at live last zero n short borne = absurd (omega arith)
alone_below ids tree i root at live last (suc fuel) [] short borne = refl
alone_below ids tree i root at live last (suc fuel) (x ∷ xs) short borne =
    let p = listed_by ids tree x xs borne in
    let l = p.1 in
    let l_nil : l.name ≡ [] = alone_below ids tree i root at live last fuel l.name (omega (arith, longer_name l.name p.2 (x ∷ xs) p.6))
    (bearers_at ids p.0 l p.3 p.4) in
    ⊎_elim
    (λ here. let same_id : root ≡ l = some-injective root l (sym at ∙ (ap (λ k. get_elem? ids k) (sym here) ∙ p.3)) in
    absurd (omega (arith, p.5, ap (λ (m : PassId). occurrences (x ∷ xs) m.split) same_id, ap (λ ns. occurrences (x ∷ xs) ns) last.alone)))
    (λ apart. absurd (one_name ids tree i p.0 root l (λ e. apart (sym e)) at p.3 live p.4 (l_nil ∙ sym last.first)))
    (cases_eq p.0 i)

-- the last pass is the only one
pub last_alone : (ids : List PassId) → IsPassTree ids → (i j : ℕ) (root l : PassId) → get_elem? ids i ≡ some root → root.live ≡ true → IsLast root
    → get_elem? ids j ≡ some l → l.live ≡ true → j ≡ i
last_alone ids tree i j root l at live last at_l live_l =
    let nil : l.name ≡ [] = alone_below ids tree i root at live last (suc (length l.name)) l.name (omega arith) (bearers_at ids j l at_l live_l) in
    ⊎_elim (λ t. t) (λ apart. absurd (one_name ids tree i j root l (λ e. apart (sym e)) at at_l live live_l (nil ∙ sym last.first))) (cases_eq j i)

pub first_tree : IsPassTree (first_pass_id ∷ [])
first_tree = record {
  each = λ n. omega arith;
  once = λ n. most (same n []);
  longer = λ j l n at has. absurd (none j l n at has);
  fresh = λ j l k n at live borne e. absurd (empty j l k n at borne e);
  dead = λ j l at f. split_nil j l at;
}
  where
    most : (b : Bool) → one_if b + 0 ≤ 1
    most true = omega arith
    most false = omega arith

    split_nil : (j : ℕ) (l : PassId) → get_elem? (first_pass_id ∷ []) j ≡ some l → l.split ≡ []
    split_nil zero l at = ap (λ (m : PassId). m.split) (sym (some-injective first_pass_id l at))
    split_nil (suc j) l at = absurd (some-ne-none l (sym at))

    none : (j : ℕ) (l : PassId) (n : List ℕ) → get_elem? (first_pass_id ∷ []) j ≡ some l → 0 < occurrences n l.split → ⊥
    none j l n at has = omega (arith, ap (λ ns. occurrences n ns) (split_nil j l at))

    name_nil : (n : List ℕ) → 0 < one_if (same n []) + 0 → n ≡ []
    name_nil [] h = refl
    name_nil (x ∷ xs) h = absurd (omega arith)

    empty : (j : ℕ) (l : PassId) (k : ℕ) (n : List ℕ) → get_elem? (first_pass_id ∷ []) j ≡ some l → 0 < bearers n (first_pass_id ∷ [])
        → Extends l.name k n → ⊥
    empty j l k n at borne e = omega (arith, longer_name l.name k n e, ap length (name_nil n borne))

-- how often a name is listed, and borne, once two passes have changed
both_set : (f : PassId → ℕ) (ids : List PassId) (i j : ℕ) (l m l' m' : PassId) → get_elem? ids i ≡ some l → get_elem? (set ids i l') j ≡ some m
    → total f (set (set ids i l') j m') + f m + f l ≡ total f ids + f l' + f m'
both_set f ids i j l m l' m' at_l at_m = omega (arith, total_set f ids i l l' at_l, total_set f (set ids i l') j m m' at_m)

-- how often a name is listed, and borne, once a pass has changed and one came
set_push : (f : PassId → ℕ) (ids : List PassId) (i : ℕ) (l l' m : PassId) → get_elem? ids i ≡ some l
    → total f (set ids i l' ++ m ∷ []) + f l ≡ total f ids + f l' + f m
set_push f ids i l l' m at_l = omega (arith, total_set f ids i l l' at_l, total-append f (set ids i l') (m ∷ []))

-- where a list goes on from one, and ends one after another, the first is the other or begins it
ends_in : (a b : List ℕ) (k : ℕ) (rest : List ℕ) (x : ℕ) → a ++ k ∷ rest ≡ b ++ x ∷ [] → (a ≡ b) ⊎ Extends a k b
ends_in [] [] k rest x e = inl refl
ends_in [] (y ∷ b) k rest x e = let h : y ≡ k = cc in inr (record { rest = b; whole = λ i. h i ∷ b })
ends_in (z ∷ a) [] k rest x e = absurd (omega (arith, ap length e, length-append a (k ∷ rest)))
ends_in (z ∷ a) (y ∷ b) k rest x e =
    let h : z ≡ y = cc in
    let t : a ++ k ∷ rest ≡ b ++ x ∷ [] = cc in
    ⊎_elim (λ u. inl (λ i. h i ∷ u i))
    (λ u. inr (record { rest = u.rest; whole = (λ i. y ∷ u.whole i) ∙ (λ i. sym h i ∷ (a ++ k ∷ u.rest)) })) (ends_in a b k rest x t)

next_number : (a : List ℕ) (k : ℕ) (rest : List ℕ) (x : ℕ) → a ++ x ∷ [] ≡ a ++ k ∷ rest → k ≡ x
next_number a k rest x e = let h = append_cancel_left a (x ∷ []) (k ∷ rest) e in cc

-- a name that goes on from a name that goes on from a third
through : (a b n : List ℕ) (k j : ℕ) → Extends a k b → Extends b j n → Extends a k n
through a b n k j e f = record { rest = e.rest ++ j ∷ f.rest; whole = f.whole ∙ (ap (λ c. c ++ j ∷ f.rest) e.whole ∙ append_assoc a (k ∷ e.rest) (j ∷ f.rest)) }

-- how often a name is listed and borne after a change of one pass, with one pass more
module _ (ids : List PassId) (tree : IsPassTree ids) (i : ℕ) (l : PassId) (at : get_elem? ids i ≡ some l) (live : l.live ≡ true) where
  abbrev new_name : List ℕ
  new_name = next_name l

  abbrev split_ids : List PassId
  split_ids = set ids i (after_split l) ++ child_of l ∷ []

  unborne : bearers new_name ids ≡ 0
  unborne =
      ⊎_elim
      (λ t. absurd (omega (arith, tree.fresh i l (l.made + 1) new_name at live t (record { rest = []; whole = refl }))))
      (λ t. omega arith)
      (cases_lt 0 (bearers new_name ids))

  abbrev Case : ℕ → PassId → Type 0
  Case k m = ((k ≡ i) × (after_split l ≡ m)) ⊎ (((k ≢ i) × (get_elem? ids k ≡ some m)) ⊎ (child_of l ≡ m))

  case : (k : ℕ) (m : PassId) → get_elem? split_ids k ≡ some m → Case k m
  case k m e =
      ⊎_elim
      (λ t. ⊎_elim (λ u. inl u) (λ u. inr (inl u)) (at_set ids i k (after_split l) m t))
      (λ t. inr (inr t))
      (at_snoc (set ids i (after_split l)) (child_of l) m k e)

  split_listed : (n : List ℕ) → listed n split_ids ≡ listed n ids + one_if (same n new_name)
  split_listed n = omega (arith, set_push (λ (m : PassId). occurrences n m.split) ids i l (after_split l) (child_of l) at, occurrences_push n new_name l.split)

  split_bearers : (n : List ℕ) → bearers n split_ids ≡ bearers n ids + one_if (same n new_name)
  split_bearers n = omega (arith, set_push (λ (m : PassId). one_if (m.live && same n m.name)) ids i l (after_split l) (child_of l) at)

  -- a name is the new one, or stands as before
  abbrev Old : List ℕ → Type 0
  Old n = (n ≡ new_name) ⊎ (one_if (same n new_name) ≡ 0)

  old : (n : List ℕ) → Old n
  old n = ⊎_elim (λ t. inl (same_eq n new_name t)) (λ f. inr (ap one_if f)) (cases_Bool (same n new_name))

  split_once : (n : List ℕ) → Old n → bearers n split_ids ≤ 1
  split_once n (inl e) = omega
      (arith, split_bearers n, ap (λ k. bearers k ids) e, unborne, ap (λ k. one_if (same k new_name)) e, ap one_if (same-refl new_name))
  split_once n (inr e) = omega (arith, split_bearers n, tree.once n)

  split_longer : (k : ℕ) (m : PassId) (n : List ℕ) → Case k m → 0 < occurrences n m.split → (q : ℕ) × Extends m.name q n
  split_longer k m n (inl here) has =
      subst (λ (x : PassId). 0 < occurrences n x.split → (q : ℕ) × Extends x.name q n) here.1
      (λ h. ⊎_elim
      (λ e. (l.made + 1, record { rest = []; whole = e }))
      (λ e. tree.longer i l n at (omega (arith, occurrences_push n new_name l.split)))
      (old n))
      has
  split_longer k m n (inr (inl else)) has = tree.longer k m n else.1 has
  split_longer k m n (inr (inr child)) has = absurd (omega (arith, ap (λ (x : PassId). occurrences n x.split) child))

  split_fresh : (k : ℕ) (m : PassId) (q : ℕ) (n : List ℕ) → Case k m → m.live ≡ true → Old n → 0 < bearers n split_ids → Extends m.name q n
      → q ≤ m.made
  split_fresh k m q n (inl here) alive (inl e) borne ext =
      let h : l.name ++ (l.made + 1) ∷ [] ≡ l.name ++ q ∷ ext.rest = sym e ∙ (ext.whole ∙ ap (λ (x : PassId). x.name ++ q ∷ ext.rest) (sym here.1)) in
      omega (arith, next_number l.name q ext.rest (l.made + 1) h, ap (λ (x : PassId). x.made) here.1)
  split_fresh k m q n (inl here) alive (inr e) borne ext =
      let h : n ≡ l.name ++ q ∷ ext.rest = ext.whole ∙ ap (λ (x : PassId). x.name ++ q ∷ ext.rest) (sym here.1) in
      omega (arith, tree.fresh i l q n at live (omega (arith, split_bearers n)) (record { rest = ext.rest; whole = h }), ap (λ (x : PassId). x.made) here.1)
  split_fresh k m q n (inr (inl else)) alive (inl e) borne ext =
      ⊎_elim
      (λ t. absurd (one_name ids tree i k l m (λ u. else.0 (sym u)) at else.1 live alive t))
      (λ t. tree.fresh k m q l.name else.1 alive (bearers_at ids i l at live) t)
      (ends_in m.name l.name q ext.rest (l.made + 1) (sym ext.whole ∙ e))
  split_fresh k m q n (inr (inl else)) alive (inr e) borne ext = tree.fresh k m q n else.1 alive (omega (arith, split_bearers n)) ext
  split_fresh k m q n (inr (inr child)) alive (inl e) borne ext =
      absurd (omega (arith, longer_name m.name q n ext, ap length e, ap (λ (x : PassId). length x.name) child))
  split_fresh k m q n (inr (inr child)) alive (inr e) borne ext =
      let h : Extends new_name q n = record { rest = ext.rest; whole = ext.whole ∙ ap (λ (x : PassId). x.name ++ q ∷ ext.rest) (sym child) } in
      absurd (omega (
        arith,
        tree.fresh i l (l.made + 1) n at live (omega (arith, split_bearers n))
            (through l.name new_name n (l.made + 1) q (record { rest = []; whole = refl }) h),
      ))

  split_dead : (k : ℕ) (m : PassId) → Case k m → m.live ≡ false → m.split ≡ []
  split_dead k m (inl here) off = absurd (true≢false (sym live ∙ (ap (λ (x : PassId). x.live) here.1 ∙ off)))
  split_dead k m (inr (inl else)) off = tree.dead k m else.1 off
  split_dead k m (inr (inr child)) off = ap (λ (x : PassId). x.split) (sym child)

  -- a pass may be split off
  pub splits_tree : IsPassTree (set ids i (after_split l) ++ child_of l ∷ [])
  splits_tree = record {
    each = λ n. omega (arith, tree.each n, split_listed n, split_bearers n);
    once = λ n. split_once n (old n);
    longer = λ k m n e has. split_longer k m n (case k m e) has;
    fresh = λ k m q n e alive borne ext. split_fresh k m q n (case k m e) alive (old n) borne ext;
    dead = λ k m e off. split_dead k m (case k m e) off;
  }

-- an id of no pass may come
pub gone_tree : (ids : List PassId) → IsPassTree ids → IsPassTree (ids ++ gone_pass_id ∷ [])
gone_tree ids tree =
    let same_bearers : (n : List ℕ) → bearers n (ids ++ gone_pass_id ∷ []) ≡ bearers n ids = λ n. omega
    (arith, total-append (λ (m : PassId). one_if (m.live && same n m.name)) ids (gone_pass_id ∷ [])) in
    record {
      each = λ n. omega (arith, tree.each n, same_bearers n, total-append (λ (m : PassId). occurrences n m.split) ids (gone_pass_id ∷ []));
      once = λ n. omega (arith, tree.once n, same_bearers n);
      longer = λ j l n at has. ⊎_elim (λ t. tree.longer j l n t has)
          (λ t. absurd (omega (arith, ap (λ (m : PassId). occurrences n m.split) t))) (at_snoc ids gone_pass_id l j at);
      fresh = λ j l k n at live borne ext. ⊎_elim (λ t. tree.fresh j l k n t live (omega (arith, same_bearers n)) ext)
          (λ t. absurd (true≢false (sym live ∙ ap (λ (m : PassId). m.live) (sym t)))) (at_snoc ids gone_pass_id l j at);
      dead = λ j l at off. ⊎_elim (λ t. tree.dead j l t off) (λ t. ap (λ (m : PassId). m.split) (sym t)) (at_snoc ids gone_pass_id l j at);
    }

-- the ids after the pass at i has taken in the one at j
module _ (ids : List PassId) (tree : IsPassTree ids) (i j : ℕ) (l m : PassId) (at : get_elem? ids i ≡ some l) (live : l.live ≡ true) (apart : j ≢ i)
    (at_m : get_elem? (set ids i (after_retire l m)) j ≡ some m) (live_m : m.live ≡ true) (has : AnswersFor l m) where
  abbrev joined : List PassId
  joined = set (set ids i (after_retire l m)) j gone_pass_id

  at_other : get_elem? ids j ≡ some m
  at_other = sym (set_else ids i j (after_retire l m) apart) ∙ at_m

  join_listed : (n : List ℕ) → listed n joined + one_if (same n m.name) ≡ listed n ids
  join_listed n =
      let t = both_set (λ (x : PassId). occurrences n x.split) ids i j l m (after_retire l m) gone_pass_id at at_m in
      let u = total-append (λ k. one_if (same n k)) (without_first (same m.name) l.split) m.split in
      let v = count-without_first (same m.name) (same n) (same n m.name) (λ x e. ap (same n) (sym (same_eq m.name x e))) l.split has in omega arith

  join_bearers : (n : List ℕ) → bearers n joined + one_if (same n m.name) ≡ bearers n ids
  join_bearers n =
      let t = both_set (λ (x : PassId). one_if (x.live && same n x.name)) ids i j l m (after_retire l m) gone_pass_id at at_m in
      let u : one_if (m.live && same n m.name) ≡ one_if (same n m.name) = ap (λ b. one_if (b && same n m.name)) live_m in omega arith

  abbrev Left : ℕ → PassId → Type 0
  Left k x = (gone_pass_id ≡ x) ⊎ (((k ≡ i) × (after_retire l m ≡ x)) ⊎ (get_elem? ids k ≡ some x))

  left : (k : ℕ) (x : PassId) → get_elem? joined k ≡ some x → Left k x
  left k x e =
      ⊎_elim
      (λ t. inl t.1)
      (λ t. ⊎_elim (λ u. inr (inl u)) (λ u. inr (inr u.1)) (at_set ids i k (after_retire l m) x t.1))
      (at_set (set ids i (after_retire l m)) j k gone_pass_id x e)

  join_longer : (k : ℕ) (x : PassId) (n : List ℕ) → Left k x → 0 < occurrences n x.split → (q : ℕ) × Extends x.name q n
  join_longer k x n (inl gone) some_one = absurd (omega (arith, ap (λ (y : PassId). occurrences n y.split) gone))
  join_longer k x n (inr (inl here)) some_one =
      subst (λ (y : PassId). 0 < occurrences n y.split → (q : ℕ) × Extends y.name q n) here.1
      (λ h.
      let u = total-append (λ k. one_if (same n k)) (without_first (same m.name) l.split) m.split in
      let v = count-without_first-le (same m.name) (same n) l.split in
      ⊎_elim
      (λ t. let e = tree.longer i l m.name at has in let f = tree.longer j m n at_other t in (e.0, through l.name m.name n e.0 f.0 e.1 f.1))
      (λ t. tree.longer i l n at (omega arith))
      (cases_lt 0 (occurrences n m.split)))
      some_one
  join_longer k x n (inr (inr else)) some_one = tree.longer k x n else some_one

  join_fresh : (k : ℕ) (x : PassId) (q : ℕ) (n : List ℕ) → Left k x → x.live ≡ true → 0 < bearers n joined → Extends x.name q n → q ≤ x.made
  join_fresh k x q n (inl gone) alive borne ext = absurd (true≢false (sym alive ∙ ap (λ (y : PassId). y.live) (sym gone)))
  join_fresh k x q n (inr (inl here)) alive borne ext =
      let h : n ≡ l.name ++ q ∷ ext.rest = ext.whole ∙ ap (λ (y : PassId). y.name ++ q ∷ ext.rest) (sym here.1) in
      omega (arith, tree.fresh i l q n at live (omega (arith, join_bearers n)) (record { rest = ext.rest; whole = h }), ap (λ (y : PassId). y.made) here.1)
  join_fresh k x q n (inr (inr else)) alive borne ext = tree.fresh k x q n else alive (omega (arith, join_bearers n)) ext

  join_dead : (k : ℕ) (x : PassId) → Left k x → x.live ≡ false → x.split ≡ []
  join_dead k x (inl gone) off = ap (λ (y : PassId). y.split) (sym gone)
  join_dead k x (inr (inl here)) off = absurd (true≢false (sym live ∙ (ap (λ (y : PassId). y.live) here.1 ∙ off)))
  join_dead k x (inr (inr else)) off = tree.dead k x else off

  -- a pass may be taken in by the one that answers for it
  pub joins_tree : IsPassTree (set (set ids i (after_retire l m)) j gone_pass_id)
  joins_tree = record {
    each = λ n. omega (arith, tree.each n, join_listed n, join_bearers n);
    once = λ n. omega (arith, tree.once n, join_bearers n);
    longer = λ k x n e some_one. join_longer k x n (left k x e) some_one;
    fresh = λ k x q n e alive borne ext. join_fresh k x q n (left k x e) alive borne ext;
    dead = λ k x e off. join_dead k x (left k x e) off;
  }
