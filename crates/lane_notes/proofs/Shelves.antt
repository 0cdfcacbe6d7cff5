-- Notes put into lists, one more note at a time.
use mathlib.Core.Bool.{cond}
use Rattle.std.proofs.Common.{◌≡◌, ℕ, ◌+◌, ◌<◌, ◌≤◌, zero, suc, Bool, true, false, nat_eq, List, [], ◌∷◌, ◌++◌, length, filter, get_or, replicate, take, add-one, arith, refl, sym, ap, ◌∙◌, subst}
use Rattle.std.proofs.Math.Logic.{⊎_elim}
use Rattle.std.proofs.lemmas.List as lists
use Rattle.std.proofs.lemmas.List.{append-nil, get_or-set_other, get_or-set_same, get_or_append_left, get_or_past, get_or_push, length-set, length-take-le, length_push, same_lists, take_more}
use Rattle.std.proofs.lemmas.List.Elements.{filter-append}
use Rattle.std.proofs.lemmas.Bool.{cases_lt, eqb-false, eqb-true}
use Rattle.lane_notes.specs.Sorted.{Place, is_of_number}
use Rattle.lane_notes.specs.Records.{each_below, line_at_number, numbered_from, put_in_list}

pub each_below-more : {A : Type 0} (f : ℕ → A) (n : ℕ) → each_below f (n + 1) ≡ each_below f n ++ f n ∷ []
each_below-more f n = rw add-one refl

pub length-each_below : {A : Type 0} (f : ℕ → A) (n : ℕ) → length (each_below f n) ≡ n
length-each_below f zero = refl
length-each_below f (suc n) = length_push (each_below f n) (f n) ∙ ap (λ m. m + 1) (length-each_below f n) ∙ add-one n

pub get_or-each_below : {A : Type 0} (f : ℕ → A) (n k : ℕ) (d : A) → k < n → get_or (each_below f n) k d ≡ f k
get_or-each_below f zero k d less = absurd (omega (arith, less))
get_or-each_below {A = A} f (suc n) k d less =
    ⊎_elim (λ (below : k < n). get_or_append_left (each_below f n) (f n ∷ []) d k (omega (arith, below, length-each_below f n))
    ∙ get_or-each_below f n k d below)
    (λ (above : n ≤ k). let same : n ≡ k = omega (arith, above, less) in get_or_push (each_below f n) (f n) d k (length-each_below f n ∙ same) ∙ ap f same)
    (cases_lt k n)

pub each_below-past : {A : Type 0} (f : ℕ → A) (n k : ℕ) (d : A) → n ≤ k → get_or (each_below f n) k d ≡ d
each_below-past f n k d past = get_or_past (each_below f n) k d (subst (λ m. m ≤ k) (sym (length-each_below f n)) past)

pub each_below-replicate : {A : Type 0} (x : A) (n : ℕ) → replicate n x ≡ each_below (λ j. x) n
each_below-replicate x n = same_lists (replicate n x) (each_below (λ j. x) n) (lists.length-replicate n x ∙ sym (length-each_below (λ j. x) n))
    (λ k d less. let below : k < n = omega (arith, less, lists.length-replicate n x) in
    lists.get_or-replicate n k x d below ∙ sym (get_or-each_below (λ j. x) n k d below))

-- an item that is put in its place stands behind those that pass there
one_more : {X : Type 0} (p : X → Bool) (xs : List X) (x : X) → p x ≡ true → filter p (xs ++ x ∷ []) ≡ filter p xs ++ x ∷ []
one_more p xs x is = filter-append p xs (x ∷ []) ∙ ap (λ b. filter p xs ++ (cond b (x ∷ []) [])) is

none_more : {X : Type 0} (p : X → Bool) (xs : List X) (x : X) → p x ≡ false → filter p (xs ++ x ∷ []) ≡ filter p xs
none_more p xs x not = filter-append p xs (x ∷ []) ∙ ap (λ b. filter p xs ++ (cond b (x ∷ []) [])) not ∙ append-nil (filter p xs)

pub each_below-put : {X : Type 0} (number : X → ℕ) (n : ℕ) (xs : List X) (x : X)
    → put_in_list (number x) x (each_below (λ j. filter (λ y. nat_eq (number y) j) xs) n) ≡ each_below (λ j. filter (λ y. nat_eq (number y) j) (xs ++ x ∷ [])) n
each_below-put {X = X} number n xs x =
    same_lists (put_in_list (number x) x (each_below before n)) (each_below after n) (long ∙ sym (length-each_below after n))
    (λ k d less. let below : k < n = omega (arith, less, long) in
    elim (nat_eq (number x) k) as
    (λ b. nat_eq (number x) k ≡ b → get_or (put_in_list (number x) x (each_below before n)) k d ≡ get_or (each_below after n) k d) [
      | true ↦ λ is. here k d below is (eqb-true (number x) k is)
      | false ↦ λ not. elsewhere k d below not (eqb-false (number x) k not)
    ] refl)
  where
    before : ℕ → List X
    before j = filter (λ y. nat_eq (number y) j) xs

    after : ℕ → List X
    after j = filter (λ y. nat_eq (number y) j) (xs ++ x ∷ [])

    long : length (put_in_list (number x) x (each_below before n)) ≡ n
    long = length-set (each_below before n) (number x) (get_or (each_below before n) (number x) [] ++ x ∷ []) ∙ length-each_below before n

    here : (k : ℕ) (d : List X) → k < n → nat_eq (number x) k ≡ true → number x ≡ k
        → get_or (put_in_list (number x) x (each_below before n)) k d ≡ get_or (each_below after n) k d
    here k d below is same =
        ap (λ m. get_or (put_in_list m x (each_below before n)) k d) same
        ∙ get_or-set_same (each_below before n) k (get_or (each_below before n) k [] ++ x ∷ []) d (omega (arith, below, length-each_below before n))
        ∙ ap (λ ys. ys ++ x ∷ []) (get_or-each_below before n k [] below) ∙ sym (one_more (λ y. nat_eq (number y) k) xs x is)
        ∙ sym (get_or-each_below after n k d below)

    elsewhere : (k : ℕ) (d : List X) → k < n → nat_eq (number x) k ≡ false → (number x ≡ k → ⊥)
        → get_or (put_in_list (number x) x (each_below before n)) k d ≡ get_or (each_below after n) k d
    elsewhere k d below not apart =
        get_or-set_other (each_below before n) (number x) k (get_or (each_below before n) (number x) [] ++ x ∷ []) d (λ e. apart (sym e))
        ∙ get_or-each_below before n k d below ∙ sym (none_more (λ y. nat_eq (number y) k) xs x not) ∙ sym (get_or-each_below after n k d below)

-- a loop's step
pub filing-step : {X : Type 0} (number : X → ℕ) (n : ℕ) (xs : List X) (i : ℕ) (x : X) (now new : List (List X)) → i < length xs → x ≡ get_or xs i x
    → now ≡ each_below (λ j. filter (λ y. nat_eq (number y) j) (take i xs)) n
    → new ≡ put_in_list (number x) x now → new ≡ each_below (λ j. filter (λ y. nat_eq (number y) j) (take (i + 1) xs)) n
filing-step number n xs i x now new less is so_far step =
    step ∙ ap (put_in_list (number x) x) so_far ∙ each_below-put number n (take i xs) x
    ∙ ap (λ ys. each_below (λ j. filter (λ y. nat_eq (number y) j) ys) n) (ap (λ y. take i xs ++ y ∷ []) is ∙ sym (take_more xs i x less))

-- ---- lines one behind the other

pub add_none : (k : ℕ) → k ≡ k + 0
add_none k = omega arith

pub add_later : (k n : ℕ) → k + 1 + n ≡ k + suc n
add_later k n = omega arith

numbered_from-append : {N L : Type 0} (line : ℕ → N → L) (k : ℕ) (xs : List N) (x : N)
    → numbered_from line k (xs ++ x ∷ []) ≡ numbered_from line k xs ++ line (k + length xs) x ∷ []
numbered_from-append line k [] x = ap (λ n. line n x ∷ []) (add_none k)
numbered_from-append line k (y ∷ xs) x = ap (λ ls. line k y ∷ ls)
    (numbered_from-append line (k + 1) xs x ∙ ap (λ n. numbered_from line (k + 1) xs ++ line n x ∷ []) (add_later k (length xs)))

numbered-step : {N L : Type 0} (line : ℕ → N → L) (xs : List N) (i : ℕ) (x : N) (l : L) (now new : List L) → i < length xs → x ≡ get_or xs i x
    → now ≡ numbered_from line 1 (take i xs) → l ≡ line (i + 1) x → new ≡ now ++ l ∷ [] → new ≡ numbered_from line 1 (take (i + 1) xs)
numbered-step line xs i x l now new less is so_far made step =
    step ∙ ap (λ ls. ls ++ l ∷ []) so_far
    ∙ ap (λ y. numbered_from line 1 (take i xs) ++ y ∷ [])
    (made ∙ ap (λ n. line n x) (at_end i (length (take i xs)) (length-take-le i xs (omega (arith, less)))))
    ∙ sym (numbered_from-append line 1 (take i xs) x) ∙ ap (λ y. numbered_from line 1 (take i xs ++ y ∷ [])) is
    ∙ ap (numbered_from line 1) (sym (take_more xs i x less))
  where
    at_end : (i n : ℕ) → n ≡ i → i + 1 ≡ 1 + n
    at_end i n e = omega (arith, e)

-- a loop's step
pub line-step : {N U L : Type 0} (under : U → Place) (line : N → List U → L) (unders : List U) (xs : List N) (i : ℕ) (x : N) (l : L) (us : List U)
    (now new : List L) → i < length xs → x ≡ get_or xs i x → now ≡ numbered_from (line_at_number under line unders) 1 (take i xs) → l ≡ line x us
    → us ≡ filter (is_of_number under (i + 1)) unders → new ≡ now ++ l ∷ [] → new ≡ numbered_from (line_at_number under line unders) 1 (take (i + 1) xs)
line-step under line unders xs i x l us now new less read so_far made is step =
    numbered-step (line_at_number under line unders) xs i x l now new less read so_far (made ∙ ap (line x) is) step

pub long_below : {A : Type 0} (f : ℕ → A) (n k : ℕ) (items : List A) → items ≡ each_below f n → k < n → k < length items
long_below f n k items is less = subst (λ (m : ℕ). k < m) (sym (ap length is ∙ length-each_below f n)) less

pub read_below : {A : Type 0} (f : ℕ → A) (n k : ℕ) (items : List A) (x : A) → items ≡ each_below f n → k < n → x ≡ get_or items k x → x ≡ f k
read_below {A = A} f n k items x is less read = read ∙ ap (λ (ys : List A). get_or ys k x) is ∙ get_or-each_below f n k x less

-- a loop's step
pub each_below-step : {A : Type 0} (f : ℕ → A) (i : ℕ) (x : A) (now new : List A) → now ≡ each_below f i → x ≡ f i → new ≡ now ++ x ∷ []
    → new ≡ each_below f (i + 1)
each_below-step f i x now new so_far is step = step ∙ ap (λ xs. xs ++ x ∷ []) so_far ∙ ap (λ y. each_below f i ++ y ∷ []) is ∙ sym (each_below-more f i)
