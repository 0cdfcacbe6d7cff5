-- From what a pass knows to the places of its entries in the order of all: a call adds to what the pass has seen.
use Rattle.std.proofs.Common.{◌≡◌, ◌<◌, ◌≤◌, ℕ, ◌+◌, zero, suc, true, false, List, [], ◌∷◌, ◌++◌, Some, length, map, take, arith, refl, sym, ap, ◌∙◌, subst}
use Rattle.std.specs.List.{AllByRecursion, slice_get}
use Rattle.std.proofs.Math.Logic.{⊎_elim}
use Rattle.std.proofs.Math.Seq.{take-append_seam}
use Rattle.std.proofs.lemmas.Bool.{cases_lt}
use Rattle.std.proofs.lemmas.List.{length-map, map-append, take-append-le}
use Rattle.std.proofs.lemmas.Option.{same_Some, slice_get_within}
use Rattle.seq_timer.specs.Histories as histories
use Rattle.seq_timer.specs.Systems.{entries_of, rises_of, shifts_of}
use Rattle.seq_timer.specs.declared.standing.BaseEvent.{BaseEvent}
use Rattle.seq_timer.specs.declared.system.SystemEntry.{SystemEntry}
use Rattle.seq_timer.specs.declared.system.SystemEntry.TheVariants as entries
use Rattle.record_text.specs.declared.record.Entry.{Entry}
use Rattle.record_text.specs.declared.record.Label.{Label}
use Rattle.record_text.specs.declared.record.RunRecord.{RunRecord}
use Rattle.run_history.specs.Actions.{Action}
use Rattle.run_history.specs.Histories.{entry_shown}
use Rattle.script_text.proofs.Lists.{All-append, All-weaker}
use Rattle.run_history.specs.Receipts.{count_owned, IsMade, PlacedEntry, receipt, Rises, ShowsEntry}
use Rattle.run_history.specs.Traces.{all_entered}
use Rattle.run_history.specs.Promises.{RunGoesOn}
use Rattle.run_history.specs.Runs.{Ending, IsJoined, witness_of}
use Rattle.script_text.specs.declared.script.Script.{Script}
use Rattle.run_history.specs.Witnesses.{BasesList, OfBase, OfRise, OfTimer, Owner, Shown, TimersList, entries_in, entry_of_shown, is_owner, owner_of, owner_of_entry}
use Rattle.run_history.proofs.Kept.{Stops}
use Rattle.run_history.proofs.Laid.{counts_more}
use Rattle.run_history.proofs.Promise.{seen_first}
use Rattle.run_history.proofs.Lists.{at_left, at_seam}
use Rattle.run_history.proofs.Owners.{and_one, bases_entry, count_cons, count_is, entries_at, entries_at-base, entries_at-timer, owner_is, timers_entry}
use Rattle.run_history.proofs.Shown.{entry_place}

-- entries that a pass made between two lengths of what it has seen
pub record AreMade (order : List SystemEntry) (low high : ℕ) (notes : List PlacedEntry) : Type 0 where
  pub rise : Rises low (map (λ x. x.place) notes)
  pub below : AllByRecursion (λ x. x.place < high) notes
  pub made : AllByRecursion (IsMade order) notes

-- they are these entries of the order
abbrev pub AreEntries : List SystemEntry → List PlacedEntry → List SystemEntry → Type 0
AreEntries order [] [] = Unit
AreEntries order (x ∷ xs) (e ∷ es) = (slice_get order x.place ≡ Some e) × AreEntries order xs es
AreEntries order [] (e ∷ es) = ⊥
AreEntries order (x ∷ xs) [] = ⊥

-- entries as receipts, by number, behind so many
abbrev pub numbered_on : ℕ → List Shown → List (ℕ × Shown)
numbered_on k [] = []
numbered_on k (s ∷ ss) = (k + 1, s) ∷ numbered_on (k + 1) ss

-- the same of entries of a timer
abbrev pub numbered : ℕ → ℕ → List Entry → List (ℕ × Shown)
numbered t k es = numbered_on k (map (OfTimer t) es)

-- ---- receipts by what they tell

pub no_notes : (xs : List PlacedEntry) → map receipt xs ≡ [] → xs ≡ []
no_notes [] is = refl
no_notes (x ∷ xs) is = absurd (cc)

pub first_note : (xs : List PlacedEntry) (e : ℕ × Shown) (es : List (ℕ × Shown)) → map receipt xs ≡ e ∷ es
    → (x : PlacedEntry) × (rest : List PlacedEntry) × (xs ≡ x ∷ rest) × (receipt x ≡ e) × (map receipt rest ≡ es)
first_note [] e es is = absurd (cc)
first_note (x ∷ xs) e es is = (x, xs, refl, cc, cc)

pub one_note : (xs : List PlacedEntry) (e : ℕ × Shown) → map receipt xs ≡ e ∷ [] → (x : PlacedEntry) × (xs ≡ x ∷ []) × (receipt x ≡ e)
one_note xs e is =
    let first = first_note xs e [] is in (first.0, first.2 ∙ ap (λ rest. first.0 ∷ rest) (no_notes first.1 first.4), first.3)

pub last_note : (xs : List PlacedEntry) (es : List (ℕ × Shown)) (e : ℕ × Shown) → map receipt xs ≡ es ++ e ∷ []
    → (early : List PlacedEntry) × (x : PlacedEntry) × (xs ≡ early ++ x ∷ []) × (map receipt early ≡ es) × (receipt x ≡ e)
last_note xs [] e is = let one = one_note xs e is in ([], one.0, one.1, refl, one.2)
last_note xs (y ∷ es) e is =
    let first = first_note xs y (es ++ e ∷ []) is in
    let rest = last_note first.1 es e first.4 in (
      first.0 ∷ rest.0,
      rest.1,
      first.2 ∙ ap (λ zs. first.0 ∷ zs) rest.2,
      ap (λ z. z ∷ map receipt rest.0) first.3 ∙ ap (λ zs. y ∷ zs) rest.3,
      rest.4,
    )

-- the entries before the last one were made before its place
pub before_last : (order : List SystemEntry) (low high : ℕ) (early : List PlacedEntry) (x : PlacedEntry) → AreMade order low high (early ++ x ∷ [])
    → (low ≤ x.place) × AreMade order low x.place early × AreMade order x.place high (x ∷ [])
before_last order low high [] x made =
    (made.rise.0, record { rise = tt; below = tt; made = tt }, record { rise = (omega arith, tt); below = made.below; made = made.made })
before_last order low high (y ∷ early) x made =
    let rest = before_last order (y.place + 1) high early x (record { rise = made.rise.1; below = made.below.1; made = made.made.1 }) in (
      omega (arith, made.rise.0, rest.0),
      record { rise = (made.rise.0, rest.1.rise); below = (omega (arith, rest.0), rest.1.below); made = (made.made.0, rest.1.made) },
      rest.2,
    )

-- ---- a call's entries

-- behind an entry of a list there is one more
count_next : (o : Owner) (p : ℕ) (x : SystemEntry) (xs : List SystemEntry) → slice_get xs p ≡ Some x → owner_of_entry x ≡ o
    → count_owned o (take (suc p) xs) ≡ count_owned o (take p xs) + 1
count_next o p x [] at is = absurd (cc)
count_next o zero x (y ∷ xs) at is =
    count_cons o y (take 0 xs) ∙ ap (λ b. and_one b (count_owned o (take 0 xs))) (owner_is (owner_of_entry y) o (ap owner_of_entry (same_Some y x at) ∙ is))
    ∙ ap (λ n. n + 1) (none xs)
  where
    none : (xs : List SystemEntry) → count_owned o (take 0 xs) ≡ count_owned o (take 0 (y ∷ xs))
    none [] = refl
    none (z ∷ xs) = refl
count_next o (suc p) x (y ∷ xs) at is =
    let rest = count_next o p x xs at is in
    count_cons o y (take (suc p) xs)
    ∙ elim (is_owner (owner_of_entry y) o) as (λ b. and_one b (count_owned o (take (suc p) xs)) ≡ and_one b (count_owned o (take p xs)) + 1) [
      | true ↦ ap (λ n. n + 1) rest
      | false ↦ rest
    ]
    ∙ ap (λ n. n + 1) (sym (count_cons o y (take p xs)))

-- the entries of a list from a number on stand at rising places, behind a length at which there were no more
made_from : (o : Owner) (k low : ℕ) (xs es : List SystemEntry) (shown : List Shown) → length shown ≡ length es
    → AllByRecursion (λ s. owner_of s ≡ o) shown
    → ((j : ℕ) (e : SystemEntry) → slice_get es j ≡ Some e → slice_get (entries_at o xs) (k + j) ≡ Some e) → count_owned o (take low xs) ≤ k
    → (notes : List PlacedEntry) × AreMade xs low (length xs) notes × (map receipt notes ≡ numbered_on k shown) × AreEntries xs notes es
made_from o k low xs [] [] same own at few = ([], record { rise = tt; below = tt; made = tt }, refl, tt)
made_from o k low xs [] (x ∷ shown) same own at few = absurd (omega (arith, same))
made_from o k low xs (e ∷ es) [] same own at few = absurd (omega (arith, same))
made_from o k low xs (e ∷ es) (x ∷ shown) same own at few =
    let f = entry_place o k e xs (subst (λ n. slice_get (entries_at o xs) n ≡ Some e) (none k) (at 0 e refl)) in
    let p = f.place in
    let next : count_owned o (take (suc p) xs) ≡ count_owned o (take p xs) + 1 = count_next o p e xs f.there f.owner in
    let later : low ≤ p =
    ⊎_elim (λ (less : p < low). absurd (omega (arith, few, f.number, counts_more xs p low o e f.there f.owner less)))
    (λ more. more) (cases_lt p low) in
    let rest = made_from o (k + 1) (p + 1) xs es shown (omega (arith, same)) own.1
    (λ j z is. subst (λ n. slice_get (entries_at o xs) n ≡ Some z) (shift k j) (at (suc j) z is))
    (subst (λ n. count_owned o (take n xs) ≤ k + 1) (add_one p) (omega (arith, next, f.number))) in
    let note : PlacedEntry = record { place = p; number = k + 1; shown = x } in (
      note ∷ rest.0,
      record {
        rise = (later, rest.1.rise);
        below = (slice_get_within xs p e f.there, rest.1.below);
        made = (
          record {
            step = e;
            there = f.there;
            owner = f.owner ∙ sym own.0;
            number = ap (λ u. count_owned u (take p xs) + 1) own.0 ∙ ap (λ n. n + 1) f.number;
          },
          rest.1.made,
        );
      },
      ap (λ rs. (k + 1, x) ∷ rs) rest.2,
      (f.there, rest.3),
    )
  where
    none : (n : ℕ) → n + 0 ≡ n
    none n = omega arith

    add_one : (n : ℕ) → suc n ≡ n + 1
    add_one n = omega arith

    shift : (k j : ℕ) → k + suc j ≡ k + 1 + j
    shift k j = omega arith

at_right : {X : Type 0} (xs ys : List X) (j : ℕ) (y : X) → slice_get ys j ≡ Some y → slice_get (xs ++ ys) (length xs + j) ≡ Some y
at_right [] ys j y at = subst (λ n. slice_get ys n ≡ Some y) (none j) at
  where
    none : (n : ℕ) → n ≡ 0 + n
    none n = omega arith
at_right (x ∷ xs) ys j y at = subst (λ n. slice_get (x ∷ xs ++ ys) n ≡ Some y) (further (length xs) j) (at_right xs ys j y at)
  where
    further : (n j : ℕ) → suc (n + j) ≡ suc n + j
    further n j = omega arith

-- law: where a pass that had seen these entries made entries of one list, and has seen more then, its entries stand behind the former, and have the
-- numbers behind those that the list had then
pub adds_made_on : (before more : List SystemEntry) (o : Owner) (es : List SystemEntry) (shown : List Shown)
    → entries_at o (before ++ more) ≡ entries_at o before ++ es → length shown ≡ length es → AllByRecursion (λ s. owner_of s ≡ o) shown
    → (notes : List PlacedEntry) × AreMade (before ++ more) (length before) (length (before ++ more)) notes
    × (map receipt notes ≡ numbered_on (count_owned o before) shown) × AreEntries (before ++ more) notes es
adds_made_on before more o es shown adds same own =
    made_from o (count_owned o before) (length before) (before ++ more) es shown same own
    (λ j e at. ap (λ xs. slice_get xs (count_owned o before + j)) adds
    ∙ subst (λ n. slice_get (entries_at o before ++ es) (n + j) ≡ Some e) (sym (count_is o before)) (at_right (entries_at o before) es j e at))
    (subst (λ xs. count_owned o xs ≤ count_owned o before) (sym (take-append_seam before more)) (omega arith))

timers_own : (t : ℕ) (shown : List Entry) → AllByRecursion (λ s. owner_of s ≡ TimersList t) (map (OfTimer t) shown)
timers_own t [] = tt
timers_own t (e ∷ es) = (refl, timers_own t es)

-- law: the same of entries of a timer
pub adds_made : (before more : List SystemEntry) (t : ℕ) (es : List histories.Entry) (shown : List Entry)
    → entries_of t (before ++ more) ≡ entries_of t before ++ es → length shown ≡ length es
    → (notes : List PlacedEntry) × AreMade (before ++ more) (length before) (length (before ++ more)) notes
    × (map receipt notes ≡ numbered t (count_owned (TimersList t) before) shown) × AreEntries (before ++ more) notes (map (timers_entry t) es)
adds_made before more t es shown adds same =
    adds_made_on before more (TimersList t) (map (timers_entry t) es) (map (OfTimer t) shown)
    (entries_at-timer t (before ++ more) ∙ ap (map (timers_entry t)) adds ∙ map-append (timers_entry t) (entries_of t before) es
    ∙ ap (λ xs. xs ++ map (timers_entry t) es) (sym (entries_at-timer t before)))
    (length-map shown (OfTimer t) ∙ same ∙ sym (length-map es (timers_entry t))) (timers_own t shown)

-- law: and of an entry of a base
pub shift_made : (before more : List SystemEntry) (b : ℕ) (event : BaseEvent) → shifts_of b (before ++ more) ≡ shifts_of b before ++ event ∷ []
    → (notes : List PlacedEntry) × AreMade (before ++ more) (length before) (length (before ++ more)) notes
    × (map receipt notes ≡ (count_owned (BasesList b) before + 1, OfBase b event) ∷ []) × AreEntries (before ++ more) notes (bases_entry b event ∷ [])
shift_made before more b event adds =
    adds_made_on before more (BasesList b) (bases_entry b event ∷ []) (OfBase b event ∷ [])
    (entries_at-base b (before ++ more) ∙ ap (map (bases_entry b)) adds ∙ map-append (bases_entry b) (shifts_of b before) (event ∷ [])
    ∙ ap (λ xs. xs ++ bases_entry b event ∷ []) (sym (entries_at-base b before)))
    refl (refl, tt)

-- law: and of a rise of a counter, the last of what the pass has seen
pub rise_made : (k n low : ℕ) (before seen : List SystemEntry) → seen ≡ before ++ entries.Rise k ∷ [] → rises_of k before ≡ n → low ≤ length before
    → (x : PlacedEntry) × AreMade seen low (length seen) (x ∷ []) × (receipt x ≡ (n + 1, OfRise k)) × AreEntries seen (x ∷ []) (entries.Rise k ∷ [])
rise_made k n low before seen is count_owned le =
    let there : slice_get seen (length before) ≡ Some (entries.Rise k) =
    ap (λ xs. slice_get xs (length before)) is ∙ at_seam before [] (entries.Rise k) in (
      record { place = length before; number = n + 1; shown = OfRise k },
      record {
        rise = (le, tt);
        below = (slice_get_within seen (length before) (entries.Rise k) there, tt);
        made = (
          record {
            step = entries.Rise k;
            there = there;
            owner = refl;
            number = ap (λ xs. rises_of k (take (length before) xs) + 1) is
                ∙ ap (λ xs. rises_of k xs + 1) (take-append_seam before (entries.Rise k ∷ [])) ∙ ap (λ m. m + 1) count_owned;
          },
          tt,
        );
      },
      refl,
      (there, tt),
    )

-- ---- how many of a list stand before a moment

-- law: of the first entries, which a pass has seen, as many are rises of a counter as were seen
pub rises_along : {s : Script} {e : Ending} (k : ℕ) (seen : List SystemEntry) → IsJoined s e → RunGoesOn seen e
    → rises_of k (take (length seen) (entries_in (witness_of s e))) ≡ rises_of k seen
rises_along k seen joined on =
    ap (λ es. rises_of k (take (length seen) es)) (seen_first seen joined on) ∙ ap (rises_of k) (take-append_seam seen on.0)

-- ---- the order goes on

made_on : (xs ys : List SystemEntry) (notes : List PlacedEntry) → AllByRecursion (IsMade xs) notes → AllByRecursion (IsMade (xs ++ ys)) notes
made_on xs ys [] made = tt
made_on xs ys (x ∷ notes) made =
    let inside = slice_get_within xs x.place made.0.step made.0.there in (
      record {
        step = made.0.step;
        there = at_left xs ys x.place made.0.step made.0.there;
        owner = made.0.owner;
        number = ap (λ zs. count_owned (owner_of x.shown) zs + 1) (take-append-le x.place xs ys (omega (arith, inside))) ∙ made.0.number;
      },
      made_on xs ys notes made.1,
    )

pub made_goes_on : (order seen later : List SystemEntry) (low high : ℕ) (notes : List PlacedEntry) → order ≡ seen ++ later → AreMade seen low high notes
    → AreMade order low high notes
made_goes_on order seen later low high notes is made = record {
  rise = made.rise;
  below = made.below;
  made = subst (λ xs. AllByRecursion (IsMade xs) notes) (sym is) (made_on seen later notes made.made);
}

-- so each receipt shows its entry
pub shows_made_on : (r : RunRecord) (order seen later : List SystemEntry) (k : ℕ) (notes : List PlacedEntry) (es : List SystemEntry) (shown : List Shown)
    → order ≡ seen ++ later → AreEntries seen notes es → map receipt notes ≡ numbered_on k shown → es ≡ map (entry_of_shown r.clock) shown
    → AllByRecursion (ShowsEntry r order) notes
shows_made_on r order seen later k [] es shown is those are shows = tt
shows_made_on r order seen later k (x ∷ xs) [] shown is those are shows = absurd those
shows_made_on r order seen later k (x ∷ xs) (e ∷ es) [] is those are shows = absurd (cc)
shows_made_on r order seen later k (x ∷ xs) (e ∷ es) (y ∷ ys) is those are shows =
    let here : receipt x ≡ (k + 1, y) = cc in
    let rest : map receipt xs ≡ numbered_on (k + 1) ys = cc in
    let shown : e ≡ entry_of_shown r.clock y = cc in
    let further : es ≡ map (entry_of_shown r.clock) ys = cc in (
      record {
        step = e;
        there = ap (λ zs. slice_get zs x.place) is ∙ at_left seen later x.place e those.0;
        entry = shown ∙ ap (entry_of_shown r.clock) (sym (ap (λ (q : ℕ × Shown). q.1) here));
      },
      shows_made_on r order seen later (k + 1) xs es ys is those.1 rest further,
    )

-- and of a timer's entries, in a record whose clock has the readings
pub shows_made : (r : RunRecord) (order seen later : List SystemEntry) (t k : ℕ) (notes : List PlacedEntry) (es : List histories.Entry) (shown : List Entry)
    → order ≡ seen ++ later → AreEntries seen notes (map (timers_entry t) es) → map receipt notes ≡ numbered t k shown
    → es ≡ map (entry_shown r.clock) shown → AllByRecursion (ShowsEntry r order) notes
shows_made r order seen later t k notes es shown is those are shows =
    shows_made_on r order seen later k notes (map (timers_entry t) es) (map (OfTimer t) shown) is those are
    (ap (map (timers_entry t)) shows ∙ each_shown shown)
  where
    each_shown : (shown : List Entry) → map (timers_entry t) (map (entry_shown r.clock) shown) ≡ map (entry_of_shown r.clock) (map (OfTimer t) shown)
    each_shown [] = refl
    each_shown (e ∷ es) = ap (λ ys. timers_entry t (entry_shown r.clock e) ∷ ys) (each_shown es)

-- ---- calls one behind the other

-- numbers rise from a lower number too
pub rises_lower : (j k : ℕ) (xs : List ℕ) → j ≤ k → Rises k xs → Rises j xs
rises_lower j k [] le rises = tt
rises_lower j k (x ∷ xs) le rises = (omega (arith, le, rises.0), rises.1)

rises_both : (low mid : ℕ) (xs ys : List PlacedEntry) → Rises low (map (λ x. x.place) xs) → AllByRecursion (λ x. x.place < mid) xs → low ≤ mid
    → Rises mid (map (λ x. x.place) ys) → Rises low (map (λ x. x.place) (xs ++ ys))
rises_both low mid [] [] one below le two = tt
rises_both low mid [] (y ∷ ys) one below le two = (omega (arith, le, two.0), two.1)
rises_both low mid (x ∷ xs) ys one below le two = (one.0, rises_both (x.place + 1) mid xs ys one.1 below.1 (omega (arith, below.0)) two)

pub below_all : (mid high : ℕ) (xs : List PlacedEntry) → mid ≤ high → AllByRecursion (λ x. x.place < mid) xs → AllByRecursion (λ x. x.place < high) xs
below_all mid high xs le below = All-weaker (λ x. x.place < mid) (λ x. x.place < high) (λ x less. omega (arith, le, less)) xs below

pub made-append : (order : List SystemEntry) (low mid high : ℕ) (xs ys : List PlacedEntry) → AreMade order low mid xs → AreMade order mid high ys → low ≤ mid
    → mid ≤ high → AreMade order low high (xs ++ ys)
made-append order low mid high xs ys one two le more = record {
  rise = rises_both low mid xs ys one.rise one.below le two.rise;
  below = All-append (λ x. x.place < high) xs ys (below_all mid high xs more one.below) two.below;
  made = All-append (IsMade order) xs ys one.made two.made;
}

pub behind_all : (n k : ℕ) (xs : List PlacedEntry) → n ≤ k → Rises k (map (λ x. x.place) xs) → AllByRecursion (λ x. n ≤ x.place) xs
behind_all n k [] le rise = tt
behind_all n k (x ∷ xs) le rise = (omega (arith, le, rise.0), behind_all n (x.place + 1) xs (omega (arith, le, rise.0)) rise.1)

pub made_wider : (order : List SystemEntry) (low low' high' high : ℕ) (notes : List PlacedEntry) → low ≤ low' → high' ≤ high → AreMade order low' high' notes
    → AreMade order low high notes
made_wider order low low' high' high notes under over made = record {
  rise = rises_lower low low' (map (λ x. x.place) notes) under made.rise;
  below = below_all high' high notes over made.below;
  made = made.made;
}

-- a pass that looked further has made no more
pub none_made : (order : List SystemEntry) (low high : ℕ) → AreMade order low high []
none_made order low high = record { rise = tt; below = tt; made = tt }

-- law: between two calls of a pass, what it had seen is a stop of all that it made
pub stops_between : (c : Label) (order : List SystemEntry) (low n high : ℕ) (early late : List PlacedEntry) (before : List Action) → AreMade order low n early
    → AreMade order n high late → map receipt early ≡ all_entered before → Stops c (early ++ late) before n
stops_between c order low n high early late before one two are = record {
  early = early;
  late = late;
  split = refl;
  are = are;
  below = one.below;
  behind = behind_all n n late (omega arith) two.rise;
}
