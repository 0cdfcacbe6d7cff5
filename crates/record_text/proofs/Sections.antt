-- The parts of a record are read back from its lines.
use Rattle.std.proofs.Common.{◌≡◌, ◌⊎◌, inl, inr, ◌++◌, ◌∷◌, [], List, ℕ, ◌+◌, ◌<◌, ◌≤◌, true, false, if◌then◌else◌, nat_eq, map, flat_map, length, ap, sym, refl, ◌∙◌, append_assoc, arith}
use Rattle.std.proofs.lemmas.List.{append-nil}
use Rattle.std.proofs.lemmas.List.Concat.{flat_map-append}
use Rattle.std.proofs.lemmas.Bool.Decides.{nat_tests}
use Rattle.record_text.specs.declared.record.ClockLine.{ClockLine}
use Rattle.record_text.specs.declared.record.BaseLine.{BaseLine}
use Rattle.record_text.specs.declared.record.Look.{Look}
use Rattle.record_text.specs.declared.record.TimerLine.{TimerLine}
use Rattle.record_text.specs.declared.record.Skip.{Skip}
use Rattle.record_text.specs.declared.record.ObjectLine.{ObjectLine}
use Rattle.record_text.specs.declared.record.Answer.{Answer}
use Rattle.record_text.specs.declared.record.RunRecord.{RunRecord}
use Rattle.record_text.specs.Text.{RecordLine, Heading, OfClock, OfBase, OfTimer, OfLook, OfObject, OfSkip, OfCall, End, numbered, lines_in_lists, clock_lines, base_lines, timer_lines, object_lines, lane_lines, record_lines}

-- what a line adds to the list with a number: an item, to which what hangs below it is yet to be given, or what hangs there
data Row (X K : Type 0) : Type 0 where
  Item : ℕ → (List K → X) → Row X K
  Hung : ℕ → K → Row X K

-- the list with a number, and what hangs above its first item
abbrev read : {X K : Type 0} → ℕ → List (Row X K) → List K × List X
read i [] = ([], [])
read i (Item j whole ∷ rows) = if nat_eq i j then ([], whole (read i rows).0 ∷ (read i rows).1) else read i rows
read i (Hung j k ∷ rows) = if nat_eq i j then (k ∷ (read i rows).0, (read i rows).1) else read i rows

same_number : (n : ℕ) → nat_eq n n ≡ true
same_number n = grind (arith, nat_tests)

other_number : (m n : ℕ) → (m < n) ⊎ (n < m) → nat_eq m n ≡ false
other_number m n (inl less) = grind (arith, nat_tests)
other_number m n (inr more) = grind (arith, nat_tests)

hung_read : {X K : Type 0} (i : ℕ) (ks : List K) (rows : List (Row X K)) → read i (map (Hung i) ks ++ rows) ≡ (ks ++ (read i rows).0, (read i rows).1)
hung_read i [] rows = refl
hung_read {X} {K} i (k ∷ ks) rows = rw (same_number i) (ap (λ (g : List K × List X). (k ∷ g.0, g.1)) (hung_read i ks rows))

hung_other : {X K : Type 0} (i j : ℕ) → nat_eq i j ≡ false → (ks : List K) (rows : List (Row X K)) → read i (map (Hung j) ks ++ rows) ≡ read i rows
hung_other i j other [] rows = refl
hung_other i j other (k ∷ ks) rows = rw other (hung_other i j other ks rows)

hung_before : {X K : Type 0} (i : ℕ) (ks : List K) (more rows : List (Row X K)) (xs : List X) → read i (more ++ rows) ≡ ([], xs)
    → read i ((map (Hung i) ks ++ more) ++ rows) ≡ (ks, xs)
hung_before {X} {K} i ks more rows xs inner =
    ap (read i) (append_assoc (map (Hung i) ks) more rows)
    ∙ hung_read i ks (more ++ rows)
    ∙ ap (λ (g : List K × List X). (ks ++ g.0, g.1)) inner
    ∙ ap (λ ls. (ls, xs)) (append-nil ks)

-- A section of a record: the line of each item and the lines that hang below it, and a view of lines that sees the item and what hangs there.
module _ {X K : Type 0} (view : RecordLine → List (Row X K)) (head : ℕ → ℕ → X → RecordLine) (below : ℕ → ℕ → K → RecordLine)
    (whole : X → List K → X) (hung : X → List K) (again : (x : X) → whole x (hung x) ≡ x)
    (heads : (i n : ℕ) (x : X) → view (head i n x) ≡ Item i (whole x) ∷ []) (hangs : (i n : ℕ) (k : K) → view (below i n k) ≡ Hung i k ∷ []) where
  abbrev lines : ℕ → ℕ → X → List RecordLine
  lines i n x = head i n x ∷ map (below i n) (hung x)

  -- the rows of one list, and of lists that are numbered on from a number
  abbrev rows_of : ℕ → List X → List (Row X K)
  rows_of i [] = []
  rows_of i (x ∷ xs) = Item i (whole x) ∷ (map (Hung i) (hung x) ++ rows_of i xs)

  abbrev rows_of_all : ℕ → List (List X) → List (Row X K)
  rows_of_all i [] = []
  rows_of_all i (xs ∷ xss) = rows_of i xs ++ rows_of_all (i + 1) xss

  hung_shown : (i n : ℕ) (ks : List K) → flat_map view (map (below i n) ks) ≡ map (Hung i) ks
  hung_shown i n [] = refl
  hung_shown i n (k ∷ ks) = rw (hangs i n k, hung_shown i n ks) refl

  list_shown : (i n : ℕ) (xs : List X) → flat_map view (numbered (lines i) n xs) ≡ rows_of i xs
  list_shown i n [] = refl
  list_shown i n (x ∷ xs) =
      flat_map-append view (lines i n x) (numbered (lines i) (n + 1) xs)
      ∙ rw (heads i n x, hung_shown i n (hung x), list_shown i (n + 1) xs) refl

  lists_shown : (first i : ℕ) (xss : List (List X)) → flat_map view (lines_in_lists lines first i xss) ≡ rows_of_all i xss
  lists_shown first i [] = refl
  lists_shown first i (xs ∷ xss) =
      flat_map-append view (numbered (lines i) first xs) (lines_in_lists lines first (i + 1) xss)
      ∙ rw (list_shown i first xs, lists_shown first (i + 1) xss) refl

  list_read : (i : ℕ) (xs : List X) (rows : List (Row X K)) → read i rows ≡ ([], []) → read i (rows_of i xs ++ rows) ≡ ([], xs)
  list_read i [] rows none = none
  list_read i (x ∷ xs) rows none =
      rw (same_number i, hung_before i (hung x) (rows_of i xs) rows xs (list_read i xs rows none)) (ap (λ y. ([], y ∷ xs)) (again x))

  list_other : (i j : ℕ) → nat_eq i j ≡ false → (xs : List X) (rows : List (Row X K)) → read i (rows_of j xs ++ rows) ≡ read i rows
  list_other i j other [] rows = refl
  list_other i j other (x ∷ xs) rows =
      rw other (ap (read i) (append_assoc (map (Hung j) (hung x)) (rows_of j xs) rows) ∙ hung_other i j other (hung x) (rows_of j xs ++ rows)
      ∙ list_other i j other xs rows)

  none_before : (i j : ℕ) (xss : List (List X)) → i < j → read i (rows_of_all j xss) ≡ ([], [])
  none_before i j [] past = refl
  none_before i j (xs ∷ xss) past =
      list_other i j (other_number i j (inl past)) xs (rows_of_all (j + 1) xss) ∙ none_before i (j + 1) xss (omega arith)

  first_read : (i : ℕ) (xs : List X) (xss : List (List X)) → read i (rows_of_all i (xs ∷ xss)) ≡ ([], xs)
  first_read i xs xss = list_read i xs (rows_of_all (i + 1) xss) (none_before i (i + 1) xss (omega arith))

  same_lists : (i : ℕ) (xss yss : List (List X)) → length xss ≡ length yss
      → ((j : ℕ) → i ≤ j → read j (rows_of_all i xss) ≡ read j (rows_of_all i yss)) → xss ≡ yss
  same_lists i [] [] long same = refl
  same_lists i [] (ys ∷ yss) long same = let never : ⊥ = omega arith in absurd never
  same_lists i (xs ∷ xss) [] long same = let never : ⊥ = omega arith in absurd never
  same_lists i (xs ∷ xss) (ys ∷ yss) long same =
      let first : xs ≡ ys = ap (λ (g : List K × List X). g.1) (sym (first_read i xs xss) ∙ same i (omega arith) ∙ first_read i ys yss) in
      let past = λ (j : ℕ) (zs : List X) (zss : List (List X)) (less : i < j). list_other j i (other_number j i (inr less)) zs
      (rows_of_all (i + 1) zss) in
      let later = same_lists (i + 1) xss yss (omega arith) (λ j less. sym (past j xs xss (omega arith)) ∙ same j (omega arith)
      ∙ past j ys yss (omega arith)) in
      ap (λ zs. zs ∷ xss) first ∙ ap (λ zss. ys ∷ zss) later

  -- the section of two records with equal lines, of which the view sees that section alone
  same_section : (first : ℕ) (part : RunRecord → List (List X))
      → ((r : RunRecord) → flat_map view (record_lines r) ≡ flat_map view (lines_in_lists lines first 0 (part r)))
      → (a b : RunRecord) → length (part a) ≡ length (part b) → record_lines a ≡ record_lines b → part a ≡ part b
  same_section first part seen a b long e =
      let shown = λ (r : RunRecord). seen r ∙ lists_shown first 0 (part r) in
      same_lists 0 (part a) (part b) long (λ j past. ap (read j) (sym (shown a) ∙ ap (flat_map view) e ∙ shown b))

-- lines that a view does not see
hidden_each : {Y K : Type 0} (view : RecordLine → List Y) (line : K → RecordLine) → ((k : K) → view (line k) ≡ []) → (ks : List K)
    → flat_map view (map line ks) ≡ []
hidden_each view line hides [] = refl
hidden_each view line hides (k ∷ ks) = rw (hides k) (hidden_each view line hides ks)

hidden : {X Y : Type 0} (view : RecordLine → List Y) (lines : ℕ → X → List RecordLine) → ((n : ℕ) (x : X) → flat_map view (lines n x) ≡ [])
    → (n : ℕ) (xs : List X) → flat_map view (numbered lines n xs) ≡ []
hidden view lines hides n [] = refl
hidden view lines hides n (x ∷ xs) =
    flat_map-append view (lines n x) (numbered lines (n + 1) xs) ∙ rw (hides n x) (hidden view lines hides (n + 1) xs)

-- lists of whose items a view sees neither the line nor what stands below it
hidden_lists : {X K Y : Type 0} (view : RecordLine → List Y) (head : ℕ → ℕ → X → RecordLine) (below : ℕ → ℕ → K → RecordLine) (hung : X → List K)
    → ((i n : ℕ) (x : X) → view (head i n x) ≡ []) → ((i n : ℕ) (k : K) → view (below i n k) ≡ [])
    → (first : ℕ) (xss : List (List X)) → flat_map view (lines_in_lists (λ i n x. head i n x ∷ map (below i n) (hung x)) first 0 xss) ≡ []
hidden_lists view head below hung heads belows first xss =
    hidden view (λ i xs. numbered (λ n x. head i n x ∷ map (below i n) (hung x)) first xs)
    (λ i xs. hidden view (λ n x. head i n x ∷ map (below i n) (hung x))
    (λ n x. rw (heads i n x) (hidden_each view (below i n) (belows i n) (hung x))) first xs) 0 xss

no_clock : {Y : Type 0} (view : RecordLine → List Y) → ((n : ℕ) (w : ClockLine) → view (OfClock n w) ≡ [])
    → (ws : List ClockLine) → flat_map view (clock_lines 1 ws) ≡ []
no_clock view hides ws = hidden view (λ n w. OfClock n w ∷ []) (λ n w. rw (hides n w) refl) 1 ws

no_bases : {Y : Type 0} (view : RecordLine → List Y) → ((i n : ℕ) (b : BaseLine) → view (OfBase i n b) ≡ [])
    → (bss : List (List BaseLine)) → flat_map view (base_lines 0 bss) ≡ []
no_bases view heads bss = hidden_lists {K = ⊥} view OfBase (λ i n none. absurd none) (λ b. []) heads (λ i n none. absurd none) 1 bss

no_timers : {Y : Type 0} (view : RecordLine → List Y) → ((i n : ℕ) (t : TimerLine) → view (OfTimer i n t.label t.entry) ≡ [])
    → ((i n : ℕ) (k : Look) → view (OfLook i n k) ≡ []) → (tss : List (List TimerLine)) → flat_map view (timer_lines 0 tss) ≡ []
no_timers view heads looks tss = hidden_lists view (λ i n t. OfTimer i n t.label t.entry) OfLook (λ t. t.looks) heads looks 1 tss

no_objects : {Y : Type 0} (view : RecordLine → List Y) → ((i n : ℕ) (o : ObjectLine) → view (OfObject i n o.label o.entry) ≡ [])
    → ((i n : ℕ) (k : Skip) → view (OfSkip i n k) ≡ []) → (oss : List (List ObjectLine)) → flat_map view (object_lines 0 oss) ≡ []
no_objects view heads skips oss = hidden_lists view (λ i n o. OfObject i n o.label o.entry) OfSkip (λ o. o.skips) heads skips 1 oss

no_lanes : {Y : Type 0} (view : RecordLine → List Y) → ((i n : ℕ) (a : Answer) → view (OfCall i n a) ≡ [])
    → (lanes : List (List Answer)) → flat_map view (lane_lines 0 lanes) ≡ []
no_lanes view heads lanes = hidden_lists {K = ⊥} view OfCall (λ i n none. absurd none) (λ a. []) heads (λ i n none. absurd none) 0 lanes

-- what a view sees of a record, by what it sees of each section
sections_seen : {Y : Type 0} (view : RecordLine → List Y) → view Heading ≡ [] → view End ≡ [] → (r : RunRecord)
    {clock bases timers objects lanes : List Y}
    → flat_map view (clock_lines 1 r.clock) ≡ clock → flat_map view (base_lines 0 r.bases) ≡ bases
    → flat_map view (timer_lines 0 r.timers) ≡ timers
    → flat_map view (object_lines 0 r.objects) ≡ objects → flat_map view (lane_lines 0 r.answers) ≡ lanes
    → flat_map view (record_lines r) ≡ clock ++ (bases ++ (timers ++ (objects ++ lanes)))
sections_seen view heading end r clock bases timers objects lanes =
    rw (
      heading,
      flat_map-append view (clock_lines 1 r.clock) _,
      flat_map-append view (base_lines 0 r.bases) _,
      flat_map-append view (timer_lines 0 r.timers) _,
      flat_map-append view (object_lines 0 r.objects) _,
      flat_map-append view (lane_lines 0 r.answers) _,
      end,
      append-nil (flat_map view (lane_lines 0 r.answers)),
      clock,
      bases,
      timers,
      objects,
      lanes,
    ) refl

-- ---- the views, each of which sees one section

abbrev clock_view : RecordLine → List ClockLine
clock_view (OfClock n w) = w ∷ []
clock_view l = []

-- nothing hangs below a base's entry
abbrev base_view : RecordLine → List (Row BaseLine ⊥)
base_view (OfBase i n b) = Item i (λ none. b) ∷ []
base_view l = []

abbrev timer_view : RecordLine → List (Row TimerLine Look)
timer_view (OfTimer i n label e) = Item i (λ looks. record { label = label; entry = e; looks = looks }) ∷ []
timer_view (OfLook i n k) = Hung i k ∷ []
timer_view l = []

abbrev object_view : RecordLine → List (Row ObjectLine Skip)
object_view (OfObject i n label e) = Item i (λ skips. record { label = label; entry = e; skips = skips }) ∷ []
object_view (OfSkip i n k) = Hung i k ∷ []
object_view l = []

-- nothing hangs below an answer
abbrev lane_view : RecordLine → List (Row Answer ⊥)
lane_view (OfCall i n a) = Item i (λ none. a) ∷ []
lane_view l = []

-- ---- what each sees of a record

clock_read : (n : ℕ) (ws : List ClockLine) → flat_map clock_view (clock_lines n ws) ≡ ws
clock_read n [] = refl
clock_read n (w ∷ ws) = ap (λ r. w ∷ r) (clock_read (n + 1) ws)

clock_seen : (r : RunRecord) → flat_map clock_view (record_lines r) ≡ r.clock
clock_seen r =
    sections_seen clock_view refl refl r (clock_read 1 r.clock) (no_bases clock_view (λ i n b. refl) r.bases)
    (no_timers clock_view (λ i n t. refl) (λ i n k. refl) r.timers)
    (no_objects clock_view (λ i n o. refl) (λ i n k. refl) r.objects) (no_lanes clock_view (λ i n a. refl) r.answers)
    ∙ append-nil r.clock

bases_seen : (r : RunRecord) → flat_map base_view (record_lines r) ≡ flat_map base_view (base_lines 0 r.bases)
bases_seen r =
    sections_seen base_view refl refl r (no_clock base_view (λ n w. refl) r.clock) refl
    (no_timers base_view (λ i n t. refl) (λ i n k. refl) r.timers)
    (no_objects base_view (λ i n o. refl) (λ i n k. refl) r.objects) (no_lanes base_view (λ i n a. refl) r.answers)
    ∙ append-nil _

timers_seen : (r : RunRecord) → flat_map timer_view (record_lines r) ≡ flat_map timer_view (timer_lines 0 r.timers)
timers_seen r =
    sections_seen timer_view refl refl r (no_clock timer_view (λ n w. refl) r.clock) (no_bases timer_view (λ i n b. refl) r.bases) refl
    (no_objects timer_view (λ i n o. refl) (λ i n k. refl) r.objects) (no_lanes timer_view (λ i n a. refl) r.answers)
    ∙ append-nil _

objects_seen : (r : RunRecord) → flat_map object_view (record_lines r) ≡ flat_map object_view (object_lines 0 r.objects)
objects_seen r =
    sections_seen object_view refl refl r (no_clock object_view (λ n w. refl) r.clock) (no_bases object_view (λ i n b. refl) r.bases)
    (no_timers object_view (λ i n t. refl) (λ i n k. refl) r.timers) refl (no_lanes object_view (λ i n a. refl) r.answers)
    ∙ append-nil _

lanes_seen : (r : RunRecord) → flat_map lane_view (record_lines r) ≡ flat_map lane_view (lane_lines 0 r.answers)
lanes_seen r =
    sections_seen lane_view refl refl r (no_clock lane_view (λ n w. refl) r.clock) (no_bases lane_view (λ i n b. refl) r.bases)
    (no_timers lane_view (λ i n t. refl) (λ i n k. refl) r.timers) (no_objects lane_view (λ i n o. refl) (λ i n k. refl) r.objects) refl

-- ---- the sections of two records with equal lines

same_bases : (a b : RunRecord) → length a.bases ≡ length b.bases → record_lines a ≡ record_lines b → a.bases ≡ b.bases
same_bases a b =
    same_section base_view OfBase (λ i n none. absurd none) (λ b none. b) (λ b. []) (λ b. refl) (λ i n b. refl) (λ i n none. absurd none)
    1 (λ r. r.bases) bases_seen a b

same_timers : (a b : RunRecord) → length a.timers ≡ length b.timers → record_lines a ≡ record_lines b → a.timers ≡ b.timers
same_timers a b =
    same_section timer_view (λ i n t. OfTimer i n t.label t.entry) OfLook (λ t looks. record t { looks = looks }) (λ t. t.looks) (λ t. refl)
    (λ i n t. refl) (λ i n k. refl) 1 (λ r. r.timers) timers_seen a b

same_objects : (a b : RunRecord) → length a.objects ≡ length b.objects → record_lines a ≡ record_lines b → a.objects ≡ b.objects
same_objects a b =
    same_section object_view (λ i n o. OfObject i n o.label o.entry) OfSkip (λ o skips. record o { skips = skips }) (λ o. o.skips) (λ o. refl)
    (λ i n o. refl) (λ i n k. refl) 1 (λ r. r.objects) objects_seen a b

same_lanes : (a b : RunRecord) → length a.answers ≡ length b.answers → record_lines a ≡ record_lines b → a.answers ≡ b.answers
same_lanes a b =
    same_section lane_view OfCall (λ i n none. absurd none) (λ a none. a) (λ a. []) (λ a. refl) (λ i n a. refl) (λ i n none. absurd none)
    0 (λ r. r.answers) lanes_seen a b

pub record_from_lines : (a b : RunRecord) → length a.bases ≡ length b.bases → length a.timers ≡ length b.timers
    → length a.objects ≡ length b.objects → length a.answers ≡ length b.answers → a.version ≡ b.version → record_lines a ≡ record_lines b → a ≡ b
record_from_lines a b bases timers objects lanes version e =
    ap (λ x. record a { version = x }) version
    ∙ ap (λ x. record a { version = b.version; clock = x }) (sym (clock_seen a) ∙ ap (flat_map clock_view) e ∙ clock_seen b)
    ∙ ap (λ x. record a { version = b.version; clock = b.clock; bases = x }) (same_bases a b bases e)
    ∙ ap (λ x. record b { timers = x; objects = a.objects; answers = a.answers }) (same_timers a b timers e)
    ∙ ap (λ x. record b { objects = x; answers = a.answers }) (same_objects a b objects e)
    ∙ ap (λ x. record b { answers = x }) (same_lanes a b lanes e)
