-- What the command line `gen` with pairs of an option and its number asks for.
use Rattle.std.proofs.Common.{◌≡◌, ℕ, ◌≤◌, ◌<◌, ◌^◌, Bool, true, false, List, [], ◌∷◌, ◌++◌, length, map, Option, Some, None, is_some, refl, sym, ap, subst, ◌∙◌, if◌then◌else◌, ◌==◌, inl, inr, arith, codes, ap₂}
use Rattle.std.specs.List.{AllByRecursion, fold, find, slice_get}
use Rattle.std.specs.Str.{bytes_eq}
use Rattle.std.specs.Fmt.{decimal}
use Rattle.std.specs.Option.{option_and_then, option_map_or}
use Rattle.clap.specs.Walk.{Held, Step, Walk, option, idle, walk_from, walked, word_met, after_step, plain_word, settled, nothing_held, long_or_other, short_or_plain, trailing, rows_after, finished, at_row, has_row, with_values, without, more_values, with_default, default_rows, reading_by}
use Rattle.clap.specs.Faults.{walk_fault, turn_fault, settle_fault, step_fault, flag_word_fault, bundle_fault, level_fault, entered_fault, defaults_fault, check_fault}
use Rattle.clap.specs.Kinds.{or_else}
use Rattle.clap.specs.Lexer.{long_of, short_of}
use Rattle.clap.specs.Simple.{Shape, built, entered, names_of}
use Rattle.clap.specs.Words.{App, Kinds, Row, Rule, Text, fault_of, first_of, new_app, subcommand_of}
use Rattle.clap.proofs.OnLiterals.{clap_on_literals}
use Rattle.clap.proofs.WalkLemmas.{walk_stopped}
use Rattle.std.specs.Str.Parse.{AllDigits}
use Rattle.std.proofs.lemmas.Bool.{ne_eqb, or_from, or_parts}
use Rattle.std.proofs.lemmas.List.Folds.{list_any-append}
use Rattle.clap.specs.declared.builder.value_parser.Reading.TheVariants.{AsWritten}
use Rattle.clap.specs.declared.parser.matches.ValueSource.TheVariants.{CommandLine}
use Rattle.std.proofs.lemmas.Fmt.{decimal_is_IsNumeral, decimal_nonempty}
use Rattle.std.proofs.lemmas.Str.Parse.{digit_from_value}
use Rattle.script_text.proofs.Numbers.{number_again}
use Rattle.hrt_top.proofs.Asking.{not_given, within}
use Rattle.clap.proofs.FaultLemmas.{stopped_fault}
use Rattle.hrt_top.specs.declared.command.Request.{Request}
use Rattle.hrt_top.specs.declared.command.Request.TheVariants.{Run, Make}
use Rattle.hrt_top.specs.Command.{Calls, InAnyOrder, Lacks, Lanes, OptionName, Seed, asked_by_texts, asked_of, make_of, name_text, option_number, option_words, program}

-- ---- the subcommand `gen`

-- the subcommand as it is built
abbrev pub make_shape : Shape
make_shape = option_map_or (λ s. s) (find (λ s. bytes_eq s.name (codes "gen")) (built program).subs) (new_app []).top

-- the words before a value and after it
abbrev between : Held → Walk
between h = record { held = h; waiting = idle; position = 1; is_trailing = false; stopped = None }

abbrev before_value : OptionName → Held → Walk
before_value n h = record { held = h; waiting = option (name_text n); position = 1; is_trailing = false; stopped = None }

-- what is held after the word that names an option, and after its value
abbrev named : OptionName → Held → Held
named n h = record (settled make_shape.rules h) { pending = Some (name_text n, []) }

abbrev given : OptionName → Text → Held → Held
given n v h = record (settled make_shape.rules h) { pending = Some (name_text n, v ∷ []) }

name_walked : (n : OptionName) (h : Held) → walked make_shape.rules [] (between h) (codes "--" ++ name_text n) ≡ before_value n (named n h)
unfolding clap_on_literals
name_walked Seed h = refl
name_walked Lanes h = refl
name_walked Calls h = refl

or_nothing : (ks : Kinds) → or_else ks [] ≡ ks
or_nothing [] = refl
or_nothing (k ∷ ks) = refl

name_fault : (n : OptionName) (h : Held) → turn_fault make_shape [] (between h) (codes "--" ++ name_text n) ≡ settle_fault make_shape.rules false h
unfolding clap_on_literals
name_fault Seed h = or_nothing (settle_fault make_shape.rules false h)
name_fault Lanes h = or_nothing (settle_fault make_shape.rules false h)
name_fault Calls h = or_nothing (settle_fault make_shape.rules false h)

-- a word that is no option
pub record IsPlainWord (v : Text) : Type 0 where
  pub other : bytes_eq v (45 ∷ 45 ∷ []) ≡ false
  pub long : long_of v ≡ None
  pub short : short_of v ≡ None

value_met : (n : OptionName) (h : Held) (v : Text) → IsPlainWord v
    → word_met make_shape.rules [] false (option (name_text n)) 1 v h ≡ plain_word make_shape.rules (option (name_text n)) v h
value_met n h v plain =
    let c = make_shape.rules in
    let w = option (name_text n) in
    ap (λ (b : Bool). if b then (h, trailing 1) else long_or_other c w v (long_of v) h) plain.other
    ∙ ap (λ o. long_or_other c w v o h) plain.long ∙ ap (λ o. short_or_plain c w v o h) plain.short

given_value : (n : OptionName) (h : Held) (v : Text) → (let m = plain_word make_shape.rules (option (name_text n)) v (named n h) in
    after_step make_shape.rules v (before_value n (named n h)) m.0 m.1) ≡ between (given n v h)
given_value Seed h v = refl
given_value Lanes h v = refl
given_value Calls h v = refl

value_walked : (n : OptionName) (h : Held) (v : Text) → IsPlainWord v → walked make_shape.rules [] (before_value n (named n h)) v ≡ between (given n v h)
unfolding walked
value_walked n h v plain =
    ap (λ (m : Held × Step). after_step make_shape.rules v (before_value n (named n h)) m.0 m.1) (value_met n (named n h) v plain) ∙ given_value n h v

value_fault : (n : OptionName) (h : Held) (v : Text) → IsPlainWord v → turn_fault make_shape [] (before_value n h) v ≡ []
value_fault n h v plain =
    let c = make_shape.rules in
    ap₂ or_else (ap (λ (b : Bool). if b then [] else flag_word_fault c false (long_of v) v h) plain.other ∙ ap (λ o. flag_word_fault c false o v h) plain.long
    ∙ ap (λ o. option_map_or (λ flags. bundle_fault c false flags h) o []) plain.short)
    (ap (λ (m : Held × Step). step_fault make_shape 1 m.0 m.1) (value_met n h v plain))

-- ---- pairs of an option and its value

abbrev pub pair_words : List (OptionName × Text) → List Text
pair_words [] = []
pair_words (p ∷ ps) = (codes "--" ++ name_text p.0) ∷ p.1 ∷ pair_words ps

-- each value is a plain word
abbrev pub ArePlain : List (OptionName × Text) → Type 0
ArePlain [] = Unit
ArePlain (p ∷ ps) = IsPlainWord p.1 × ArePlain ps

abbrev after : Held → List (OptionName × Text) → Held
after h [] = h
after h (p ∷ ps) = after (given p.0 p.1 h) ps

abbrev faults : Held → List (OptionName × Text) → Kinds
faults h [] = []
faults h (p ∷ ps) = or_else (settle_fault make_shape.rules false h) (faults (given p.0 p.1 h) ps)

pairs_walked : (h : Held) (ps : List (OptionName × Text)) → ArePlain ps → fold (walked make_shape.rules []) (between h) (pair_words ps) ≡ between (after h ps)
pairs_walked h [] plain = refl
pairs_walked h (p ∷ ps) plain =
    let c = make_shape.rules in
    let name = codes "--" ++ name_text p.0 in
    ap (λ (w : Walk). fold (walked c []) (walked c [] w p.1) (pair_words ps)) (name_walked p.0 h)
    ∙ ap (λ (w : Walk). fold (walked c []) w (pair_words ps)) (value_walked p.0 h p.1 plain.0) ∙ pairs_walked (given p.0 p.1 h) ps plain.1

pairs_fault : (h : Held) (ps : List (OptionName × Text)) → ArePlain ps → walk_fault make_shape [] (between h) (pair_words ps) ≡ faults h ps
unfolding walk_fault
pairs_fault h [] plain = refl
pairs_fault h (p ∷ ps) plain =
    let c = make_shape.rules in
    ap₂ or_else (name_fault p.0 h)
    (ap (λ (w : Walk). or_else (turn_fault make_shape [] w p.1) (walk_fault make_shape [] (walked c [] w p.1) (pair_words ps))) (name_walked p.0 h)
    ∙ ap₂ or_else (value_fault p.0 (named p.0 h) p.1 plain.0)
    (ap (λ (w : Walk). walk_fault make_shape [] w (pair_words ps)) (value_walked p.0 h p.1 plain.0) ∙ pairs_fault (given p.0 p.1 h) ps plain.1))

-- ---- the whole command line

abbrev hrt : App
hrt = built program

-- the walk of the program's own words ends at the subcommand
stopped : (rest : List Text) → fold (walked hrt.top.rules (names_of hrt)) (walk_from nothing_held) (codes "gen" ∷ rest)
    ≡ record (walk_from nothing_held) { stopped = Some (codes "gen", rest) }
unfolding clap_on_literals
stopped rest = sym (walk_stopped hrt.top.rules (names_of hrt) (walk_from nothing_held) (codes "gen") [] rest)

pub gen_rows : (name : Text) (rest : List Text) → subcommand_of program (name ∷ codes "gen" ∷ rest) ≡ Some (codes "gen", rows_after make_shape.rules [] rest)
unfolding clap_on_literals
gen_rows name rest = ap (λ (w : Walk). entered hrt w.stopped) (stopped rest)

-- what a level of the program's own words comes to, by its walk's faults and its end
abbrev top_level : Kinds → Walk → Kinds
top_level ks w =
    or_else ks (or_else (entered_fault hrt w.stopped) (or_else (settle_fault hrt.top.rules hrt.top.args_override_self w.held)
    (or_else (defaults_fault (settled hrt.top.rules w.held).rows hrt.top.rules)
    (check_fault hrt.top (finished hrt.top.rules w.held) (is_some (entered hrt w.stopped))))))

gen_fault : (name : Text) (rest : List Text) → fault_of program (name ∷ codes "gen" ∷ rest) ≡ level_fault make_shape [] nothing_held rest false []
unfolding clap_on_literals
gen_fault name rest =
    ap₂ top_level (stopped_fault hrt.top (names_of hrt) (walk_from nothing_held) (codes "gen", []) rest) (stopped rest)
    ∙ or_nothing (level_fault make_shape [] nothing_held rest false [])

-- the rows of pairs, and their faults
abbrev rows : List (OptionName × Text) → List Row
rows ps = finished make_shape.rules (after nothing_held ps)

abbrev make_level : Kinds → Walk → Kinds
make_level ks w =
    or_else ks (or_else [] (or_else (settle_fault make_shape.rules make_shape.args_override_self w.held)
    (or_else (defaults_fault (settled make_shape.rules w.held).rows make_shape.rules) (check_fault make_shape (finished make_shape.rules w.held) false))))

abbrev pair_faults : List (OptionName × Text) → Kinds
pair_faults ps = make_level (faults nothing_held ps) (between (after nothing_held ps))

module _ (name : Text) (ps : List (OptionName × Text)) (plain : ArePlain ps) where
  words : List Text
  words = name ∷ codes "gen" ∷ pair_words ps

  found : subcommand_of program (name ∷ codes "gen" ∷ pair_words ps) ≡ Some (codes "gen", rows ps)
  found = gen_rows name (pair_words ps)
      ∙ ap (λ (w : Walk). Some (codes "gen", finished make_shape.rules w.held)) (pairs_walked nothing_held ps plain)

  fault : fault_of program (name ∷ codes "gen" ∷ pair_words ps) ≡ pair_faults ps
  fault = gen_fault name (pair_words ps) ∙ ap₂ make_level (pairs_fault nothing_held ps plain) (pairs_walked nothing_held ps plain)

  asks : asked_by_texts (name ∷ codes "gen" ∷ pair_words ps) ≡ (if length (pair_faults ps) == 0 then make_of (rows ps) else None)
  asks = ap (λ (ks : Kinds). if length ks == 0 then asked_of (subcommand_of program (name ∷ codes "gen" ∷ pair_words ps)) else None) fault
      ∙ ap (λ o. if length (pair_faults ps) == 0 then asked_of o else None) found

-- ---- numbers

plain_digits : (ds : List ℕ) → AllDigits 10 ds → 0 < length ds → IsPlainWord ds
plain_digits [] all some = absurd (omega (arith, some))
plain_digits (d ∷ ds) all some =
    let digit = digit_from_value d all.0 in
    let other : (d == 45) ≡ false = ne_eqb d 45 (λ is. omega (arith, is, digit.0)) in
    record { other = rw other refl; long = rw other refl; short = rw other refl }

plain_number : (n : ℕ) → n < 2 ^ 64 → IsPlainWord (decimal n)
plain_number n small = plain_digits (decimal n) (decimal_is_IsNumeral n small).0.1 (decimal_nonempty n small)

module _ (s w n : ℕ) (s_small : s ≤ 2147483647) (w_some : 1 ≤ w) (w_few : w ≤ 8) (n_few : n ≤ 4096) where
  made : (rs : List Row) → Some (decimal s) ≡ first_of (codes "seed") rs → Some (decimal w) ≡ first_of (codes "lanes") rs
      → Some (decimal n) ≡ first_of (codes "calls") rs → make_of rs ≡ Some (Make s w n)
  made rs seed lanes calls =
      let one = within (codes "seed") 0 2147483647 rs (decimal s) s seed (sym (number_again s (omega (arith, s_small)))) (omega arith) s_small in
      let two = within (codes "lanes") 1 8 rs (decimal w) w lanes (sym (number_again w (omega (arith, w_few)))) w_some w_few in
      let three = within (codes "calls") 0 4096 rs (decimal n) n calls (sym (number_again n (omega (arith, n_few)))) (omega arith) n_few in
      let lanes_of = option_number (codes "lanes") 1 8 rs in
      let calls_of = option_number (codes "calls") 0 4096 rs in
      ap (λ (o : Option ℕ). option_and_then (λ x. option_and_then (λ y. option_and_then (λ z. Some (Make x y z)) calls_of) lanes_of) o) (sym one)
      ∙ ap (λ (o : Option ℕ). option_and_then (λ y. option_and_then (λ z. Some (Make s y z)) calls_of) o) (sym two)
      ∙ ap (λ (o : Option ℕ). option_and_then (λ z. Some (Make s w z)) o) (sym three)

  asks_make : (name : Text) (ps : List (OptionName × Text)) → ArePlain ps → pair_faults ps ≡ [] → Some (decimal s) ≡ first_of (codes "seed") (rows ps)
      → Some (decimal w) ≡ first_of (codes "lanes") (rows ps) → Some (decimal n) ≡ first_of (codes "calls") (rows ps)
      → asked_by_texts (name ∷ codes "gen" ∷ pair_words ps) ≡ Some (Make s w n)
  asks_make name ps plain none seed lanes calls =
      asks name ps plain ∙ ap (λ (ks : Kinds). if length ks == 0 then make_of (rows ps) else None) none ∙ made (rows ps) seed lanes calls

  -- law: the three options in any order ask for the script
  pub in_order : (name : Text) (ps : List (OptionName × ℕ)) → InAnyOrder (Seed, s) (Lanes, w) (Calls, n) ps
      → asked_by_texts (name ∷ codes "gen" ∷ option_words ps) ≡ Some (Make s w n)
  unfolding clap_on_literals
  in_order name ps order =
      let a : OptionName × Text = (Seed, decimal s) in
      let b : OptionName × Text = (Lanes, decimal w) in
      let c : OptionName × Text = (Calls, decimal n) in
      let pa = plain_number s (omega (arith, s_small)) in
      let pb = plain_number w (omega (arith, w_few)) in
      let pc = plain_number n (omega (arith, n_few)) in
      let from = λ (qs : List (OptionName × ℕ)) (is : ps ≡ qs) (asked : asked_by_texts (name ∷ codes "gen" ∷ option_words qs) ≡ Some (Make s w n)).
      subst (λ xs. asked_by_texts (name ∷ codes "gen" ∷ option_words xs) ≡ Some (Make s w n)) (sym is) asked in
      let x : OptionName × ℕ = (Seed, s) in
      let y : OptionName × ℕ = (Lanes, w) in
      let z : OptionName × ℕ = (Calls, n) in
      elim order [
        | inl is ↦ from (x ∷ y ∷ z ∷ []) is (asks_make name (a ∷ b ∷ c ∷ []) (pa, (pb, (pc, tt))) refl refl refl refl)
        | inr (inl is) ↦ from (x ∷ z ∷ y ∷ []) is (asks_make name (a ∷ c ∷ b ∷ []) (pa, (pc, (pb, tt))) refl refl refl refl)
        | inr (inr (inl is)) ↦ from (y ∷ x ∷ z ∷ []) is (asks_make name (b ∷ a ∷ c ∷ []) (pb, (pa, (pc, tt))) refl refl refl refl)
        | inr (inr (inr (inl is))) ↦ from (y ∷ z ∷ x ∷ []) is (asks_make name (b ∷ c ∷ a ∷ []) (pb, (pc, (pa, tt))) refl refl refl refl)
        | inr (inr (inr (inr (inl is)))) ↦ from (z ∷ x ∷ y ∷ []) is (asks_make name (c ∷ a ∷ b ∷ []) (pc, (pa, (pb, tt))) refl refl refl refl)
        | inr (inr (inr (inr (inr is)))) ↦ from (z ∷ y ∷ x ∷ []) is (asks_make name (c ∷ b ∷ a ∷ []) (pc, (pb, (pa, tt))) refl refl refl refl)
      ]

-- ---- an option that is not given

-- a row of another id changes nothing for this one
no_more_rows : (id other : Text) (change : Row → List Row) (missing rs : List Row) → bytes_eq other id ≡ false → has_row id missing ≡ false
    → ((r : Row) → bytes_eq r.id id ≡ false → has_row id (change r) ≡ false) → has_row id rs ≡ false → has_row id (at_row other change missing rs) ≡ false
no_more_rows id other change missing [] apart none each h = none
no_more_rows id other change missing (r ∷ rs) apart none each h =
    let both = or_parts (bytes_eq r.id id) (has_row id rs) h in
    let rest = no_more_rows id other change missing rs apart none each both.1 in
    elim (bytes_eq r.id other) as (λ b. has_row id (if b then change r ++ rs else r ∷ at_row other change missing rs) ≡ false) [
      | true ↦ list_any-append (λ (x : Row). bytes_eq x.id id) (change r) rs ∙ or_from (has_row id (change r)) (has_row id rs) (each r both.0) both.1
      | false ↦ or_from (bytes_eq r.id id) (has_row id (at_row other change missing rs)) both.0 rest
    ]

first_of_none : (id : Text) (rs : List Row) → has_row id rs ≡ false → None ≡ first_of id rs
first_of_none id [] h = refl
first_of_none id (r ∷ rs) h =
    let both = or_parts (bytes_eq r.id id) (has_row id rs) h in
    first_of_none id rs both.1
    ∙ ap (λ (b : Bool). option_and_then (λ (x : Row). slice_get x.values 0) (if b then Some r else find (λ x. bytes_eq x.id id) rs)) (sym both.0)

kept_apart : (n m : OptionName) → (n ≡ m → ⊥) → bytes_eq (name_text m) (name_text n) ≡ false
kept_apart Seed Seed other = absurd (other refl)
kept_apart Lanes Lanes other = absurd (other refl)
kept_apart Calls Calls other = absurd (other refl)
kept_apart Seed Lanes other = refl
kept_apart Seed Calls other = refl
kept_apart Lanes Seed other = refl
kept_apart Lanes Calls other = refl
kept_apart Calls Seed other = refl
kept_apart Calls Lanes other = refl

-- the rows that are held once what waits is used
abbrev settled_rows_of : Held → List Row
settled_rows_of h = (settled make_shape.rules h).rows

settled_more : (n : OptionName) (v : Text) (h : Held)
    → settled_rows_of (given n v h) ≡ with_values (name_text n) AsWritten CommandLine (v ∷ []) (without (name_text n) (settled_rows_of h))
settled_more Seed v h = refl
settled_more Lanes v h = refl
settled_more Calls v h = refl

-- the pairs of an option and its number's word
abbrev with_text : OptionName × ℕ → OptionName × Text
with_text p = (p.0, decimal p.1)

same_words : (ps : List (OptionName × ℕ)) → option_words ps ≡ pair_words (map with_text ps)
same_words [] = refl
same_words (p ∷ ps) = ap (λ (ws : List Text). (codes "--" ++ name_text p.0) ∷ decimal p.1 ∷ ws) (same_words ps)

plain_numbers : (ps : List (OptionName × ℕ)) → AllByRecursion (λ p. p.1 < 2 ^ 64) ps → ArePlain (map with_text ps)
plain_numbers [] h = tt
plain_numbers (p ∷ ps) h = (plain_number p.1 h.0, plain_numbers ps h.1)

module _ (n : OptionName) where
  row_apart : (m : OptionName) (v : Text) (rs : List Row) → (n ≡ m → ⊥) → has_row (name_text n) rs ≡ false
      → has_row (name_text n) (with_values (name_text m) AsWritten CommandLine (v ∷ []) (without (name_text m) rs)) ≡ false
  row_apart m v rs other h =
      let apart = kept_apart n m other in
      let fewer = no_more_rows (name_text n) (name_text m) (λ r. []) [] rs apart refl (λ r no. refl) h in
      no_more_rows (name_text n) (name_text m) (more_values CommandLine (v ∷ [])) _ (without (name_text m) rs)
      apart (or_from (bytes_eq (name_text m) (name_text n)) false apart refl)
      (λ r no. or_from (bytes_eq r.id (name_text n)) false no refl) fewer

  no_row : (ps : List (OptionName × ℕ)) (h : Held) → Lacks n ps → has_row (name_text n) (settled_rows_of h) ≡ false
      → has_row (name_text n) (settled_rows_of (after h (map with_text ps))) ≡ false
  no_row [] h lacks none = none
  no_row (p ∷ ps) h lacks none =
      no_row ps (given p.0 (decimal p.1) h) lacks.1
      (ap (has_row (name_text n)) (settled_more p.0 (decimal p.1) h) ∙ row_apart p.0 (decimal p.1) (settled_rows_of h) lacks.0 none)

-- no option has a default
if_same : {X : Type 0} (b : Bool) (x : X) → (if b then x else x) ≡ x
if_same true x = refl
if_same false x = refl

no_default : (rules : List Rule) (rs : List Row) → AllByRecursion (λ a. a.defaults ≡ []) rules → fold with_default rs rules ≡ rs
no_default [] rs h = refl
no_default (a ∷ rules) rs h =
    ap (λ (xs : List Row). fold with_default xs rules)
    (ap (λ (ds : List Text). if has_row a.id rs then rs else default_rows a.id (reading_by a) ds rs) h.0 ∙ if_same (has_row a.id rs) rs)
    ∙ no_default rules rs h.1

no_defaults : (h : Held) → finished make_shape.rules h ≡ settled_rows_of h
no_defaults h = no_default make_shape.rules (settled_rows_of h) (refl, (refl, (refl, (refl, tt))))

abbrev nothing : ℕ → Option Request
nothing n = None

none_after : (o : Option ℕ) → option_and_then nothing o ≡ None
none_after None = refl
none_after (Some n) = refl

none_after_two : (o p : Option ℕ) → option_and_then (λ n. option_and_then nothing p) o ≡ None
none_after_two None p = refl
none_after_two (Some n) p = none_after p

make_of_none : (n : OptionName) (rs : List Row) → None ≡ first_of (name_text n) rs → make_of rs ≡ None
make_of_none Seed rs none =
    ap (λ (o : Option ℕ). option_and_then (λ s. option_and_then (λ w. option_and_then (λ n. Some (Make s w n)) (option_number (codes "calls") 0 4096 rs))
    (option_number (codes "lanes") 1 8 rs)) o) (sym (not_given (codes "seed") 0 2147483647 rs none))
make_of_none Lanes rs none =
    let seed = option_number (codes "seed") 0 2147483647 rs in
    ap (λ (o : Option ℕ). option_and_then (λ s. option_and_then (λ w. option_and_then (λ n. Some (Make s w n)) (option_number (codes "calls") 0 4096 rs)) o) seed)
    (sym (not_given (codes "lanes") 1 8 rs none)) ∙ none_after seed
make_of_none Calls rs none =
    let seed = option_number (codes "seed") 0 2147483647 rs in
    let lanes = option_number (codes "lanes") 1 8 rs in
    ap (λ (o : Option ℕ). option_and_then (λ s. option_and_then (λ w. option_and_then (λ n. Some (Make s w n)) o) lanes) seed)
    (sym (not_given (codes "calls") 0 4096 rs none)) ∙ none_after_two seed lanes

-- law: pairs without one of the three options ask for nothing
pub lacking : (name : Text) (n : OptionName) (ps : List (OptionName × ℕ)) → AllByRecursion (λ p. p.1 < 2 ^ 64) ps → Lacks n ps
    → asked_by_texts (name ∷ codes "gen" ∷ option_words ps) ≡ None
lacking name n ps small lacks =
    let qs = map with_text ps in
    let none = first_of_none (name_text n) (rows qs)
    (ap (has_row (name_text n)) (no_defaults (after nothing_held qs)) ∙ no_row n ps nothing_held lacks refl) in
    ap (λ (ws : List Text). asked_by_texts (name ∷ codes "gen" ∷ ws)) (same_words ps) ∙ asks name qs (plain_numbers ps small)
    ∙ ap (λ o. if length (pair_faults qs) == 0 then o else None) (make_of_none n (rows qs) none) ∙ if_same (length (pair_faults qs) == 0) None

pub run_is_run : (name : Text) → asked_by_texts (name ∷ codes "run" ∷ []) ≡ Some Run
unfolding clap_on_literals
run_is_run name = refl

pub no_words : asked_by_texts [] ≡ None
unfolding clap_on_literals
no_words = refl

pub no_word : (name : Text) → asked_by_texts (name ∷ []) ≡ None
unfolding clap_on_literals
no_word name = refl

pub no_help : (name : Text) → (asked_by_texts (name ∷ codes "--help" ∷ []) ≡ None) × (asked_by_texts (name ∷ codes "help" ∷ []) ≡ None)
unfolding clap_on_literals
no_help name = (refl, refl)
