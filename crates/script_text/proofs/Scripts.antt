-- The script that lines are read as, one after the other: its lines are spelled as those that aren't skipped.
use Rattle.std.proofs.Common.{◌≡◌, ℕ, ◌+◌, Bool, true, false, not, List, [], ◌∷◌, ◌++◌, length, map, Option, Some, None, Result, Ok, Err, refl, sym, ap, subst, ◌∙◌, append_assoc, nat_lt, if◌then◌else◌}
use Rattle.std.specs.List.{AllByRecursion, filter}
use Rattle.std.proofs.lemmas.List.{append-nil}
use Rattle.std.proofs.lemmas.Bool.{ltb-false}
use Rattle.script_text.specs.declared.form.Line.{Line}
use Rattle.script_text.specs.declared.reading.drafts.Draft.{Draft}
use Rattle.script_text.specs.declared.refusal.Cause.{Cause}
use Rattle.script_text.specs.declared.refusal.Cause.TheVariants as causes
use Rattle.script_text.specs.declared.refusal.Refused.{Refused}
use Rattle.script_text.specs.declared.script.Script.{Script}
use Rattle.script_text.specs.Forms.{has_form}
use Rattle.script_text.specs.Grammar.{IsLine, spelled}
use Rattle.script_text.specs.Reading.{◌>>=◌, line_in}
use Rattle.script_text.specs.Scripts.{Reads, most_script_bytes, is_skipped, lines_of, script_lines, IsInRange}
use Rattle.script_text.specs.Drafts.{empty, script_of, draft_with_line}
use Rattle.script_text.specs.Refusals.{check_line, unless_refused, with_line_in, continue_after, script_from, script_in}
use Rattle.record_text.proofs.Lists.{All-append}
use Rattle.script_text.proofs.Lines.{line_spells}
use Rattle.script_text.proofs.DraftsRead.{DraftOf, at_start, draft_of_line, draft_of_script}

-- these lines of bytes are spelled by these lines, and what they tell after others is this script
pub record Tells (ls : List Line) (parts : List (List ℕ)) (s : Script) (ms : List Line) : Type 0 where
  pub spelling : filter (λ p. not (is_skipped p)) parts ≡ map spelled ms
  pub lines : AllByRecursion IsLine (ls ++ ms)
  pub all : ls ++ ms ≡ script_lines s
  pub ranges : IsInRange s

-- what one line of bytes tells
record IsRead (d : Draft) (part : List ℕ) (e : Draft) (l : Line) : Type 0 where
  spelling : part ≡ spelled l
  line : IsLine l
  form : has_form d.version l.form ≡ true
  none : check_line d l ≡ None
  told : draft_with_line d l ≡ e

unless_refused_is : (d e x : Draft) (o : Option Cause) → unless_refused o x ≡ Ok e → (o ≡ None) × (x ≡ e)
unless_refused_is d e x None is = (refl, cc)
unless_refused_is d e x (Some cause) is = absurd cc

line_read : (d : Draft) (part : List ℕ) (e : Draft) → with_line_in d part ≡ Ok e → (l : Line) × IsRead d part e l
unfolding with_line_in
line_read d part e is =
    let go : (r : Result Line Cause) → line_in d.version part ≡ r → (r >>= λ l. unless_refused (check_line d l) (draft_with_line d l)) ≡ Ok e
    → (l : Line) × IsRead d part e l =
    λ r. elim r as (λ r. line_in d.version part ≡ r → (r >>= λ l. unless_refused (check_line d l) (draft_with_line d l)) ≡ Ok e
    → (l : Line) × IsRead d part e l) [
      | Ok l ↦ λ read is.
          let spells = line_spells d.version part l read in
          let both = unless_refused_is d e (draft_with_line d l) (check_line d l) is in
          (l, record { spelling = spells.0; line = spells.1; form = spells.2; none = both.0; told = both.1 })
      | Err cause ↦ λ read is. absurd cc
    ] in
    go (line_in d.version part) refl is

behind_is : (number : ℕ) (r : Result Draft Cause) (next : Draft → Result Script Refused) (s : Script) → continue_after number r next ≡ Ok s
    → (e : Draft) × (r ≡ Ok e) × (next e ≡ Ok s)
behind_is number (Ok e) next s is = (e, refl, is)
behind_is number (Err cause) next s is = absurd cc

ends : (number : ℕ) (d : Draft) (ls : List Line) (s : Script) → DraftOf d ls → AllByRecursion IsLine ls → script_from number d [] ≡ Ok s
    → (ms : List Line) × Tells ls [] s ms
unfolding script_from
ends number d ls s told lines is =
    let why : Refused = record { line = number; cause = causes.Unfinished } in
    let go : (b : Bool) → nat_lt d.headers 4 ≡ b → (if b then Err why else Ok (script_of d)) ≡ Ok s → (ms : List Line) × Tells ls [] s ms =
    λ b. elim b as (λ b. nat_lt d.headers 4 ≡ b → (if b then Err why else Ok (script_of d)) ≡ Ok s → (ms : List Line) × Tells ls [] s ms) [
      | true ↦ λ early is. absurd cc
      | false ↦ λ done is.
          let all = draft_of_script d ls told done in
          let same : script_of d ≡ s = cc in (
            [],
            record {
              spelling = refl;
              lines = subst (λ ls. AllByRecursion IsLine ls) (sym (append-nil ls)) lines;
              all = append-nil ls ∙ all.0 ∙ ap script_lines same;
              ranges = subst (λ s. IsInRange s) same all.1;
            },
          )
    ] in
    go (nat_lt d.headers 4) refl is

-- the parts that aren't skipped
abbrev pub kept : List (List ℕ) → List (List ℕ)
kept parts = filter (λ p. not (is_skipped p)) parts

pub kept_skipped : (part : List ℕ) (parts : List (List ℕ)) → is_skipped part ≡ true → kept (part ∷ parts) ≡ kept parts
kept_skipped part parts skipped = rw skipped refl

pub kept_more : (part : List ℕ) (parts : List (List ℕ)) → is_skipped part ≡ false → kept (part ∷ parts) ≡ part ∷ kept parts
kept_more part parts read = rw read refl

goes_on : (d e : Draft) (part : List ℕ) (parts : List (List ℕ)) (ls : List Line) (l : Line) (s : Script) (ms : List Line) → is_skipped part ≡ false
    → IsRead d part e l → Tells (ls ++ l ∷ []) parts s ms → Tells ls (part ∷ parts) s (l ∷ ms)
goes_on d e part parts ls l s ms here read rest = record {
  spelling = kept_more part parts here ∙ ap (λ (p : List ℕ). p ∷ kept parts) read.spelling
      ∙ ap (λ (ps : List (List ℕ)). spelled l ∷ ps) rest.spelling;
  lines = subst (λ all. AllByRecursion IsLine all) (append_assoc ls (l ∷ []) ms) rest.lines;
  all = sym (append_assoc ls (l ∷ []) ms) ∙ rest.all;
  ranges = rest.ranges;
}

pub tells : (number : ℕ) (d : Draft) (parts : List (List ℕ)) (ls : List Line) (s : Script) → DraftOf d ls → AllByRecursion IsLine ls
    → script_from number d parts ≡ Ok s → (ms : List Line) × Tells ls parts s ms
unfolding script_from
tells number d [] ls s told lines is = ends number d ls s told lines is
tells number d (part ∷ parts) ls s told lines is =
    let rest : Result Script Refused = script_from (number + 1) d parts in
    let read : Result Script Refused = continue_after number (with_line_in d part) (λ now. script_from (number + 1) now parts) in
    let go : (b : Bool) → is_skipped part ≡ b → (if b then rest else read) ≡ Ok s → (ms : List Line) × Tells ls (part ∷ parts) s ms =
    λ b. elim b as (λ b. is_skipped part ≡ b → (if b then rest else read) ≡ Ok s → (ms : List Line) × Tells ls (part ∷ parts) s ms) [
      | true ↦ λ skipped is.
          let more = tells (number + 1) d parts ls s told lines is in (
            more.0,
            record {
              spelling = kept_skipped part parts skipped ∙ more.1.spelling;
              lines = more.1.lines;
              all = more.1.all;
              ranges =
                  more.1.ranges;
            },
          )
      | false ↦ λ here is.
          let now = behind_is number (with_line_in d part) _ s is in
          let l = line_read d part now.0 now.1 in
          let told : DraftOf now.0 (ls ++ l.0 ∷ []) =
          subst (λ e. DraftOf e (ls ++ l.0 ∷ [])) l.1.told (draft_of_line d ls l.0 told l.1.form l.1.line l.1.none) in
          let more = tells (number + 1) now.0 parts (ls ++ l.0 ∷ []) s told (All-append IsLine ls (l.0 ∷ []) lines (l.1.line, tt)) now.2 in
          (l.0 ∷ more.0, goes_on d now.0 part parts ls l.0 s more.0 here l.1 more.1)
    ] in
    go (is_skipped part) refl is

-- what is given as the script of bytes is what they are read as
pub read_from : (bytes : List ℕ) (s : Script) → script_in bytes ≡ Ok s → Reads bytes s
unfolding script_in
read_from bytes s is =
    let why : Refused = record { line = 0; cause = causes.TooLong } in
    let go : (b : Bool) → nat_lt most_script_bytes (length bytes) ≡ b → (if b then Err why else script_from 1 empty (lines_of bytes)) ≡ Ok s
    → Reads bytes s =
    λ b. elim b as (λ b. nat_lt most_script_bytes (length bytes) ≡ b → (if b then Err why else script_from 1 empty (lines_of bytes)) ≡ Ok s
    → Reads bytes s) [
      | true ↦ λ long is. absurd cc
      | false ↦ λ few is.
          let all = tells 1 empty (lines_of bytes) [] s at_start tt is in
          record {
            few = ltb-false most_script_bytes (length bytes) few;
            spelling = all.1.spelling ∙ ap (λ (ls : List Line). map spelled ls) all.1.all;
            lines = subst (λ ls. AllByRecursion IsLine ls) all.1.all all.1.lines;
            ranges = all.1.ranges;
          }
    ] in
    go (nat_lt most_script_bytes (length bytes)) refl is
