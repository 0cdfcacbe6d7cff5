-- A draft keeps its room with one more line that no cause refuses.
use Rattle.std.proofs.Common.{◌≡◌, ℕ, ◌+◌, ◌<◌, true, List, [], ◌∷◌, ◌++◌, length, Option, Some, None, refl, sym, ap, ◌∙◌, ◌≤◌, arith}
use Rattle.std.proofs.lemmas.Bool.{and_parts, ltb-true, leb-true, eqb-true}
use Rattle.std.proofs.lemmas.List.{length-append}
use Rattle.record_text.specs.declared.version.Version.{Version}
use Rattle.record_text.specs.declared.version.Version.TheVariants as versions
use Rattle.script_text.specs.declared.form.Form.{Form}
use Rattle.script_text.specs.declared.form.Form.TheVariants as forms
use Rattle.script_text.specs.declared.form.Line.{Line}
use Rattle.script_text.specs.declared.form.Part.{Part}
use Rattle.script_text.specs.declared.form.Part.TheVariants as parts
use Rattle.script_text.specs.declared.form.Value.{Value}
use Rattle.script_text.specs.declared.form.Value.TheVariants as values
use Rattle.script_text.specs.declared.reading.drafts.Draft.{Draft}
use Rattle.script_text.specs.declared.script.Declaration.{Declaration}
use Rattle.script_text.specs.declared.script.LaneCall.{LaneCall}
use Rattle.script_text.specs.Forms.{row, part}
use Rattle.script_text.specs.Scripts.{most_script_bases, most_lanes, most_timers, most_calls}
use Rattle.script_text.specs.Drafts.{IsWithinLimits, declaration_of, version_numbered, with_header, with_timer, with_round, with_call, with_part, draft_with_line}
use Rattle.script_text.specs.CallLines.{call_of}
use Rattle.script_text.specs.Refusals.{is_placed, check_count, check_number, check_values, check_line}
use Rattle.script_text.proofs.Checks.{neither, holds, accepts}

pub header_number : (f : Form) (n : ℕ) → part f ≡ parts.Header n → n < 4
header_number forms.Version n is = let same : 0 ≡ n = cc in omega (arith, same)
header_number forms.Bases n is = let same : 1 ≡ n = cc in omega (arith, same)
header_number forms.Lanes n is = let same : 2 ≡ n = cc in omega (arith, same)
header_number forms.Limit n is = let same : 3 ≡ n = cc in omega (arith, same)
header_number _ n is = absurd cc

-- no version has lower limits than the first
bases_grow : (version : Version) → most_script_bases versions.One ≤ most_script_bases version
bases_grow versions.One = omega arith
bases_grow versions.Two = omega arith

lanes_grow : (version : Version) → most_lanes versions.One ≤ most_lanes version
lanes_grow versions.One = omega arith
lanes_grow versions.Two = omega arith

timers_grow : (version : Version) → most_timers versions.One ≤ most_timers version
timers_grow versions.One = omega arith
timers_grow versions.Two = omega arith

version_room : (d : Draft) (n : ℕ) → d.headers ≡ 0 → IsWithinLimits d → IsWithinLimits (with_header d forms.Version (values.Number n ∷ []))
unfolding with_header
version_room d n begun room =
    let one : d.version ≡ versions.One = room.first begun in
    let v : Version = version_numbered n in
    record {
      first = λ none. absurd (omega (arith, none));
      headers = omega (arith, begun);
      bases = omega (arith, room.bases, ap most_script_bases one, bases_grow v);
      lanes = omega (arith, room.lanes, ap most_lanes one, lanes_grow v);
      timers = omega (arith, room.timers, ap most_timers one, timers_grow v);
      calls = room.calls;
    }

header_room : (d : Draft) (f : Form) (vs : List Value) → d.headers < 4 → part f ≡ parts.Header d.headers → check_values d 0 (row f) vs ≡ None
    → IsWithinLimits d → IsWithinLimits (with_header d f vs)
unfolding with_header check_values check_number
header_room d forms.Version (values.Number n ∷ []) few is e room = let begun : d.headers ≡ 0 = cc in version_room d n begun room
header_room d forms.Bases (values.Number n ∷ []) few is e room =
    record {
      first = λ none. absurd (omega (arith, none));
      headers = omega (arith, few);
      bases = leb-true n (most_script_bases d.version) (and_parts _ _ (holds _ _ (neither _ _ e).0)).1;
      lanes = room.lanes;
      timers =
          room.timers;
      calls = room.calls;
    }
header_room d forms.Lanes (values.Number n ∷ []) few is e room =
    record {
      first = λ none. absurd (omega (arith, none));
      headers = omega (arith, few);
      bases = room.bases;
      lanes = leb-true n (most_lanes d.version) (and_parts _ _ (holds _ _ (neither _ _ e).0)).1;
      timers =
          room.timers;
      calls = room.calls;
    }
header_room d forms.Limit (values.Number n ∷ []) few is e room = record {
  first = λ none. absurd (omega (arith, none));
  headers = omega (arith, few);
  bases = room.bases;
  lanes = room.lanes;
  timers = room.timers;
  calls = room.calls;
}
header_room d _ _ few is e room = record {
  first = λ none. absurd (omega (arith, none));
  headers = omega (arith, few);
  bases = room.bases;
  lanes = room.lanes;
  timers = room.timers;
  calls = room.calls;
}

timer_room : (d : Draft) (o : Option Declaration) → length d.timers < most_timers d.version → IsWithinLimits d → IsWithinLimits (with_timer d o)
unfolding with_timer
timer_room d None few room = room
timer_room d (Some t) few room =
    let sum : length (d.timers ++ t ∷ []) ≡ length d.timers + 1 = length-append _ _ in
    record { first = room.first; headers = room.headers; bases = room.bases; lanes = room.lanes; timers = omega (arith, sum, few); calls = room.calls }

call_room : (d : Draft) (o : Option LaneCall) → d.calls < most_calls → IsWithinLimits d → IsWithinLimits (with_call d o)
unfolding with_call
call_room d None few room = room
call_room d (Some c) few room =
    record { first = room.first; headers = room.headers; bases = room.bases; lanes = room.lanes; timers = room.timers; calls = omega (arith, few) }

part_room : (d : Draft) (f : Form) (vs : List Value) (p : Part) → part f ≡ p → is_placed d p ≡ true → check_count d p ≡ None
    → check_values d 0 (row f) vs ≡ None → IsWithinLimits d → IsWithinLimits (with_part d p f vs)
unfolding is_placed check_count with_part with_round
part_room d f vs (parts.Header n) is placed count e room =
    let same = eqb-true d.headers n placed in
    header_room d f vs (omega (arith, same, header_number f n is)) (is ∙ ap (λ (n : ℕ). parts.Header n) (sym same)) e room
part_room d f vs parts.Declaration is placed count e room =
    timer_room d (declaration_of f vs) (ltb-true (length d.timers) (most_timers d.version) (holds _ _ count)) room
part_room d f vs parts.Round is placed count e room =
    record { first = room.first; headers = room.headers; bases = room.bases; lanes = room.lanes; timers = room.timers; calls = room.calls }
part_room d f vs parts.Call is placed count e room = call_room d (call_of f vs) (ltb-true d.calls most_calls (holds _ _ count)) room

pub room_kept : (d : Draft) (l : Line) → check_line d l ≡ None → IsWithinLimits d → IsWithinLimits (draft_with_line d l)
unfolding draft_with_line
room_kept d l none room = let a = accepts d l none in part_room d l.form l.values (part l.form) refl a.placed a.count a.values room
