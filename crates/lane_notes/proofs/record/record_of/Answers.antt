use Rattle.std.proofs.Common.{◌≡◌, map, ap, ◌∙◌}
use Rattle.lane_notes.specs.Notes.{NotesOf}
use Rattle.lane_notes.specs.Records.{each_below, noted_base_lines, noted_object_lines, noted_timer_lines}
use Rattle.lane_notes.specs.declared.notes.WriteNote.{WriteNote}
use Rattle.lane_notes.proofs.Lists.{same_record}
use Rattle.lane_notes.proofs.record.record_of.Goals as goal

pub returns : goal.returns
returns c =
    let sorted = c.sorted-notes.result in
    let writes : c.deref.result.now ≡ sorted.writes = c.deref.ensures.value ∙ ap (λ (n : NotesOf). n.writes) c.notes.view_is in
    let bases : c.deref-2.result.now ≡ sorted.bases = c.deref-2.ensures.value ∙ ap (λ (n : NotesOf). n.bases) c.notes.view_is in
    let entries : c.deref-3.result.now ≡ sorted.entries = c.deref-3.ensures.value ∙ ap (λ (n : NotesOf). n.entries) c.notes.view_is in
    let looks : c.deref-4.result.now ≡ sorted.looks = c.deref-4.ensures.value ∙ ap (λ (n : NotesOf). n.looks) c.notes.view_is in
    let objects : c.deref-5.result.now ≡ sorted.objects = c.deref-5.ensures.value ∙ ap (λ (n : NotesOf). n.objects) c.notes.view_is in
    let skips : c.deref-6.result.now ≡ sorted.skips = c.deref-6.ensures.value ∙ ap (λ (n : NotesOf). n.skips) c.notes.view_is in (
      sorted,
      c.sorted-notes.ensures,
      same_record c.args.version
          (c.in_ok-items_of.ensures ∙ ap (map (λ (n : WriteNote). n.line)) writes)
          (c.in_ok-items_of_lists.ensures ∙ ap (λ ns. each_below (λ b. noted_base_lines b ns) c.args.bases) bases)
          (c.in_ok-lines_of_lists.ensures ∙ ap (λ ns. each_below (λ t. noted_timer_lines t ns c.deref-4.result.now) c.args.timers) entries
          ∙ ap (λ us. each_below (λ t. noted_timer_lines t sorted.entries us) c.args.timers) looks)
          (c.in_ok-lines_of_lists-2.ensures ∙ ap (λ ns. each_below (λ i. noted_object_lines i ns c.deref-6.result.now) c.args.timers) objects
          ∙ ap (λ us. each_below (λ i. noted_object_lines i sorted.objects us) c.args.timers) skips)
          c.from_vec.ensures,
    )
