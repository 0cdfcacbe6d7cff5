use Rattle.std.proofs.Common.{◌++◌, ◌∙◌, ℕ, List, ap, sym, append_assoc, append-nil, string_bytes, codes}
use Rattle.std.specs.List.{flat_map}
use Rattle.std.specs.BTreeMap.{BTreeMap}
use Rattle.trace_read.specs.declared.tally.Latest.{Latest}
use Rattle.trace_top.specs.Texts.{row_text, rows_of, with_events}
use Rattle.trace_top.proofs.summary.table.Goals as goal

abbrev rows : List (ℕ × Latest) → List ℕ
rows entries = flat_map (λ row. rows_of row.0 row.1) entries

pub loop-processor-preserved : goal.loop-processor-preserved
loop-processor-preserved c =
    let text = string_bytes c.loop-processor.text in
    ap (λ t. t ++ rows c.next.new.self) c.in_ok-latest_rows.ensures ∙ append_assoc text (rows_of c.in-Some.processor.now c.in-Some.latest.now) (rows c.next.new.self)
    ∙ ap (λ it. text ++ rows it) (sym c.in-Some.ensures.steps) ∙ c.loop-processor.invariant

pub returns : goal.returns
returns c =
    let tally = c.args.tally.now in
    let before = string_bytes c.args.text.now in
    let name = codes "most queued at once     " in
    sym (append-nil (string_bytes c.loop-processor.text)) ∙ ap (λ it. string_bytes c.loop-processor.text ++ rows it) (sym c.in-None.ensures.steps.0)
    ∙ c.loop-processor.invariant
    ∙ ap (λ it. string_bytes c.row.new.text ++ rows it)
    (c.into_iter-processor-iterator.ensures.into_iter_gives.0 ∙ ap (λ (m : BTreeMap ℕ Latest). m.entries) c.latest-processor-items.ensures)
    ∙ ap (λ t. t ++ rows tally.latest.entries) (c.in_ok-row.ensures
    ∙ ap (λ t. t ++ row_text name c.most_armed.result) (c.in_ok-event_rows.ensures ∙ ap (λ n. with_events n before) c.counts.ensures)
    ∙ ap (λ n. with_events tally.counts before ++ row_text name n) c.most_armed.ensures)
