use Rattle.std.proofs.Common.{ap, sym, ◌∙◌}
use Rattle.record_text.specs.Text.{lines_text, record_lines}
use Rattle.record_text.proofs.Lines.{lines_from_text, version_from_text}
use Rattle.record_text.proofs.Sections.{record_from_lines}
use Rattle.record_text.proofs.EntryLines.{record_readable}
use Rattle.record_text.proofs.writing.unique.text_determines_the_record.Goals as goal

pub returns : goal.returns
returns c a b numbers others replied replies plain plains bases timers objects lanes same =
    let version = version_from_text a.version b.version _ _ same in
    let texts = same ∙ sym (ap (λ v. lines_text v (record_lines b)) version) in
    record_from_lines a b bases timers objects lanes version (lines_from_text a.version (record_lines a) (record_lines b) numbers others
    (record_readable a.version a replied plain) (record_readable a.version b replies (λ one. plains (sym version ∙ one))) texts)
