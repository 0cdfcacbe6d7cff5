-- Of the records that fit a script no two have one text.
use Rattle.std.proofs.Common.{◌≡◌, ap, sym, length, ◌∙◌}
use Rattle.record_text.specs.Numbers.{HasMachineNumbers, HasNoSlack}
use Rattle.record_text.specs.Text.{lines_text, record_lines, text_of}
use Rattle.record_text.specs.declared.record.RunRecord.{RunRecord}
use Rattle.record_text.specs.declared.version.Version.TheVariants as versions
use Rattle.record_text.proofs.EntryLines.{record_readable}
use Rattle.record_text.proofs.Lines.{lines_from_text}
use Rattle.record_text.proofs.Sections.{record_from_lines}
use Rattle.script_text.specs.Scripts.{IsInRange}
use Rattle.script_text.specs.declared.script.Script.{Script}
use Rattle.run_history.specs.Fits.{Fits}
use Rattle.fit_laws.proofs.NoSlack.{version_one_recorded}
use Rattle.fit_laws.proofs.Replies.{has_replies}

-- a record that fits is of the script's version, and for as many bases, timers, objects and lanes as the script has
record IsOfSize (s : Script) (r : RunRecord) : Type 0 where
  version : r.version ≡ s.version
  bases : length r.bases ≡ s.bases
  timers : length r.timers ≡ length s.timers
  objects : length r.objects ≡ length s.timers
  lanes : length r.answers ≡ s.lanes

sized : (s : Script) (r : RunRecord) → Fits s r → IsOfSize s r
sized s r (moves, signals, traces, fits) =
    record { version = fits.version; bases = fits.bases; timers = fits.timers; objects = fits.objects; lanes = fits.lanes }

pub one_text : (s : Script) (a b : RunRecord) → IsInRange s → Fits s a → Fits s b → HasMachineNumbers a → HasMachineNumbers b → text_of a ≡ text_of b → a ≡ b
one_text s a b range fits other numbers others same =
    let x = sized s a fits in
    let y = sized s b other in
    let version = x.version ∙ sym y.version in
    let texts = same ∙ sym (ap (λ v. lines_text v (record_lines b)) version) in
    let plain : (r : RunRecord) → Fits s r → s.version ≡ versions.One → HasNoSlack r = λ r fits one. version_one_recorded s r range one fits in
    record_from_lines a b (x.bases ∙ sym y.bases) (x.timers ∙ sym y.timers) (x.objects ∙ sym y.objects) (x.lanes ∙ sym y.lanes) version
    (lines_from_text a.version (record_lines a) (record_lines b) numbers others
    (record_readable a.version a (has_replies s a fits) (λ one. plain a fits (sym x.version ∙ one)))
    (record_readable a.version b (has_replies s b other) (λ one. plain b other (sym x.version ∙ one))) texts)
