use Rattle.std.proofs.Common.{rules, tests, sym, ◌∙◌}
use Rattle.std.proofs.lemmas.Iterator.{YieldsList-from_slice}
use Rattle.std.proofs.lemmas.Iterator.Search.{any_from_yields_List}
use Rattle.script_text.specs.Reading.{is_empty_word}
use Rattle.script_text.proofs.Filling.{list_any-map}
use Rattle.script_text.proofs.reading.lines.has_empty_word.Goals as goal

pub returns : goal.returns
returns c =
    any_from_yields_List (λ w. is_empty_word w.now) _ _ c.any.result c.any.ensures.ran (YieldsList-from_slice c.args.words.now c.iter.ensures.rest)
    (λ x b q k. search (rules, tests)) ∙ sym (list_any-map is_empty_word (λ w. w.now) c.args.words.now)
