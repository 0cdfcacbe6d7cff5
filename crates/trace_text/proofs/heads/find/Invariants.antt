use Rattle.std.proofs.Common.{◌≡◌, map, drop}
use Rattle.trace_text.specs.Names.{first_event, no_head}
use Rattle.trace_text.proofs.heads.find.Given as goal

-- the words left, behind what is told so far, name the event
abbrev pub invariant-loop-word : goal.invariant-loop-word
invariant-loop-word l = record {
  rest : first_event l.head (map (λ w. w.now) (drop l.word-index l.fn.words)) ≡ first_event no_head (map (λ w. w.now) l.fn.words);
  count : l.count ≡ l.word-index;
}
