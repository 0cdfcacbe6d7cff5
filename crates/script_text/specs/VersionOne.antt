-- What a script of the first version never asks for: a slack, the soft context, or a base off line.
use Rattle.std.specs.Prelude.{◌≡◌, None}
use Rattle.std.specs.List.{AllByRecursion}
use Rattle.seq_timer.specs.declared.context.Context.TheVariants as contexts
use Rattle.script_text.specs.declared.script.Call.{Call}
use Rattle.script_text.specs.declared.script.Call.TheVariants as calls
use Rattle.script_text.specs.declared.script.Script.{Script}
use Rattle.script_text.specs.Declarations.{context_of}
use Rattle.script_text.specs.Scripts.{all_calls}

-- a call asks for no slack, runs no callbacks of the soft context, and takes no base off line
abbrev pub IsHardCall : Call → Type 0
IsHardCall (calls.Start timer request) = request.slack ≡ None
IsHardCall (calls.Expire context base budget) = context ≡ contexts.Hard
IsHardCall (calls.Offline base heir budget) = ⊥
IsHardCall (calls.Online base) = ⊥
IsHardCall call = Unit

-- each timer of a script is of the hard context, and each of its calls asks for no more
pub record IsHard (s : Script) : Type 0 where
  pub timers : AllByRecursion (λ d. context_of d.kind ≡ contexts.Hard) s.timers
  pub calls : AllByRecursion (λ c. IsHardCall c.call) (all_calls s.rounds)
