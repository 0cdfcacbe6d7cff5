use Rattle.answer_laws.proofs.LookCalls.{finds_once, overrun_once, readable_once, slept_once}
use Rattle.answer_laws.proofs.objects.a_look_at_an_object_is_fixed.Goals as goal

pub returns : goal.returns
returns c = record { finds = finds_once; readable = readable_once; overrun = overrun_once; slept = slept_once }
