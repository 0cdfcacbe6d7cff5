-- Objects as values of a row, whose calls have one order each.
use Rattle.std.specs.Prelude.{ℕ, List, [], map}
use Rattle.counted_row.specs.Meaning.{CallMeaning, plain}
use Rattle.timer_objects.specs.declared.object.Decl.{Decl}
use Rattle.timer_objects.specs.declared.object.Object.{Object}
use Rattle.timer_setting.specs.declared.object_call.ObjectCall.{ObjectCall}
use Rattle.timer_setting.specs.declared.object_call.ObjectReply.{ObjectReply}
use Rattle.timer_objects.specs.Steps.{ObjectAllows, object_answer, object_step, opened_object}

-- the calls of a row of objects; there are no claims
abbrev pub object_meaning : CallMeaning Object ObjectCall ObjectReply
object_meaning = record {
  may = ObjectAllows;
  next = object_step;
  reply = object_answer;
  claims = λ object. [];
  effect = λ object call. plain;
}

-- objects that were just made
abbrev pub opened_objects : List Decl → ℕ → List Object
opened_objects decls limit = map (opened_object limit) decls
