use Rattle.std.proofs.Common.{ap, ◌∙◌}
use Rattle.pass_names.proofs.Names.{answers_split}
use Rattle.counted_row.specs.declared.view.View.{View}
use Rattle.hr_timers.specs.Known.{KnownOfTimers}
use Rattle.object_uses.proofs.beside.read_beside.Goals as goal

pub retire-requires-clause-answers : goal.retire-requires-clause-answers
retire-requires-clause-answers g c =
    let told = c.expire_and_read-told.ensures in
    let split = c.split-other.ensures in
    answers_split c.args.main.now.known.id _ _ (told.runner.keeps.id ∙ ap (λ (k : KnownOfTimers). k.id) split.splitter)
    (told.reader.keeps.id ∙ ap (λ (k : KnownOfTimers). k.id) split.new)

pub join-requires-clause-answers : goal.join-requires-clause-answers
join-requires-clause-answers g c =
    let told = c.expire_and_read-told.ensures in
    let split = c.split-objects_other.ensures in
    answers_split c.args.objects_main.now.knows.pass.id _ _ (told.runner.goes_on.id ∙ ap (λ (v : View _ _ _). v.pass.id) split.splitter)
    (told.reader.goes_on.id ∙ ap (λ (v : View _ _ _). v.pass.id) split.new)

pub returns-clause-reads : goal.returns-clause-reads
returns-clause-reads g c = record {
  began = c.split-objects_other.result;
  ended = c.expire_and_read-told.new.objects_reader;
  from = ap (λ (v : View _ _ _). v.pass.seen) c.split-objects_other.ensures.new;
  fits = c.expire_and_read-told.ensures.reads;
  heard = c.join.ensures.retires.heard;
}
