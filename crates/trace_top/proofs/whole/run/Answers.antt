use Rattle.std.proofs.Common.{refl, string_bytes, subst}
use Rattle.byte_streams.specs.Streams.{AddsPrefix, GrowsBy}
use Rattle.trace_top.specs.Status.{status_of}
use Rattle.trace_top.proofs.whole.run.Goals as goal

pub returns-in-Ok-write_all-clause-answered : goal.returns-in-Ok-write_all-clause-answered
returns-in-Ok-write_all-clause-answered g c = λ is. record {
  text = string_bytes c.in-Ok-answer.text;
  answer = record {
    verdict = c.in-Ok.verdict;
    is = c.of.ensures;
    read = c.in-Ok.ensures.read.read;
    told = c.in-Ok-answer.ensures _ c.in-Ok.ensures.read.tallied;
  };
  written = subst (λ text. GrowsBy (g.K.Sink.taken c.args.sink.now) (g.K.Sink.taken c.write_all.new.sink) text) c.as_bytes.ensures.value
      c.in-Ok-write_all.ensures.all;
}

pub returns-clause-prefix : goal.returns-clause-prefix
returns-clause-prefix g c = λ is. record {
  status = status_of c.in-Ok.verdict;
  text = string_bytes c.in-Ok-answer.text;
  answer = record {
    verdict = c.in-Ok.verdict;
    is = refl;
    read = c.in-Ok.ensures.read.read;
    told = c.in-Ok-answer.ensures _ c.in-Ok.ensures.read.tallied;
  };
  written = subst (λ text. AddsPrefix (g.K.Sink.taken c.args.sink.now) (g.K.Sink.taken c.write_all.new.sink) text) c.as_bytes.ensures.value c.in-Err.ensures.prefix;
}
