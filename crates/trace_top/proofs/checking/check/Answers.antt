use Rattle.std.proofs.Common.{◌≡◌, ◌++◌, ◌∙◌, [], List, ℕ, sym, ap, subst, append_assoc, take, arith, rules, inl, inr}
use Rattle.std.proofs.lemmas.List.{append-nil}
use Rattle.std.specs.Io.KnownBytes.{Consumes}
use Rattle.trace_read.specs.Lines.{verdict_on}
use Rattle.trace_read.specs.Readers.{HasReadSoFar, IsOfLine, IsTallied, ReadsOn, told_by}
use Rattle.trace_read.proofs.Meanings.{answered}
use Rattle.trace_read.proofs.Lines.{tallied_of_line}
use Rattle.byte_streams.proofs.Streams.{Consumes-trans}
use Rattle.trace_top.proofs.checking.check.Goals as goal

pub returns-in-Ok-eq0-clause-read : goal.returns-in-Ok-eq0-clause-read
returns-in-Ok-eq0-clause-read g c =
    let i = c.loop.invariant in
    let e = c.in-Ok-eq0.ensures.bytes in
    let zero : c.in-Ok-eq0.field-0 ≡ 0 = omega arith in
    let nothing : Consumes (g.S.Source.left c.loop.source) (g.S.Source.left c.read.new.self) [] =
    subst (λ n. Consumes (g.S.Source.left c.loop.source) (g.S.Source.left c.read.new.self) (take n c.read.new.buf)) zero e.0 in
    let ended = c.in_ok-end-in-Ok-eq0.ensures _ _ i.stands in
    record {
      read = record {
        bytes = i.bytes;
        front = subst (λ bytes. Consumes (g.S.Source.left c.args.source.now) (g.S.Source.left c.read.new.self) bytes) (append-nil i.bytes)
            (Consumes-trans _ _ _ i.bytes [] i.front nothing);
        answer = inl (e.1 zero (omega arith), answered i.bytes _ (ap verdict_on (sym (append-nil i.bytes)) ∙ ended.0));
      };
      tallied = subst (λ bytes. IsTallied c.in_ok-end-in-Ok-eq0.field-0 c.end.new.self.tally (told_by bytes)) (append-nil i.bytes) ended.1;
    }

pub returns-in-Some-clause-read : goal.returns-in-Some-clause-read
returns-in-Some-clause-read g c =
    let i = c.loop.invariant in
    let piece = take c.in-Ok.n c.read.new.buf in
    let found : IsOfLine c.in-Some.verdict × ((rest : List ℕ) → verdict_on (i.bytes ++ (piece ++ rest)) ≡ c.in-Some.verdict) =
    subst (λ v. ReadsOn v c.take.new.self (λ rest. verdict_on (i.bytes ++ rest)) (λ rest. told_by (i.bytes ++ rest)) piece) c.in-Some.is
    (c.in_ok-verdict-in-Ok.ensures _ _ i.stands) in
    record {
      read = record {
        bytes = i.bytes ++ piece;
        front = Consumes-trans _ _ _ i.bytes piece i.front c.in-Ok.ensures.bytes.0;
        answer = inr (λ rest. answered ((i.bytes ++ piece) ++ rest) _ (ap verdict_on (append_assoc i.bytes piece rest) ∙ found.1 rest));
      };
      tallied = tallied_of_line c.in-Some.verdict c.take.new.self.tally (told_by (i.bytes ++ piece)) found.0;
    }

pub loop-preserved : goal.loop-preserved
loop-preserved g c =
    let i = c.loop.invariant in
    let piece = take c.in-Ok.n c.read.new.buf in
    let on : HasReadSoFar c.take.new.self (λ rest. verdict_on (i.bytes ++ (piece ++ rest))) (λ rest. told_by (i.bytes ++ (piece ++ rest))) =
    subst (λ v. ReadsOn v c.take.new.self (λ rest. verdict_on (i.bytes ++ rest)) (λ rest. told_by (i.bytes ++ rest)) piece) c.in_default.is
    (c.in_ok-verdict-in-Ok.ensures _ _ i.stands) in
    record {
      bytes = i.bytes ++ piece;
      front = Consumes-trans _ _ _ i.bytes piece i.front c.in-Ok.ensures.bytes.0;
      stands = record {
        known = on.known;
        holds = on.holds;
        events = on.events;
        answers = λ rest. ap verdict_on (append_assoc i.bytes piece rest) ∙ on.answers rest;
        past = on.past;
        tallies = on.tallies;
        tells = λ rest. ap told_by (append_assoc i.bytes piece rest) ∙ on.tells rest;
      };
      calm = c.in-Ok.ensures.cause.ok ∙ i.calm;
      room = search rules;
    }
