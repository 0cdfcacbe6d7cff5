use Rattle.std.proofs.Common.{◌+◌, arith, refl}
use Rattle.script_text.proofs.Cuts.{last_cut, nothing_apart, one_apart, word_cut}
use Rattle.script_text.proofs.reading.cutting.cut.Goals as goal

pub loop-at-preserved-then-byte-ne32 : goal.loop-at-preserved-then-byte-ne32
loop-at-preserved-then-byte-ne32 c =
    let l = c.loop-at in
    record {
      order = omega (arith, l.invariant.order);
      words = l.invariant.words;
      apart = one_apart c.args.line.now l.start l.at _ l.invariant.order c.loop-at-test.true c.if-byte-ne32.true l.invariant.apart;
    }

pub loop-at-preserved : goal.loop-at-preserved
loop-at-preserved c =
    let l = c.loop-at in
    record {
      order = omega arith;
      words = rw c.in_ok-push.ensures.ok
          (word_cut (λ w. w.now) l.words.items _ c.args.line.now l.start l.at _ l.invariant.apart l.invariant.words _ l.invariant.order c.loop-at-test.true
          c.if-byte-ne32.false refl);
      apart = nothing_apart (l.at + 1) _;
    }

pub returns : goal.returns
returns c =
    let l = c.loop-at in
    rw c.in_ok-push-2.ensures.ok
    (last_cut (λ w. w.now) l.words.items _ c.args.line.now l.start l.at _ l.invariant.apart l.invariant.words c.loop-at-test.false refl)
