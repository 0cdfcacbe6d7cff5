use Rattle.std.proofs.Common.{subst, ◌≡◌, length}
use Rattle.counted_row.proofs.Calls.{reads_of}
use Rattle.timer_objects.specs.Known.{seen_of}
use Rattle.timer_objects.proofs.objects.Objects.look_at.Goals as goal

pub returns-clause-finds : goal.returns-clause-finds
returns-clause-finds g c =
    let locks = c.lock_in_turn-held.ensures.locks in
    let freed = c.release-stamp.ensures in record {
      reads = reads_of locks c.lock_in_turn-held.ensures.row freed.pass.row c.requires.objects.idle freed.knows freed.pass.knows;
      state = c.state-object.ensures;
      stamp = subst (λ i. c.release-stamp.result ≡ length (seen_of c.release-stamp.new.pass i)) locks.index freed.count;
    }
