use Rattle.std.proofs.Common.{arith}
use Rattle.signal_queue.proofs.Locks.{sees, tries}
use Rattle.signal_queue.proofs.lock.EndLock.try_lock.Goals as goal

pub swap_new_seat-found-requires : goal.swap_new_seat-found-requires
swap_new_seat-found-requires g c = (omega (arith, c.self.invariant.0), tries g.S.Side.is_end _ _)

pub load_new_seat-word-requires : goal.load_new_seat-word-requires
load_new_seat-word-requires g c = (omega (arith, c.self.invariant.0), sees g.S.Side.is_end _ _)
