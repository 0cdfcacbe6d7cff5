use Rattle.std.proofs.Common.{refl, arith, ap, ◌≡◌, ◌+◌, Some}
use Rattle.seq_timer.proofs.laws.a_move_keeps_the_expiry.Goals as goal

pub returns : goal.returns
returns c t heir reading bounded =
    let twice : t.stamp + 1 + 1 ≡ t.stamp + 2 = omega arith in record {
      base = refl;
      clock = refl;
      soft = omega (arith, bounded.expires, bounded.soft);
      expires = omega (arith, bounded.expires, bounded.soft);
      armed = ap (λ n. Some n) twice;
      still = refl;
      stamp = twice;
    }
