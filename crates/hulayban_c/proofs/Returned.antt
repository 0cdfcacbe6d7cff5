-- What an export returns, from what its call told.
use Rattle.std.specs.Prelude.{ℤ, ◌≡◌, Option, Some, Result}
use Rattle.std.proofs.Common.{sym, subst}
use Rattle.hulayban_c.specs.Calls.{IsReturned, OnTimers}

pub on_timers : {K A : Type 0} (Does : K → Result (ℤ × A) ℤ → K → Type 0) (o n : Option K) (returned : ℤ) (before after : A) (old new : K) (told : Result (ℤ × A) ℤ)
    → o ≡ Some old → n ≡ Some new → Does old told new → IsReturned returned before after told → OnTimers Does o n returned before after
on_timers Does o n returned before after old new told was is does gives =
    subst (λ p. OnTimers Does p n returned before after) (sym was) (subst (λ p. OnTimers Does (Some old) p returned before after) (sym is) (told, does, gives))
