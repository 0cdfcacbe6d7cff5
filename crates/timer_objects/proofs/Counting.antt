-- An object's state counts its entries, and keeps what it was declared with.
use Rattle.std.proofs.Common.{arith, refl, sym, subst, ap, ◌≡◌, ◌≢◌, ◌∙◌, ℕ, zero, suc, ◌+◌, List, [], ◌∷◌, length, map, get_or}
use Rattle.ktime.specs.declared.clock_id.ClockId.TheVariants as clocks
use mathlib.Core.Option.{some, some-injective, some-ne-none}
use lib.ListN.{get_elem?}
use Rattle.counted_row.specs.declared.view.Entry.{Entry}
use Rattle.counted_row.specs.Meaning.{Leads}
use Rattle.counted_row.specs.Views.{StateAfter}
use Rattle.timer_objects.specs.declared.object.Decl.{Decl}
use Rattle.timer_objects.specs.declared.object.Kind.{Kind}
use Rattle.timer_objects.specs.declared.object.Kind.TheVariants as kinds
use Rattle.timer_objects.specs.declared.object.Object.{Object}
use Rattle.timer_setting.specs.declared.object_call.ObjectCall.{ObjectCall}
use Rattle.timer_setting.specs.declared.object_call.ObjectReply.{ObjectReply}
use Rattle.timer_objects.specs.Steps.{IsObjectOf, IsTimerOf, ObjectAllows, object_step, object_timer, opened_as, opened_object}
use Rattle.timer_objects.specs.Meaning.{object_meaning, opened_objects}
use Rattle.timer_objects.specs.Known.{ObjectsOf, decl_at}
use Rattle.timer_objects.proofs.AsKind.{has_calls, kind_over-opened, kind_over-step, objects_are_a_kind}

one_more : (d : Decl) (limit n : ℕ) (x : Object) (c : ObjectCall) → IsObjectOf d limit n x → ObjectAllows x c → IsObjectOf d limit (n + 1) (object_step x c)
one_more d limit n x c is allows = record {
  kind = is.kind ∙ sym (kind_over-step x c);
  timer = λ other.
      let made = objects_are_a_kind.made x c allows in
      let was = is.timer other in
      record {
        clock = made.clock ∙ was.clock;
        base = made.base ∙ was.base;
        limit = made.limit ∙ was.limit;
        stamp = objects_are_a_kind.counted x c allows ∙ ap (λ k. k + 1) was.stamp;
      };
  none = λ raw. absurd (has_calls x c allows (sym is.kind ∙ raw));
}

after_log : (d : Decl) (limit n : ℕ) (x y : Object) (log : List (Entry ObjectCall ObjectReply)) → IsObjectOf d limit n x → Leads object_meaning x log y
    → IsObjectOf d limit (n + length log) y
after_log d limit n x y [] is leads = subst (λ z. IsObjectOf d limit (n + 0) z) (sym leads) (subst (λ k. IsObjectOf d limit k x) (omega arith) is)
after_log d limit n x y (e ∷ es) is leads =
    subst (λ k. IsObjectOf d limit k y) (omega arith)
    (after_log d limit (n + 1) (object_step x e.call) y es (one_more d limit n x e.call is leads.0) leads.2)

opened_timer : (d : Decl) (limit : ℕ) (kind : Kind) → kind ≢ kinds.Raw → IsTimerOf d limit 0 (object_timer (opened_as kind d.clock d.base limit))
opened_timer d limit kinds.Raw other = absurd (other refl)
opened_timer d limit kinds.Posix other = record { clock = refl; base = refl; limit = refl; stamp = refl }
opened_timer d limit kinds.Fd other = record { clock = refl; base = refl; limit = refl; stamp = refl }
opened_timer d limit kinds.Sleeper other = record { clock = refl; base = refl; limit = refl; stamp = refl }
opened_timer d limit kinds.Queued other = record { clock = refl; base = refl; limit = refl; stamp = refl }

opened_is : (d : Decl) (limit : ℕ) → IsObjectOf d limit 0 (opened_object limit d)
opened_is d limit = record { kind = sym (kind_over-opened d.kind d.clock d.base limit); timer = opened_timer d limit d.kind; none = λ raw. refl }

-- law: an object that was just made is that of its declaration
pub opened_at : (limit : ℕ) (ds : List Decl) (i : ℕ) (x : Object) (d : Decl) → get_elem? (map (opened_object limit) ds) i ≡ some x
    → x ≡ opened_object limit (get_or ds i d)
opened_at limit [] i x d e = absurd (some-ne-none x (sym e))
opened_at limit (y ∷ ys) zero x d e = some-injective x (opened_object limit y) (sym e)
opened_at limit (y ∷ ys) (suc i) x d e = opened_at limit ys i x d e

-- the state after a history is that of the object that was declared, with as many entries
pub state_is : (x : ObjectsOf) (i : ℕ) (log : List (Entry ObjectCall ObjectReply)) (now : Object)
    → StateAfter object_meaning (opened_objects x.decls x.limit) i log now → IsObjectOf (decl_at x i) x.limit (length log) now
state_is x i log now after =
    let d = decl_at x i in
    let from = opened_at x.limit x.decls i after.from (record { kind = kinds.Raw; clock = clocks.Monotonic; base = 0 }) after.at in
    let opens : IsObjectOf d x.limit 0 after.from = subst (λ c. IsObjectOf d x.limit 0 c) (sym from) (opened_is d x.limit) in
    subst (λ n. IsObjectOf d x.limit n now) (omega arith) (after_log d x.limit 0 after.from now log opens after.leads)
