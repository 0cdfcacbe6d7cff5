use Rattle.std.proofs.Common.{replicate, ◌+◌, rules, refl, sym, ap, subst, ◌∙◌}
use Rattle.seq_timer.specs.Steps.{limited}
use Rattle.base_row.specs.Calls.{opening_with}
use Rattle.timer_objects.specs.Callbacks.{bases_of}
use Rattle.timer_objects.specs.Known.{Suits}
use Rattle.benches.proofs.Opened.{still, suits}
use Rattle.benches.proofs.objects.stand.Stand.open.Goals as goal

pub returns : goal.returns
returns c =
    let declared = c.deref.ensures.value ∙ (c.in_ok-declared.ensures.items_if_clones_equal (λ y e. e) ∙ ap (λ d. replicate c.args.count d) c.hard.ensures) in
    let decls = c.in-Ok.ensures.made.0 ∙ (c.deref-2.ensures.value ∙ c.in_ok-decls.ensures.items_if_clones_equal (λ y e. e)) in (
      record {
        timers = search rules;
        last = search rules;
        unclaimed = search rules;
        objects = search rules;
        objects_last = search rules;
        suits = subst (λ o. Suits c.in-Ok.objects o) (sym (c.in_ok-timers.ensures.about ∙ (λ i. opening_with 1 (declared i) (c.limited.ensures i) (c.args.count + 1))))
            (suits c.in-Ok.objects c.args.kind c.args.count (limited 1099511627776) decls);
        bases = search rules;
        many = search rules;
        few = search rules;
        callbacks = search rules;
        still = ap (λ l. bases_of l) (c.in_ok-callbacks.ensures.items_if_clones_equal (λ y e. e)) ∙ still c.args.count;
      },
      refl,
    )
