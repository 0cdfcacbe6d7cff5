use Rattle.std.proofs.Common.{ap, ◌∙◌, subst, true, false, refl, arith, length}
use Rattle.timer_tree.specs.Contexts.{IsOver}
use Rattle.timer_tree.specs.Moves.{ended}
use Rattle.timer_tree.specs.Rotate.{ranked}
use Rattle.timer_tree.proofs.Climbs.{settling, repairing_end}
use Rattle.timer_tree.proofs.repair.settle.Goals as goal

pub returns-then-not-leaf : goal.returns-then-not-leaf
returns-then-not-leaf g c = λ ps b over.
    repairing_end true _ _ _ ended ps _ _ _ (settling false _ _ _ _ c.args.id ended ps _ _ c.if-parent-eq-NONE.false b
    (subst (λ x. IsOver b.context x) c.if-not-leaf.true over) refl (omega arith)) refl

pub repair-requires : goal.repair-requires
repair-requires g c =
    let b = c.requires.1 in
    let rest = c.raise_leaf-rest in (
      c.args.block.now,
      c.requires.0,
      length b.context,
      c.args.steps.now,
      settling true _ _ _ _ c.args.id rest.result _ _ _ c.if-parent-eq-NONE.false b (subst (λ x. IsOver b.context x) c.if-not-leaf.false c.requires.2)
          (ap (λ zs. (zs, c.args.root.now, rest.result)) rest.ensures.block
          ∙ ap (λ q. (ranked c.args.block.now c.args.parent 2, c.args.root.now, q)) rest.ensures.rest)
          (omega (arith, rest.ensures.steps)),
    )

pub returns : goal.returns
returns g c = λ ps b over.
    let rest = c.raise_leaf-rest in
    c.repair.ensures _ ps _ _ (settling true _ _ _ _ c.args.id rest.result ps _ _ c.if-parent-eq-NONE.false b
    (subst (λ x. IsOver b.context x) c.if-not-leaf.false over)
    (ap (λ zs. (zs, c.args.root.now, rest.result)) rest.ensures.block
    ∙ ap (λ q. (ranked c.args.block.now c.args.parent 2, c.args.root.now, q)) rest.ensures.rest)
    (omega (arith, rest.ensures.steps)))
