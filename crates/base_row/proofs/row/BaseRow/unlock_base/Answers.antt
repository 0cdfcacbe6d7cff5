use Rattle.std.proofs.Common.{Some, ◌∷◌, [], ap, subst, ◌∙◌}
use Rattle.base_row.specs.declared.view.HeldContent.{HeldContent}
use Rattle.base_row.specs.declared.view.Opening.{Opening}
use Rattle.seq_timer.specs.Systems.{BaseContent}
use Rattle.base_row.specs.Plays.{FreedBase}
use Rattle.base_row.specs.Calls.{BasePassOf, LetsGo}
use Rattle.base_row.proofs.Holding.{LetGo, let_go}
use Rattle.base_row.proofs.row.BaseRow.unlock_base.Goals as goal

told : (c : goal.After-free) → LetGo c.args.self.now.about c.args.held c.pass.inside.seat.me c.free.new.seat.me
told c =
    let o = c.args.self.now.about in
    let h = c.args.held in
    let me = c.pass.inside.seat.me in
    let about = ap (λ (p : BasePassOf). p.knows.opening) c.pass.view_is ∙ c.requires.row.about in
    let held = ap (λ (p : BasePassOf). p.knows.held) c.pass.view_is ∙ c.requires.held in
    let back = c.put_back.ensures.full in
    let mid = back ∙ ap (λ (x : HeldContent BaseContent). (me.0, (x.base, Some x.content) ∷ [])) c.held.view_is in
    let_go o h me c.put_back.new.seat.me c.free.new.seat.me about c.pass.invariant held c.requires.within mid
    (subst (λ (x : Opening). FreedBase x h c.put_back.new.seat.me c.free.new.seat.me)
    (ap (λ m. m.0.opening) back ∙ about) (c.free.ensures.freed h (ap (λ m. m.0.held) back ∙ held)))

pub invariant_of-pass : goal.invariant_of-pass
invariant_of-pass c = (told c).resting

pub returns-clause-row : goal.returns-clause-row
returns-clause-row c = record {
  row = c.free.ensures.same ∙ (c.put_back.ensures.same ∙ (ap (λ (p : BasePassOf). p.row) c.pass.view_is ∙ c.requires.row.row));
  about = (told c).about;
}

pub returns-clause-free : goal.returns-clause-free
returns-clause-free c = subst (λ (p : BasePassOf). LetsGo c.args.self.now.about c.args.held p.knows c.free.new.seat.me.0) c.pass.view_is (told c).free
