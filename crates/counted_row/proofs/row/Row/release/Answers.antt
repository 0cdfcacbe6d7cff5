use Rattle.std.proofs.Common.{◌∙◌, Some, ap, sym}
use Rattle.counted_row.proofs.row.Row.release.Goals as goal

pub free-requires-clause-held : goal.free-requires-clause-held
free-requires-clause-held g c =
    let put = c.put_back.ensures.full in (
      c.held.inside.object,
      ap (λ m. m.0.held) put ∙ (ap (λ p. p.knows.held) c.pass.view_is ∙ (c.requires.held ∙ ap (λ h. Some h) (sym c.held.view_is))),
      ap (λ m. m.1) put,
    )
