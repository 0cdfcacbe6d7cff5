use Rattle.fit_laws.proofs.OneText.{one_text}
use Rattle.fit_laws.proofs.the_text_of_a_record_that_fits_determines_it.Goals as goal

pub returns : goal.returns
returns c = one_text
