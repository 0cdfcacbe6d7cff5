use Rattle.base_row.proofs.Calling.{extends_appended}
use Rattle.base_row.proofs.laws.an_entry_extends_its_timer.Goals as goal

pub returns : goal.returns
returns c o fresh h t event v w told = extends_appended o fresh h t event v w told
