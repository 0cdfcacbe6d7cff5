use Rattle.fit_laws.proofs.Replies.{has_replies}
use Rattle.fit_laws.proofs.each_entry_of_a_record_that_fits_has_a_reply_of_its_event.Goals as goal

pub returns : goal.returns
returns c = has_replies
