-- What a sink has that counts receipts.
use Rattle.std.specs.Prelude.{◌+◌}
use Rattle.base_row.specs.declared.log.Receipt.{Receipt}
use Rattle.shared_timer_uses.specs.declared.sink.Counted.{Counted}

-- with one receipt more
abbrev pub with_receipt : Counted → Receipt → Counted
with_receipt s r = record { made = s.made + 1 }
