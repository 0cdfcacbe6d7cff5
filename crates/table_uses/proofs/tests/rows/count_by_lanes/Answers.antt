use Rattle.table_uses.proofs.tests.rows.count_by_lanes.Goals as goal

pub retire_all-requires-clause-main : goal.retire_all-requires-clause-main
retire_all-requires-clause-main g c = c.count_in_lanes.ensures.main c.lanes_of.new.main c.in-Ok.ensures.main
