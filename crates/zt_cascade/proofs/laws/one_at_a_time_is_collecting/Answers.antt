use Rattle.zt_cascade.proofs.OnTheWayLaws.{on_the_way-begun, on_the_way-more, on_the_way-end}
use Rattle.zt_cascade.proofs.laws.one_at_a_time_is_collecting.Goals as goal

pub returns-clause-begun : goal.returns-clause-begun
returns-clause-begun c = on_the_way-begun

pub returns-clause-more : goal.returns-clause-more
returns-clause-more c = on_the_way-more

pub returns-clause-ended : goal.returns-clause-ended
returns-clause-ended c = on_the_way-end
