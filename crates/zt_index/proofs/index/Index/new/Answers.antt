use Rattle.zt_index.proofs.IndexLaws.{indexed-hollow}
use Rattle.zt_index.proofs.index.Index.new.Goals as goal

pub returns : goal.returns
returns c = indexed-hollow c.new.result c.new.ensures.handles c.new.ensures.ports c.new.ensures.objects c.new.ensures.processes c.new.ensures.parents
