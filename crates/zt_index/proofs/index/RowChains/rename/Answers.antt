use Rattle.zt_index.proofs.IndexLaws.{on-bucket, on-below}
use Rattle.zt_index.proofs.index.RowChains.rename.Goals as goal

pub move_all-requires-clause-all : goal.move_all-requires-clause-all
move_all-requires-clause-all c = on-bucket c.args.cells.now c.args.self.now c.requires c.args.process c.args.handle

pub move_all-requires-clause-room : goal.move_all-requires-clause-room
move_all-requires-clause-room c = on-below c.args.cells.now c.args.self.now c.requires c.waits_end-end.result c.waits_end-end.ensures.places c.waits_end-end.ensures.end c.args.process c.args.handle
