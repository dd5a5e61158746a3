-- What stands behind the first line is taken.
use Rattle.zt_console.proofs.ReadLaws.{first_taken}
use Rattle.zt_console.proofs.read_text.read_first.Goals as goal

pub returns-clause-begun : goal.returns-clause-begun
returns-clause-begun g c =
    λ all. first_taken _ _ c.read_some.new.chunk.items c.as_slice.result.now c.split_at.result.0.now c.in-Some-behind_first.left.now c.args.part.now.items c.take_bytes.new.part.items
    c.args.row.now c.take_bytes.new.row c.in-Some.count c.in-Some.ensures.read c.as_slice.ensures.value c.split_at.ensures.front c.in-Some-behind_first.ensures
    c.requires.none c.requires.nothing (c.take_bytes.ensures all)
