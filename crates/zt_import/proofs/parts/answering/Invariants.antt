-- The calls so far were ok.
use Rattle.std.proofs.Common.{◌≡◌, drop}
use Rattle.zt_import.specs.Parts.{answering}
use Rattle.zt_import.proofs.parts.answering.Given as goal

abbrev pub invariant-loop-place : goal.invariant-loop-place
invariant-loop-place l = answering l.taken.tree.made l.asked l.last ≡ answering l.taken.tree.made (drop l.place l.asked) l.last
