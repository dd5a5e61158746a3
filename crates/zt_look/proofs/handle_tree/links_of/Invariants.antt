-- So far the links of the handles that were gone back over are listed, the last first, and the first of them is noted for each
-- place from which they came.
use Rattle.std.proofs.Common.{◌≡◌, drop}
use Rattle.std.specs.Prelude.{reverse, Option}
use Rattle.zt_lineage.specs.declared.places.Place.{Place}
use Rattle.zt_look.specs.ProofsOnly.TreeLinks.{first_from, first_in, links_from}
use Rattle.zt_look.proofs.handle_tree.links_of.Given as goal

abbrev pub invariant-loop-index : goal.invariant-loop-index
invariant-loop-index l = record {
  links : reverse l.links.items ≡ links_from l.index (drop l.index l.list);
  firsts : (from : Option Place) → first_in l.firsts from ≡ first_from from l.index (drop l.index l.list);
}
