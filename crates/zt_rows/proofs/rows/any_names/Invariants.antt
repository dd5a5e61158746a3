-- None of the handles that were gone over names the object.
use Rattle.std.proofs.Common.{◌≡◌, false, take}
use Rattle.std.specs.Prelude.{◌==◌}
use Rattle.std.specs.List.{list_any}
use Rattle.zt_rows.specs.declared.rows.Held.{Held}
use Rattle.zt_rows.proofs.rows.any_names.Given as goal

abbrev pub invariant-loop-held : goal.invariant-loop-held
invariant-loop-held l = list_any (λ (held : Held). held.koid == l.koid) (take l.held-index l.handles) ≡ false
