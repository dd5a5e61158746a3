-- So far what the handles name that were gone over was added.
use Rattle.std.proofs.Common.{◌≡◌, true, take}
use Rattle.zt_rows.specs.Tests.{among}
use Rattle.zt_look.specs.ProofsOnly.UnleakedSearch.{Adds, koids}
use Rattle.zt_look.proofs.unleaked_search.add_handles.Given as goal

abbrev pub invariant-loop-held : goal.invariant-loop-held
invariant-loop-held l = Adds (λ x. among (koids (take l.held-index l.handles)) x ≡ true) l.kept l.fn.search l.search
