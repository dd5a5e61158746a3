-- Koids that were found on a walk: those in a list and those in a set. Used by proofs only.
use Rattle.std.specs.Prelude.{ℕ, Bool, ◌||◌}
use Rattle.std.specs.BTreeSet.{contains}
use Rattle.std.specs.Ordering.{nat_cmp}
use Rattle.zt_rows.specs.Tests.{among}
use Rattle.zt_jobs.specs.declared.found_set.FoundKoids.{FoundKoids}

-- whether the koid was found
abbrev pub found : FoundKoids → ℕ → Bool
found f x = among f.rising.items x || contains nat_cmp f.others x
