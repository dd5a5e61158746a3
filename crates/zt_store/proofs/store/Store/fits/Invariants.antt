use Rattle.std.proofs.Common.{◌≡◌, drop}
use Rattle.zt_store.specs.Places.{fits}
use Rattle.zt_store.specs.ProofsOnly.KeptRows.{pairs_of}
use Rattle.zt_store.proofs.store.Store.fits.Given as goal

-- the rows so far fit, so the rows that are left decide
abbrev pub invariant-loop-i : goal.invariant-loop-i
invariant-loop-i l = fits l.self.places (drop l.i (pairs_of l.keys l.rows)) ≡ fits l.self.places l.kept
