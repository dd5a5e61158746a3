use Rattle.std.proofs.Common.{◌≡◌, length}
use Rattle.zt_store.proofs.SlotLaws.{length-under_keys, under_keys-at}
use Rattle.zt_store.proofs.SideBySide.{beside-not, beside-next, beside-all, even-slices}
use Rattle.zt_store.proofs.store.Store.fits.Goals as goal

pub returns-then-not-fits_row : goal.returns-then-not-fits_row
returns-then-not-fits_row c =
    let even : length c.rows-rows.result.now ≡ length c.keys-keys.result.now = even-slices _ _ _ _ c.keys-keys.ensures c.rows-rows.ensures c.kept.invariant.even in
    beside-not _ _ _ _ _ (length-under_keys _ _ even) c.loop-i.invariant _ _ _ c.loop-i-test.true c.index-keys-i.is
    (under_keys-at _ _ _ _ _ even c.loop-i-test.true c.index-keys-i.is c.index-rows-i.is) c.fits_row.ensures c.if-not-fits_row.true

pub loop-i-preserved : goal.loop-i-preserved
loop-i-preserved c =
    let even : length c.rows-rows.result.now ≡ length c.keys-keys.result.now = even-slices _ _ _ _ c.keys-keys.ensures c.rows-rows.ensures c.kept.invariant.even in
    beside-next _ _ _ _ _ (length-under_keys _ _ even) c.loop-i.invariant _ _ _ c.loop-i-test.true c.index-keys-i.is
    (under_keys-at _ _ _ _ _ even c.loop-i-test.true c.index-keys-i.is c.index-rows-i.is) c.fits_row.ensures c.if-not-fits_row.false

pub returns : goal.returns
returns c =
    let even : length c.rows-rows.result.now ≡ length c.keys-keys.result.now = even-slices _ _ _ _ c.keys-keys.ensures c.rows-rows.ensures c.kept.invariant.even in
    beside-all _ _ _ _ _ (length-under_keys _ _ even) c.loop-i.invariant c.loop-i-test.false
