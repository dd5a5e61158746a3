-- A store in which an object was exchanged with one of the same kind, life and link.
use Rattle.std.proofs.Common.{◌≡◌, ℕ, Bool, true, false, List, Some, refl, sym, subst}
use Rattle.zt_rows.specs.declared.keys.RowKey.TheVariants as key
use Rattle.zt_rows.specs.declared.rows.ObjectRow.{ObjectRow}
use Rattle.zt_rows.specs.declared.rows.Row.TheVariants as rows
use Rattle.zt_cells.specs.AlikeObjects.{AlikeExchanged}
use Rattle.zt_cells.specs.CellsView.{CellsView}
use Rattle.zt_index.specs.declared.index.RowChains.{RowChains}
use Rattle.zt_index.specs.declared.support_counts.KoidCounts.{KoidCounts}
use Rattle.zt_index.specs.IndexInvariant.{IsIndexed}
use Rattle.zt_index.specs.PacketCounts.{ArePending}
use Rattle.zt_index.proofs.PacketCountLaws.{counted-other}
use Rattle.zt_index.specs.ProofsOnly.KoidCounts.{AreKoidCounts, NamesFew}
use Rattle.zt_store.proofs.AlikeLaws.{indexed-alike, names_few-alike, numbers-alike}
use Rattle.zt_store.specs.ProofsOnly.StoreInvariant.{IsStore}

module _ (c d : CellsView) (list : List KoidCounts) (packets : List ℕ) (x : ℕ) (a b : ObjectRow) where
  store-alike : (index : RowChains) → IsStore c list packets index → AlikeExchanged c d x a b → IsStore d list packets index
  store-alike index is e = record {
    koid_counts = subst (λ (t : CellsView). AreKoidCounts t.state list) (sym e.put) (numbers-alike c.state x a b e.was e.alike list is.koid_counts);
    few = subst (λ (t : CellsView). NamesFew t.state) (sym e.put) (names_few-alike c.state x a b e.was e.alike is.few);
    packets_counted = subst (λ (t : CellsView). ArePending t packets) (sym e.put) (counted-other c (key.Object x) (Some (rows.Object a)) packets (λ p n same. cc) is.packets_counted);
    indexed = subst (λ (t : CellsView). IsIndexed t index) (sym e.put) (indexed-alike c x a b index e.was e.alike is.indexed);
  }

  -- exchanged or not, what holds of the store holds still
  pub store-either : (index : RowChains) (done : Bool) → (done ≡ true → AlikeExchanged c d x a b) → (done ≡ false → (d ≡ c) × (b ≡ a)) → IsStore c list packets index → IsStore d list packets index
  store-either index true e same is = store-alike index is (e refl)
  store-either index false e same is = subst (λ (t : CellsView). IsStore t list packets index) (sym (same refl).0) is
