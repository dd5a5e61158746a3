-- Places that were made for the packets of one port: those of the others are as many as they were.
use Rattle.std.proofs.Common.{◌≡◌, ◌≤◌, ◌≢◌, ℕ, ◌+◌, Bool, true, false, cond, List, length, get_or, Option, sym, subst, refl, arith}
use Rattle.std.specs.Prelude.{max, ◌==◌}
use Rattle.std.proofs.lemmas.Bool.{eqb-true, eqb-false}
use Rattle.zt_rows.specs.declared.keys.RowKey.{RowKey}
use Rattle.zt_rows.specs.declared.keys.RowKey.TheVariants as key
use Rattle.zt_rows.specs.declared.rows.Row.{Row}
use Rattle.zt_cells.specs.ProofsOnly.TablePlaces.{table, lengths}
use Rattle.zt_cells.specs.ProofsOnly.RowTables.{sizes_of, state_in}
use Rattle.zt_cells.specs.CellsView.{CellsView}
use Rattle.zt_cells.specs.TableSizes.{packets_after}
use Rattle.zt_cells.specs.declared.cells.row_tables.RowTables.{RowTables}
use Rattle.zt_cells.proofs.RowTableLaws.{at_lengths}

-- the port y has no more places than this, and the others have as many as before
pub packets-grown : (old new : List (List (Option Row))) (k : RowKey) (y n len : ℕ) → k ≡ key.Packet y n → len ≡ n + 1 → ((x : ℕ) → x ≢ y → table new x ≡ table old x) → length (table new y) ≤ len
    → (x : ℕ) → length (table new x) ≤ packets_after k x (length (table old x))
packets-grown old new k y n len is at others bound x =
    subst (λ q. length (table new x) ≤ packets_after q x (length (table old x))) (sym is) (here (y == x) refl)
  where
    here : (b : Bool) → (y == x) ≡ b → length (table new x) ≤ cond b (max (length (table old x)) (n + 1)) (length (table old x))
    here true e =
        let few : length (table new y) ≤ max (length (table old x)) (n + 1) = omega arith in
        subst (λ z. length (table new z) ≤ max (length (table old x)) (n + 1)) (eqb-true y x e) few
    here false e =
        let same : table new x ≡ table old x = others x (λ p. eqb-false y x e (sym p)) in
        subst (λ (t : List (Option Row)). length (table new x) ≤ length t) same (omega arith)

pub packets-made : (old new : RowTables) (s : CellsView) (k : RowKey) → record { state = state_in old; sizes = sizes_of old } ≡ s → ((x : ℕ) → length (table new.packets x) ≤ packets_after k x (length (table old.packets x)))
    → (x : ℕ) → get_or (sizes_of new).packets x 0 ≤ packets_after k x (get_or s.sizes.packets x 0)
unfolding sizes_of
packets-made old new s k seen h x =
    let a = subst (λ (m : ℕ). m ≤ packets_after k x (length (table old.packets x))) (sym (at_lengths new.packets x)) (h x) in
    let b = subst (λ (m : ℕ). get_or (lengths new.packets) x 0 ≤ packets_after k x m) (sym (at_lengths old.packets x)) a in
    subst (λ (t : CellsView). get_or (lengths new.packets) x 0 ≤ packets_after k x (get_or t.sizes.packets x 0)) seen b
