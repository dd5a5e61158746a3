-- A store: what fits before and after an exchange, and the rows that a history begins with.
use Rattle.std.proofs.Common.{◌≡◌, ℕ, true, List, length, Option, Some, refl, ap, ◌∙◌}
use Rattle.zt_bits.specs.declared.kinds.Kind.TheVariants as kind
use Rattle.zt_rows.specs.declared.keys.RowKey.{RowKey}
use Rattle.zt_rows.specs.declared.keys.RowKey.TheVariants as key
use Rattle.zt_rows.specs.declared.rows.Life.TheVariants as life
use Rattle.zt_rows.specs.declared.rows.Row.{Row}
use Rattle.zt_rows.specs.declared.rows.Row.TheVariants as rows
use Rattle.zt_rows.specs.Opening.{hollow, opening}
use Rattle.zt_rows.specs.State.{State, row, put}
use Rattle.zt_rows.proofs.RowLaws.{and_left, and_both}
use Rattle.zt_rows.proofs.StateLaws.{same_rows}
use Rattle.zt_cells.specs.TableSizes.{TableSizes, has_place}
use Rattle.zt_index.specs.declared.support_counts.KoidCounts.{KoidCounts}
use Rattle.zt_index.specs.KoidCounts.{counts_within_if}
use Rattle.zt_index.specs.ProofsOnly.KoidCounts.{AreKoidCounts}
use Rattle.zt_index.proofs.SupportCountLaws.{stands-within}
use Rattle.zt_store.specs.Places.{fits_row}
use Rattle.zt_store.specs.StoreView.{Stored}

-- ---- what fits

-- the key of what fits has its place
pub place-there : (s : Stored) (S : State) (p : TableSizes) (koids : ℕ) (k : RowKey) (r : Option Row) → record { state = S; places = record { sizes = p; koids = koids } } ≡ s → fits_row s.places k r ≡ true → has_place p k ≡ true
place-there s S p koids k r seen fit = ap (λ (t : Stored). has_place t.places.sizes k) seen ∙ and_left (has_place s.places.sizes k) (counts_within_if s.places.koids k r) fit

-- the row that went has its place, and its koids have numbers
pub went-fits : (s : Stored) (S : State) (p q : TableSizes) (list new : List KoidCounts) (k : RowKey) (came went : Option Row) → record { state = S; places = record { sizes = p; koids = length list } } ≡ s
    → fits_row s.places k came ≡ true → q ≡ p → length new ≡ length list → went ≡ row S k → AreKoidCounts S list → fits_row (record { sizes = q; koids = length new }) k went ≡ true
went-fits s S p q list new k came went seen fit same len is_went koid_counts =
    let placed : has_place p k ≡ true = ap (λ (t : Stored). has_place t.places.sizes k) seen ∙ and_left _ _ fit in
    let covered : counts_within_if (length list) k (row S k) ≡ true = stands-within S list k koid_counts in
    and_both _ _ (ap (λ t. has_place t k) same ∙ placed) ((λ i. counts_within_if (len i) k (is_went i)) ∙ covered)

-- ---- the beginning of a history

pub opened : put (put (put (put hollow (key.Counters) (Some (rows.Counters (record { next_koid = 1026; next_wait = 0 }))))
    (key.Object 1024) (Some (rows.Object (record { kind = kind.Job; signals = record { 0 = 0x10 }; link = 0; life = life.Live; next = 0; critical = 0 }))))
    (key.Object 1025) (Some (rows.Object (record { kind = kind.Process; signals = record { 0 = 0 }; link = 1024; life = life.Live; next = 1; critical = 0 }))))
    (key.Entry 1025 3) (Some (rows.Entry (record { koid = 1024; rights = record { 0 = 0x3d203 } })))
    ≡ opening
unfolding put hollow
opened = same_rows _ _ refl
