-- Slots, each beside its key or at the place of its key in another list: what they stand for, and an exchange of them with
-- a state's rows, one after another.
use Rattle.std.proofs.Common.{◌≡◌, ℕ, zero, suc, ◌+◌, ◌<◌, ◌≤◌, true, List, [], ◌∷◌, ◌++◌, map, get_or, set, length, Option, None, Some, refl, sym, ap, ◌∙◌, subst, arith}
use Rattle.std.specs.List.{IsDistinct, slice_get, zip}
use Rattle.std.specs.Global.{Vec}
use Rattle.std.specs.Option.{option_map}
use Rattle.std.specs.Vec.{with_items}
use Rattle.std.proofs.lemmas.List.{get_or-map, get_or_default, length-map, map-append, set-append_right, with_items_is}
use Rattle.std.proofs.lemmas.Option.{slice_get-get_or, slice_get-map}
use Rattle.zt_rows.specs.declared.keys.RowKey.{RowKey}
use Rattle.zt_rows.specs.declared.rows.Row.{Row}
use Rattle.zt_rows.specs.Keys.{rowkey_eq}
use Rattle.zt_rows.specs.State.{State, row, put}
use Rattle.zt_rows.specs.Change.{before, exchange}
use Rattle.zt_rows.specs.Room.{SuitsKey}
use Rattle.zt_cells.specs.RowSlots.{decode_slot}
use Rattle.zt_store.specs.Places.{Places, fits_row}
use Rattle.zt_store.specs.StoreView.{Stored}
use Rattle.zt_store.specs.ProofsOnly.ChangedRows.{first_at, no_first}
use Rattle.zt_store.specs.ProofsOnly.BeforeImages.{Firsts}
use Rattle.zt_store.specs.ProofsOnly.KeptRows.{AreOf, pairs_of, rows_of, under_keys}
use Rattle.zt_store.specs.ProofsOnly.RecordRows.{IsSlotRecord, IsRecord}
use Rattle.zt_store.specs.ProofsOnly.StoreView.{AllSuit, standing}
use Rattle.zt_store.proofs.Fitting.{Rows}
use Rattle.zt_store.proofs.Exchanges.{IsSwapping, keys_of}
use Rattle.zt_store.proofs.RecordLaws.{distinct-record, record-before, record-exchanged}
use Rattle.zt_store.proofs.SideBySide.{beside-end, beside-fits, beside-step, beside-suits}

abbrev pub Slots : Type 0
Slots = List (RowKey × Row)

abbrev pub slot_keys : Slots → List RowKey
slot_keys F = map (λ e. e.0) F

-- what a slot stands for, beside its key
abbrev pub held_by : RowKey × Row → RowKey × Option Row
held_by e = (e.0, decode_slot e.0 e.1)

-- ---- rows beside their keys

pub length-rows_of : (F : Slots) → length (rows_of F) ≡ length F
length-rows_of F = length-map F held_by

pub keys-rows_of : (F : Slots) → keys_of (rows_of F) ≡ map (λ e. e.0) F
keys-rows_of [] = refl
keys-rows_of (e ∷ F) = ap (λ ks. e.0 ∷ ks) (keys-rows_of F)

pub rows_of-at : (F : Slots) (i : ℕ) → i < length F → held_by (first_at F i) ≡ get_or (rows_of F) i (held_by (first_at F i))
rows_of-at F i within = sym (get_or-map held_by F i no_first (held_by (first_at F i)) within)

pub key-read : (F : Slots) (i : ℕ) (k : RowKey) → i < length F → k ≡ (first_at F i).0 → Some k ≡ slice_get (keys_of (rows_of F)) i
key-read F i k within read =
    let here : slice_get F i ≡ Some (first_at F i) = slice_get-get_or F i no_first within in
    ap Some read ∙ ap (option_map (λ (x : RowKey × Row). x.0)) (sym here) ∙ sym (slice_get-map (λ (x : RowKey × Row). x.0) F i) ∙ ap (λ ks. slice_get ks i) (sym (keys-rows_of F))

none-past : (ks : List RowKey) (i : ℕ) → length ks ≤ i → None ≡ slice_get ks i
none-past [] i over = refl
none-past (k ∷ ks) zero over = absurd (omega (arith, over))
none-past (k ∷ ks) (suc i) over = none-past ks i (omega (arith, over))

pub key-past : (F : Slots) (i : ℕ) → length F ≤ i → None ≡ slice_get (keys_of (rows_of F)) i
key-past F i over =
    none-past (keys_of (rows_of F)) i (omega (arith, over, ap length (keys-rows_of F), length-map F (λ (e : RowKey × Row). e.0)))

-- ---- rows at the places of their keys

pub length-under_keys : (ks : List RowKey) (rs : List Row) → length rs ≡ length ks → length (under_keys ks rs) ≡ length ks
length-under_keys [] rs even = refl
length-under_keys (k ∷ ks) [] even = absurd (omega (arith, even))
length-under_keys (k ∷ ks) (r ∷ rs) even = ap suc (length-under_keys ks rs (omega (arith, even)))

pub under_keys-at : (ks : List RowKey) (rs : List Row) (i : ℕ) (k : RowKey) (r : Row) → length rs ≡ length ks → i < length ks → k ≡ get_or ks i k → r ≡ get_or rs i r → decode_slot k r ≡ get_or (under_keys ks rs) i (decode_slot k r)
under_keys-at [] rs i k r even within key_at row_at = absurd (omega (arith, within))
under_keys-at (x ∷ ks) [] i k r even within key_at row_at = absurd (omega (arith, even))
under_keys-at (x ∷ ks) (y ∷ rs) zero k r even within key_at row_at = λ j. decode_slot (key_at j) (row_at j)
under_keys-at (x ∷ ks) (y ∷ rs) (suc i) k r even within key_at row_at = under_keys-at ks rs i k r (omega (arith, even)) (omega (arith, within)) key_at row_at

pub under_keys-set : (ks : List RowKey) (rs : List Row) (i : ℕ) (k : RowKey) (r : Row) → length rs ≡ length ks → i < length ks → k ≡ get_or ks i k → under_keys ks (set rs i r) ≡ set (under_keys ks rs) i (decode_slot k r)
under_keys-set [] rs i k r even within key_at = absurd (omega (arith, within))
under_keys-set (x ∷ ks) [] i k r even within key_at = absurd (omega (arith, even))
under_keys-set (x ∷ ks) (y ∷ rs) zero k r even within key_at = ap (λ q. decode_slot q r ∷ under_keys ks rs) (sym key_at)
under_keys-set (x ∷ ks) (y ∷ rs) (suc i) k r even within key_at = ap (λ R. decode_slot x y ∷ R) (under_keys-set ks rs i k r (omega (arith, even)) (omega (arith, within)) key_at)

-- ---- an exchange of these, where k is the key at i, and d stands for what is read beyond the end

module _ (S : State) (R : Rows) (p : Places) (i : ℕ) (ks : List RowKey) (rs : List Row) (k : RowKey) (d : Row) (even : length rs ≡ length ks) (within : i < length ks) (key_at : k ≡ get_or ks i k) where
  abbrev r : Row
  r = get_or rs i d

  abbrev o : Option Row
  o = decode_slot k r

  same_row : o ≡ get_or (under_keys ks rs) i o
  same_row = under_keys-at ks rs i k r even within key_at (get_or_default rs i d r (omega (arith, within, even)))

  pub pairs-fits : (T : State) (places : Places) → IsSwapping S R p i T (pairs_of ks rs) → places ≡ p → fits_row places k (decode_slot k (get_or rs i d)) ≡ true
  pairs-fits T places is same =
      subst (λ x. fits_row places k x ≡ true) (sym same_row) (beside-fits S R p i ks (under_keys ks rs) k o (length-under_keys ks rs even) within key_at T places is same)

  pub pairs-suits : (T : State) → IsSwapping S R p i T (pairs_of ks rs) → SuitsKey k (decode_slot k (get_or rs i d))
  pairs-suits T is = subst (SuitsKey k) (sym same_row) (beside-suits S R p i ks (under_keys ks rs) k o (length-under_keys ks rs even) within key_at T is)

  pub pairs-step : (store new : Stored) (came : Row) → IsSwapping S R p i store.state (pairs_of ks rs) → store.places ≡ p → new ≡ standing store (put store.state k (decode_slot k (get_or rs i d)))
      → decode_slot k came ≡ row store.state k → SuitsKey k (decode_slot k came) → fits_row new.places k (decode_slot k came) ≡ true
      → IsSwapping S R p (i + 1) new.state (pairs_of ks (set rs i came)) × (new.places ≡ p)
  pairs-step store new came is same stands was suits fit =
      let next = beside-step S R p i ks (under_keys ks rs) k o (length-under_keys ks rs even) within key_at store new (decode_slot k came) is same
      (subst (λ x. new ≡ standing store (put store.state k x)) same_row stands) was suits fit in
      (subst (λ os. IsSwapping S R p (i + 1) new.state (zip ks os)) (sym (under_keys-set ks rs i k came even within key_at)) next.0, next.1)

pub length-pairs : (ks : List RowKey) (rs : List Row) → length rs ≡ length ks → length (pairs_of ks rs) ≡ length ks
length-pairs [] rs even = refl
length-pairs (k ∷ ks) [] even = absurd (omega (arith, even))
length-pairs (k ∷ ks) (r ∷ rs) even = ap suc (length-pairs ks rs (omega (arith, even)))

pub rows_of-zip : (ks : List RowKey) (rs : List Row) → rows_of (zip ks rs) ≡ pairs_of ks rs
rows_of-zip [] rs = refl
rows_of-zip (k ∷ ks) [] = refl
rows_of-zip (k ∷ ks) (r ∷ rs) = ap (λ R. (k, decode_slot k r) ∷ R) (rows_of-zip ks rs)

-- before-images made of the lists ks and rs stand for what the two lists (lent as xs and ys) stand for
pub rows_of-lent : (f : Firsts) (ks xs : List RowKey) (rs ys : List Row) (n : ℕ) → ◌≡◌ {A = Firsts} (record { rows = zip ks rs; room = n }) f → xs ≡ ks → ys ≡ rs → rows_of f.rows ≡ pairs_of xs ys
rows_of-lent f ks xs rs ys n seen keys rows = sym (ap (λ g. rows_of g.rows) seen) ∙ rows_of-zip ks rs ∙ sym (λ j. pairs_of (keys j) (rows j))

-- keys and a vector into which as many rows were written stand for what the keys and these rows stand for
pub rows_of-written : (ks : List RowKey) (v : Vec Row) (rs : List Row) → length rs ≡ length v.items → rows_of (zip ks (with_items v rs).items) ≡ pairs_of ks rs
rows_of-written ks v rs same = ap (λ qs. rows_of (zip ks qs)) (with_items_is v rs (omega (arith, same, v.ok.0))) ∙ rows_of-zip ks rs

-- one more behind them
zip-behind : (ks : List RowKey) (rs : List Row) (k : RowKey) (v : Row) → length rs ≡ length ks → zip (ks ++ k ∷ []) (rs ++ v ∷ []) ≡ zip ks rs ++ (k, v) ∷ []
zip-behind [] [] k v even = refl
zip-behind [] (r ∷ rs) k v even = absurd (omega (arith, even))
zip-behind (x ∷ ks) [] k v even = absurd (omega (arith, even))
zip-behind (x ∷ ks) (r ∷ rs) k v even = ap (λ R. (x, r) ∷ R) (zip-behind ks rs k v (omega (arith, even)))

pub rows_of-behind : (ks more : List RowKey) (rs pushed : List Row) (k : RowKey) (v : Row) (o : Option Row) → length rs ≡ length ks → more ≡ ks ++ k ∷ [] → pushed ≡ rs ++ v ∷ [] → decode_slot k v ≡ o
    → rows_of (zip more pushed) ≡ rows_of (zip ks rs) ++ (k, o) ∷ []
rows_of-behind ks more rs pushed k v o even keys rows was =
    (λ j. rows_of (zip (keys j) (rows j))) ∙ ap rows_of (zip-behind ks rs k v even) ∙ map-append held_by (zip ks rs) ((k, v) ∷ [])
    ∙ ap (λ x. rows_of (zip ks rs) ++ (k, x) ∷ []) was

-- the last of the rows is another
set-last : (rs pushed : List Row) (v u : Row) (place : ℕ) → pushed ≡ rs ++ v ∷ [] → place ≡ length rs → set pushed place u ≡ rs ++ u ∷ []
set-last rs pushed v u place rows last =
    (λ j. set (rows j) (last j) u) ∙ set-append_right rs (v ∷ []) (length rs) (length rs) u refl (omega arith) ∙ ap (λ n. rs ++ set (v ∷ []) n u) {y = 0} (omega arith)

pub rows_of-last : (ks more : List RowKey) (rs pushed : List Row) (k : RowKey) (v u : Row) (o : Option Row) (place : ℕ) → length rs ≡ length ks → more ≡ ks ++ k ∷ [] → pushed ≡ rs ++ v ∷ [] → place ≡ length rs → decode_slot k u ≡ o
    → rows_of (zip more (set pushed place u)) ≡ rows_of (zip ks rs) ++ (k, o) ∷ []
rows_of-last ks more rs pushed k v u o place even keys rows last was = rows_of-behind ks more rs (set pushed place u) k u o even keys (set-last rs pushed v u place rows last) was

pub pairs-end : (S T : State) (ks : List RowKey) (rs qs : List Row) (p : Places) (i : ℕ) → IsSwapping S (pairs_of ks rs) p i T (pairs_of ks qs) → length qs ≡ length ks → length qs ≤ i → ◌≡◌ {A = State × Rows} (T, pairs_of ks qs) (exchange S (pairs_of ks rs))
pairs-end S T ks rs qs p i swapping even over =
    let size = length-under_keys ks qs even in
    beside-end S T ks (under_keys ks rs) (under_keys ks qs) p i swapping size (omega (arith, size, even, over))

pub distinct-pairs : (ks : List RowKey) (rs : List Row) → IsSlotRecord ks rs → IsDistinct rowkey_eq (keys_of (pairs_of ks rs))
distinct-pairs ks rs is = distinct-record ks (under_keys ks rs) is.recorded

pub suited-pairs : (ks : List RowKey) (rs : List Row) → IsSlotRecord ks rs → AllSuit (pairs_of ks rs)
suited-pairs ks rs is = is.recorded.suited

pub pairs-record : (S T : State) (ks : List RowKey) (rs qs : List Row) → IsSlotRecord ks rs → length qs ≡ length ks → ◌≡◌ {A = State × Rows} (T, pairs_of ks qs) (exchange S (pairs_of ks rs)) → AllSuit (pairs_of ks qs) → IsSlotRecord ks qs
pairs-record S T ks rs qs is even exchanged suited = record {
  even = even;
  recorded = record-exchanged S T ks (under_keys ks rs) (under_keys ks qs) is.recorded (length-under_keys ks qs even) exchanged suited;
}

-- ---- a record of what was before

under_keys-unzipped : (F : Slots) → under_keys (map (λ e. e.0) F) (map (λ e. e.1) F) ≡ map (λ e. e.1) (rows_of F)
under_keys-unzipped [] = refl
under_keys-unzipped (e ∷ F) = ap (λ os. decode_slot e.0 e.1 ∷ os) (under_keys-unzipped F)

pairs-unzipped : (F : Slots) → pairs_of (map (λ e. e.0) F) (map (λ e. e.1) F) ≡ rows_of F
pairs-unzipped [] = refl
pairs-unzipped (e ∷ F) = ap (λ R. held_by e ∷ R) (pairs-unzipped F)

pub pairs-filled : (F : Slots) (ks : List RowKey) (rs : List Row) → AreOf ks rs F → pairs_of ks rs ≡ rows_of F
pairs-filled F ks rs is = (λ i. pairs_of (is.keys i) (is.rows i)) ∙ pairs-unzipped F

pub filled-slots : (S U : State) (F : Slots) (ks : List RowKey) (rs : List Row) → AreOf ks rs F → rows_of F ≡ before S U → AllSuit (rows_of F) → IsSlotRecord ks rs
filled-slots S U F ks rs is recorded suited =
    let whole : IsRecord (map (λ (e : RowKey × Row). e.0) F) (map (λ (e : RowKey × Option Row). e.1) (rows_of F)) =
    subst (λ xs. IsRecord xs (map (λ (e : RowKey × Option Row). e.1) (rows_of F))) (keys-rows_of F) (record-before S U (rows_of F) recorded suited) in
    let listed : IsRecord (map (λ (e : RowKey × Row). e.0) F) (under_keys (map (λ (e : RowKey × Row). e.0) F) (map (λ (e : RowKey × Row). e.1) F)) =
    subst (IsRecord (map (λ (e : RowKey × Row). e.0) F)) (sym (under_keys-unzipped F)) whole in
    record {
      even = ap length is.rows ∙ length-map F (λ (e : RowKey × Row). e.1) ∙ sym (length-map F (λ (e : RowKey × Row). e.0)) ∙ sym (ap length is.keys);
      recorded = subst (λ xs. IsRecord xs (under_keys xs rs)) (sym is.keys) (subst (λ ys. IsRecord (map (λ (e : RowKey × Row). e.0) F) (under_keys (map (λ (e : RowKey × Row). e.0) F) ys)) (sym is.rows) listed);
    }
