-- Keys and rows in two lists, and the list of both.
use Rattle.std.proofs.Common.{◌≡◌, ℕ, zero, suc, ◌<◌, List, [], ◌∷◌, ◌++◌, map, take, get_or, set, length, refl, sym, ap, ◌∙◌, arith}
use Rattle.std.specs.Global.{Vec}
use Rattle.std.specs.List.{zip}
use Rattle.std.specs.Vec.{with_items}
use Rattle.std.proofs.lemmas.List.{length-map, with_items_is}
use Rattle.std.proofs.lemmas.Slice.Zip.{firsts-zip}
use Rattle.zt_rows.specs.declared.keys.RowKey.{RowKey}
use Rattle.zt_rows.specs.declared.rows.Row.{Row}
use Rattle.zt_store.specs.ProofsOnly.ChangedRows.{first_at, key_at, picked, row_at}
use Rattle.zt_store.specs.ProofsOnly.KeptRows.{AreOf}

pub length-firsts : (ks : List RowKey) (rs : List Row) → length rs ≡ length ks → length (zip ks rs) ≡ length ks
length-firsts ks rs even = sym (length-map (zip ks rs) (λ (e : RowKey × Row). e.0)) ∙ ap length (firsts-zip ks rs even)

pub first-key : (ks : List RowKey) (rs : List Row) (i : ℕ) → length rs ≡ length ks → (first_at (zip ks rs) i).0 ≡ key_at ks i
first-key [] rs i even = refl
first-key (k ∷ ks) [] i even = absurd (omega (arith, even))
first-key (k ∷ ks) (r ∷ rs) zero even = refl
first-key (k ∷ ks) (r ∷ rs) (suc i) even = first-key ks rs i (omega (arith, even))

pub first-row : (ks : List RowKey) (rs : List Row) (i : ℕ) → length rs ≡ length ks → (first_at (zip ks rs) i).1 ≡ row_at rs i
first-row [] [] i even = refl
first-row [] (r ∷ rs) i even = absurd (omega (arith, even))
first-row (k ∷ ks) [] i even = absurd (omega (arith, even))
first-row (k ∷ ks) (r ∷ rs) zero even = refl
first-row (k ∷ ks) (r ∷ rs) (suc i) even = first-row ks rs i (omega (arith, even))

pub first-pair : (ks : List RowKey) (rs : List Row) (i : ℕ) → length rs ≡ length ks → ◌≡◌ {A = RowKey × Row} (key_at ks i, row_at rs i) (first_at (zip ks rs) i)
first-pair ks rs i even = λ j. (sym (first-key ks rs i even) j, sym (first-row ks rs i even) j)

pub firsts-push : (ks : List RowKey) (rs : List Row) (k : RowKey) (r : Row) → length rs ≡ length ks → zip (ks ++ k ∷ []) (rs ++ r ∷ []) ≡ zip ks rs ++ (k, r) ∷ []
firsts-push [] [] k r even = refl
firsts-push [] (y ∷ rs) k r even = absurd (omega (arith, even))
firsts-push (x ∷ ks) [] k r even = absurd (omega (arith, even))
firsts-push (x ∷ ks) (y ∷ rs) k r even = ap (λ R. (x, y) ∷ R) (firsts-push ks rs k r (omega (arith, even)))

pub firsts-set : (ks : List RowKey) (rs : List Row) (i : ℕ) (k : RowKey) (r : Row) → i < length ks → k ≡ get_or ks i k → zip ks (set rs i r) ≡ set (zip ks rs) i (k, r)
firsts-set [] rs i k r within at = absurd (omega (arith, within))
firsts-set (x ∷ ks) [] i k r within at = refl
firsts-set (x ∷ ks) (y ∷ rs) zero k r within at = ap (λ q. (q, r) ∷ zip ks rs) (sym at)
firsts-set (x ∷ ks) (y ∷ rs) (suc i) k r within at = ap (λ R. (x, y) ∷ R) (firsts-set ks rs i k r (omega (arith, within)) at)

pub front-written : {A : Type 0} (v : Vec A) (ws : List A) (n : ℕ) → length ws ≡ length v.items → take n (with_items v ws).items ≡ take n ws
front-written v ws n same = ap (take n) (with_items_is v ws (omega (arith, same, v.ok.0)))

-- ---- the rows at the places of an order

picked-keys : (ks : List RowKey) (rs : List Row) (order : List ℕ) → length rs ≡ length ks → map (λ e. e.0) (picked (zip ks rs) order) ≡ map (key_at ks) order
picked-keys ks rs [] even = refl
picked-keys ks rs (o ∷ order) even = λ j. first-key ks rs o even j ∷ picked-keys ks rs order even j

picked-rows : (ks : List RowKey) (rs : List Row) (order : List ℕ) → length rs ≡ length ks → map (λ e. e.1) (picked (zip ks rs) order) ≡ map (row_at rs) order
picked-rows ks rs [] even = refl
picked-rows ks rs (o ∷ order) even = λ j. first-row ks rs o even j ∷ picked-rows ks rs order even j

pub arranged-are : (ks xs : List RowKey) (rs ys : List Row) (order : List ℕ) → length rs ≡ length ks → xs ≡ map (key_at ks) order → ys ≡ map (row_at rs) order → AreOf xs ys (picked (zip ks rs) order)
arranged-are ks xs rs ys order even keys rows = record {
  keys = keys ∙ sym (picked-keys ks rs order even);
  rows = rows ∙ sym (picked-rows ks rs order even);
}
