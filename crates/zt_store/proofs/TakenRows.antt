-- Rows that are taken out of a list one after another, from given places and with copies of their keys.
use Rattle.std.proofs.Common.{◌≡◌, ℕ, ◌+◌, ◌<◌, ◌≤◌, List, [], ◌∷◌, ◌++◌, map, take, get_or, set, length, refl, sym, ap, ◌∙◌, arith, get_or-set_other}
use Rattle.std.specs.Prelude.{nat_eq}
use Rattle.std.proofs.lemmas.Bool.{eqb-false}
use Rattle.std.proofs.lemmas.List.{length-map, length-set, length-take, map-append, take_all, take_more, take_more_set}
use Rattle.std.proofs.lemmas.List.Elements.{All-get_or}
use Rattle.std.proofs.lemmas.Map.Keys.{apart_from_distinct}
use Rattle.zt_rows.specs.declared.keys.RowKey.{RowKey}
use Rattle.zt_rows.specs.declared.rows.Row.{Row}
use Rattle.zt_store.specs.ProofsOnly.ChangedRows.{IsOrder, first_at, no_first, picked}
use Rattle.zt_store.specs.ProofsOnly.KeptRows.{AreOf}
use Rattle.zt_store.proofs.SlotLaws.{Slots}

-- the rows at the first i of the places are taken, those at the others stand as they were
pub record IsTaking (F : Slots) (order : List ℕ) (i : ℕ) (R : Slots) : Type 0 where
  pub even : length R ≡ length F
  pub left : (j : ℕ) → i ≤ j → j < length order → first_at R (get_or order j 0) ≡ first_at F (get_or order j 0)

pub taking-within : (F : Slots) (order : List ℕ) (i : ℕ) (R : Slots) → IsOrder order (length F) → IsTaking F order i R → i < length order → get_or order i 0 < length R
taking-within F order i R places is within = omega (arith, is.even, All-get_or (λ j. j < length F) order i 0 within places.within)

pub taking-start : (F : Slots) (order : List ℕ) → IsTaking F order 0 F
taking-start F order = record { even = refl; left = λ j low within. refl }

-- the rows at the first i of the places are taken and stand, with their keys, first in ks and rs; both lists are as long as `order`
pub record IsFilling (F : Slots) (order : List ℕ) (i : ℕ) (ks : List RowKey) (rs : List Row) (R : Slots) : Type 0 where
  pub keys : take i ks ≡ map (λ e. e.0) (picked F (take i order))
  pub rows : take i rs ≡ map (λ e. e.1) (picked F (take i order))
  pub taking : IsTaking F order i R
  pub touched_index : length ks ≡ length order
  pub row_places : length rs ≡ length order

pub filling-start : (F : Slots) (order : List ℕ) (ks : List RowKey) (rs : List Row) → length ks ≡ length order → length rs ≡ length order → IsFilling F order 0 ks rs F
filling-start F order ks rs keys rows = record { keys = refl; rows = refl; taking = taking-start F order; touched_index = keys; row_places = rows }

pub filling-end : (F : Slots) (order : List ℕ) (i : ℕ) (ks : List RowKey) (rs : List Row) (R : Slots) → IsFilling F order i ks rs R → length order ≤ i → AreOf ks rs (picked F order)
filling-end F order i ks rs R is over = record {
  keys = sym (take_all i ks (omega (arith, over, is.touched_index))) ∙ is.keys ∙ ap (λ places. map (λ (e : RowKey × Row). e.0) (picked F places)) (take_all i order over);
  rows = sym (take_all i rs (omega (arith, over, is.row_places))) ∙ is.rows ∙ ap (λ places. map (λ (e : RowKey × Row). e.1) (picked F places)) (take_all i order over);
}

-- the rows at the first i of the places are taken, and ks and rs are their keys and rows and nothing else
pub record IsPushing (F : Slots) (order : List ℕ) (i : ℕ) (ks : List RowKey) (rs : List Row) (R : Slots) : Type 0 where
  pub keys : ks ≡ map (λ e. e.0) (picked F (take i order))
  pub rows : rs ≡ map (λ e. e.1) (picked F (take i order))
  pub taking : IsTaking F order i R

pub pushing-start : (F : Slots) (order : List ℕ) (ks : List RowKey) (rs : List Row) → ks ≡ [] → rs ≡ [] → IsPushing F order 0 ks rs F
pushing-start F order ks rs keys rows = record { keys = keys; rows = rows; taking = taking-start F order }

pub pushing-end : (F : Slots) (order : List ℕ) (i : ℕ) (ks : List RowKey) (rs : List Row) (R : Slots) → IsPushing F order i ks rs R → length order ≤ i → AreOf ks rs (picked F order)
pushing-end F order i ks rs R is over = record {
  keys = is.keys ∙ ap (λ places. map (λ (e : RowKey × Row). e.0) (picked F places)) (take_all i order over);
  rows = is.rows ∙ ap (λ places. map (λ (e : RowKey × Row). e.1) (picked F places)) (take_all i order over);
}

pushed-count : {X : Type 0} (f : RowKey × Row → X) (F : Slots) (order : List ℕ) (i : ℕ) (xs : List X) → xs ≡ map f (picked F (take i order)) → i ≤ length order → length xs ≡ i
pushed-count f F order i xs is low =
    ap length is ∙ length-map (picked F (take i order)) f ∙ length-map (take i order) (first_at F) ∙ omega (arith, length-take i order, low)

pub pushing-keys : (F : Slots) (order : List ℕ) (i : ℕ) (ks : List RowKey) (rs : List Row) (R : Slots) → IsPushing F order i ks rs R → i ≤ length order → length ks ≡ i
pushing-keys F order i ks rs R is low = pushed-count (λ (e : RowKey × Row). e.0) F order i ks is.keys low

pub pushing-rows : (F : Slots) (order : List ℕ) (i : ℕ) (ks : List RowKey) (rs : List Row) (R : Slots) → IsPushing F order i ks rs R → i ≤ length order → length rs ≡ i
pushing-rows F order i ks rs R is low = pushed-count (λ (e : RowKey × Row). e.1) F order i rs is.rows low

-- with one more row of those taken so far
picked-next : {X : Type 0} (f : RowKey × Row → X) (F : Slots) (order : List ℕ) (i : ℕ) (xs : List X) (x : X) → xs ≡ map f (picked F (take i order)) → x ≡ f (first_at F (get_or order i 0)) → i < length order
    → xs ++ x ∷ [] ≡ map f (picked F (take (i + 1) order))
picked-next f F order i xs x so_far came within =
    (λ j. so_far j ++ came j ∷ []) ∙ sym (map-append f (picked F (take i order)) (first_at F (get_or order i 0) ∷ []))
    ∙ ap (map f) (sym (map-append (first_at F) (take i order) (get_or order i 0 ∷ []))) ∙ ap (λ places. map f (picked F places)) (sym (take_more order i 0 within))

-- where k and x are taken, v is left in the place, and Q are the rows then
module _ (F : Slots) (order : List ℕ) (i : ℕ) (R Q : Slots) (k : RowKey) (x v : Row) (places : IsOrder order (length F)) (is : IsTaking F order i R) (within : i < length order)
    (was : ◌≡◌ {A = RowKey × Row} (k, x) (first_at R (get_or order i 0))) (put : Q ≡ set R (get_or order i 0) (k, v)) where
  taking-next : IsTaking F order (i + 1) Q
  taking-next = record {
    even = ap length put ∙ length-set R (get_or order i 0) (k, v) ∙ is.even;
    left = λ j low there.
        ap (λ rows. first_at rows (get_or order j 0)) put
        ∙ get_or-set_other R (get_or order i 0) (get_or order j 0) (k, v) no_first
        (λ same. eqb-false (get_or order i 0) (get_or order j 0) (apart_from_distinct nat_eq order i j 0 places.apart (omega (arith, low)) there) (sym same))
        ∙ is.left j (omega (arith, low)) there;
  }

  module _ (ks : List RowKey) (rs : List Row) where
    taken : ◌≡◌ {A = RowKey × Row} (k, x) (first_at F (get_or order i 0))
    taken = was ∙ is.left i (omega arith) within

    key : k ≡ (first_at F (get_or order i 0)).0
    key = ap (λ (e : RowKey × Row). e.0) taken

    row : x ≡ (first_at F (get_or order i 0)).1
    row = ap (λ (e : RowKey × Row). e.1) taken

    -- into as many places
    pub filling-next : IsFilling F order i ks rs R → IsFilling F order (i + 1) (set ks i k) (set rs i x) Q
    filling-next filling = record {
      keys = take_more_set ks i k (omega (arith, within, filling.touched_index)) ∙ picked-next (λ (e : RowKey × Row). e.0) F order i (take i ks) _ filling.keys key within;
      rows = take_more_set rs i x (omega (arith, within, filling.row_places)) ∙ picked-next (λ (e : RowKey × Row). e.1) F order i (take i rs) _ filling.rows row within;
      taking = taking-next;
      touched_index = length-set ks i k ∙ filling.touched_index;
      row_places = length-set rs i x ∙ filling.row_places;
    }

    -- behind those in two lists
    pub pushing-next : (keys : List RowKey) (rows : List Row) → IsPushing F order i ks rs R → keys ≡ ks ++ k ∷ [] → rows ≡ rs ++ x ∷ [] → IsPushing F order (i + 1) keys rows Q
    pushing-next keys rows pushing more_keys more_rows = record {
      keys = more_keys ∙ picked-next (λ (e : RowKey × Row). e.0) F order i ks _ pushing.keys key within;
      rows = more_rows ∙ picked-next (λ (e : RowKey × Row). e.1) F order i rs _ pushing.rows row within;
      taking = taking-next;
    }
