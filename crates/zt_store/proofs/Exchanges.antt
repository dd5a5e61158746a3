-- Rows put over a state one after another, by looks at a key, and a step of their exchange with the state's.
use Rattle.std.proofs.Common.{◌≡◌, ℕ, ◌+◌, ◌<◌, ◌≤◌, Bool, true, false, cond, ◌||◌, List, [], ◌∷◌, ◌++◌, map, take, drop, get_or, set, length, Option, Some, None, is_some, refl, sym, ap, ◌∙◌, subst, unwrap_or, append_assoc, arith}
use Rattle.std.specs.FinMap.Entries as entries
use Rattle.std.specs.Cmp.{IsEquivalence}
use Rattle.std.specs.List.{list_any, AllByRecursion, IsDistinct}
use Rattle.std.specs.Map.{lookup}
use Rattle.std.proofs.lemmas.List.{get_or_default, drop_more, take_more_set, drop-set-lt, drop_all, take_all, append-nil}
use Rattle.std.proofs.lemmas.Map.Keys.{IsDistinct-head, IsDistinct-tail}
use Rattle.zt_rows.specs.declared.keys.RowKey.{RowKey}
use Rattle.zt_rows.specs.declared.rows.Row.{Row}
use Rattle.zt_rows.specs.Keys.{rowkey_cmp, rowkey_eq}
use Rattle.zt_rows.specs.ProofsOnly.KeyOrder.{rowkey_cmp_total, rowkey_eq-cmp, rowkey_eq-equal, rowkey_eq-self, rowkey_eq-laws}
use Rattle.zt_rows.specs.State.{State, row, put}
use Rattle.zt_rows.specs.Change.{with_rows, rows_at, exchange}
use Rattle.zt_rows.specs.Room.{SuitsKey}
use Rattle.zt_rows.proofs.StateLaws.{row-put, row-put-other, same_state}
use Rattle.zt_rows.proofs.ChangeLaws.{row-with_rows}
use Rattle.zt_store.specs.Places.{Places, fits, fits_row}
use Rattle.zt_store.specs.StoreView.{Stored}
use Rattle.zt_store.specs.ProofsOnly.StoreView.{standing, AllSuit}
use Rattle.zt_store.specs.StepView.{listed}
use Rattle.zt_store.proofs.Fitting.{Rows, fits-set, fits-at, suits-set, suits-at}

abbrev pub keys_of : Rows → List RowKey
keys_of R = map (λ e. e.0) R

pub key_equality : IsEquivalence rowkey_eq
key_equality = record {
  refl = rowkey_eq-self;
  symm = rowkey_eq-laws.symm;
  congr = λ x y z e. ap (λ k. rowkey_eq k z) (rowkey_eq-equal x y e);
}

-- ---- the row under a key of a list

pub find-listed : (q : RowKey) (R : Rows) → is_some (entries.find rowkey_cmp q R) ≡ listed (keys_of R) q
find-listed q R = entries.is_some-find rowkey_cmp q R ∙ (λ i. list_any (λ x. rowkey_eq-cmp q x i) (keys_of R))

none_of : {X : Type 0} (o : Option X) → is_some o ≡ false → o ≡ None
none_of None e = refl
none_of (Some x) e = cc

pub find-unlisted : (q : RowKey) (R : Rows) → listed (keys_of R) q ≡ false → entries.find rowkey_cmp q R ≡ None
find-unlisted q R out = none_of _ (find-listed q R ∙ out)

pub find-lookup : (q : RowKey) (R : Rows) → entries.find rowkey_cmp q R ≡ lookup (rowkey_eq q) R
find-lookup q [] = refl
find-lookup q (e ∷ es) =
    ap (λ b. cond b (Some e.1) (entries.find rowkey_cmp q es)) (rowkey_eq-cmp q e.0) ∙ ap (cond (rowkey_eq q e.0) (Some e.1)) (find-lookup q es)

-- under a key that is not listed the state keeps its row
pub row-unlisted : (S : State) (R : Rows) (q : RowKey) → listed (keys_of R) q ≡ false → row (with_rows S R) q ≡ row S q
row-unlisted S R q out = row-with_rows S R q ∙ ap (λ o. unwrap_or o (row S q)) (find-unlisted q R out)

-- ---- a row put below a list of rows

put_under : (b : Bool) (v r : Option Row) (o : Option (Option Row)) → (b ≡ true → o ≡ None) → unwrap_or o (cond b v r) ≡ cond b v (unwrap_or o r)
put_under true v r o h = ap (λ x. unwrap_or x v) (h refl)
put_under false v r o h = refl

-- under another key than the list's it may as well be put above
pub with_rows-put : (S : State) (k : RowKey) (v : Option Row) (R : Rows) → listed (keys_of R) k ≡ false → with_rows (put S k v) R ≡ put (with_rows S R) k v
with_rows-put S k v R out =
    same_state _ _ (λ q.
    row-with_rows (put S k v) R q ∙ ap (unwrap_or (entries.find rowkey_cmp q R)) (row-put S k v q)
    ∙ put_under (rowkey_eq q k) v (row S q) (entries.find rowkey_cmp q R) (λ e. ap (λ x. entries.find rowkey_cmp x R) (rowkey_eq-equal q k e) ∙ find-unlisted k R out)
    ∙ ap (cond (rowkey_eq q k) v) (sym (row-with_rows S R q)) ∙ sym (row-put (with_rows S R) k v q))

covered : (b : Bool) (v r : Option Row) (o : Option (Option Row)) → (b ≡ true → is_some o ≡ true) → unwrap_or o (cond b v r) ≡ unwrap_or o r
covered b v r (Some x) h = refl
covered true v r None h = let e : false ≡ true = h refl in cc
covered false v r None h = refl

-- under one of the list's keys it is not seen
pub with_rows-put_listed : (S : State) (k : RowKey) (v : Option Row) (R : Rows) → listed (keys_of R) k ≡ true → with_rows (put S k v) R ≡ with_rows S R
with_rows-put_listed S k v R here =
    same_state _ _ (λ q.
    row-with_rows (put S k v) R q ∙ ap (unwrap_or (entries.find rowkey_cmp q R)) (row-put S k v q)
    ∙ covered (rowkey_eq q k) v (row S q) (entries.find rowkey_cmp q R) (λ e. find-listed q R ∙ ap (listed (keys_of R)) (rowkey_eq-equal q k e) ∙ here)
    ∙ sym (row-with_rows S R q))

-- where the old row comes to the list, the list still gives the old state
pub with_rows-push : (S : State) (k : RowKey) (v : Option Row) (R : Rows) → listed (keys_of R) k ≡ false → with_rows (put S k v) (R ++ (k, row S k) ∷ []) ≡ with_rows S R
with_rows-push S k v R out =
    same_state _ _ (λ q.
    row-with_rows (put S k v) (R ++ (k, row S k) ∷ []) q
    ∙ ap (λ o. unwrap_or o (row (put S k v) q)) (entries.find-append rowkey_cmp rowkey_cmp_total R k (row S k) q (find-unlisted k R out))
    ∙ ap (λ b. unwrap_or (cond b (Some (row S k)) (entries.find rowkey_cmp q R)) (row (put S k v) q)) (rowkey_eq-cmp q k)
    ∙ ap (unwrap_or (cond (rowkey_eq q k) (Some (row S k)) (entries.find rowkey_cmp q R))) (row-put S k v q)
    ∙ back q (rowkey_eq q k) refl ∙ sym (row-with_rows S R q))
  where
    back : (q : RowKey) (b : Bool) → rowkey_eq q k ≡ b → unwrap_or (cond b (Some (row S k)) (entries.find rowkey_cmp q R)) (cond b v (row S q)) ≡ unwrap_or (entries.find rowkey_cmp q R) (row S q)
    back q true e =
        let same : q ≡ k = rowkey_eq-equal q k e in
        ap (row S) (sym same) ∙ sym (ap (λ o. unwrap_or o (row S q)) (ap (λ x. entries.find rowkey_cmp x R) same ∙ find-unlisted k R out))
    back q false e = refl

-- ---- an exchange, row by row

pub none_listed : (k : RowKey) (ks : List RowKey) → AllByRecursion (λ y. rowkey_eq k y ≡ false) ks → listed ks k ≡ false
none_listed k [] h = refl
none_listed k (x ∷ xs) h = ap (λ b. b || listed xs k) h.0 ∙ none_listed k xs h.1

pub keys-rows_at : (S : State) (R : Rows) → keys_of (rows_at S R) ≡ keys_of R
keys-rows_at S [] = refl
keys-rows_at S (e ∷ es) = ap (λ ks. e.0 ∷ ks) (keys-rows_at S es)

rows_at-put : (S : State) (k : RowKey) (v : Option Row) (R : Rows) → AllByRecursion (λ y. rowkey_eq k y ≡ false) (keys_of R) → rows_at (put S k v) R ≡ rows_at S R
rows_at-put S k v [] h = refl
rows_at-put S k v (e ∷ es) h =
    let r : row (put S k v) e.0 ≡ row S e.0 = row-put-other S k v e.0 (rowkey_eq-laws.symm e.0 k ∙ h.0) in
    λ i. (e.0, r i) ∷ rows_at-put S k v es h.1 i

-- the first i of the rows are exchanged: the state stands at T, the others are as they were
pub record IsSwapping (S : State) (R : Rows) (p : Places) (i : ℕ) (T : State) (Q : Rows) : Type 0 where
  pub left : with_rows T (drop i Q) ≡ with_rows S R
  pub done : take i Q ++ rows_at T (drop i Q) ≡ rows_at S R
  pub apart : IsDistinct rowkey_eq (keys_of (drop i Q))
  pub suited : AllSuit Q
  pub placed : fits p Q ≡ true

pub swapping-start : (S : State) (R : Rows) (p : Places) → IsDistinct rowkey_eq (keys_of R) → AllSuit R → fits p R ≡ true → IsSwapping S R p 0 S R
swapping-start S R p apart suited placed = record { left = refl; done = refl; apart = apart; suited = suited; placed = placed }

pub swapping-next : (S : State) (R : Rows) (p : Places) (i : ℕ) (T : State) (Q : Rows) (e : RowKey × Option Row) (v : Option Row) → IsSwapping S R p i T Q
    → i < length Q → e ≡ get_or Q i e → v ≡ row T e.0 → SuitsKey e.0 v → fits_row p e.0 v ≡ true → IsSwapping S R p (i + 1) (put T e.0 e.1) (set Q i (e.0, v))
swapping-next S R p i T Q e v is within at was suits fit =
    let rest : Rows = drop (i + 1) Q in
    let next : drop i Q ≡ e ∷ rest = drop_more Q i e within ∙ ap (λ x. x ∷ rest) (sym at) in
    let apart : IsDistinct rowkey_eq (e.0 ∷ keys_of rest) = subst (λ es. IsDistinct rowkey_eq (keys_of es)) next is.apart in
    let alone : AllByRecursion (λ y. rowkey_eq e.0 y ≡ false) (keys_of rest) = IsDistinct-head rowkey_eq e.0 (keys_of rest) apart in
    let less : i < i + 1 = omega arith in
    let kept : drop (i + 1) (set Q i (e.0, v)) ≡ rest = drop-set-lt (i + 1) Q i (e.0, v) less in
    let front : take (i + 1) (set Q i (e.0, v)) ≡ take i Q ++ (e.0, v) ∷ [] = take_more_set Q i (e.0, v) within in
    let row_there : ◌≡◌ {A = RowKey × Option Row} (e.0, v) (e.0, row T e.0) = ap (λ r. (e.0, r)) was in
    record {
      left = ap (with_rows (put T e.0 e.1)) kept ∙ with_rows-put T e.0 e.1 rest (none_listed e.0 (keys_of rest) alone) ∙ ap (with_rows T) (sym next) ∙ is.left;
      done =
          (λ j. front j ++ rows_at (put T e.0 e.1) (kept j))
          ∙ append_assoc (take i Q) ((e.0, v) ∷ []) (rows_at (put T e.0 e.1) rest)
          ∙ (λ j. take i Q ++ row_there j ∷ rows_at-put T e.0 e.1 rest alone j)
          ∙ ap (λ es. take i Q ++ rows_at T es) (sym next) ∙ is.done;
      apart = subst (λ es. IsDistinct rowkey_eq (keys_of es)) (sym kept) (IsDistinct-tail rowkey_eq e.0 (keys_of rest) apart);
      suited = suits-set Q i e.0 v is.suited suits;
      placed = fits-set p Q i e.0 v is.placed fit;
    }

pub swapping-end : (S : State) (R : Rows) (p : Places) (i : ℕ) (T : State) (Q : Rows) → IsSwapping S R p i T Q → length Q ≤ i → ◌≡◌ {A = State × Rows} (T, Q) (exchange S R)
swapping-end S R p i T Q is over =
    let none : drop i Q ≡ [] = drop_all i Q over in
    let state : T ≡ with_rows S R = ap (with_rows T) (sym none) ∙ is.left in
    let rows : Q ≡ rows_at S R =
    sym (append-nil Q) ∙ ap (λ es. es ++ []) (sym (take_all i Q over)) ∙ ap (λ es. take i Q ++ rows_at T es) (sym none) ∙ is.done in
    λ j. (state j, rows j)

-- ---- the same in the words of a loop, where e is the entry at i

module _ (S : State) (R : Rows) (p : Places) (i : ℕ) where
  pub swapping-fits : (T : State) (Q : Rows) (places : Places) (e : RowKey × Option Row) → IsSwapping S R p i T Q → i < length Q → e ≡ get_or Q i e → places ≡ p
      → fits_row places (get_or Q i e).0 (get_or Q i e).1 ≡ true
  swapping-fits T Q places e is within at same =
      subst (λ x. fits_row places x.0 x.1 ≡ true) at (subst (λ x. fits_row x e.0 e.1 ≡ true) (sym same) (fits-at p Q i e within at is.placed))

  pub swapping-suits : (T : State) (Q : Rows) (e : RowKey × Option Row) → IsSwapping S R p i T Q → i < length Q → e ≡ get_or Q i e → SuitsKey (get_or Q i e).0 (get_or Q i e).1
  swapping-suits T Q e is within at = subst (λ (x : RowKey × Option Row). SuitsKey x.0 x.1) at (suits-at Q i e within at is.suited)

  pub swapping-step : (store new : Stored) (Q : Rows) (e : RowKey × Option Row) (v : Option Row) → IsSwapping S R p i store.state Q → store.places ≡ p → i < length Q → e ≡ get_or Q i e
      → new ≡ standing store (put store.state (get_or Q i e).0 (get_or Q i e).1) → v ≡ row store.state (get_or Q i e).0 → SuitsKey (get_or Q i e).0 v → fits_row new.places (get_or Q i e).0 v ≡ true
      → IsSwapping S R p (i + 1) new.state (set Q i ((get_or Q i e).0, v)) × (new.places ≡ p)
  swapping-step store new Q e v is same within at stands was suits fit =
      let f : RowKey × Option Row = get_or Q i e in
      let again : f ≡ get_or Q i f = get_or_default Q i e f within in
      let places : new.places ≡ p = ap (λ s. s.places) stands ∙ same in
      let next : IsSwapping S R p (i + 1) (put store.state f.0 f.1) (set Q i (f.0, v)) =
      swapping-next S R p i store.state Q f v is within again was suits (subst (λ x. fits_row x f.0 v ≡ true) places fit) in
      (subst (λ T. IsSwapping S R p (i + 1) T (set Q i (f.0, v))) (sym (ap (λ s. s.state) stands)) next, places)
