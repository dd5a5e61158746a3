-- What stands under a key of the state of all tables is what stands in its place.
use Rattle.std.proofs.Common.{◌≡◌, ◌≤◌, ◌<◌, ℕ, zero, suc, ◌+◌, ◌*◌, ◌/◌, ◌%◌, Bool, true, false, cond, List, [], ◌∷◌, length, map, get_or, Option, Some, None, refl, sym, ap, ◌∙◌, subst, arith, ◌⊎◌, inl, inr, ⊎_elim, not}
use Rattle.std.specs.List.{sum}
use Rattle.std.proofs.lemmas.List.Sums.{sum_by-cons}
use Rattle.std.specs.FinMap.Entries as entries
use Rattle.std.specs.declared.cmp.Ordering.TheVariants.{Less, Equal, Greater}
use Rattle.zt_rows.specs.declared.keys.RowKey.{RowKey}
use Rattle.zt_rows.specs.declared.keys.RowKey.TheVariants as key
use Rattle.zt_rows.specs.declared.rows.Row.{Row}
use Rattle.zt_rows.specs.Keys.{rowkey_cmp, rowkey_eq}
use Rattle.zt_rows.specs.ProofsOnly.KeyOrder.{rowkey_eq-equal}
use Rattle.zt_rows.specs.State.{State, row, put, nothing}
use Rattle.zt_rows.proofs.StateLaws.{row-put, row-put-same, row-nothing}
use Rattle.zt_cells.specs.ProofsOnly.TablePlaces.{cell, cell_at, lengths, by_owner}
use Rattle.zt_cells.specs.ProofsOnly.RowTables.{look, places_in, put_cells, put_tables, put_entries, entry_key, state_in}
use Rattle.zt_cells.specs.declared.cells.row_tables.RowTables.{RowTables}

-- ---- putting what a look finds

module _ (looked : RowKey → Option Row) where
  -- each row of S is the one that is looked up
  abbrev Within : State → Type 0
  Within S = (q : RowKey) → (row S q ≡ looked q) ⊎ (row S q ≡ None)

  put-keeps : (S : State) (k : RowKey) (r : Option Row) → r ≡ looked k → (q : RowKey) → row S q ≡ looked q → row (put S k r) q ≡ looked q
  put-keeps S k r is q e =
      row-put S k r q
      ∙ elim (rowkey_eq q k) as (λ b. rowkey_eq q k ≡ b → cond b r (row S q) ≡ looked q) [
        | true ↦ λ t. is ∙ ap looked (sym (rowkey_eq-equal q k t))
        | false ↦ λ t. e
      ] refl

  put-within : (S : State) (k : RowKey) (r : Option Row) → r ≡ looked k → Within S → Within (put S k r)
  put-within S k r is w q =
      elim (rowkey_eq q k) as (λ b. rowkey_eq q k ≡ b → (row (put S k r) q ≡ looked q) ⊎ (row (put S k r) q ≡ None)) [
        | true ↦ λ t. inl (row-put S k r q ∙ ap (λ b. cond b r (row S q)) t ∙ is ∙ ap looked (sym (rowkey_eq-equal q k t)))
        | false ↦ λ t.
            let same : row (put S k r) q ≡ row S q = row-put S k r q ∙ ap (λ b. cond b r (row S q)) t in
            ⊎_elim (λ e. inl (same ∙ e)) (λ e. inr (same ∙ e)) (w q)
      ] refl

  -- ---- a table

  cells-keep : (key_of : ℕ → RowKey) (rows : List (Option Row)) (S : State) → ((n : ℕ) → cell rows n ≡ looked (key_of n)) → (q : RowKey) → row S q ≡ looked q → row (put_cells key_of rows S) q ≡ looked q
  cells-keep key_of [] S is q e = e
  cells-keep key_of (r ∷ rs) S is q e =
      put-keeps (put_cells (λ n. key_of (suc n)) rs S) (key_of 0) r (is 0) q (cells-keep (λ n. key_of (suc n)) rs S (λ n. is (suc n)) q e)

  cells-within : (key_of : ℕ → RowKey) (rows : List (Option Row)) (S : State) → ((n : ℕ) → cell rows n ≡ looked (key_of n)) → Within S → Within (put_cells key_of rows S)
  cells-within key_of [] S is w = w
  cells-within key_of (r ∷ rs) S is w =
      put-within (put_cells (λ n. key_of (suc n)) rs S) (key_of 0) r (is 0) (cells-within (λ n. key_of (suc n)) rs S (λ n. is (suc n)) w)

  none_there : (S : State) (q : RowKey) → None ≡ looked q → (row S q ≡ looked q) ⊎ (row S q ≡ None) → row S q ≡ looked q
  none_there S q is (inl e) = e
  none_there S q is (inr e) = e ∙ is

  cells-hit : (key_of : ℕ → RowKey) (rows : List (Option Row)) (S : State) → ((n : ℕ) → cell rows n ≡ looked (key_of n)) → Within S → (n : ℕ) → row (put_cells key_of rows S) (key_of n) ≡ looked (key_of n)
  cells-hit key_of [] S is w n = none_there S (key_of n) (is n) (w (key_of n))
  cells-hit key_of (r ∷ rs) S is w zero = row-put-same (put_cells (λ n. key_of (suc n)) rs S) (key_of 0) r ∙ is 0
  cells-hit key_of (r ∷ rs) S is w (suc n) =
      put-keeps (put_cells (λ n. key_of (suc n)) rs S) (key_of 0) r (is 0) (key_of (suc n)) (cells-hit (λ n. key_of (suc n)) rs S (λ n. is (suc n)) w n)

  -- ---- tables by owner

  tables-keep : (key_of : ℕ → ℕ → RowKey) (tables : List (List (Option Row))) (S : State) → ((x n : ℕ) → cell_at tables x n ≡ looked (key_of x n)) → (q : RowKey) → row S q ≡ looked q → row (put_tables key_of tables S) q ≡ looked q
  tables-keep key_of [] S is q e = e
  tables-keep key_of (t ∷ ts) S is q e =
      cells-keep (key_of 0) t (put_tables (λ x. key_of (suc x)) ts S) (is 0) q (tables-keep (λ x. key_of (suc x)) ts S (λ x. is (suc x)) q e)

  tables-within : (key_of : ℕ → ℕ → RowKey) (tables : List (List (Option Row))) (S : State) → ((x n : ℕ) → cell_at tables x n ≡ looked (key_of x n)) → Within S → Within (put_tables key_of tables S)
  tables-within key_of [] S is w = w
  tables-within key_of (t ∷ ts) S is w =
      cells-within (key_of 0) t (put_tables (λ x. key_of (suc x)) ts S) (is 0) (tables-within (λ x. key_of (suc x)) ts S (λ x. is (suc x)) w)

  tables-hit : (key_of : ℕ → ℕ → RowKey) (tables : List (List (Option Row))) (S : State) → ((x n : ℕ) → cell_at tables x n ≡ looked (key_of x n)) → Within S → (x n : ℕ) → row (put_tables key_of tables S) (key_of x n) ≡ looked (key_of x n)
  tables-hit key_of [] S is w x n = none_there S (key_of x n) (is x n) (w (key_of x n))
  tables-hit key_of (t ∷ ts) S is w zero n =
      cells-hit (key_of 0) t (put_tables (λ x. key_of (suc x)) ts S) (is 0) (tables-within (λ x. key_of (suc x)) ts S (λ x. is (suc x)) w) n
  tables-hit key_of (t ∷ ts) S is w (suc x) n =
      cells-keep (key_of 0) t (put_tables (λ x. key_of (suc x)) ts S) (is 0) (key_of (suc x) n) (tables-hit (λ x. key_of (suc x)) ts S (λ x. is (suc x)) w x n)

-- ---- all tables

look-entry : (c : RowTables) (r : ℕ) → r < 4 → (p n : ℕ) → cell_at (by_owner c.entries r) p n ≡ look c (entry_key r p n)
unfolding look
look-entry c r h p n =
    let m : r ≡ (4 * n + r) % 4 = omega arith in
    let d : n ≡ (4 * n + r) / 4 = omega arith in
    ap (λ z. cell_at (by_owner c.entries z) p n) m ∙ ap (cell_at (by_owner c.entries ((4 * n + r) % 4)) p) d

remainders : (m : ℕ) → m < 4 → (m ≡ 0) ⊎ ((m ≡ 1) ⊎ ((m ≡ 2) ⊎ (m ≡ 3)))
remainders zero h = inl refl
remainders (suc zero) h = inr (inl refl)
remainders (suc (suc zero)) h = inr (inr (inl refl))
remainders (suc (suc (suc zero))) h = inr (inr (inr refl))
remainders (suc (suc (suc (suc m)))) h = absurd (omega arith)

look-counters : (c : RowTables) → Some c.counters ≡ look c key.Counters
unfolding look
look-counters c = refl

look-object : (c : RowTables) (x : ℕ) → cell c.objects x ≡ look c (key.Object x)
unfolding look
look-object c x = refl

look-wait : (c : RowTables) (n : ℕ) → cell c.waits n ≡ look c (key.Wait n)
unfolding look
look-wait c n = refl

look-message : (c : RowTables) (e n : ℕ) → cell_at c.messages e n ≡ look c (key.Msg e n)
unfolding look
look-message c e n = refl

look-packet : (c : RowTables) (p n : ℕ) → cell_at c.packets p n ≡ look c (key.Packet p n)
unfolding look
look-packet c p n = refl

module _ (c : RowTables) where
  abbrev seen : RowKey → Option Row
  seen = look c

  -- the state with more and more tables put
  abbrev with_counters : State
  with_counters = put nothing key.Counters (Some c.counters)

  abbrev with_3 : State
  with_3 = put_entries c.entries 3 with_counters

  abbrev with_2 : State
  with_2 = put_entries c.entries 2 with_3

  abbrev with_1 : State
  with_1 = put_entries c.entries 1 with_2

  abbrev with_0 : State
  with_0 = put_entries c.entries 0 with_1

  abbrev with_packets : State
  with_packets = put_tables key.Packet c.packets with_0

  abbrev with_messages : State
  with_messages = put_tables key.Msg c.messages with_packets

  abbrev with_waits : State
  with_waits = put_cells key.Wait c.waits with_messages

  within-counters : Within seen with_counters
  within-counters = put-within seen nothing key.Counters (Some c.counters) (look-counters c) (λ q. inr (row-nothing q))

  within-3 : Within seen with_3
  within-3 = tables-within seen (entry_key 3) (by_owner c.entries 3) with_counters (look-entry c 3 (omega arith)) within-counters

  within-2 : Within seen with_2
  within-2 = tables-within seen (entry_key 2) (by_owner c.entries 2) with_3 (look-entry c 2 (omega arith)) within-3

  within-1 : Within seen with_1
  within-1 = tables-within seen (entry_key 1) (by_owner c.entries 1) with_2 (look-entry c 1 (omega arith)) within-2

  within-0 : Within seen with_0
  within-0 = tables-within seen (entry_key 0) (by_owner c.entries 0) with_1 (look-entry c 0 (omega arith)) within-1

  within-packets : Within seen with_packets
  within-packets = tables-within seen key.Packet c.packets with_0 (look-packet c) within-0

  within-messages : Within seen with_messages
  within-messages = tables-within seen key.Msg c.messages with_packets (look-message c) within-packets

  within-waits : Within seen with_waits
  within-waits = cells-within seen key.Wait c.waits with_messages (look-wait c) within-messages

  -- what is right there stays right
  from-waits : (q : RowKey) → row with_waits q ≡ seen q → row (state_in c) q ≡ seen q
  unfolding state_in
  from-waits q e = cells-keep seen key.Object c.objects with_waits (look-object c) q e

  from-messages : (q : RowKey) → row with_messages q ≡ seen q → row (state_in c) q ≡ seen q
  from-messages q e = from-waits q (cells-keep seen key.Wait c.waits with_messages (look-wait c) q e)

  from-packets : (q : RowKey) → row with_packets q ≡ seen q → row (state_in c) q ≡ seen q
  from-packets q e = from-messages q (tables-keep seen key.Msg c.messages with_packets (look-message c) q e)

  from-0 : (q : RowKey) → row with_0 q ≡ seen q → row (state_in c) q ≡ seen q
  from-0 q e = from-packets q (tables-keep seen key.Packet c.packets with_0 (look-packet c) q e)

  from-1 : (q : RowKey) → row with_1 q ≡ seen q → row (state_in c) q ≡ seen q
  from-1 q e = from-0 q (tables-keep seen (entry_key 0) (by_owner c.entries 0) with_1 (look-entry c 0 (omega arith)) q e)

  from-2 : (q : RowKey) → row with_2 q ≡ seen q → row (state_in c) q ≡ seen q
  from-2 q e = from-1 q (tables-keep seen (entry_key 1) (by_owner c.entries 1) with_2 (look-entry c 1 (omega arith)) q e)

  from-3 : (q : RowKey) → row with_3 q ≡ seen q → row (state_in c) q ≡ seen q
  from-3 q e = from-2 q (tables-keep seen (entry_key 2) (by_owner c.entries 2) with_3 (look-entry c 2 (omega arith)) q e)

  from-counters : (q : RowKey) → row with_counters q ≡ seen q → row (state_in c) q ≡ seen q
  from-counters q e = from-3 q (tables-keep seen (entry_key 3) (by_owner c.entries 3) with_counters (look-entry c 3 (omega arith)) q e)

  object-hit : (x : ℕ) → row (state_in c) (key.Object x) ≡ seen (key.Object x)
  unfolding state_in
  object-hit x = cells-hit seen key.Object c.objects with_waits (look-object c) within-waits x

  at_value : (p h r : ℕ) → h % 4 ≡ r → row (state_in c) (entry_key r p (h / 4)) ≡ seen (entry_key r p (h / 4)) → row (state_in c) (key.Entry p h) ≡ seen (key.Entry p h)
  at_value p h r m e =
      let same : 4 * (h / 4) + r ≡ h = omega arith in
      subst (λ z. row (state_in c) (key.Entry p z) ≡ seen (key.Entry p z)) same e

  entry-hit : (p h : ℕ) → row (state_in c) (key.Entry p h) ≡ seen (key.Entry p h)
  entry-hit p h =
      let n = h / 4 in
      ⊎_elim (λ m. at_value p h 0 m (from-0 (entry_key 0 p n) (tables-hit seen (entry_key 0) (by_owner c.entries 0) with_1 (look-entry c 0 (omega arith)) within-1 p n)))
      (⊎_elim (λ m. at_value p h 1 m (from-1 (entry_key 1 p n) (tables-hit seen (entry_key 1) (by_owner c.entries 1) with_2 (look-entry c 1 (omega arith)) within-2 p n)))
      (⊎_elim (λ m. at_value p h 2 m (from-2 (entry_key 2 p n) (tables-hit seen (entry_key 2) (by_owner c.entries 2) with_3 (look-entry c 2 (omega arith)) within-3 p n)))
      (λ m. at_value p h 3 m (from-3 (entry_key 3 p n) (tables-hit seen (entry_key 3) (by_owner c.entries 3) with_counters (look-entry c 3 (omega arith)) within-counters p n)))))
      (remainders (h % 4) (omega arith))

-- what stands under a key is what stands in its place
pub row-state_in : (c : RowTables) (k : RowKey) → row (state_in c) k ≡ look c k
row-state_in c key.Counters =
    from-counters c key.Counters (row-put-same nothing key.Counters (Some c.counters) ∙ look-counters c)
row-state_in c (key.Object x) = object-hit c x
row-state_in c (key.Entry p h) = entry-hit c p h
row-state_in c (key.Msg e n) =
    from-messages c (key.Msg e n) (tables-hit (look c) key.Msg c.messages (with_packets c) (look-message c) (within-packets c) e n)
row-state_in c (key.Packet p n) =
    from-packets c (key.Packet p n) (tables-hit (look c) key.Packet c.packets (with_0 c) (look-packet c) (within-0 c) p n)
row-state_in c (key.Wait n) =
    from-waits c (key.Wait n) (cells-hit (look c) key.Wait c.waits (with_messages c) (look-wait c) (within-messages c) n)

-- ---- how many rows there are

length-put_row : (k : RowKey) (r : Row) (es : List (RowKey × Row)) → length (entries.put rowkey_cmp k r es) ≤ length es + 1
length-put_row k r [] = omega arith
length-put_row k r (e ∷ es) =
    elim (rowkey_cmp k e.0) as (λ o. length (entries.by_order o ((k, r) ∷ e ∷ es) ((e.0, r) ∷ es) (e ∷ entries.put rowkey_cmp k r es)) ≤ length (e ∷ es) + 1) [
      | Less ↦ omega arith
      | Equal ↦ omega arith
      | Greater ↦ let h = length-put_row k r es in omega arith
    ]

length-where : (p : RowKey → Bool) (es : List (RowKey × Row)) → length (entries.where_key rowkey_cmp p es) ≤ length es
length-where p [] = omega arith
length-where p (e ∷ es) =
    let h = length-where p es in
    elim (p e.0) as (λ b. length (cond b (e ∷ entries.where_key rowkey_cmp p es) (entries.where_key rowkey_cmp p es)) ≤ length (e ∷ es)) [
      | true ↦ omega arith
      | false ↦ omega arith
    ]

length-put : (S : State) (k : RowKey) (r : Option Row) → length (put S k r).rows ≤ length S.rows + 1
unfolding put
length-put S k (Some r) = length-put_row k r S.rows
length-put S k None = let h = length-where (λ q. not (rowkey_eq q k)) S.rows in omega arith

length-cells : (key_of : ℕ → RowKey) (rows : List (Option Row)) (S : State) → length (put_cells key_of rows S).rows ≤ length rows + length S.rows
length-cells key_of [] S = omega arith
length-cells key_of (r ∷ rs) S =
    let h = length-cells (λ n. key_of (suc n)) rs S in
    let g = length-put (put_cells (λ n. key_of (suc n)) rs S) (key_of 0) r in
    omega arith

length-tables : (key_of : ℕ → ℕ → RowKey) (tables : List (List (Option Row))) (S : State) → length (put_tables key_of tables S).rows ≤ sum (lengths tables) + length S.rows
length-tables key_of [] S = omega arith
length-tables key_of (t ∷ ts) S =
    let h = length-tables (λ x. key_of (suc x)) ts S in
    let g = length-cells (key_of 0) t (put_tables (λ x. key_of (suc x)) ts S) in
    let s : sum (lengths (t ∷ ts)) ≡ length t + sum (lengths ts) = sum_by-cons (λ x. x) (length t) (lengths ts) in
    omega arith

four_first : (ns : List ℕ) → get_or ns 0 0 + (get_or ns 1 0 + (get_or ns 2 0 + get_or ns 3 0)) ≤ sum ns
four_first [] = omega arith
four_first (k ∷ []) = let s = sum_by-cons (λ x. x) k [] in omega arith
four_first (k ∷ l ∷ []) =
    let s = sum_by-cons (λ x. x) k (l ∷ []) in
    let t = sum_by-cons (λ x. x) l [] in
    omega arith
four_first (k ∷ l ∷ m ∷ []) =
    let s = sum_by-cons (λ x. x) k (l ∷ m ∷ []) in
    let t = sum_by-cons (λ x. x) l (m ∷ []) in
    let u = sum_by-cons (λ x. x) m [] in
    omega arith
four_first (k ∷ l ∷ m ∷ n ∷ ns) =
    let s = sum_by-cons (λ x. x) k (l ∷ m ∷ n ∷ ns) in
    let t = sum_by-cons (λ x. x) l (m ∷ n ∷ ns) in
    let u = sum_by-cons (λ x. x) m (n ∷ ns) in
    let v = sum_by-cons (λ x. x) n ns in
    omega arith

at_places : (sizes : List (List (List (Option Row)))) (r : ℕ) → get_or (map (λ tables. sum (lengths tables)) sizes) r 0 ≡ sum (lengths (by_owner sizes r))
at_places [] r = refl
at_places (t ∷ ts) zero = refl
at_places (t ∷ ts) (suc r) = at_places ts r

-- there are no more rows than places
pub length-state_in : (c : RowTables) → length (state_in c).rows ≤ places_in c + 1
unfolding state_in places_in
length-state_in c =
    let a = length-put nothing key.Counters (Some c.counters) in
    let b = length-tables (entry_key 3) (by_owner c.entries 3) (with_counters c) in
    let d = length-tables (entry_key 2) (by_owner c.entries 2) (with_3 c) in
    let e = length-tables (entry_key 1) (by_owner c.entries 1) (with_2 c) in
    let f = length-tables (entry_key 0) (by_owner c.entries 0) (with_1 c) in
    let g = length-tables key.Packet c.packets (with_0 c) in
    let h = length-tables key.Msg c.messages (with_packets c) in
    let i = length-cells key.Wait c.waits (with_messages c) in
    let j = length-cells key.Object c.objects (with_waits c) in
    let k = four_first (map (λ tables. sum (lengths tables)) c.entries) in
    let k0 = at_places c.entries 0 in
    let k1 = at_places c.entries 1 in
    let k2 = at_places c.entries 2 in
    let k3 = at_places c.entries 3 in
    omega arith
