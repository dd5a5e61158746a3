-- The cells as they are seen: a state and its places, after looks, an exchange and a growth of all tables.
use Rattle.std.proofs.Common.{◌≡◌, ◌≤◌, ◌<◌, ℕ, zero, suc, ◌+◌, ◌*◌, ◌^◌, ◌/◌, ◌%◌, true, false, cond, List, [], ◌∷◌, length, get_or, map, Option, Some, None, IsSome, refl, sym, ap, ◌∙◌, subst, arith}
use Rattle.std.specs.List.{sum}
use Rattle.std.proofs.lemmas.Bool.{ltb-true, lt-ltb}
use Rattle.std.specs.Prelude.{max}
use Rattle.std.proofs.lemmas.List.{get_or_past, length-map}
use Rattle.zt_rows.specs.declared.keys.RowKey.{RowKey}
use Rattle.zt_rows.specs.declared.keys.RowKey.TheVariants as key
use Rattle.zt_rows.specs.declared.rows.Row.{Row}
use Rattle.zt_rows.specs.Keys.{rowkey_eq}
use Rattle.zt_rows.specs.ProofsOnly.KeyOrder.{rowkey_eq-equal}
use Rattle.zt_rows.specs.Room.{SuitsKey}
use Rattle.zt_rows.specs.State.{State, row, put}
use Rattle.zt_rows.proofs.StateLaws.{row-put, same_state}
use Rattle.zt_cells.specs.ProofsOnly.TablePlaces.{cell, table, cell_at, lengths, by_owner, entry, entry_places, IsNextCell}
use Rattle.zt_cells.specs.ProofsOnly.RowTables.{row_tables_of, look, sizes_of, places_in, state_in, Exchanged, Widened, IsCells}
use Rattle.zt_cells.specs.CellsView.{CellsView}
use Rattle.zt_cells.specs.TableSizes.{TableSizes, place_of, length_at, has_place, most_owners, most_places, owners_in, waits_after, objects_after}
use Rattle.zt_cells.specs.FirstNumber.{IsFirst, IsNextFrom}
use Rattle.zt_cells.specs.ProofsOnly.NextValues.{IsNextValue}
use Rattle.zt_cells.specs.declared.cells.row_tables.RowTables.{RowTables}
use Rattle.zt_cells.proofs.GridLaws.{length_table, length_entry_table}
use Rattle.zt_cells.proofs.RowTableLaws.{at_lengths, at_entries}
use Rattle.zt_cells.proofs.LookLaws.{row-state_in, length-state_in}

abbrev pub seen_as : RowTables → CellsView
seen_as c = record { state = state_in c; sizes = sizes_of c }

-- ---- looks

pub row-seen : (c : RowTables) (s : CellsView) → seen_as c ≡ s → (k : RowKey) → row s.state k ≡ look c k
row-seen c s is k = ap (λ (t : CellsView). row t.state k) (sym is) ∙ row-state_in c k

pub suited-seen : (c : RowTables) (places : ℕ) (s : CellsView) → seen_as c ≡ s → IsCells c places → (k : RowKey) → SuitsKey k (row s.state k)
suited-seen c places s is good k =
    subst (λ r. SuitsKey k r) (sym (row-seen c s is k)) (good.suited k)

pub few-seen : (c : RowTables) (places : ℕ) (s : CellsView) → seen_as c ≡ s → IsCells c places → length s.state.rows ≤ 2 ^ 48 + 1
few-seen c places s is good =
    let n = length-state_in c in
    let a = good.counted in
    let b = good.few in
    let h : length (state_in c).rows ≤ 2 ^ 48 + 1 = omega arith in
    subst (λ (t : CellsView). length t.state.rows ≤ 2 ^ 48 + 1) is h

pub place-there : (s : TableSizes) (k : RowKey) → has_place s k ≡ true → place_of k < length_at s k
unfolding has_place
place-there s k h = ltb-true (place_of k) (length_at s k) h

pub there-place : (s : TableSizes) (k : RowKey) → place_of k < length_at s k → has_place s k ≡ true
unfolding has_place
there-place s k h = lt-ltb (place_of k) (length_at s k) h

-- ---- an exchange

summed : (sizes : List (List (List (Option Row)))) → map sum (map lengths sizes) ≡ map (λ tables. sum (lengths tables)) sizes
summed [] = refl
summed (s ∷ ss) = ap (λ ns. sum (lengths s) ∷ ns) (summed ss)

places_of : TableSizes → ℕ
places_of s = s.objects + sum (map sum s.entries) + sum s.messages + sum s.packets + s.waits

places-sizes : (c : RowTables) → places_in c ≡ places_of (sizes_of c)
unfolding places_in sizes_of places_of
places-sizes c =
    ap (λ ns. length c.objects + sum ns + sum (lengths c.messages) + sum (lengths c.packets) + length c.waits) (sym (summed c.entries))

same_places : (c d : RowTables) → sizes_of d ≡ sizes_of c → places_in d ≡ places_in c
same_places c d e = places-sizes d ∙ ap places_of e ∙ sym (places-sizes c)

suited-exchanged : (c d : RowTables) (k : RowKey) (inward outward : Option Row) → Exchanged c d k inward outward → SuitsKey k inward → ((q : RowKey) → SuitsKey q (look c q)) → (q : RowKey) → SuitsKey q (look d q)
suited-exchanged c d k inward outward x h suited q =
    subst (λ r. SuitsKey q r) (sym (x.looks q)) (elim (rowkey_eq q k) as (λ b. rowkey_eq q k ≡ b → SuitsKey q (cond b inward (look c q))) [
      | true ↦ λ e. subst (λ z. SuitsKey z inward) (sym (rowkey_eq-equal q k e)) h
      | false ↦ λ e. suited q
    ] refl)

pub cells-exchanged : (c d : RowTables) (k : RowKey) (inward outward : Option Row) (places : ℕ) → Exchanged c d k inward outward → SuitsKey k inward → IsCells c places → IsCells d places
cells-exchanged c d k inward outward places x h good =
    let same = same_places c d x.sizes in
    let le = good.counted in
    record { suited = suited-exchanged c d k inward outward x h good.suited; counted = omega arith; few = good.few }

state-exchanged : (c d : RowTables) (k : RowKey) (inward outward : Option Row) → Exchanged c d k inward outward → state_in d ≡ put (state_in c) k inward
state-exchanged c d k inward outward x =
    same_state _ _ (λ q.
    row-state_in d q ∙ x.looks q ∙ ap (cond (rowkey_eq q k) inward) (sym (row-state_in c q)) ∙ sym (row-put (state_in c) k inward q))

pub seen-exchanged : (c d : RowTables) (s : CellsView) (k : RowKey) (inward outward : Option Row) → seen_as c ≡ s → Exchanged c d k inward outward → seen_as d ≡ record { state = put s.state k inward; sizes = s.sizes }
seen-exchanged c d s k inward outward is x =
    let state = state-exchanged c d k inward outward x in
    let at_c : seen_as d ≡ record { state = put (state_in c) k inward; sizes = sizes_of c } = λ i. record { state = state i; sizes = x.sizes i } in
    at_c ∙ ap (λ (t : CellsView). (let u : CellsView = record { state = put t.state k inward; sizes = t.sizes } in u)) is

pub out-exchanged : (c d : RowTables) (s : CellsView) (k : RowKey) (inward outward : Option Row) → seen_as c ≡ s → Exchanged c d k inward outward → outward ≡ row s.state k
out-exchanged c d s k inward outward is x = x.out ∙ sym (row-seen c s is k)

-- ---- a growth

pub state-widened : (c d : RowTables) (s t : CellsView) → seen_as c ≡ s → seen_as d ≡ t → Widened c d → t.state ≡ s.state
state-widened c d s t is js w =
    ap (λ (u : CellsView). u.state) (sym js)
    ∙ same_state (state_in d) (state_in c) (λ q. row-state_in d q ∙ w.looks q ∙ sym (row-state_in c q))
    ∙ ap (λ (u : CellsView). u.state) is

pub kept-widened : (c d : RowTables) (s : CellsView) → seen_as c ≡ s → Widened c d → (k : RowKey) → has_place s.sizes k ≡ true → has_place (sizes_of d) k ≡ true
kept-widened c d s is w k h =
    let there : has_place (sizes_of c) k ≡ true = subst (λ (u : CellsView). has_place u.sizes k ≡ true) (sym is) h in
    let a = place-there (sizes_of c) k there in
    let b = w.longer k in
    there-place (sizes_of d) k (omega arith)

pub length_at-few : (c : RowTables) (k : RowKey) → length_at (sizes_of c) k ≤ places_in c + 1
unfolding sizes_of places_in
length_at-few c key.Counters = omega arith
length_at-few c (key.Object x) = omega arith
length_at-few c (key.Entry p h) =
    let a = at_entries c.entries p h in
    let b = length_entry_table c.entries (h % 4) p in
    omega arith
length_at-few c (key.Msg e n) =
    let a = at_lengths c.messages e in
    let b = length_table c.messages e in
    omega arith
length_at-few c (key.Packet p n) =
    let a = at_lengths c.packets p in
    let b = length_table c.packets p in
    omega arith
length_at-few c (key.Wait n) = omega arith

-- ---- looks by table

row-object : (c : RowTables) (s : CellsView) → seen_as c ≡ s → (x : ℕ) → row s.state (key.Object x) ≡ cell c.objects x
unfolding look
row-object c s is x = row-seen c s is (key.Object x)

pub row-entry : (c : RowTables) (s : CellsView) → seen_as c ≡ s → (p h : ℕ) → row s.state (key.Entry p h) ≡ entry c.entries p h
unfolding look
row-entry c s is p h = row-seen c s is (key.Entry p h)

row-message : (c : RowTables) (s : CellsView) → seen_as c ≡ s → (e n : ℕ) → row s.state (key.Msg e n) ≡ cell_at c.messages e n
unfolding look
row-message c s is e n = row-seen c s is (key.Msg e n)

row-packet : (c : RowTables) (s : CellsView) → seen_as c ≡ s → (p n : ℕ) → row s.state (key.Packet p n) ≡ cell_at c.packets p n
unfolding look
row-packet c s is p n = row-seen c s is (key.Packet p n)

row-wait : (c : RowTables) (s : CellsView) → seen_as c ≡ s → (n : ℕ) → row s.state (key.Wait n) ≡ cell c.waits n
unfolding look
row-wait c s is n = row-seen c s is (key.Wait n)

-- ---- the first, and the ends

first-seen : (places : List (Option Row)) (S : State) (key_of : ℕ → RowKey) → ((n : ℕ) → row S (key_of n) ≡ cell places n) → (found : Option ℕ) → IsNextCell places 0 found → IsFirst S key_of found
first-seen places S key_of is (Some n) h =
    (subst (λ r. IsSome r) (sym (is n)) h.there, λ m lt. is m ∙ h.first m (omega arith) lt)
first-seen places S key_of is None h = λ n. is n ∙ h n (omega arith)

next-seen : (places : List (Option Row)) (S : State) (key_of : ℕ → RowKey) → ((n : ℕ) → row S (key_of n) ≡ cell places n) → (from : ℕ) (found : Option ℕ) → IsNextCell places from found → IsNextFrom S key_of from found
next-seen places S key_of is from (Some n) h = record {
  from_there = h.from_there;
  there = subst (λ r. IsSome r) (sym (is n)) h.there;
  least = λ m le lt. is m ∙ h.first m le lt;
}
next-seen places S key_of is from None h = λ n le. is n ∙ h n le

-- an owner is given as it was read, x, and as it was asked for, y
pub first-message : (c : RowTables) (s : CellsView) → seen_as c ≡ s → (x y : ℕ) → x ≡ y → (found : Option ℕ) → IsNextCell (table c.messages x) 0 found → IsFirst s.state (λ n. key.Msg y n) found
first-message c s is x y e found h =
    first-seen (table c.messages x) s.state (λ n. key.Msg y n) (λ n. row-message c s is y n ∙ ap (λ z. cell_at c.messages z n) (sym e)) found h

pub first-packet : (c : RowTables) (s : CellsView) → seen_as c ≡ s → (x y : ℕ) → x ≡ y → (found : Option ℕ) → IsNextCell (table c.packets x) 0 found → IsFirst s.state (λ n. key.Packet y n) found
first-packet c s is x y e found h =
    first-seen (table c.packets x) s.state (λ n. key.Packet y n) (λ n. row-packet c s is y n ∙ ap (λ z. cell_at c.packets z n) (sym e)) found h

pub next-packet : (c : RowTables) (s : CellsView) → seen_as c ≡ s → (x y : ℕ) → x ≡ y → (from : ℕ) (found : Option ℕ) → IsNextCell (table c.packets x) from found → IsNextFrom s.state (λ n. key.Packet y n) from found
next-packet c s is x y e from found h =
    next-seen (table c.packets x) s.state (λ n. key.Packet y n) (λ n. row-packet c s is y n ∙ ap (λ z. cell_at c.packets z n) (sym e)) from found h

pub next-entry : (c : RowTables) (s : CellsView) → seen_as c ≡ s → (p from : ℕ) (found : Option ℕ) → IsNextValue c.entries p from (λ r. r < 4) found → IsNextFrom s.state (λ h. key.Entry p h) from found
next-entry c s is p from (Some h) at = record {
  from_there = at.from_there;
  there = subst (λ r. IsSome r) (sym (row-entry c s is p h)) at.there;
  least = λ g le lt. row-entry c s is p g ∙ at.least g (omega arith) le lt;
}
next-entry c s is p from None none = λ g le. row-entry c s is p g ∙ none g (omega arith) le

past : (places : List (Option Row)) (len n : ℕ) → len ≡ length places → len ≤ n → cell places n ≡ None
past places len n e le = get_or_past places n None (omega arith)

pub end-objects : (c : RowTables) (s : CellsView) → seen_as c ≡ s → (len : ℕ) → len ≡ length c.objects → (x : ℕ) → len ≤ x → row s.state (key.Object x) ≡ None
end-objects c s is len e x le = row-object c s is x ∙ past c.objects len x e le

pub end-waits : (c : RowTables) (s : CellsView) → seen_as c ≡ s → (len : ℕ) → len ≡ length c.waits → (n : ℕ) → len ≤ n → row s.state (key.Wait n) ≡ None
end-waits c s is len e n le = row-wait c s is n ∙ past c.waits len n e le

pub places-waits : (c : RowTables) (s : CellsView) → seen_as c ≡ s → (len : ℕ) → len ≡ length c.waits → len ≡ s.sizes.waits
unfolding sizes_of
places-waits c s is len e = e ∙ ap (λ (t : CellsView). t.sizes.waits) is

pub places-objects : (c : RowTables) (s : CellsView) → seen_as c ≡ s → (len : ℕ) → len ≡ length c.objects → len ≡ s.sizes.objects
unfolding sizes_of
places-objects c s is len e = e ∙ ap (λ (t : CellsView). t.sizes.objects) is

pub places-messages : (c : RowTables) (s : CellsView) → seen_as c ≡ s → (x y : ℕ) → x ≡ y → (len : ℕ) → len ≡ length (table c.messages x) → len ≡ get_or s.sizes.messages y 0
unfolding sizes_of
places-messages c s is x y same len e =
    e ∙ ap (λ z. length (table c.messages z)) same ∙ sym (at_lengths c.messages y) ∙ ap (λ (t : CellsView). get_or t.sizes.messages y 0) is

pub places-packets : (c : RowTables) (s : CellsView) → seen_as c ≡ s → (x y : ℕ) → x ≡ y → (len : ℕ) → len ≡ length (table c.packets x) → len ≡ get_or s.sizes.packets y 0
unfolding sizes_of
places-packets c s is x y same len e =
    e ∙ ap (λ z. length (table c.packets z)) same ∙ sym (at_lengths c.packets y) ∙ ap (λ (t : CellsView). get_or t.sizes.packets y 0) is

pub places-entries : (c : RowTables) (s : CellsView) → seen_as c ≡ s → (x most : ℕ) → most ≡ 4 * most_places (map lengths c.entries) x → most ≡ 4 * most_places s.sizes.entries x
unfolding sizes_of
places-entries c s is x most e = e ∙ ap (λ (t : CellsView). 4 * most_places t.sizes.entries x) is

pub places-owners : (c : RowTables) (s : CellsView) → seen_as c ≡ s → (entries messages packets : ℕ) → entries ≡ most_owners (map lengths c.entries) → messages ≡ length c.messages → packets ≡ length c.packets → (most : ℕ) → most ≡ max entries (max messages packets) → most ≡ owners_in s.sizes
unfolding sizes_of
places-owners c s is entries messages packets es ms ps most e =
    e
    ∙ (λ j. max (es j) (max (ms j) (ps j)))
    ∙ (λ j. max (most_owners (map lengths c.entries)) (max (sym (length-map c.messages length) j) (sym (length-map c.packets length) j)))
    ∙ ap (λ (t : CellsView). owners_in t.sizes) is

pub end-messages : (c : RowTables) (s : CellsView) → seen_as c ≡ s → (x y : ℕ) → x ≡ y → (len : ℕ) → len ≡ length (table c.messages x) → (n : ℕ) → len ≤ n → row s.state (key.Msg y n) ≡ None
end-messages c s is x y same len e n le =
    row-message c s is y n ∙ ap (λ z. cell_at c.messages z n) (sym same) ∙ past (table c.messages x) len n e le

pub end-packets : (c : RowTables) (s : CellsView) → seen_as c ≡ s → (x y : ℕ) → x ≡ y → (len : ℕ) → len ≡ length (table c.packets x) → (n : ℕ) → len ≤ n → row s.state (key.Packet y n) ≡ None
end-packets c s is x y same len e n le =
    row-packet c s is y n ∙ ap (λ z. cell_at c.packets z n) (sym same) ∙ past (table c.packets x) len n e le

no_owner : (tables : List (List (Option Row))) (x n : ℕ) → length tables ≤ x → cell_at tables x n ≡ None
no_owner tables x n le = ap (λ t. cell t n) (get_or_past tables x [] le)

pub end-message_owners : (c : RowTables) (s : CellsView) → seen_as c ≡ s → (x n : ℕ) → length c.messages ≤ x → row s.state (key.Msg x n) ≡ None
end-message_owners c s is x n le = row-message c s is x n ∙ no_owner c.messages x n le

pub end-packet_owners : (c : RowTables) (s : CellsView) → seen_as c ≡ s → (x n : ℕ) → length c.packets ≤ x → row s.state (key.Packet x n) ≡ None
end-packet_owners c s is x n le = row-packet c s is x n ∙ no_owner c.packets x n le

pub entries-few : (c : RowTables) (places : ℕ) → IsCells c places → entry_places c.entries ≤ 2 ^ 48
unfolding places_in
entries-few c places good =
    let a = good.counted in
    let b = good.few in
    omega arith

-- ---- the beginning

no_by_owner : (r : ℕ) → by_owner ([] ∷ [] ∷ [] ∷ [] ∷ []) r ≡ []
no_by_owner zero = refl
no_by_owner (suc zero) = refl
no_by_owner (suc (suc zero)) = refl
no_by_owner (suc (suc (suc zero))) = refl
no_by_owner (suc (suc (suc (suc r)))) = refl

pub cells-of : (counters : Row) → SuitsKey key.Counters (Some counters) → IsCells (row_tables_of counters) 0
unfolding look places_in
cells-of counters h = record { suited = suited-of; counted = omega arith; few = omega arith }
  where
    suited-of : (k : RowKey) → SuitsKey k (look (row_tables_of counters) k)
    suited-of key.Counters = h
    suited-of (key.Object x) = tt
    suited-of (key.Entry p h) =
        subst (λ t. SuitsKey (key.Entry p h) (cell_at t p (h / 4))) (sym (no_by_owner (h % 4))) tt
    suited-of (key.Msg e n) = tt
    suited-of (key.Packet p n) = tt
    suited-of (key.Wait n) = tt

pub waits-made : (old new : RowTables) (s : CellsView) (k : RowKey) → record { state = state_in old; sizes = sizes_of old } ≡ s → length new.waits ≤ waits_after k (length old.waits) → (sizes_of new).waits ≤ waits_after k s.sizes.waits
unfolding sizes_of
waits-made old new s k seen h = subst (λ (t : CellsView). length new.waits ≤ waits_after k t.sizes.waits) seen h

pub objects-made : (old new : RowTables) (s : CellsView) (k : RowKey) → record { state = state_in old; sizes = sizes_of old } ≡ s → length new.objects ≤ objects_after k (length old.objects) → (sizes_of new).objects ≤ objects_after k s.sizes.objects
unfolding sizes_of
objects-made old new s k seen h = subst (λ (t : CellsView). length new.objects ≤ objects_after k t.sizes.objects) seen h
