-- All tables of a store: how many places a key's table has, and what an exchange and a growth of one table change.
use Rattle.std.proofs.Common.{◌≡◌, ◌≤◌, ◌<◌, ℕ, zero, suc, ◌+◌, ◌/◌, ◌%◌, Bool, true, false, cond, ◌&&◌, ◌==◌, eqb, List, [], ◌∷◌, map, length, get_or, set, Option, None, Some, refl, sym, ap, ◌∙◌, subst, arith, ⊎_elim, get_or-set_same, get_or-set_other}
use Rattle.std.proofs.lemmas.Bool.{cases_eq, cases_lt, eq-eqb, ne_eqb, eqb-true, eqb-false}
use Rattle.std.proofs.lemmas.List.{get_or_past, length-set, map-set, set-get_or}
use Rattle.std.specs.List.{sum}
use Rattle.std.specs.Prelude.{Result, Ok, Err, OnOk}
use Rattle.zt_rows.specs.declared.keys.RowKey.{RowKey}
use Rattle.zt_rows.specs.declared.keys.RowKey.TheVariants as key
use Rattle.zt_rows.specs.declared.rows.Row.{Row}
use Rattle.zt_rows.specs.Keys.{rowkey_eq}
use Rattle.zt_cells.specs.ProofsOnly.TablePlaces.{cell, table, cell_at, set_at, lengths, by_owner, entry, entry_table, set_entry, entry_places}
use Rattle.zt_cells.specs.ProofsOnly.RowTables.{look, sizes_of, places_in, Exchanged, Widened, MadeFor}
use Rattle.zt_cells.specs.RowSlots.{row_in, decode_slot}
use Rattle.zt_cells.specs.TableSizes.{TableSizes, place_of, length_at}
use Rattle.zt_cells.specs.declared.cells.row_tables.RowTables.{RowTables}

-- ---- how many places

pub at_lengths : (tables : List (List (Option Row))) (x : ℕ) → get_or (lengths tables) x 0 ≡ length (table tables x)
at_lengths [] x = refl
at_lengths (t ∷ ts) zero = refl
at_lengths (t ∷ ts) (suc x) = at_lengths ts x

pub at_sizes : (sizes : List (List (List (Option Row)))) (r : ℕ) → get_or (map lengths sizes) r [] ≡ lengths (by_owner sizes r)
at_sizes [] r = refl
at_sizes (s ∷ ss) zero = refl
at_sizes (s ∷ ss) (suc r) = at_sizes ss r

pub at_entries : (sizes : List (List (List (Option Row)))) (p h : ℕ) → get_or (get_or (map lengths sizes) (h % 4) []) p 0 ≡ length (entry_table sizes p h)
at_entries sizes p h =
    ap (λ s. get_or s p 0) (at_sizes sizes (h % 4)) ∙ at_lengths (by_owner sizes (h % 4)) p

pub ruleset length_laws = (at_entries, at_lengths)

-- ---- one element of a list is another

pub get_or-set : {A : Type 0} (xs : List A) (i : ℕ) (a d : A) → i < length xs → (j : ℕ) → get_or (set xs i a) j d ≡ cond (j == i) a (get_or xs j d)
get_or-set xs i a d h j =
    elim (eqb j i) as (λ b. eqb j i ≡ b → get_or (set xs i a) j d ≡ cond b a (get_or xs j d)) [
      | true ↦ λ e. ap (λ k. get_or (set xs i a) k d) (eqb-true j i e) ∙ get_or-set_same xs i a d h
      | false ↦ λ e. get_or-set_other xs i j a d (eqb-false j i e)
    ] refl

owner_within : (tables : List (List (Option Row))) (x n : ℕ) → n < length (table tables x) → x < length tables
owner_within tables x n h =
    ⊎_elim (λ l. l) (λ l. let e : length (table tables x) ≡ 0 = ap length (get_or_past tables x [] l) in absurd (omega arith)) (cases_lt x (length tables))

pub cell_at-set : (tables : List (List (Option Row))) (x n : ℕ) (row : Option Row) → n < length (table tables x) → (y i : ℕ) → cell_at (set_at tables x n row) y i ≡ cond ((y == x) && (i == n)) row (cell_at tables y i)
cell_at-set tables x n row h y i =
    ap (λ t. cell t i) (get_or-set tables x (set (table tables x) n row) [] (owner_within tables x n h) y)
    ∙ elim (eqb y x) as (λ b. eqb y x ≡ b → cell (cond b (set (table tables x) n row) (table tables y)) i ≡ cond (b && (i == n)) row (cell_at tables y i)) [
      | true ↦ λ e. get_or-set (table tables x) n row None h i ∙ ap (λ z. cond (i == n) row (cell_at tables z i)) (sym (eqb-true y x e))
      | false ↦ λ e. refl
    ] refl

by_owner_within : (sizes : List (List (List (Option Row)))) (r x n : ℕ) → n < length (table (by_owner sizes r) x) → r < length sizes
by_owner_within sizes r x n h =
    ⊎_elim (λ l. l) (λ l. let e : length (table (by_owner sizes r) x) ≡ 0 = ap (λ s. length (table s x)) (get_or_past sizes r [] l) in absurd (omega arith)) (cases_lt r (length sizes))

same_quotient : (g h : ℕ) → g % 4 ≡ h % 4 → (g / 4 == h / 4) ≡ (g == h)
same_quotient g h e =
    ⊎_elim (λ s. eq-eqb (g / 4) (h / 4) (ap (λ x. x / 4) s) ∙ sym (eq-eqb g h s)) (λ s. ne_eqb (g / 4) (h / 4) (λ d. s (omega arith)) ∙ sym (ne_eqb g h s)) (cases_eq g h)

never_and : (b c : Bool) → c ≡ false → (b && c) ≡ false
never_and true c e = e
never_and false c e = refl

pub entry-set : (sizes : List (List (List (Option Row)))) (p h : ℕ) (row : Option Row) → h / 4 < length (entry_table sizes p h) → (q g : ℕ) → entry (set_entry sizes p h row) q g ≡ cond ((q == p) && (g == h)) row (entry sizes q g)
entry-set sizes p h row w q g =
    ap (λ s. cell_at s q (g / 4)) (get_or-set sizes (h % 4) (set_at (by_owner sizes (h % 4)) p (h / 4) row) [] (by_owner_within sizes (h % 4) p (h / 4) w) (g % 4))
    ∙ elim (eqb (g % 4) (h % 4)) as (λ b. eqb (g % 4) (h % 4) ≡ b → cell_at (cond b (set_at (by_owner sizes (h % 4)) p (h / 4) row) (by_owner sizes (g % 4))) q (g / 4) ≡ cond ((q == p) && (g == h)) row (entry sizes q g)) [
      | true ↦ λ e.
          let same : g % 4 ≡ h % 4 = eqb-true (g % 4) (h % 4) e in
          cell_at-set (by_owner sizes (h % 4)) p (h / 4) row w q (g / 4)
          ∙ ap (λ b. cond ((q == p) && b) row (cell_at (by_owner sizes (h % 4)) q (g / 4))) (same_quotient g h same)
          ∙ ap (λ r. cond ((q == p) && (g == h)) row (cell_at (by_owner sizes r) q (g / 4))) (sym same)
      | false ↦ λ e.
          let apart : (g == h) ≡ false = ne_eqb g h (λ s. eqb-false (g % 4) (h % 4) e (ap (λ x. x % 4) s)) in
          ap (λ b. cond b row (entry sizes q g)) (sym (never_and (q == p) (g == h) apart))
    ] refl

pub lengths-set_at : (tables : List (List (Option Row))) (x n : ℕ) (row : Option Row) → lengths (set_at tables x n row) ≡ lengths tables
lengths-set_at tables x n row =
    map-set length tables x (set (table tables x) n row)
    ∙ ap (set (lengths tables) x) (length-set (table tables x) n row ∙ sym (at_lengths tables x))
    ∙ set-get_or (lengths tables) x 0

pub lengths-set_entry : (sizes : List (List (List (Option Row)))) (p h : ℕ) (row : Option Row) → map lengths (set_entry sizes p h row) ≡ map lengths sizes
lengths-set_entry sizes p h row =
    map-set lengths sizes (h % 4) (set_at (by_owner sizes (h % 4)) p (h / 4) row)
    ∙ ap (set (map lengths sizes) (h % 4)) (lengths-set_at (by_owner sizes (h % 4)) p (h / 4) row ∙ sym (at_sizes sizes (h % 4)))
    ∙ set-get_or (map lengths sizes) (h % 4) []

-- ---- an exchange in each table

looks-Object : (c : RowTables) (x : ℕ) (new : List (Option Row)) (row : Option Row) → ((y : ℕ) → cell new y ≡ cond (y == x) row (cell c.objects y)) → (q : RowKey) → look (record c { objects = new }) q ≡ cond (rowkey_eq q (key.Object x)) row (look c q)
unfolding look
looks-Object c x new row e key.Counters = refl
looks-Object c x new row e (key.Object y) = e y
looks-Object c x new row e (key.Entry z w) = refl
looks-Object c x new row e (key.Msg z w) = refl
looks-Object c x new row e (key.Packet z w) = refl
looks-Object c x new row e (key.Wait z) = refl

pub exchanged-Object : (c : RowTables) (k : RowKey) (x : ℕ) (new : List (Option Row)) (row out : Option Row) → k ≡ key.Object x → place_of k < length_at (sizes_of c) k → new ≡ set c.objects x row → out ≡ cell c.objects x → Exchanged c (record c { objects = new }) k row out
unfolding look sizes_of
exchanged-Object c k x new row out is h put was =
    let within : x < length c.objects = subst (λ z. place_of z < length_at (sizes_of c) z) is h in
    let same : length new ≡ length c.objects = ap length put ∙ length-set c.objects x row in
    let places : ℕ → TableSizes = λ m. record { objects = m; entries = map lengths c.entries; messages = lengths c.messages; packets = lengths c.packets; waits = length c.waits } in
    subst (λ z. Exchanged c (record c { objects = new }) z row out) (sym is) (record {
      out = was;
      looks = looks-Object c x new row (λ y. ap (λ t. cell t y) put ∙ get_or-set c.objects x row None within y);
      sizes = ap places same;
    })

looks-Wait : (c : RowTables) (x : ℕ) (new : List (Option Row)) (row : Option Row) → ((y : ℕ) → cell new y ≡ cond (y == x) row (cell c.waits y)) → (q : RowKey) → look (record c { waits = new }) q ≡ cond (rowkey_eq q (key.Wait x)) row (look c q)
unfolding look
looks-Wait c x new row e key.Counters = refl
looks-Wait c x new row e (key.Object z) = refl
looks-Wait c x new row e (key.Entry z w) = refl
looks-Wait c x new row e (key.Msg z w) = refl
looks-Wait c x new row e (key.Packet z w) = refl
looks-Wait c x new row e (key.Wait y) = e y

pub exchanged-Wait : (c : RowTables) (k : RowKey) (x : ℕ) (new : List (Option Row)) (row out : Option Row) → k ≡ key.Wait x → place_of k < length_at (sizes_of c) k → new ≡ set c.waits x row → out ≡ cell c.waits x → Exchanged c (record c { waits = new }) k row out
unfolding look sizes_of
exchanged-Wait c k x new row out is h put was =
    let within : x < length c.waits = subst (λ z. place_of z < length_at (sizes_of c) z) is h in
    let same : length new ≡ length c.waits = ap length put ∙ length-set c.waits x row in
    let places : ℕ → TableSizes = λ m. record { objects = length c.objects; entries = map lengths c.entries; messages = lengths c.messages; packets = lengths c.packets; waits = m } in
    subst (λ z. Exchanged c (record c { waits = new }) z row out) (sym is) (record {
      out = was;
      looks = looks-Wait c x new row (λ y. ap (λ t. cell t y) put ∙ get_or-set c.waits x row None within y);
      sizes = ap places same;
    })

looks-Msg : (c : RowTables) (x n : ℕ) (new : List (List (Option Row))) (row : Option Row) → ((y i : ℕ) → cell_at new y i ≡ cond ((y == x) && (i == n)) row (cell_at c.messages y i)) → (q : RowKey) → look (record c { messages = new }) q ≡ cond (rowkey_eq q (key.Msg x n)) row (look c q)
unfolding look
looks-Msg c x n new row e key.Counters = refl
looks-Msg c x n new row e (key.Object z) = refl
looks-Msg c x n new row e (key.Entry z w) = refl
looks-Msg c x n new row e (key.Msg y i) = e y i
looks-Msg c x n new row e (key.Packet z w) = refl
looks-Msg c x n new row e (key.Wait z) = refl

pub exchanged-Msg : (c : RowTables) (k : RowKey) (x n : ℕ) (new : List (List (Option Row))) (row out : Option Row) → k ≡ key.Msg x n → place_of k < length_at (sizes_of c) k → new ≡ set_at c.messages x n row → out ≡ cell_at c.messages x n → Exchanged c (record c { messages = new }) k row out
unfolding look sizes_of
exchanged-Msg c k x n new row out is h put was =
    let within : n < length (table c.messages x) = rw (← at_lengths c.messages x) (subst (λ z. place_of z < length_at (sizes_of c) z) is h) in
    let same : lengths new ≡ lengths c.messages = ap lengths put ∙ lengths-set_at c.messages x n row in
    let places : List ℕ → TableSizes = λ m. record { objects = length c.objects; entries = map lengths c.entries; messages = m; packets = lengths c.packets; waits = length c.waits } in
    subst (λ z. Exchanged c (record c { messages = new }) z row out) (sym is) (record {
      out = was;
      looks = looks-Msg c x n new row (λ y i. ap (λ t. cell_at t y i) put ∙ cell_at-set c.messages x n row within y i);
      sizes = ap places same;
    })

looks-Packet : (c : RowTables) (x n : ℕ) (new : List (List (Option Row))) (row : Option Row) → ((y i : ℕ) → cell_at new y i ≡ cond ((y == x) && (i == n)) row (cell_at c.packets y i)) → (q : RowKey) → look (record c { packets = new }) q ≡ cond (rowkey_eq q (key.Packet x n)) row (look c q)
unfolding look
looks-Packet c x n new row e key.Counters = refl
looks-Packet c x n new row e (key.Object z) = refl
looks-Packet c x n new row e (key.Entry z w) = refl
looks-Packet c x n new row e (key.Msg z w) = refl
looks-Packet c x n new row e (key.Packet y i) = e y i
looks-Packet c x n new row e (key.Wait z) = refl

pub exchanged-Packet : (c : RowTables) (k : RowKey) (x n : ℕ) (new : List (List (Option Row))) (row out : Option Row) → k ≡ key.Packet x n → place_of k < length_at (sizes_of c) k → new ≡ set_at c.packets x n row → out ≡ cell_at c.packets x n → Exchanged c (record c { packets = new }) k row out
unfolding look sizes_of
exchanged-Packet c k x n new row out is h put was =
    let within : n < length (table c.packets x) = rw (← at_lengths c.packets x) (subst (λ z. place_of z < length_at (sizes_of c) z) is h) in
    let same : lengths new ≡ lengths c.packets = ap lengths put ∙ lengths-set_at c.packets x n row in
    let places : List ℕ → TableSizes = λ m. record { objects = length c.objects; entries = map lengths c.entries; messages = lengths c.messages; packets = m; waits = length c.waits } in
    subst (λ z. Exchanged c (record c { packets = new }) z row out) (sym is) (record {
      out = was;
      looks = looks-Packet c x n new row (λ y i. ap (λ t. cell_at t y i) put ∙ cell_at-set c.packets x n row within y i);
      sizes = ap places same;
    })

looks-Entry : (c : RowTables) (x n : ℕ) (new : List (List (List (Option Row)))) (row : Option Row) → ((y i : ℕ) → entry new y i ≡ cond ((y == x) && (i == n)) row (entry c.entries y i)) → (q : RowKey) → look (record c { entries = new }) q ≡ cond (rowkey_eq q (key.Entry x n)) row (look c q)
unfolding look
looks-Entry c x n new row e key.Counters = refl
looks-Entry c x n new row e (key.Object z) = refl
looks-Entry c x n new row e (key.Entry y i) = e y i
looks-Entry c x n new row e (key.Msg z w) = refl
looks-Entry c x n new row e (key.Packet z w) = refl
looks-Entry c x n new row e (key.Wait z) = refl

pub exchanged-Entry : (c : RowTables) (k : RowKey) (x n : ℕ) (new : List (List (List (Option Row)))) (row out : Option Row) → k ≡ key.Entry x n → place_of k < length_at (sizes_of c) k → new ≡ set_entry c.entries x n row → out ≡ entry c.entries x n → Exchanged c (record c { entries = new }) k row out
unfolding look sizes_of
exchanged-Entry c k x n new row out is h put was =
    let within : n / 4 < length (entry_table c.entries x n) = rw (← at_entries c.entries x n) (subst (λ z. place_of z < length_at (sizes_of c) z) is h) in
    let same : map lengths new ≡ map lengths c.entries = ap (λ t. map lengths t) put ∙ lengths-set_entry c.entries x n row in
    let places : List (List ℕ) → TableSizes = λ m. record { objects = length c.objects; entries = m; messages = lengths c.messages; packets = lengths c.packets; waits = length c.waits } in
    subst (λ z. Exchanged c (record c { entries = new }) z row out) (sym is) (record {
      out = was;
      looks = looks-Entry c x n new row (λ y i. ap (λ t. entry t y i) put ∙ entry-set c.entries x n row within y i);
      sizes = ap places same;
    })

looks-Counters : (c : RowTables) (row : Row) (q : RowKey) → look (record c { counters = row }) q ≡ cond (rowkey_eq q key.Counters) (Some row) (look c q)
unfolding look
looks-Counters c row key.Counters = refl
looks-Counters c row (key.Object z) = refl
looks-Counters c row (key.Entry z w) = refl
looks-Counters c row (key.Msg z w) = refl
looks-Counters c row (key.Packet z w) = refl
looks-Counters c row (key.Wait z) = refl

pub exchanged-Counters : (c : RowTables) (k : RowKey) (new row out : Row) → k ≡ key.Counters → new ≡ row → out ≡ c.counters → Exchanged c (record c { counters = new }) k (decode_slot k row) (decode_slot k out)
unfolding look sizes_of
exchanged-Counters c k new row out is put was =
    subst (λ z. Exchanged c (record c { counters = new }) z (decode_slot z row) (decode_slot z out)) (sym is) (subst (λ r. Exchanged c (record c { counters = r }) key.Counters (Some row) (Some out)) (sym put) (record {
      out = ap Some was;
      looks = looks-Counters c row;
      sizes = refl;
    }))

-- under another key than that of the counters, rows stand for what they stand for in a place
pub exchanged-under : (c d : RowTables) (k : RowKey) (row out : Row) → ((r : Row) → row_in r ≡ decode_slot k r) → Exchanged c d k (row_in row) (row_in out) → Exchanged c d k (decode_slot k row) (decode_slot k out)
exchanged-under c d k row out same x = subst (λ o. Exchanged c d k (decode_slot k row) o) (same out) (subst (λ r. Exchanged c d k r (row_in out)) (same row) x)

pub under_same : (k q : RowKey) → k ≡ q → ((r : Row) → row_in r ≡ decode_slot q r) → (r : Row) → row_in r ≡ decode_slot k r
under_same k q is same r = same r ∙ ap (λ z. decode_slot z r) (sym is)

-- ---- a growth of each table

longer-Object : (c : RowTables) (new : List (Option Row)) → length c.objects ≤ length new → (q : RowKey) → length_at (sizes_of c) q ≤ length_at (sizes_of (record c { objects = new })) q
unfolding sizes_of
longer-Object c new l key.Counters = omega arith
longer-Object c new l (key.Object y) = l
longer-Object c new l (key.Entry y i) = omega arith
longer-Object c new l (key.Msg y i) = omega arith
longer-Object c new l (key.Packet y i) = omega arith
longer-Object c new l (key.Wait y) = omega arith

same_looks-Object : (c : RowTables) (new : List (Option Row)) → ((y : ℕ) → cell new y ≡ cell c.objects y) → (q : RowKey) → look (record c { objects = new }) q ≡ look c q
unfolding look
same_looks-Object c new e key.Counters = refl
same_looks-Object c new e (key.Object y) = e y
same_looks-Object c new e (key.Entry y i) = refl
same_looks-Object c new e (key.Msg y i) = refl
same_looks-Object c new e (key.Packet y i) = refl
same_looks-Object c new e (key.Wait y) = refl

pub widened-Object : (c : RowTables) (new : List (Option Row)) → ((y : ℕ) → cell new y ≡ cell c.objects y) → length c.objects ≤ length new → Widened c (record c { objects = new })
widened-Object c new e l = record { looks = same_looks-Object c new e; longer = longer-Object c new l }

pub made-Object : (c : RowTables) (k : RowKey) (x : ℕ) (new : List (Option Row)) → k ≡ key.Object x → length new ≡ x + 1 → MadeFor k c (record c { objects = new })
unfolding sizes_of places_in
made-Object c k x new is made =
    subst (λ z. MadeFor z c (record c { objects = new })) (sym is) (record { there = omega arith; counted = omega arith })

longer-Wait : (c : RowTables) (new : List (Option Row)) → length c.waits ≤ length new → (q : RowKey) → length_at (sizes_of c) q ≤ length_at (sizes_of (record c { waits = new })) q
unfolding sizes_of
longer-Wait c new l key.Counters = omega arith
longer-Wait c new l (key.Object y) = omega arith
longer-Wait c new l (key.Entry y i) = omega arith
longer-Wait c new l (key.Msg y i) = omega arith
longer-Wait c new l (key.Packet y i) = omega arith
longer-Wait c new l (key.Wait y) = l

same_looks-Wait : (c : RowTables) (new : List (Option Row)) → ((y : ℕ) → cell new y ≡ cell c.waits y) → (q : RowKey) → look (record c { waits = new }) q ≡ look c q
unfolding look
same_looks-Wait c new e key.Counters = refl
same_looks-Wait c new e (key.Object y) = refl
same_looks-Wait c new e (key.Entry y i) = refl
same_looks-Wait c new e (key.Msg y i) = refl
same_looks-Wait c new e (key.Packet y i) = refl
same_looks-Wait c new e (key.Wait y) = e y

pub widened-Wait : (c : RowTables) (new : List (Option Row)) → ((y : ℕ) → cell new y ≡ cell c.waits y) → length c.waits ≤ length new → Widened c (record c { waits = new })
widened-Wait c new e l = record { looks = same_looks-Wait c new e; longer = longer-Wait c new l }

pub made-Wait : (c : RowTables) (k : RowKey) (x : ℕ) (new : List (Option Row)) → k ≡ key.Wait x → length new ≡ x + 1 → MadeFor k c (record c { waits = new })
unfolding sizes_of places_in
made-Wait c k x new is made =
    subst (λ z. MadeFor z c (record c { waits = new })) (sym is) (record { there = omega arith; counted = omega arith })

longer-Msg : (c : RowTables) (new : List (List (Option Row))) → ((y : ℕ) → length (table c.messages y) ≤ length (table new y)) → (q : RowKey) → length_at (sizes_of c) q ≤ length_at (sizes_of (record c { messages = new })) q
unfolding sizes_of
longer-Msg c new l key.Counters = omega arith
longer-Msg c new l (key.Object y) = omega arith
longer-Msg c new l (key.Entry y i) = omega arith
longer-Msg c new l (key.Msg y i) = rw (at_lengths c.messages y, at_lengths new y) (l y)
longer-Msg c new l (key.Packet y i) = omega arith
longer-Msg c new l (key.Wait y) = omega arith

same_looks-Msg : (c : RowTables) (new : List (List (Option Row))) → ((y i : ℕ) → cell_at new y i ≡ cell_at c.messages y i) → (q : RowKey) → look (record c { messages = new }) q ≡ look c q
unfolding look
same_looks-Msg c new e key.Counters = refl
same_looks-Msg c new e (key.Object y) = refl
same_looks-Msg c new e (key.Entry y i) = refl
same_looks-Msg c new e (key.Msg y i) = e y i
same_looks-Msg c new e (key.Packet y i) = refl
same_looks-Msg c new e (key.Wait y) = refl

pub widened-Msg : (c : RowTables) (new : List (List (Option Row))) → ((y i : ℕ) → cell_at new y i ≡ cell_at c.messages y i) → ((y : ℕ) → length (table c.messages y) ≤ length (table new y)) → Widened c (record c { messages = new })
widened-Msg c new e l = record { looks = same_looks-Msg c new e; longer = longer-Msg c new l }

pub made-Msg : (c : RowTables) (k : RowKey) (x n : ℕ) (new : List (List (Option Row))) → k ≡ key.Msg x n → length (table new x) ≡ n + 1 → sum (lengths new) + length (table c.messages x) ≡ sum (lengths c.messages) + (n + 1) → MadeFor k c (record c { messages = new })
unfolding sizes_of places_in
made-Msg c k x n new is made counted =
    let a = at_lengths new x in
    let b = at_lengths c.messages x in
    subst (λ z. MadeFor z c (record c { messages = new })) (sym is) (record { there = omega arith; counted = omega arith })

longer-Packet : (c : RowTables) (new : List (List (Option Row))) → ((y : ℕ) → length (table c.packets y) ≤ length (table new y)) → (q : RowKey) → length_at (sizes_of c) q ≤ length_at (sizes_of (record c { packets = new })) q
unfolding sizes_of
longer-Packet c new l key.Counters = omega arith
longer-Packet c new l (key.Object y) = omega arith
longer-Packet c new l (key.Entry y i) = omega arith
longer-Packet c new l (key.Msg y i) = omega arith
longer-Packet c new l (key.Packet y i) = rw (at_lengths c.packets y, at_lengths new y) (l y)
longer-Packet c new l (key.Wait y) = omega arith

same_looks-Packet : (c : RowTables) (new : List (List (Option Row))) → ((y i : ℕ) → cell_at new y i ≡ cell_at c.packets y i) → (q : RowKey) → look (record c { packets = new }) q ≡ look c q
unfolding look
same_looks-Packet c new e key.Counters = refl
same_looks-Packet c new e (key.Object y) = refl
same_looks-Packet c new e (key.Entry y i) = refl
same_looks-Packet c new e (key.Msg y i) = refl
same_looks-Packet c new e (key.Packet y i) = e y i
same_looks-Packet c new e (key.Wait y) = refl

pub widened-Packet : (c : RowTables) (new : List (List (Option Row))) → ((y i : ℕ) → cell_at new y i ≡ cell_at c.packets y i) → ((y : ℕ) → length (table c.packets y) ≤ length (table new y)) → Widened c (record c { packets = new })
widened-Packet c new e l = record { looks = same_looks-Packet c new e; longer = longer-Packet c new l }

pub made-Packet : (c : RowTables) (k : RowKey) (x n : ℕ) (new : List (List (Option Row))) → k ≡ key.Packet x n → length (table new x) ≡ n + 1 → sum (lengths new) + length (table c.packets x) ≡ sum (lengths c.packets) + (n + 1) → MadeFor k c (record c { packets = new })
unfolding sizes_of places_in
made-Packet c k x n new is made counted =
    let a = at_lengths new x in
    let b = at_lengths c.packets x in
    subst (λ z. MadeFor z c (record c { packets = new })) (sym is) (record { there = omega arith; counted = omega arith })

longer-Entry : (c : RowTables) (new : List (List (List (Option Row)))) → ((y i : ℕ) → length (entry_table c.entries y i) ≤ length (entry_table new y i)) → (q : RowKey) → length_at (sizes_of c) q ≤ length_at (sizes_of (record c { entries = new })) q
unfolding sizes_of
longer-Entry c new l key.Counters = omega arith
longer-Entry c new l (key.Object y) = omega arith
longer-Entry c new l (key.Entry y i) = rw (at_entries c.entries y i, at_entries new y i) (l y i)
longer-Entry c new l (key.Msg y i) = omega arith
longer-Entry c new l (key.Packet y i) = omega arith
longer-Entry c new l (key.Wait y) = omega arith

same_looks-Entry : (c : RowTables) (new : List (List (List (Option Row)))) → ((y i : ℕ) → entry new y i ≡ entry c.entries y i) → (q : RowKey) → look (record c { entries = new }) q ≡ look c q
unfolding look
same_looks-Entry c new e key.Counters = refl
same_looks-Entry c new e (key.Object y) = refl
same_looks-Entry c new e (key.Entry y i) = e y i
same_looks-Entry c new e (key.Msg y i) = refl
same_looks-Entry c new e (key.Packet y i) = refl
same_looks-Entry c new e (key.Wait y) = refl

pub widened-Entry : (c : RowTables) (new : List (List (List (Option Row)))) → ((y i : ℕ) → entry new y i ≡ entry c.entries y i) → ((y i : ℕ) → length (entry_table c.entries y i) ≤ length (entry_table new y i)) → Widened c (record c { entries = new })
widened-Entry c new e l = record { looks = same_looks-Entry c new e; longer = longer-Entry c new l }

pub made-Entry : (c : RowTables) (k : RowKey) (x n : ℕ) (new : List (List (List (Option Row)))) → k ≡ key.Entry x n → length (entry_table new x n) ≡ n / 4 + 1 → entry_places new + length (entry_table c.entries x n) ≡ entry_places c.entries + (n / 4 + 1) → MadeFor k c (record c { entries = new })
unfolding sizes_of places_in
made-Entry c k x n new is made counted =
    let a = at_entries new x n in
    let b = at_entries c.entries x n in
    subst (λ z. MadeFor z c (record c { entries = new })) (sym is) (record { there = omega arith; counted = omega arith })

pub places-Entry : (c : RowTables) (new : List (List (List (Option Row)))) → entry_places new ≡ entry_places c.entries → places_in (record c { entries = new }) ≡ places_in c
unfolding places_in
places-Entry c new e = omega arith

pub places-Msg : (c : RowTables) (new : List (List (Option Row))) → sum (lengths new) ≡ sum (lengths c.messages) → places_in (record c { messages = new }) ≡ places_in c
unfolding places_in
places-Msg c new e = omega arith

pub places-Packet : (c : RowTables) (new : List (List (Option Row))) → sum (lengths new) ≡ sum (lengths c.packets) → places_in (record c { packets = new }) ≡ places_in c
unfolding places_in
places-Packet c new e = omega arith

-- two facts of an Ok make a third
pub on_ok_two : {T E P Q R : Type 0} (r : Result T E) → (P → Q → R) → OnOk r P → OnOk r Q → OnOk r R
on_ok_two (Ok x) f p q = f p q
on_ok_two (Err e) f p q = tt
