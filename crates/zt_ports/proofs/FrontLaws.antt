-- The first packet of a port, found by the least number under which the port has a row.
use Rattle.std.proofs.Common.{◌≡◌, ◌<◌, ℕ, Bool, true, false, cond, ◌&&◌, T, List, [], ◌∷◌, refl, sym, ap, ◌∙◌, subst, arith}
use Rattle.std.specs.Prelude.{Option, None, Some, IsSome, ◌==◌, if◌then◌else◌}
use Rattle.std.specs.List.{filter_map, cons_option}
use Rattle.std.specs.FinMap.Entries as entries
use Rattle.std.specs.Ordering.{eq_by_cmp, is_lt, nat_cmp, ordering_then}
use Rattle.std.proofs.lemmas.Bool.{eqb-true, eq-eqb}
use Rattle.std.proofs.lemmas.Bool.Decides.{nat_tests}
use Rattle.zt_rows.specs.declared.keys.RowKey.{RowKey}
use Rattle.zt_rows.specs.declared.keys.RowKey.TheVariants as key
use Rattle.zt_rows.specs.declared.rows.Packet.{Packet}
use Rattle.zt_rows.specs.declared.rows.Row.{Row}
use Rattle.zt_rows.specs.declared.rows.Row.TheVariants as rows
use Rattle.zt_rows.specs.Keys.{rowkey_cmp}
use Rattle.zt_rows.specs.ProofsOnly.KeyOrder.{rowkey_eq-cmp, rowkey_eq-self, rowkey_eq-equal}
use Rattle.zt_rows.specs.State.{State, row, put}
use Rattle.zt_rows.specs.Reads.{as_packet, packet, packet_of, packets}
use Rattle.zt_rows.specs.Room.{SuitsKey}
use Rattle.zt_rows.specs.Tests.{first}
use Rattle.zt_rows.proofs.ReadLaws.{some_one}
use Rattle.zt_cells.specs.FirstNumber.{IsFirst}
use Rattle.zt_ports.specs.PortFront.{without_packet, without_front}

-- ---- tests

left_of : (a b : Bool) → T (a && b) → T a
left_of true b h = tt
left_of false b h = h

right_of : (a b : Bool) → T (a && b) → T b
right_of true b h = h
right_of false b h = absurd h

it_holds : (b : Bool) → T b → b ≡ true
it_holds true h = refl
it_holds false h = absurd h

lower_number : (e j n : ℕ) → is_lt (ordering_then (nat_cmp e e) (nat_cmp j n)) ≡ true → j < n
lower_number e j n h = grind (arith, nat_tests)

if_some : {A : Type 0} (b : Bool) (v w : A) → (if b then Some v else None) ≡ Some w → (b ≡ true) × (v ≡ w)
if_some true v w e = (refl, some_one v w e)
if_some false v w e = cc

-- ---- one row

-- what a row gives to the packets of the port
packet-some : (x n : ℕ) (m : Packet) (k : RowKey) (r : Row) → packet_of x (k, r) ≡ Some (n, m) → (k ≡ key.Packet x n) × (r ≡ rows.Packet m)
packet-some x n m (key.Packet y i) (rows.Packet c) h =
    let w = if_some (x == y) (i, c) (n, m) h in
    let owner : y ≡ x = sym (eqb-true x y w.0) in
    let number : i ≡ n = ap (λ (z : ℕ × Packet). z.0) w.1 in
    let content : c ≡ m = ap (λ (z : ℕ × Packet). z.1) w.1 in
    (λ j. key.Packet (owner j) (number j), ap rows.Packet content)
packet-some x n m _ _ h = cc

packet-here : (x n : ℕ) (m : Packet) → packet_of x (key.Packet x n, rows.Packet m) ≡ Some (n, m)
packet-here x n m = ap (λ b. if b then Some (n, m) else None) (eq-eqb x x refl)

-- ---- what stands under a key

abbrev find_row : RowKey → List (RowKey × Row) → Option Row
find_row k es = entries.find rowkey_cmp k es

found-head : (e : RowKey × Row) (es : List (RowKey × Row)) → find_row e.0 (e ∷ es) ≡ Some e.1
found-head e es = ap (λ b. cond b (Some e.1) (find_row e.0 es)) (rowkey_eq-cmp e.0 e.0 ∙ rowkey_eq-self e.0)

none-tail : (k : RowKey) (e : RowKey × Row) (es : List (RowKey × Row)) → find_row k (e ∷ es) ≡ None → find_row k es ≡ None
none-tail k e es h =
    elim (eq_by_cmp rowkey_cmp k e.0) as (λ b. cond b (Some e.1) (find_row k es) ≡ None → find_row k es ≡ None) [
      | true ↦ λ s. cc
      | false ↦ λ s. s
    ] h

-- a row found behind a key stands under a greater one
found-above : (x k : RowKey) (r : Row) (es : List (RowKey × Row)) → T (entries.below_all rowkey_cmp x es) → find_row k es ≡ Some r → T (is_lt (rowkey_cmp x k))
found-above x k r [] below h = cc
found-above x k r (e ∷ es) below h =
    elim (eq_by_cmp rowkey_cmp k e.0) as (λ b. eq_by_cmp rowkey_cmp k e.0 ≡ b → cond b (Some e.1) (find_row k es) ≡ Some r → T (is_lt (rowkey_cmp x k))) [
      | true ↦ λ t _. subst (λ z. T (is_lt (rowkey_cmp x z))) (sym (rowkey_eq-equal k e.0 (sym (rowkey_eq-cmp k e.0) ∙ t))) (left_of _ _ below)
      | false ↦ λ _ s. found-above x k r es (right_of _ _ below) s
    ] refl h

-- ---- along the rows

abbrev packets_in : ℕ → List (RowKey × Row) → List (ℕ × Packet)
packets_in x es = filter_map (packet_of x) es

-- where the port has no row under any number, no row is one of its packets
not_packet : (x : ℕ) (e : RowKey × Row) (es : List (RowKey × Row)) → ((j : ℕ) → find_row (key.Packet x j) (e ∷ es) ≡ None) → packet_of x e ≡ None
not_packet x e es none =
    elim (packet_of x e) as (λ o. packet_of x e ≡ o → o ≡ None) [
      | None ↦ λ _. refl
      | Some v ↦ λ q.
          let is : e.0 ≡ key.Packet x v.0 = (packet-some x v.0 v.1 e.0 e.1 q).0 in
          let gone : find_row e.0 (e ∷ es) ≡ None = ap (λ k. find_row k (e ∷ es)) is ∙ none v.0 in
          let here : find_row e.0 (e ∷ es) ≡ Some e.1 = found-head e es in
          cc
    ] refl

none-there : (x : ℕ) (es : List (RowKey × Row)) → ((j : ℕ) → find_row (key.Packet x j) es ≡ None) → packets_in x es ≡ []
none-there x [] none = refl
none-there x (e ∷ es) none =
    ap (λ o. cons_option o (packets_in x es)) (not_packet x e es none) ∙ none-there x es (λ j. none-tail (key.Packet x j) e es (none j))

module _ (x n : ℕ) (m : Packet) where
  abbrev NoneLower : List (RowKey × Row) → Type 0
  NoneLower es = (j : ℕ) → j < n → find_row (key.Packet x j) es ≡ None

  -- a row before the first packet is not one of the port's
  passed : (e : RowKey × Row) (es : List (RowKey × Row)) → T (entries.below_all rowkey_cmp e.0 es) → find_row (key.Packet x n) es ≡ Some (rows.Packet m) → NoneLower (e ∷ es) → packet_of x e ≡ None
  passed e es below later none =
      elim (packet_of x e) as (λ o. packet_of x e ≡ o → o ≡ None) [
        | None ↦ λ _. refl
        | Some v ↦ λ q.
            let is : e.0 ≡ key.Packet x v.0 = (packet-some x v.0 v.1 e.0 e.1 q).0 in
            let above : T (is_lt (rowkey_cmp (key.Packet x v.0) (key.Packet x n))) = subst (λ k. T (is_lt (rowkey_cmp k (key.Packet x n)))) is (found-above e.0 (key.Packet x n) (rows.Packet m) es below later) in
            let gone : find_row e.0 (e ∷ es) ≡ None = ap (λ k. find_row k (e ∷ es)) is ∙ none v.0 (lower_number x v.0 n (it_holds _ above)) in
            let here : find_row e.0 (e ∷ es) ≡ Some e.1 = found-head e es in
            cc
      ] refl

  first-in : (es : List (RowKey × Row)) → T (entries.is_sorted rowkey_cmp es) → find_row (key.Packet x n) es ≡ Some (rows.Packet m) → NoneLower es → first (packets_in x es) ≡ Some (n, m)
  first-in [] sorted here none = cc
  first-in (e ∷ es) sorted here none =
      elim (eq_by_cmp rowkey_cmp (key.Packet x n) e.0) as (λ b. eq_by_cmp rowkey_cmp (key.Packet x n) e.0 ≡ b → cond b (Some e.1) (find_row (key.Packet x n) es) ≡ Some (rows.Packet m) → first (packets_in x (e ∷ es)) ≡ Some (n, m)) [
        | true ↦ λ t s.
            let place : key.Packet x n ≡ e.0 = rowkey_eq-equal (key.Packet x n) e.0 (sym (rowkey_eq-cmp (key.Packet x n) e.0) ∙ t) in
            let value : rows.Packet m ≡ e.1 = sym (some_one e.1 (rows.Packet m) s) in
            let is : ◌≡◌ {A = RowKey × Row} e (key.Packet x n, rows.Packet m) = λ i. (sym place i, sym value i) in
            ap (λ o. first (cons_option o (packets_in x es))) (ap (packet_of x) is ∙ packet-here x n m)
        | false ↦ λ t s.
            ap (λ o. first (cons_option o (packets_in x es))) (passed e es (left_of _ _ sorted) s none)
            ∙ first-in es (right_of _ _ sorted) s (λ j lower. none-tail (key.Packet x j) e es (none j lower))
      ] refl here

-- ---- the packets of a port

-- what a look for the least number says of the first packet
pub first-none : (S : State) (x : ℕ) → IsFirst S (λ j. key.Packet x j) None → first (packets S x) ≡ None
unfolding packets row
first-none S x none = ap first (none-there x S.rows none)

pub first-some : (S : State) (x n : ℕ) (m : Packet) → IsFirst S (λ j. key.Packet x j) (Some n) → row S (key.Packet x n) ≡ Some (rows.Packet m) → first (packets S x) ≡ Some (n, m)
unfolding packets row
first-some S x n m is here = first-in x n m S.rows S.sorted here is.1

-- under the least number there is a packet
pub front-there : (S : State) (x n : ℕ) → IsFirst S (λ j. key.Packet x j) (Some n) → ((k : RowKey) → SuitsKey k (row S k)) → packet S x n ≡ None → ⊥
front-there S x n is suited none = of (row S (key.Packet x n)) (suited (key.Packet x n)) is.0 none
  where
    of : (r : Option Row) → SuitsKey (key.Packet x n) r → IsSome r → as_packet r ≡ None → ⊥
    of (Some (rows.Packet p)) fits some gone = cc
    of (Some (rows.Counters c)) fits some gone = cc
    of (Some (rows.Object o)) fits some gone = cc
    of (Some (rows.Entry h)) fits some gone = cc
    of (Some (rows.Msg m)) fits some gone = cc
    of (Some (rows.Wait w)) fits some gone = cc
    of None fits some gone = cc

-- ---- without the first

pub taken_some : (S : State) (x n : ℕ) (k : Packet) → Some (n, k) ≡ first (packets S x) → without_front S x ≡ put S (key.Packet x n) None
taken_some S x n k h = ap (λ o. without_packet o S x) (sym h)

pub taken_none : (S : State) (x : ℕ) → None ≡ first (packets S x) → without_front S x ≡ S
taken_none S x h = ap (λ o. without_packet o S x) (sym h)
