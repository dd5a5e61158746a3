-- Numbers by koid that are those of the packets of users in the ports: how large they are, and what a put and a growth make
-- of them.
use Rattle.std.proofs.Common.{◌≢◌, ◌≡◌, ◌≤◌, ◌<◌, ◌-◌, ◌^◌, ℕ, ◌+◌, ⊎_elim, Bool, true, false, cond, ◌&&◌, List, length, get_or, set, Option, Some, None, refl, sym, ap, ◌∙◌, subst, arith, get_or-set_same, get_or-set_other}
use Rattle.std.specs.Prelude.{◌==◌, max}
use Rattle.std.proofs.lemmas.Bool.{cases_lt, eq-eqb, eqb-true, eqb-false, ltb-true}
use Rattle.std.proofs.lemmas.List.{get_or_past, get_or_read}
use mir.Val.{bool_byte}
use Rattle.zt_rows.specs.declared.keys.RowKey.{RowKey}
use Rattle.zt_rows.specs.declared.keys.RowKey.TheVariants as key
use Rattle.zt_rows.specs.declared.rows.Row.{Row}
use Rattle.zt_rows.specs.declared.rows.Row.TheVariants as rows
use Rattle.zt_rows.specs.Opening.{hollow}
use Rattle.zt_rows.specs.PortCalls.{is_user_packet_of, pending}
use Rattle.zt_rows.specs.State.{State, row, put}
use Rattle.zt_cells.specs.CellsView.{CellsView}
use Rattle.zt_cells.specs.TableSizes.{has_place, no_sizes, packets_after}
use Rattle.zt_index.specs.PacketCounts.{ArePending, HasNumber, counted_for, is_user_packet}
use Rattle.zt_index.specs.ProofsOnly.KoidCounts.{total}
use Rattle.zt_index.proofs.IndexLaws.{shelved_put}
use Rattle.zt_index.proofs.Totals.{count-total, share, total-put, share-within, total-within}

-- one for a packet of a user in the port x
abbrev user_by : ℕ → RowKey → Row → ℕ
user_by x k r = cond (is_user_packet_of x k r) 1 0

bit-few : (b : Bool) → cond {A = ℕ} b 1 0 ≤ 1
bit-few true = omega arith
bit-few false = omega arith

-- ---- what one row, or none, counts for

none_of : (b : Bool) → 0 ≡ cond {A = ℕ} (b && false) 1 0
none_of true = refl
none_of false = refl

share-counted : (x : ℕ) (k : RowKey) (r : Option Row) → share (user_by x) k r ≡ counted_for x k (is_user_packet r)
share-counted x (key.Packet p n) None = none_of (p == x)
share-counted x (key.Packet p n) (Some (rows.Packet k)) = refl
share-counted x (key.Packet p n) (Some _) = none_of (p == x)
share-counted x key.Counters None = refl
share-counted x (key.Object _) None = refl
share-counted x (key.Entry _ _) None = refl
share-counted x (key.Msg _ _) None = refl
share-counted x (key.Wait _) None = refl
share-counted x key.Counters (Some r) = refl
share-counted x (key.Object _) (Some r) = refl
share-counted x (key.Entry _ _) (Some r) = refl
share-counted x (key.Msg _ _) (Some r) = refl
share-counted x (key.Wait _) (Some r) = refl

counted-none : (x : ℕ) (k : RowKey) (user : Bool) → ((p n : ℕ) → k ≡ key.Packet p n → ⊥) → counted_for x k user ≡ 0
counted-none x (key.Packet p n) user out = absurd (out p n refl)
counted-none x key.Counters user out = refl
counted-none x (key.Object _) user out = refl
counted-none x (key.Entry _ _) user out = refl
counted-none x (key.Msg _ _) user out = refl
counted-none x (key.Wait _) user out = refl

-- ---- a put

-- a put takes off what the row that went counts for, and adds what the one that came does
pending-put : (S : State) (k : RowKey) (r : Option Row) (x : ℕ) → pending (put S k r) x + counted_for x k (is_user_packet (row S k)) ≡ pending S x + counted_for x k (is_user_packet r)
pending-put S k r x =
    omega (arith, total-put (user_by x) S k r, count-total (is_user_packet_of x) S, count-total (is_user_packet_of x) (put S k r), share-counted x k (row S k), share-counted x k r)

pub counted-other : (s : CellsView) (k : RowKey) (r : Option Row) (numbers : List ℕ) → ((p n : ℕ) → k ≡ key.Packet p n → ⊥) → ArePending s numbers → ArePending (shelved_put s k r) numbers
counted-other s k r numbers out is = record {
  counted = λ x. omega (arith, is.counted x, pending-put s.state k r x, counted-none x k (is_user_packet (row s.state k)) out, counted-none x k (is_user_packet r) out);
  reached = is.reached;
}

-- the numbers followed the row that came and the one that went
pub counted-exchanged : (s : CellsView) (k : RowKey) (r : Option Row) (came went : Bool) (old new : List ℕ) → came ≡ is_user_packet r → went ≡ is_user_packet (row s.state k)
    → ((x : ℕ) → get_or new x 0 + counted_for x k went ≡ get_or old x 0 + counted_for x k came) → length new ≡ length old → ArePending s old → ArePending (shelved_put s k r) new
counted-exchanged s k r came went old new is_came is_went moved len is = record {
  counted = λ x. omega (arith, moved x, is.counted x, pending-put s.state k r x, ap (counted_for x k) is_came, ap (counted_for x k) is_went);
  reached = λ x le. is.reached x (subst (λ l. l ≤ x) len le);
}

-- ---- how large the numbers are

pub number-few : (s : CellsView) (numbers : List ℕ) (x : ℕ) → ArePending s numbers → length s.state.rows ≤ 2 ^ 48 + 1 → get_or numbers x 0 < 2 ^ 63
number-few s numbers x is few =
    omega (arith, is.counted x, count-total (is_user_packet_of x) s.state, total-within (user_by x) 1 s.state (λ k r e. bit-few (is_user_packet_of x k r)))

-- the packet that goes is among those that are counted
pub went-counted : (s : CellsView) (numbers : List ℕ) (k : RowKey) (went : Bool) (x : ℕ) → went ≡ is_user_packet (row s.state k) → ArePending s numbers → counted_for x k went ≤ get_or numbers x 0
went-counted s numbers k went x is_went is =
    omega (arith, is.counted x, count-total (is_user_packet_of x) s.state, share-within (user_by x) s.state k, share-counted x k (row s.state k), ap (counted_for x k) is_went)

-- a port that has a place for a packet has a number
port-there : (s : CellsView) (numbers : List ℕ) (p n : ℕ) → ArePending s numbers → has_place s.sizes (key.Packet p n) ≡ true → p < length numbers
unfolding has_place
port-there s numbers p n is placed =
    ⊎_elim (λ lt. lt)
    (λ le. let none : get_or s.sizes.packets p 0 ≡ 0 = is.reached p le in
    let there : n < get_or s.sizes.packets p 0 = ltb-true n (get_or s.sizes.packets p 0) placed in
    absurd (omega arith)) (cases_lt p (length numbers))

pub number-there : (s : CellsView) (numbers : List ℕ) (k : RowKey) → ArePending s numbers → has_place s.sizes k ≡ true → HasNumber k numbers
number-there s numbers (key.Packet p n) is placed = port-there s numbers p n is placed
number-there s numbers key.Counters is placed = tt
number-there s numbers (key.Object _) is placed = tt
number-there s numbers (key.Entry _ _) is placed = tt
number-there s numbers (key.Msg _ _) is placed = tt
number-there s numbers (key.Wait _) is placed = tt

-- ---- the beginning, and growths

pub counted-hollow : (numbers : List ℕ) → length numbers ≡ 0 → ArePending (record { state = hollow; sizes = no_sizes }) numbers
unfolding total hollow put
counted-hollow numbers empty = record {
  counted = λ x. get_or_past numbers x 0 (omega arith) ∙ sym (count-total (is_user_packet_of x) hollow);
  reached = λ x le. refl;
}

-- more numbers, each of them 0
pub counted-grown : (s : CellsView) (old new : List ℕ) → ((x : ℕ) → get_or new x 0 ≡ get_or old x 0) → length old ≤ length new → ArePending s old → ArePending s new
counted-grown s old new same le is = record {
  counted = λ x. same x ∙ is.counted x;
  reached = λ x past. is.reached x (omega arith);
}

reached-after : (k : RowKey) (numbers : List ℕ) (x places : ℕ) → HasNumber k numbers → length numbers ≤ x → places ≡ 0 → packets_after k x places ≡ 0
reached-after (key.Packet p n) numbers x places lt le none = here (p == x) refl
  where
    here : (b : Bool) → (p == x) ≡ b → cond b (max places (n + 1)) places ≡ 0
    here true e = let same : p ≡ x = eqb-true p x e in absurd (omega arith)
    here false e = none
reached-after key.Counters numbers x places lt le none = none
reached-after (key.Object _) numbers x places lt le none = none
reached-after (key.Entry _ _) numbers x places lt le none = none
reached-after (key.Msg _ _) numbers x places lt le none = none
reached-after (key.Wait _) numbers x places lt le none = none

-- more places for the packets of a port that has a number
pub counted-made : (k : RowKey) (s t : CellsView) (numbers : List ℕ) → ArePending s numbers → HasNumber k numbers → t.state ≡ s.state → ((x : ℕ) → get_or t.sizes.packets x 0 ≤ packets_after k x (get_or s.sizes.packets x 0)) → ArePending t numbers
counted-made k s t numbers is has same few = record {
  counted = λ x. is.counted x ∙ ap (λ S. pending S x) (sym same);
  reached = λ x le.
      let none : packets_after k x (get_or s.sizes.packets x 0) ≡ 0 = reached-after k numbers x (get_or s.sizes.packets x 0) has le (is.reached x le) in
      omega (arith, few x);
}

-- ---- the number of a port as code reads and writes it

abbrev bit : Bool → ℕ
bit b = cond b 1 0

byte-bit : (b : Bool) (m : ℕ) → m ≡ bool_byte b → m ≡ bit b
byte-bit true m at = at
byte-bit false m at = at

counted-bit : (p n y : ℕ) (b : Bool) → counted_for y (key.Packet p n) b ≡ cond (p == y) (bit b) 0
counted-bit p n y b = here (p == y)
  where
    here : (t : Bool) → cond {A = ℕ} (t && b) 1 0 ≡ cond t (bit b) 0
    here true = refl
    here false = refl

module _ (seen numbers : List ℕ) (k : RowKey) (port x n : ℕ) (same : seen ≡ numbers) (at : x ≡ port) (is : k ≡ key.Packet port n) (has : HasNumber k numbers) where
  pub seen-within : x < length seen
  seen-within =
      let within : port < length numbers = subst (λ q. HasNumber q numbers) is has in
      subst (λ y. y < length seen) (sym at) (subst (λ (l : List ℕ). port < length l) (sym same) within)

  pub seen-number : (m : ℕ) → m ≡ get_or seen x m → m ≡ get_or numbers port 0
  seen-number m read = get_or_read seen x m seen-within read 0 ∙ (λ i. get_or (same i) (at i) 0)

  counted-here : (y : ℕ) (b : Bool) → counted_for y k b ≡ cond (port == y) (bit b) 0
  counted-here y b = ap (λ q. counted_for y q b) is ∙ counted-bit port n y b

  counted-own : (b : Bool) → counted_for port k b ≡ bit b
  counted-own b = counted-here port b ∙ ap (λ t. cond t (bit b) 0) (eq-eqb port port refl)

  module _ (m came went : ℕ) (a b : Bool) (read : m ≡ get_or seen x m) (at_came : came ≡ bool_byte a) (at_went : went ≡ bool_byte b) (there : (y : ℕ) → counted_for y k b ≤ get_or numbers y 0) where
    pub seen-enough : went ≤ m + came
    seen-enough = omega (arith, there port, counted-own b, byte-bit b went at_went, seen-number m read)

    pub seen-moved : (y : ℕ) → get_or (set seen x (m + came - went)) y 0 + counted_for y k b ≡ get_or numbers y 0 + counted_for y k a
    seen-moved y = here (port == y) refl
      where
        here : (t : Bool) → (port == y) ≡ t → get_or (set seen x (m + came - went)) y 0 + counted_for y k b ≡ get_or numbers y 0 + counted_for y k a
        here true e =
            let own : x ≡ y = at ∙ eqb-true port y e in
            let set_here : get_or (set seen x (m + came - went)) x 0 ≡ m + came - went = get_or-set_same seen x (m + came - went) 0 seen-within in
            let set_at : get_or (set seen x (m + came - went)) y 0 ≡ m + came - went = subst (λ z. get_or (set seen x (m + came - went)) z 0 ≡ m + came - went) own set_here in
            let old : m ≡ get_or numbers y 0 = subst (λ z. m ≡ get_or numbers z 0) (eqb-true port y e) (seen-number m read) in
            omega (arith, set_at, old, seen-enough, byte-bit a came at_came, byte-bit b went at_went, counted-here y a, counted-here y b, ap (λ t. cond t (bit a) 0) e, ap (λ t. cond t (bit b) 0) e)
        here false e =
            let apart : y ≢ x = λ q. eqb-false port y e (sym (q ∙ at)) in
            let set_at : get_or (set seen x (m + came - went)) y 0 ≡ get_or seen y 0 = get_or-set_other seen x y (m + came - went) 0 apart in
            omega (arith, set_at, ap (λ (l : List ℕ). get_or l y 0) same, counted-here y a, counted-here y b, ap (λ t. cond t (bit a) 0) e, ap (λ t. cond t (bit b) 0) e)
