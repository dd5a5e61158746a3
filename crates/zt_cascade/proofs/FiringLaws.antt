-- Firing by number: a port's next number is raised by one where a wait for it fires, and never falls. So each wait that
-- fires has room where the last number is within its type; and no more numbers are given out than there are waits.
use Rattle.std.proofs.Common.{◌≡◌, ◌<◌, ◌≤◌, ◌^◌, ℕ, zero, suc, ◌+◌, Bool, true, false, cond, List, [], ◌∷◌, length, take, get_or, Option, Some, None, option_and_then, ◌⊎◌, inl, inr, refl, sym, ap, ◌∙◌, subst, arith}
use Rattle.std.specs.Prelude.{if◌then◌else◌, ◌==◌}
use Rattle.std.specs.List.{fold}
use Rattle.std.proofs.lemmas.Bool.{eqb-true}
use Rattle.zt_rows.specs.declared.keys.RowKey.TheVariants as key
use Rattle.zt_rows.specs.declared.rows.ObjectRow.{ObjectRow}
use Rattle.zt_rows.specs.declared.rows.Packet.{Packet}
use Rattle.zt_rows.specs.declared.rows.Wait.{Wait}
use Rattle.zt_rows.specs.declared.rows.Row.{Row}
use Rattle.zt_rows.specs.declared.rows.Row.TheVariants as rows
use Rattle.zt_rows.specs.State.{State, row, put}
use Rattle.zt_rows.specs.Reads.{as_object, as_wait, object, wait, waits}
use Rattle.zt_rows.specs.Tests.{next_at, object_next, raised}
use Rattle.zt_rows.specs.Settle.{refreshed, refresh, fire, fire_into, push_packet, is_met, news, settle}
use Rattle.zt_rows.proofs.RowLaws.{In}
use Rattle.zt_rows.proofs.StateLaws.{row-change, row-put, row-put-same}
use Rattle.zt_rows.proofs.SettleLaws.{in-waits}
use Rattle.zt_cascade.specs.PacketRoom.{FiresWithin}
use Rattle.zt_cascade.specs.ProofsOnly.RaisedWaits.{HasRoomFor, fire_if, fire_number}
use Rattle.zt_cascade.proofs.FiredLaws.{met-fire, wait-left}
use Rattle.zt_cascade.proofs.OrderLaws.{IsOrdered, ordered-waits}

-- ---- renewed signals

same_wait : (S : State) (n : ℕ) (r : Option Row) → option_and_then (refreshed S (key.Wait n)) r ≡ r
same_wait S n (Some r) = refl
same_wait S n None = refl

same_next : (S : State) (x : ℕ) (r : Option Row) → object_next (as_object (option_and_then (refreshed S (key.Object x)) r)) ≡ object_next (as_object r)
same_next S x (Some (rows.Object o)) = refl
same_next S x (Some (rows.Counters _)) = refl
same_next S x (Some (rows.Entry _)) = refl
same_next S x (Some (rows.Msg _)) = refl
same_next S x (Some (rows.Packet _)) = refl
same_next S x (Some (rows.Wait _)) = refl
same_next S x None = refl

pub wait-refreshed : (S : State) (n : ℕ) (w : Wait) → wait (refresh S) n ≡ Some w → wait S n ≡ Some w
unfolding refresh
wait-refreshed S n w h = ap as_wait (sym (row-change (refreshed S) S (key.Wait n) ∙ same_wait S n (row S (key.Wait n)))) ∙ h

next-refreshed : (S : State) (x : ℕ) → next_at (refresh S) x ≡ next_at S x
unfolding refresh
next-refreshed S x = ap (λ r. object_next (as_object r)) (row-change (refreshed S) S (key.Object x)) ∙ same_next S x (row S (key.Object x))

-- ---- one wait

-- n is m or m + 1
abbrev IsOneMore : ℕ → ℕ → Type 0
IsOneMore m n = (m ≤ n) × (n ≤ m + 1)

next-of : (p : ObjectRow) (b : Bool) (r : Option Row) → (b ≡ true → object_next (as_object r) ≡ p.next) → IsOneMore (object_next (as_object r)) (object_next (as_object (cond b (Some (rows.Object (raised p))) r)))
next-of p true r h = let e : object_next (as_object r) ≡ p.next = h refl in (omega arith, omega arith)
next-of p false r h = (omega arith, omega arith)

next-push : (S : State) (n : ℕ) (w : Wait) (p : ObjectRow) (parcel : Packet) (x : ℕ) → object S w.port ≡ Some p → IsOneMore (next_at S x) (next_at (push_packet w.port p parcel (put S (key.Wait n) None)) x)
next-push S n w p parcel x h =
    let one : row (put S (key.Wait n) None) (key.Object x) ≡ row S (key.Object x) = row-put S (key.Wait n) None (key.Object x) in
    let two : row (put (put S (key.Wait n) None) (key.Packet w.port p.next) (Some (rows.Packet parcel))) (key.Object x) ≡ row S (key.Object x) = row-put (put S (key.Wait n) None) (key.Packet w.port p.next) (Some (rows.Packet parcel)) (key.Object x) ∙ one in
    let three : row (push_packet w.port p parcel (put S (key.Wait n) None)) (key.Object x) ≡ cond (x == w.port) (Some (rows.Object (raised p))) (row S (key.Object x)) =
    row-put (put (put S (key.Wait n) None) (key.Packet w.port p.next) (Some (rows.Packet parcel))) (key.Object w.port) (Some (rows.Object (raised p))) (key.Object x) ∙ ap (cond (x == w.port) (Some (rows.Object (raised p)))) two in
    let same : (x == w.port) ≡ true → object_next (as_object (row S (key.Object x))) ≡ p.next = λ t. ap (λ y. object_next (object S y)) (eqb-true x w.port t) ∙ ap object_next h in
    subst (λ r. IsOneMore (next_at S x) (object_next (as_object r))) (sym three) (next-of p (x == w.port) (row S (key.Object x)) same)

next-into : (S : State) (n : ℕ) (w : Wait) (x : ℕ) (o : Option ObjectRow) → object S w.port ≡ o → IsOneMore (next_at S x) (next_at (fire_into o S (n, w)) x)
next-into S n w x (Some p) h = next-push S n w p (news S w) x h
next-into S n w x None h = (omega arith, omega arith)

module _ (B : State) where
  next-fire : (S : State) (e : ℕ × Wait) (x : ℕ) → IsOneMore (next_at S x) (next_at (fire B S e) x)
  next-fire S (n, w) x =
      elim (is_met B S w) as (λ b. IsOneMore (next_at S x) (next_at (if b then fire_into (object S w.port) S (n, w) else S) x)) [
        | true ↦ next-into S n w x (object S w.port) refl
        | false ↦ (omega arith, omega arith)
      ]

  next-if : (S : State) (n : ℕ) (o : Option Wait) (x : ℕ) → IsOneMore (next_at S x) (next_at (fire_if B S n o) x)
  next-if S n (Some w) x = next-fire S (n, w) x
  next-if S n None x = (omega arith, omega arith)

  -- the port of a wait that fires is raised by one
  next-raised : (S : State) (n : ℕ) (w : Wait) (p : ObjectRow) → object S w.port ≡ Some p → next_at (push_packet w.port p (news S w) (put S (key.Wait n) None)) w.port ≡ next_at S w.port + 1
  next-raised S n w p h =
      ap (λ r. object_next (as_object r))
      (row-put-same (put (put S (key.Wait n) None) (key.Packet w.port p.next) (Some (rows.Packet (news S w)))) (key.Object w.port) (Some (rows.Object (raised p))))
      ∙ ap (λ m. m + 1) (sym (ap object_next h))

  -- where a wait is met, its port is raised, or is not there
  next-met : (S : State) (n : ℕ) (w : Wait) → wait S n ≡ Some w → is_met B S w ≡ true → (next_at S w.port ≡ 0) ⊎ (next_at (fire_number B S n) w.port ≡ next_at S w.port + 1)
  next-met S n w there met = by (object S w.port) refl
    where
      fires : fire_number B S n ≡ fire_into (object S w.port) S (n, w)
      fires = ap (fire_if B S n) there ∙ ap (λ b. if b then fire_into (object S w.port) S (n, w) else S) met

      by : (r : Option ObjectRow) → object S w.port ≡ r → (next_at S w.port ≡ 0) ⊎ (next_at (fire_number B S n) w.port ≡ next_at S w.port + 1)
      by (Some p) e = inr (ap (λ (T : State). next_at T w.port) (fires ∙ ap (λ r. fire_into r S (n, w)) e) ∙ next-raised S n w p e)
      by None e = inl (ap object_next e)

  -- a wait that is not met changes nothing
  pub unmet-number : (S : State) (n : ℕ) (w : Wait) → wait S n ≡ Some w → is_met B S w ≡ false → S ≡ fire_number B S n
  unmet-number S n w there unmet = sym (ap (fire_if B S n) there ∙ ap (λ b. if b then fire_into (object S w.port) S (n, w) else S) unmet)

  -- ---- several numbers

  -- next numbers never fall
  next-grown : (ns : List ℕ) (S : State) (x : ℕ) → next_at S x ≤ next_at (fold (fire_number B) S ns) x
  next-grown [] S x = omega arith
  next-grown (n ∷ ns) S x =
      let here : IsOneMore (next_at S x) (next_at (fire_number B S n) x) = next-if S n (wait S n) x in
      let first : next_at S x ≤ next_at (fire_number B S n) x = here.0 in
      let later : next_at (fire_number B S n) x ≤ next_at (fold (fire_number B) (fire_number B S n) ns) x = next-grown ns (fire_number B S n) x in
      omega arith

  -- up to one of the numbers they are no greater than after the last
  next-part : (ns : List ℕ) (i d n : ℕ) (S : State) (x : ℕ) → i < length ns → n ≡ get_or ns i d → next_at (fire_number B (fold (fire_number B) S (take i ns)) n) x ≤ next_at (fold (fire_number B) S ns) x
  next-part [] i d n S x less is = absurd (omega arith)
  next-part (m ∷ ns) zero d n S x less is = subst (λ k. next_at (fire_number B S k) x ≤ next_at (fold (fire_number B) (fire_number B S m) ns) x) (sym is) (next-grown ns (fire_number B S m) x)
  next-part (m ∷ ns) (suc i) d n S x less is = next-part ns i d n (fire_number B S m) x (omega arith) is

  -- no wait comes
  wait-if : (S : State) (n : ℕ) (o : Option Wait) (m : ℕ) (w : Wait) → wait (fire_if B S n o) m ≡ Some w → wait S m ≡ Some w
  wait-if S n (Some v) m w e = wait-left B S n v m w e
  wait-if S n None m w e = e

  wait-numbers : (ns : List ℕ) (S : State) (m : ℕ) (w : Wait) → wait (fold (fire_number B) S ns) m ≡ Some w → wait S m ≡ Some w
  wait-numbers [] S m w e = e
  wait-numbers (n ∷ ns) S m w e = wait-if S n (wait S n) m w (wait-numbers ns (fire_number B S n) m w e)

  -- what is met stays met
  met-if : (S : State) (n : ℕ) (o : Option Wait) (v : Wait) → is_met B (fire_if B S n o) v ≡ is_met B S v
  met-if S n (Some w) v = met-fire B S n w v
  met-if S n None v = refl

  met-numbers : (ns : List ℕ) (S : State) (v : Wait) → is_met B (fold (fire_number B) S ns) v ≡ is_met B S v
  met-numbers [] S v = refl
  met-numbers (n ∷ ns) S v = met-numbers ns (fire_number B S n) v ∙ met-if S n (wait S n) v

  -- where the next wait is met, its port has room for its packet
  pub room-numbers : (A S T : State) (ns : List ℕ) (i d n : ℕ) → A ≡ B → FiresWithin B S (fold (fire_number B) S ns) → i < length ns → n ≡ get_or ns i d → T ≡ fold (fire_number B) S (take i ns) → HasRoomFor A T n
  room-numbers A S T ns i d n begun room less here is w there met =
      let U : State = fold (fire_number B) S (take i ns) in
      let there_now : wait U n ≡ Some w = ap (λ (V : State). wait V n) (sym is) ∙ there in
      let met_now : is_met B U w ≡ true = ap (λ (V : State). is_met B V w) (sym is) ∙ ap (λ Z. is_met Z T w) (sym begun) ∙ met in
      let stood : wait S n ≡ Some w = wait-numbers (take i ns) S n w there_now in
      let met_first : is_met B S w ≡ true = sym (met-numbers (take i ns) S w) ∙ met_now in
      let most : next_at (fold (fire_number B) S ns) w.port < 2 ^ 64 = room n w stood met_first in
      let part : next_at (fire_number B U n) w.port ≤ next_at (fold (fire_number B) S ns) w.port = next-part ns i d n S w.port less here in
      let fits : next_at U w.port + 1 < 2 ^ 64 = elim (next-met U n w there_now met_now) [ inl none ↦ omega arith | inr more ↦ omega arith ] in
      subst (λ (V : State). next_at V w.port + 1 < 2 ^ 64) (sym is) fits

  pub settled : (S : State) → fold (fire B) (refresh S) (waits (refresh S)) ≡ settle B S
  unfolding settle
  settled S = refl

  -- ---- few numbers

  next-fold : (L : List (ℕ × Wait)) (S : State) (x : ℕ) → next_at (fold (fire B) S L) x ≤ next_at S x + length L
  next-fold [] S x = omega arith
  next-fold (e ∷ L) S x =
      let here : IsOneMore (next_at S x) (next_at (fire B S e) x) = next-fire S e x in
      let one : next_at (fire B S e) x ≤ next_at S x + 1 = here.1 in
      let later : next_at (fold (fire B) (fire B S e) L) x ≤ next_at (fire B S e) x + length L = next-fold L (fire B S e) x in
      omega arith

  -- waits by rising number are no more than there are numbers
  few-rising : (L : List (ℕ × Wait)) (low high : ℕ) → low ≤ high → IsOrdered L → ((n : ℕ) (w : Wait) → In (n, w) L → (low ≤ n) × (n < high)) → low + length L ≤ high
  few-rising [] low high le order within = omega arith
  few-rising ((n, w) ∷ L) low high le order within =
      let here : (low ≤ n) × (n < high) = within n w (inl refl) in
      let above : low ≤ n = here.0 in
      let below : n < high = here.1 in
      let rest : (n + 1) + length L ≤ high = few-rising L (n + 1) high (omega arith) order.1 (λ m v l. let less : n < m = order.0 m v l in (omega arith, (within m v (inr l)).1)) in
      omega arith

  -- settling raises a next number by no more than there are numbers of waits
  pub settled-within : (S : State) (most x : ℕ) → ((n : ℕ) (w : Wait) → wait S n ≡ Some w → n < most) → next_at (settle B S) x ≤ next_at S x + most
  settled-within S most x below =
      let R : State = refresh S in
      let L : List (ℕ × Wait) = waits R in
      let few : 0 + length L ≤ most = few-rising L 0 most (omega arith) (ordered-waits R) (λ n w l. (omega arith, below n w (wait-refreshed S n w (in-waits R n w l)))) in
      let raised : next_at (fold (fire B) R L) x ≤ next_at R x + length L = next-fold L R x in
      let first : next_at R x ≡ next_at S x = next-refreshed S x in
      let last : next_at (settle B S) x ≡ next_at (fold (fire B) R L) x = ap (λ (T : State). next_at T x) (sym (settled S)) in
      omega arith
