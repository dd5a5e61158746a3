-- What is cancelled: packets, and then waits.
use Rattle.std.proofs.Common.{◌≡◌, ℕ, Bool, true, false, ◌&&◌, ◌||◌, ◌⊎◌, inl, inr, Option, Some, None, refl, sym, ap, ◌∙◌, option_and_then}
use Rattle.std.specs.Prelude.{◌==◌, if◌then◌else◌}
use Rattle.zt_rows.specs.declared.keys.RowKey.{RowKey}
use Rattle.zt_rows.specs.declared.keys.RowKey.TheVariants as key
use Rattle.zt_rows.specs.declared.rows.Packet.TheVariants as packet
use Rattle.zt_rows.specs.declared.rows.Row.{Row}
use Rattle.zt_rows.specs.declared.rows.Row.TheVariants as rows
use Rattle.zt_rows.specs.State.{State, row, change}
use Rattle.zt_rows.specs.Tests.{any_row}
use Rattle.zt_rows.specs.PortCalls.{cancel, is_cancelled}
use Rattle.zt_rows.proofs.StateLaws.{row-change, same_state}
use Rattle.zt_rows.proofs.RowLaws.{any_row-at, at-any_row, or_true, or_left, or_right, same_test}
use Rattle.zt_store.specs.StepView.{Stepping, Advanced}
use Rattle.zt_signals.specs.DroppedWaits.{is_cancelled_wait, without_cancelled_waits}
use Rattle.zt_signals.proofs.ColumnLaws.{without_those}
use Rattle.zt_ports.specs.ProofsOnly.CancelledWaits.{is_cancelled_packet}

-- ---- two tests, one after the other

module _ (first second both : RowKey → Row → Bool) (either : (k : RowKey) (r : Row) → both k r ≡ (first k r || second k r)) (apart : (k : RowKey) (r : Row) → second k r ≡ true → first k r ≡ false) (S : State) where
  abbrev between : State
  between = change (without_those first) S

  twice : (k : RowKey) (o : Option Row) → option_and_then (without_those second k) (option_and_then (without_those first k) o) ≡ option_and_then (without_those both k) o
  twice k None = refl
  twice k (Some r) =
      chosen (first k r) (second k r) refl ∙ ap (λ b. if b then None else Some r) (sym (either k r))
    where
      chosen : (a b : Bool) → second k r ≡ b → option_and_then (without_those second k) (if a then None else Some r) ≡ (if a || b then None else Some r)
      chosen true b e = refl
      chosen false b e = ap (λ c. if c then None else Some r) e

  pub change-both : change (without_those second) (change (without_those first) S) ≡ change (without_those both) S
  change-both =
      same_state _ _ (λ q.
      row-change (without_those second) between q
      ∙ ap (option_and_then (without_those second q)) (row-change (without_those first) S q)
      ∙ twice q (row S q)
      ∙ sym (row-change (without_those both) S q))

  stayed : (k : RowKey) (o : Option Row) (r : Row) → option_and_then (without_those first k) o ≡ Some r → o ≡ Some r
  stayed k None r e = cc
  stayed k (Some s) r e = kept (first k s) e
    where
      kept : (a : Bool) → (if a then None else Some s) ≡ Some r → Some s ≡ Some r
      kept true e = cc
      kept false e = e

  stays : (k : RowKey) (r : Row) → row S k ≡ Some r → second k r ≡ true → row between k ≡ Some r
  stays k r there t =
      row-change (without_those first) S k
      ∙ ap (option_and_then (without_those first k)) there
      ∙ ap (λ b. if b then None else Some r) (apart k r t)

  forth : (any_row first S ≡ true) ⊎ (any_row second between ≡ true) → any_row both S ≡ true
  forth (inl t) =
      let w = at-any_row first S t in
      any_row-at both S w.0 w.1 w.2 (either w.0 w.1 ∙ or_left (first w.0 w.1) (second w.0 w.1) w.3)
  forth (inr t) =
      let w = at-any_row second between t in
      any_row-at both S w.0 w.1 (stayed w.0 (row S w.0) w.1 (sym (row-change (without_those first) S w.0) ∙ w.2)) (either w.0 w.1 ∙ or_right (first w.0 w.1) (second w.0 w.1) w.3)

  back_at : (k : RowKey) (r : Row) → row S k ≡ Some r → (first k r ≡ true) ⊎ (second k r ≡ true) → (any_row first S || any_row second between) ≡ true
  back_at k r there (inl t) = or_left (any_row first S) (any_row second between) (any_row-at first S k r there t)
  back_at k r there (inr t) = or_right (any_row first S) (any_row second between) (any_row-at second between k r (stays k r there t) t)

  back : any_row both S ≡ true → (any_row first S || any_row second between) ≡ true
  back t =
      let w = at-any_row both S t in
      back_at w.0 w.1 w.2 (or_true (first w.0 w.1) (second w.0 w.1) (sym (either w.0 w.1) ∙ w.3))

  pub any-both : (any_row first S || any_row second (change (without_those first) S)) ≡ any_row both S
  any-both = same_test _ _ (λ t. forth (or_true (any_row first S) (any_row second between) t)) back

-- ---- packets and waits

packet_or_wait : (x p h packet_key : ℕ) (k : RowKey) (r : Row) → is_cancelled x p h packet_key k r ≡ (is_cancelled_packet x p h packet_key k r || is_cancelled_wait x p h packet_key k r)
packet_or_wait x p h l (key.Packet y n) (rows.Packet (packet.Signal m trigger seen process handle)) = regrouped (y == x) (process == p) (handle == h) (m == l)
  where
    regrouped : (a b c d : Bool) → (a && b && c && d) ≡ ((a && (b && c && d)) || false)
    regrouped true true true true = refl
    regrouped true true true false = refl
    regrouped true true false d = refl
    regrouped true false c d = refl
    regrouped false b c d = refl
packet_or_wait x p h l (key.Packet y n) (rows.Packet (packet.User m bytes)) = not_both (y == x)
  where
    not_both : (a : Bool) → false ≡ ((a && false) || false)
    not_both true = refl
    not_both false = refl
packet_or_wait x p h l (key.Packet y n) _ = refl
packet_or_wait x p h l (key.Wait n) (rows.Wait w) = refl
packet_or_wait x p h l (key.Wait n) _ = refl
packet_or_wait x p h l key.Counters r = refl
packet_or_wait x p h l (key.Object y) r = refl
packet_or_wait x p h l (key.Entry q g) r = refl
packet_or_wait x p h l (key.Msg y n) r = refl

not_both : (x p h packet_key : ℕ) (k : RowKey) (r : Row) → is_cancelled_wait x p h packet_key k r ≡ true → is_cancelled_packet x p h packet_key k r ≡ false
not_both x p h l (key.Wait n) r t = refl
not_both x p h l (key.Packet y n) r t = cc
not_both x p h l key.Counters r t = refl
not_both x p h l (key.Object y) r t = refl
not_both x p h l (key.Entry q g) r t = refl
not_both x p h l (key.Msg y n) r t = refl

module _ (x p h packet_key : ℕ) where
  -- a step went on without the packets, and then without the waits
  pub cancelled : (s t u : Stepping) → Advanced s t (cancel (is_cancelled_packet x p h packet_key) s.current) → Advanced t u (change (without_cancelled_waits x p h packet_key) t.current) → Advanced s u (cancel (is_cancelled x p h packet_key) s.current)
  cancelled s t u packets waits = (
    waits.0 ∙ packets.0,
    waits.1
        ∙ ap (change (without_cancelled_waits x p h packet_key)) packets.1
        ∙ change-both (is_cancelled_packet x p h packet_key) (is_cancelled_wait x p h packet_key) (is_cancelled x p h packet_key) (packet_or_wait x p h packet_key) (not_both x p h packet_key) s.current,
  )

  pub any-cancelled : (s t : Stepping) (a b : Bool) → Advanced s t (cancel (is_cancelled_packet x p h packet_key) s.current) → a ≡ any_row (is_cancelled_packet x p h packet_key) s.current → b ≡ any_row (is_cancelled_wait x p h packet_key) t.current → (a || b) ≡ any_row (is_cancelled x p h packet_key) s.current
  any-cancelled s t a b packets first second =
      ap (λ z. z || b) first
      ∙ ap (λ z. any_row (is_cancelled_packet x p h packet_key) s.current || z) (second ∙ ap (any_row (is_cancelled_wait x p h packet_key)) packets.1)
      ∙ any-both (is_cancelled_packet x p h packet_key) (is_cancelled_wait x p h packet_key) (is_cancelled x p h packet_key) (packet_or_wait x p h packet_key) (not_both x p h packet_key) s.current
