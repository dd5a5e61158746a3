-- A walk over the packets of a port tells whether one of them is the one that is sought.
use Rattle.std.proofs.Common.{◌≡◌, ℕ, ◌^◌, ◌<◌, Bool, true, false, Option, Some, None, is_some, refl, sym, ◌∙◌, ap, inl, inr, arith}
use Rattle.std.specs.Prelude.{◌==◌}
use Rattle.std.specs.Option.{option_map_or}
use Rattle.std.proofs.lemmas.Bool.{cases_lt, true≢false, eqb-true, eq-eqb}
use Rattle.zt_rows.specs.declared.keys.RowKey.{RowKey}
use Rattle.zt_rows.specs.declared.keys.RowKey.TheVariants as key
use Rattle.zt_rows.specs.declared.rows.Packet.{Packet}
use Rattle.zt_rows.specs.declared.rows.Row.{Row}
use Rattle.zt_rows.specs.declared.rows.Row.TheVariants as rows
use Rattle.zt_rows.specs.Reads.{packet, as_packet}
use Rattle.zt_rows.specs.State.{State, row}
use Rattle.zt_rows.proofs.ReadLaws.{packet-row}
use Rattle.zt_rows.proofs.RowLaws.{any_row-at, at-any_row, and_left, and_right, and_both, not_true}
use Rattle.zt_index.specs.Chains.{IsNext}
use Rattle.zt_index.specs.Criteria.{has_packet}
use Rattle.zt_logs.specs.declared.logged.LoggedPacket.{LoggedPacket}
use Rattle.zt_import.specs.Schedule.{holds, is_queued, is_recorded}
use Rattle.zt_import.specs.ProofsOnly.PortQueue.{is_queued_under, AreOthersBefore, left_from}

none-there : (r : Option Row) → is_some r ≡ false → r ≡ None
none-there (Some r) e = cc
none-there None e = refl

-- a packet that passes, by what is read under its number
passing : (o : Option Packet) (test : Packet → Bool) → option_map_or test o false ≡ true → (p : Packet) × (o ≡ Some p) × (test p ≡ true)
passing (Some p) test e = (p, refl, e)
passing None test e = cc

module _ (S : State) (port : ℕ) (recorded : Option LoggedPacket) where
  -- a number without a packet
  missing : (n : ℕ) → has_packet S port n ≡ false → is_queued_under S port recorded n ≡ false
  missing n e = ap (λ r. option_map_or (is_recorded recorded) (as_packet r) false) (none-there (row S (key.Packet port n)) e)

  pub others-first : (next : Option ℕ) → IsNext (has_packet S port) None next → AreOthersBefore S port recorded next
  others-first next n = λ m short. missing m (n.1 m tt short)

  pub others-next : (number : ℕ) (next : Option ℕ) → is_queued_under S port recorded number ≡ false → AreOthersBefore S port recorded (Some number)
      → IsNext (has_packet S port) (Some number) next → AreOthersBefore S port recorded next
  others-next number next none so n = λ m short.
      elim (cases_lt m number) [
        | inl l ↦ so m l
        | inr g ↦ elim (cases_lt number m) [
          | inl l ↦ missing m (n.1 m l short)
          | inr h ↦
              let same : m ≡ number = omega (arith, g, h) in
              ap (is_queued_under S port recorded) same ∙ none
        ]
      ]

  none-queued : (k : RowKey) (r : Row) → AreOthersBefore S port recorded None → row S k ≡ Some r → is_queued port recorded k r ≡ true → ⊥
  none-queued (key.Packet owner n) (rows.Packet p) so at e =
      let same : owner ≡ port = eqb-true owner port (and_left (owner == port) (is_recorded recorded p) e) in
      let here : row S (key.Packet port n) ≡ Some (rows.Packet p) = ap (λ x. row S (key.Packet x n)) (sym same) ∙ at in
      let found : is_queued_under S port recorded n ≡ true =
      ap (λ r. option_map_or (is_recorded recorded) (as_packet r) false) here ∙ and_right (owner == port) (is_recorded recorded p) e in
      true≢false (sym found ∙ so n tt)
  none-queued (key.Packet owner n) r so at e = cc
  none-queued key.Counters r so at e = cc
  none-queued (key.Object x) r so at e = cc
  none-queued (key.Entry p h) r so at e = cc
  none-queued (key.Msg p n) r so at e = cc
  none-queued (key.Wait n) r so at e = cc

  pub none-held : AreOthersBefore S port recorded None → false ≡ holds S port recorded
  none-held so =
      sym (not_true (holds S port recorded) (λ e.
      let w = at-any_row (is_queued port recorded) S e in none-queued w.0 w.1 so w.2 w.3))

  pub one-held : (number : ℕ) → is_queued_under S port recorded number ≡ true → true ≡ holds S port recorded
  one-held number e =
      let w = passing (packet S port number) (is_recorded recorded) e in
      sym (any_row-at (is_queued port recorded) S (key.Packet port number) (rows.Packet w.0) (packet-row S port number w.0 w.1)
      (and_both (port == port) (is_recorded recorded w.0) (eq-eqb port port refl) w.2))

pub fewer-left : (number : ℕ) (next : Option ℕ) (has : ℕ → Bool) → number < 2 ^ 64 → IsNext has (Some number) next → left_from next < left_from (Some number)
fewer-left number None has small n = omega (arith, small)
fewer-left number (Some m) has small n = omega (arith, small, n.0.0)
