-- What the functions of calls on ports need: room in a port, and that to cancel nothing changes nothing.
use Rattle.std.proofs.Common.{◌≡◌, ℕ, ◌+◌, ◌^◌, ◌<◌, ◌≤◌, Bool, true, false, Option, Some, None, Ok, refl, sym, ap, ◌∙◌, arith, option_and_then}
use Rattle.std.specs.Prelude.{Result, ok_or, if◌then◌else◌, ⊤}
use Rattle.zt_bits.specs.declared.kinds.Kind.{Kind}
use Rattle.zt_bits.specs.declared.kinds.Kind.TheVariants as kind
use Rattle.zt_bits.specs.declared.statuses.Status.{Status}
use Rattle.zt_bits.specs.declared.statuses.Status.TheVariants as status
use Rattle.zt_rows.specs.declared.calls.Reply.{Reply}
use Rattle.zt_rows.specs.declared.calls.Reply.TheVariants as reply
use Rattle.zt_rows.specs.declared.keys.RowKey.{RowKey}
use Rattle.zt_rows.specs.declared.rows.Held.{Held}
use Rattle.zt_rows.specs.declared.rows.ObjectRow.{ObjectRow}
use Rattle.zt_rows.specs.declared.rows.Row.{Row}
use Rattle.zt_rows.specs.State.{State, row}
use Rattle.zt_rows.specs.Reads.{entry, object}
use Rattle.zt_rows.specs.Tests.{any_kind, any_row, has_all, is_port, next_at, object_next}
use Rattle.zt_rows.specs.Room.{HasRoom, NextFits}
use Rattle.zt_rows.specs.Handles.{◌>>=◌, answered, check, done, handle, handle_else}
use Rattle.zt_rows.specs.PortCalls.{cancel, is_cancelled, port_cancel}
use Rattle.zt_rows.proofs.StateLaws.{row-change, same_state}
use Rattle.zt_rows.proofs.RowLaws.{any_row-at, not_true, true≢false}
use Rattle.zt_store.specs.StepView.{Stepping, Advanced}
use Rattle.zt_calls.proofs.GoingOn.{reached}

-- ---- a port by a handle

-- what a handle that passes its checks names is there, and of a expected kind
module _ (wrong : Status) (S : State) (wanted : Kind → Bool) (rights : ℕ) (held : Held) (o : ObjectRow) where
  abbrev IsThere : Type 0
  IsThere = (object S held.koid ≡ Some o) × (wanted o.kind ≡ true)

  of_right : (g : Held) (q : ObjectRow) (b : Bool) → object S g.koid ≡ Some q → wanted q.kind ≡ true → ◌≡◌ {A = Result (Held × ObjectRow) Status} (Ok (held, o)) (check b status.AccessDenied >>= (λ _. Ok (g, q))) → IsThere
  of_right g q true is kind e =
      let pair : ◌≡◌ {A = Held × ObjectRow} (held, o) (g, q) = cc in
      let first : held ≡ g = ap (λ (z : Held × ObjectRow). z.0) pair in
      let second : o ≡ q = ap (λ (z : Held × ObjectRow). z.1) pair in
      (ap (λ (z : Held). object S z.koid) first ∙ is ∙ ap Some (sym second), ap (λ (z : ObjectRow). wanted z.kind) second ∙ kind)
  of_right g q false is kind e = cc

  of_kind : (g : Held) (q : ObjectRow) (b : Bool) → wanted q.kind ≡ b → object S g.koid ≡ Some q → ◌≡◌ {A = Result (Held × ObjectRow) Status} (Ok (held, o)) (check b wrong >>= (λ _. check (has_all g.rights.0 rights) status.AccessDenied >>= (λ _. Ok (g, q)))) → IsThere
  of_kind g q true kind is e = of_right g q (has_all g.rights.0 rights) is kind e
  of_kind g q false kind is e = cc

  of_object : (g : Held) (r : Option ObjectRow) → object S g.koid ≡ r → ◌≡◌ {A = Result (Held × ObjectRow) Status} (Ok (held, o)) (ok_or r status.BadHandle >>= (λ (q : ObjectRow). check (wanted q.kind) wrong >>= (λ _. check (has_all g.rights.0 rights) status.AccessDenied >>= (λ _. Ok (g, q))))) → IsThere
  of_object g (Some q) is e = of_kind g q (wanted q.kind) refl is e
  of_object g None is e = cc

  of_entry : (r : Option Held) → ◌≡◌ {A = Result (Held × ObjectRow) Status} (Ok (held, o)) (ok_or r status.BadHandle >>= (λ (g : Held). ok_or (object S g.koid) status.BadHandle >>= (λ (q : ObjectRow). check (wanted q.kind) wrong >>= (λ _. check (has_all g.rights.0 rights) status.AccessDenied >>= (λ _. Ok (g, q)))))) → IsThere
  of_entry (Some g) e = of_object g (object S g.koid) refl e
  of_entry None e = cc

pub handle-there : (wrong : Status) (S : State) (p h : ℕ) (wanted : Kind → Bool) (rights : ℕ) (held : Held) (o : ObjectRow) → Ok (held, o) ≡ handle_else wrong S p h wanted rights → (object S held.koid ≡ Some o) × (wanted o.kind ≡ true)
handle-there wrong S p h wanted rights held o e = of_entry wrong S wanted rights held o (entry S p h) e

next-few : (k : Kind) (n : ℕ) → is_port k ≡ true → NextFits k n → n ≤ 2 ^ 62
next-few kind.Port n port fits = fits
next-few _ n port fits = cc

-- where there is room, a port has room for a packet
pub port-fits : (S : State) (p h rights : ℕ) (held : Held) (o : ObjectRow) → HasRoom S → Ok (held, o) ≡ handle S p h is_port rights → next_at S held.koid + 1 < 2 ^ 64
port-fits S p h rights held o room e =
    let w = handle-there status.WrongType S p h is_port rights held o e in
    let at : next_at S held.koid ≡ o.next = ap object_next w.0 in
    let few : o.next ≤ 2 ^ 62 = next-few o.kind o.next w.1 (room.owners held.koid o w.0) in
    omega arith

-- ---- nothing to cancel

module _ (test : RowKey → Row → Bool) (S : State) (none : any_row test S ≡ false) where
  fails : (k : RowKey) (r : Row) → row S k ≡ Some r → test k r ≡ false
  fails k r there = not_true (test k r) (λ t. true≢false (any_row test S) (any_row-at test S k r there t) none)

  stays : (k : RowKey) (o : Option Row) → row S k ≡ o → option_and_then (λ r. if test k r then None else Some r) o ≡ o
  stays k (Some r) there = ap (λ b. if b then None else Some r) (fails k r there)
  stays k None there = refl

  pub cancel-none : cancel test S ≡ S
  cancel-none = same_state _ _ (λ q. row-change (λ k r. if test k r then None else Some r) S q ∙ stays q (row S q) refl)

module _ (S : State) (p port source l : ℕ) (held : Held) (o : ObjectRow) (other : Held × ObjectRow) (first : Ok (held, o) ≡ handle S p port is_port 0x8) (second : Ok other ≡ handle S p source any_kind 0x4000) (none : any_row (is_cancelled held.koid p source l) S ≡ false) where
  abbrev last : ⊤ → Result (State × Reply) Status
  last _ = Ok (cancel (is_cancelled held.koid p source l) S, done)

  not_found : port_cancel S p port source l ≡ (S, reply.Status status.NotFound)
  not_found =
      ap (λ (r : Result (Held × ObjectRow) Status). answered S (r >>= (λ (w : Held × ObjectRow). handle S p source any_kind 0x4000 >>= (λ _. check (any_row (is_cancelled w.0.koid p source l) S) status.NotFound >>= (λ _. Ok (cancel (is_cancelled w.0.koid p source l) S, done)))))) (sym first)
      ∙ ap (λ (r : Result (Held × ObjectRow) Status). answered S (r >>= (λ _. check (any_row (is_cancelled held.koid p source l) S) status.NotFound >>= last))) (sym second)
      ∙ ap (λ b. answered S (check b status.NotFound >>= last)) none

  -- the step went on, and nothing was there to cancel
  pub cancel-refused : (s t : Stepping) → Advanced s t (cancel (is_cancelled held.koid p source l) S) → (Advanced s t (port_cancel S p port source l).0) × (reply.Status status.NotFound ≡ (port_cancel S p port source l).1)
  cancel-refused s t went = (
    reached s t _ _ went (cancel-none (is_cancelled held.koid p source l) S none ∙ ap (λ (d : State × Reply). d.0) (sym not_found)),
    ap (λ (d : State × Reply). d.1) (sym not_found),
  )
