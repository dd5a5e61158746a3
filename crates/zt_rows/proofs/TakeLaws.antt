-- Entries of a process that are taken out, with the waits made on them, leave a sound state sound.
use Rattle.std.proofs.Common.{◌≡◌, ◌≤◌, ℕ, Bool, true, false, cond, ◌&&◌, inl, refl, sym, ap, ◌∙◌, subst, arith}
use Rattle.std.specs.Prelude.{Option, None, Some, option_and_then, if◌then◌else◌, ◌==◌}
use Rattle.zt_rows.specs.declared.keys.RowKey.{RowKey}
use Rattle.zt_rows.specs.declared.keys.RowKey.TheVariants as key
use Rattle.zt_rows.specs.declared.rows.Counters.{Counters}
use Rattle.zt_rows.specs.declared.rows.Held.{Held}
use Rattle.zt_rows.specs.declared.rows.Wait.{Wait}
use Rattle.zt_rows.specs.declared.rows.Row.{Row}
use Rattle.zt_rows.specs.declared.rows.Row.TheVariants as rows
use Rattle.zt_rows.specs.State.{State, row}
use Rattle.zt_rows.specs.Reads.{as_counters, as_object, as_entry, as_message, as_packet, as_wait, counters, object, entry, message, packet, wait}
use Rattle.zt_rows.specs.Room.{suits}
use Rattle.zt_rows.specs.PortCalls.{is_user_packet_of, pending, most_pending}
use Rattle.zt_rows.specs.Handles.{taken, take_out_all, next_koid}
use Rattle.zt_rows.specs.Consistent.{IsSound}
use Rattle.zt_rows.proofs.StateLaws.{row-change}
use Rattle.zt_rows.proofs.RowLaws.{count_row-change}
use Rattle.zt_rows.proofs.ReadLaws.{some_one, exists-some, only_if, none_either, if_none}
use Rattle.zt_rows.proofs.SoundLaws.{changed-suits}
use Rattle.zt_rows.proofs.GrownLaws.{Grown, kept_itself, sound-grown}

module _ (p : ℕ) (values : ℕ → Bool) where
  -- ---- what stands under each key

  abbrev goes_out : ℕ → ℕ → Bool
  goes_out q h = (q == p) && values h

  object-kept : (x : ℕ) (r : Option Row) → as_object (option_and_then (taken p values (key.Object x)) r) ≡ as_object r
  object-kept x (Some r) = refl
  object-kept x None = refl

  counters-kept : (r : Option Row) → as_counters (option_and_then (taken p values key.Counters) r) ≡ as_counters r
  counters-kept (Some r) = refl
  counters-kept None = refl

  message-kept : (e n : ℕ) (r : Option Row) → as_message (option_and_then (taken p values (key.Msg e n)) r) ≡ as_message r
  message-kept e n (Some r) = refl
  message-kept e n None = refl

  packet-kept : (e n : ℕ) (r : Option Row) → as_packet (option_and_then (taken p values (key.Packet e n)) r) ≡ as_packet r
  packet-kept e n (Some r) = refl
  packet-kept e n None = refl

  entry-left : (q h : ℕ) (r : Option Row) → as_entry (option_and_then (taken p values (key.Entry q h)) r) ≡ cond (goes_out q h) None (as_entry r)
  entry-left q h (Some (rows.Entry held)) = elim (goes_out q h) as (λ b. as_entry (if b then None else Some (rows.Entry held)) ≡ cond b None (Some held)) [ true ↦ refl | false ↦ refl ]
  entry-left q h None = none_either (goes_out q h)
  entry-left q h _ = none_either (goes_out q h)

  abbrev staying : Wait → Option Wait
  staying w = if goes_out w.process w.handle then None else Some w

  wait-left : (n : ℕ) (r : Option Row) → as_wait (option_and_then (taken p values (key.Wait n)) r) ≡ option_and_then staying (as_wait r)
  wait-left n (Some (rows.Wait w)) = elim (goes_out w.process w.handle) as (λ b. as_wait (if b then None else Some (rows.Wait w)) ≡ (if b then None else Some w)) [ true ↦ refl | false ↦ refl ]
  wait-left n None = refl
  wait-left n _ = refl

  taken-suits : (k : RowKey) (r s : Row) → taken p values k r ≡ Some s → suits k r ≡ true → suits k s ≡ true
  taken-suits (key.Entry q h) (rows.Entry held) s e f = subst (λ z. suits (key.Entry q h) z ≡ true) (if_none (goes_out q h) _ s e).1 refl
  taken-suits (key.Wait n) (rows.Wait w) s e f = subst (λ z. suits (key.Wait n) z ≡ true) (if_none (goes_out w.process w.handle) _ s e).1 refl
  taken-suits k r s e f = subst (λ z. suits k z ≡ true) (some_one r s e) f

  taken-user : (x : ℕ) (k : RowKey) (r s : Row) → taken p values k r ≡ Some s → is_user_packet_of x k s ≡ true → is_user_packet_of x k r ≡ true
  taken-user x (key.Packet q n) r s e h = subst (λ z. is_user_packet_of x (key.Packet q n) z ≡ true) (sym (some_one r s e)) h
  taken-user x _ r s e h = cc

  module _ (S : State) where
    abbrev rest : State
    rest = take_out_all S p values

    pub object-taken : (x : ℕ) → object (take_out_all S p values) x ≡ object S x
    object-taken x = ap as_object (row-change (taken p values) S (key.Object x)) ∙ object-kept x (row S (key.Object x))

    pub counters-taken : counters (take_out_all S p values) ≡ counters S
    counters-taken = ap as_counters (row-change (taken p values) S key.Counters) ∙ counters-kept (row S key.Counters)

    pub message-taken : (e n : ℕ) → message (take_out_all S p values) e n ≡ message S e n
    message-taken e n = ap as_message (row-change (taken p values) S (key.Msg e n)) ∙ message-kept e n (row S (key.Msg e n))

    pub packet-taken : (e n : ℕ) → packet (take_out_all S p values) e n ≡ packet S e n
    packet-taken e n = ap as_packet (row-change (taken p values) S (key.Packet e n)) ∙ packet-kept e n (row S (key.Packet e n))

    pub entry-taken : (q h : ℕ) → entry (take_out_all S p values) q h ≡ cond ((q == p) && values h) None (entry S q h)
    entry-taken q h = ap as_entry (row-change (taken p values) S (key.Entry q h)) ∙ entry-left q h (row S (key.Entry q h))

    wait-taken : (n : ℕ) → wait rest n ≡ option_and_then staying (wait S n)
    wait-taken n = ap as_wait (row-change (taken p values) S (key.Wait n)) ∙ wait-left n (row S (key.Wait n))

    -- an entry that is left was there
    entry-was : (q h : ℕ) (held : Held) → entry rest q h ≡ Some held → entry S q h ≡ Some held
    entry-was q h held e = (only_if (goes_out q h) (entry S q h) held (sym (entry-taken q h) ∙ e)).1

    -- a wait that is left was there, and its entry stays
    pub wait-was : (n : ℕ) (w : Wait) → wait (take_out_all S p values) n ≡ Some w → (wait S n ≡ Some w) × (((w.process == p) && values w.handle) ≡ false)
    wait-was n w e = of_wait (wait S n) (sym (wait-taken n) ∙ e)
      where
        of_wait : (r : Option Wait) → option_and_then staying r ≡ Some w → (r ≡ Some w) × (goes_out w.process w.handle ≡ false)
        of_wait None f = cc
        of_wait (Some v) f = let g = if_none (goes_out v.process v.handle) v w f in (ap Some g.1, ap (λ (z : Wait). goes_out z.process z.handle) (sym g.1) ∙ g.0)

    entry-stays : (w : Wait) → goes_out w.process w.handle ≡ false → (held : Held) → entry S w.process w.handle ≡ Some held → entry rest w.process w.handle ≡ Some held
    entry-stays w out held e = entry-taken w.process w.handle ∙ ap (λ b. cond b None (entry S w.process w.handle)) out ∙ e

    grown-taken : IsSound S → Grown S rest
    grown-taken sound = record {
      of_rows = λ k r h. changed-suits (taken p values) k (taken-suits k) (row S k) (sound.typed k) r (sym (row-change (taken p values) S k) ∙ h);
      of_koids = let e : next_koid rest ≡ next_koid S = ap (λ (c : Counters). c.next_koid) counters-taken in omega arith;
      of_numbers = let e : (counters rest).next_wait ≡ (counters S).next_wait = ap (λ (c : Counters). c.next_wait) counters-taken in omega arith;
      of_objects = λ x o h. (o, object-taken x ∙ h, kept_itself o);
      new_objects = λ x o h. inl (sym (object-taken x) ∙ h);
      new_entries = λ q h held e. inl (entry-was q h held e);
      new_messages = λ e n m h. inl (sym (message-taken e n) ∙ h);
      new_packets = λ e n k h. inl (sym (packet-taken e n) ∙ h);
      new_waits = λ n w h. let was = wait-was n w h in inl (was.0, entry-stays w was.1);
      of_pending = λ x.
          let a : pending rest x ≤ pending S x = count_row-change (is_user_packet_of x) (taken p values) (taken-user x) S in
          let c : pending S x ≤ most_pending = sound.ports x in
          omega arith;
      new_depths = λ x o h job. inl (exists-some S x o (sym (object-taken x) ∙ h));
      new_criticals = λ x o h. inl (o, sym (object-taken x) ∙ h, refl);
    }

    -- what is left when entries are taken out is sound
    pub sound-taken : IsSound S → IsSound (take_out_all S p values)
    sound-taken sound = sound-grown S rest sound (grown-taken sound)
