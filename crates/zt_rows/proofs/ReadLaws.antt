-- What the looks at a state see after a row was put, and of the state without a set of objects.
use Rattle.std.proofs.Common.{◌≡◌, ℕ, Bool, true, false, cond, refl, sym, ap, ◌∙◌, subst}
use Rattle.std.specs.Prelude.{Option, None, Some, option_and_then, is_some, if◌then◌else◌, ◌==◌}
use Rattle.std.specs.Option.{option_map}
use Rattle.std.proofs.lemmas.Bool.{eqb-true}
use Rattle.zt_bits.specs.declared.kinds.Kind.{Kind}
use Rattle.zt_rows.specs.declared.keys.RowKey.{RowKey}
use Rattle.zt_rows.specs.declared.keys.RowKey.TheVariants as key
use Rattle.zt_rows.specs.declared.rows.Held.{Held}
use Rattle.zt_rows.specs.declared.rows.ObjectRow.{ObjectRow}
use Rattle.zt_rows.specs.declared.rows.Packet.{Packet}
use Rattle.zt_rows.specs.declared.rows.Wait.{Wait}
use Rattle.zt_rows.specs.declared.rows.Row.{Row}
use Rattle.zt_rows.specs.declared.rows.Row.TheVariants as rows
use Rattle.zt_rows.specs.Contents.{MessageContent}
use Rattle.zt_rows.specs.Keys.{rowkey_eq}
use Rattle.zt_rows.specs.ProofsOnly.KeyOrder.{rowkey_eq-equal}
use Rattle.zt_rows.specs.State.{State, row, put}
use Rattle.zt_rows.specs.Reads.{as_counters, as_object, as_entry, as_message, as_packet, as_wait, counters, object, entry, message, packet, wait}
use Rattle.zt_rows.specs.Tests.{exists, kind_at}
use Rattle.zt_rows.specs.Room.{suits}
use Rattle.zt_rows.specs.Collect.{unlinked, left, without}
use Rattle.zt_rows.proofs.StateLaws.{row-put, row-change}

-- ---- the row behind what is read

pub as_object-some : (r : Option Row) (o : ObjectRow) → as_object r ≡ Some o → r ≡ Some (rows.Object o)
as_object-some (Some (rows.Object p)) o e = cc
as_object-some _ o e = cc

pub as_entry-some : (r : Option Row) (o : Held) → as_entry r ≡ Some o → r ≡ Some (rows.Entry o)
as_entry-some (Some (rows.Entry p)) o e = cc
as_entry-some _ o e = cc

pub as_message-some : (r : Option Row) (o : MessageContent) → as_message r ≡ Some o → r ≡ Some (rows.Msg o)
as_message-some (Some (rows.Msg p)) o e = cc
as_message-some _ o e = cc

pub as_packet-some : (r : Option Row) (o : Packet) → as_packet r ≡ Some o → r ≡ Some (rows.Packet o)
as_packet-some (Some (rows.Packet p)) o e = cc
as_packet-some _ o e = cc

pub as_wait-some : (r : Option Row) (o : Wait) → as_wait r ≡ Some o → r ≡ Some (rows.Wait o)
as_wait-some (Some (rows.Wait p)) o e = cc
as_wait-some _ o e = cc

pub object-row : (S : State) (x : ℕ) (o : ObjectRow) → object S x ≡ Some o → row S (key.Object x) ≡ Some (rows.Object o)
object-row S x o e = as_object-some _ o e

pub entry-row : (S : State) (p h : ℕ) (o : Held) → entry S p h ≡ Some o → row S (key.Entry p h) ≡ Some (rows.Entry o)
entry-row S p h o e = as_entry-some _ o e

pub message-row : (S : State) (p n : ℕ) (o : MessageContent) → message S p n ≡ Some o → row S (key.Msg p n) ≡ Some (rows.Msg o)
message-row S p n o e = as_message-some _ o e

pub packet-row : (S : State) (p n : ℕ) (o : Packet) → packet S p n ≡ Some o → row S (key.Packet p n) ≡ Some (rows.Packet o)
packet-row S p n o e = as_packet-some _ o e

pub wait-row : (S : State) (n : ℕ) (o : Wait) → wait S n ≡ Some o → row S (key.Wait n) ≡ Some (rows.Wait o)
wait-row S n o e = as_wait-some _ o e

-- ---- an object that is there

pub some_one : {A : Type 0} (x y : A) → Some x ≡ Some y → x ≡ y
some_one x y e = cc

pub exists-some : (S : State) (x : ℕ) (o : ObjectRow) → object S x ≡ Some o → exists S x ≡ true
exists-some S x o e = ap is_some e

some_of : (r : Option ObjectRow) → is_some r ≡ true → (o : ObjectRow) × (r ≡ Some o)
some_of (Some o) e = (o, refl)
some_of None e = cc

pub some-exists : (S : State) (x : ℕ) → exists S x ≡ true → (o : ObjectRow) × (object S x ≡ Some o)
some-exists S x e = some_of (object S x) e

kind_of : (r : Option ObjectRow) (made : Kind) → option_map (λ o. o.kind) r ≡ Some made → (o : ObjectRow) × (r ≡ Some o) × (o.kind ≡ made)
kind_of (Some o) made e = (o, refl, cc)
kind_of None made e = cc

pub kind_at-some : (S : State) (x : ℕ) (made : Kind) → kind_at S x ≡ Some made → (o : ObjectRow) × (object S x ≡ Some o) × (o.kind ≡ made)
kind_at-some S x made e = kind_of (object S x) made e

-- ---- after a put

pub chosen : {A B : Type 0} (f : A → B) (b : Bool) (x y : A) → f (cond b x y) ≡ cond b (f x) (f y)
chosen f true x y = refl
chosen f false x y = refl

pub object-put : (S : State) (y : ℕ) (r : Option Row) (x : ℕ) → object (put S (key.Object y) r) x ≡ cond (x == y) (as_object r) (object S x)
object-put S y r x = ap as_object (row-put S (key.Object y) r (key.Object x)) ∙ chosen as_object (x == y) r (row S (key.Object x))

-- what a look sees at the object that was put over another one
pub over-same : {B : Type 0} (f : Option ObjectRow → B) (x y : ℕ) (o q : ObjectRow) (r : Option ObjectRow) → (x ≡ y → r ≡ Some q) → f (Some o) ≡ f (Some q) → f (cond (x == y) (Some o) r) ≡ f r
over-same f x y o q r old e =
    elim (x == y) as (λ b. (x == y) ≡ b → f (cond b (Some o) r) ≡ f r) [
      | true ↦ λ t. e ∙ sym (ap f (old (eqb-true x y t)))
      | false ↦ λ t. refl
    ] refl

-- rows suit their keys after a put of one that does
pub typed-put : (S : State) → ((k : RowKey) (r : Row) → row S k ≡ Some r → suits k r ≡ true) → (at : RowKey) (new : Option Row) → ((r : Row) → new ≡ Some r → suits at r ≡ true) → (k : RowKey) (r : Row) → row (put S at new) k ≡ Some r → suits k r ≡ true
typed-put S typed at new fits k r h =
    elim (rowkey_eq k at) as (λ b. rowkey_eq k at ≡ b → cond b new (row S k) ≡ Some r → suits k r ≡ true) [
      | true ↦ λ t e. subst (λ z. suits z r ≡ true) (sym (rowkey_eq-equal k at t)) (fits r e)
      | false ↦ λ t e. typed k r e
    ] refl (sym (row-put S at new k) ∙ h)

-- ---- the state without a set

pub only_if : {A : Type 0} (b : Bool) (v : Option A) (w : A) → cond b None v ≡ Some w → (b ≡ false) × (v ≡ Some w)
only_if true v w e = cc
only_if false v w e = (refl, e)

pub none_either : {A : Type 0} (b : Bool) → ◌≡◌ {A = Option A} None (cond b None None)
none_either true = refl
none_either false = refl

pub if_none : {A : Type 0} (b : Bool) (v w : A) → (if b then None else Some v) ≡ Some w → (b ≡ false) × (v ≡ w)
if_none true v w e = cc
if_none false v w e = (refl, cc)

pub then_none : {A : Type 0} (b : Bool) (v : A) → b ≡ false → (if b then None else Some v) ≡ Some v
then_none b v e = ap (λ c. if c then None else Some v) e

module _ (going : ℕ → Bool) where
  object-left : (x : ℕ) (r : Option Row) → as_object (option_and_then (left going (key.Object x)) r) ≡ cond (going x) None (option_map (unlinked going) (as_object r))
  object-left x (Some (rows.Object o)) = elim (going x) as (λ b. as_object (if b then None else Some (rows.Object (unlinked going o))) ≡ cond b None (Some (unlinked going o))) [ true ↦ refl | false ↦ refl ]
  object-left x None = none_either (going x)
  object-left x _ = none_either (going x)

  message-left : (e n : ℕ) (r : Option Row) → as_message (option_and_then (left going (key.Msg e n)) r) ≡ cond (going e) None (as_message r)
  message-left x n (Some (rows.Msg m)) = elim (going x) as (λ b. as_message (if b then None else Some (rows.Msg m)) ≡ cond b None (Some m)) [ true ↦ refl | false ↦ refl ]
  message-left x n None = none_either (going x)
  message-left x n _ = none_either (going x)

  packet-left : (e n : ℕ) (r : Option Row) → as_packet (option_and_then (left going (key.Packet e n)) r) ≡ cond (going e) None (as_packet r)
  packet-left x n (Some (rows.Packet m)) = elim (going x) as (λ b. as_packet (if b then None else Some (rows.Packet m)) ≡ cond b None (Some m)) [ true ↦ refl | false ↦ refl ]
  packet-left x n None = none_either (going x)
  packet-left x n _ = none_either (going x)

  -- the waits for a port that goes, go
  abbrev pub staying : Wait → Option Wait
  staying w = if going w.port then None else Some w

  wait-left : (n : ℕ) (r : Option Row) → as_wait (option_and_then (left going (key.Wait n)) r) ≡ option_and_then staying (as_wait r)
  wait-left n (Some (rows.Wait w)) = elim (going w.port) as (λ b. as_wait (if b then None else Some (rows.Wait w)) ≡ (if b then None else Some w)) [ true ↦ refl | false ↦ refl ]
  wait-left n None = refl
  wait-left n _ = refl

  entry-left : (p h : ℕ) (r : Option Row) → as_entry (option_and_then (left going (key.Entry p h)) r) ≡ as_entry r
  entry-left p h (Some (rows.Entry o)) = refl
  entry-left p h None = refl
  entry-left p h _ = refl

  counters-left : (r : Option Row) → as_counters (option_and_then (left going key.Counters) r) ≡ as_counters r
  counters-left (Some (rows.Counters o)) = refl
  counters-left None = refl
  counters-left _ = refl

  pub row-without : (S : State) (k : RowKey) → row (without S going) k ≡ option_and_then (left going k) (row S k)
  unfolding without
  row-without S k = row-change (left going) S k

  pub object-without : (S : State) (x : ℕ) → object (without S going) x ≡ cond (going x) None (option_map (unlinked going) (object S x))
  object-without S x = ap as_object (row-without S (key.Object x)) ∙ object-left x (row S (key.Object x))

  pub message-without : (S : State) (e n : ℕ) → message (without S going) e n ≡ cond (going e) None (message S e n)
  message-without S e n = ap as_message (row-without S (key.Msg e n)) ∙ message-left e n (row S (key.Msg e n))

  pub packet-without : (S : State) (e n : ℕ) → packet (without S going) e n ≡ cond (going e) None (packet S e n)
  packet-without S e n = ap as_packet (row-without S (key.Packet e n)) ∙ packet-left e n (row S (key.Packet e n))

  pub wait-without : (S : State) (n : ℕ) → wait (without S going) n ≡ option_and_then staying (wait S n)
  wait-without S n = ap as_wait (row-without S (key.Wait n)) ∙ wait-left n (row S (key.Wait n))

  pub entry-without : (S : State) (p h : ℕ) → entry (without S going) p h ≡ entry S p h
  entry-without S p h = ap as_entry (row-without S (key.Entry p h)) ∙ entry-left p h (row S (key.Entry p h))

  pub counters-without : (S : State) → counters (without S going) ≡ counters S
  counters-without S = ap as_counters (row-without S key.Counters) ∙ counters-left (row S key.Counters)

  map-some : (r : Option ObjectRow) (o : ObjectRow) → option_map (unlinked going) r ≡ Some o → (q : ObjectRow) × (r ≡ Some q) × (o ≡ unlinked going q)
  map-some (Some q) o e = (q, refl, cc)
  map-some None o e = cc

  -- an object that is left: it was there and did not go
  pub stayed : (S : State) (x : ℕ) (o : ObjectRow) → object (without S going) x ≡ Some o → (q : ObjectRow) × (object S x ≡ Some q) × (o ≡ unlinked going q) × (going x ≡ false)
  stayed S x o e =
      let here = only_if (going x) (option_map (unlinked going) (object S x)) o (sym (object-without S x) ∙ e) in
      let was = map-some (object S x) o here.1 in
      (was.0, was.1, was.2, here.0)

  -- one that does not go is left
  pub stays : (S : State) (x : ℕ) (q : ObjectRow) → object S x ≡ Some q → going x ≡ false → object (without S going) x ≡ Some (unlinked going q)
  stays S x q e g = object-without S x ∙ ap (λ b. cond b None (option_map (unlinked going) (object S x))) g ∙ ap (option_map (unlinked going)) e

  pub wait-stayed : (S : State) (n : ℕ) (w : Wait) → wait (without S going) n ≡ Some w → (wait S n ≡ Some w) × (going w.port ≡ false)
  wait-stayed S n w e = wait_of (wait S n) (sym (wait-without S n) ∙ e)
    where
      wait_of : (r : Option Wait) → option_and_then staying r ≡ Some w → (r ≡ Some w) × (going w.port ≡ false)
      wait_of None f = cc
      wait_of (Some v) f = let g = if_none (going v.port) v w f in (ap Some g.1, ap (λ (z : Wait). going z.port) (sym g.1) ∙ g.0)

  pub message-stayed : (S : State) (e n : ℕ) (m : MessageContent) → message (without S going) e n ≡ Some m → (going e ≡ false) × (message S e n ≡ Some m)
  message-stayed S e n m h = only_if (going e) (message S e n) m (sym (message-without S e n) ∙ h)

  pub packet-stayed : (S : State) (e n : ℕ) (m : Packet) → packet (without S going) e n ≡ Some m → (going e ≡ false) × (packet S e n ≡ Some m)
  packet-stayed S e n m h = only_if (going e) (packet S e n) m (sym (packet-without S e n) ∙ h)
