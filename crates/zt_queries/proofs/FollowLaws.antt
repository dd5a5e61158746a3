-- How the objects, entries and messages of a state follow from those of an earlier one: objects age or are new,
-- and what entries and reached messages name was reached before or is new. It is kept by every change that
-- calls are made of.
use Rattle.std.proofs.Common.{◌≡◌, ◌≤◌, ◌<◌, ℕ, ◌+◌, Bool, true, false, cond, ◌&&◌, ◌||◌, List, [], ◌∷◌, ◌⊎◌, inl, inr, refl, sym, ap, ◌∙◌, subst, arith}
use Rattle.std.specs.Prelude.{Option, None, Some, option_and_then, is_some, if◌then◌else◌, ◌==◌, nat_le}
use Rattle.std.specs.Option.{option_map}
use Rattle.std.specs.List.{AllByRecursion}
use Rattle.std.proofs.lemmas.Bool.{eqb-true, leb-true, le-leb}
use Rattle.zt_bits.specs.declared.kinds.Kind.{Kind}
use Rattle.zt_bits.specs.declared.kinds.Kind.TheVariants as kind
use Rattle.zt_rows.specs.declared.keys.RowKey.{RowKey}
use Rattle.zt_rows.specs.declared.keys.RowKey.TheVariants as key
use Rattle.zt_rows.specs.declared.rows.Counters.{Counters}
use Rattle.zt_rows.specs.declared.rows.Held.{Held}
use Rattle.zt_rows.specs.declared.rows.Life.{Life}
use Rattle.zt_rows.specs.declared.rows.ObjectRow.{ObjectRow}
use Rattle.zt_rows.specs.declared.rows.Row.{Row}
use Rattle.zt_rows.specs.declared.rows.Row.TheVariants as rows
use Rattle.zt_rows.specs.Contents.{MessageContent}
use Rattle.zt_rows.specs.State.{State, row, put}
use Rattle.zt_rows.specs.Reads.{as_counters, as_object, as_entry, as_message, counters, object, entry, message, is_live, is_live_job}
use Rattle.zt_rows.specs.Tests.{exists, among, is_task, is_endpoint, raised}
use Rattle.zt_rows.specs.Collect.{unlinked, without}
use Rattle.zt_rows.specs.End.{left_by, end}
use Rattle.zt_rows.specs.PortCalls.{is_cancelled, cancel}
use Rattle.zt_rows.specs.Handles.{take_out_all, value_of, install, install_all, fresh, next_koid, make, make_pair}
use Rattle.zt_rows.specs.Consistent.{IsSound}
use Rattle.zt_rows.proofs.StateLaws.{row-put, row-change}
use Rattle.zt_rows.proofs.RowLaws.{or_true, or_left, or_right, and_left, and_right, true≢false}
use Rattle.zt_rows.proofs.ReadLaws.{some_one, exists-some, some-exists, kind_at-some, chosen, only_if, object-put, entry-without, counters-without, stayed, message-stayed}
use Rattle.zt_rows.proofs.TakeLaws.{object-taken, counters-taken, message-taken, entry-taken}
use Rattle.zt_rows.proofs.EndLaws.{ended, object-end, counters-end, ended-was}
use Rattle.zt_rows.proofs.FramedLaws.{shaped, Framed, shaped-there, turned}
use Rattle.zt_queries.specs.Reachability.{reached, HoldsAllNamed}
use Rattle.zt_queries.proofs.ReachLaws.{all-in, in-all, entry-reached, message-reached}

-- ---- objects that age

-- an object later on: of its kind, with its link or none, and not alive again
pub record Aged (o q : ObjectRow) : Type 0 where
  pub kind : q.kind ≡ o.kind
  pub life : is_live q.life ≡ true → is_live o.life ≡ true
  pub link : (q.link ≡ o.link) ⊎ (q.link ≡ 0)

pub aged_itself : (o : ObjectRow) → Aged o o
aged_itself o = record { kind = refl; life = λ e. e; link = inl refl }

pub aged-aged : (o q r : ObjectRow) → Aged o q → Aged q r → Aged o r
aged-aged o q r a b = record {
  kind = b.kind ∙ a.kind;
  life = λ e. a.life (b.life e);
  link = elim b.link [
    | inl same ↦ elim a.link [ inl e ↦ inl (same ∙ e) | inr z ↦ inr (same ∙ z) ]
    | inr z ↦ inr z
  ];
}

-- what has no parent, or a live job that was reached
abbrev pub IsFresh : State → ObjectRow → Type 0
IsFresh S q = is_task q.kind ≡ true → (q.link ≡ 0) ⊎ ((job : ObjectRow) × (object S q.link ≡ Some job) × (is_live_job job ≡ true) × (among (reached S) q.link ≡ true))

fresh-aged : (S : State) (o q : ObjectRow) → IsFresh S o → Aged o q → IsFresh S q
fresh-aged S o q f a task = elim a.link [
  | inl same ↦ subst (λ l. (l ≡ 0) ⊎ ((job : ObjectRow) × (object S l ≡ Some job) × (is_live_job job ≡ true) × (among (reached S) l ≡ true))) (sym same) (f (ap is_task (sym a.kind) ∙ task))
  | inr z ↦ inl z
]

pub plain-fresh : (S : State) (q : ObjectRow) → is_task q.kind ≡ false → IsFresh S q
plain-fresh S q plain task = absurd (true≢false (is_task q.kind) task plain)

-- what the object x with this row was in S: not there yet, or this object before it aged
pub data Was (S : State) (x : ℕ) (q : ObjectRow) : Type 0 where
  is_new : next_koid S ≤ x → IsFresh S q → Was S x q
  is_old : (o : ObjectRow) → object S x ≡ Some o → Aged o q → Was S x q

pub was-aged : (S : State) (x : ℕ) (o q : ObjectRow) → Was S x o → Aged o q → Was S x q
was-aged S x o q (is_new above f) a = is_new above (fresh-aged S o q f a)
was-aged S x o q (is_old o' e b) a = is_old o' e (aged-aged o' o q b a)

aged-raised : (o : ObjectRow) → Aged o (raised o)
aged-raised o = record { kind = refl; life = λ e. e; link = inl refl }

pub was-raised : (S : State) (x : ℕ) (o : ObjectRow) → Was S x o → Was S x (raised o)
was-raised S x o w = was-aged S x o (raised o) w (aged-raised o)

-- ---- what was reached, or is new

abbrev pub is_known : State → ℕ → Bool
is_known S y = among (reached S) y || nat_le (next_koid S) y

pub known-reached : (S : State) (y : ℕ) → among (reached S) y ≡ true → is_known S y ≡ true
known-reached S y e = or_left (among (reached S) y) _ e

pub known-new : (S : State) (y : ℕ) → next_koid S ≤ y → is_known S y ≡ true
known-new S y h = or_right (among (reached S) y) _ (le-leb (next_koid S) y h)

pub known-entry : (S : State) (p h : ℕ) (held : Held) → entry S p h ≡ Some held → is_known S held.koid ≡ true
known-entry S p h held e = known-reached S held.koid (entry-reached S p h held e)

-- what is known and is no new object was reached
pub known-low : (S : State) (y : ℕ) → is_known S y ≡ true → y < next_koid S → among (reached S) y ≡ true
known-low S y e low = elim (or_true (among (reached S) y) _ e) [
  | inl r ↦ r
  | inr n ↦ let above : next_koid S ≤ y = leb-true (next_koid S) y n in absurd (omega arith)
]

abbrev pub AllKnown : State → List Held → Type 0
AllKnown S all = AllByRecursion (λ held. is_known S held.koid ≡ true) all

-- ---- states that follow

pub record Follows (S T : State) : Type 0 where
  pub koids : next_koid S ≤ next_koid T
  pub objects : (x : ℕ) (q : ObjectRow) → object T x ≡ Some q → Was S x q
  pub entries : (p h : ℕ) (held : Held) → entry T p h ≡ Some held → is_known S held.koid ≡ true
  pub messages : (e n : ℕ) (m : MessageContent) → message T e n ≡ Some m → is_known S e ≡ true → AllKnown S m.handles

-- what was reached, with what is new, is closed in what follows
pub known-closed : (S T : State) → Follows S T → HoldsAllNamed T (is_known S)
known-closed S T f = record { entries = f.entries; messages = f.messages }

-- all that the handles name was reached
abbrev pub AllReached : State → List Held → Type 0
AllReached S all = AllByRecursion (λ held. among (reached S) held.koid ≡ true) all

all-known : (S : State) (all : List Held) → AllReached S all → AllKnown S all
all-known S all were = in-all (λ (held : Held). is_known S held.koid ≡ true) all (λ held l. known-reached S held.koid (all-in (λ (held : Held). among (reached S) held.koid ≡ true) all were held l))

-- by a call's direct change nothing goes, no message that nothing reaches is read, and what is sent was reached
pub record Direct (S T : State) : Type 0 where
  pub follows : Follows S T
  pub there : (x : ℕ) → exists S x ≡ true → exists T x ≡ true
  pub unread : (e n : ℕ) (m : MessageContent) → message S e n ≡ Some m → among (reached S) e ≡ false → message T e n ≡ Some m
  pub added : (e n : ℕ) (m : MessageContent) → message T e n ≡ Some m → (message S e n ≡ Some m) ⊎ AllReached S m.handles

pub low-koid : (S : State) → IsSound S → (x : ℕ) → exists S x ≡ true → x < next_koid S
low-koid S sound x e = let w = some-exists S x e in (sound.of_objects x w.0 w.1).high

pub direct-itself : (S : State) → IsSound S → Direct S S
direct-itself S sound = record {
  follows = record {
    koids = omega arith;
    objects = λ x q e. is_old q e (aged_itself q);
    entries = known-entry S;
    messages = λ e n m h known.
        let w = kind_at-some S e kind.Channel (sound.of_messages e n m h).owner in
        let open_queue : among (reached S) e ≡ true = known-low S e known (low-koid S sound e (exists-some S e w.0 w.1)) in
        in-all (λ (held : Held). is_known S held.koid ≡ true) m.handles (λ held l. known-reached S held.koid (message-reached S e n m h open_queue held l));
  };
  there = λ x e. e;
  unread = λ e n m h out. h;
  added = λ e n m h. inl h;
}

-- ---- changes that calls are made of

module _ (S T : State) (d : Direct S T) where
  -- a direct change to T is one to U, too, if U has the objects and messages of T, no other entries and no lower next koid
  pub direct-less : (U : State) → next_koid T ≤ next_koid U → ((x : ℕ) → object U x ≡ object T x) → ((p h : ℕ) (held : Held) → entry U p h ≡ Some held → entry T p h ≡ Some held) → ((e n : ℕ) → message U e n ≡ message T e n) → Direct S U
  direct-less U koids objects entries messages = record {
    follows = record {
      koids = let k : next_koid S ≤ next_koid T = d.follows.koids in let l : next_koid T ≤ next_koid U = koids in omega arith;
      objects = λ x q e. d.follows.objects x q (sym (objects x) ∙ e);
      entries = λ p h held e. d.follows.entries p h held (entries p h held e);
      messages = λ e n m h. d.follows.messages e n m (sym (messages e n) ∙ h);
    };
    there = λ x e. ap (λ r. is_some r) (objects x) ∙ d.there x e;
    unread = λ e n m h out. messages e n ∙ d.unread e n m h out;
    added = λ e n m h. d.added e n m (sym (messages e n) ∙ h);
  }

  -- an object is put that is new or aged
  pub direct-object : (y : ℕ) (q : ObjectRow) → Was S y q → Direct S (put T (key.Object y) (Some (rows.Object q)))
  direct-object y q was =
      let U : State = put T (key.Object y) (Some (rows.Object q)) in
      let at : (x : ℕ) → object U x ≡ cond (x == y) (Some q) (object T x) = object-put T y (Some (rows.Object q)) in
      let same : counters U ≡ counters T = ap as_counters (row-put T (key.Object y) (Some (rows.Object q)) key.Counters) in
      record {
        follows = record {
          koids = let k : next_koid S ≤ next_koid T = d.follows.koids in let e : next_koid U ≡ next_koid T = ap (λ (c : Counters). c.next_koid) same in omega arith;
          objects = λ x r e. elim (x == y) as (λ b. (x == y) ≡ b → cond b (Some q) (object T x) ≡ Some r → Was S x r) [
            | true ↦ λ t h. subst (λ z. Was S z r) (sym (eqb-true x y t)) (subst (λ z. Was S y z) (some_one q r h) was)
            | false ↦ λ t h. d.follows.objects x r h
          ] refl (sym (at x) ∙ e);
          entries = λ p h held e. d.follows.entries p h held (sym (ap as_entry (row-put T (key.Object y) (Some (rows.Object q)) (key.Entry p h))) ∙ e);
          messages = λ e n m h. d.follows.messages e n m (sym (ap as_message (row-put T (key.Object y) (Some (rows.Object q)) (key.Msg e n))) ∙ h);
        };
        there = λ x e. elim (x == y) as (λ b. object U x ≡ cond b (Some q) (object T x) → exists U x ≡ true) [
          | true ↦ λ h. exists-some U x q h
          | false ↦ λ h. ap (λ r. is_some r) h ∙ d.there x e
        ] (at x);
        unread = λ e n m h out. ap as_message (row-put T (key.Object y) (Some (rows.Object q)) (key.Msg e n)) ∙ d.unread e n m h out;
        added = λ e n m h. d.added e n m (sym (ap as_message (row-put T (key.Object y) (Some (rows.Object q)) (key.Msg e n))) ∙ h);
      }

  -- counters are put that give out no koid twice
  pub direct-counters : (c : Counters) → next_koid S ≤ c.next_koid → Direct S (put T key.Counters (Some (rows.Counters c)))
  direct-counters c koids =
      let U : State = put T key.Counters (Some (rows.Counters c)) in
      let is : counters U ≡ c = ap as_counters (row-put T key.Counters (Some (rows.Counters c)) key.Counters) in
      let at : (x : ℕ) → object U x ≡ object T x = (λ x. ap as_object (row-put T key.Counters (Some (rows.Counters c)) (key.Object x))) in
      record {
        follows = record {
          koids = let e : next_koid U ≡ c.next_koid = ap (λ (k : Counters). k.next_koid) is in let l : next_koid S ≤ c.next_koid = koids in omega arith;
          objects = λ x q e. d.follows.objects x q (sym (at x) ∙ e);
          entries = λ p h held e. d.follows.entries p h held (sym (ap as_entry (row-put T key.Counters (Some (rows.Counters c)) (key.Entry p h))) ∙ e);
          messages = λ e n m h. d.follows.messages e n m (sym (ap as_message (row-put T key.Counters (Some (rows.Counters c)) (key.Msg e n))) ∙ h);
        };
        there = λ x e. ap (λ r. is_some r) (at x) ∙ d.there x e;
        unread = λ e n m h out. ap as_message (row-put T key.Counters (Some (rows.Counters c)) (key.Msg e n)) ∙ d.unread e n m h out;
        added = λ e n m h. d.added e n m (sym (ap as_message (row-put T key.Counters (Some (rows.Counters c)) (key.Msg e n))) ∙ h);
      }

  -- an entry is put that names what is known
  pub direct-entry : (p h : ℕ) (held : Held) → is_known S held.koid ≡ true → Direct S (put T (key.Entry p h) (Some (rows.Entry held)))
  direct-entry p h held known =
      let U : State = put T (key.Entry p h) (Some (rows.Entry held)) in
      let same : counters U ≡ counters T = ap as_counters (row-put T (key.Entry p h) (Some (rows.Entry held)) key.Counters) in
      let at : (x : ℕ) → object U x ≡ object T x = (λ x. ap as_object (row-put T (key.Entry p h) (Some (rows.Entry held)) (key.Object x))) in
      record {
        follows = record {
          koids = let k : next_koid S ≤ next_koid T = d.follows.koids in let e : next_koid U ≡ next_koid T = ap (λ (c : Counters). c.next_koid) same in omega arith;
          objects = λ x q e. d.follows.objects x q (sym (at x) ∙ e);
          entries = λ q g other e. elim ((q == p) && (g == h)) as (λ b. cond b (Some held) (entry T q g) ≡ Some other → is_known S other.koid ≡ true) [
            | true ↦ λ f. subst (λ (z : Held). is_known S z.koid ≡ true) (some_one held other f) known
            | false ↦ λ f. d.follows.entries q g other f
          ] (sym (ap as_entry (row-put T (key.Entry p h) (Some (rows.Entry held)) (key.Entry q g)) ∙ chosen as_entry ((q == p) && (g == h)) (Some (rows.Entry held)) (row T (key.Entry q g))) ∙ e);
          messages = λ e n m f. d.follows.messages e n m (sym (ap as_message (row-put T (key.Entry p h) (Some (rows.Entry held)) (key.Msg e n))) ∙ f);
        };
        there = λ x e. ap (λ r. is_some r) (at x) ∙ d.there x e;
        unread = λ e n m f out. ap as_message (row-put T (key.Entry p h) (Some (rows.Entry held)) (key.Msg e n)) ∙ d.unread e n m f out;
        added = λ e n m f. d.added e n m (sym (ap as_message (row-put T (key.Entry p h) (Some (rows.Entry held)) (key.Msg e n))) ∙ f);
      }

  as-message : (r : Option MessageContent) → as_message (option_map rows.Msg r) ≡ r
  as-message (Some m) = refl
  as-message None = refl

  -- a message is put that names what was reached, or goes, where no message is lost that nothing reached
  pub direct-message : (e n : ℕ) (new : Option MessageContent) → ((m : MessageContent) → new ≡ Some m → AllReached S m.handles) → ((m : MessageContent) → message S e n ≡ Some m → among (reached S) e ≡ false → ⊥) → Direct S (put T (key.Msg e n) (option_map rows.Msg new))
  direct-message e n new were kept =
      let U : State = put T (key.Msg e n) (option_map rows.Msg new) in
      let same : counters U ≡ counters T = ap as_counters (row-put T (key.Msg e n) (option_map rows.Msg new) key.Counters) in
      let at : (x : ℕ) → object U x ≡ object T x = (λ x. ap as_object (row-put T (key.Msg e n) (option_map rows.Msg new) (key.Object x))) in
      let message_at : (f l : ℕ) → message U f l ≡ cond ((f == e) && (l == n)) new (message T f l) = (λ f l.
      ap as_message (row-put T (key.Msg e n) (option_map rows.Msg new) (key.Msg f l))
      ∙ chosen as_message ((f == e) && (l == n)) (option_map rows.Msg new) (row T (key.Msg f l))
      ∙ ap (λ r. cond ((f == e) && (l == n)) r (message T f l)) (as-message new)) in
      record {
        follows = record {
          koids = let k : next_koid S ≤ next_koid T = d.follows.koids in let g : next_koid U ≡ next_koid T = ap (λ (c : Counters). c.next_koid) same in omega arith;
          objects = λ x q g. d.follows.objects x q (sym (at x) ∙ g);
          entries = λ p h held g. d.follows.entries p h held (sym (ap as_entry (row-put T (key.Msg e n) (option_map rows.Msg new) (key.Entry p h))) ∙ g);
          messages = λ f l m h owner. elim ((f == e) && (l == n)) as (λ b. cond b new (message T f l) ≡ Some m → AllKnown S m.handles) [
            | true ↦ λ g. all-known S m.handles (were m g)
            | false ↦ λ g. d.follows.messages f l m g owner
          ] (sym (message_at f l) ∙ h);
        };
        there = λ x g. ap (λ r. is_some r) (at x) ∙ d.there x g;
        unread = λ f l m h out. message_at f l ∙ (elim ((f == e) && (l == n)) as (λ b. ((f == e) && (l == n)) ≡ b → cond b new (message T f l) ≡ Some m) [
          | true ↦ λ t.
              let owner : f ≡ e = eqb-true f e (and_left (f == e) _ t) in
              let number : l ≡ n = eqb-true l n (and_right (f == e) _ t) in
              absurd (kept m (ap (λ z. message S z n) (sym owner) ∙ ap (message S f) (sym number) ∙ h) (ap (among (reached S)) (sym owner) ∙ out))
          | false ↦ λ t. d.unread f l m h out
        ] refl);
        added = λ f l m h. elim ((f == e) && (l == n)) as (λ b. cond b new (message T f l) ≡ Some m → (message S f l ≡ Some m) ⊎ AllReached S m.handles) [
          | true ↦ λ g. inr (were m g)
          | false ↦ λ g. d.added f l m g
        ] (sym (message_at f l) ∙ h);
      }

  -- ---- what calls are made of

  pub direct-taken : (p : ℕ) (values : ℕ → Bool) → Direct S (take_out_all T p values)
  direct-taken p values =
      let U : State = take_out_all T p values in
      let same : next_koid U ≡ next_koid T = ap (λ (c : Counters). c.next_koid) (counters-taken p values T) in
      direct-less U (omega arith) (object-taken p values T)
      (λ q h held e. (only_if ((q == p) && values h) (entry T q h) held (sym (entry-taken p values T q h) ∙ e)).1)
      (message-taken p values T)

  -- ---- what ends

  aged-ended : (ending : ℕ → Bool) (how : Life) → is_live how ≡ false → (x : ℕ) (o : ObjectRow) → Aged o (ended ending how x o)
  aged-ended ending how dead x o = by_test (ending x)
    where
      by_test : (b : Bool) → Aged o (record o { link = if b then 0 else o.link; life = if b then how else o.life; critical = if b then 0 else o.critical })
      by_test true = record { kind = refl; life = λ e. absurd (true≢false (is_live how) e dead); link = inr refl }
      by_test false = record { kind = refl; life = λ e. e; link = inl refl }

  entry-ending : (ending : ℕ → Bool) (how : Life) (p h : ℕ) (held : Held) (r : Option Row) → as_entry (option_and_then (left_by ending how (key.Entry p h)) r) ≡ Some held → as_entry r ≡ Some held
  entry-ending ending how p h held (Some (rows.Entry other)) e =
      elim (ending p) as (λ b. as_entry (if b then None else Some (rows.Entry other)) ≡ Some held → Some other ≡ Some held) [
        | true ↦ λ f. cc
        | false ↦ λ f. f
      ] e
  entry-ending ending how p h held None e = cc
  entry-ending ending how p h held _ e = cc

  message-ending : (ending : ℕ → Bool) (how : Life) (e n : ℕ) (r : Option Row) → as_message (option_and_then (left_by ending how (key.Msg e n)) r) ≡ as_message r
  message-ending ending how e n (Some r) = refl
  message-ending ending how e n None = refl

  still-ended : (ending : ℕ → Bool) (how : Life) (x : ℕ) (r : Option ObjectRow) → is_some (option_map (ended ending how x) r) ≡ is_some r
  still-ended ending how x (Some o) = refl
  still-ended ending how x None = refl

  pub direct-end : (ending : ℕ → Bool) (how : Life) → is_live how ≡ false → Direct S (end T ending how)
  unfolding end
  direct-end ending how dead =
      let U : State = end T ending how in
      record {
        follows = record {
          koids = let k : next_koid S ≤ next_koid T = d.follows.koids in let e : next_koid U ≡ next_koid T = ap (λ (c : Counters). c.next_koid) (counters-end ending how T) in omega arith;
          objects = λ x q e.
              let w = ended-was ending how T x q e in
              subst (Was S x) (sym w.2) (was-aged S x w.0 (ended ending how x w.0) (d.follows.objects x w.0 w.1) (aged-ended ending how dead x w.0));
          entries = λ p h held e. d.follows.entries p h held (entry-ending ending how p h held (row T (key.Entry p h)) (sym (ap as_entry (row-change (left_by ending how) T (key.Entry p h))) ∙ e));
          messages = λ e n m h. d.follows.messages e n m (sym (ap as_message (row-change (left_by ending how) T (key.Msg e n)) ∙ message-ending ending how e n (row T (key.Msg e n))) ∙ h);
        };
        there = λ x e. ap (λ r. is_some r) (object-end ending how T x) ∙ still-ended ending how x (object T x) ∙ d.there x e;
        unread = λ e n m h out. ap as_message (row-change (left_by ending how) T (key.Msg e n)) ∙ message-ending ending how e n (row T (key.Msg e n)) ∙ d.unread e n m h out;
        added = λ e n m h. d.added e n m (sym (ap as_message (row-change (left_by ending how) T (key.Msg e n)) ∙ message-ending ending how e n (row T (key.Msg e n))) ∙ h);
      }

  -- ---- what is cancelled

  module _ (x p h l : ℕ) where
    abbrev uncancelled : RowKey → Row → Option Row
    uncancelled k r = if is_cancelled x p h l k r then None else Some r

    object-uncancelled : (y : ℕ) (r : Option Row) → as_object (option_and_then (uncancelled (key.Object y)) r) ≡ as_object r
    object-uncancelled y (Some r) = refl
    object-uncancelled y None = refl

    entry-uncancelled : (q g : ℕ) (r : Option Row) → as_entry (option_and_then (uncancelled (key.Entry q g)) r) ≡ as_entry r
    entry-uncancelled q g (Some r) = refl
    entry-uncancelled q g None = refl

    message-uncancelled : (e n : ℕ) (r : Option Row) → as_message (option_and_then (uncancelled (key.Msg e n)) r) ≡ as_message r
    message-uncancelled e n (Some r) = refl
    message-uncancelled e n None = refl

    counters-uncancelled : (r : Option Row) → as_counters (option_and_then (uncancelled key.Counters) r) ≡ as_counters r
    counters-uncancelled (Some r) = refl
    counters-uncancelled None = refl

    pub direct-cancel : Direct S (cancel (is_cancelled x p h l) T)
    direct-cancel =
        let U : State = cancel (is_cancelled x p h l) T in
        let same : counters U ≡ counters T = ap as_counters (row-change uncancelled T key.Counters) ∙ counters-uncancelled (row T key.Counters) in
        let koids : next_koid U ≡ next_koid T = ap (λ (c : Counters). c.next_koid) same in
        direct-less U (omega arith)
        (λ y. ap as_object (row-change uncancelled T (key.Object y)) ∙ object-uncancelled y (row T (key.Object y)))
        (λ q g held e. sym (ap as_entry (row-change uncancelled T (key.Entry q g)) ∙ entry-uncancelled q g (row T (key.Entry q g))) ∙ e)
        (λ e n. ap as_message (row-change uncancelled T (key.Msg e n)) ∙ message-uncancelled e n (row T (key.Msg e n)))

-- ---- several changes in one

pub direct-install : (S T : State) → Direct S T → (p : ℕ) (me : ObjectRow) → Was S p me → (held : Held) → is_known S held.koid ≡ true → Direct S (install p me held T)
direct-install S T d p me was held known =
    let U : State = put T (key.Entry p (value_of me.next)) (Some (rows.Entry held)) in
    direct-object S U (direct-entry S T d p (value_of me.next) held known) p (raised me) (was-raised S p me was)

pub direct-install_all : (S : State) (all : List Held) (T : State) → Direct S T → (p : ℕ) (me : ObjectRow) → Was S p me → AllKnown S all → Direct S (install_all p me all T)
direct-install_all S [] T d p me was known = d
direct-install_all S (held ∷ rest) T d p me was known =
    direct-install_all S rest (install p me held T) (direct-install S T d p me was held known.0) p (raised me) (was-raised S p me was) known.1

pub direct-made : (S T : State) → Direct S T → (c : Counters) (o : ObjectRow) → next_koid S ≤ c.next_koid → IsFresh S o → Direct S (make c o T)
direct-made S T d c o above f =
    let U : State = put T (key.Object c.next_koid) (Some (rows.Object o)) in
    let l : next_koid S ≤ c.next_koid = above in
    direct-counters S U (direct-object S T d c.next_koid o (is_new above f)) (record c { next_koid = c.next_koid + 1 }) (omega arith)

pub direct-paired : (S T : State) → Direct S T → (c : Counters) (made : Kind) → next_koid S ≤ c.next_koid → is_task made ≡ false → Direct S (make_pair c made T)
direct-paired S T d c made above plain =
    let k : ℕ = c.next_koid in
    let l : next_koid S ≤ c.next_koid = above in
    let U : State = put T (key.Object c.next_koid) (Some (rows.Object (fresh made (c.next_koid + 1)))) in
    let one : Direct S U = direct-object S T d c.next_koid (fresh made (c.next_koid + 1)) (is_new above (plain-fresh S (fresh made (c.next_koid + 1)) plain)) in
    let V : State = put U (key.Object (c.next_koid + 1)) (Some (rows.Object (fresh made c.next_koid))) in
    let two : Direct S V = direct-object S U one (c.next_koid + 1) (fresh made c.next_koid) (is_new (omega arith) (plain-fresh S (fresh made c.next_koid) plain)) in
    direct-counters S V two (record c { next_koid = c.next_koid + 2 }) (omega arith)

-- ---- the end of a call

aged-unlinked : (going : ℕ → Bool) (o : ObjectRow) → Aged o (unlinked going o)
aged-unlinked going o = by_test (is_endpoint o.kind && going o.link)
  where
    by_test : (b : Bool) → Aged o (record o { link = if b then 0 else o.link })
    by_test true = record { kind = refl; life = λ e. e; link = inr refl }
    by_test false = record { kind = refl; life = λ e. e; link = inl refl }

-- what is left without a set of objects follows
pub follows-without : (S T : State) (going : ℕ → Bool) → Follows S T → Follows S (without T going)
follows-without S T going f = record {
  koids = let k : next_koid S ≤ next_koid T = f.koids in let e : next_koid (without T going) ≡ next_koid T = ap (λ (c : Counters). c.next_koid) (counters-without going T) in omega arith;
  objects = λ x q e.
      let w = stayed going T x q e in
      subst (Was S x) (sym w.2) (was-aged S x w.0 (unlinked going w.0) (f.objects x w.0 w.1) (aged-unlinked going w.0));
  entries = λ p h held e. f.entries p h held (sym (entry-without going T p h) ∙ e);
  messages = λ e n m h. f.messages e n m (message-stayed going T e n m h).1;
}

aged-shaped : (o q : ObjectRow) → shaped q ≡ shaped o → Aged o q
aged-shaped o q e = record {
  kind = ap (λ (z : ObjectRow). z.kind) e;
  life = λ l. ap (λ (z : ObjectRow). is_live z.life) (sym e) ∙ l;
  link = inl (ap (λ (z : ObjectRow). z.link) e);
}

-- what differs by signals and packets alone follows
pub follows-framed : (S T U : State) → Framed T U → Follows S T → Follows S U
follows-framed S T U framed f = record {
  koids = let k : next_koid S ≤ next_koid T = f.koids in let e : next_koid U ≡ next_koid T = ap (λ (c : Counters). c.next_koid) framed.of_counters in omega arith;
  objects = λ x q e.
      let w = shaped-there U T (turned T U framed.of_shapes) x q e in
      was-aged S x w.0 q (f.objects x w.0 w.1) (aged-shaped w.0 q (sym w.2));
  entries = λ p h held e. f.entries p h held (sym (framed.of_entries p h) ∙ e);
  messages = λ e n m h. f.messages e n m (sym (framed.of_messages e n) ∙ h);
}
