-- What a call does to the rows that name an object out of reach: none of them goes, and none comes. An object that is neither
-- a job nor a process that runs is leaked where it is out of reach; and what is no job and leaked was so before the call, or it
-- was reached there, or the call ended it.
use Rattle.std.proofs.Common.{◌≡◌, ◌<◌, ℕ, suc, ◌+◌, Bool, true, false, not, ◌&&◌, ◌||◌, ◌⊎◌, inl, inr, refl, sym, ap, ◌∙◌, subst, arith}
use Rattle.std.specs.Prelude.{Option, None, Some, ◌==◌}
use Rattle.std.specs.List.{list_any}
use Rattle.std.proofs.lemmas.Bool.{eqb-true, eq-eqb}
use Rattle.zt_bits.specs.declared.kinds.Kind.{Kind}
use Rattle.zt_bits.specs.declared.kinds.Kind.TheVariants as kind
use Rattle.zt_rows.specs.declared.keys.RowKey.{RowKey}
use Rattle.zt_rows.specs.declared.keys.RowKey.TheVariants as key
use Rattle.zt_rows.specs.declared.rows.Held.{Held}
use Rattle.zt_rows.specs.declared.rows.ObjectRow.{ObjectRow}
use Rattle.zt_rows.specs.declared.rows.Row.{Row}
use Rattle.zt_rows.specs.declared.rows.Row.TheVariants as rows
use Rattle.zt_rows.specs.Contents.{MessageContent}
use Rattle.zt_rows.specs.State.{State, row}
use Rattle.zt_rows.specs.Reads.{as_entry, as_message, as_object, entry, is_job, is_live, is_live_job, is_live_process, is_process, message, names, object, on_object, has_live_process}
use Rattle.zt_rows.specs.Tests.{among, exists, is_endpoint, is_task, link_at, object_link}
use Rattle.zt_rows.specs.Room.{suits}
use Rattle.zt_rows.specs.Support.{root_job}
use Rattle.zt_rows.specs.End.{chain, links}
use Rattle.zt_rows.specs.Handles.{next_koid}
use Rattle.zt_rows.specs.Consistent.{IsSound, IsConsistent}
use Rattle.zt_rows.proofs.RowLaws.{In, row-in, in-row, list_any-in, in-list_any, or_true, and_left, and_right, and_both, true≢false, not_true}
use Rattle.zt_rows.proofs.ReadLaws.{some_one, exists-some, kind_at-some, message-row, object-row}
use Rattle.zt_rows.proofs.SupportLaws.{KeptBy, by_entry, by_message, by_child, by_itself, supported-kept}
use Rattle.zt_rows.proofs.SoundLaws.{has_live_process-some, some-has_live_process}
use Rattle.zt_rows.proofs.AboveLaws.{above-live}
use Rattle.zt_queries.specs.Happenings.{lives, ended, IsCallStep}
use Rattle.zt_queries.specs.Leaks.{is_leaked}
use Rattle.zt_queries.specs.Reachability.{reached}
use Rattle.zt_history.specs.Released.{releases}
use Rattle.zt_history.specs.LostChild.{is_child_row}
use Rattle.zt_queries.specs.ProofsOnly.NameSearch.{is_passive, stands_passive}
use Rattle.zt_queries.specs.ProofsOnly.FirstLeak.{is_passing_kind}
use Rattle.zt_queries.proofs.ReachLaws.{in-among, all-in, entry-reached, message-reached}
use Rattle.zt_queries.proofs.FollowLaws.{Aged, AllReached, Follows, low-koid}
use Rattle.zt_queries.proofs.LeakLaws.{Lost, in-upward, later-reached, leaked-lost, lost-leaked, strayed-reads, step-added}
use Rattle.zt_queries.proofs.NeverLaws.{passes, passing-lives}
use Rattle.zt_queries.proofs.OnceLaws.{next-consistent, next-follows, of_object, off, reached-there, was-old}

-- ---- the rows that name an object

-- an entry, or a message with a handle
pub data NamedBy (S : State) (k : RowKey) (y : ℕ) : Type 0 where
  in_entry : (p h : ℕ) (held : Held) → k ≡ key.Entry p h → entry S p h ≡ Some held → held.koid ≡ y → NamedBy S k y
  in_message : (e n : ℕ) (m : MessageContent) (held : Held) → k ≡ key.Msg e n → message S e n ≡ Some m → In held m.handles → held.koid ≡ y → NamedBy S k y

module _ (S : State) (sound : IsSound S) (y : ℕ) where
  in_row : (k : RowKey) (r : Row) → row S k ≡ Some r → suits k r ≡ true → names y (Some r) ≡ true → NamedBy S k y
  in_row (key.Entry p h) (rows.Entry held) there s e = in_entry p h held refl (ap as_entry there) (eqb-true held.koid y e)
  in_row (key.Msg e n) (rows.Msg m) there s named =
      let w = in-list_any (λ (held : Held). held.koid == y) m.handles named in
      in_message e n m w.0 refl (ap as_message there) w.1 (eqb-true w.0.koid y w.2)
  in_row key.Counters (rows.Entry held) there s e = cc
  in_row (key.Object _) (rows.Entry held) there s e = cc
  in_row (key.Packet _ _) (rows.Entry held) there s e = cc
  in_row (key.Wait _) (rows.Entry held) there s e = cc
  in_row _ _ there s e = cc

  pub named-by : (k : RowKey) → names y (row S k) ≡ true → NamedBy S k y
  named-by k e = by (row S k) refl e
    where
      by : (r : Option Row) → row S k ≡ r → names y r ≡ true → NamedBy S k y
      by (Some r) there named = in_row k r there (sound.typed k r there) named
      by None there named = cc

pub message-names : (S : State) (e n : ℕ) (m : MessageContent) (held : Held) → message S e n ≡ Some m → In held m.handles → names held.koid (row S (key.Msg e n)) ≡ true
message-names S e n m held there l =
    ap (names held.koid) (message-row S e n m there) ∙ list_any-in (λ (g : Held). g.koid == held.koid) held m.handles l (eq-eqb held.koid held.koid refl)

-- what names an object out of reach is a message at an endpoint out of reach
pub out-named : (S : State) → IsSound S → (y : ℕ) → among (reached S) y ≡ false → (k : RowKey) → names y (row S k) ≡ true
    → (e : ℕ) × (n : ℕ) × (k ≡ key.Msg e n) × (m : MessageContent) × (message S e n ≡ Some m) × (names y (Some (rows.Msg m)) ≡ true) × (among (reached S) e ≡ false) × (exists S e ≡ true)
out-named S sound y out k e = by (named-by S sound y k e)
  where
    by : NamedBy S k y
        → (e : ℕ) × (n : ℕ) × (k ≡ key.Msg e n) × (m : MessageContent) × (message S e n ≡ Some m) × (names y (Some (rows.Msg m)) ≡ true) × (among (reached S) e ≡ false) × (exists S e ≡ true)
    by (in_entry p h held is there same) = absurd (true≢false (among (reached S) y) (ap (among (reached S)) (sym same) ∙ entry-reached S p h held there) out)
    by (in_message f n m held is there l same) =
        let w = kind_at-some S f kind.Channel (sound.of_messages f n m there).owner in (
          f,
          n,
          is,
          m,
          there,
          ap (λ z. list_any (λ (g : Held). g.koid == z) m.handles) (sym same) ∙ list_any-in (λ (g : Held). g.koid == held.koid) held m.handles l (eq-eqb held.koid held.koid refl),
          not_true (among (reached S) f) (λ t. true≢false (among (reached S) y) (ap (among (reached S)) (sym same) ∙ message-reached S f n m there t held l) out),
          exists-some S f w.0 w.1,
        )

-- ---- what is released

abbrev goes_at : ℕ → State → RowKey × Row → Bool
goes_at y T e = names y (Some e.1) && not (names y (row T e.0))

-- where no row that names it goes, it is not released
pub lets-none : (y : ℕ) (S T : State) → ((k : RowKey) → names y (row S k) ≡ true → names y (row T k) ≡ true) → releases y S T ≡ false
lets-none y S T stays =
    not_true (releases y S T) (λ t.
    let w = in-list_any (goes_at y T) S.rows (and_right (exists T y) _ t) in
    let there : row S w.0.0 ≡ Some w.0.1 = in-row S w.0.0 w.0.1 w.1 in
    let still : names y (row T w.0.0) ≡ true = stays w.0.0 (ap (names y) there ∙ and_left (names y (Some w.0.1)) _ w.2) in
    true≢false (not (names y (row T w.0.0))) (and_right (names y (Some w.0.1)) _ w.2) (ap not still))

-- and the other way about
pub none-lets : (y : ℕ) (S T : State) → releases y S T ≡ false → exists T y ≡ true → (k : RowKey) → names y (row S k) ≡ true → names y (row T k) ≡ true
none-lets y S T none there k e = by (row S k) refl e
  where
    still : (b : Bool) → names y (row T k) ≡ b → (r : Row) → row S k ≡ Some r → names y (Some r) ≡ true → names y (row T k) ≡ true
    still true t r at named = t
    still false t r at named =
        absurd (true≢false (releases y S T)
        (and_both (exists T y) _ there (list_any-in (goes_at y T) (k, r) S.rows (row-in S k r at) (and_both (names y (Some r)) _ named (ap not t))))
        none)

    by : (r : Option Row) → row S k ≡ r → names y r ≡ true → names y (row T k) ≡ true
    by (Some r) at named = still (names y (row T k)) refl r at named
    by None at named = cc

-- ---- kinds

passing-kind : (k : Kind) → is_job k ≡ false → is_process k ≡ false → is_passing_kind k ≡ true
passing-kind kind.Job e f = cc
passing-kind kind.Process e f = cc
passing-kind kind.Channel e f = refl
passing-kind kind.Event e f = refl
passing-kind kind.EventPair e f = refl
passing-kind kind.Port e f = refl

pub task-ends : (k : Kind) → is_task k ≡ true → is_endpoint k ≡ false
task-ends kind.Job e = refl
task-ends kind.Process e = refl
task-ends kind.Channel e = cc
task-ends kind.Event e = cc
task-ends kind.EventPair e = cc
task-ends kind.Port e = cc

-- ---- what is out of reach, and neither a job nor a process that runs, is leaked

-- what is above a task is a live job
above-job : (S : State) → IsSound S → (y : ℕ) (o : ObjectRow) → object S y ≡ Some o → is_task o.kind ≡ true → (x : ℕ) → In x (chain S y) → (q : ObjectRow) × (object S x ≡ Some q) × (is_live_job q ≡ true)
unfolding chain links
above-job S sound y o there task x m = by (is_live_job o || is_live_process o) refl
  where
    more : y + 1 ≡ suc y
    more = omega arith

    ended : (j p z : Bool) → (j || p) ≡ false → (p || (j && z)) ≡ false
    ended true p z e = cc
    ended false p z e = grind (arith, e)

    by : (b : Bool) → (is_live_job o || is_live_process o) ≡ b → (q : ObjectRow) × (object S x ≡ Some q) × (is_live_job q ≡ true)
    by true t = let w = above-live S sound y o there t x (in-among x (chain S y) m) in (w.0, w.1, w.2)
    by false t =
        let none : o.link ≡ 0 = (sound.of_objects y o there).alone (task-ends o.kind task) (ended (is_live_job o) (is_live_process o) (not (y == root_job)) t) in
        let w = in-upward x (link_at S y) (λ z. links y S z) (subst (λ n. In x (links n S y)) more m) in
        let some : 0 < link_at S y = w.0 in
        let same : link_at S y ≡ o.link = ap object_link there in
        absurd (omega arith)

pub keeps-task : (k : Kind) (b c : Bool) → ((is_process k && b) || (is_job k && c)) ≡ true → is_task k ≡ true
keeps-task kind.Job b c e = refl
keeps-task kind.Process b c e = refl
keeps-task kind.Channel b c e = cc
keeps-task kind.Event b c e = cc
keeps-task kind.EventPair b c e = cc
keeps-task kind.Port b c e = cc

pub passive-leaked : (S : State) → IsConsistent S → (x : ℕ) → stands_passive S x ≡ true → among (reached S) x ≡ false → is_leaked S x ≡ true
passive-leaked S c x p out =
    lost-leaked S x (record {
      there = exists-some S x at.0 at.1;
      unreached = out;
      not_root = not_true (x == root_job) (λ t. let w = kind_at-some S root_job kind.Job c.sound.root in no-job w.0 (ap (object S) (eqb-true x root_job t) ∙ w.1) (ap is_job w.2));
      not_running = not_true (has_live_process S x) (λ t.
          let w = has_live_process-some S x t in
          true≢false (is_live_process w.0) w.2 (off (is_live_process w.0) (and_right (not (is_job w.0.kind)) _ (passive w.0 w.1))));
      not_above = λ y o there keeps l.
          let w = above-job S c.sound y o there (keeps-task o.kind (is_live o.life) (among (reached S) y) keeps) x l in
          no-job w.0 w.1 (and_left (is_job w.0.kind) _ w.2);
    })
  where
    at : (o : ObjectRow) × (object S x ≡ Some o) × (is_passive o ≡ true)
    at = of_object is_passive (object S x) p

    passive : (o : ObjectRow) → object S x ≡ Some o → is_passive o ≡ true
    passive o there = ap (λ (z : ObjectRow). is_passive z) (some_one o at.0 (sym there ∙ at.1)) ∙ at.2

    no-job : (o : ObjectRow) → object S x ≡ Some o → is_job o.kind ≡ true → ⊥
    no-job o there t = true≢false (is_job o.kind) t (off (is_job o.kind) (and_left (not (is_job o.kind)) _ (passive o there)))

-- an endpoint at which a message waits that names what is out of reach is leaked
pub endpoint-leaked : (S : State) → IsConsistent S → (e n y : ℕ) → names y (row S (key.Msg e n)) ≡ true → among (reached S) y ≡ false → is_leaked S e ≡ true
endpoint-leaked S c e n y named out =
    let w = out-named S c.sound y out (key.Msg e n) named in
    let o = kind_at-some S w.0 kind.Channel (c.sound.of_messages w.0 w.1 w.3 w.4).owner in
    let passive : stands_passive S w.0 ≡ true = ap (on_object is_passive) o.1 ∙ ap (λ (k : Kind). not (is_job k) && not (is_process k && is_live o.0.life)) o.2 in
    subst (λ v. is_leaked S v ≡ true) (sym (ap owner w.2)) (passive-leaked S c w.0 passive w.6)
  where
    owner : RowKey → ℕ
    owner (key.Msg f l) = f
    owner _ = 0

-- ---- live children

pub child-object : (S : State) (y z : ℕ) → is_child_row y (row S (key.Object z)) ≡ true → (q : ObjectRow) × (object S z ≡ Some q) × ((is_live_job q || is_live_process q) ≡ true) × (q.link ≡ y)
child-object S y z h = by (row S (key.Object z)) refl h
  where
    by : (r : Option Row) → row S (key.Object z) ≡ r → is_child_row y r ≡ true → (q : ObjectRow) × (object S z ≡ Some q) × ((is_live_job q || is_live_process q) ≡ true) × (q.link ≡ y)
    by (Some (rows.Object q)) there e = (q, ap as_object there, and_left (is_live_job q || is_live_process q) _ e, eqb-true q.link y (and_right (is_live_job q || is_live_process q) _ e))
    by None there e = cc
    by _ there e = cc

pub object-child : (S : State) (y z : ℕ) (q : ObjectRow) → object S z ≡ Some q → (is_live_job q || is_live_process q) ≡ true → q.link ≡ y → is_child_row y (row S (key.Object z)) ≡ true
object-child S y z q there live link = ap (is_child_row y) (object-row S z q there) ∙ and_both (is_live_job q || is_live_process q) _ live (eq-eqb q.link y link)

-- ---- what is no job

abbrev no_job : ObjectRow → Bool
no_job o = not (is_job o.kind)

-- the object is there, and is no job
abbrev pub stands_no_job : State → ℕ → Bool
stands_no_job S x = on_object no_job (object S x)

pub no_job-exists : (S : State) (y : ℕ) → stands_no_job S y ≡ true → exists S y ≡ true
no_job-exists S y p = let w = of_object no_job (object S y) p in exists-some S y w.0 w.1

pub passive-no_job : (S : State) (y : ℕ) → stands_passive S y ≡ true → stands_no_job S y ≡ true
passive-no_job S y p = let w = of_object is_passive (object S y) p in ap (on_object no_job) w.1 ∙ and_left (not (is_job w.0.kind)) _ w.2

abbrev living : ObjectRow → Bool
living o = is_live o.life

-- ---- one call

module _ (S T : State) (c : IsConsistent S) (n : IsCallStep S T) where
  follows : Follows S T
  follows = next-follows S T c n

  after : IsConsistent T
  after = next-consistent S T c n

  -- a message is new only where what it names was reached
  added : (e l : ℕ) (m : MessageContent) → message T e l ≡ Some m → (message S e l ≡ Some m) ⊎ AllReached S m.handles
  added e l m there = step-added S c.sound n.process n.live n.call n.is e l m (ap (λ U. message U e l) (sym n.gives) ∙ there)

  -- no row goes that names what is out of reach
  pub out-stays : (y : ℕ) → among (reached S) y ≡ false → (k : RowKey) → names y (row S k) ≡ true → names y (row T k) ≡ true
  out-stays y out k e =
      let w = out-named S c.sound y out k e in
      let o = kind_at-some S w.0 kind.Channel (c.sound.of_messages w.0 w.1 w.3 w.4).owner in
      let still : message T w.0 w.1 ≡ Some w.3 = ap (λ U. message U w.0 w.1) n.gives ∙ strayed-reads S c n.process n.live n.call n.is w.0 o.0 o.1 o.2 w.6 w.1 w.3 w.4 in
      ap (λ q. names y (row T q)) w.2 ∙ ap (names y) (message-row T w.0 w.1 w.3 still) ∙ w.5

  -- no row comes that names what was out of reach
  pub out-came : (y : ℕ) → among (reached S) y ≡ false → (e l : ℕ) (m : MessageContent) (held : Held) → message T e l ≡ Some m → In held m.handles → held.koid ≡ y → message S e l ≡ Some m
  out-came y out e l m held there h same = by (added e l m there)
    where
      by : (message S e l ≡ Some m) ⊎ AllReached S m.handles → message S e l ≡ Some m
      by (inl was) = was
      by (inr all) =
          absurd (true≢false (among (reached S) y) (ap (among (reached S)) (sym same) ∙ all-in (λ (g : Held). among (reached S) g.koid ≡ true) m.handles all held h) out)

  -- what was out of reach is so
  pub out-goes-on : (y : ℕ) → y < next_koid S → among (reached S) y ≡ false → among (reached T) y ≡ false
  out-goes-on y low out = not_true (among (reached T) y) (λ t. true≢false (among (reached S) y) (later-reached S T c.sound follows y low t) out)

  -- ---- what is no job

  -- it was none
  pub no_job-was : (y : ℕ) → y < next_koid S → stands_no_job T y ≡ true → stands_no_job S y ≡ true
  no_job-was y low e =
      let w = of_object no_job (object T y) e in
      let o = was-old S T y follows low w.0 w.1 in
      ap (on_object no_job) o.1 ∙ ap (λ (k : Kind). not (is_job k)) (sym o.2.kind) ∙ w.2

  -- where it is leaked it was there before the call: what a call makes is named by an entry
  no_job-there : (y : ℕ) → stands_no_job T y ≡ true → is_leaked T y ≡ true → exists S y ≡ true
  no_job-there y p leaks = by (supported-kept T y (after.supported y lost.there))
    where
      lost : Lost T y
      lost = leaked-lost T y leaks

      at : (o : ObjectRow) × (object T y ≡ Some o) × (no_job o ≡ true)
      at = of_object no_job (object T y) p

      sent : (e l : ℕ) (m : MessageContent) (held : Held) → In held m.handles → held.koid ≡ y → (message S e l ≡ Some m) ⊎ AllReached S m.handles → exists S y ≡ true
      sent e l m held h same (inl was) =
          ap (exists S) (sym same) ∙ all-in (λ (g : Held). exists S g.koid ≡ true) m.handles (c.sound.of_messages e l m was).names held h
      sent e l m held h same (inr all) =
          ap (exists S) (sym same) ∙ reached-there S c.sound held.koid (all-in (λ (g : Held). among (reached S) g.koid ≡ true) m.handles all held h)

      by : KeptBy T y → exists S y ≡ true
      by (by_entry p h held there same) = absurd (true≢false (among (reached T) y) (ap (among (reached T)) (sym same) ∙ entry-reached T p h held there) lost.unreached)
      by (by_message e l m held there h same) = sent e l m held h same (added e l m there)
      by (by_child o z q there live child task same) =
          let none : no_job o ≡ true = ap (λ (u : ObjectRow). no_job u) (some_one o at.0 (sym there ∙ at.1)) ∙ at.2 in
          absurd (true≢false (is_job o.kind) (and_left (is_job o.kind) _ live) (off (is_job o.kind) none))
      by (by_itself o there t) = elim (or_true (is_live_process o) _ t) [
        | inl l ↦ absurd (true≢false (has_live_process T y) (some-has_live_process T y o there l) lost.not_running)
        | inr r ↦ absurd (true≢false (y == root_job) r lost.not_root)
      ]

  -- and was leaked, where nothing reached it there; or it ended by the call
  pub no_job-before : (y : ℕ) → stands_no_job T y ≡ true → is_leaked T y ≡ true → among (reached S) y ≡ false → (is_leaked S y ≡ true) ⊎ (ended y S T ≡ true)
  no_job-before y p leaks out = by (is_live_process at.0) refl
    where
      low : y < next_koid S
      low = low-koid S c.sound y (no_job-there y p leaks)

      at : (o : ObjectRow) × (object S y ≡ Some o) × (no_job o ≡ true)
      at = of_object no_job (object S y) (no_job-was y low p)

      over : (is_live_process at.0 ≡ true) → lives T y ≡ true → ⊥
      over t l =
          let q = of_object living (object T y) l in
          let o = was-old S T y follows low q.0 q.1 in
          let same : o.0 ≡ at.0 = some_one o.0 at.0 (sym o.1 ∙ at.1) in
          let process : is_process q.0.kind ≡ true = ap is_process (o.2.kind ∙ ap (λ (z : ObjectRow). z.kind) same) ∙ and_left (is_process at.0.kind) _ t in
          true≢false (has_live_process T y) (some-has_live_process T y q.0 q.1 (and_both (is_process q.0.kind) _ process q.2)) (leaked-lost T y leaks).not_running

      by : (b : Bool) → is_live_process at.0 ≡ b → (is_leaked S y ≡ true) ⊎ (ended y S T ≡ true)
      by true t = inr (and_both (lives S y) _ (ap (on_object living) at.1 ∙ and_right (is_process at.0.kind) _ t) (ap not (not_true (lives T y) (over t))))
      by false f = inl (passive-leaked S c y (ap (on_object is_passive) at.1 ∙ and_both (not (is_job at.0.kind)) _ at.2 (ap not f)) out)

  -- what was leaked does not end while it stays
  pub leaked-no-end : (y : ℕ) → stands_no_job T y ≡ true → is_leaked S y ≡ true → ended y S T ≡ false
  leaked-no-end y p leaks = not_true (ended y S T) (λ t. by (is_process at.0.kind) refl (and_left (lives S y) _ t) (and_right (lives S y) _ t))
    where
      low : y < next_koid S
      low = low-koid S c.sound y (leaked-lost S y leaks).there

      at : (q : ObjectRow) × (object T y ≡ Some q) × (no_job q ≡ true)
      at = of_object no_job (object T y) p

      was : (o : ObjectRow) × (object S y ≡ Some o) × Aged o at.0
      was = was-old S T y follows low at.0 at.1

      by : (b : Bool) → is_process at.0.kind ≡ b → lives S y ≡ true → not (lives T y) ≡ true → ⊥
      by true t l gone =
          let life : is_live was.0.life ≡ true = sym (ap (on_object living) was.1) ∙ l in
          true≢false (has_live_process S y) (some-has_live_process S y was.0 was.1 (and_both (is_process was.0.kind) _ (ap is_process (sym was.2.kind) ∙ t) life)) (leaked-lost S y leaks).not_running
      by false f l gone =
          let passing : is_passing_kind at.0.kind ≡ true = passing-kind at.0.kind (off (is_job at.0.kind) at.2) f in
          true≢false (lives T y) (passing-lives T y after (ap (on_object passes) at.1 ∙ passing)) (off (lives T y) gone)
