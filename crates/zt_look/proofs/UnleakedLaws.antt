-- What is there and not leaked is the least set that has all that rows name: it is closed, and it is inside every closed set. So
-- a search from what is known of a later state ends with what is unleaked in the earlier one.
use Rattle.std.proofs.Common.{◌≡◌, ◌≤◌, ◌<◌, ℕ, zero, suc, ◌+◌, Bool, true, false, cond, not, ◌&&◌, ◌||◌, List, [], ◌∷◌, map, length, ◌⊎◌, inl, inr, refl, sym, ap, ◌∙◌, subst, arith}
use Rattle.std.specs.Prelude.{Option, None, Some, is_some, ◌==◌, if◌then◌else◌}
use Rattle.std.specs.List.{list_any}
use Rattle.std.specs.Option.{option_map}
use Rattle.std.specs.Ordering.{nat_cmp}
use Rattle.std.specs.BTreeSet.{BTreeSet, contains}
use Rattle.std.proofs.lemmas.Bool.{eqb-true, eq-eqb, ne_eqb}
use Rattle.zt_bits.specs.declared.kinds.Kind.{Kind}
use Rattle.zt_bits.specs.declared.kinds.Kind.TheVariants as kind
use Rattle.zt_rows.specs.declared.keys.RowKey.{RowKey}
use Rattle.zt_rows.specs.declared.keys.RowKey.TheVariants as key
use Rattle.zt_rows.specs.declared.rows.Held.{Held}
use Rattle.zt_rows.specs.declared.rows.ObjectRow.{ObjectRow}
use Rattle.zt_rows.specs.declared.rows.Row.{Row}
use Rattle.zt_rows.specs.declared.rows.Row.TheVariants as rows
use Rattle.zt_rows.specs.Change.{before, changed, differ_at, keys, option_row_eq, rows_under}
use Rattle.zt_rows.specs.Consistent.{IsChild, IsConsistent, has_parent}
use Rattle.zt_rows.specs.Contents.{MessageContent}
use Rattle.zt_rows.specs.End.{chain, links, upward}
use Rattle.zt_rows.specs.Keys.{first_number, rowkey_eq}
use Rattle.zt_rows.specs.Reads.{as_object, as_entry, as_message, is_job, is_live, is_live_job, is_live_process, is_process, message, object, has_live_process}
use Rattle.zt_rows.specs.Room.{suits}
use Rattle.zt_rows.specs.State.{State, row}
use Rattle.zt_rows.specs.Support.{root_job}
use Rattle.zt_rows.specs.Tests.{among, exists, is_task, link_at, object_link}
use Rattle.zt_rows.proofs.AboveLaws.{Above, above, above-live, above-over, parent-above}
use Rattle.zt_rows.proofs.ChangeLaws.{among-changed, among-keys, find-before, same_where_not_differ}
use Rattle.zt_rows.proofs.ReadLaws.{exists-some, kind_at-some, some-exists, some_one}
use Rattle.zt_rows.proofs.RowLaws.{In, or_true, or_left, or_right, and_left, and_right, and_both, true≢false, same_test, not_true}
use Rattle.zt_rows.proofs.SoundLaws.{has_live_process-some, some-has_live_process}
use Rattle.zt_rows.proofs.SoundLaws as live
use Rattle.zt_store.specs.RecordLook.{held}
use Rattle.zt_history.specs.Tree.{Tree, made_at, parent_at, state_at}
use Rattle.zt_history.specs.TreeInvariant.{IsTree, record_of, recorded_at}
use Rattle.zt_history.proofs.RecordLaws.{record_of-above}
use Rattle.zt_history.proofs.RunLaws.{made-there, moment-consistent, parent-within}
use Rattle.zt_queries.specs.Happenings.{leaked}
use Rattle.zt_queries.specs.Leaks.{is_leaked, keeps_above, leaks}
use Rattle.zt_queries.specs.Reachability.{HoldsAllNamed, reached}
use Rattle.zt_queries.proofs.LeakLaws.{Lost, leaked-lost, lost-leaked, listed-is}
use Rattle.zt_queries.proofs.OnceLaws.{leaked-begins, leaked-goes-on}
use Rattle.zt_queries.proofs.ReachLaws.{all-in, among-in, entry-reached, in-all, in-among, map-in, message-reached, reached-least}
use Rattle.zt_queries.proofs.TreeTimes.{next-made}
use Rattle.zt_look.specs.declared.unleaked_search.Search.{Search}
use Rattle.zt_look.specs.ProofsOnly.UnleakedSearch.{AreThere, HasAllNamed, IsOpen, IsSearched, IsSeeded, WaitInside, begun_by, has_key, has_none, in_found, in_set, is_gone, is_object, is_there_after, itself, koid_of, koids, koids_in, named_by, parents, waits}
use Rattle.zt_look.specs.ProofsOnly.UnleakedSet.{IsStart, IsCallOver, IsUnleakedSet, is_unleaked}
use Rattle.zt_look.proofs.SearchLaws.{found_on, holds-closed, linked-child, task-no-endpoint, there-closed}

-- ---- tests

never : {A : Type 0} → true ≡ false → A
never e = absurd (let f : true ≡ false = e in cc)

off : (b : Bool) → not b ≡ true → b ≡ false
off true e = never (sym e)
off false e = refl

dead_parent : (a b c : Bool) → ((a && false) || ((b && false) && c)) ≡ false
dead_parent true true c = refl
dead_parent true false c = refl
dead_parent false true c = refl
dead_parent false false c = refl

job-task : (k : Kind) → is_job k ≡ true → is_task k ≡ true
job-task kind.Job e = refl
job-task kind.Process e = refl
job-task kind.Channel e = never (sym e)
job-task kind.Event e = never (sym e)
job-task kind.EventPair e = never (sym e)
job-task kind.Port e = never (sym e)

live-kind_of : (k : Kind) (b : Bool) → ((is_job k && b) || (is_process k && b)) ≡ true → is_task k ≡ true
live-kind_of kind.Job b e = refl
live-kind_of kind.Process b e = refl
live-kind_of kind.Channel b e = never (sym e)
live-kind_of kind.Event b e = never (sym e)
live-kind_of kind.EventPair b e = never (sym e)
live-kind_of kind.Port b e = never (sym e)

live-kind : (o : ObjectRow) → live.is_running_task o ≡ true → is_task o.kind ≡ true
live-kind o e = live-kind_of o.kind (is_live o.life) e

channel-no-job : (k : Kind) → k ≡ kind.Channel → is_job k ≡ true → ⊥
channel-no-job k e j = true≢false (is_job k) j (ap is_job e)

channel-no-process : (k : Kind) → k ≡ kind.Channel → is_process k ≡ true → ⊥
channel-no-process k e j = true≢false (is_process k) j (ap is_process e)

-- what has no link has nothing above it
chain-linked : (S : State) (y x : ℕ) → link_at S y ≡ 0 → among (chain S y) x ≡ true → ⊥
unfolding chain links
chain-linked S y x none e =
    let one : y + 1 ≡ suc y = omega arith in
    let nothing : chain S y ≡ [] = ap (λ n. links n S y) one ∙ ap (λ l. upward l (λ z. links y S z)) none in
    true≢false (among (chain S y) x) e (ap (λ c. among c x) nothing)

-- ---- what is unleaked has all that rows name

module _ (S : State) (sound : IsConsistent S) where
  unleaked-by : (x : ℕ) → exists S x ≡ true → (Lost S x → ⊥) → is_unleaked S x ≡ true
  unleaked-by x there kept = and_both (exists S x) (not (is_leaked S x)) there (ap not (not_true (is_leaked S x) (λ e. kept (leaked-lost S x e))))

  pub unleaked-not : (x : ℕ) → is_unleaked S x ≡ true → Lost S x → ⊥
  unleaked-not x e lost = true≢false (is_leaked S x) (lost-leaked S x lost) (off (is_leaked S x) (and_right (exists S x) (not (is_leaked S x)) e))

  reached-unleaked : (x : ℕ) → exists S x ≡ true → among (reached S) x ≡ true → is_unleaked S x ≡ true
  reached-unleaked x there e = unleaked-by x there (λ lost. true≢false (among (reached S) x) e lost.unreached)

  -- a job that is not live has nothing above it
  dead-link : (y : ℕ) (o : ObjectRow) → object S y ≡ Some o → is_job o.kind ≡ true → is_live o.life ≡ false → link_at S y ≡ 0
  dead-link y o at job dead =
      let none : has_parent y o ≡ false = ap (λ b. (is_process o.kind && b) || ((is_job o.kind && b) && not (y == root_job))) dead ∙ dead_parent (is_process o.kind) (is_job o.kind) (not (y == root_job)) in
      ap object_link at ∙ (sound.sound.of_objects y o at).alone (task-no-endpoint o.kind (job-task o.kind job)) none

  -- what keeps something above it is live
  pub keeper-live : (y : ℕ) (o : ObjectRow) (known : List ℕ) → object S y ≡ Some o → keeps_above known (y, o) ≡ true → (x : ℕ) → among (chain S y) x ≡ true → live.is_running_task o ≡ true
  keeper-live y o known at keeps x up = elim (or_true (is_live_process o) (is_job o.kind && among known y) keeps) [
    | inl p ↦ or_right (is_live_job o) (is_live_process o) p
    | inr j ↦ by (is_live o.life) refl (and_left (is_job o.kind) (among known y) j)
  ]
    where
      by : (b : Bool) → is_live o.life ≡ b → is_job o.kind ≡ true → live.is_running_task o ≡ true
      by true l job = or_left (is_live_job o) (is_live_process o) (and_both (is_job o.kind) (is_live o.life) job l)
      by false l job = absurd (chain-linked S y x (dead-link y o at job l) up)

  module _ (e n : ℕ) (m : MessageContent) (at : message S e n ≡ Some m) where
    channel : (o : ObjectRow) × (object S e ≡ Some o) × (o.kind ≡ kind.Channel)
    channel = kind_at-some S e kind.Channel (sound.sound.of_messages e n m at).owner

    channel-is : (q : ObjectRow) → object S e ≡ Some q → q.kind ≡ kind.Channel
    channel-is q there = ap (λ (o : ObjectRow). o.kind) (some_one q channel.0 (sym there ∙ channel.1)) ∙ channel.2

    not_root : (e == root_job) ≡ true → ⊥
    not_root t =
        let w = kind_at-some S root_job kind.Job sound.sound.root in
        channel-no-job w.0.kind (channel-is w.0 (ap (object S) (eqb-true e root_job t) ∙ w.1)) (ap is_job w.2)

    not_running : has_live_process S e ≡ true → ⊥
    not_running t = let w = has_live_process-some S e t in channel-no-process w.0.kind (channel-is w.0 w.1) (and_left (is_process w.0.kind) (is_live w.0.life) w.2)

    not_above : (y : ℕ) (o : ObjectRow) → object S y ≡ Some o → keeps_above (reached S) (y, o) ≡ true → In e (chain S y) → ⊥
    not_above y o there keeps l =
        let up : among (chain S y) e ≡ true = in-among e (chain S y) l in
        let w = above-live S sound.sound y o there (keeper-live y o (reached S) there keeps e up) e up in
        channel-no-job w.0.kind (channel-is w.0 w.1) (and_left (is_job w.0.kind) (is_live w.0.life) w.2)

    -- an unleaked endpoint is reached
    queue-reached : is_unleaked S e ≡ true → among (reached S) e ≡ true
    queue-reached kept = by (among (reached S) e) refl
      where
        by : (b : Bool) → among (reached S) e ≡ b → among (reached S) e ≡ true
        by true h = h
        by false h = absurd (unleaked-not e kept (record {
          there = exists-some S e channel.0 channel.1;
          unreached = h;
          not_root = not_true (e == root_job) not_root;
          not_running = not_true (has_live_process S e) not_running;
          not_above = not_above;
        }))

    messages-unleaked : is_unleaked S e ≡ true → (one : Held) → In one m.handles → is_unleaked S one.koid ≡ true
    messages-unleaked kept one l =
        reached-unleaked one.koid (all-in (λ (h : Held). exists S h.koid ≡ true) m.handles (sound.sound.of_messages e n m at).names one l)
        (message-reached S e n m at (queue-reached kept) one l)

  module _ (x : ℕ) (o : ObjectRow) (at : object S x ≡ Some o) (child : has_parent x o ≡ true) (lost : Lost S o.link) where
    up : among (chain S x) o.link ≡ true
    up = parent-above S sound.sound x o at child

    no_process : is_live_process o ≡ true → ⊥
    no_process p = lost.not_above x o at (or_left (is_live_process o) (is_job o.kind && among (reached S) x) p) (among-in o.link (chain S x) up)

    no_job : is_live_job o ≡ true → among (reached S) x ≡ true → ⊥
    no_job j r =
        lost.not_above x o at (or_right (is_live_process o) (is_job o.kind && among (reached S) x) (and_both (is_job o.kind) (among (reached S) x) (and_left (is_job o.kind) (is_live o.life) j) r))
        (among-in o.link (chain S x) up)

    which : (is_live_process o ≡ true) ⊎ ((is_live_job o && not (x == root_job)) ≡ true)
    which = or_true (is_live_process o) (is_live_job o && not (x == root_job)) child

    -- then the child is lost
    lost-child : Lost S x
    lost-child = record {
      there = exists-some S x o at;
      unreached = not_true (among (reached S) x) (λ r. elim which [ inl p ↦ no_process p | inr j ↦ no_job (and_left (is_live_job o) (not (x == root_job)) j) r ]);
      not_root = elim which [ inl p ↦ absurd (no_process p) | inr j ↦ off (x == root_job) (and_right (is_live_job o) (not (x == root_job)) j) ];
      not_running = not_true (has_live_process S x) (λ t. let w = has_live_process-some S x t in no_process (ap is_live_process (some_one o w.0 (sym at ∙ w.1)) ∙ w.2));
      not_above = λ y q there keeps l.
          let over : among (chain S y) x ≡ true = in-among x (chain S y) l in
          lost.not_above y q there keeps (among-in o.link (chain S y) (above-over S sound.sound y q there (keeper-live y q (reached S) there keeps x over) x o.link over up));
    }

  parent-unleaked : (x : ℕ) (o : ObjectRow) → object S x ≡ Some o → is_task o.kind ≡ true → (o.link ≡ 0 → ⊥) → is_unleaked S x ≡ true → is_unleaked S o.link ≡ true
  parent-unleaked x o at task linked kept =
      let child : has_parent x o ≡ true = linked-child S sound x o at task linked in
      let c : IsChild S x o = (sound.sound.of_objects x o at).parents child in
      unleaked-by o.link (exists-some S o.link c.parent c.there) (λ lost. unleaked-not x kept (lost-child x o at child lost))

  -- what is unleaked has all that rows name
  pub unleaked-closed : HasAllNamed S (is_unleaked S)
  unleaked-closed = holds-closed S (is_unleaked S) (record {
    root =
        let w = kind_at-some S root_job kind.Job sound.sound.root in
        unleaked-by root_job (exists-some S root_job w.0 w.1) (λ lost. true≢false (root_job == root_job) (eq-eqb root_job root_job refl) lost.not_root);
    running = λ x e. let w = has_live_process-some S x e in unleaked-by x (exists-some S x w.0 w.1) (λ lost. true≢false (has_live_process S x) e lost.not_running);
    entries = λ p h one at. reached-unleaked one.koid (sound.sound.of_entries p h one at).names (entry-reached S p h one at);
    messages = λ e n m at kept. in-all (λ (h : Held). is_unleaked S h.koid ≡ true) m.handles (messages-unleaked e n m at kept);
    above = parent-unleaked;
  })

-- ---- and it is inside every set that has that

module _ (S : State) (sound : IsConsistent S) (f : ℕ → Bool) (closed : HasAllNamed S f) where
  self : (x : ℕ) → among (x ∷ []) x ≡ true
  self x = or_left (x == x) false (eq-eqb x x refl)

  holds-named : HoldsAllNamed S f
  holds-named = record {
    entries = λ p h one at. closed.begun (key.Entry p h) one.koid (ap (λ o. among (koid_of o) one.koid) at ∙ self one.koid);
    messages = λ e n m at kept. in-all (λ (h : Held). f h.koid ≡ true) m.handles (λ one l.
        closed.named (key.Msg e n) one.koid kept (ap (λ o. among (koids_in o) one.koid) at ∙ in-among one.koid (koids m.handles) (map-in (λ (h : Held). h.koid) one m.handles l)));
  }

  reached-in : (x : ℕ) → among (reached S) x ≡ true → f x ≡ true
  reached-in x e = reached-least S f holds-named x e

  itself-in : (x : ℕ) (o : ObjectRow) → object S x ≡ Some o → ((x == root_job) || is_live_process o) ≡ true → f x ≡ true
  itself-in x o at h = closed.begun (key.Object x) x (ap (λ q. among (itself x q) x) at ∙ ap (λ b. among (if b then x ∷ [] else []) x) h ∙ self x)

  parent-in : (x : ℕ) (o : ObjectRow) → object S x ≡ Some o → is_task o.kind ≡ true → (o.link ≡ 0 → ⊥) → f x ≡ true → f o.link ≡ true
  parent-in x o at task linked kept =
      closed.named (key.Object x) o.link kept
      (ap (λ q. among (parents q) o.link) at
      ∙ ap (λ b. among (if b then o.link ∷ [] else []) o.link) (and_both (is_task o.kind) (not (o.link == 0)) task (ap not (ne_eqb o.link 0 linked)))
      ∙ self o.link)

  above-in : (n y : ℕ) (o : ObjectRow) → y < n → object S y ≡ Some o → live.is_running_task o ≡ true → f y ≡ true → (x : ℕ) → among (chain S y) x ≡ true → f x ≡ true
  above-in zero y o few at lives kept x h = absurd (omega (arith, few))
  above-in (suc n) y o few at lives kept x h =
      let w : Above S y o x = above S sound.sound y o at lives x h in
      let c : IsChild S y o = w.child in
      let less : o.link < y = c.smaller in
      let low : root_job ≤ o.link = (sound.sound.of_objects o.link c.parent c.there).low in
      let next : f o.link ≡ true = parent-in y o at (live-kind o lives) (λ z. omega (arith, z, low)) kept in
      elim w.near [
        | inl is ↦ subst (λ z. f z ≡ true) is next
        | inr far ↦ above-in n o.link c.parent (omega (arith, few, less)) c.there (or_left (is_live_job c.parent) (is_live_process c.parent) c.live) next x far
      ]

  keeper-in : (y : ℕ) (o : ObjectRow) → object S y ≡ Some o → keeps_above (reached S) (y, o) ≡ true → f y ≡ true
  keeper-in y o at keeps = elim (or_true (is_live_process o) (is_job o.kind && among (reached S) y) keeps) [
    | inl p ↦ itself-in y o at (or_right (y == root_job) (is_live_process o) p)
    | inr j ↦ reached-in y (and_right (is_job o.kind) (among (reached S) y) j)
  ]

  pub unleaked-inside : (x : ℕ) → is_unleaked S x ≡ true → f x ≡ true
  unleaked-inside x kept = by (f x) refl
    where
      there : exists S x ≡ true
      there = and_left (exists S x) (not (is_leaked S x)) kept

      root_in : (x == root_job) ≡ true → f x ≡ true
      root_in t = let w = some-exists S x there in itself-in x w.0 w.1 (or_left (x == root_job) (is_live_process w.0) t)

      running_in : has_live_process S x ≡ true → f x ≡ true
      running_in t = let w = has_live_process-some S x t in itself-in x w.0 w.1 (or_right (x == root_job) (is_live_process w.0) w.2)

      above_in : (y : ℕ) (o : ObjectRow) → object S y ≡ Some o → keeps_above (reached S) (y, o) ≡ true → In x (chain S y) → f x ≡ true
      above_in y o at keeps l =
          let up : among (chain S y) x ≡ true = in-among x (chain S y) l in
          above-in (suc y) y o (omega arith) at (keeper-live S sound y o (reached S) at keeps x up) (keeper-in y o at keeps) x up

      by : (b : Bool) → f x ≡ b → f x ≡ true
      by true h = h
      by false h = absurd (unleaked-not S sound x kept (record {
        there = there;
        unreached = not_true (among (reached S) x) (λ r. true≢false (f x) (reached-in x r) h);
        not_root = not_true (x == root_job) (λ t. true≢false (f x) (root_in t) h);
        not_running = not_true (has_live_process S x) (λ t. true≢false (f x) (running_in t) h);
        not_above = λ y o at keeps l. true≢false (f x) (above_in y o at keeps l) h;
      }))

-- ---- objects that are there

as_object-suited : (x : ℕ) (r : Row) → suits (key.Object x) r ≡ true → is_some (as_object (Some r)) ≡ true
as_object-suited x (rows.Object o) e = refl
as_object-suited x (rows.Counters c) e = never (sym e)
as_object-suited x (rows.Entry h) e = never (sym e)
as_object-suited x (rows.Msg m) e = never (sym e)
as_object-suited x (rows.Packet p) e = never (sym e)
as_object-suited x (rows.Wait w) e = never (sym e)

-- there is an object where there is a row under its key
pub exists-row : (S : State) → IsConsistent S → (x : ℕ) → exists S x ≡ is_some (row S (key.Object x))
exists-row S sound x = by (row S (key.Object x)) refl
  where
    by : (r : Option Row) → row S (key.Object x) ≡ r → exists S x ≡ is_some r
    by None at = ap (λ q. is_some (as_object q)) at
    by (Some r) at = ap (λ q. is_some (as_object q)) at ∙ as_object-suited x r (sound.sound.typed (key.Object x) r at)

eqb-turned : (a b : ℕ) → (a == b) ≡ (b == a)
eqb-turned a b = same_test (a == b) (b == a) (λ e. eq-eqb b a (sym (eqb-true a b e))) (λ e. eq-eqb a b (sym (eqb-true b a e)))

is_object-is : (x : ℕ) (k : RowKey) → is_object x k ≡ rowkey_eq (key.Object x) k
is_object-is x (key.Object y) = eqb-turned y x
is_object-is x key.Counters = refl
is_object-is x (key.Entry p h) = refl
is_object-is x (key.Msg e n) = refl
is_object-is x (key.Packet p n) = refl
is_object-is x (key.Wait n) = refl

pub objects-keyed : (x : ℕ) (ks : List RowKey) → list_any (is_object x) ks ≡ has_key ks (key.Object x)
objects-keyed x [] = refl
objects-keyed x (k ∷ ks) = ap (λ b. b || list_any (is_object x) ks) (is_object-is x k) ∙ ap (λ b. rowkey_eq (key.Object x) k || b) (objects-keyed x ks)

-- of all objects, those that are not listed as leaked
pub unleaked-listed : (S : State) → IsConsistent S → (ks : List RowKey) (all set : BTreeSet ℕ) (lost : List (ℕ × Kind)) → ks ≡ keys S → lost ≡ leaks S
    → ((x : ℕ) → contains nat_cmp all x ≡ list_any (is_object x) ks)
    → ((x : ℕ) → contains nat_cmp set x ≡ (contains nat_cmp all x && not (among (map (λ e. e.0) lost) x))) → IsUnleakedSet S set
unleaked-listed S sound ks all set lost k l objects left x =
    left x
    ∙ ap (λ b. b && not (among (map (λ (e : ℕ × Kind). e.0) lost) x)) (objects x ∙ objects-keyed x ks ∙ ap (λ q. has_key q (key.Object x)) k ∙ sym (among-keys S (key.Object x)) ∙ sym (exists-row S sound x))
    ∙ ap (λ b. exists S x && not b) (ap (λ q. among (map (λ (e : ℕ × Kind). e.0) q) x) l ∙ listed-is S x)

-- ---- the two sides of a call

given_record : {A B : Type 0} (o : Option A) (x y : B) → option_map (λ _. x) o ≡ Some y → x ≡ y
given_record (Some a) x y e = some_one x y e
given_record None x y e = cc

none_given : {A B : Type 0} (f : A → B) (o : Option A) (x : A) → o ≡ Some x → option_map f o ≡ None → ⊥
none_given f o x e n = cc

pub turn-there : (t : Tree) (m p : ℕ) → IsTree t → 0 < m → m ≤ length t.made → recorded_at t.made p m ≡ None → ⊥
turn-there t zero p is low there none = omega (arith, low)
turn-there t (suc i) p is low there none = let e = made-there t.made is.moments i there in none_given (λ _. record_of t.made p (suc i)) (made_at t.made (suc i)) e.0 e.1 none

pub turn-of : (t : Tree) (m p : ℕ) (R : List (RowKey × Option Row)) → IsTree t → 0 < m → m ≤ length t.made → p ≡ parent_at t.made m → recorded_at t.made p m ≡ Some R
    → IsCallOver (state_at t.made p) (state_at t.made m) R
turn-of t zero p R is low there up given = absurd (omega (arith, low))
turn-of t (suc i) p R is low there up given =
    let e = made-there t.made is.moments i there in
    let at : R ≡ before (state_at t.made (suc i)) (state_at t.made (parent_at t.made (suc i))) =
    sym (given_record (made_at t.made (suc i)) (record_of t.made p (suc i)) R given) ∙ ap (λ q. record_of t.made q (suc i)) up ∙ record_of-above t.made is.moments.falls i in
    subst (λ q. IsCallOver (state_at t.made q) (state_at t.made (suc i)) R) (sym up) (record {
      early = moment-consistent t.made is.moments (parent_at t.made (suc i)) (parent-within t.made is.moments i there);
      late = moment-consistent t.made is.moments (suc i) there;
      call = next-made t.made is.moments (leaked 0) i e.0 e.1;
      rows = at;
    })

no_row : (r : Option Row) → is_some r ≡ false → r ≡ None
no_row None e = refl
no_row (Some r) e = never e

differ-none : (r s : Option Row) → r ≡ None → s ≡ None → not (option_row_eq r s) ≡ false
differ-none r s a b = ap (λ q. not (option_row_eq q s)) a ∙ ap (λ q. not (option_row_eq None q)) b

keys-before : (S T : State) → map (λ e. e.0) (before S T) ≡ changed S T
unfolding before
keys-before S T = all (changed S T)
  where
    all : (ks : List RowKey) → map (λ e. e.0) (rows_under S ks) ≡ ks
    all [] = refl
    all (k ∷ ks) = ap (λ l. k ∷ l) (all ks)

-- by whether it is there before and after, and whether it is leaked then
lost_now : (was is lost_was lost_is key_there t : Bool) → (lost_was ≡ true → was ≡ true) → (lost_is ≡ true → is ≡ true) → (was ≡ false → key_there ≡ is) → (was ≡ true → t ≡ is)
    → ((not (is && not lost_is) && (not was && key_there)) || ((was && not lost_was) && not ((is && not lost_is) && not (not was && key_there)) && t)) ≡ (not lost_was && lost_is)
lost_now false is true lost_is key_there t a b c d = never (sym (a refl))
lost_now false false false true key_there t a b c d = never (sym (b refl))
lost_now false true false true true t a b c d = refl
lost_now false true false true false t a b c d = never (sym (c refl))
lost_now false true false false true t a b c d = refl
lost_now false true false false false t a b c d = refl
lost_now false false false false true t a b c d = never (c refl)
lost_now false false false false false t a b c d = refl
lost_now true false true true key_there t a b c d = never (sym (b refl))
lost_now true false false true key_there t a b c d = never (sym (b refl))
lost_now true true true true key_there t a b c d = refl
lost_now true true true false key_there t a b c d = refl
lost_now true false true false key_there t a b c d = refl
lost_now true true false true key_there true a b c d = refl
lost_now true true false true key_there false a b c d = never (sym (d refl))
lost_now true true false false key_there true a b c d = refl
lost_now true true false false key_there false a b c d = refl
lost_now true false false false key_there true a b c d = never (d refl)
lost_now true false false false key_there false a b c d = refl

module _ (S T : State) (R : List (RowKey × Option Row)) (turn : IsCallOver S T R) (ks : List RowKey) (keys_are : ks ≡ map (λ e. e.0) R) where
  has-differ : (k : RowKey) → has_key ks k ≡ differ_at T S k
  has-differ k = ap (λ l. has_key l k) (keys_are ∙ ap (map (λ e. e.0)) turn.rows ∙ keys-before T S) ∙ among-changed T S k

  same-row : (k : RowKey) → has_key ks k ≡ false → row S k ≡ row T k
  same-row k h = sym (same_where_not_differ T S k (sym (has-differ k) ∙ h))

  -- an object of one side alone is under a key of the record
  one-side : (x : ℕ) (b : Bool) → has_key ks (key.Object x) ≡ b → exists S x ≡ false → b ≡ exists T x
  one-side x false h out = sym (ap (λ r. is_some (as_object r)) (sym (same-row (key.Object x) h)) ∙ out)
  one-side x true h out = sym (exists-row T turn.late x ∙ by (row T (key.Object x)) refl)
    where
      none_here : row S (key.Object x) ≡ None
      none_here = no_row (row S (key.Object x)) (sym (exists-row S turn.early x) ∙ out)

      by : (r : Option Row) → row T (key.Object x) ≡ r → is_some r ≡ true
      by (Some r) at = refl
      by None at = never (sym (sym (has-differ (key.Object x)) ∙ h) ∙ differ-none (row T (key.Object x)) (row S (key.Object x)) at none_here)

  gone-key : (x : ℕ) → exists S x ≡ false → list_any (is_object x) ks ≡ exists T x
  gone-key x out = objects-keyed x ks ∙ one-side x (has_key ks (key.Object x)) refl out

  -- an object of the earlier side is there later where the record does not have that it is not
  there-after : (x : ℕ) → exists S x ≡ true → is_there_after R x ≡ exists T x
  there-after x here = ap (λ r. not (has_none r)) (ap (λ l. held l (key.Object x)) turn.rows ∙ find-before T S (key.Object x)) ∙ by (differ_at T S (key.Object x)) refl
    where
      of_row : (r : Option Row) → not (has_none (Some r)) ≡ is_some r
      of_row None = refl
      of_row (Some r) = refl

      by : (b : Bool) → differ_at T S (key.Object x) ≡ b → not (has_none (cond b (Some (row T (key.Object x))) None)) ≡ exists T x
      by true e = of_row (row T (key.Object x)) ∙ sym (exists-row T turn.late x)
      by false e = sym (ap (λ r. is_some (as_object r)) (sym (same-row (key.Object x) (has-differ (key.Object x) ∙ e))) ∙ here)

  same-begun : (k : RowKey) → row S k ≡ row T k → begun_by S k ≡ begun_by T k
  same-begun (key.Object x) e = ap (λ r. itself x (as_object r)) e
  same-begun (key.Entry p h) e = ap (λ r. koid_of (as_entry r)) e
  same-begun key.Counters e = refl
  same-begun (key.Msg f n) e = refl
  same-begun (key.Packet p n) e = refl
  same-begun (key.Wait n) e = refl

  same-named : (k : RowKey) → row S k ≡ row T k → named_by S k ≡ named_by T k
  same-named (key.Object x) e = ap (λ r. parents (as_object r)) e
  same-named (key.Msg f n) e = ap (λ r. koids_in (as_message r)) e
  same-named key.Counters e = refl
  same-named (key.Entry p h) e = refl
  same-named (key.Packet p n) e = refl
  same-named (key.Wait n) e = refl

  -- ---- where the search begins

  module _ (a : Search) (begun_set : (x : ℕ) → in_set a x ≡ (is_unleaked T x && not (is_gone S ks x))) (begun_found : (x : ℕ) → in_found a x ≡ (not (is_unleaked T x) && is_gone S ks x))
      (begun_waiting : a.waiting.items ≡ []) where
    start-late : (x : ℕ) → in_set a x ≡ true → is_unleaked T x ≡ true
    start-late x e = and_left (is_unleaked T x) (not (is_gone S ks x)) (sym (begun_set x) ∙ e)

    start-there : (x : ℕ) → in_set a x ≡ true → exists S x ≡ true
    start-there x e = by (exists S x) refl
      where
        stays : is_gone S ks x ≡ false
        stays = off (is_gone S ks x) (and_right (is_unleaked T x) (not (is_gone S ks x)) (sym (begun_set x) ∙ e))

        late : exists T x ≡ true
        late = and_left (exists T x) (not (is_leaked T x)) (start-late x e)

        by : (b : Bool) → exists S x ≡ b → exists S x ≡ true
        by true h = h
        by false h = absurd (true≢false (is_gone S ks x) (and_both (not (exists S x)) (list_any (is_object x) ks) (ap not h) (gone-key x h ∙ late)) stays)

    start-by : (x : ℕ) → is_unleaked T x ≡ true → exists S x ≡ true → in_set a x ≡ true
    start-by x late here = begun_set x ∙ and_both (is_unleaked T x) (not (is_gone S ks x)) late (ap (λ b. not (not b && list_any (is_object x) ks)) here)

    start-unleaked : (x : ℕ) → in_set a x ≡ true → is_unleaked S x ≡ true
    start-unleaked x e =
        let here : exists S x ≡ true = start-there x e in
        let late : is_unleaked T x ≡ true = start-late x e in
        and_both (exists S x) (not (is_leaked S x)) here (ap not (not_true (is_leaked S x) (λ l.
        true≢false (is_leaked T x) ((leaked-goes-on S T x turn.early turn.call (leaked-begins S x turn.early l)).1 (and_left (exists T x) (not (is_leaked T x)) late))
        (off (is_leaked T x) (and_right (exists T x) (not (is_leaked T x)) late)))))

    module _ (b : Search) (seeded : IsSeeded S R ks a b) where
      pub seeded-there : AreThere S b
      seeded-there x e = seeded.least (exists S) (there-closed S turn.early) start-there x e

      pub seeded-inside : WaitInside b
      seeded-inside x w = elim (seeded.grows.known x w) [
        | inl l ↦ never (sym (sym (ap (λ q. among q x) begun_waiting) ∙ l))
        | inr m ↦ m
      ]

      -- what a row names that is as it was
      old-named : (k : RowKey) (x : ℕ) → row S k ≡ row T k → in_set a (first_number k) ≡ true → among (named_by S k) x ≡ true → in_set b x ≡ true
      old-named k x same owner e =
          seeded.grows.kept x (start-by x
          ((unleaked-closed T turn.late).named k x (start-late (first_number k) owner) (ap (λ l. among l x) (sym (same-named k same)) ∙ e))
          ((there-closed S turn.early).named k x (start-there (first_number k) owner) e))

      pub seeded-open : IsOpen S b
      seeded-open k x owner e = by (has_key ks k) refl
        where
          by : (h : Bool) → has_key ks k ≡ h → (in_set b x ≡ true) ⊎ (waits b (first_number k) ≡ true)
          by true h = seeded.named k x h owner e
          by false h = elim (seeded.grows.came (first_number k) owner) [
            | inl old ↦ inl (old-named k x (same-row k h) old e)
            | inr w ↦ inr w
          ]

      seeded-begun : (k : RowKey) (x : ℕ) → among (begun_by S k) x ≡ true → in_set b x ≡ true
      seeded-begun k x e = by (has_key ks k) refl
        where
          by : (h : Bool) → has_key ks k ≡ h → in_set b x ≡ true
          by true h = seeded.begun k x h e
          by false h =
              seeded.grows.kept x (start-by x ((unleaked-closed T turn.late).begun k x (ap (λ l. among l x) (sym (same-begun k (same-row k h))) ∙ e)) ((there-closed S turn.early).begun k x e))

      -- ---- where it ends

      module _ (c : Search) (searched : IsSearched S R b c) (ended : c.waiting.items ≡ []) where
        end-closed : HasAllNamed S (in_set c)
        end-closed = record {
          begun = λ k x e. searched.kept x (seeded-begun k x e);
          named = λ k x owner e. elim (searched.opened k x owner e) [
            | inl m ↦ m
            | inr w ↦ never (sym (sym (ap (λ q. among q (first_number k)) ended) ∙ w))
          ];
        }

        end-inside : (x : ℕ) → in_set c x ≡ true → is_unleaked S x ≡ true
        end-inside x e =
            searched.least (is_unleaked S) (unleaked-closed S turn.early) (λ y m. seeded.least (is_unleaked S) (unleaked-closed S turn.early) start-unleaked y m) x e

        pub end-set : (x : ℕ) → in_set c x ≡ is_unleaked S x
        end-set x = same_test (in_set c x) (is_unleaked S x) (end-inside x) (unleaked-inside S turn.early (in_set c) end-closed x)

        pub end-found : (x : ℕ) → in_found c x ≡ leaked x S T
        end-found x =
            found_on (in_found a x) (in_found b x) (in_found c x) (in_set a x) (in_set b x) (in_set c x) (is_there_after R x) (seeded.grows.found x) (searched.found x) (seeded.grows.kept x) (searched.kept x)
            ∙ ap (λ f. f || (in_set c x && not (in_set a x) && is_there_after R x)) (begun_found x)
            ∙ ap (λ f. (not (is_unleaked T x) && is_gone S ks x) || (f && not (in_set a x) && is_there_after R x)) (end-set x)
            ∙ ap (λ f. (not (is_unleaked T x) && is_gone S ks x) || (is_unleaked S x && not f && is_there_after R x)) (begun_set x)
            ∙ lost_now (exists S x) (exists T x) (is_leaked S x) (is_leaked T x) (list_any (is_object x) ks) (is_there_after R x)
            (λ l. (leaked-lost S x l).there) (λ l. (leaked-lost T x l).there) (gone-key x) (there-after x)

-- ---- how a search begins, by the sets that it is given

pub start-of : (t : Tree) (m p : ℕ) (R : List (RowKey × Option Row)) (S : State) (ks : List RowKey) (old taken : BTreeSet ℕ) (s : Search) → IsTree t → 0 < m → m ≤ length t.made
    → p ≡ parent_at t.made m → recorded_at t.made p m ≡ Some R → IsUnleakedSet (state_at t.made m) old → S ≡ state_at t.made p → ks ≡ map (λ e. e.0) R
    → ((x : ℕ) → contains nat_cmp taken x ≡ (contains nat_cmp old x && not (is_gone S ks x))) → s.set ≡ taken
    → ((x : ℕ) → in_found s x ≡ (not (contains nat_cmp old x) && is_gone S ks x)) → s.waiting.items ≡ [] → IsStart (state_at t.made p) (state_at t.made m) R s
start-of t m p R S ks old taken s is low there up given unleaked at keys_are left same found waiting = record {
  turn = turn-of t m p R is low there up given;
  known = λ x.
      ap (λ q. contains nat_cmp q x) same ∙ left x ∙ ap (λ b. b && not (is_gone S ks x)) (unleaked x) ∙ ap (λ U. is_unleaked (state_at t.made m) x && not (is_gone U ks x)) at
      ∙ ap (λ l. is_unleaked (state_at t.made m) x && not (is_gone (state_at t.made p) l x)) keys_are;
  gone = λ x.
      found x ∙ ap (λ b. not b && is_gone S ks x) (unleaked x) ∙ ap (λ U. not (is_unleaked (state_at t.made m) x) && is_gone U ks x) at
      ∙ ap (λ l. not (is_unleaked (state_at t.made m) x) && is_gone (state_at t.made p) l x) keys_are;
  none_waits = waiting;
}

module _ (P T S : State) (R : List (RowKey × Option Row)) (ks : List RowKey) (a b : Search) (same : S ≡ P) (begun : IsStart P T R a) (keys_are : ks ≡ map (λ e. e.0) R) (seeded : IsSeeded S R ks a b) where
  start : IsStart S T R a
  start = subst (λ U. IsStart U T R a) (sym same) begun

  keyed : IsSeeded S R (map (λ e. e.0) R) a b
  keyed = subst (λ l. IsSeeded S R l a b) keys_are seeded

  pub start-consistent : IsConsistent S
  start-consistent = start.turn.early

  pub start-open : IsOpen S b
  start-open = seeded-open S T R start.turn (map (λ e. e.0) R) refl a start.known start.gone start.none_waits b keyed

  pub start-inside : WaitInside b
  start-inside = seeded-inside S T R start.turn (map (λ e. e.0) R) refl a start.known start.gone start.none_waits b keyed

  pub start-there-all : AreThere S b
  start-there-all = seeded-there S T R start.turn (map (λ e. e.0) R) refl a start.known start.gone start.none_waits b keyed

  module _ (c : Search) (searched : IsSearched S R b c) (ended : c.waiting.items ≡ []) where
    pub found-set : IsUnleakedSet P c.set
    found-set x =
        end-set S T R start.turn (map (λ e. e.0) R) refl a start.known start.gone start.none_waits b keyed c searched ended x ∙ ap (λ U. is_unleaked U x) same

    pub found-lost : (x : ℕ) → in_found c x ≡ leaked x P T
    found-lost x =
        end-found S T R start.turn (map (λ e. e.0) R) refl a start.known start.gone start.none_waits b keyed c searched ended x ∙ ap (λ U. leaked x U T) same
