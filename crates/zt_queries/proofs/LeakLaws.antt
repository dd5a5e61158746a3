-- What is leaked stays leaked: the state after a call follows from the one before it, what follows reaches nothing
-- that had been out of reach, and nothing new is below what was leaked. A leaked endpoint does not go, since the
-- message that names it waits at another one.
use Rattle.std.proofs.Common.{◌≡◌, ◌≤◌, ◌<◌, ℕ, zero, suc, ◌+◌, Bool, true, false, cond, not, ◌&&◌, ◌||◌, List, map, ◌⊎◌, inl, inr, refl, sym, ap, ◌∙◌, subst, arith}
use Rattle.std.specs.Prelude.{Option, None, Some, if◌then◌else◌, ◌==◌}
use Rattle.std.proofs.lemmas.Bool.{eqb-true}
use Rattle.zt_bits.specs.declared.kinds.Kind.{Kind}
use Rattle.zt_bits.specs.declared.kinds.Kind.TheVariants as kind
use Rattle.zt_rows.specs.declared.calls.Call.{Call}
use Rattle.zt_rows.specs.declared.keys.RowKey.{RowKey}
use Rattle.zt_rows.specs.declared.keys.RowKey.TheVariants as key
use Rattle.zt_rows.specs.declared.rows.Held.{Held}
use Rattle.zt_rows.specs.declared.rows.ObjectRow.{ObjectRow}
use Rattle.zt_rows.specs.declared.rows.Row.{Row}
use Rattle.zt_rows.specs.declared.rows.Row.TheVariants as rows
use Rattle.zt_rows.specs.Contents.{MessageContent}
use Rattle.zt_rows.specs.State.{State, row}
use Rattle.zt_rows.specs.Reads.{as_object, object, object_at, objects, message, is_live, is_job, is_process, is_live_process, is_live_job, on_object, has_live_process}
use Rattle.zt_rows.specs.Tests.{exists, among, is_task, is_endpoint, link_at, object_link}
use Rattle.zt_rows.specs.Support.{root_job}
use Rattle.zt_rows.specs.Collect.{unlinked, without, collect}
use Rattle.zt_rows.specs.Settle.{settle}
use Rattle.zt_rows.specs.End.{upward, links, chain}
use Rattle.zt_rows.specs.Handles.{next_koid}
use Rattle.zt_rows.specs.Step.{IsCall, direct, step}
use Rattle.zt_rows.specs.Consistent.{IsChild, has_parent, SoundObject, IsSound, IsConsistent}
use Rattle.zt_rows.proofs.RowLaws.{In, row-in, in-row, filter_map-in, in-filter_map, list_any-in, in-list_any, or_true, or_left, or_right, and_left, and_right, and_both, true≢false, same_test, not_true}
use Rattle.zt_rows.proofs.ReadLaws.{some_one, exists-some, some-exists, kind_at-some, object-row, message-without, message-stayed, stayed, stays}
use Rattle.zt_rows.proofs.SupportLaws.{KeptBy, by_entry, by_message, by_child, by_itself, supported-kept, kept-supported}
use Rattle.zt_rows.proofs.SoundLaws.{has_live_process-some, some-has_live_process}
use Rattle.zt_rows.proofs.CollectLaws.{sound-collect, supported-stays}
use Rattle.zt_rows.proofs.FramedLaws.{Framed, exists-shaped}
use Rattle.zt_rows.proofs.SettleLaws.{framed-settle}
use Rattle.zt_rows.proofs.WithoutLaws.{IsLast, collect-set}
use Rattle.zt_rows.proofs.ChainLaws.{chain-from, links-chain}
use Rattle.zt_rows.proofs.CallLaws.{sound-direct}
use Rattle.zt_queries.specs.Reachability.{reached}
use Rattle.zt_queries.specs.Leaks.{keeps_above, is_above, is_kept, is_lost, is_leaked, lost_at, leaks}
use Rattle.zt_queries.proofs.ReachLaws.{in-map, map-in, among-in, in-among, entry-reached, message-reached, reached-least}
use Rattle.zt_queries.proofs.FollowLaws.{Aged, Was, is_new, is_old, AllReached, IsFresh, is_known, known-closed, known-low, Follows, Direct, low-koid, follows-without, follows-framed}
use Rattle.zt_queries.proofs.CallsFollow.{direct-call}

-- ---- the whole call

-- the state after a call follows from the one before it
pub follows-step : (S : State) → IsSound S → (p : ℕ) → has_live_process S p ≡ true → (c : Call) → IsCall c → Follows S (step S p c).0
unfolding step
follows-step S sound p live c is =
    let T : State = (direct S p c).0 in
    let w = collect-set T in
    let d : Direct S T = direct-call S sound p live c in
    let left : Follows S (collect T) = subst (Follows S) (sym w.1) (follows-without S T w.0 d.follows) in
    follows-framed S (collect T) (settle S (collect T)) (framed-settle S (collect T) (sound-collect T (sound-direct S p c sound live is))) left

-- a message after a call was there before it, or names what was reached
pub step-added : (S : State) → IsSound S → (p : ℕ) → has_live_process S p ≡ true → (c : Call) → IsCall c → (e n : ℕ) (m : MessageContent) → message (step S p c).0 e n ≡ Some m
    → (message S e n ≡ Some m) ⊎ AllReached S m.handles
unfolding step
step-added S sound p live c is e n m there =
    let T : State = (direct S p c).0 in
    let w = collect-set T in
    let d : Direct S T = direct-call S sound p live c in
    let f : Framed (collect T) (settle S (collect T)) = framed-settle S (collect T) (sound-collect T (sound-direct S p c sound live is)) in
    let left : message (without T w.0) e n ≡ Some m = sym (ap (λ Z. message Z e n) w.1) ∙ sym (f.of_messages e n) ∙ there in
    d.added e n m (message-stayed w.0 T e n m left).1

-- ---- what leaked is

object-in : (S : State) (x : ℕ) (o : ObjectRow) → object S x ≡ Some o → In (x, o) (objects S)
unfolding objects
object-in S x o e = filter_map-in object_at (x, o) (key.Object x, rows.Object o) S.rows (row-in S (key.Object x) (rows.Object o) (object-row S x o e)) refl

object_at-is : (S : State) (x : ℕ) (o : ObjectRow) (k : RowKey) (r : Row) → object_at (k, r) ≡ Some (x, o) → row S k ≡ Some r → object S x ≡ Some o
object_at-is S x o (key.Object y) (rows.Object q) e there =
    let same : (y, q) ≡ (x, o) = some_one _ _ e in
    ap (object S) (sym (ap (λ (z : ℕ × ObjectRow). z.0) same)) ∙ ap as_object there ∙ ap (λ (z : ℕ × ObjectRow). Some z.1) same
object_at-is S x o _ _ e there = cc

in-object : (S : State) (x : ℕ) (o : ObjectRow) → In (x, o) (objects S) → object S x ≡ Some o
unfolding objects
in-object S x o m = let w = in-filter_map object_at (x, o) S.rows m in object_at-is S x o w.0.0 w.0.1 w.2 (in-row S w.0.0 w.0.1 w.1)

-- the parts of being leaked
pub record Lost (S : State) (x : ℕ) : Type 0 where
  pub there : exists S x ≡ true
  pub unreached : among (reached S) x ≡ false
  pub not_root : (x == root_job) ≡ false
  pub not_running : has_live_process S x ≡ false
  pub not_above : (y : ℕ) (o : ObjectRow) → object S y ≡ Some o → keeps_above (reached S) (y, o) ≡ true → In x (chain S y) → ⊥

not_or_left : (a b : Bool) → not (a || b) ≡ true → a ≡ false
not_or_left true b e = cc
not_or_left false b e = refl

not_or_right : (a b : Bool) → not (a || b) ≡ true → b ≡ false
not_or_right true b e = cc
not_or_right false true e = cc
not_or_right false false e = refl

or_no_left : (a b : Bool) → (a || b) ≡ false → a ≡ false
or_no_left true b e = cc
or_no_left false b e = refl

or_no_right : (a b : Bool) → (a || b) ≡ false → b ≡ false
or_no_right true b e = cc
or_no_right false b e = e

neither : (a b : Bool) → a ≡ false → b ≡ false → (a || b) ≡ false
neither true b e f = cc
neither false b e f = f

pub leaked-lost : (S : State) (x : ℕ) → is_leaked S x ≡ true → Lost S x
unfolding is_leaked is_above
leaked-lost S x e =
    let known : List ℕ = reached S in
    let out : not (among known x || is_kept S known x) ≡ true = and_right (exists S x) _ e in
    let kept : is_kept S known x ≡ false = not_or_right (among known x) _ out in
    let first : ((x == root_job) || has_live_process S x) ≡ false = or_no_left ((x == root_job) || has_live_process S x) _ kept in
    record {
      there = and_left (exists S x) _ e;
      unreached = not_or_left (among known x) _ out;
      not_root = or_no_left (x == root_job) _ first;
      not_running = or_no_right (x == root_job) _ first;
      not_above = λ y o h keeps l.
          true≢false (is_above S known x)
          (list_any-in (λ (w : ℕ × ObjectRow). keeps_above known w && among (chain S w.0) x) (y, o) (objects S) (object-in S y o h) (and_both (keeps_above known (y, o)) _ keeps (in-among x (chain S y) l)))
          (or_no_right ((x == root_job) || has_live_process S x) _ kept);
    }

pub lost-leaked : (S : State) (x : ℕ) → Lost S x → is_leaked S x ≡ true
unfolding is_leaked is_above
lost-leaked S x lost =
    let known : List ℕ = reached S in
    let above : is_above S known x ≡ false = not_true (is_above S known x) (λ t.
    let w = in-list_any (λ (w : ℕ × ObjectRow). keeps_above known w && among (chain S w.0) x) (objects S) t in
    let keeps : keeps_above known w.0 ≡ true = and_left (keeps_above known w.0) _ w.2 in
    lost.not_above w.0.0 w.0.1 (in-object S w.0.0 w.0.1 w.1) keeps (among-in x (chain S w.0.0) (and_right (keeps_above known w.0) _ w.2))) in
    let kept : is_kept S known x ≡ false = neither ((x == root_job) || has_live_process S x) _ (neither (x == root_job) _ lost.not_root lost.not_running) above in
    and_both (exists S x) _ lost.there (ap not (neither (among known x) _ lost.unreached kept))

-- ---- the list of what is leaked

if_same : {A : Type 0} (b : Bool) (v w : A) → (if b then Some v else None) ≡ Some w → (b ≡ true) × (v ≡ w)
if_same true v w e = (refl, some_one v w e)
if_same false v w e = cc

listed-leaked : (S : State) (x : ℕ) → among (map (λ (e : ℕ × Kind). e.0) (leaks S)) x ≡ true → is_leaked S x ≡ true
unfolding leaks is_leaked
listed-leaked S x h =
    let known : List ℕ = reached S in
    let one = in-map (λ (e : ℕ × Kind). e.0) x (leaks S) (among-in x (map (λ (e : ℕ × Kind). e.0) (leaks S)) h) in
    let w = in-filter_map (lost_at S known) one.0 (objects S) one.1 in
    let lost = if_same (is_lost S known w.0.0) (w.0.0, w.0.1.kind) one.0 w.2 in
    ap (is_lost S known) (one.2 ∙ sym (ap (λ (e : ℕ × Kind). e.0) lost.1)) ∙ lost.0

leaked-listed : (S : State) (x : ℕ) → is_leaked S x ≡ true → among (map (λ (e : ℕ × Kind). e.0) (leaks S)) x ≡ true
unfolding leaks is_leaked
leaked-listed S x h =
    let known : List ℕ = reached S in
    let o = some-exists S x (and_left (exists S x) _ h) in
    let there : In (x, o.0.kind) (leaks S) = filter_map-in (lost_at S known) (x, o.0.kind) (x, o.0) (objects S) (object-in S x o.0 o.1) (ap (λ b. if b then Some (x, o.0.kind) else None) h) in
    in-among x (map (λ (e : ℕ × Kind). e.0) (leaks S)) (map-in (λ (e : ℕ × Kind). e.0) (x, o.0.kind) (leaks S) there)

pub listed-is : (S : State) (x : ℕ) → among (map (λ e. e.0) (leaks S)) x ≡ is_leaked S x
listed-is S x = same_test _ _ (listed-leaked S x) (leaked-listed S x)

pub ruleset list_laws = (listed-is)

-- ---- what is above an object

pub in-upward : (x l : ℕ) (above : ℕ → List ℕ) → In x (upward l above) → (0 < l) × ((x ≡ l) ⊎ In x (above l))
in-upward x zero above m = absurd m
in-upward x (suc l) above m = (omega arith, m)

-- what a sound object is linked to is there
pub linked-there : (S : State) → IsSound S → (y : ℕ) → 0 < link_at S y → exists S (link_at S y) ≡ true
linked-there S sound y h = by_object (object S y) refl
  where
    by_object : (r : Option ObjectRow) → object S y ≡ r → exists S (link_at S y) ≡ true
    by_object None e = let z : link_at S y ≡ 0 = ap object_link e in absurd (omega arith)
    by_object (Some o) e =
        let s : SoundObject S y o = sound.of_objects y o e in
        let same : link_at S y ≡ o.link = ap object_link e in
        let there : exists S o.link ≡ true = elim (is_endpoint o.kind) as (λ b. is_endpoint o.kind ≡ b → exists S o.link ≡ true) [
          | true ↦ λ t. elim (s.peers t) [
            | inl z ↦ absurd (omega arith)
            | inr q ↦ exists-some S o.link q.peer q.there
          ]
          | false ↦ λ t. elim (has_parent y o) as (λ b. has_parent y o ≡ b → exists S o.link ≡ true) [
            | true ↦ λ g. let c : IsChild S y o = s.parents g in exists-some S o.link c.parent c.there
            | false ↦ λ g. let z : o.link ≡ 0 = s.alone t g in absurd (omega arith)
          ] refl
        ] refl in
        ap (exists S) same ∙ there

module _ (S U : State) (sound : IsSound S) (f : Follows S U) where
  not-new : {A : Type 0} (x : ℕ) → exists S x ≡ true → next_koid S ≤ x → A
  not-new x there above = let low : x < next_koid S = low-koid S sound x there in absurd (omega arith)

  -- an object of before has its link or none
  link-follows : (y : ℕ) → y < next_koid S → (link_at U y ≡ link_at S y) ⊎ (link_at U y ≡ 0)
  link-follows y low = by_object (object U y) refl
    where
      by_was : (q : ObjectRow) → object U y ≡ Some q → Was S y q → (link_at U y ≡ link_at S y) ⊎ (link_at U y ≡ 0)
      by_was q e (is_new above fresh) = absurd (omega arith)
      by_was q e (is_old o h a) = elim a.link [
        | inl same ↦ inl (ap object_link e ∙ same ∙ sym (ap object_link h))
        | inr z ↦ inr (ap object_link e ∙ z)
      ]

      by_object : (r : Option ObjectRow) → object U y ≡ r → (link_at U y ≡ link_at S y) ⊎ (link_at U y ≡ 0)
      by_object (Some q) e = by_was q e (f.objects y q e)
      by_object None e = inr (ap object_link e)

  -- what is above an object of before was above it
  links-before : (n y x : ℕ) → y < next_koid S → In x (links n U y) → In x (links n S y)
  unfolding links
  links-before zero y x low m = absurd m
  links-before (suc n) y x low m =
      let w = in-upward x (link_at U y) (λ z. links n U z) m in
      elim (link-follows y low) [
        | inr z ↦ absurd (let pos : 0 < link_at U y = w.0 in omega arith)
        | inl same ↦
            let pos : 0 < link_at S y = (let k : 0 < link_at U y = w.0 in omega arith) in
            let under : link_at S y < next_koid S = low-koid S sound (link_at S y) (linked-there S sound y pos) in
            let here : (x ≡ link_at S y) ⊎ In x (links n S (link_at S y)) = elim w.1 [
              | inl e ↦ inl (e ∙ same)
              | inr l ↦ inr (links-before n (link_at S y) x under (subst (λ z. In x (links n U z)) same l))
            ] in
            upward-in x (link_at S y) (λ z. links n S z) pos here
      ]
    where
      upward-in : (x l : ℕ) (above : ℕ → List ℕ) → 0 < l → (x ≡ l) ⊎ In x (above l) → In x (upward l above)
      upward-in x zero above h m = absurd (omega arith)
      upward-in x (suc l) above h m = m

  chain-before : (y x : ℕ) → y < next_koid S → In x (chain U y) → In x (chain S y)
  unfolding chain
  chain-before y x low m = links-before (y + 1) y x low m

  -- ---- leaked, and then still so

  -- what is reached later was reached or is new
  later-known : (x : ℕ) → among (reached U) x ≡ true → is_known S x ≡ true
  later-known x e = reached-least U (is_known S) (known-closed S U f) x e

  pub later-reached : (x : ℕ) → x < next_koid S → among (reached U) x ≡ true → among (reached S) x ≡ true
  later-reached x low e = known-low S x (later-known x e) low

  aged-process : (o q : ObjectRow) → Aged o q → is_live_process q ≡ true → is_live_process o ≡ true
  aged-process o q a e =
      and_both (is_process o.kind) _ (ap is_process (sym a.kind) ∙ and_left (is_process q.kind) _ e) (a.life (and_right (is_process q.kind) _ e))

  -- what keeps jobs above it later did so before
  aged-keeps : (y : ℕ) (o q : ObjectRow) → object S y ≡ Some o → Aged o q → keeps_above (reached U) (y, q) ≡ true → keeps_above (reached S) (y, o) ≡ true
  aged-keeps y o q there a e = elim (or_true (is_live_process q) _ e) [
    | inl l ↦ or_left (is_live_process o) _ (aged-process o q a l)
    | inr j ↦ or_right (is_live_process o) _ (and_both (is_job o.kind) _ (ap is_job (sym a.kind) ∙ and_left (is_job q.kind) _ j)
        (later-reached y (low-koid S sound y (exists-some S y o there)) (and_right (is_job q.kind) _ j)))
  ]

  kind-task : (k : Kind) (b c : Bool) → ((is_process k && b) || (is_job k && c)) ≡ true → is_task k ≡ true
  kind-task kind.Job b c e = refl
  kind-task kind.Process b c e = refl
  kind-task kind.Channel b c e = cc
  kind-task kind.Event b c e = cc
  kind-task kind.EventPair b c e = cc
  kind-task kind.Port b c e = cc

  -- a reached live job, and what is above it, is not leaked
  job-keeps : (x l : ℕ) (job : ObjectRow) → Lost S x → object S l ≡ Some job → is_live_job job ≡ true → among (reached S) l ≡ true → (x ≡ l) ⊎ In x (chain S l) → ⊥
  job-keeps x l job lost at lives known (inl e) = true≢false (among (reached S) x) (ap (among (reached S)) e ∙ known) lost.unreached
  job-keeps x l job lost at lives known (inr m) =
      lost.not_above l job at (or_right (is_live_process job) _ (and_both (is_job job.kind) _ (and_left (is_job job.kind) _ lives) known)) m

  new-keeps : (x y : ℕ) (q : ObjectRow) → Lost S x → object U y ≡ Some q → next_koid S ≤ y → is_task q.kind ≡ true → IsFresh S q → In x (chain U y) → ⊥
  unfolding chain links
  new-keeps x y q lost e above task fresh m = elim (fresh task) [
    | inl z ↦
        let w = in-upward x (link_at U y) (λ z. links y U z) (subst (λ n. In x (links n U y)) more m) in
        let pos : 0 < link_at U y = w.0 in
        let same : link_at U y ≡ q.link = ap object_link e in
        omega arith
    | inr w ↦
        let there : exists S q.link ≡ true = exists-some S q.link w.0 w.1 in
        let low : q.link < next_koid S = low-koid S sound q.link there in
        let up : root_job ≤ q.link = (sound.of_objects q.link w.0 w.1).low in
        let split : (x ≡ q.link) ⊎ In x (links y U q.link) = subst (λ l. In x l) (chain-from U y q.link (ap object_link e) (omega arith)) m in
        job-keeps x q.link w.0 lost w.1 w.2 w.3 (elim split [
          | inl g ↦ inl g
          | inr l ↦ inr (subst (λ l. In x l) (links-chain S sound y q.link w.0 w.1 (or_left (is_live_job w.0) _ w.2) (omega arith)) (links-before y q.link x low l))
        ])
  ]
    where
      more : y + 1 ≡ suc y
      more = omega arith

  pub lost-follows : (x : ℕ) → Lost S x → exists U x ≡ true → Lost U x
  lost-follows x lost there =
      let low : x < next_koid S = low-koid S sound x lost.there in
      record {
        there = there;
        unreached = not_true (among (reached U) x) (λ t. true≢false (among (reached S) x) (later-reached x low t) lost.unreached);
        not_root = lost.not_root;
        not_running = not_true (has_live_process U x) (λ t. let w = has_live_process-some U x t in by_was w.0 w.2 (f.objects x w.0 w.1));
        not_above = λ y q e keeps m. above y q e keeps m (f.objects y q e);
      }
    where
      by_was : (q : ObjectRow) → is_live_process q ≡ true → Was S x q → ⊥
      by_was q l (is_new above fresh) = not-new x lost.there above
      by_was q l (is_old o e a) = true≢false (has_live_process S x) (some-has_live_process S x o e (aged-process o q a l)) lost.not_running

      above : (y : ℕ) (q : ObjectRow) → object U y ≡ Some q → keeps_above (reached U) (y, q) ≡ true → In x (chain U y) → Was S y q → ⊥
      above y q e keeps m (is_new high fresh) = new-keeps x y q lost e high (kind-task q.kind (is_live q.life) (among (reached U) y) keeps) fresh m
      above y q e keeps m (is_old o h a) =
          lost.not_above y o h (aged-keeps y o q h a keeps) (chain-before y x (low-koid S sound y (exists-some S y o h)) m)

-- ---- a leaked endpoint does not go

-- an endpoint out of reach
abbrev pub strayed : State → ℕ → Bool
strayed S x = on_object (λ o. is_endpoint o.kind) (object S x) && not (among (reached S) x)

endpoint_of : (r : Option ObjectRow) → on_object (λ o. is_endpoint o.kind) r ≡ true → (o : ObjectRow) × (r ≡ Some o) × (is_endpoint o.kind ≡ true)
endpoint_of (Some o) e = (o, refl, e)
endpoint_of None e = cc

false_of : (b : Bool) → not b ≡ true → b ≡ false
false_of true e = cc
false_of false e = refl

true_of : (b : Bool) → not b ≡ false → b ≡ true
true_of true e = refl
true_of false e = cc

job-no-endpoint : (k : Kind) → is_endpoint k ≡ true → is_job k ≡ true → ⊥
job-no-endpoint kind.Job e f = cc
job-no-endpoint kind.Process e f = cc
job-no-endpoint kind.Channel e f = cc
job-no-endpoint kind.Event e f = cc
job-no-endpoint kind.EventPair e f = cc
job-no-endpoint kind.Port e f = cc

process-no-endpoint : (k : Kind) → is_endpoint k ≡ true → is_process k ≡ true → ⊥
process-no-endpoint kind.Job e f = cc
process-no-endpoint kind.Process e f = cc
process-no-endpoint kind.Channel e f = cc
process-no-endpoint kind.Event e f = cc
process-no-endpoint kind.EventPair e f = cc
process-no-endpoint kind.Port e f = cc

-- a message of a strayed endpoint names the object
pub record Named (S : State) (x : ℕ) : Type 0 where
  pub endpoint : ℕ
  pub number : ℕ
  pub content : MessageContent
  pub held : Held
  pub there : message S endpoint number ≡ Some content
  pub among_handles : In held content.handles
  pub names : held.koid ≡ x
  pub out : strayed S endpoint ≡ true

module _ (S : State) (consistent : IsConsistent S) where
  pub out-of-reach : (x : ℕ) → strayed S x ≡ true → among (reached S) x ≡ false
  out-of-reach x e = false_of (among (reached S) x) (and_right (on_object (λ (o : ObjectRow). is_endpoint o.kind) (object S x)) _ e)

  -- a strayed endpoint is named by a message of a strayed endpoint
  pub strayed-named : (x : ℕ) → strayed S x ≡ true → Named S x
  strayed-named x e = by_support (supported-kept S x (consistent.supported x (exists-some S x at.0 at.1)))
    where
      at : (o : ObjectRow) × (object S x ≡ Some o) × (is_endpoint o.kind ≡ true)
      at = endpoint_of (object S x) (and_left (on_object (λ (o : ObjectRow). is_endpoint o.kind) (object S x)) _ e)

      ends : (o : ObjectRow) → object S x ≡ Some o → is_endpoint o.kind ≡ true
      ends o h = ap (λ (z : ObjectRow). is_endpoint z.kind) (some_one o at.0 (sym h ∙ at.1)) ∙ at.2

      no_root : (x == root_job) ≡ true → ⊥
      no_root t =
          let w = kind_at-some S root_job kind.Job consistent.sound.root in
          job-no-endpoint w.0.kind (ends w.0 (ap (object S) (eqb-true x root_job t) ∙ w.1)) (ap is_job w.2)

      by_support : KeptBy S x → Named S x
      by_support (by_entry p h held there g) = absurd (true≢false (among (reached S) x) (ap (among (reached S)) (sym g) ∙ entry-reached S p h held there) (out-of-reach x e))
      by_support (by_message f n m held there l g) =
          let w = kind_at-some S f kind.Channel (consistent.sound.of_messages f n m there).owner in
          let closed : among (reached S) f ≡ false = not_true (among (reached S) f) (λ t. true≢false (among (reached S) x) (ap (among (reached S)) (sym g) ∙ message-reached S f n m there t held l) (out-of-reach x e)) in
          record {
            endpoint = f;
            number = n;
            content = m;
            held = held;
            there = there;
            among_handles = l;
            names = g;
            out = and_both (on_object (λ (o : ObjectRow). is_endpoint o.kind) (object S f)) _ (ap (on_object (λ (o : ObjectRow). is_endpoint o.kind)) w.1 ∙ ap is_endpoint w.2) (ap not closed);
          }
      by_support (by_child o y c there live child task g) = absurd (job-no-endpoint o.kind (ends o there) (and_left (is_job o.kind) _ live))
      by_support (by_itself o there t) = elim (or_true (is_live_process o) _ t) [
        | inl l ↦ absurd (process-no-endpoint o.kind (ends o there) (and_left (is_process o.kind) _ l))
        | inr r ↦ absurd (no_root r)
      ]

  -- all other objects
  abbrev rest : ℕ → Bool
  rest y = not (strayed S y)

  -- all that is not strayed may go at once, and nothing goes after it
  strayed-last : (T : State) → Direct S T → IsLast T rest
  strayed-last T d x = supported-stays (without T rest) x (λ there.
      let w = some-exists (without T rest) x there in
      let p = stayed rest T x w.0 w.1 in
      let n : Named S x = strayed-named x (true_of (strayed S x) p.3) in
      let still : message T n.endpoint n.number ≡ Some n.content = d.unread n.endpoint n.number n.content n.there (out-of-reach n.endpoint n.out) in
      let left : message (without T rest) n.endpoint n.number ≡ Some n.content =
      message-without rest T n.endpoint n.number ∙ ap (λ b. cond (not b) None (message T n.endpoint n.number)) n.out ∙ still in
      kept-supported (without T rest) x (by_message n.endpoint n.number n.content n.held left n.among_handles n.names))

  strayed-stays : (p : ℕ) → has_live_process S p ≡ true → (c : Call) → IsCall c → (x : ℕ) → strayed S x ≡ true → exists (step S p c).0 x ≡ true
  unfolding step
  strayed-stays p live c is x e =
      let T : State = (direct S p c).0 in
      let d : Direct S T = direct-call S consistent.sound p live c in
      let w = collect-set T in
      let stays_in : w.0 x ≡ false = not_true (w.0 x) (λ t. true≢false (strayed S x) e (false_of (strayed S x) (w.2 rest (strayed-last T d) x t))) in
      let o = endpoint_of (object S x) (and_left (on_object (λ (o : ObjectRow). is_endpoint o.kind) (object S x)) _ e) in
      let q = some-exists T x (d.there x (exists-some S x o.0 o.1)) in
      let left : exists (without T w.0) x ≡ true = exists-some (without T w.0) x (unlinked w.0 q.0) (stays w.0 T x q.0 q.1 stays_in) in
      let f : Framed (collect T) (settle S (collect T)) = framed-settle S (collect T) (sound-collect T (sound-direct S p c consistent.sound live is)) in
      exists-shaped (collect T) (settle S (collect T)) f.of_shapes x ∙ ap (λ Z. exists Z x) w.1 ∙ left

  -- no message at a strayed endpoint goes
  pub strayed-reads : (p : ℕ) → has_live_process S p ≡ true → (c : Call) → IsCall c → (e : ℕ) (o : ObjectRow) → object S e ≡ Some o → o.kind ≡ kind.Channel → among (reached S) e ≡ false
      → (n : ℕ) (m : MessageContent) → message S e n ≡ Some m → message (step S p c).0 e n ≡ Some m
  unfolding step
  strayed-reads p live c is e o at made out n m there =
      let T : State = (direct S p c).0 in
      let d : Direct S T = direct-call S consistent.sound p live c in
      let w = collect-set T in
      let away : strayed S e ≡ true =
      and_both (on_object (λ (o : ObjectRow). is_endpoint o.kind) (object S e)) _ (ap (on_object (λ (o : ObjectRow). is_endpoint o.kind)) at ∙ ap is_endpoint made) (ap not out) in
      let stays_in : w.0 e ≡ false = not_true (w.0 e) (λ t. true≢false (strayed S e) away (false_of (strayed S e) (w.2 rest (strayed-last T d) e t))) in
      let still : message T e n ≡ Some m = d.unread e n m there out in
      let left : message (without T w.0) e n ≡ Some m = message-without w.0 T e n ∙ ap (λ b. cond b None (message T e n)) stays_in ∙ still in
      let f : Framed (collect T) (settle S (collect T)) = framed-settle S (collect T) (sound-collect T (sound-direct S p c consistent.sound live is)) in
      f.of_messages e n ∙ ap (λ Z. message Z e n) w.1 ∙ left

  -- ---- the laws

  pub leaked-stays : (p : ℕ) → has_live_process S p ≡ true → (c : Call) → IsCall c → (x : ℕ) → is_leaked S x ≡ true → exists (step S p c).0 x ≡ true → is_leaked (step S p c).0 x ≡ true
  leaked-stays p live c is x e there =
      lost-leaked (step S p c).0 x (lost-follows S (step S p c).0 consistent.sound (follows-step S consistent.sound p live c is) x (leaked-lost S x e) there)

  pub leaked-endpoint : (p : ℕ) → has_live_process S p ≡ true → (c : Call) → IsCall c → (x : ℕ) → is_leaked S x ≡ true → on_object (λ o. is_endpoint o.kind) (object S x) ≡ true → is_leaked (step S p c).0 x ≡ true
  leaked-endpoint p live c is x e ends =
      leaked-stays p live c is x e (strayed-stays p live c is x (and_both (on_object (λ (o : ObjectRow). is_endpoint o.kind) (object S x)) _ ends (ap not (leaked-lost S x e).unreached)))
