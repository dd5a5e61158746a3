-- A live job that nothing keeps but messages out of reach, and live jobs of which the same holds, was leaked by the last call by
-- which one of these lost a name or a live child.
use Rattle.std.proofs.Common.{◌≡◌, ◌≤◌, ◌<◌, ℕ, zero, suc, Bool, true, false, cond, not, ◌&&◌, ◌||◌, List, [], ◌∷◌, length, ◌⊎◌, inl, inr, refl, sym, ap, ◌∙◌, subst, arith}
use Rattle.std.specs.Prelude.{Option, None, Some, ◌==◌, filter, count_by}
use Rattle.std.specs.List.{last_or, list_any}
use Rattle.std.proofs.lemmas.Bool.{cases_lt, eq-eqb}
use Rattle.zt_bits.specs.declared.kinds.Kind.{Kind}
use Rattle.zt_bits.specs.declared.kinds.Kind.TheVariants as kind
use Rattle.zt_rows.specs.declared.calls.Happening.TheVariants as happening
use Rattle.zt_rows.specs.declared.keys.RowKey.{RowKey}
use Rattle.zt_rows.specs.declared.keys.RowKey.TheVariants as key
use Rattle.zt_rows.specs.declared.rows.Held.{Held}
use Rattle.zt_rows.specs.declared.rows.ObjectRow.{ObjectRow}
use Rattle.zt_rows.specs.declared.rows.Row.{Row}
use Rattle.zt_rows.specs.declared.rows.Row.TheVariants as rows
use Rattle.zt_rows.specs.Consistent.{IsSound, IsConsistent}
use Rattle.zt_rows.specs.Contents.{MessageContent}
use Rattle.zt_rows.specs.End.{chain}
use Rattle.zt_rows.specs.Handles.{next_koid}
use Rattle.zt_rows.specs.Reads.{object, message, is_job, is_process, is_live, is_live_job, is_live_process, on_object, has_live_process}
use Rattle.zt_rows.specs.Room.{suits}
use Rattle.zt_rows.specs.Settle.{is_child_process_of}
use Rattle.zt_rows.specs.State.{State, row}
use Rattle.zt_rows.specs.Support.{root_job}
use Rattle.zt_rows.specs.Tests.{among, count_row, exists, is_task, link_at, object_link}
use Rattle.zt_rows.proofs.AboveLaws.{above}
use Rattle.zt_rows.proofs.ReadLaws.{some_one, exists-some, kind_at-some, object-row}
use Rattle.zt_rows.proofs.RowLaws.{In, row-in, in-row, list_any-in, in-list_any, count-cons, or_true, or_right, and_left, and_right, and_both, true≢false, not_true}
use Rattle.zt_rows.proofs.SoundLaws.{has_live_process-some, some-has_live_process}
use Rattle.zt_rows.proofs.SupportLaws.{KeptBy, by_entry, by_message, by_child, by_itself, supported-kept}
use Rattle.zt_history.specs.Released.{releases_at, last_released}
use Rattle.zt_history.specs.LostChild.{is_child_row, loses_child, loses_child_at, last_lost_child}
use Rattle.zt_history.specs.TreeInvariant.{AreMoments}
use Rattle.zt_history.specs.Tree.{Made, parent_at, path, state_at}
use Rattle.zt_history.proofs.RunLaws.{moment-consistent}
use Rattle.zt_queries.specs.Happenings.{leaked, lives, IsCallStep}
use Rattle.zt_queries.specs.HappeningTimes.{at_moment, happens, last_on}
use Rattle.zt_queries.specs.Leaks.{is_leaked}
use Rattle.zt_queries.specs.Reachability.{reached}
use Rattle.zt_queries.specs.ProofsOnly.NameSearch.{HoldsEndpoints, HoldsChildren, IsNameSearch, IsLastOfBoth, IsLastOfNames, later, last_of_names, last_of_children}
use Rattle.zt_queries.proofs.ChildLaws.{child-came, child-leaked, child-stays, under-held}
use Rattle.zt_queries.proofs.FirstLeakLaws.{one-last}
use Rattle.zt_queries.proofs.FollowLaws.{AllReached, low-koid}
use Rattle.zt_queries.proofs.JobLaws.{job-no-process}
use Rattle.zt_queries.proofs.LeakLaws.{Lost, leaked-lost, lost-leaked, linked-there, step-added}
use Rattle.zt_queries.proofs.ReleasedLaws as released
use Rattle.zt_queries.proofs.NameLaws.{NamedBy, in_entry, in_message, named-by, child-object, object-child, keeps-task}
use Rattle.zt_queries.proofs.NeverLaws.{passing-lives, passes}
use Rattle.zt_queries.proofs.OnceLaws.{given-stays, has_leaked, leaked-begins, leaked-exists, leaked-goes-on, lived, lives-exists, next-consistent, next-follows, of_object, off, reached-there, was-old}
use Rattle.zt_queries.proofs.ReachLaws.{all-in, among-in, in-among, entry-reached, reached-least}
use Rattle.zt_queries.proofs.StayLaws.{begun, kept-on}
use Rattle.zt_queries.proofs.TreeTimes.{among-filter, filter-among, once}

-- ---- a child that is lost

child-key : (y : ℕ) (k : RowKey) (r : Row) → suits k r ≡ true → is_child_row y (Some r) ≡ true → (z : ℕ) × (k ≡ key.Object z)
child-key y (key.Object z) (rows.Object o) s e = (z, refl)
child-key y key.Counters (rows.Object o) s e = cc
child-key y (key.Entry _ _) (rows.Object o) s e = cc
child-key y (key.Msg _ _) (rows.Object o) s e = cc
child-key y (key.Packet _ _) (rows.Object o) s e = cc
child-key y (key.Wait _) (rows.Object o) s e = cc
child-key y _ _ s e = cc

abbrev goes_under : ℕ → State → RowKey × Row → Bool
goes_under y T e = is_child_row y (Some e.1) && not (is_child_row y (row T e.0))

-- where every live child stays one, none is lost
pub loses-none : (y : ℕ) (S T : State) → IsSound S → ((z : ℕ) → is_child_row y (row S (key.Object z)) ≡ true → is_child_row y (row T (key.Object z)) ≡ true) → loses_child y S T ≡ false
loses-none y S T sound stays =
    not_true (loses_child y S T) (λ t.
    let w = in-list_any (goes_under y T) S.rows (and_right (exists T y) _ t) in
    let there : row S w.0.0 ≡ Some w.0.1 = in-row S w.0.0 w.0.1 w.1 in
    let child : is_child_row y (Some w.0.1) ≡ true = and_left (is_child_row y (Some w.0.1)) _ w.2 in
    let k = child-key y w.0.0 w.0.1 (sound.typed w.0.0 w.0.1 there) child in
    let still : is_child_row y (row T w.0.0) ≡ true = ap (λ q. is_child_row y (row T q)) k.1 ∙ stays k.0 (ap (λ q. is_child_row y (row S q)) (sym k.1) ∙ ap (is_child_row y) there ∙ child) in
    true≢false (not (is_child_row y (row T w.0.0))) (and_right (is_child_row y (Some w.0.1)) _ w.2) (ap not still))

-- and the other way about
pub none-loses : (y : ℕ) (S T : State) → loses_child y S T ≡ false → exists T y ≡ true → (z : ℕ) → is_child_row y (row S (key.Object z)) ≡ true → is_child_row y (row T (key.Object z)) ≡ true
none-loses y S T none there z child = by (row S (key.Object z)) refl child
  where
    still : (b : Bool) → is_child_row y (row T (key.Object z)) ≡ b → (r : Option Row) → row S (key.Object z) ≡ r → is_child_row y r ≡ true → is_child_row y (row T (key.Object z)) ≡ true
    still true t r at e = t
    still false t (Some r) at e =
        absurd (true≢false (loses_child y S T)
        (and_both (exists T y) _ there (list_any-in (goes_under y T) (key.Object z, r) S.rows (row-in S (key.Object z) r at) (and_both (is_child_row y (Some r)) _ e (ap not t))))
        none)
    still false t None at e = cc

    by : (r : Option Row) → row S (key.Object z) ≡ r → is_child_row y r ≡ true → is_child_row y (row T (key.Object z)) ≡ true
    by r at e = still (is_child_row y (row T (key.Object z))) refl r at e

-- ---- no process below

no-row : (test : RowKey → Row → Bool) (es : List (RowKey × Row)) (e : RowKey × Row) → In e es → test e.0 e.1 ≡ true → count_by (λ (q : RowKey × Row). test q.0 q.1) es ≡ 0 → ⊥
no-row test [] e m t none = absurd m
no-row test (q ∷ es) e (inl same) t none =
    let one : cond {A = ℕ} (test q.0 q.1) 1 0 ≡ 1 = ap (λ b. cond {A = ℕ} b 1 0) (ap (λ (p : RowKey × Row). test p.0 p.1) (sym same) ∙ t) in
    omega (arith, count-cons (λ (p : RowKey × Row). test p.0 p.1) q es, one, none)
no-row test (q ∷ es) e (inr m) t none = no-row test es e m t (omega (arith, count-cons (λ (p : RowKey × Row). test p.0 p.1) q es, none))

no-process : (S : State) (y w : ℕ) (o : ObjectRow) → count_row (is_child_process_of y) S ≡ 0 → object S w ≡ Some o → is_live_process o ≡ true → o.link ≡ y → ⊥
unfolding count_row
no-process S y w o none there live link =
    no-row (is_child_process_of y) S.rows (key.Object w, rows.Object o) (row-in S (key.Object w) (rows.Object o) (object-row S w o there)) (and_both (is_live_process o) _ live (eq-eqb o.link y link)) none

-- ---- what keeps a job

-- where no member of a set is reached, and the set has all live children of its members, none of them a process, a job in it is leaked
pub held-leaked : (S : State) → IsSound S → (set : ℕ → Bool) → ((z y : ℕ) (q : ObjectRow) → object S z ≡ Some q → (is_live_job q || is_live_process q) ≡ true → q.link ≡ y → set y ≡ true → set z ≡ true)
    → ((w : ℕ) (o : ObjectRow) → object S w ≡ Some o → is_live_process o ≡ true → set o.link ≡ true → ⊥)
    → ((y : ℕ) → set y ≡ true → among (reached S) y ≡ false)
    → (x : ℕ) → set x ≡ true → (o : ObjectRow) → object S x ≡ Some o → is_job o.kind ≡ true → (x == root_job) ≡ false → is_leaked S x ≡ true
held-leaked S sound set below calm out x member o at job no_root =
    lost-leaked S x (record {
      there = exists-some S x o at;
      unreached = out x member;
      not_root = no_root;
      not_running = not_true (has_live_process S x) (λ t.
          let w = has_live_process-some S x t in
          let same : w.0 ≡ o = some_one w.0 o (sym w.1 ∙ at) in
          job-no-process o.kind job (ap (λ (q : ObjectRow). is_process q.kind) (sym same) ∙ and_left (is_process w.0.kind) _ w.2));
      not_above = λ w q there keeps l. elim (or_true (is_live_process q) _ keeps) [
        | inl p ↦ calm w q there p (parent w q there p l)
        | inr j ↦ true≢false (among (reached S) w) (and_right (is_job q.kind) _ j)
            (out w (under-held S sound set below x member w q there (keeps-task q.kind (is_live q.life) (among (reached S) w) keeps) l))
      ];
    })
  where
    job-task : (k : Kind) (b : Bool) → (is_job k && b) ≡ true → is_task k ≡ true
    job-task kind.Job b e = refl
    job-task kind.Process b e = refl
    job-task kind.Channel b e = cc
    job-task kind.Event b e = cc
    job-task kind.EventPair b e = cc
    job-task kind.Port b e = cc

    parent : (w : ℕ) (q : ObjectRow) → object S w ≡ Some q → is_live_process q ≡ true → In x (chain S w) → set q.link ≡ true
    parent w q there p l =
        let a = above S sound w q there (or_right (is_live_job q) _ p) x (in-among x (chain S w) l) in
        elim a.near [
          | inl is ↦ subst (λ z. set z ≡ true) (sym is) member
          | inr far ↦ under-held S sound set below x member q.link a.child.parent a.child.there (job-task a.child.parent.kind (is_live a.child.parent.life) a.child.live) (among-in x (chain S q.link) far)
        ]

-- ---- what was there before a call

-- what is leaked behind a call and was out of reach before it was there then
pub leaked-was : (S T : State) → IsConsistent S → IsCallStep S T → (y : ℕ) → 0 < y → is_leaked T y ≡ true → among (reached S) y ≡ false → exists S y ≡ true
leaked-was S T c n y some leaks out = by (supported-kept T y ((next-consistent S T c n).supported y lost.there))
  where
    lost : Lost T y
    lost = leaked-lost T y leaks

    sent : (m : MessageContent) (held : Held) (e l : ℕ) → In held m.handles → held.koid ≡ y → (message S e l ≡ Some m) ⊎ AllReached S m.handles → exists S y ≡ true
    sent m held e l h same (inl was) = ap (exists S) (sym same) ∙ all-in (λ (g : Held). exists S g.koid ≡ true) m.handles (c.sound.of_messages e l m was).names held h
    sent m held e l h same (inr all) = ap (exists S) (sym same) ∙ reached-there S c.sound held.koid (all-in (λ (g : Held). among (reached S) g.koid ≡ true) m.handles all held h)

    by : KeptBy T y → exists S y ≡ true
    by (by_entry p h held there same) = absurd (true≢false (among (reached T) y) (ap (among (reached T)) (sym same) ∙ entry-reached T p h held there) lost.unreached)
    by (by_message e l m held there h same) = sent m held e l h same (step-added S c.sound n.process n.live n.call n.is e l m (ap (λ U. message U e l) (sym n.gives) ∙ there))
    by (by_child o z q there live child task same) =
        let w = child-came S T c n y z q some out child task same in
        let up : link_at S z ≡ y = ap object_link w.1 ∙ w.3 in
        subst (λ v. exists S v ≡ true) up (linked-there S c.sound z (omega (arith, up, some)))
    by (by_itself o there t) = elim (or_true (is_live_process o) _ t) [
      | inl l ↦ absurd (true≢false (has_live_process T y) (some-has_live_process T y o there l) lost.not_running)
      | inr r ↦ absurd (true≢false (y == root_job) r lost.not_root)
    ]

-- ---- along a path

-- what was given out and lives lived in the first state
abbrev pub was_live : State → ℕ → State → Type 0
was_live U y S = (y < next_koid S) × (lives S y ≡ true → lives U y ≡ true)

pub was_live-goes-on : (U : State) (y : ℕ) (S T : State) → IsConsistent S → IsCallStep S T → was_live U y S → was_live U y T
was_live-goes-on U y S T c n s = let f = next-follows S T c n in (given-stays S T y f s.0, λ l. s.1 (lived S T y f s.0 l))

-- what is a job was one in the first state
abbrev pub a_job : ObjectRow → Bool
a_job o = is_job o.kind

abbrev pub was_job : State → ℕ → State → Type 0
was_job U y S = (y < next_koid S) × (on_object a_job (object S y) ≡ true → on_object a_job (object U y) ≡ true)

job-before : (S T : State) → IsConsistent S → IsCallStep S T → (y : ℕ) → y < next_koid S → on_object a_job (object T y) ≡ true → on_object a_job (object S y) ≡ true
job-before S T c n y low j =
    let w = of_object a_job (object T y) j in
    let o = was-old S T y (next-follows S T c n) low w.0 w.1 in
    ap (on_object a_job) o.1 ∙ ap is_job (sym o.2.kind) ∙ w.2

pub was_job-goes-on : (U : State) (y : ℕ) (S T : State) → IsConsistent S → IsCallStep S T → was_job U y S → was_job U y T
was_job-goes-on U y S T c n s = (given-stays S T y (next-follows S T c n) s.0, λ j. s.1 (job-before S T c n y s.0 j))

-- a live child of what is leaked stays one as long as that lives
abbrev stays_child : ℕ → ℕ → State → Type 0
stays_child y z S = has_leaked y S × (lives S y ≡ true → is_child_row y (row S (key.Object z)) ≡ true)

stays_child-goes-on : (y z : ℕ) (S T : State) → IsConsistent S → IsCallStep S T → stays_child y z S → stays_child y z T
stays_child-goes-on y z S T c n s = (
  leaked-goes-on S T y c n s.0,
  λ l.
      let f = next-follows S T c n in
      let live : lives S y ≡ true = lived S T y f s.0.0 l in
      let w = child-object S y z (s.1 live) in
      let r = child-stays S T c n y z w.0 (s.0.1 (lives-exists S y live)) l w.1 w.2 w.3 in
      object-child T y z r.0 r.1 r.2 r.3,
)

module _ (made : List Made) (are : AreMoments made) (at x : ℕ) (within : at ≤ length made) (ends : List ℕ) (s : IsNameSearch (state_at made at) x ends) (there_now : exists (state_at made at) x ≡ true)
    (live_job : on_object is_live_job (object (state_at made at) x) ≡ true) (no_root : (x == root_job) ≡ false) where
  abbrev S : State
  S = state_at made at

  consistent : IsConsistent S
  consistent = moment-consistent made are at within

  x_now : (o : ObjectRow) × (object S x ≡ Some o) × (is_live_job o ≡ true)
  x_now = of_object (λ (o : ObjectRow). is_live_job o) (object S x) live_job

  job_now : on_object a_job (object S x) ≡ true
  job_now = ap (on_object a_job) x_now.1 ∙ and_left (is_job x_now.0.kind) _ x_now.2

  channel-passes : (o : ObjectRow) → o.kind ≡ kind.Channel → passes o ≡ true
  channel-passes o e = ap (λ (k : Kind). is_passing k) e
    where
      is_passing : Kind → Bool
      is_passing k = passes (record o { kind = k })

  -- each of these lives
  all-live : (y : ℕ) → among ends y ≡ true → lives S y ≡ true
  all-live y h = s.above (lives S) ends-live children-live (ap (on_object (λ (o : ObjectRow). is_live o.life)) x_now.1 ∙ and_right (is_job x_now.0.kind) _ x_now.2) y h
    where
      ends-live : HoldsEndpoints S (lives S)
      ends-live e n z named first = by (named-by S consistent.sound z (key.Msg e n) named)
        where
          by : NamedBy S (key.Msg e n) z → lives S e ≡ true
          by (in_entry p l held is there same) = cc
          by (in_message f l m held is there h same) =
              let w = kind_at-some S f kind.Channel (consistent.sound.of_messages f l m there).owner in
              subst (λ v. lives S v ≡ true) (ap owner (sym is)) (passing-lives S f consistent (ap (on_object passes) w.1 ∙ channel-passes w.0 w.2))
            where
              owner : RowKey → ℕ
              owner (key.Msg g k) = g
              owner _ = 0

      children-live : HoldsChildren S (lives S)
      children-live z y child first =
          let w = child-object S y z child in
          ap (on_object (λ (o : ObjectRow). is_live o.life)) w.1
          ∙ elim (or_true (is_live_job w.0) _ w.2) [ inl j ↦ and_right (is_job w.0.kind) _ j | inr p ↦ and_right (is_process w.0.kind) _ p ]

  -- ---- the call by which it was leaked

  module _ (i : ℕ) (on : among (path made at) (suc i) ≡ true) (leaks : at_moment (leaked x) made (suc i) ≡ true) where
    abbrev P : State
    P = state_at made (parent_at made (suc i))

    abbrev T : State
    T = state_at made (suc i)

    leaked-at : (m : ℕ) → among (path made at) m ≡ true → among (path made m) (suc i) ≡ true → (y : ℕ) → among ends y ≡ true → is_leaked (state_at made m) y ≡ true
    leaked-at = released.all-leaked made are at x within ends s there_now i on leaks

    consistent-at : (m : ℕ) → among (path made at) m ≡ true → IsConsistent (state_at made m)
    consistent-at = released.consistent made are at x within ends s there_now

    lived-at : (m : ℕ) → among (path made at) m ≡ true → among (path made m) (suc i) ≡ true → (y : ℕ) → among ends y ≡ true → lives (state_at made m) y ≡ true
    lived-at m on_m later y h =
        let U : State = state_at made m in
        (kept-on made are (was_live U y) (was_live-goes-on U y) m (low-koid U (consistent-at m on_m).sound y (leaked-exists U y (leaked-at m on_m later y h)), λ l. l) at within on_m).1 (all-live y h)

    -- a live child of one of these is its child at the end
    child-now : (m : ℕ) → among (path made at) m ≡ true → among (path made m) (suc i) ≡ true → (y : ℕ) → among ends y ≡ true → (z : ℕ) → is_child_row y (row (state_at made m) (key.Object z)) ≡ true
        → is_child_row y (row S (key.Object z)) ≡ true
    child-now m on_m later y h z child =
        let U : State = state_at made m in
        (kept-on made are (stays_child y z) (stays_child-goes-on y z) m (leaked-begins U y (consistent-at m on_m) (leaked-at m on_m later y h), λ l. child) at within on_m).1 (all-live y h)

    -- ---- a later moment

    module _ (j : ℕ) (low : suc i < suc j) (on_r : among (path made at) (suc j) ≡ true) where
      abbrev up : ℕ
      up = parent_at made (suc j)

      on_up : among (path made at) up ≡ true
      on_up = released.on_up made are at x within ends s there_now i on leaks j low on_r

      later_up : among (path made up) (suc i) ≡ true
      later_up = released.later_up made are at x within ends s there_now i on leaks j low on_r

      later_on : among (path made (suc j)) (suc i) ≡ true
      later_on = released.later_on made are at x within ends s there_now i on leaks j low on_r

      steps_up : IsCallStep (state_at made up) (state_at made (suc j))
      steps_up = released.steps_up made are at x within ends s there_now i on leaks j low on_r

      -- none of them loses a child then
      none-lost : (y : ℕ) → among ends y ≡ true → loses_child_at y made (suc j) ≡ false
      none-lost y h =
          loses-none y (state_at made up) (state_at made (suc j)) (consistent-at up on_up).sound (λ z child.
          let w = child-object (state_at made up) y z child in
          let r = child-stays (state_at made up) (state_at made (suc j)) (consistent-at up on_up) steps_up y z w.0 (leaked-at up on_up later_up y h) (lived-at (suc j) on_r later_on y h) w.1 w.2 w.3 in
          object-child (state_at made (suc j)) y z r.0 r.1 r.2 r.3)

    none-later : (r : ℕ) → among (path made at) r ≡ true → suc i < r → (y : ℕ) → among ends y ≡ true → loses_child_at y made r ≡ false
    none-later zero on_r low y h = absurd (omega (arith, low))
    none-later (suc j) on_r low y h = none-lost j low on_r y h

    -- ---- one of them lost something then

    itself : among (path made (suc i)) (suc i) ≡ true
    itself = released.itself made are at x within ends s there_now i on leaks

    before : IsConsistent P
    before = released.before made are at x within ends s there_now i on leaks

    after : IsConsistent T
    after = consistent-at (suc i) on

    steps : IsCallStep P T
    steps = released.steps made are at x within ends s there_now i on leaks

    leaked-then : (y : ℕ) → among ends y ≡ true → is_leaked T y ≡ true
    leaked-then = leaked-at (suc i) on itself

    module _ (no_name : (y : ℕ) → among ends y ≡ true → releases_at y made (suc i) ≡ false) (no_child : (y : ℕ) → among ends y ≡ true → loses_child_at y made (suc i) ≡ false) where
      child-then : (y : ℕ) → among ends y ≡ true → (z : ℕ) (q : ObjectRow) → object P z ≡ Some q → (is_live_job q || is_live_process q) ≡ true → q.link ≡ y → is_child_row y (row T (key.Object z)) ≡ true
      child-then y h z q there live link = none-loses y P T (no_child y h) (leaked-exists T y (leaked-then y h)) z (object-child P y z q there live link)

      below : (z y : ℕ) (q : ObjectRow) → object P z ≡ Some q → (is_live_job q || is_live_process q) ≡ true → q.link ≡ y → among ends y ≡ true → among ends z ≡ true
      below z y q there live link h = (s.held y h).children z (child-now (suc i) on itself y h z (child-then y h z q there live link))

      calm : (w : ℕ) (o : ObjectRow) → object P w ≡ Some o → is_live_process o ≡ true → among ends o.link ≡ true → ⊥
      calm w o there p h =
          let q = child-object T o.link w (child-then o.link h w o there (or_right (is_live_job o) _ p) refl) in
          let job = (child-leaked T after o.link w q.0 (leaked-then o.link h) q.1 q.2 q.3).1 in
          let was = was-old P T w (next-follows P T before steps) (low-koid P before.sound w (exists-some P w o there)) q.0 q.1 in
          let same : was.0 ≡ o = some_one was.0 o (sym was.1 ∙ there) in
          job-no-process o.kind (ap (λ (u : ObjectRow). is_job u.kind) (sym same) ∙ ap is_job (sym was.2.kind) ∙ and_left (is_job q.0.kind) _ job) (and_left (is_process o.kind) _ p)

      out : (y : ℕ) → among ends y ≡ true → among (reached P) y ≡ false
      out y h = not_true (among (reached P) y) (λ t. true≢false (among ends y) h
          (off (among ends y) (reached-least P (λ z. not (among ends z)) (released.closed made are at x within ends s there_now i on leaks no_name) y t)))

      leaked-before : is_leaked P x ≡ true
      leaked-before =
          let some : 0 < x = released.some-koid S consistent x there_now in
          let there : exists P x ≡ true = leaked-was P T before steps x some (leaked-then x s.itself) (out x s.itself) in
          let job : on_object a_job (object T x) ≡ true = (kept-on made are (was_job T x) (was_job-goes-on T x) (suc i) (low-koid T after.sound x (leaked-exists T x (leaked-then x s.itself)), λ j. j) at within on).1 job_now in
          let w = of_object a_job (object P x) (job-before P T before steps x (low-koid P before.sound x there) job) in
          held-leaked P before.sound (λ y. among ends y) below calm out x s.itself w.0 w.1 w.2 no_root

    abbrev OneThen : Type 0
    OneThen = ((y : ℕ) × In y ends × (releases_at y made (suc i) ≡ true)) ⊎ ((y : ℕ) × In y ends × (loses_child_at y made (suc i) ≡ true))

    one-then : OneThen
    one-then = by (list_any (λ y. releases_at y made (suc i)) ends) refl (list_any (λ y. loses_child_at y made (suc i)) ends) refl
      where
        none : (P : ℕ → Bool) → list_any P ends ≡ false → (y : ℕ) → among ends y ≡ true → P y ≡ false
        none P f y h = not_true (P y) (λ t. true≢false (list_any P ends) (list_any-in P y ends (among-in y ends h) t) f)

        by : (a : Bool) → list_any (λ y. releases_at y made (suc i)) ends ≡ a → (b : Bool) → list_any (λ y. loses_child_at y made (suc i)) ends ≡ b → OneThen
        by true t b g = inl (in-list_any (λ y. releases_at y made (suc i)) ends t)
        by false f true t = inr (in-list_any (λ y. loses_child_at y made (suc i)) ends t)
        by false f false g =
            absurd (true≢false (is_leaked P x)
            (leaked-before (none (λ y. releases_at y made (suc i)) f) (none (λ y. loses_child_at y made (suc i)) g))
            (released.unleaked-before made are at x within ends s there_now i on leaks))

    -- ---- what was found

    no-later : (y : ℕ) → among ends y ≡ true → (r : ℕ) → among (path made at) r ≡ true → loses_child_at y made r ≡ true → r ≤ suc i
    no-later y h r on_r loses = elim (cases_lt (suc i) r) [
      | inl l ↦ absurd (true≢false (loses_child_at y made r) loses (none-later r on_r l y h))
      | inr g ↦ omega (arith, g)
    ]

    children-low : (y : ℕ) → In y ends → (r : ℕ) → last_lost_child y made at ≡ Some r → r ≤ suc i
    unfolding last_lost_child
    children-low y h r e =
        let w = filter-among (loses_child_at y made) (path made at) r (released.last-among (filter (loses_child_at y made) (path made at)) r e) in
        no-later y (in-among y ends h) r w.0 w.1

    names-low : (y : ℕ) → In y ends → (r : ℕ) → last_released y made at ≡ Some r → r ≤ suc i
    names-low = released.names-low made are at x within ends s there_now i on leaks

    found-then : later (last_of_children made at ends) (last_of_names made at ends) ≡ Some (suc i)
    unfolding last_released last_lost_child
    found-then = elim one-then [
      | inl goes ↦ released.later-second (suc i) (last_of_children made at ends) (last_of_names made at ends)
          (released.latest (λ y. last_released y made at) (suc i) ends names-low None (λ r e. released.none_is r e)
          (inr (goes.0, goes.1, released.last-found made are.falls (releases_at goes.0 made) (suc i) goes.2 at on (released.no-later made are at x within ends s there_now i on leaks goes.0 (in-among goes.0 ends goes.1)))))
          (released.all-low (λ y. last_lost_child y made at) (suc i) ends children-low None (λ r e. released.none_is r e))
      | inr loses ↦ released.later-first (suc i) (last_of_children made at ends) (last_of_names made at ends)
          (released.latest (λ y. last_lost_child y made at) (suc i) ends children-low None (λ r e. released.none_is r e)
          (inr (loses.0, loses.1, released.last-found made are.falls (loses_child_at loses.0 made) (suc i) loses.2 at on (no-later loses.0 (in-among loses.0 ends loses.1)))))
          (released.all-low (λ y. last_released y made at) (suc i) ends names-low None (λ r e. released.none_is r e))
    ]

  -- ---- the moment at which it was leaked

  below-now : (z y : ℕ) (q : ObjectRow) → object S z ≡ Some q → (is_live_job q || is_live_process q) ≡ true → q.link ≡ y → among ends y ≡ true → among ends z ≡ true
  below-now z y q there live link h = (s.held y h).children z (object-child S y z q there live link)

  calm-now : (w : ℕ) (o : ObjectRow) → object S w ≡ Some o → is_live_process o ≡ true → among ends o.link ≡ true → ⊥
  calm-now w o there p h = no-process S o.link w o (s.held o.link h).calm there p refl

  out-now : (y : ℕ) → among ends y ≡ true → among (reached S) y ≡ false
  out-now y h = not_true (among (reached S) y) (λ t. true≢false (among ends y) h (off (among ends y) (reached-least S (λ z. not (among ends z)) (released.others_of made are at x within ends s there_now) y t)))

  now-leaked : is_leaked S x ≡ true
  now-leaked = held-leaked S consistent.sound (λ y. among ends y) below-now calm-now out-now x s.itself x_now.0 x_now.1 (and_left (is_job x_now.0.kind) _ x_now.2) no_root

  pub job-leaked-by : last_on (happens happening.Leaked x) made at ≡ later (last_of_children made at ends) (last_of_names made at ends)
  unfolding last_on
  job-leaked-by = let b = begun made are.falls x at now-leaked in by b.0 b.1 b.2
    where
      unmade : (b : Bool) → (not b && b) ≡ true → ⊥
      unmade true e = cc
      unmade false e = cc

      by : (q : ℕ) → among (path made at) q ≡ true → at_moment (leaked x) made q ≡ true → last_or None (filter (at_moment (leaked x) made) (path made at)) ≡ later (last_of_children made at ends) (last_of_names made at ends)
      by zero on leaks = absurd (unmade (is_leaked (state_at made 0) x) leaks)
      by (suc i) on leaks =
          one-last (filter (at_moment (leaked x) made) (path made at)) (suc i) (once made are at within x happening.Leaked) (among-filter (at_moment (leaked x) made) (path made at) (suc i) on leaks)
          ∙ sym (found-then i on leaks)

-- when a live job that is not the root was leaked last: the later of the moments found for its names and for its children
pub job-told-by : (made : List Made) (are : AreMoments made) (at x : ℕ) (within : at ≤ length made) → on_object is_live_job (object (state_at made at) x) ≡ true → (x == root_job) ≡ false
    → (named lost told : Option ℕ) → IsLastOfBoth made at x named lost → told ≡ later lost named → last_on (happens happening.Leaked x) made at ≡ told
job-told-by made are at x within live no_root named lost told found is =
    let o = of_object (λ (q : ObjectRow). is_live_job q) (object (state_at made at) x) live in
    job-leaked-by made are at x within found.ends found.search (exists-some (state_at made at) x o.0 o.1) live no_root
    ∙ ap (λ n. later n (last_of_names made at found.ends)) (sym found.children)
    ∙ ap (later lost) (sym found.names)
    ∙ sym is

-- by the names alone
pub names-of-both : (made : List Made) (m x : ℕ) (named lost : Option ℕ) → IsLastOfBoth made m x named lost → IsLastOfNames made m x named
names-of-both made m x named lost both = record { ends = both.ends; search = both.search; last = both.names }
