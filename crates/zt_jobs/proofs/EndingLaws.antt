-- In a sound state a walk from parent to child and from process to critical job finds what ends with a live process or job.
use Rattle.std.proofs.Common.{◌≡◌, ◌<◌, ◌+◌, ℕ, zero, suc, Bool, true, false, not, ◌&&◌, inl, inr, refl, sym, ap, ◌∙◌, subst, arith}
use Rattle.std.specs.Prelude.{Option, None, Some, ◌==◌}
use Rattle.std.proofs.lemmas.Bool.{eqb-true, eq-eqb}
use Rattle.zt_rows.specs.declared.rows.ObjectRow.{ObjectRow}
use Rattle.zt_rows.specs.State.{State}
use Rattle.zt_rows.specs.Reads.{object}
use Rattle.zt_rows.specs.Tests.{link_at, object_link, among}
use Rattle.zt_rows.specs.End.{chain, is_live_task, is_under, IsClosed, ends_with}
use Rattle.zt_rows.specs.Consistent.{IsChild, has_parent, IsSound}
use Rattle.zt_rows.proofs.RowLaws.{and_left, and_right, and_both, or_left, or_right, or_true, not_true}
use Rattle.zt_rows.proofs.SoundLaws.{is_running_task, task-not-endpoint}
use Rattle.zt_rows.proofs.AboveLaws.{Above, above, parent-above, live_task-some, under-cases, under-above}
use Rattle.zt_rows.proofs.ClosedLaws.{ends-has, ends-closed, ends-inside}
use Rattle.zt_store.specs.KoidSets.{only}
use Rattle.zt_jobs.specs.EndingWalk.{object_critical, critical_at, is_child_in, ends_next, IsWalkable}

not-zero : (n : ℕ) → not (n == 0) ≡ true → n ≡ 0 → ⊥
not-zero n h e = let t : false ≡ true = sym (ap not (eq-eqb n 0 e)) ∙ h in cc

is-not-zero : (n : ℕ) → (n ≡ 0 → ⊥) → not (n == 0) ≡ true
is-not-zero n h = ap not (not_true (n == 0) (λ t. h (eqb-true n 0 t)))

critical-some : (r : Option ObjectRow) → (object_critical r ≡ 0 → ⊥) → (o : ObjectRow) × (r ≡ Some o) × (o.critical ≡ object_critical r)
critical-some (Some o) h = (o, refl, refl)
critical-some None h = absurd (h refl)

module _ (S : State) (sound : IsSound S) where
  -- a live process or job with a link has it as its parent
  has-parent : (x : ℕ) (o : ObjectRow) → object S x ≡ Some o → is_running_task o ≡ true → (o.link ≡ 0 → ⊥) → has_parent x o ≡ true
  has-parent x o e t linked = elim (has_parent x o) as (λ b. has_parent x o ≡ b → b ≡ true) [
    | true ↦ λ _. refl
    | false ↦ λ f. absurd (linked ((sound.of_objects x o e).alone (task-not-endpoint o t) f))
  ] refl

  -- a child is under its parent
  child-under : (y x : ℕ) → is_child_in S (only y) x ≡ true → is_under S y x ≡ true
  child-under y x h =
      let w = live_task-some (object S x) (and_left (is_live_task (object S x)) _ h) in
      let linked : (not (link_at S x == 0) && only y (link_at S x)) ≡ true = and_right (is_live_task (object S x)) _ h in
      let link : link_at S x ≡ w.0.link = ap object_link w.1 in
      let parent : w.0.link ≡ y = sym link ∙ eqb-true (link_at S x) y (and_right (not (link_at S x == 0)) _ linked) in
      let some : (w.0.link ≡ 0 → ⊥) = λ e. not-zero (link_at S x) (and_left (not (link_at S x == 0)) _ linked) (link ∙ e) in
      under-above S y x w.0 w.1 w.2 (ap (among (chain S x)) (sym parent) ∙ parent-above S sound x w.0 w.1 (has-parent x w.0 w.1 w.2 some))

  -- what ends next to a member of a closed set is a member
  closed-next : (ending : ℕ → Bool) → IsClosed S ending → (y x : ℕ) → ending y ≡ true → ends_next S y x ≡ true → ending x ≡ true
  closed-next ending closed y x member next = elim (or_true (is_child_in S (only y) x) _ next) [
    | inl child ↦ closed.under y x member (child-under y x child)
    | inr to ↦
        let some = not-zero (critical_at S y) (and_left (not (critical_at S y == 0)) _ to) in
        let w = critical-some (object S y) some in
        let is : critical_at S y ≡ x = eqb-true (critical_at S y) x (and_right (not (critical_at S y == 0)) _ to) in
        subst (λ z. ending z ≡ true) (w.2 ∙ is) (closed.critical y w.0 w.1 member (λ e. some (sym w.2 ∙ e)))
  ]

  module _ (found : ℕ → Bool) (closed : (y x : ℕ) → found y ≡ true → ends_next S y x ≡ true → found x ≡ true) where
    -- all under a member is found, from parent to child
    found-under : (n x : ℕ) (o : ObjectRow) → object S x ≡ Some o → is_running_task o ≡ true → x < n → (j : ℕ) → among (chain S x) j ≡ true → found j ≡ true → found x ≡ true
    found-under zero x o e t few j h member = absurd (omega arith)
    found-under (suc n) x o e t few j h member =
        let w : Above S x o j = above S sound x o e t j h in
        let c : IsChild S x o = w.child in
        let less : o.link < x = c.smaller in
        let parent : found o.link ≡ true = elim w.near [
          | inl is ↦ subst (λ z. found z ≡ true) (sym is) member
          | inr far ↦ found-under n o.link c.parent c.there (or_left _ _ c.live) (omega arith) j far member
        ] in
        let link : link_at S x ≡ o.link = ap object_link e in
        closed o.link x parent (or_left _ _
        (and_both (is_live_task (object S x)) _ (ap is_live_task e ∙ t)
        (and_both (not (link_at S x == 0)) _ (is-not-zero (link_at S x) (λ z. some-link o.link c.parent c.there (sym link ∙ z))) (eq-eqb (link_at S x) o.link link))))
      where
        some-link : (l : ℕ) (q : ObjectRow) → object S l ≡ Some q → l ≡ 0 → ⊥
        some-link l q there none = let low = (sound.of_objects l q there).low in absurd (omega arith)

    found-closed : IsClosed S found
    found-closed = record {
      under = λ j x member h. elim (under-cases S j x h) [
        | inl same ↦ subst (λ z. found z ≡ true) (sym same) member
        | inr w ↦ found-under (x + 1) x w.0 w.1 w.2 (omega arith) j w.3 member
      ];
      critical = λ x o e member some.
          let to : critical_at S x ≡ o.critical = ap object_critical e in
          closed x o.critical member (or_right (is_child_in S (only x) o.critical) _
          (and_both (not (critical_at S x == 0)) _ (is-not-zero (critical_at S x) (λ z. some (sym to ∙ z))) (eq-eqb (critical_at S x) o.critical to)));
    }

  pub sound-walkable : (x : ℕ) (o : ObjectRow) → object S x ≡ Some o → is_live_task (Some o) ≡ true → IsWalkable S x (ends_with S x)
  sound-walkable x o here task = record {
    begun = ends-has S sound x o here task;
    closed = λ y z member next. closed-next (ends_with S x) (ends-closed S sound x o here task) y z member next;
    least = λ found member closed y h. ends-inside S sound x o here task found (found-closed found closed) member y h;
  }
