-- What ends with a live process or job may end: the state that it leaves is sound, also where a process exits and
-- the others are killed.
use Rattle.std.proofs.Common.{◌≡◌, ℕ, Bool, true, false, not, ◌&&◌, ◌||◌, refl, sym, ap, ◌∙◌}
use Rattle.std.specs.Prelude.{ℤ, Some, ◌==◌}
use Rattle.zt_bits.specs.declared.kinds.Kind.{Kind}
use Rattle.zt_bits.specs.declared.kinds.Kind.TheVariants as kind
use Rattle.zt_rows.specs.declared.rows.Life.TheVariants as life
use Rattle.zt_rows.specs.declared.rows.ObjectRow.{ObjectRow}
use Rattle.zt_rows.specs.State.{State}
use Rattle.zt_rows.specs.Reads.{object, is_live, is_job, is_process, is_live_job, is_live_process}
use Rattle.zt_rows.specs.End.{ends_with, end}
use Rattle.zt_rows.specs.Consistent.{has_parent, may_be, IsSound}
use Rattle.zt_rows.proofs.RowLaws.{or_right, and_left, and_right, and_both, true≢false, not_true}
use Rattle.zt_rows.proofs.ReadLaws.{some_one}
use Rattle.zt_rows.proofs.SoundLaws.{is_running_task, has_parent-task, some-has_live_process}
use Rattle.zt_rows.proofs.EndLaws.{not_live_after, ended-was, outside-is, sound-end, sound-end_process}
use Rattle.zt_rows.proofs.AboveLaws.{parent-above, under-above}
use Rattle.zt_rows.proofs.ClosedLaws.{ends-closed, ends-live}

may_be_killed : (k : Kind) (lives : Bool) → ((is_job k && lives) || (is_process k && lives)) ≡ true → may_be k life.Killed ≡ true
may_be_killed kind.Process lives e = refl
may_be_killed kind.Job lives e = refl
may_be_killed kind.Channel lives e = cc
may_be_killed kind.Event lives e = cc
may_be_killed kind.EventPair lives e = cc
may_be_killed kind.Port lives e = cc

is_not : (b : Bool) → not b ≡ true → b ≡ false
is_not true e = cc
is_not false e = refl

module _ (S : State) (sound : IsSound S) (x : ℕ) (o : ObjectRow) (here : object S x ≡ Some o) (task : is_running_task o ≡ true) where
  -- what ends is a live process or job, and may be killed
  ends-killed : (y : ℕ) (q : ObjectRow) → object S y ≡ Some q → ends_with S x y ≡ true → (is_running_task q ≡ true) × (may_be q.kind life.Killed ≡ true)
  ends-killed y q e g =
      let w = ends-live S sound x o here task y g in
      let live : is_running_task q ≡ true = ap is_running_task (some_one q w.0 (sym e ∙ w.1)) ∙ w.2 in
      (live, may_be_killed q.kind (is_live q.life) live)

  -- with a parent its children end
  ends-down : (y : ℕ) (q : ObjectRow) → object S y ≡ Some q → has_parent y q ≡ true → ends_with S x q.link ≡ true → ends_with S x y ≡ true
  ends-down y q e h g = (ends-closed S sound x o here task).under q.link y g (under-above S q.link y q e (has_parent-task y q h) (parent-above S sound y q e h))

  -- it may be killed with what ends with it
  pub sound-kill : IsSound (end S (ends_with S x) life.Killed)
  sound-kill = sound-end (ends_with S x) life.Killed S sound ends-killed ends-down refl

module _ (S : State) (sound : IsSound S) (p : ℕ) (me : ObjectRow) (here : object S p ≡ Some me) (live : is_live_process me ≡ true) (code : ℤ) where
  task : is_running_task me ≡ true
  task = or_right (is_live_job me) _ live

  abbrev left : State
  left = end S (λ x. x == p) (life.Exited code)

  abbrev beside : ℕ → Bool
  beside x = ends_with S p x && not (x == p)

  was-there : (y : ℕ) (q : ObjectRow) → object left y ≡ Some q → (y == p) ≡ false → object S y ≡ Some q
  was-there y q e out =
      let w = ended-was (λ x. x == p) (life.Exited code) S y q e in
      w.1 ∙ ap Some (sym (w.2 ∙ outside-is (λ x. x == p) (life.Exited code) S y w.0 out))

  -- a live process or job that is left is another
  other : (y : ℕ) (q : ObjectRow) → object left y ≡ Some q → is_running_task q ≡ true → (y == p) ≡ false
  other y q e t = not_true (y == p) (λ same.
      let w = ended-was (λ x. x == p) (life.Exited code) S y q e in
      true≢false (is_running_task q) t (ap is_running_task w.2 ∙ not_live_after (λ x. x == p) (life.Exited code) refl y w.0 same))

  -- the process may exit, and what else ends with it be killed
  pub sound-exit : IsSound (end (end S (λ x. x == p) (life.Exited code)) (λ x. ends_with S p x && not (x == p)) life.Killed)
  sound-exit =
      sound-end beside life.Killed left (sound-end_process S sound p (some-has_live_process S p me here live) (life.Exited code) refl)
      (λ y q e t. ends-killed S sound p me here task y q (was-there y q e (is_not (y == p) (and_right (ends_with S p y) _ t))) (and_left (ends_with S p y) _ t))
      (λ y q e h t.
      let out : (y == p) ≡ false = other y q e (has_parent-task y q h) in
      and_both (ends_with S p y) _ (ends-down S sound p me here task y q (was-there y q e out) h (and_left (ends_with S p q.link) _ t)) (ap not out))
      refl
