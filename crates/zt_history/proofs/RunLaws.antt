-- The state of a moment is one step from its parent's, the replies on its path are those of running its calls from the
-- opening, and every moment of a tree is consistent and has room.
use Rattle.std.proofs.Common.{◌≡◌, ℕ, suc, ◌+◌, ◌≤◌, ◌<◌, true, List, [], ◌∷◌, ◌++◌, length, Some, refl, sym, ◌∙◌, ap, subst, arith}
use Rattle.std.specs.List.{filter_map}
use Rattle.std.proofs.lemmas.List.Elements.{filter_map-append}
use Rattle.zt_rows.specs.declared.calls.Call.{Call}
use Rattle.zt_rows.specs.declared.calls.Reply.{Reply}
use Rattle.zt_rows.specs.Consistent.{IsConsistent}
use Rattle.zt_rows.specs.Handles.{next_koid}
use Rattle.zt_rows.specs.Opening.{opening}
use Rattle.zt_rows.specs.Reads.{has_live_process}
use Rattle.zt_rows.specs.Room.{HasRoom, HasSpent}
use Rattle.zt_rows.specs.State.{State}
use Rattle.zt_rows.specs.Step.{IsCall, step, run}
use Rattle.zt_rows.proofs.OpeningLaws.{opening-consistent}
use Rattle.zt_rows.proofs.SoundLaws.{has_live_process-some}
use Rattle.zt_rows.proofs.SpentLaws.{spent-opening, spent-step, spent-room}
use Rattle.zt_rows.proofs.CallLaws.{step-consistent}
use Rattle.zt_history.specs.Tree.{Made, made_at, parent_of, parent_at, call_at, reply_at, path, calls_to, replies_to, state_at}
use Rattle.zt_history.specs.HistoryRefusals.{most_moments}
use Rattle.zt_history.specs.TreeInvariant.{Falls, AreMoments}
use Rattle.zt_history.specs.ProofsOnly.FourBytes.{four_byte_numbers}
use Rattle.zt_history.proofs.ListLaws.{get-within}
use Rattle.zt_history.proofs.PathLaws.{path-opening, path-step, by_parents, short-path, length-path}

-- one more call at the end of a run
run-push : (S : State) (cs : List (ℕ × Call)) (c : ℕ × Call)
    → ◌≡◌ {A = State × List Reply} (run S (cs ++ c ∷ [])) ((step (run S cs).0 c.0 c.1).0, (run S cs).1 ++ (step (run S cs).0 c.0 c.1).1 ∷ [])
run-push S [] c = refl
run-push S (b ∷ cs) c =
    let P : State × List Reply → State × List Reply = λ r. (r.0, (step S b.0 b.1).1 ∷ r.1) in
    ap P (run-push (step S b.0 b.1).0 cs c)

pub state-opening : (made : List Made) → state_at made 0 ≡ opening
unfolding state_at
state-opening made = ap (λ p. (run opening (filter_map (call_at made) p)).0) (path-opening made)

module _ (made : List Made) (falls : Falls made) where
  calls-step : (i : ℕ) (e : Made) → made_at made (suc i) ≡ Some e → calls_to made (suc i) ≡ calls_to made e.parent ++ (e.process, e.call) ∷ []
  calls-step i e at =
      ap (filter_map (call_at made)) (path-step made falls i)
      ∙ filter_map-append (call_at made) (path made (parent_at made (suc i))) (suc i ∷ [])
      ∙ rw at refl

  replies-step : (i : ℕ) (e : Made) → made_at made (suc i) ≡ Some e → replies_to made (suc i) ≡ replies_to made e.parent ++ e.reply ∷ []
  replies-step i e at =
      ap (filter_map (reply_at made)) (path-step made falls i)
      ∙ filter_map-append (reply_at made) (path made (parent_at made (suc i))) (suc i ∷ [])
      ∙ rw at refl

  pub state-step : (i : ℕ) (e : Made) → made_at made (suc i) ≡ Some e → state_at made (suc i) ≡ (step (state_at made e.parent) e.process e.call).0
  unfolding state_at
  state-step i e at =
      ap (λ cs. (run opening cs).0) (calls-step i e at)
      ∙ ap (λ (r : State × List Reply). r.0) (run-push opening (calls_to made e.parent) (e.process, e.call))

module _ (made : List Made) (are : AreMoments made) where
  -- how a moment was made, and that its parent is earlier
  pub made-there : (i : ℕ) → suc i ≤ length made → (e : Made) × (made_at made (suc i) ≡ Some e)
  made-there i h = get-within made i (omega (arith, h))

  pub parent-within : (i : ℕ) → suc i ≤ length made → parent_at made (suc i) ≤ length made
  parent-within i h = omega (arith, h, are.falls i)

  parent-is : (i : ℕ) (e : Made) → made_at made (suc i) ≡ Some e → parent_at made (suc i) ≡ e.parent
  parent-is i e at = ap parent_of at

  one-reply : (i : ℕ) → suc i ≤ length made → (e : Made) → made_at made (suc i) ≡ Some e → (run opening (calls_to made e.parent)).1 ≡ replies_to made e.parent
      → (run opening (calls_to made (suc i))).1 ≡ replies_to made (suc i)
  unfolding state_at
  one-reply i h e at rest =
      let before : List Reply = (run opening (calls_to made e.parent)).1 in
      ap (λ cs. (run opening cs).1) (calls-step made are.falls i e at)
      ∙ ap (λ (r : State × List Reply). r.1) (run-push opening (calls_to made e.parent) (e.process, e.call))
      ∙ ap (λ r. before ++ r ∷ []) (sym (are.each i e at).answered)
      ∙ ap (λ rs. rs ++ e.reply ∷ []) rest
      ∙ sym (replies-step made are.falls i e at)

  -- the replies on a path are those of running its calls from the opening
  pub replies-run : (m : ℕ) → m ≤ length made → (run opening (calls_to made m)).1 ≡ replies_to made m
  replies-run m = by_parents made are.falls (λ m. m ≤ length made → (run opening (calls_to made m)).1 ≡ replies_to made m) base one m
    where
      base : 0 ≤ length made → (run opening (calls_to made 0)).1 ≡ replies_to made 0
      base h = rw (path-opening made) refl

      one : (i : ℕ) → (parent_at made (suc i) ≤ length made → (run opening (calls_to made (parent_at made (suc i)))).1 ≡ replies_to made (parent_at made (suc i)))
          → suc i ≤ length made → (run opening (calls_to made (suc i))).1 ≡ replies_to made (suc i)
      one i rest h =
          let there = made-there i h in
          let P : ℕ → Type 0 = λ p. (run opening (calls_to made p)).1 ≡ replies_to made p in
          one-reply i h there.0 there.1 (subst P (parent-is i there.0 there.1) (rest (parent-within i h)))

  -- and so is the state at its end
  pub run-path : (m : ℕ) → m ≤ length made → ◌≡◌ {A = State × List Reply} (run opening (calls_to made m)) (state_at made m, replies_to made m)
  unfolding state_at
  run-path m h = ap (λ rs. ((run opening (calls_to made m)).0, rs)) (replies-run m h)

  -- each moment is consistent, and gave out no more than the calls on its path do
  pub at-rest : (m : ℕ) → m ≤ length made → IsConsistent (state_at made m) × HasSpent (length (path made m)) (state_at made m)
  at-rest m = by_parents made are.falls (λ m. m ≤ length made → IsConsistent (state_at made m) × HasSpent (length (path made m)) (state_at made m)) base one m
    where
      base : 0 ≤ length made → IsConsistent (state_at made 0) × HasSpent (length (path made 0)) (state_at made 0)
      base h = (
        subst IsConsistent (sym (state-opening made)) opening-consistent,
        let P : ℕ → Type 0 = λ n. HasSpent n (state_at made 0) in
            subst P (ap length (sym (path-opening made))) (subst (HasSpent 0) (sym (state-opening made)) spent-opening),
      )

      one : (i : ℕ) → (parent_at made (suc i) ≤ length made → IsConsistent (state_at made (parent_at made (suc i))) × HasSpent (length (path made (parent_at made (suc i)))) (state_at made (parent_at made (suc i))))
          → suc i ≤ length made → IsConsistent (state_at made (suc i)) × HasSpent (length (path made (suc i))) (state_at made (suc i))
      one i rest h =
          let there = made-there i h in
          let e = there.0 in
          let is = are.each i e there.1 in
          let p = parent-is i e there.1 in
          let P : ℕ → Type 0 = λ p. IsConsistent (state_at made p) × HasSpent (length (path made p)) (state_at made p) in
          let before : P e.parent = subst P p (rest (parent-within i h)) in
          let n : ℕ = length (path made e.parent) in
          let few : n < most_moments = omega (arith, short-path made are.falls e.parent, p, are.falls i, h, are.few) in
          let longer : n + 1 ≡ length (path made (suc i)) = omega (arith, length-path made are.falls i, ap (λ p. length (path made p)) p) in
          let T : State = (step (state_at made e.parent) e.process e.call).0 in
          let Q : State → Type 0 = λ S. IsConsistent S × HasSpent (length (path made (suc i))) S in
          subst Q (sym (state-step made are.falls i e there.1)) (
            step-consistent (state_at made e.parent) e.process e.call before.0 is.running is.limits,
            let R : ℕ → Type 0 = λ k. HasSpent k T in
                subst R longer (spent-step (state_at made e.parent) e.process e.call n few before.0.sound is.running is.limits before.1),
          )

  pub moment-consistent : (m : ℕ) → m ≤ length made → IsConsistent (state_at made m)
  moment-consistent m h = (at-rest m h).0

  pub moment-room : (m : ℕ) → m ≤ length made → HasRoom (state_at made m)
  moment-room m h =
      spent-room (state_at made m) (length (path made m)) (omega (arith, short-path made are.falls m, h, are.few)) (at-rest m h).1

  -- a call more gives out no koid that four bytes cannot hold
  pub few-koids : (m process : ℕ) (call : Call) → m ≤ length made → length made < most_moments → has_live_process (state_at made m) process ≡ true → IsCall call
      → next_koid (step (state_at made m) process call).0 < four_byte_numbers
  few-koids m process call h few running limits =
      let rest : IsConsistent (state_at made m) × HasSpent (length (path made m)) (state_at made m) = at-rest m h in
      let less : length (path made m) < most_moments = omega (arith, short-path made are.falls m, h, few) in
      let given : HasSpent (length (path made m) + 1) (step (state_at made m) process call).0 =
      spent-step (state_at made m) process call (length (path made m)) less rest.0.sound running limits rest.1 in
      omega (arith, given.koids, less)

  -- nor has one that runs
  pub few-process : (m process : ℕ) → m ≤ length made → length made < most_moments → has_live_process (state_at made m) process ≡ true → process < four_byte_numbers
  few-process m process h few running =
      let rest : IsConsistent (state_at made m) × HasSpent (length (path made m)) (state_at made m) = at-rest m h in
      let there = has_live_process-some (state_at made m) process running in
      let low : process < next_koid (state_at made m) = (rest.0.sound.of_objects process there.0 there.1).high in
      omega (arith, low, rest.1.koids, short-path made are.falls m, h, few)
