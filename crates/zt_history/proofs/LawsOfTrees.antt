-- The laws of trees as their contracts say them.
use Rattle.std.proofs.Common.{◌≡◌, ℕ, suc, ◌≤◌, ◌<◌, Bool, true, false, not, List, [], ◌∷◌, ◌++◌, length, Option, Some, None, is_some, Result, Ok, Err, refl, sym, ap, subst, arith, length-append}
use Rattle.std.specs.Prelude.{nat_lt, nat_le}
use Rattle.std.proofs.lemmas.Bool.{ltb-true, leb-true, le-leb, true≢false}
use Rattle.zt_rows.specs.declared.calls.Answer.{Answer}
use Rattle.zt_rows.specs.declared.calls.Answer.TheVariants as answer
use Rattle.zt_rows.specs.declared.calls.Call.{Call}
use Rattle.zt_rows.specs.declared.calls.Reply.{Reply}
use Rattle.zt_rows.specs.declared.refusals.Refusal.{Refusal}
use Rattle.zt_rows.specs.declared.refusals.Refusal.TheVariants as refusal
use Rattle.zt_rows.specs.Consistent.{IsConsistent}
use Rattle.zt_rows.specs.Opening.{opening}
use Rattle.zt_rows.specs.Reads.{has_live_process}
use Rattle.zt_rows.specs.Room.{HasRoom}
use Rattle.zt_rows.specs.State.{State}
use Rattle.zt_rows.specs.Step.{IsCall, run}
use Rattle.zt_history.specs.HistoryRefusals.{call_on, call_under, followed, branch_on, most_moments, ◌>>=◌, check}
use Rattle.zt_history.specs.TreeInvariant.{IsTree}
use Rattle.zt_history.specs.Tree.{Made, Tree, last_moment, opening_tree, made_by, head_at, grown_at, head_moved, called, branched, branch_named, calls_to, replies_to, state_at}
use Rattle.zt_history.proofs.PathLaws.{path-step, path-end}
use Rattle.zt_history.proofs.RunLaws.{run-path, moment-consistent, moment-room}
use Rattle.zt_history.proofs.RecordLaws.{exchange-back, exchange-forth}
use Rattle.zt_history.proofs.GrownLaws.{moments-push}
use Rattle.zt_history.proofs.TreeLaws.{head-within, branches-more, branches-headed, branches-push}
use Rattle.zt_history.proofs.KeptLaws.{no_moments, one_branch}

pub ruleset path_laws = (path-step, path-end)

pub tree-run : (t : Tree) (m : ℕ) → IsTree t → m ≤ last_moment t → ◌≡◌ {A = State × List Reply} (run opening (calls_to t.made m)) (state_at t.made m, replies_to t.made m)
tree-run t m is h = run-path t.made is.moments m h

pub ruleset run_laws = (tree-run)

pub tree-consistent : (t : Tree) (m : ℕ) → IsTree t → m ≤ last_moment t → IsConsistent (state_at t.made m)
tree-consistent t m is h = moment-consistent t.made is.moments m h

pub tree-room : (t : Tree) (m : ℕ) → IsTree t → m ≤ last_moment t → HasRoom (state_at t.made m)
tree-room t m is h = moment-room t.made is.moments m h

pub ruleset record_laws = (exchange-back, exchange-forth)

pub tree-opening : IsTree opening_tree
tree-opening = record { moments = no_moments; branches = one_branch }

-- ---- what a call or a branch makes of a tree

-- one moment more
tree-grown : (t : Tree) (m p : ℕ) (c : Call) → IsTree t → m ≤ last_moment t → IsCall c → last_moment t < most_moments → has_live_process (state_at t.made m) p ≡ true → IsTree (grown_at t m p c)
tree-grown t m p c is there limits few running =
    let e : Made = made_by t.made m p c in
    let size : length (t.made ++ e ∷ []) ≡ suc (length t.made) = omega (arith, length-append t.made (e ∷ [])) in
    record {
      moments = moments-push t.made e is.moments.falls there is.moments few (record { running = running; limits = limits; answered = refl });
      branches = branches-more (length t.made) (length (t.made ++ e ∷ [])) t.branches (omega (arith, size)) is.branches;
    }

-- another head
pub tree-headed : (t : Tree) (b m : ℕ) → IsTree t → m ≤ last_moment t → IsTree (head_moved t b m)
tree-headed t b m is there = record {
  moments = is.moments;
  branches = branches-headed (length t.made) (length t.made) m t.branches b (omega arith) there is.branches;
}

tree-called : (t : Tree) (b p : ℕ) (c : Call) → IsTree t → IsCall c → last_moment t < most_moments → has_live_process (state_at t.made (head_at t.branches b)) p ≡ true → IsTree (called t b p c)
tree-called t b p c is limits few running =
    let head : ℕ = head_at t.branches b in
    let more : IsTree (grown_at t head p c) = tree-grown t head p c is (head-within (length t.made) t.branches is.branches.heads b) limits few running in
    tree-headed (grown_at t head p c) b (suc (last_moment t)) more (omega (arith, length-append t.made (made_by t.made head p c ∷ [])))

-- a check that passed
passed : {B : Type 0} (test : Bool) (reason : Refusal) (next : Result B Refusal) (x : B) → (check test reason >>= λ _. next) ≡ Ok x → (test ≡ true) × (next ≡ Ok x)
passed true reason next x h = (refl, h)
passed false reason next x h = absurd (err_ok h)
  where
    err_ok : {B : Type 0} {reason : Refusal} {x : B} → ◌≡◌ {A = Result B Refusal} (Err reason) (Ok x) → ⊥
    err_ok h = cc

-- the tree that is made, of what a history is asked
abbrev made_tree : {A : Type 0} → Result (A × Tree) Refusal → Tree
made_tree (Ok x) = x.1
made_tree (Err reason) = opening_tree

pub tree-call : (t : Tree) (b p : ℕ) (c : Call) (said : Answer) (u : Tree) → IsTree t → b < length t.branches → IsCall c → call_on t b p c ≡ Ok (said, u) → IsTree u
tree-call t b p c said u is within limits h =
    let made : Result (Answer × Tree) Refusal = Ok (answer.Called (suc (last_moment t)) (made_by t.made (head_at t.branches b) p c).reply, called t b p c) in
    let running : Bool = has_live_process (state_at t.made (head_at t.branches b)) p in
    let first = passed (nat_lt (last_moment t) most_moments) refusal.Full (check running refusal.NoProcess >>= λ _. made) (said, u) h in
    let second = passed running refusal.NoProcess made (said, u) first.1 in
    subst IsTree (ap made_tree second.1) (tree-called t b p c is limits (ltb-true (last_moment t) most_moments first.0) second.0)

pub tree-under : (t : Tree) (m p : ℕ) (c : Call) (said : Answer) (u : Tree) → IsTree t → IsCall c → call_under t m p c ≡ Ok (said, u) → IsTree u
tree-under t m p c said u is limits h =
    let made : Result (Answer × Tree) Refusal = Ok (answer.Called (suc (last_moment t)) (made_by t.made m p c).reply, grown_at t m p c) in
    let running : Bool = has_live_process (state_at t.made m) p in
    let late : Result (Answer × Tree) Refusal = check running refusal.NoProcess >>= λ _. made in
    let first = passed (nat_lt (last_moment t) most_moments) refusal.Full (check (nat_le m (last_moment t)) refusal.NoMoment >>= λ _. late) (said, u) h in
    let second = passed (nat_le m (last_moment t)) refusal.NoMoment late (said, u) first.1 in
    let third = passed running refusal.NoProcess made (said, u) second.1 in
    subst IsTree (ap made_tree third.1) (tree-grown t m p c is (leb-true m (last_moment t) second.0) limits (ltb-true (last_moment t) most_moments first.0) third.0)

-- ---- a call is one at the head of its branch, which moves then

-- the checks of a call, and the same with the one that the moment is there
abbrev two_checks : Bool → Bool → Answer × Tree → Result (Answer × Tree) Refusal
two_checks full running x = check full refusal.Full >>= λ _. check running refusal.NoProcess >>= λ _. Ok x

abbrev three_checks : Bool → Bool → Bool → Answer × Tree → Result (Answer × Tree) Refusal
three_checks full there running x = check full refusal.Full >>= λ _. check there refusal.NoMoment >>= λ _. check running refusal.NoProcess >>= λ _. Ok x

checks_followed : (full there running : Bool) (said : Answer) (u v : Tree) (b : ℕ) → there ≡ true → v ≡ head_moved u b (last_moment u)
    → two_checks full running (said, v) ≡ followed b (three_checks full there running (said, u))
checks_followed true true true said u v b h e = let P : Tree → Result (Answer × Tree) Refusal = λ v. Ok (said, v) in ap P e
checks_followed true true false said u v b h e = refl
checks_followed true false running said u v b h e = absurd (true≢false (sym h))
checks_followed false there running said u v b h e = refl

module _ (t : Tree) (b p : ℕ) (c : Call) (is : IsTree t) where
  there : head_at t.branches b ≤ length t.made
  there = head-within (length t.made) t.branches is.branches.heads b

  size : suc (length t.made) ≡ length (t.made ++ made_by t.made (head_at t.branches b) p c ∷ [])
  size = omega (arith, length-append t.made (made_by t.made (head_at t.branches b) p c ∷ []))

  pub tree-followed : call_on t b p c ≡ followed b (call_under t (head_at t.branches b) p c)
  tree-followed =
      let head : ℕ = head_at t.branches b in
      checks_followed (nat_lt (last_moment t) most_moments) (nat_le head (last_moment t)) (has_live_process (state_at t.made head) p)
      (answer.Called (suc (last_moment t)) (made_by t.made head p c).reply) (grown_at t head p c) (called t b p c) b (le-leb head (last_moment t) there)
      (ap (head_moved (grown_at t head p c) b) size)

none_named : (o : Option ℕ) → not (is_some o) ≡ true → o ≡ None
none_named None h = refl
none_named (Some x) h = absurd (true≢false (sym h))

pub tree-branch : (t : Tree) (name : List ℕ) (m number : ℕ) (u : Tree) → IsTree t → branch_on t name m ≡ Ok (number, u) → IsTree u
tree-branch t name m number u is h =
    let made : Result (ℕ × Tree) Refusal = Ok (length t.branches, branched t name m) in
    let free : Bool = not (is_some (branch_named t.branches name)) in
    let first = passed (nat_le m (last_moment t)) refusal.NoMoment (check free refusal.NameTaken >>= λ _. made) (number, u) h in
    let second = passed free refusal.NameTaken made (number, u) first.1 in
    let more : IsTree (branched t name m) = record {
      moments = is.moments;
      branches =
          branches-push (length t.made) t.branches (record { name = name; head = m }) is.branches (none_named (branch_named t.branches name) second.0)
          (leb-true m (last_moment t) first.0);
    } in
    subst IsTree (ap made_tree second.1) more
