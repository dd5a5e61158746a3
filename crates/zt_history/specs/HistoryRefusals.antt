-- What a history is asked, as checks in their order: what it answers, or the first refusal. Whether memory is there is
-- no part of it: where it is refused, that may be answered instead.
use Rattle.std.specs.Prelude.{◌≡◌, ◌⊎◌, ℕ, suc, Bool, true, false, not, nat_lt, nat_le, ⊤, List, length, is_some, Result, Ok, Err}
use Rattle.zt_rows.specs.declared.calls.Answer.{Answer}
use Rattle.zt_rows.specs.declared.calls.Answer.TheVariants as answer
use Rattle.zt_rows.specs.declared.calls.Call.{Call}
use Rattle.zt_rows.specs.declared.refusals.Refusal.{Refusal}
use Rattle.zt_rows.specs.declared.refusals.Refusal.TheVariants as refusal
use Rattle.zt_rows.specs.Reads.{has_live_process}
use Rattle.zt_history.specs.Tree.{Tree, last_moment, state_at, head_at, made_by, grown_at, head_moved, called, branched, branch_named}

-- the most moments after the opening
abbrev pub most_moments : ℕ
most_moments = 1048576

-- ---- checks in their order

-- the first refusal ends it
infixl 10 ◌>>=◌
abbrev pub ◌>>=◌ : {A B : Type 0} → Result A Refusal → (A → Result B Refusal) → Result B Refusal
(Ok x) >>= f = f x
(Err reason) >>= f = Err reason

-- the test holds, or this is the refusal
abbrev pub check : Bool → Refusal → Result ⊤ Refusal
check true reason = Ok tt
check false reason = Err reason

-- the refusal that may be given, by the result of the checks: want of memory if all pass, else the first that fails; the check
-- for the caller goes to another moment, which takes memory, and may be told as want of it
abbrev pub IsHistoryRefusal : {A : Type 0} → Result A Refusal → Refusal → Type 0
IsHistoryRefusal (Ok _) given = given ≡ refusal.OutOfMemory
IsHistoryRefusal (Err refusal.NoProcess) given = (given ≡ refusal.NoProcess) ⊎ (given ≡ refusal.OutOfMemory)
IsHistoryRefusal (Err reason) given = given ≡ reason

-- ---- what is asked

-- a call at a moment that is there: the new moment with the reply, and the tree after it
abbrev pub answered_at : Tree → ℕ → ℕ → Call → Tree → Result (Answer × Tree) Refusal
answered_at t m process call after = do
  _ ← check (has_live_process (state_at t.made m) process) refusal.NoProcess
  Ok (answer.Called (suc (last_moment t)) (made_by t.made m process call).reply, after)

-- a call at a moment, where no head moves
abbrev pub call_under : Tree → ℕ → ℕ → Call → Result (Answer × Tree) Refusal
call_under t m process call = do
  _ ← check (nat_lt (last_moment t) most_moments) refusal.Full
  _ ← check (nat_le m (last_moment t)) refusal.NoMoment
  answered_at t m process call (grown_at t m process call)

-- a call at the head of a branch, which moves to the new moment
abbrev pub call_on : Tree → ℕ → ℕ → Call → Result (Answer × Tree) Refusal
call_on t b process call = do
  _ ← check (nat_lt (last_moment t) most_moments) refusal.Full
  answered_at t (head_at t.branches b) process call (called t b process call)

-- the answer and its tree, with the head of this branch moved to the tree's last moment
abbrev pub followed : ℕ → Result (Answer × Tree) Refusal → Result (Answer × Tree) Refusal
followed b answered = do
  made ← answered
  Ok (made.0, head_moved made.1 b (last_moment made.1))

-- a branch at a moment: its number, and the tree with it
abbrev pub branch_on : Tree → List ℕ → ℕ → Result (ℕ × Tree) Refusal
branch_on t name m = do
  _ ← check (nat_le m (last_moment t)) refusal.NoMoment
  _ ← check (not (is_some (branch_named t.branches name))) refusal.NameTaken
  Ok (length t.branches, branched t name m)

-- the moment, or a refusal where the tree has no such moment
abbrev pub moment_on : Tree → ℕ → Result ℕ Refusal
moment_on t m = do
  _ ← check (nat_le m (last_moment t)) refusal.NoMoment
  Ok m
