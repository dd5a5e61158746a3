-- Worked trees: paths, heads, states and replies, and what is refused. Each holds by computation.
use Rattle.std.proofs.Common.{refl}
use Rattle.std.specs.Prelude.{◌≡◌, ℕ, Bool, true, false, is_some, List, [], ◌∷◌, map, codes, Some, None, Ok, Err}
use Rattle.zt_bits.specs.declared.statuses.Status.TheVariants.{BadHandle}
use Rattle.zt_rows.specs.declared.calls.Answer.TheVariants.{Called}
use Rattle.zt_rows.specs.declared.calls.Call.{Call}
use Rattle.zt_rows.specs.declared.calls.Call.TheVariants as call
use Rattle.zt_rows.specs.declared.calls.Reply.TheVariants.{Handle, Handles, Status}
use Rattle.zt_rows.specs.declared.keys.RowKey.{RowKey}
use Rattle.zt_rows.specs.declared.keys.RowKey.TheVariants as key
use Rattle.zt_rows.specs.declared.refusals.Refusal.TheVariants as refusal
use Rattle.zt_rows.specs.State.{row, put, change}
use Rattle.zt_rows.specs.Reads.{objects, waits, queue, packets}
use Rattle.zt_rows.specs.Tests.{any_row, count_row}
use Rattle.zt_rows.specs.Support.{supports, support_count, is_supported}
use Rattle.zt_rows.specs.Change.{keys_of_both, changed, before}
use Rattle.zt_rows.specs.Collect.{without, goes, rounds, collect}
use Rattle.zt_rows.specs.Settle.{refresh, settle}
use Rattle.zt_rows.specs.End.{links, chain, end}
use Rattle.zt_rows.specs.Step.{direct, step}
use Rattle.zt_bits.specs.declared.kinds.Kind.TheVariants as kind
use Rattle.zt_rows.specs.declared.rows.Life.TheVariants as life
use Rattle.zt_rows.proofs.WorkedRowsForm.{object_row}
use Rattle.zt_history.specs.Tree.{Tree, opening_tree, grown_at, head_moved, called, branched, path, parent_at, reply_at, replies_to, state_at, head_at, branch_named}
use Rattle.zt_history.specs.HistoryRefusals.{call_on, call_under, branch_on, moment_on}
use Rattle.zt_history.specs.TreeInvariant.{record_of}

-- a call of the root process at the head of a branch
abbrev by_root : Tree → ℕ → Call → Tree
by_root t b c = called t b 1025 c

-- three events on `main`; then, on `fix` from the opening, a pair of events and a channel
unfoldable two_branches : Tree
unfolding row put change objects waits queue packets any_row count_row supports support_count is_supported without goes rounds collect refresh settle links chain end direct step path state_at
two_branches =
    let main = by_root (by_root (by_root opening_tree 0 call.EventCreate) 0 call.EventCreate) 0 call.EventCreate in
    by_root (by_root (branched main (codes "fix") 0) 1 call.EventPairCreate) 1 call.ChannelCreate

paths : map (path two_branches.made) (0 ∷ 1 ∷ 2 ∷ 3 ∷ 4 ∷ 5 ∷ []) ≡ [] ∷ (1 ∷ []) ∷ (1 ∷ 2 ∷ []) ∷ (1 ∷ 2 ∷ 3 ∷ []) ∷ (4 ∷ []) ∷ (4 ∷ 5 ∷ []) ∷ []
unfolding two_branches path
paths = refl

parents : map (parent_at two_branches.made) (0 ∷ 1 ∷ 2 ∷ 3 ∷ 4 ∷ 5 ∷ 6 ∷ []) ≡ 0 ∷ 0 ∷ 1 ∷ 2 ∷ 0 ∷ 4 ∷ 0 ∷ []
unfolding two_branches
parents = refl

-- each call moved the head of its own branch
heads : map (head_at two_branches.branches) (0 ∷ 1 ∷ []) ≡ 3 ∷ 5 ∷ []
unfolding two_branches
heads = refl

names : map (branch_named two_branches.branches) (codes "main" ∷ codes "fix" ∷ codes "fi" ∷ []) ≡ Some 0 ∷ Some 1 ∷ None ∷ []
unfolding two_branches
names = refl

-- both branches begin with the same handle value, and the replies are each branch's own
replies : map (reply_at two_branches.made) (0 ∷ 1 ∷ 2 ∷ 3 ∷ 4 ∷ 5 ∷ 6 ∷ [])
    ≡ None ∷ Some (Handle 7) ∷ Some (Handle 11) ∷ Some (Handle 15) ∷ Some (Handles 7 11) ∷ Some (Handles 15 19) ∷ None ∷ []
unfolding two_branches
replies = refl

replies_of_main : replies_to two_branches.made 3 ≡ Handle 7 ∷ Handle 11 ∷ Handle 15 ∷ []
unfolding two_branches path
replies_of_main = refl

replies_of_fix : replies_to two_branches.made 5 ≡ Handles 7 11 ∷ Handles 15 19 ∷ []
unfolding two_branches path
replies_of_fix = refl

-- one koid names an event at the end of the one branch, and an end of a pair at the end of the other
on_main : row (state_at two_branches.made 3) (key.Object 1026) ≡ Some (object_row kind.Event 0 0 life.Live 0)
unfolding two_branches path state_at row put change objects waits queue packets any_row count_row supports support_count is_supported without goes rounds collect refresh settle links chain end direct step
on_main = refl

on_fix : row (state_at two_branches.made 5) (key.Object 1026) ≡ Some (object_row kind.EventPair 0 1027 life.Live 0)
unfolding two_branches path state_at row put change objects waits queue packets any_row count_row supports support_count is_supported without goes rounds collect refresh settle links chain end direct step
on_fix = refl

-- ---- a call at a moment that is no head

-- an event beside the second on `main`
unfoldable with_third : Tree
unfolding two_branches
with_third = grown_at two_branches 1 1025 call.EventCreate

paths_beside : map (path with_third.made) (3 ∷ 6 ∷ []) ≡ (1 ∷ 2 ∷ 3 ∷ []) ∷ (1 ∷ 6 ∷ []) ∷ []
unfolding two_branches with_third path
paths_beside = refl

-- no head moves, until one is moved
heads_beside : map (head_at with_third.branches) (0 ∷ 1 ∷ []) ≡ 3 ∷ 5 ∷ []
unfolding two_branches with_third
heads_beside = refl

head_that_moved : map (head_at (head_moved with_third 1 6).branches) (0 ∷ 1 ∷ []) ≡ 3 ∷ 6 ∷ []
unfolding two_branches with_third
head_that_moved = refl

-- ---- records

-- which rows the record of a moment holds, and whether it holds a row or that there is none
abbrev held : Tree → ℕ → ℕ → List (RowKey × Bool)
held t position m = map (λ e. (e.0, is_some e.1)) (record_of t.made position m)

-- the record of the channel on `fix`, where the store stands behind it: the rows before
held_on_the_path : held two_branches 5 5 ≡ (key.Counters, true) ∷ (key.Object 1025, true) ∷ (key.Object 1028, false) ∷ (key.Object 1029, false) ∷ (key.Entry 1025 15, false) ∷ (key.Entry 1025 19, false) ∷ []
unfolding two_branches path state_at record_of row put change objects waits queue packets any_row count_row supports support_count is_supported without goes rounds collect refresh settle links chain end direct step keys_of_both changed before
held_on_the_path = refl

-- and where it stands on the other branch: the rows after
held_beside_the_path : held two_branches 3 5 ≡ (key.Counters, true) ∷ (key.Object 1025, true) ∷ (key.Object 1028, true) ∷ (key.Object 1029, true) ∷ (key.Entry 1025 15, true) ∷ (key.Entry 1025 19, true) ∷ []
unfolding two_branches path state_at record_of row put change objects waits queue packets any_row count_row supports support_count is_supported without goes rounds collect refresh settle links chain end direct step keys_of_both changed before
held_beside_the_path = refl

-- ---- refused

no_such_moment : moment_on two_branches 6 ≡ Err refusal.NoMoment
unfolding two_branches
no_such_moment = refl

last_moment_is_there : moment_on two_branches 5 ≡ Ok 5
unfolding two_branches
last_moment_is_there = refl

-- the moment is looked for before the name
branch_at_no_moment : branch_on two_branches (codes "main") 6 ≡ Err refusal.NoMoment
unfolding two_branches
branch_at_no_moment = refl

name_taken : branch_on two_branches (codes "fix") 5 ≡ Err refusal.NameTaken
unfolding two_branches
name_taken = refl

-- an event does not call
no_process : call_on two_branches 0 1026 call.EventCreate ≡ Err refusal.NoProcess
unfolding two_branches path state_at row put change objects waits queue packets any_row count_row supports support_count is_supported without goes rounds collect refresh settle links chain end direct step
no_process = refl

-- the moment is looked for before the caller
call_at_no_moment : call_under two_branches 6 1026 call.EventCreate ≡ Err refusal.NoMoment
unfolding two_branches
call_at_no_moment = refl

-- a call whose check fails is answered, and makes a moment
failed_call : call_on opening_tree 0 1025 (call.HandleClose 9) ≡ Ok (Called 1 (Status BadHandle), by_root opening_tree 0 (call.HandleClose 9))
unfolding path state_at row put change objects waits queue packets any_row count_row supports support_count is_supported without goes rounds collect refresh settle links chain end direct step
failed_call = refl
