-- Worked sessions: what one client's commands are answered, one after another, and what is loaded of a saved tree. Each holds
-- by computation.
use Rattle.std.proofs.Common.{refl}
use Rattle.std.specs.Prelude.{◌≡◌, ℕ, List, [], ◌∷◌, map, codes, replicate, Result, Ok, Err}
use Rattle.zt_rows.specs.declared.calls.Answer.{Answer}
use Rattle.zt_rows.specs.declared.calls.Answer.TheVariants.{Called, At, Branched, Followed, Pinned}
use Rattle.zt_rows.specs.declared.calls.Call.{Call}
use Rattle.zt_rows.specs.declared.calls.Call.TheVariants as call
use Rattle.zt_rows.specs.declared.calls.Command.{Command}
use Rattle.zt_rows.specs.declared.calls.Command.TheVariants as command
use Rattle.zt_rows.specs.declared.calls.Reply.TheVariants.{Handle, Handles, Status}
use Rattle.zt_bits.specs.declared.statuses.Status.TheVariants as status
use Rattle.zt_rows.specs.declared.refusals.Refusal.{Refusal}
use Rattle.zt_rows.specs.declared.refusals.Refusal.TheVariants as refusal
use Rattle.zt_rows.specs.declared.saved.Saved.{Saved}
use Rattle.zt_rows.specs.declared.saved.Cursor.{Cursor as SavedCursor}
use Rattle.zt_rows.specs.declared.saved.Cursor.TheVariants as place
use Rattle.zt_rows.specs.State.{row, put, change}
use Rattle.zt_rows.specs.Reads.{objects, waits, queue, packets}
use Rattle.zt_rows.specs.Tests.{any_row, count_row}
use Rattle.zt_rows.specs.Support.{supports, support_count, is_supported}
use Rattle.zt_rows.specs.Collect.{without, goes, rounds, collect}
use Rattle.zt_rows.specs.Settle.{refresh, settle}
use Rattle.zt_rows.specs.End.{links, chain, highest, end}
use Rattle.zt_rows.specs.Step.{direct, step}
use Rattle.zt_history.specs.Tree.{main_name, opening_tree, path, state_at}
use Rattle.zt_book.specs.Session.{Session, opening_session, first_client, serve, call_by, goto_by, back_by, branch_by, follow_by, pin_to}
use Rattle.zt_book.specs.Log.{loaded}
use Rattle.zt_book.specs.SavedSessions.{loaded_saved, saved_of_session}

-- what the commands of client 1 are answered; a refusal leaves the session as it is
abbrev behind : Session → Result (Answer × Session) Refusal → (Session → List (Result Answer Refusal)) → List (Result Answer Refusal)
behind M (Ok said) rest = Ok said.0 ∷ rest said.1
behind M (Err reason) rest = Err reason ∷ rest M

abbrev answers : Session → List Command → List (Result Answer Refusal)
answers M [] = []
answers M (request ∷ requests) = behind M (serve M 1 request) (λ N. answers N requests)

by_root : Call → Command
by_root c = command.Call 1025 c

-- three events on `main`; then a port and a channel on `fix`, from the opening; and back
two_branches :
    answers (opening_session 1)
    (by_root call.EventCreate ∷ by_root call.EventCreate ∷ by_root call.EventCreate ∷ command.Back 3 ∷ command.Branch (codes "fix")
    ∷ by_root call.PortCreate ∷ by_root call.ChannelCreate ∷ command.Follow (codes "main") ∷ command.Goto 5 ∷ command.Goto 3 ∷ [])
    ≡ Ok (Called 1 (Handle 7)) ∷ Ok (Called 2 (Handle 11)) ∷ Ok (Called 3 (Handle 15)) ∷ Ok (At 0) ∷ Ok (Branched (codes "fix") 0)
    ∷ Ok (Called 4 (Handle 7)) ∷ Ok (Called 5 (Handles 11 15)) ∷ Ok (Followed (codes "main") 3) ∷ Ok (At 5) ∷ Ok (At 3) ∷ []
unfolding serve call_by goto_by back_by branch_by follow_by pin_to by_root row put change objects waits queue packets any_row count_row supports support_count is_supported without goes rounds collect refresh settle links chain highest end direct step path state_at
two_branches = refl

-- a call while the client follows no branch; more steps back than there are; a name that is taken
detached_cursor :
    answers (opening_session 1)
    (by_root call.EventCreate ∷ by_root call.EventCreate ∷ by_root call.EventCreate ∷ command.Goto 3 ∷ by_root call.EventCreate ∷ command.Back 5
    ∷ command.Branch (codes "main") ∷ command.Pin ∷ [])
    ≡ Ok (Called 1 (Handle 7)) ∷ Ok (Called 2 (Handle 11)) ∷ Ok (Called 3 (Handle 15)) ∷ Ok (At 3) ∷ Err refusal.Detached ∷ Err refusal.AtStart
    ∷ Err refusal.NameTaken ∷ Ok (Pinned 3) ∷ []
unfolding serve call_by goto_by back_by branch_by follow_by pin_to by_root row put change objects waits queue packets any_row count_row supports support_count is_supported without goes rounds collect refresh settle links chain highest end direct step path state_at
detached_cursor = refl

-- where all have ended no call is taken; on a branch from before that, one is
root_job_killed :
    answers (opening_session 1)
    (by_root (call.TaskKill 3) ∷ by_root call.EventCreate ∷ command.Back 1 ∷ command.Branch (codes "again") ∷ by_root call.EventCreate ∷ [])
    ≡ Ok (Called 1 (Status status.Ok)) ∷ Err refusal.NoProcess ∷ Ok (At 0) ∷ Ok (Branched (codes "again") 0) ∷ Ok (Called 2 (Handle 7)) ∷ []
unfolding serve call_by goto_by back_by branch_by follow_by pin_to by_root row put change objects waits queue packets any_row count_row supports support_count is_supported without goes rounds collect refresh settle links chain highest end direct step path state_at
root_job_killed = refl

-- a large letter in front, a branch and a moment that are not there, and a name of 32 bytes and one of 33
refused_names :
    answers (opening_session 1)
    (command.Branch (codes "Fix") ∷ command.Follow (codes "gone") ∷ command.Goto 7 ∷ command.Branch (replicate 33 97) ∷ command.Branch (replicate 32 97)
    ∷ command.Branch [] ∷ [])
    ≡ Err refusal.BadName ∷ Err refusal.NoBranch ∷ Err refusal.NoMoment ∷ Err refusal.BadName ∷ Ok (Branched (replicate 32 97) 0) ∷ Err refusal.BadName ∷ []
unfolding serve call_by goto_by back_by branch_by follow_by pin_to by_root path
refused_names = refl

-- a client that has no room is told so before it is told that it follows no branch
full_before_detached :
    answers (record { tree = opening_tree; clients = record first_client { rows = 4095 } ∷ [] }) (command.Goto 0 ∷ by_root call.EventCreate ∷ command.Pin ∷ [])
    ≡ Ok (At 0) ∷ Err refusal.ClientFull ∷ Err refusal.ClientFull ∷ []
unfolding serve call_by goto_by back_by branch_by follow_by pin_to by_root path
full_before_detached = refl

-- calls to be loaded, of which the second is refused: nobody runs there
not_loaded : loaded ((1025, call.TaskKill 3) ∷ (1025, call.EventCreate) ∷ (1025, call.EventCreate) ∷ []) ≡ Err (1, refusal.NoProcess)
unfolding row put change objects waits queue packets any_row count_row supports support_count is_supported without goes rounds collect refresh settle links chain highest end direct step path state_at
not_loaded = refl

-- ---- saved trees

-- an event on `main`, and a port on `fix` from the opening, which client 1 follows
abbrev example : Saved
example = record {
  moments = record { parent = 0; process = 1025; call = call.EventCreate } ∷ record { parent = 0; process = 1025; call = call.PortCreate } ∷ [];
  branches = record { name = main_name; head = 1 } ∷ record { name = codes "fix"; head = 2 } ∷ [];
  cursors = place.Follows (codes "fix") ∷ [];
}

-- `example`, but with its port made at this moment and by this process
abbrev second_made : ℕ → ℕ → Saved
second_made parent process = record example {
  moments = record { parent = 0; process = 1025; call = call.EventCreate } ∷ record { parent = parent; process = process; call = call.PortCreate } ∷ [];
}

-- `example` with these branches, each a name and its head
abbrev branched_so : List (List ℕ × ℕ) → Saved
branched_so branches = record example { branches = map (λ b. record { name = b.0; head = b.1 }) branches }

-- `example` with these cursors
abbrev placed : List SavedCursor → Saved
placed cursors = record example { cursors = cursors }

-- what is loaded, as it is written down
abbrev written : Result Session (ℕ × Refusal) → Result Saved (ℕ × Refusal)
written (Ok M) = Ok (saved_of_session M)
written (Err fault) = Err fault

-- what is loaded is written down as it was
saved_again : written (loaded_saved 1 example) ≡ Ok example
unfolding row put change objects waits queue packets any_row count_row supports support_count is_supported without goes rounds collect refresh settle links chain highest end direct step path state_at
saved_again = refl

-- client 2 has no cursor, and follows `main`
client_without_a_cursor : written (loaded_saved 2 example) ≡ Ok (placed (place.Follows (codes "fix") ∷ place.Follows main_name ∷ []))
unfolding row put change objects waits queue packets any_row count_row supports support_count is_supported without goes rounds collect refresh settle links chain highest end direct step path state_at
client_without_a_cursor = refl

-- the parent is to be an earlier moment, which is looked at before the process
parent_that_is_no_earlier_moment : loaded_saved 1 (second_made 2 7) ≡ Err (1, refusal.NoMoment)
unfolding row put change objects waits queue packets any_row count_row supports support_count is_supported without goes rounds collect refresh settle links chain highest end direct step path state_at
parent_that_is_no_earlier_moment = refl

process_that_does_not_run : loaded_saved 1 (second_made 1 7) ≡ Err (1, refusal.NoProcess)
unfolding row put change objects waits queue packets any_row count_row supports support_count is_supported without goes rounds collect refresh settle links chain highest end direct step path state_at
process_that_does_not_run = refl

-- branches have the numbers behind those of the moments
branch_before_its_moment : loaded_saved 1 (branched_so ((main_name, 1) ∷ (codes "fix", 3) ∷ [])) ≡ Err (3, refusal.NoMoment)
unfolding row put change objects waits queue packets any_row count_row supports support_count is_supported without goes rounds collect refresh settle links chain highest end direct step path state_at
branch_before_its_moment = refl

main_before_its_moment : loaded_saved 1 (branched_so ((main_name, 3) ∷ (codes "fix", 2) ∷ [])) ≡ Err (2, refusal.NoMoment)
unfolding row put change objects waits queue packets any_row count_row supports support_count is_supported without goes rounds collect refresh settle links chain highest end direct step path state_at
main_before_its_moment = refl

no_branch_at_all : loaded_saved 1 (branched_so []) ≡ Err (2, refusal.NoBranch)
unfolding row put change objects waits queue packets any_row count_row supports support_count is_supported without goes rounds collect refresh settle links chain highest end direct step path state_at
no_branch_at_all = refl

first_branch_not_main : loaded_saved 1 (branched_so ((codes "fix", 2) ∷ (main_name, 1) ∷ [])) ≡ Err (2, refusal.NoBranch)
unfolding row put change objects waits queue packets any_row count_row supports support_count is_supported without goes rounds collect refresh settle links chain highest end direct step path state_at
first_branch_not_main = refl

name_twice : loaded_saved 1 (branched_so ((main_name, 1) ∷ (codes "fix", 2) ∷ (codes "fix", 1) ∷ [])) ≡ Err (4, refusal.NameTaken)
unfolding row put change objects waits queue packets any_row count_row supports support_count is_supported without goes rounds collect refresh settle links chain highest end direct step path state_at
name_twice = refl

main_twice : loaded_saved 1 (branched_so ((main_name, 1) ∷ (main_name, 2) ∷ [])) ≡ Err (3, refusal.NameTaken)
unfolding row put change objects waits queue packets any_row count_row supports support_count is_supported without goes rounds collect refresh settle links chain highest end direct step path state_at
main_twice = refl

name_that_is_none : loaded_saved 1 (branched_so ((main_name, 1) ∷ (codes "Fix", 3) ∷ [])) ≡ Err (3, refusal.BadName)
unfolding row put change objects waits queue packets any_row count_row supports support_count is_supported without goes rounds collect refresh settle links chain highest end direct step path state_at
name_that_is_none = refl

-- cursors have the numbers behind those of moments and branches
cursor_at_an_unknown_branch : loaded_saved 1 (placed (place.Follows (codes "fi") ∷ [])) ≡ Err (4, refusal.NoBranch)
unfolding row put change objects waits queue packets any_row count_row supports support_count is_supported without goes rounds collect refresh settle links chain highest end direct step path state_at
cursor_at_an_unknown_branch = refl

cursor_at_an_unknown_moment : loaded_saved 1 (placed (place.At 3 ∷ [])) ≡ Err (4, refusal.NoMoment)
unfolding row put change objects waits queue packets any_row count_row supports support_count is_supported without goes rounds collect refresh settle links chain highest end direct step path state_at
cursor_at_an_unknown_moment = refl

-- a cursor beyond the clients is tested, and dropped
cursor_beyond_the_clients : written (loaded_saved 1 (placed (place.At 2 ∷ place.At 0 ∷ []))) ≡ Ok (placed (place.At 2 ∷ []))
unfolding row put change objects waits queue packets any_row count_row supports support_count is_supported without goes rounds collect refresh settle links chain highest end direct step path state_at
cursor_beyond_the_clients = refl

cursor_beyond_the_clients_tested : loaded_saved 1 (placed (place.At 2 ∷ place.At 3 ∷ [])) ≡ Err (5, refusal.NoMoment)
unfolding row put change objects waits queue packets any_row count_row supports support_count is_supported without goes rounds collect refresh settle links chain highest end direct step path state_at
cursor_beyond_the_clients_tested = refl

-- five clients are too many, whatever the tree
cursor_of_a_fifth : loaded_saved 5 (branched_so []) ≡ Err (0, refusal.TooManyClients)
unfolding row put change objects waits queue packets any_row count_row supports support_count is_supported without goes rounds collect refresh settle links chain highest end direct step path state_at
cursor_of_a_fifth = refl
