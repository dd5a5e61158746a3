-- Saved trees that were written and read by hand, as theorems: what reads as a tree, and where each fault is.
use Rattle.std.proofs.Common.{◌≡◌, ℕ, List, [], ◌∷◌, ◌++◌, Ok, Err, refl}
use Rattle.std.specs.Prelude.{codes, ⊤}
use Rattle.std.specs.Fmt.{digits}
use Rattle.zt_rows.specs.declared.refusals.Refusal.TheVariants.{BadLine}
use Rattle.zt_rows.specs.declared.calls.Call.TheVariants as calls
use Rattle.zt_rows.specs.declared.saved.Saved.{Saved}
use Rattle.zt_rows.specs.declared.saved.SavedCall.{SavedCall}
use Rattle.zt_rows.specs.declared.saved.SavedBranch.{SavedBranch}
use Rattle.zt_rows.specs.declared.saved.Cursor.{Cursor}
use Rattle.zt_rows.specs.declared.saved.Cursor.TheVariants.{Follows, At}
use Rattle.zt_text.specs.Numbers.{decimal_of}
use Rattle.zt_text.specs.Names.{name_of}
use Rattle.zt_text.specs.Fields.{placed, field, ended}
use Rattle.zt_text.specs.ReadCalls.{event_create, handle_close, port_create, task_call_named, port_call_named, channel_call_named, handle_call_named, call_named, any_call_named, call, process_call}
use Rattle.zt_text.specs.ReadLines.{fields_in, only_name}
use Rattle.zt_text.specs.Session.{call_in, calls_in, session_of}
use Rattle.zt_text.specs.Calls.{shown_call}
use Rattle.zt_text.specs.SavedTexts.{saved_text, saved_call, saved_branch, follows, at_moment, place_named, saved_cursor, with_call, with_branch, with_cursor, with_word, with_fields, with_line, with_lines, saved_of}

-- what is unfolded to read a text
unfoldable read_on_literals : ⊤
unfolding decimal_of name_of placed field ended event_create handle_close port_create task_call_named port_call_named channel_call_named handle_call_named call_named any_call_named call process_call fields_in only_name call_in calls_in session_of saved_call saved_branch follows at_moment place_named saved_cursor with_call with_branch with_cursor with_word with_fields with_line with_lines saved_of
read_on_literals = tt

abbrev lines : List (List ℕ) → List ℕ
lines [] = []
lines (line ∷ others) = line ++ (10 ∷ lines others)

abbrev tree : List SavedCall → List SavedBranch → List Cursor → Saved
tree moments branches cursors = record { moments = moments; branches = branches; cursors = cursors }

-- two moments behind the opening, two branches and a cursor
abbrev forked : Saved
forked =
    tree (record { parent = 0; process = 1025; call = calls.EventCreate } ∷ record { parent = 0; process = 1025; call = calls.PortCreate } ∷ [])
    (record { name = codes "main"; head = 1 } ∷ record { name = codes "fix"; head = 2 } ∷ [])
    (Follows (codes "fix") ∷ [])

abbrev forked_text : List ℕ
forked_text =
    lines (codes "zxtt 2" ∷ codes "call 0 1025 event_create" ∷ codes "call 0 1025 port_create" ∷ codes "branch main 1" ∷ codes "branch fix 2"
    ∷ codes "cursor 1 follow fix" ∷ [])

shows_a_tree : saved_text forked ≡ forked_text
unfolding digits shown_call saved_text
shows_a_tree = refl

reads_a_tree : saved_of forked_text ≡ Ok forked
unfolding read_on_literals
reads_a_tree = refl

abbrev behind_first : List ℕ → List ℕ
behind_first bytes = codes "zxtt 2" ++ (10 ∷ bytes)

record Trees : Type 0 where
  nothing : saved_of (codes "zxtt 2") ≡ Ok (tree [] [] [])
  two_cursors : saved_of (behind_first (lines (codes "cursor 1 at 7" ∷ []) ++ codes "cursor 2 follow x")) ≡ Ok (tree [] [] (At 7 ∷ Follows (codes "x") ∷ []))
  four_cursors : saved_of (behind_first (lines (codes "cursor 1 at 0" ∷ codes "cursor 2 at 0" ∷ codes "cursor 3 at 0" ∷ codes "cursor 4 at 4294967295" ∷ []))) ≡ Ok (tree [] [] (At 0 ∷ At 0 ∷ At 0 ∷ At 4294967295 ∷ []))
  skipped : saved_of (behind_first (lines ([] ∷ codes "# x" ∷ codes "branch main 0" ∷ [] ∷ []))) ≡ Ok (tree [] (record { name = codes "main"; head = 0 } ∷ []) [])

reads_trees : Trees
unfolding read_on_literals
reads_trees = record {
  nothing = refl;
  two_cursors = refl;
  four_cursors = refl;
  skipped = refl;
}

-- what is no line of a tree, and what is out of order
record FaultyLines : Type 0 where
  word : saved_of (behind_first (codes "calls 0 1025 event_create")) ≡ Err (2, BadLine 1)
  process_first : saved_of (behind_first (codes "1025 event_create")) ≡ Err (2, BadLine 1)
  counted : saved_of (behind_first (10 ∷ codes "x")) ≡ Err (3, BadLine 1)
  call_behind_branch : saved_of (behind_first (lines (codes "branch main 0" ∷ []) ++ codes "call x")) ≡ Err (3, BadLine 1)
  call_behind_cursor : saved_of (behind_first (lines (codes "cursor 1 at 0" ∷ []) ++ codes "call 0 1025 event_create")) ≡ Err (3, BadLine 1)
  branch_behind_cursor : saved_of (behind_first (lines (codes "cursor 1 at 0" ∷ []) ++ codes "branch")) ≡ Err (3, BadLine 1)

tells_faulty_lines : FaultyLines
unfolding read_on_literals
tells_faulty_lines = record {
  word = refl;
  process_first = refl;
  counted = refl;
  call_behind_branch = refl;
  call_behind_cursor = refl;
  branch_behind_cursor = refl;
}

-- the fields of a moment and of a branch
record FaultyFields : Type 0 where
  parent : saved_of (behind_first (codes "call -1 1025 event_create")) ≡ Err (2, BadLine 6)
  large_parent : saved_of (behind_first (codes "call 4294967296 1025 event_create")) ≡ Err (2, BadLine 6)
  process : saved_of (behind_first (codes "call 0 x event_create")) ≡ Err (2, BadLine 8)
  name_of_call : saved_of (behind_first (codes "call 0 1025 event")) ≡ Err (2, BadLine 13)
  argument : saved_of (behind_first (codes "call 0 1025 handle_close x")) ≡ Err (2, BadLine 26)
  surplus : saved_of (behind_first (codes "call 0 1025 event_create x")) ≡ Err (2, BadLine 26)
  no_parent : saved_of (behind_first (codes "call")) ≡ Err (2, BadLine 5)
  no_name : saved_of (behind_first (codes "branch")) ≡ Err (2, BadLine 7)
  empty_name : saved_of (behind_first (codes "branch  1")) ≡ Err (2, BadLine 8)
  head : saved_of (behind_first (codes "branch main x")) ≡ Err (2, BadLine 13)
  no_head : saved_of (behind_first (codes "branch main")) ≡ Err (2, BadLine 12)
  surplus_of_branch : saved_of (behind_first (codes "branch main 1 2")) ≡ Err (2, BadLine 15)

tells_faulty_fields : FaultyFields
unfolding read_on_literals
tells_faulty_fields = record {
  parent = refl;
  large_parent = refl;
  process = refl;
  name_of_call = refl;
  argument = refl;
  surplus = refl;
  no_parent = refl;
  no_name = refl;
  empty_name = refl;
  head = refl;
  no_head = refl;
  surplus_of_branch = refl;
}

-- the fields of a cursor
record FaultyCursors : Type 0 where
  second_first : saved_of (behind_first (codes "cursor 2 at 0")) ≡ Err (2, BadLine 8)
  first_twice : saved_of (behind_first (lines (codes "cursor 1 at 0" ∷ []) ++ codes "cursor 1 x")) ≡ Err (3, BadLine 8)
  fifth : saved_of (behind_first (lines (codes "cursor 1 at 0" ∷ codes "cursor 2 at 0" ∷ codes "cursor 3 at 0" ∷ codes "cursor 4 at 0" ∷ []) ++ codes "cursor 5 at 0")) ≡ Err (6, BadLine 8)
  zero_in_front : saved_of (behind_first (codes "cursor 01 at 0")) ≡ Err (2, BadLine 8)
  no_client : saved_of (behind_first (codes "cursor")) ≡ Err (2, BadLine 7)
  place : saved_of (behind_first (codes "cursor 1 on 0")) ≡ Err (2, BadLine 10)
  no_place : saved_of (behind_first (codes "cursor 1")) ≡ Err (2, BadLine 9)
  moment : saved_of (behind_first (codes "cursor 1 at x")) ≡ Err (2, BadLine 13)
  no_name : saved_of (behind_first (codes "cursor 1 follow")) ≡ Err (2, BadLine 16)
  surplus : saved_of (behind_first (codes "cursor 1 follow x y")) ≡ Err (2, BadLine 19)

tells_faulty_cursors : FaultyCursors
unfolding read_on_literals
tells_faulty_cursors = record {
  second_first = refl;
  first_twice = refl;
  fifth = refl;
  zero_in_front = refl;
  no_client = refl;
  place = refl;
  no_place = refl;
  moment = refl;
  no_name = refl;
  surplus = refl;
}

-- the first line, and texts of version 1
record Versions : Type 0 where
  empty : saved_of [] ≡ Err (1, BadLine 1)
  other : saved_of (codes "zxtt 3") ≡ Err (1, BadLine 1)
  comment_first : saved_of (lines (codes "# x" ∷ codes "zxtt 2" ∷ [])) ≡ Err (1, BadLine 1)
  space_behind : saved_of (codes "zxtt 2 ") ≡ Err (1, BadLine 1)
  no_calls : saved_of (codes "zxtt 1") ≡ Ok (tree [] (record { name = codes "main"; head = 0 } ∷ []) [])
  two_calls : saved_of (lines (codes "zxtt 1" ∷ codes "1025 event_create" ∷ codes "1026 port_create" ∷ []))
      ≡ Ok (tree (record { parent = 0; process = 1025; call = calls.EventCreate } ∷ record { parent = 1; process = 1026; call = calls.PortCreate } ∷ [])
      (record { name = codes "main"; head = 2 } ∷ []) [])
  line_of_the_other : saved_of (lines (codes "zxtt 1" ∷ codes "call 0 1025 event_create" ∷ [])) ≡ Err (2, BadLine 1)

reads_versions : Versions
unfolding read_on_literals
reads_versions = record {
  empty = refl;
  other = refl;
  comment_first = refl;
  space_behind = refl;
  no_calls = refl;
  two_calls = refl;
  line_of_the_other = refl;
}
