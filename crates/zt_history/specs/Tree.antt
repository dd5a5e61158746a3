-- The tree of moments. Moment 0 is the opening; every other moment was made by one call of one process, at an earlier
-- moment, its parent. A branch is a name with a moment, its head. The state of a moment is what running the calls on
-- the path to it leads to, from the opening. This project's own.
use Rattle.std.specs.Prelude.{ℕ, zero, suc, ◌-◌, List, [], ◌∷◌, ◌++◌, length, codes, Option, None, Some, slice_get, slice_index_or, position}
use Rattle.std.specs.List.{filter_map}
use Rattle.std.specs.Option.{option_map}
use Rattle.std.specs.Str.{bytes_eq}
use Rattle.zt_rows.specs.declared.calls.Call.{Call}
use Rattle.zt_rows.specs.declared.calls.Reply.{Reply}
use Rattle.zt_rows.specs.State.{State}
use Rattle.zt_rows.specs.Opening.{opening}
use Rattle.zt_rows.specs.Step.{step, run}

-- how a moment was made: at which moment, by which call of which process, and what the call answered
pub record Made : Type 0 where
  pub parent : ℕ
  pub process : ℕ
  pub call : Call
  pub reply : Reply

pub record Branch : Type 0 where
  pub name : List ℕ
  pub head : ℕ

-- moments and branches, each in the order in which they were made: moment i + 1 is the i-th of the list
pub record Tree : Type 0 where
  pub made : List Made
  pub branches : List Branch

abbrev pub main_name : List ℕ
main_name = codes "main"

-- the opening alone, with the branch that is there from the start
abbrev pub opening_tree : Tree
opening_tree = record { made = []; branches = record { name = main_name; head = 0 } ∷ [] }

-- the last moment
abbrev pub last_moment : Tree → ℕ
last_moment t = length t.made

-- ---- one moment; none of these for the opening, nor beyond the last moment

abbrev pub made_at : List Made → ℕ → Option Made
made_at made zero = None
made_at made (suc i) = slice_get made i

abbrev pub parent_of : Option Made → ℕ
parent_of (Some e) = e.parent
parent_of None = 0

abbrev pub parent_at : List Made → ℕ → ℕ
parent_at made m = parent_of (made_at made m)

-- the call, with its process
abbrev pub call_at : List Made → ℕ → Option (ℕ × Call)
call_at made m = option_map (λ e. (e.process, e.call)) (made_at made m)

abbrev pub reply_at : List Made → ℕ → Option Reply
reply_at made m = option_map (λ e. e.reply) (made_at made m)

-- ---- the path to a moment

-- at most so many moments of it, the nearest
abbrev pub upto : ℕ → List Made → ℕ → List ℕ
upto zero made m = []
upto (suc n) made zero = []
upto (suc n) made (suc i) = upto n made (parent_at made (suc i)) ++ suc i ∷ []

-- the moments after the opening up to this one; since a parent is earlier, there are no more of them than its number
unfoldable pub path : List Made → ℕ → List ℕ
path made m = upto m made m

-- the last of a list of moments, or else the opening
abbrev pub end_of : List ℕ → ℕ
end_of way = slice_index_or way (length way - 1) 0

-- the calls on the path, each with its process, and what they answered
abbrev pub calls_to : List Made → ℕ → List (ℕ × Call)
calls_to made m = filter_map (call_at made) (path made m)

abbrev pub replies_to : List Made → ℕ → List Reply
replies_to made m = filter_map (reply_at made) (path made m)

unfoldable pub state_at : List Made → ℕ → State
state_at made m = (run opening (calls_to made m)).0

-- ---- branches

-- the number of the branch of this name
abbrev pub branch_named : List Branch → List ℕ → Option ℕ
branch_named branches name = position (λ b. bytes_eq name b.name) branches

abbrev pub branch_head : Option Branch → ℕ
branch_head (Some b) = b.head
branch_head None = 0

abbrev pub head_at : List Branch → ℕ → ℕ
head_at branches i = branch_head (slice_get branches i)

abbrev pub branch_name : Option Branch → List ℕ
branch_name (Some b) = b.name
branch_name None = []

abbrev pub name_at : List Branch → ℕ → List ℕ
name_at branches i = branch_name (slice_get branches i)

-- the branches with this head for the one of this number
abbrev pub headed : List Branch → ℕ → ℕ → List Branch
headed [] i m = []
headed (b ∷ bs) zero m = record b { head = m } ∷ bs
headed (b ∷ bs) (suc i) m = b ∷ headed bs i m

-- ---- one more moment, one more branch

-- what a call makes at a moment
abbrev pub made_by : List Made → ℕ → ℕ → Call → Made
made_by made m process call = record {
  parent = m;
  process = process;
  call = call;
  reply = (step (state_at made m) process call).1;
}

abbrev pub grown : List Made → ℕ → ℕ → Call → List Made
grown made m process call = made ++ made_by made m process call ∷ []

-- the tree with one moment more, which a call makes at a moment; no head moves
abbrev pub grown_at : Tree → ℕ → ℕ → Call → Tree
grown_at t m process call = record { made = grown t.made m process call; branches = t.branches }

-- the tree with another head for a branch
abbrev pub head_moved : Tree → ℕ → ℕ → Tree
head_moved t b m = record { made = t.made; branches = headed t.branches b m }

-- the tree after a call at the head of a branch, which moves to the new moment
abbrev pub called : Tree → ℕ → ℕ → Call → Tree
called t b process call = head_moved (grown_at t (head_at t.branches b) process call) b (suc (last_moment t))

-- the tree with one branch more, behind the others
abbrev pub branched : Tree → List ℕ → ℕ → Tree
branched t name m = record { made = t.made; branches = t.branches ++ record { name = name; head = m } ∷ [] }
