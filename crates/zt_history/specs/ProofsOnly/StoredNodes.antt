-- What is kept of each moment, as a list of nodes, and as it lies in memory: nodes with the places of their calls and replies,
-- of which some are shared. Used by proofs only.
use Rattle.std.specs.Prelude.{◌≡◌, ◌⊎◌, ℕ, suc, ◌<◌, Bool, true, false, nat_lt, List, [], ◌∷◌, ◌++◌, length, Some, slice_get, slice_index_or}
use Rattle.zt_bits.specs.declared.statuses.Status.TheVariants as status
use Rattle.zt_rows.specs.declared.calls.Call.{Call}
use Rattle.zt_rows.specs.declared.calls.Call.TheVariants as calls
use Rattle.zt_rows.specs.declared.calls.Reply.{Reply}
use Rattle.zt_rows.specs.declared.calls.Reply.TheVariants as replies
use Rattle.zt_history.specs.declared.moment_nodes.StoredNode.{StoredNode}
use Rattle.zt_history.specs.ProofsOnly.Branches.{without_last}

-- how a moment was made, and how long its path is
pub record MomentNode : Type 0 where
  pub parent : ℕ
  pub depth : ℕ
  pub process : ℕ
  pub call : Call
  pub reply : Reply

-- the process of the call, and the call
abbrev pub caller_of : MomentNode → ℕ × Call
caller_of n = (n.process, n.call)

-- the nodes, and whether one more takes no memory
pub record NodeList : Type 0 where
  pub list : List MomentNode
  pub room : Bool

abbrev pub has_room : {X : Type 0} → List X → ℕ → Bool
has_room xs capacity = nat_lt (length xs) capacity

-- ---- calls and replies that are shared

-- those without an argument
abbrev pub shared_calls : List Call
shared_calls = calls.EventCreate ∷ calls.EventPairCreate ∷ calls.ChannelCreate ∷ calls.PortCreate ∷ []

-- those that are a status alone
abbrev pub shared_replies : List Reply
shared_replies =
    replies.Status status.Ok
    ∷ replies.Status status.BadHandle
    ∷ replies.Status status.WrongType
    ∷ replies.Status status.AccessDenied
    ∷ replies.Status status.InvalidArgs
    ∷ replies.Status status.NotSupported
    ∷ replies.Status status.PeerClosed
    ∷ replies.Status status.ShouldWait
    ∷ replies.Status status.BufferTooSmall
    ∷ replies.Status status.TimedOut
    ∷ replies.Status status.BadState
    ∷ replies.Status status.OutOfRange
    ∷ replies.Status status.NotFound
    ∷ replies.Status status.AlreadyBound
    ∷ []

-- what is read beyond the end of a list, which nothing does
abbrev pub no_call : Call
no_call = calls.EventCreate

abbrev pub no_reply : Reply
no_reply = replies.Status status.Ok

-- the shared ones stand first
abbrev pub HasShared : {X : Type 0} → List X → List X → Type 0
HasShared {X} shared kept = (i : ℕ) (x : X) → slice_get shared i ≡ Some x → slice_get kept i ≡ Some x

-- ---- the nodes

abbrev pub node_as : List Call → List Reply → StoredNode → ℕ → MomentNode
node_as calls replies n parent = record {
  parent = parent;
  depth = n.depth;
  process = n.process;
  call = slice_index_or calls n.call no_call;
  reply = slice_index_or replies n.reply no_reply;
}

abbrev pub nodes_of : List Call → List Reply → List StoredNode → List ℕ → List MomentNode
nodes_of calls replies [] parents = []
nodes_of calls replies (n ∷ ns) [] = []
nodes_of calls replies (n ∷ ns) (p ∷ ps) = node_as calls replies n p ∷ nodes_of calls replies ns ps

-- each has a place before those that are taken by then, or owns the next one; behind the last that is `end`
abbrev pub Fills : (StoredNode → ℕ) → (StoredNode → Bool) → ℕ → List StoredNode → ℕ → Type 0
Fills place owns from [] end = from ≡ end
Fills place owns from (n ∷ ns) end =
    ((owns n ≡ false) × (place n < from) × Fills place owns from ns end) ⊎ ((owns n ≡ true) × (place n ≡ from) × Fills place owns (suc from) ns end)

-- a list of the shared ones, and of those that a node owns
pub record IsFilled {X : Type 0} (place : StoredNode → ℕ) (owns : StoredNode → Bool) (shared : List X) (nodes : List StoredNode) (kept : List X) : Type 0 where
  pub begins : HasShared shared kept
  pub fills : Fills place owns (length shared) nodes (length kept)

pub record AreStored (calls : List Call) (replies : List Reply) (nodes : List StoredNode) (parents : List ℕ) : Type 0 where
  pub many : length parents ≡ length nodes
  pub calls_stand : IsFilled (λ n. n.call) (λ n. n.owns_call) shared_calls nodes calls
  pub replies_stand : IsFilled (λ n. n.reply) (λ n. n.owns_reply) shared_replies nodes replies

-- each place is one of the list
abbrev pub AreWithin : {X : Type 0} → (StoredNode → ℕ) → List StoredNode → List X → Type 0
AreWithin place nodes kept = (i : ℕ) (n : StoredNode) → slice_get nodes i ≡ Some n → place n < length kept

-- ---- one more and one less

-- x has this place then, one that it had before or, where it is owned, a new one at the end
pub record IsPut {X : Type 0} (none : X) (old new : List X) (x : X) (place : ℕ) (owned : Bool) : Type 0 where
  pub more : List X
  pub grown : new ≡ old ++ more
  pub there : slice_index_or new place none ≡ x
  pub stands : ((owned ≡ false) × (place < length old) × (length new ≡ length old)) ⊎ ((owned ≡ true) × (place ≡ length old) × (length new ≡ suc (length old)))

-- the last one goes, if it is owned
abbrev pub IsCut : {X : Type 0} → Bool → List X → List X → Type 0
IsCut owned old new = ((owned ≡ false) × (new ≡ old)) ⊎ ((owned ≡ true) × (new ≡ without_last old))
