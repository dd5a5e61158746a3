-- A history after a call, and where it stands again once the call is taken back. Used by proofs only.
use Rattle.std.specs.Prelude.{ℕ, suc, None, Some}
use Rattle.zt_rows.specs.declared.calls.Call.{Call}
use Rattle.zt_history.specs.Tree.{last_moment, called, parent_at}
use Rattle.zt_history.specs.Timeline.{Timeline, at_head}
use Rattle.zt_history.specs.ProofsOnly.Branches.{without_last}

-- a call at the head of this branch, and where it stands again once that is taken back
abbrev pub after_call : Timeline → ℕ → ℕ → Call → Timeline
after_call h b process call = record { tree = called h.tree b process call; position = suc (last_moment h.tree); before = Some (at_head h b) }

-- without the last moment, at which it stood; it stands at the parent
abbrev pub without_moment : Timeline → Timeline
without_moment h = record { tree = record { made = without_last h.tree.made; branches = h.tree.branches }; position = parent_at h.tree.made h.position; before = None }
