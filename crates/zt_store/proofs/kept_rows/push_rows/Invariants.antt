use Rattle.std.proofs.Common.{◌≡◌, vec_capacity}
use Rattle.zt_store.proofs.TakenRows.{IsPushing}
use Rattle.zt_store.proofs.kept_rows.push_rows.Given as goal

-- the rows so far were taken out, the others stand as they were
abbrev pub invariant-loop-place : goal.invariant-loop-place
invariant-loop-place l =
    IsPushing l.fn.firsts.rows l.order l.place l.keys.items l.rows.items l.firsts.rows × (vec_capacity l.keys ≡ vec_capacity l.fn.keys) × (vec_capacity l.rows ≡ vec_capacity l.fn.rows)
