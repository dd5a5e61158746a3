-- Ending processes and jobs, as Fuchsia's reference has it of `zx_task_kill`, `zx_process_exit` and
-- `zx_job_set_critical`. That a kill is complete within its call, and that what has ended leaves its parent, is this
-- project's own profile.
use Rattle.std.specs.Prelude.{◌≡◌, ◌≢◌, ℕ, zero, suc, ◌+◌, Bool, true, false, not, ◌==◌, nat_lt, ◌&&◌, ◌||◌, if◌then◌else◌, List, [], ◌∷◌, length, Option, None, Some}
use Rattle.std.specs.List.{filter_map}
use Rattle.zt_rows.specs.declared.keys.RowKey.{RowKey}
use Rattle.zt_rows.specs.declared.keys.RowKey.TheVariants as key
use Rattle.zt_rows.specs.declared.rows.Life.{Life}
use Rattle.zt_rows.specs.declared.rows.ObjectRow.{ObjectRow}
use Rattle.zt_rows.specs.declared.rows.Row.{Row}
use Rattle.zt_rows.specs.declared.rows.Row.TheVariants as rows
use Rattle.zt_rows.specs.State.{State, change}
use Rattle.zt_rows.specs.Reads.{object, objects, is_job, is_live_job, is_live_process}
use Rattle.zt_rows.specs.Tests.{link_at, among}

-- ---- what is under a job

abbrev pub upward : ℕ → (ℕ → List ℕ) → List ℕ
upward zero above = []
upward (suc x) above = (suc x) ∷ above (suc x)

-- the koids that one comes to from x by links, at most so many of them
unfoldable pub links : ℕ → State → ℕ → List ℕ
links zero S x = []
links (suc n) S x = upward (link_at S x) (λ y. links n S y)

-- the jobs above a live process or job, the nearest first. Each has a smaller koid than the one below it, so
-- the bound never cuts the list short.
unfoldable pub chain : State → ℕ → List ℕ
chain S x = links (x + 1) S x

-- how many jobs are above
abbrev pub depth : State → ℕ → ℕ
depth S x = length (chain S x)

abbrev pub is_live_task : Option ObjectRow → Bool
is_live_task (Some o) = is_live_job o || is_live_process o
is_live_task None = false

-- the job itself, and each live job and process that has it above
abbrev pub is_under : State → ℕ → ℕ → Bool
is_under S job x = (x == job) || (is_live_task (object S x) && among (chain S x) job)

-- ---- what ends together

-- a set that ends together: with each koid in it all that is under it, and with each process the job that it is
-- critical to
pub record IsClosed (S : State) (ending : ℕ → Bool) : Type 0 where
  pub under : (job x : ℕ) → ending job ≡ true → is_under S job x ≡ true → ending x ≡ true
  pub critical : (x : ℕ) (o : ObjectRow) → object S x ≡ Some o → ending x ≡ true → o.critical ≢ 0 → ending o.critical ≡ true

-- the job that this object is critical to, where it is one under the job
abbrev pub critical_of : State → ℕ → ℕ × ObjectRow → Option ℕ
critical_of S job (x, o) = if is_under S job x && not (o.critical == 0) then Some o.critical else None

-- the jobs to which processes under the job are critical
abbrev pub criticals : State → ℕ → List ℕ
criticals S job = filter_map (critical_of S job) (objects S)

-- the smallest of these numbers and of those in the list
abbrev pub smallest : ℕ → List ℕ → ℕ
smallest n [] = n
smallest n (m ∷ ms) = smallest (if nat_lt m n then m else n) ms

-- at most so many times from a job to the highest one to which a process under it is critical: jobs above one
-- another have smaller koids the higher they are
unfoldable pub highest : ℕ → State → ℕ → ℕ
highest zero S job = job
highest (suc n) S job = let next : ℕ = smallest job (criticals S job) in if next == job then job else highest n S next

-- the highest job that ends where this one does; the bound never cuts the way short, as each step leads to a
-- smaller koid
abbrev pub top : State → ℕ → ℕ
top S job = highest (job + 1) S job

abbrev pub job_or_critical : ℕ → Option ObjectRow → ℕ
job_or_critical x (Some o) = if is_job o.kind then x else o.critical
job_or_critical x None = 0

-- the job that ends where this job or process does: itself, or the one that it is critical to; 0 for none
abbrev pub job_ending : State → ℕ → ℕ
job_ending S x = job_or_critical x (object S x)

-- what ends with the live process or job: the least closed set that has it
abbrev pub ends_with : State → ℕ → ℕ → Bool
ends_with S task x = if job_ending S task == 0 then x == task else is_under S (top S (job_ending S task)) x

-- ---- ending

-- what has ended has no parent and no entries and is critical to nothing, and the waits made on its entries go
abbrev pub left_by : (ℕ → Bool) → Life → RowKey → Row → Option Row
left_by ending how (key.Object x) (rows.Object o) =
    Some (rows.Object (record o { link = if ending x then 0 else o.link; life = if ending x then how else o.life; critical = if ending x then 0 else o.critical }))
left_by ending how (key.Entry p h) (rows.Entry held) = if ending p then None else Some (rows.Entry held)
left_by ending how (key.Wait n) (rows.Wait w) = if ending w.process then None else Some (rows.Wait w)
left_by ending how k r = Some r

-- all members of a set of live processes and jobs end so
unfoldable pub end : State → (ℕ → Bool) → Life → State
end S ending how = change (left_by ending how) S
