-- The state in which every history begins: the root job, and the root process with one handle to it. This
-- project's own profile; rights and signals as in Fuchsia's reference of handle rights and of the job object.
use Rattle.std.specs.Prelude.{List, [], ◌∷◌}
use Rattle.zt_bits.specs.declared.kinds.Kind.TheVariants as kind
use Rattle.zt_rows.specs.declared.keys.RowKey.{RowKey}
use Rattle.zt_rows.specs.declared.keys.RowKey.TheVariants as key
use Rattle.zt_rows.specs.declared.rows.Life.TheVariants as life
use Rattle.zt_rows.specs.declared.rows.Row.{Row}
use Rattle.zt_rows.specs.declared.rows.Row.TheVariants as rows
use Rattle.zt_rows.specs.State.{State, state_of}

-- the root job, 1024, with a live process under it and no live job (0x10); the root process, 1025, which holds
-- the root job by handle 3 with all rights to a job (0x3d203); 1026 and 0 are the next koid and wait
abbrev pub opening_rows : List (RowKey × Row)
opening_rows =
    (key.Counters, rows.Counters (record { next_koid = 1026; next_wait = 0 }))
    ∷ (key.Object 1024, rows.Object (record { kind = kind.Job; signals = record { 0 = 0x10 }; link = 0; life = life.Live; next = 0; critical = 0 }))
    ∷ (key.Object 1025, rows.Object (record { kind = kind.Process; signals = record { 0 = 0 }; link = 1024; life = life.Live; next = 1; critical = 0 }))
    ∷ (key.Entry 1025 3, rows.Entry (record { koid = 1024; rights = record { 0 = 0x3d203 } })) ∷ []

abbrev pub opening : State
opening = state_of opening_rows

-- the state of a system that has nothing but counters, at 0
unfoldable pub hollow : State
hollow = state_of ((key.Counters, rows.Counters (record { next_koid = 0; next_wait = 0 })) ∷ [])
