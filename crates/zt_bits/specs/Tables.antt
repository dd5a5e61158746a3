-- The tables of rights and signals: what a kind's new handle may do, what a request for rights gets, and
-- which signals a call may set. Bits of rights and signals as in Fuchsia's reference of handle rights and
-- of kernel objects' signals; the default masks are this project's own profile.
use Rattle.std.specs.Prelude.{◌≡◌, ℕ, ◌==◌, if◌then◌else◌, Option, Some, None, bit_and}
use Rattle.zt_bits.specs.declared.kinds.Kind.{Kind}
use Rattle.zt_bits.specs.declared.kinds.Kind.TheVariants.{Job, Process, Channel, Event, EventPair, Port}

-- every bit of `wanted` is one of `held`
abbrev pub IsSubset : ℕ → ℕ → Type 0
IsSubset wanted held = bit_and held wanted ≡ wanted

-- the rights of the first handle to a new object
abbrev pub default_rights : Kind → ℕ
default_rights Job = 0x3d203
default_rights Process = 0xd203
default_rights Channel = 0xf00e
default_rights Event = 0xd003
default_rights EventPair = 0xf003
default_rights Port = 0x800f

-- what a request gets of the rights `old`: bit 31 alone asks for the same; else only a subset is given
abbrev pub asked_rights : ℕ → ℕ → Option ℕ
asked_rights mask old =
    if mask == 0x80000000 then Some old else (if bit_and old mask == mask then Some mask else None)

-- the signals that a call may set or clear: bit 3 of an event and an event pair, and the user's bits 24 to 31
abbrev pub settable_signals : Kind → ℕ
settable_signals Job = 0xff000000
settable_signals Process = 0xff000000
settable_signals Channel = 0xff000000
settable_signals Event = 0xff000008
settable_signals EventPair = 0xff000008
settable_signals Port = 0
