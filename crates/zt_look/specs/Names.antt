-- Rights and signals as a line shows them: as a mask, or by the names of their bits. The names are those of Fuchsia's
-- reference, without what all of them begin with; the bits are zt_bits'.
use Rattle.std.specs.Prelude.{ℕ, ◌-◌, ◌==◌, Bool, true, false, List, [], ◌∷◌, ◌++◌, Option, None, Some, if◌then◌else◌, bit_and, codes}
use Rattle.zt_bits.specs.declared.kinds.Kind.{Kind}
use Rattle.zt_bits.specs.declared.kinds.Kind.TheVariants as kind
use Rattle.std.specs.List.{join_with_byte}
use Rattle.zt_text.specs.ShownNumbers.{shown_mask}
use Rattle.zt_look.specs.declared.lines.names.Naming.{Naming}

-- a bit, as the mask that has it alone, and its name
abbrev pub Names : Type 0
Names = List (ℕ × List ℕ)

abbrev pub right_names : Names
right_names =
    (0x1, codes "DUPLICATE") ∷ (0x2, codes "TRANSFER") ∷ (0x4, codes "READ") ∷ (0x8, codes "WRITE") ∷ (0x200, codes "DESTROY")
    ∷ (0x1000, codes "SIGNAL") ∷ (0x2000, codes "SIGNAL_PEER") ∷ (0x4000, codes "WAIT") ∷ (0x8000, codes "INSPECT")
    ∷ (0x10000, codes "MANAGE_JOB") ∷ (0x20000, codes "MANAGE_PROCESS") ∷ (0x80000000, codes "SAME_RIGHTS") ∷ []

-- bit 3 and its name, of an object of this kind; it has none where the kind is not known
abbrev pub bit_3 : Option Kind → Names
bit_3 None = []
bit_3 (Some kind.Job) = (0x8, codes "TERMINATED") ∷ []
bit_3 (Some kind.Process) = (0x8, codes "TERMINATED") ∷ []
bit_3 (Some _) = (0x8, codes "SIGNALED") ∷ []

abbrev pub signal_names : Option Kind → Names
signal_names of_kind =
    ((0x1, codes "READABLE") ∷ (0x2, codes "WRITABLE") ∷ (0x4, codes "PEER_CLOSED") ∷ []) ++ bit_3 of_kind
    ++ (0x10, codes "NO_JOBS") ∷ (0x20, codes "NO_PROCESSES")
    ∷ (0x1000000, codes "USER_0") ∷ (0x2000000, codes "USER_1") ∷ (0x4000000, codes "USER_2") ∷ (0x8000000, codes "USER_3")
    ∷ (0x10000000, codes "USER_4") ∷ (0x20000000, codes "USER_5") ∷ (0x40000000, codes "USER_6") ∷ (0x80000000, codes "USER_7") ∷ []

-- the names of the bits of a mask in the order of the names, and behind them the bits that have no name, as a mask
abbrev pub bit_words : Names → ℕ → List (List ℕ)
bit_words [] bits = if bits == 0 then [] else shown_mask bits ∷ []
bit_words ((bit, name) ∷ others) bits =
    if bit_and bits bit == 0 then bit_words others bits else name ∷ bit_words others (bits - bit)

-- the words of `bit_words` with a bar between, or `NONE` where no bit is set
unfoldable pub shown_bits : Names → ℕ → List ℕ
shown_bits names bits = if bits == 0 then codes "NONE" else join_with_byte 124 (bit_words names bits)

-- rights and signals by their names, where these are asked for
unfoldable pub shown_rights : Bool → ℕ → List ℕ
shown_rights true bits = shown_bits right_names bits
shown_rights false bits = shown_mask bits

unfoldable pub shown_signals : Naming → ℕ → List ℕ
shown_signals naming bits = if naming.names then shown_bits (signal_names naming.kind) bits else shown_mask bits

-- rights and signals are shown as masks
abbrev pub masks : Naming
masks = record { names = false; kind = None }
