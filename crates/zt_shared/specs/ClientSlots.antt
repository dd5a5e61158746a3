-- A client's side of its account, among those of four clients.
use Rattle.std.specs.Prelude.{ℕ, List}
use Rattle.zt_rows.specs.declared.calls.Answer.{Answer}
use Rattle.zt_rows.specs.declared.calls.Command.{Command}
use Rattle.zt_shared.specs.declared.pass.Slot.{Slot}
use Rattle.zt_shared.specs.declared.pass.Slot.TheVariants.{First, Second, Third, Fourth}

module _ {A B C D : Type 0} where
  abbrev pub slot_number : Slot A B C D → ℕ
  slot_number (First side) = 1
  slot_number (Second side) = 2
  slot_number (Third side) = 3
  slot_number (Fourth side) = 4

  abbrev pub slot_rows : Slot A B C D → List (Command × Answer)
  slot_rows (First side) = side.rows
  slot_rows (Second side) = side.rows
  slot_rows (Third side) = side.rows
  slot_rows (Fourth side) = side.rows
