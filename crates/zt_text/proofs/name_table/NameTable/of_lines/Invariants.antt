use Rattle.std.proofs.Common.{◌≡◌, ℕ, length, None}
use Rattle.std.specs.Ordering.{nat_cmp}
use Rattle.std.specs.BTreeMap.{get}
use Rattle.zt_text.specs.declared.name_lines.Subject.TheVariants.{Object, Handle}
use Rattle.zt_text.specs.Lines.{lines_of}
use Rattle.zt_text.specs.Notes.{last_name}
use Rattle.zt_text.specs.ProofsOnly.Notes.{pair_cmp}
use Rattle.zt_text.proofs.name_table.NameTable.of_lines.Given as goal

-- the last name among all lines is that among the lines left, else the one in the table
abbrev pub invariant-lines : goal.invariant-lines
invariant-lines l = record {
  objects : (koid : ℕ) → last_name (Object koid) None (lines_of l.fn.lines) ≡ last_name (Object koid) (get nat_cmp l.table.objects koid) (lines_of l.left);
  handles : (process handle : ℕ) → last_name (Handle process handle) None (lines_of l.fn.lines) ≡ last_name (Handle process handle) (get pair_cmp l.table.handles (process, handle)) (lines_of l.left);
}

abbrev pub decreases-lines : goal.decreases-lines
decreases-lines l = length l.left
