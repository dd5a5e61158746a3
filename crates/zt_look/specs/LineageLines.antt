-- The lines of the handles that named an object, in the order of their tree.
use Rattle.std.specs.Prelude.{ℕ, zero, suc, Bool, List, [], ◌∷◌, ◌++◌, Option, None, Some, codes}
use Rattle.std.specs.Fmt.{decimal}
use Rattle.zt_rows.specs.declared.calls.Call.{Call}
use Rattle.zt_lineage.specs.declared.origins.Origin.{Origin}
use Rattle.zt_lineage.specs.declared.origins.Origin.TheVariants.{From}
use Rattle.zt_look.specs.declared.handle_tree.LineageStep.{LineageStep}
use Rattle.zt_look.specs.declared.object_handles.Leaving.{Leaving}
use Rattle.zt_look.specs.declared.object_handles.Leaving.TheVariants as leaving
use Rattle.zt_look.specs.declared.object_handles.ObjectHandle.{ObjectHandle}
use Rattle.zt_look.specs.LifeLines.{coming_word, ending_word, passing_word, place_text, rights_at}
use Rattle.zt_look.specs.Lines.{line}

-- two spaces for each copy above
abbrev pub indent : ℕ → List ℕ
indent zero = []
indent (suc depth) = indent depth ++ 32 ∷ 32 ∷ []

-- how the handle left, by a call, if there is one
abbrev pub leaving_word : Leaving → Option (ℕ × Call) → List ℕ
leaving_word (leaving.Ended how) by = ending_word how
leaving_word (leaving.Moved other) (Some (process, made)) = passing_word made
leaving_word (leaving.Moved other) None = codes "moved"

-- how and at which moment it left; or that it is still held
abbrev pub left_words : Option (ℕ × Leaving) → Option (ℕ × Call) → List (List ℕ)
left_words None by = codes "held" ∷ []
left_words (Some (moment, how)) by = leaving_word how by ∷ decimal moment ∷ []

-- the place from which it came, if it came from another; and how it left
unfoldable pub journey_words : Origin → Option (ℕ × Leaving) → Option (ℕ × Call) → List (List ℕ)
journey_words (From other) left by = codes "from" ∷ place_text other ∷ left_words left by
journey_words _ left by = left_words left by

-- a handle, with the call by which it came and the call by which it left, where there are such calls
abbrev pub object_handle_line : Bool → ObjectHandle → Option (ℕ × Call) → Option (ℕ × Call) → List ℕ
object_handle_line names handle came left =
    line (decimal handle.moment ∷ coming_word handle.origin came ∷ rights_at names handle.place handle.held.rights ∷ journey_words handle.origin handle.left left)

-- the line of a handle in the tree: two spaces for each copy above, and the handle
abbrev pub lineage_step_line : Bool → LineageStep → Option (ℕ × Call) → Option (ℕ × Call) → List ℕ
lineage_step_line names step came left = indent step.depth ++ object_handle_line names step.handle came left
