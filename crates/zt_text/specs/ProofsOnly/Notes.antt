-- Notes as they are kept: one list of bytes with the end of each note, and tables of names. Used by proofs only.
use Rattle.std.specs.Prelude.{◌≡◌, ℕ, zero, suc, ◌≤◌, List, [], ◌∷◌, length, drop, slice_range, Option, Some, None}
use Rattle.std.specs.Ordering.{nat_cmp, ordering_then}
use Rattle.std.specs.declared.cmp.Ordering.{Ordering}
use Rattle.std.specs.BTreeMap.{get}
use denote.Ref.{Bor}
use Rattle.zt_text.specs.declared.name_lines.Subject.TheVariants.{Object, Handle}
use Rattle.zt_text.specs.declared.name_table.NameTable.{NameTable}
use Rattle.zt_text.specs.Fields.{parts_of}
use Rattle.zt_text.specs.Lines.{lines_of}
use Rattle.zt_text.specs.Notes.{Noted, NotedSoFar, last_name}
use Rattle.zt_text.specs.NotedTexts.{IsNoted}

-- the first field of bytes and what is behind its space; none, where there is no space
abbrev pub IsFirstField : List ℕ → Option (Bor (List ℕ) × Bor (List ℕ)) → Type 0
IsFirstField bytes None = (first : List ℕ) × (parts_of 32 bytes ≡ first ∷ [])
IsFirstField bytes (Some parts) = parts_of 32 bytes ≡ parts.0.now ∷ parts_of 32 parts.1.now

-- the bytes from one end to the next
abbrev pub pieces : ℕ → List ℕ → List ℕ → List (List ℕ)
pieces from [] bytes = []
pieces from (end ∷ ends) bytes = slice_range bytes from end ∷ pieces end ends bytes

-- the last end
abbrev pub last_end : ℕ → List ℕ → ℕ
last_end from [] = from
last_end from (end ∷ ends) = last_end end ends

-- what the lines so far noted, as it is kept: what waits stands behind the last end
abbrev pub so_far : List ℕ → List ℕ → List ℕ → List ℕ → NotedSoFar
so_far notes ends rest names =
    record { notes = pieces 0 ends notes; waiting = drop (last_end 0 ends) notes; rest = rest; names = names }

-- the end of this many notes
abbrev pub end_after : ℕ → ℕ → List ℕ → ℕ
end_after zero from ends = from
end_after (suc count) from [] = from
end_after (suc count) from (end ∷ ends) = end_after count end ends

-- ends of which so many are 0 and stand ahead of the others
abbrev pub all_ends : ℕ → List ℕ → List ℕ
all_ends zero ends = ends
all_ends (suc empty) ends = 0 ∷ all_ends empty ends

-- the ends ascend, up to this length at most
abbrev pub AreEnds : ℕ → List ℕ → ℕ → Type 0
AreEnds from [] most = from ≤ most
AreEnds from (end ∷ ends) most = (from ≤ end) × AreEnds end ends most

-- handles by their processes, and then by their values
abbrev pub pair_cmp : ℕ × ℕ → ℕ × ℕ → Ordering
pair_cmp a b = ordering_then (nat_cmp a.0 b.0) (nat_cmp a.1 b.1)

-- the tables tell the last name of each object and of each handle
abbrev pub IsTableOf : NameTable → List (List ℕ) → Type 0
IsTableOf table lines =
    ((koid : ℕ) → get nat_cmp table.objects koid ≡ last_name (Object koid) None lines)
    × ((process handle : ℕ) → get pair_cmp table.handles (process, handle) ≡ last_name (Handle process handle) None lines)

-- notes as they are kept
abbrev pub noted_of : List ℕ → List ℕ → List ℕ → List ℕ → Noted
noted_of notes ends rest names = record { notes = pieces 0 ends notes; rest = rest; names = names }

-- the ends are those of notes, the last of them is that of all bytes, the tables are those of the name lines, and all are lines
pub record AreKept (notes ends rest names : List ℕ) (table : NameTable) : Type 0 where
  pub ascend : AreEnds 0 ends (length notes)
  pub whole : last_end 0 ends ≡ length notes
  pub tells : IsTableOf table (lines_of names)
  pub lines : IsNoted (noted_of notes ends rest names)
