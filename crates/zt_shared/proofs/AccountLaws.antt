-- What the two sides of an account know.
use Rattle.std.proofs.Common.{◌≡◌, ℕ, suc, ◌≤◌, ◌<◌, Bool, true, false, cond, List, [], ◌∷◌, ◌++◌, length, map, take, get_or, refl, ap, sym, ◌∙◌, arith, Some, None}
use Rattle.std.specs.Prelude.{Option, IfSome, nat_le}
use Rattle.std.proofs.lemmas.List.{take_more, length-map, length_push, map_push, get_or-map}
use Rattle.std.specs.declared.alloc.Global.{Global}
use Rattle.once_cell.specs.Once.{Agrees, cell_name}
use Rattle.zt_shared.specs.declared.account.NoteSlot.{NoteSlot}
use Rattle.zt_shared.specs.Accounts.{most, smaller, somes, cells_of, known_of, KnowsItsRows}

module _ {T : Type 0} where
  pub somes-all : (xs : List T) → somes (map Some xs) ≡ xs
  somes-all [] = refl
  somes-all (x ∷ xs) = ap (λ ys. x ∷ ys) (somes-all xs)

  pub somes-append : (xs ys : List (Option T)) → somes (xs ++ ys) ≡ somes xs ++ somes ys
  somes-append [] ys = refl
  somes-append (Some x ∷ xs) ys = ap (λ zs. x ∷ zs) (somes-append xs ys)
  somes-append (None ∷ xs) ys = somes-append xs ys

  -- as many notes as rows
  pub noted-length : (cells : List ℕ) (notes : List (NoteSlot T)) (rows : List T) → KnowsItsRows cells notes rows → length notes ≡ length rows
  noted-length cells notes rows n = sym (length-map notes (λ s. s.note.known)) ∙ (ap length n.all ∙ length-map rows Some)

  -- one row more
  pub noted-more : (cells : List ℕ) (notes : List (NoteSlot T)) (rows : List T) (note_slot : NoteSlot T) (x : T)
      → KnowsItsRows cells notes rows → length rows < most → note_slot.note.cell ≡ get_or cells (length rows) 0 → note_slot.note.known ≡ Some x
      → KnowsItsRows cells (notes ++ note_slot ∷ []) (rows ++ x ∷ [])
  noted-more cells notes rows note_slot x n room cell known = record {
    full = n.full;
    first =
        let within : length rows < length cells = omega (arith, n.full, room) in
        rw (map_push (λ (s : NoteSlot T). s.note.cell) notes note_slot, length_push rows x, take_more cells (length rows) 0 within, n.first, cell) refl;
    all = rw (map_push (λ (s : NoteSlot T). s.note.known) notes note_slot, map_push {Y = Option T} Some rows x, n.all, known) refl;
  }

  -- the row of a note is the row that it knows
  pub noted-somes : (cells : List ℕ) (notes : List (NoteSlot T)) (rows : List T) → KnowsItsRows cells notes rows → somes (known_of notes) ≡ rows
  noted-somes cells notes rows n = ap somes n.all ∙ somes-all rows

  -- one note more
  pub somes-more : (notes : List (NoteSlot T)) (note_slot : NoteSlot T) (x : T) → note_slot.note.known ≡ Some x → somes (known_of (notes ++ note_slot ∷ [])) ≡ somes (known_of notes) ++ x ∷ []
  somes-more notes note_slot x known = rw (map_push (λ (s : NoteSlot T). s.note.known) notes note_slot, somes-append (known_of notes) (note_slot.note.known ∷ []), known) refl

  -- lists of which each place knows the same
  pub same-known : (xs ys : List T) → length xs ≡ length ys
      → ((i : ℕ) → i < length xs → IfSome (get_or (map Some ys) i None) (Agrees (get_or (map Some xs) i None)))
      → xs ≡ ys
  same-known [] [] same agree = refl
  same-known [] (y ∷ ys) same agree = absurd (omega (arith, same))
  same-known (x ∷ xs) [] same agree = absurd (omega (arith, same))
  same-known (x ∷ xs) (y ∷ ys) same agree =
      let first : x ≡ y = agree 0 (omega arith) in
      let others : xs ≡ ys = same-known xs ys (omega (arith, same)) (λ i h. agree (suc i) (omega (arith, h))) in
      cc (first, others)

  -- sides that agree at each place have the same rows
  pub noted-same : (cells : List ℕ) (ours theirs : List (NoteSlot T)) (xs ys : List T)
      → KnowsItsRows cells ours xs → KnowsItsRows cells theirs ys → length xs ≡ length ys
      → ((i : ℕ) → i < length xs → IfSome (get_or (known_of theirs) i None) (Agrees (get_or (known_of ours) i None)))
      → xs ≡ ys
  noted-same cells ours theirs xs ys m n same agree =
      same-known xs ys same (λ i h. rw (← m.all, ← n.all) (agree i h))

  -- notes of both sides are of the same cells
  pub noted-cells : (cells : List ℕ) (ours theirs : List (NoteSlot T)) (xs ys : List T)
      → KnowsItsRows cells ours xs → KnowsItsRows cells theirs ys → length ours ≡ length theirs → cells_of ours ≡ cells_of theirs
  noted-cells cells ours theirs xs ys m n same =
      let lengths : length xs ≡ length ys = sym (noted-length cells ours xs m) ∙ (same ∙ noted-length cells theirs ys n) in
      m.first ∙ (ap (λ k. take k cells) lengths ∙ sym n.first)

  -- sides of as many notes, which agree at each place, have the same rows
  pub sides-same : (cells : List ℕ) (ours theirs : List (NoteSlot T)) (xs ys : List T)
      → KnowsItsRows cells ours xs → KnowsItsRows cells theirs ys → length ours ≡ length theirs
      → ((i : ℕ) → i < length ours → IfSome (get_or (known_of theirs) i None) (Agrees (get_or (known_of ours) i None)))
      → xs ≡ ys
  sides-same cells ours theirs xs ys m n same agree =
      let ours-length = noted-length cells ours xs m in
      let theirs-length = noted-length cells theirs ys n in
      noted-same cells ours theirs xs ys m n (omega (arith, ours-length, theirs-length, same)) (λ i h. agree i (omega (arith, h, ours-length)))

  -- the lock's side with one note more
  pub lock-more : (cells : List ℕ) (notes : List (NoteSlot T)) (note_slot : NoteSlot T) (x : T)
      → KnowsItsRows cells notes (somes (known_of notes)) → length (somes (known_of notes)) < most
      → note_slot.note.cell ≡ get_or cells (length (somes (known_of notes))) 0 → note_slot.note.known ≡ Some x
      → KnowsItsRows cells (notes ++ note_slot ∷ []) (somes (known_of (notes ++ note_slot ∷ [])))
  lock-more cells notes note_slot x n room cell known =
      rw (somes-more notes note_slot x known) (noted-more cells notes (somes (known_of notes)) note_slot x n room cell known)

-- the name of the cell at a place
pub name-at : (cells : List (Global × ℕ)) (names : List ℕ) (i : ℕ) (cell : Global × ℕ) → map cell_name cells ≡ names → i < length names
    → cell ≡ get_or cells i cell → cell_name cell ≡ get_or names i 0
name-at cells names i cell named within at =
    let inside : i < length cells = omega (arith, length-map cells cell_name, ap length named, within) in
    ap cell_name at ∙ (sym (get_or-map cell_name cells i cell 0 inside) ∙ ap (λ ns. get_or ns i 0) named)

-- what both numbers reach the smaller one reaches
pub smaller-reached : (k m n : ℕ) → k ≤ m → k ≤ n → k ≤ smaller m n
smaller-reached k m n first second =
    let either : (b : Bool) → k ≤ cond b m n = λ b. elim b as (λ b. k ≤ cond b m n) [ true ↦ first | false ↦ second ] in
    either (nat_le m n)
