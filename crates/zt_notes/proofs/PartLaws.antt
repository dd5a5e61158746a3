-- Texts that are cut into parts, shown part by part, and joined again.
use Rattle.std.proofs.Common.{◌≡◌, ℕ, ◌+◌, ◌<◌, List, [], ◌∷◌, ◌++◌, length, Option, Some, None, append_assoc, append-nil, arith}
use Rattle.std.specs.Prelude.{IfSome, is_some}
use Rattle.std.specs.Option.{option_map}
use denote.Ref.{Bor}
use Rattle.zt_text.specs.Fields.{parts_of}
use Rattle.zt_text.specs.ProofsOnly.Cut.{length_left, parts_left}
use Rattle.zt_notes.specs.Cuts.{before, behind}
use Rattle.zt_notes.specs.ProofsOnly.Separators.{separator_ahead}
use Rattle.zt_notes.proofs.CutLaws.{words_alone, words_first, words_more}

-- what is left once a part is cut off
pub record IsCutAt (c : ℕ) (bytes first : List ℕ) (others : Option (Bor (List ℕ))) : Type 0 where
  pub before : first ≡ before c bytes
  pub behind : option_map (λ (rest : Bor (List ℕ)). rest.now) others ≡ behind c bytes

-- the parts are the first and those that are left
pub parts_are : (c : ℕ) (bytes first : List ℕ) (others : Option (Bor (List ℕ))) → IsCutAt c bytes first others
    → parts_of c bytes ≡ first ∷ parts_left c others
parts_are c bytes first None cut = rw (cut.before) (words_alone c bytes cut.behind)
parts_are c bytes first (Some left) cut = rw (cut.before) (words_more c bytes left.now cut.behind)

-- each cut leaves less
pub falls : (bytes : List ℕ) (others : Option (Bor (List ℕ))) → IfSome others (λ rest. length rest.now < length bytes)
    → length_left others < length bytes + 1
falls bytes None shorter = omega arith
falls bytes (Some left) shorter = omega arith

-- with the first part shown and the separator behind it, what is shown of the others completes what is shown of all
pub shown_on : (c : ℕ) (all others_shown : List (List ℕ) → List ℕ) (piece : List ℕ) (bytes first : List ℕ) (others : Option (Bor (List ℕ)))
    (l0 l1 l2 : List ℕ) → IsCutAt c bytes first others → l1 ≡ l0 ++ piece → l2 ≡ l1 ++ separator_ahead c (is_some others)
    → others_shown [] ≡ [] → all (first ∷ []) ≡ piece
    → ((next : List ℕ) (later : List (List ℕ)) → all (first ∷ next ∷ later) ≡ piece ++ c ∷ others_shown (next ∷ later))
    → l2 ++ others_shown (parts_left c others) ≡ l0 ++ all (parts_of c bytes)
shown_on c all others_shown piece bytes first None l0 l1 l2 cut put separated none alone more =
    let parts : parts_of c bytes ≡ first ∷ [] = parts_are c bytes first None cut in
    let same : l2 ≡ l1 ++ [] = separated in
    rw (parts, alone, same, put, none) (simp append-nil)
shown_on c all others_shown piece bytes first (Some left) l0 l1 l2 cut put separated none alone more =
    let parts : parts_of c bytes ≡ first ∷ parts_of c left.now = parts_are c bytes first (Some left) cut in
    let next = words_first c left.now in
    let e : all (first ∷ parts_of c left.now) ≡ piece ++ c ∷ others_shown (parts_of c left.now) = rw next.1 (more (before c left.now) next.0) in
    let same : l2 ≡ l1 ++ c ∷ [] = separated in
    rw (parts, e, same, put) (simp append_assoc)
