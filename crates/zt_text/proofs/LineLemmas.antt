-- The lines of bytes, by where the first line feed stands, and of a text that is written line by line.
use Rattle.std.proofs.Common.{◌≡◌, ℕ, ◌<◌, true, false, List, [], ◌∷◌, ◌++◌, length, Option, Some, None, refl, sym, ap, ◌∙◌, arith}
use Rattle.std.specs.Prelude.{◌==◌, not, if◌then◌else◌}
use Rattle.std.specs.List.{onto_first}
use Rattle.std.proofs.lemmas.Bool.{and_parts}
use Rattle.std.proofs.lemmas.List.Splits.{slice_split-cons_yes, slice_split-cons_no}
use denote.Ref.{Bor}
use Rattle.zt_text.specs.Fields.{parts_of}
use Rattle.zt_text.specs.ProofsOnly.Cut.{IsCut}
use Rattle.zt_text.specs.Lines.{lines_of}
use Rattle.zt_text.proofs.ShownWords.{is_free, other_byte}

-- a last part is a line where it is not empty
abbrev kept : List ℕ → List (List ℕ)
kept [] = []
kept (x ∷ xs) = (x ∷ xs) ∷ []

abbrev full_from : List ℕ → List (List ℕ) → List (List ℕ)
full_from part [] = kept part
full_from part (next ∷ others) = part ∷ full_from next others

abbrev full : List (List ℕ) → List (List ℕ)
full [] = []
full (part ∷ others) = full_from part others

onto_kept : (x : ℕ) (part : List ℕ) → kept (x ∷ part) ≡ onto_first x (kept part)
onto_kept x [] = refl
onto_kept x (y ∷ ys) = refl

onto_full : (x : ℕ) (parts : List (List ℕ)) → full (onto_first x parts) ≡ onto_first x (full parts)
onto_full x [] = refl
onto_full x (part ∷ []) = onto_kept x part
onto_full x (part ∷ next ∷ others) = refl

front_onto : (first : List ℕ) (x : ℕ) (parts : List (List ℕ)) → full (first ∷ onto_first x parts) ≡ first ∷ full (onto_first x parts)
front_onto first x [] = refl
front_onto first x (part ∷ parts) = refl

full_front : (first : List ℕ) (c : ℕ) (xs : List ℕ) → full (first ∷ parts_of c xs) ≡ first ∷ full (parts_of c xs)
full_front first c [] = refl
full_front first c (x ∷ xs) =
    elim (x == c) as (λ b. (x == c) ≡ b → full (first ∷ parts_of c (x ∷ xs)) ≡ first ∷ full (parts_of c (x ∷ xs))) [
      | true ↦ λ e. rw (slice_split-cons_yes (λ byte. byte == c) x xs e) refl
      | false ↦ λ e. rw (slice_split-cons_no (λ byte. byte == c) x xs e) (front_onto first x (parts_of c xs))
    ] refl

-- lines are the parts between line feeds, without a last one that is empty
lines_full : (bytes : List ℕ) → lines_of bytes ≡ full (parts_of 10 bytes)
lines_full [] = refl
lines_full (x ∷ xs) =
    elim (x == 10) as (λ b. (x == 10) ≡ b → (if b then [] ∷ lines_of xs else onto_first x (lines_of xs)) ≡ full (parts_of 10 (x ∷ xs))) [
      | true ↦ λ e. ap (λ ls. [] ∷ ls) (lines_full xs) ∙ sym (full_front [] 10 xs) ∙ ap full (sym (slice_split-cons_yes (λ byte. byte == 10) x xs e))
      | false ↦ λ e. ap (onto_first x) (lines_full xs) ∙ sym (onto_full x (parts_of 10 xs)) ∙ ap full (sym (slice_split-cons_no (λ byte. byte == 10) x xs e))
    ] refl

kept_some : (first : List ℕ) → 0 < length first → kept first ≡ first ∷ []
kept_some [] some = absurd (omega arith)
kept_some (x ∷ xs) some = refl

-- bytes without a line feed are one line
pub line_alone : (bytes first : List ℕ) → parts_of 10 bytes ≡ first ∷ [] → length first ≡ length bytes → 0 < length bytes → lines_of bytes ≡ first ∷ []
line_alone bytes first parts same some = lines_full bytes ∙ ap full parts ∙ kept_some first (omega arith)

-- what stands before the first line feed is the first line
pub line_first : (bytes first left : List ℕ) → parts_of 10 bytes ≡ first ∷ parts_of 10 left → lines_of bytes ≡ first ∷ lines_of left
line_first bytes first left parts = lines_full bytes ∙ ap full parts ∙ full_front first 10 left ∙ ap (λ ls. first ∷ ls) (sym (lines_full left))

-- a line that has no line feed, and one behind it, is the first line
pub line_written : (line rest : List ℕ) → is_free 10 line ≡ true → lines_of (line ++ (10 ∷ rest)) ≡ line ∷ lines_of rest
line_written [] rest free = refl
line_written (x ∷ xs) rest free =
    let parts = and_parts (not (x == 10)) (is_free 10 xs) free in
    let other : (x == 10) ≡ false = other_byte x 10 parts.0 in
    rw other (ap (onto_first x) (line_written xs rest parts.1))

-- some bytes without a line feed are one line; bytes cut at their first line feed are the line ahead of it and the lines behind it
pub cut_alone : (bytes first : List ℕ) (left : Option (Bor (List ℕ))) → IsCut 10 bytes first left → left ≡ None → 0 < length bytes → lines_of bytes ≡ first ∷ []
cut_alone bytes first None (parts, same) is some = line_alone bytes first parts same some
cut_alone bytes first (Some rest) cut is some = cc is

pub cut_first : (bytes first : List ℕ) (left : Option (Bor (List ℕ))) (rest : Bor (List ℕ)) → IsCut 10 bytes first left → left ≡ Some rest → lines_of bytes ≡ first ∷ lines_of rest.now
cut_first bytes first None rest cut is = cc is
cut_first bytes first (Some other) rest (parts, lengths) is =
    let same : other ≡ rest = cc is in
    line_first bytes first other.now parts ∙ ap (λ (r : Bor (List ℕ)). first ∷ lines_of r.now) same
