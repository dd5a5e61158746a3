-- Notes in one list of bytes, and where each of them ends.
use Rattle.std.proofs.Common.{◌≡◌, ℕ, zero, suc, ◌+◌, ◌-◌, ◌<◌, ◌≤◌, List, [], ◌∷◌, ◌++◌, length, take, drop, get_or, refl, sym, ap, subst, ◌∙◌, arith, length-drop}
use Rattle.std.specs.Prelude.{true}
use Rattle.std.specs.List.{slice_range, list_all}
use Rattle.std.proofs.lemmas.List.{take-append-drop, take-append-le, drop-append-le, drop-take, take_rest, length-take-le, get_or_past, nil_from_length}
use Rattle.std.proofs.Math.Seq.{take-nil, drop-nil}
use Rattle.std.proofs.lemmas.Bool.{and_parts}
use Rattle.std.proofs.lemmas.Bool.Decides.{nat_tests}
use Rattle.zt_text.specs.Notes.{is_nothing}
use Rattle.zt_text.specs.ProofsOnly.Notes.{pieces, all_ends, last_end, end_after, AreEnds}

-- ---- ends

pub ends_within : (from : ℕ) (ends : List ℕ) (most : ℕ) → AreEnds from ends most → last_end from ends ≤ most
ends_within from [] most within = within
ends_within from (end ∷ ends) most within = ends_within end ends most within.1

pub first_within : (from : ℕ) (ends : List ℕ) (most : ℕ) → AreEnds from ends most → from ≤ most
first_within from [] most within = within
first_within from (end ∷ ends) most within = let more = first_within end ends most within.1 in omega arith

pub ends_more : (from : ℕ) (ends : List ℕ) (most more : ℕ) → AreEnds from ends most → most ≤ more → AreEnds from ends more
ends_more from [] most more within le = omega arith
ends_more from (end ∷ ends) most more within le = (within.0, ends_more end ends most more within.1 le)

pub ends_fit : (from : ℕ) (ends : List ℕ) (most : ℕ) → AreEnds from ends most → AreEnds from ends (last_end from ends)
ends_fit from [] most within = omega arith
ends_fit from (end ∷ ends) most within = (within.0, ends_fit end ends most within.1)

pub ends_and_last : (from : ℕ) (ends : List ℕ) (most : ℕ) → AreEnds from ends most → AreEnds from (ends ++ (most ∷ [])) most
ends_and_last from [] most within = (within, omega arith)
ends_and_last from (end ∷ ends) most within = (within.0, ends_and_last end ends most within.1)

pub last_of_more : (from : ℕ) (ends : List ℕ) (last : ℕ) → last_end from (ends ++ (last ∷ [])) ≡ last
last_of_more from [] last = refl
last_of_more from (end ∷ ends) last = last_of_more end ends last

pub end_of_all : (from : ℕ) (ends : List ℕ) → end_after (length ends) from ends ≡ last_end from ends
end_of_all from [] = refl
end_of_all from (end ∷ ends) = end_of_all end ends

end_of_one : (from : ℕ) (ends : List ℕ) (k : ℕ) → k < length ends → end_after (suc k) from ends ≡ get_or ends k 0
end_of_one from [] k below = absurd (omega arith)
end_of_one from (end ∷ ends) zero below = refl
end_of_one from (end ∷ ends) (suc k) below = end_of_one end ends k (omega arith)

pub end_of_some : (from : ℕ) (ends : List ℕ) (count : ℕ) → 0 < count → count ≤ length ends → end_after count from ends ≡ get_or ends (count - 1) 0
end_of_some from ends zero some within = absurd (omega arith)
end_of_some from ends (suc k) some within =
    let e : suc k - 1 ≡ k = omega arith in
    rw e (end_of_one from ends k (omega arith))

pub end_within : (from : ℕ) (ends : List ℕ) (most count : ℕ) → AreEnds from ends most → end_after count from ends ≤ most
end_within from ends most zero within = first_within from ends most within
end_within from [] most (suc k) within = within
end_within from (end ∷ ends) most (suc k) within = end_within end ends most k within.1

pub ends_ascend : (from : ℕ) (ends : List ℕ) (most k : ℕ) → AreEnds from ends most → end_after k from ends ≤ end_after (suc k) from ends
ends_ascend from [] most zero within = omega arith
ends_ascend from [] most (suc k) within = omega arith
ends_ascend from (end ∷ ends) most zero within = within.0
ends_ascend from (end ∷ ends) most (suc k) within = ends_ascend end ends most k within.1

-- ---- ends of which some are only counted

pub length_of_all : (empty : ℕ) (others : List ℕ) → length (all_ends empty others) ≡ empty + length others
length_of_all zero others = let same : 0 + length others ≡ length others = omega arith in sym same
length_of_all (suc empty) others = let more = length_of_all empty others in omega arith

and_empty : (empty : ℕ) → all_ends (suc empty) [] ≡ all_ends empty [] ++ (0 ∷ [])
and_empty zero = refl
and_empty (suc empty) = ap (λ ends. 0 ∷ ends) (and_empty empty)

pub empty_and_one : (empty : ℕ) (others : List ℕ) (end : ℕ) → length others ≡ 0 → end ≡ 0 → all_ends (empty + 1) others ≡ all_ends empty others ++ (end ∷ [])
empty_and_one empty others end none is =
    let more : empty + 1 ≡ suc empty = omega arith in
    rw (nil_from_length others none, is, more) (and_empty empty)

pub all_and_one : (empty : ℕ) (others : List ℕ) (end : ℕ) → all_ends empty (others ++ (end ∷ [])) ≡ all_ends empty others ++ (end ∷ [])
all_and_one zero others end = refl
all_and_one (suc empty) others end = ap (λ ends. 0 ∷ ends) (all_and_one empty others end)

pub end_of_empty : (count empty : ℕ) (others : List ℕ) → count ≤ empty → end_after count 0 (all_ends empty others) ≡ 0
end_of_empty zero empty others within = refl
end_of_empty (suc count) zero others within = absurd (omega arith)
end_of_empty (suc count) (suc empty) others within = end_of_empty count empty others (omega arith)

end_behind : (count empty : ℕ) (others : List ℕ) → empty ≤ count → end_after count 0 (all_ends empty others) ≡ end_after (count - empty) 0 others
end_behind count zero others behind = let same : count - 0 ≡ count = omega arith in rw same refl
end_behind zero (suc empty) others behind = absurd (omega arith)
end_behind (suc count) (suc empty) others behind =
    let e : suc count - suc empty ≡ count - empty = omega arith in
    rw e (end_behind count empty others (omega arith))

pub end_of_other : (count empty : ℕ) (others : List ℕ) → empty < count → count ≤ empty + length others → end_after count 0 (all_ends empty others) ≡ get_or others (count - empty - 1) 0
end_of_other count empty others behind within =
    end_behind count empty others (omega arith) ∙ end_of_some 0 others (count - empty) (omega arith) (omega arith)

-- ---- pieces

range_more : (bytes more : List ℕ) (from end : ℕ) → from ≤ end → end ≤ length bytes → slice_range (bytes ++ more) from end ≡ slice_range bytes from end
range_more bytes more from end ascend within =
    let first : from ≤ length bytes = omega arith in
    let rest : end - from ≤ length (drop from bytes) = rw length-drop (omega arith) in
    rw (drop-append-le from bytes more first) (take-append-le (end - from) (drop from bytes) more rest)

range_whole : (bytes : List ℕ) (from : ℕ) → slice_range bytes from (length bytes) ≡ drop from bytes
range_whole bytes from = take_rest bytes from

pub pieces_more : (from : ℕ) (ends bytes more : List ℕ) → AreEnds from ends (length bytes) → pieces from ends (bytes ++ more) ≡ pieces from ends bytes
pieces_more from [] bytes more within = refl
pieces_more from (end ∷ ends) bytes more within =
    rw (range_more bytes more from end within.0 (first_within end ends (length bytes) within.1)) (ap (λ ps. slice_range bytes from end ∷ ps) (pieces_more end ends bytes more within.1))

pub pieces_fit : (from : ℕ) (ends bytes : List ℕ) → AreEnds from ends (length bytes) → pieces from ends (take (last_end from ends) bytes) ≡ pieces from ends bytes
pieces_fit from ends bytes within =
    let last = last_end from ends in
    let le : last ≤ length bytes = ends_within from ends (length bytes) within in
    let long : length (take last bytes) ≡ last = length-take-le last bytes le in
    let fit : AreEnds from ends (length (take last bytes)) = subst (λ n. AreEnds from ends n) (sym long) (ends_fit from ends (length bytes) within) in
    sym (pieces_more from ends (take last bytes) (drop last bytes) fit) ∙ ap (pieces from ends) (take-append-drop last bytes)

piece_and_last : (from : ℕ) (ends bytes : List ℕ) (end : ℕ) → pieces from (ends ++ (end ∷ [])) bytes ≡ pieces from ends bytes ++ (slice_range bytes (last_end from ends) end ∷ [])
piece_and_last from [] bytes end = refl
piece_and_last from (first ∷ ends) bytes end = ap (λ ps. slice_range bytes from first ∷ ps) (piece_and_last first ends bytes end)

pub pieces_and_last : (from : ℕ) (ends bytes : List ℕ) → pieces from (ends ++ (length bytes ∷ [])) bytes ≡ pieces from ends bytes ++ (drop (last_end from ends) bytes ∷ [])
pieces_and_last from ends bytes =
    piece_and_last from ends bytes (length bytes) ∙ ap (λ p. pieces from ends bytes ++ (p ∷ [])) (range_whole bytes (last_end from ends))

pub length_pieces : (from : ℕ) (ends bytes : List ℕ) → length (pieces from ends bytes) ≡ length ends
length_pieces from [] bytes = refl
length_pieces from (end ∷ ends) bytes = ap suc (length_pieces end ends bytes)

pub piece_at : (from : ℕ) (ends bytes : List ℕ) (k : ℕ) → k < length ends → get_or (pieces from ends bytes) k [] ≡ slice_range bytes (end_after k from ends) (end_after (suc k) from ends)
piece_at from [] bytes k below = absurd (omega arith)
piece_at from (end ∷ ends) bytes zero below = refl
piece_at from (end ∷ ends) bytes (suc k) below = piece_at end ends bytes k (omega arith)

pub piece_beyond : (from : ℕ) (ends bytes : List ℕ) (k : ℕ) → length ends ≤ k → get_or (pieces from ends bytes) k [] ≡ []
piece_beyond from ends bytes k beyond = get_or_past (pieces from ends bytes) k [] (rw (length_pieces from ends bytes) beyond)

-- what is cut off at its end, and then at its start
pub piece_cut : (ends bytes : List ℕ) (k from end : ℕ) → k < length ends → AreEnds 0 ends (length bytes) → from ≡ end_after k 0 ends → end ≡ end_after (suc k) 0 ends
    → drop from (take end bytes) ≡ get_or (pieces 0 ends bytes) k []
piece_cut ends bytes k from end below within at to =
    let le : end_after k 0 ends ≤ end_after (suc k) 0 ends = ends_ascend 0 ends (length bytes) k within in
    let sum : end ≡ from + (end - from) = rw (at, to) (omega arith) in
    ap (λ n. drop from (take n bytes)) sum ∙ drop-take from (end - from) bytes ∙ rw (at, to) (sym (piece_at 0 ends bytes k below))

-- ---- pieces that are all empty

range_long : (bytes : List ℕ) (from end : ℕ) → from ≤ end → end ≤ length bytes → length (slice_range bytes from end) ≡ end - from
range_long bytes from end ascend within =
    let rest : end - from ≤ length (drop from bytes) = rw length-drop (omega arith) in
    length-take-le (end - from) (drop from bytes) rest

range_of_none : (bytes : List ℕ) (from end : ℕ) → bytes ≡ [] → is_nothing (slice_range bytes from end) ≡ true
range_of_none bytes from end none = rw (none, drop-nil from, take-nil (end - from)) refl

pub none_of_none : (from : ℕ) (ends bytes : List ℕ) → bytes ≡ [] → list_all is_nothing (pieces from ends bytes) ≡ true
none_of_none from [] bytes none = refl
none_of_none from (end ∷ ends) bytes none = rw (range_of_none bytes from end none) (none_of_none end ends bytes none)

pub last_of_none : (from : ℕ) (ends bytes : List ℕ) → AreEnds from ends (length bytes) → list_all is_nothing (pieces from ends bytes) ≡ true → last_end from ends ≡ from
last_of_none from [] bytes within none = refl
last_of_none from (end ∷ ends) bytes within none =
    let parts = and_parts (is_nothing (slice_range bytes from end)) (list_all is_nothing (pieces end ends bytes)) none in
    let long : length (slice_range bytes from end) ≡ end - from = range_long bytes from end within.0 (first_within end ends (length bytes) within.1) in
    let short : length (slice_range bytes from end) ≡ 0 = grind (arith, nat_tests, parts.0) in
    let ascend : from ≤ end = within.0 in
    let same : end ≡ from = omega arith in
    last_of_none end ends bytes within.1 parts.1 ∙ same

-- ---- what waits

pub waiting_more : (bytes more : List ℕ) (from : ℕ) → from ≤ length bytes → drop from (bytes ++ more) ≡ drop from bytes ++ more
waiting_more bytes more from within = drop-append-le from bytes more within
