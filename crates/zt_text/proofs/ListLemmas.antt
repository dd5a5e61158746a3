-- A list of handles read element by element: what the elements so far and those behind them make of the whole.
use Rattle.std.proofs.Common.{◌≡◌, ℕ, Bool, ◌+◌, ◌<◌, ◌≤◌, true, false, List, [], ◌∷◌, ◌++◌, length, Option, Some, None, refl, sym, ap, ◌∙◌, arith, append_assoc}
use Rattle.std.specs.Prelude.{nat_le, is_some, if◌then◌else◌, codes}
use Rattle.std.specs.Str.{bytes_eq}
use Rattle.std.proofs.lemmas.List.{append-nil, length-append}
use Rattle.std.proofs.lemmas.Bool.Decides.{nat_tests}
use denote.Ref.{Bor}
use Rattle.zt_text.specs.Numbers.{handle_of}
use Rattle.zt_text.specs.Fields.{parts_of}
use Rattle.zt_text.specs.ProofsOnly.Cut.{IsCut, parts_left, length_left}
use Rattle.zt_text.specs.Lists.{in_front, each_handle, at_most_64, listed, handles_of}
use Rattle.zt_text.specs.ProofsOnly.Lists.{handles_in, items_of}

-- handles in front of those that are still to be read
abbrev pub behind : List ℕ → Option (List ℕ) → Option (List ℕ)
behind items None = None
behind items (Some others) = Some (items ++ others)

-- the parts of some bytes are what is cut off and the parts of the rest
cut_parts : (bytes first : List ℕ) (others : Option (Bor (List ℕ))) → IsCut 44 bytes first others → parts_of 44 bytes ≡ first ∷ parts_left 44 others
cut_parts bytes first None (parts, _) = parts
cut_parts bytes first (Some left) (parts, _) = parts

-- what is left gets shorter
pub cut_shorter : (bytes first : List ℕ) (others : Option (Bor (List ℕ))) → IsCut 44 bytes first others → length_left others < length bytes + 1
cut_shorter bytes first None cut = omega arith
cut_shorter bytes first (Some left) (_, lengths) = omega (arith, lengths)

-- one element more
one_more : (items : List ℕ) (value : ℕ) (rest : Option (List ℕ)) → behind items (in_front (Some value) rest) ≡ behind (items ++ value ∷ []) rest
one_more items value None = refl
one_more items value (Some others) = ap Some (sym (append_assoc items (value ∷ []) others))

pub listed_more : (field items bytes first : List ℕ) (others : Option (Bor (List ℕ))) (value : ℕ)
    → each_handle (parts_of 44 field) ≡ behind items (each_handle (parts_of 44 bytes)) → IsCut 44 bytes first others → Some value ≡ handle_of first
    → each_handle (parts_of 44 field) ≡ behind (items ++ value ∷ []) (each_handle (parts_left 44 others))
listed_more field items bytes first others value so_far cut reads =
    let parts = cut_parts bytes first others cut in
    so_far ∙ ap (λ ps. behind items (each_handle ps)) parts
    ∙ ap (λ o. behind items (in_front o (each_handle (parts_left 44 others)))) (sym reads)
    ∙ one_more items value (each_handle (parts_left 44 others))

-- an element that is no handle
pub listed_bad : (field items bytes first : List ℕ) (others : Option (Bor (List ℕ)))
    → each_handle (parts_of 44 field) ≡ behind items (each_handle (parts_of 44 bytes)) → IsCut 44 bytes first others → None ≡ handle_of first → None ≡ listed field
unfolding listed
listed_bad field items bytes first others so_far cut reads =
    let parts = cut_parts bytes first others cut in
    let whole : each_handle (parts_of 44 field) ≡ None =
    so_far ∙ ap (λ ps. behind items (each_handle ps)) parts
    ∙ ap (λ o. behind items (in_front o (each_handle (parts_left 44 others)))) (sym reads) in
    sym (ap at_most_64 whole)

too_many : (items : List ℕ) (value : ℕ) (rest : Option (List ℕ)) → length items ≡ 64 → None ≡ at_most_64 (behind (items ++ value ∷ []) rest)
too_many items value None full = refl
too_many items value (Some others) full =
    let outer = length-append (items ++ value ∷ []) others in
    let inner = length-append items (value ∷ []) in
    let many : nat_le (length ((items ++ value ∷ []) ++ others)) 64 ≡ false = grind (arith, nat_tests, outer, inner) in
    rw many refl

-- an element more than a message takes
pub listed_full : (field items bytes first : List ℕ) (others : Option (Bor (List ℕ))) (value : ℕ)
    → each_handle (parts_of 44 field) ≡ behind items (each_handle (parts_of 44 bytes)) → IsCut 44 bytes first others → Some value ≡ handle_of first → length items ≡ 64 → None ≡ listed field
unfolding listed
listed_full field items bytes first others value so_far cut reads full =
    too_many items value (each_handle (parts_left 44 others)) full ∙ ap at_most_64 (sym (listed_more field items bytes first others value so_far cut reads))

-- every element is read
pub listed_whole : (field items : List ℕ) → each_handle (parts_of 44 field) ≡ behind items (Some []) → length items ≤ 64 → Some items ≡ listed field
unfolding listed
listed_whole field items so_far few =
    let all : nat_le (length items) 64 ≡ true = grind (arith, nat_tests) in
    let whole : each_handle (parts_of 44 field) ≡ Some items = so_far ∙ ap Some (append-nil items) in
    rw (whole, all) refl

-- so many handles stand in front of those of the elements left
abbrev pub IsListedSoFar : List ℕ → ℕ → Option (Bor (List ℕ)) → Type 0
IsListedSoFar field count left =
    (items : List ℕ) × (each_handle (parts_of 44 field) ≡ behind items (each_handle (parts_left 44 left))) × (length items ≡ count)

behind_nothing : (whole : Option (List ℕ)) → whole ≡ behind [] whole
behind_nothing None = refl
behind_nothing (Some items) = refl

pub listed_begins : (field : Bor (List ℕ)) → IsListedSoFar field.now 0 (Some field)
listed_begins field = ([], behind_nothing (each_handle (parts_of 44 field.now)), refl)

pub listed_goes_on : (field first : List ℕ) (others left : Option (Bor (List ℕ))) (l : Bor (List ℕ)) (value count : ℕ)
    → IsListedSoFar field count left → left ≡ Some l → IsCut 44 l.now first others → Some value ≡ handle_of first → IsListedSoFar field (count + 1) others
listed_goes_on field first others None l value count so_far is cut reads = cc is
listed_goes_on field first others (Some left) l value count (items, so_far, many) is cut reads =
    let same : left ≡ l = cc is in
    let from : each_handle (parts_of 44 field) ≡ behind items (each_handle (parts_of 44 l.now)) = so_far ∙ ap (λ (b : Bor (List ℕ)). behind items (each_handle (parts_of 44 b.now))) same in
    let long : length (items ++ value ∷ []) ≡ count + 1 = length-append items (value ∷ []) ∙ ap (λ n. n + 1) many in
    (items ++ value ∷ [], listed_more field items l.now first others value from cut reads, long)

unread : (field : List ℕ) → None ≡ listed field → false ≡ is_some (listed field)
unread field none = ap is_some none

pub is_listed_bad : (field first : List ℕ) (others left : Option (Bor (List ℕ))) (l : Bor (List ℕ)) (count : ℕ)
    → IsListedSoFar field count left → left ≡ Some l → IsCut 44 l.now first others → None ≡ handle_of first → false ≡ is_some (listed field)
is_listed_bad field first others None l count so_far is cut reads = cc is
is_listed_bad field first others (Some left) l count (items, so_far, many) is cut reads =
    let same : left ≡ l = cc is in
    let from : each_handle (parts_of 44 field) ≡ behind items (each_handle (parts_of 44 l.now)) = so_far ∙ ap (λ (b : Bor (List ℕ)). behind items (each_handle (parts_of 44 b.now))) same in
    unread field (listed_bad field items l.now first others from cut reads)

pub is_listed_full : (field first : List ℕ) (others left : Option (Bor (List ℕ))) (l : Bor (List ℕ)) (value count : ℕ)
    → IsListedSoFar field count left → left ≡ Some l → IsCut 44 l.now first others → Some value ≡ handle_of first → count ≡ 64 → false ≡ is_some (listed field)
is_listed_full field first others None l value count so_far is cut reads full = cc is
is_listed_full field first others (Some left) l value count (items, so_far, many) is cut reads full =
    let same : left ≡ l = cc is in
    let from : each_handle (parts_of 44 field) ≡ behind items (each_handle (parts_of 44 l.now)) = so_far ∙ ap (λ (b : Bor (List ℕ)). behind items (each_handle (parts_of 44 b.now))) same in
    unread field (listed_full field items l.now first others value from cut reads (many ∙ full))

pub is_listed_whole : (field : List ℕ) (left : Option (Bor (List ℕ))) (count : ℕ) → IsListedSoFar field count left → left ≡ None → count ≤ 64 → true ≡ is_some (listed field)
is_listed_whole field None count (items, so_far, many) is few = ap is_some (listed_whole field items so_far (omega (arith, many)))
is_listed_whole field (Some left) count so_far is few = cc is

kept : (items : List ℕ) → is_some (at_most_64 (Some items)) ≡ true → at_most_64 (Some items) ≡ Some items
kept items some =
    elim (nat_le (length items) 64) as (λ b. is_some (if b then Some items else None) ≡ true → (if b then Some items else None) ≡ Some items) [
      | true ↦ λ _. refl
      | false ↦ λ h. cc h
    ] some

few_kept : (all : Option (List ℕ)) (items : List ℕ) → Some items ≡ at_most_64 all → length items ≤ 64
few_kept None items is = cc is
few_kept (Some listed) items is =
    elim (nat_le (length listed) 64) as (λ b. nat_le (length listed) 64 ≡ b → Some items ≡ (if b then Some listed else None) → length items ≤ 64) [
      | true ↦ λ e h. let same : items ≡ listed = cc h in rw same (grind (arith, nat_tests))
      | false ↦ λ e h. cc h
    ] refl is

few_in : (nothing : Bool) (all : Option (List ℕ)) (items : List ℕ) → Some items ≡ (if nothing then Some [] else at_most_64 all) → length items ≤ 64
few_in true all items is = let same : items ≡ [] = cc is in rw same (omega arith)
few_in false all items is = few_kept all items is

some_in : (o : Option (List ℕ)) → true ≡ is_some o → Some (items_of o) ≡ o
some_in None some = cc some
some_in (Some items) some = refl

none_in : (o : Option (List ℕ)) → false ≡ is_some o → None ≡ o
none_in None none = refl
none_in (Some items) none = cc none

-- what is listed is not refused
pub listed_is : (field : List ℕ) → None ≡ listed field → is_some (listed field) ≡ true → ⊥
listed_is field none some = let false_is : false ≡ is_some (listed field) = ap is_some none in cc

-- where all is listed, what is read is what is listed
pub listed_all : (field items : List ℕ) → each_handle (parts_of 44 field) ≡ behind items (Some []) → is_some (listed field) ≡ true → Some items ≡ listed field
unfolding listed
listed_all field items so_far some =
    let whole : each_handle (parts_of 44 field) ≡ Some items = so_far ∙ ap Some (append-nil items) in
    sym (ap at_most_64 whole ∙ kept items (ap is_some (ap at_most_64 (sym whole)) ∙ some))

-- the handles of a field that lists some, and that it lists none
pub some_handles : (field : List ℕ) → true ≡ is_some (handles_of field) → Some (handles_in field) ≡ handles_of field
some_handles field some = some_in (handles_of field) some

pub no_handles : (field : List ℕ) → false ≡ is_some (handles_of field) → None ≡ handles_of field
no_handles field none = none_in (handles_of field) none

-- no more than a message takes
pub few_handles : (field items : List ℕ) → Some items ≡ handles_of field → length items ≤ 64
unfolding handles_of listed
few_handles field items is = few_in (bytes_eq field (codes "-")) (each_handle (parts_of 44 field)) items is
