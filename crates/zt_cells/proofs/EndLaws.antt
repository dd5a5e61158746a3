-- Up to where the four tables by owner of the entries have places.
use Rattle.std.proofs.Common.{zero, suc, ◌≡◌, ◌≤◌, ◌<◌, ℕ, List, [], length, get_or, map, Option, ap, ◌∙◌, arith}
use Rattle.std.proofs.lemmas.List.{length-map}
use Rattle.zt_rows.specs.declared.rows.Row.{Row}
use Rattle.zt_cells.specs.ProofsOnly.TablePlaces.{table, lengths, by_owner}
use Rattle.zt_cells.specs.TableSizes.{most_owners, most_places}
use Rattle.zt_cells.proofs.RowTableLaws.{at_lengths, at_sizes}

owners_at : (E : List (List (List (Option Row)))) (r : ℕ) → length (get_or (map lengths E) r []) ≡ length (by_owner E r)
owners_at E r = ap length (at_sizes E r) ∙ length-map (by_owner E r) length

pub owners-within : (E : List (List (List (Option Row)))) (r : ℕ) → r < 4 → length (by_owner E r) ≤ most_owners (map lengths E)
unfolding most_owners
owners-within E zero h =
    let e = owners_at E 0 in
    omega (arith, e)
owners-within E (suc zero) h =
    let e = owners_at E 1 in
    omega (arith, e)
owners-within E (suc (suc zero)) h =
    let e = owners_at E 2 in
    omega (arith, e)
owners-within E (suc (suc (suc zero))) h =
    let e = owners_at E 3 in
    omega (arith, e)
owners-within E (suc (suc (suc (suc r)))) h = absurd (omega arith)

pub owners-most : (E : List (List (List (Option Row)))) (most : ℕ) → ((r : ℕ) → r < 4 → length (by_owner E r) ≤ most) → most ≤ most_owners (map lengths E) → most ≡ most_owners (map lengths E)
unfolding most_owners
owners-most E most h le =
    let zeroth = h 0 (omega arith) in
    let first = h 1 (omega arith) in
    let second = h 2 (omega arith) in
    let third = h 3 (omega arith) in
    omega (arith, le, zeroth, first, second, third, owners_at E 0, owners_at E 1, owners_at E 2, owners_at E 3)

places_at : (E : List (List (List (Option Row)))) (r x : ℕ) → get_or (get_or (map lengths E) r []) x 0 ≡ length (table (by_owner E r) x)
places_at E r x = ap (λ sizes. get_or sizes x 0) (at_sizes E r) ∙ at_lengths (by_owner E r) x

pub places-within : (E : List (List (List (Option Row)))) (r x : ℕ) → r < 4 → length (table (by_owner E r) x) ≤ most_places (map lengths E) x
unfolding most_places
places-within E zero x h =
    let e = places_at E 0 x in
    omega (arith, e)
places-within E (suc zero) x h =
    let e = places_at E 1 x in
    omega (arith, e)
places-within E (suc (suc zero)) x h =
    let e = places_at E 2 x in
    omega (arith, e)
places-within E (suc (suc (suc zero))) x h =
    let e = places_at E 3 x in
    omega (arith, e)
places-within E (suc (suc (suc (suc r)))) x h = absurd (omega arith)

pub places-most : (E : List (List (List (Option Row)))) (x most : ℕ) → ((r : ℕ) → r < 4 → length (table (by_owner E r) x) ≤ most) → most ≤ most_places (map lengths E) x → most ≡ most_places (map lengths E) x
unfolding most_places
places-most E x most h le =
    let zeroth = h 0 (omega arith) in
    let first = h 1 (omega arith) in
    let second = h 2 (omega arith) in
    let third = h 3 (omega arith) in
    omega (arith, le, zeroth, first, second, third, places_at E 0 x, places_at E 1 x, places_at E 2 x, places_at E 3 x)
