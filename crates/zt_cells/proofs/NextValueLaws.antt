-- The next value of an entry among those of one remainder.
use Rattle.std.proofs.Common.{rules, ◌≡◌, ◌≤◌, ◌<◌, ◌↔◌, ℕ, ◌+◌, ◌*◌, ◌/◌, ◌%◌, List, [], get_or, Option, Some, None, IsSome, length, sym, ap, ◌∙◌, subst, arith, ⊎_elim}
use Rattle.std.proofs.lemmas.Bool.{cases_lt}
use Rattle.std.proofs.lemmas.List.{get_or_default, get_or_past}
use Rattle.zt_rows.specs.declared.rows.Row.{Row}
use Rattle.zt_cells.specs.ProofsOnly.NextValues.{IsNextValue, IsNextValueAt}
use Rattle.zt_cells.specs.ProofsOnly.TablePlaces.{by_owner, cell, entry, table, IsNextCell}

at_value : (sizes : List (List (List (Option Row)))) (p r n g : ℕ) → g % 4 ≡ r → g / 4 ≡ n → entry sizes p g ≡ cell (table (by_owner sizes r) p) n
at_value sizes p r n g m q =
    ap (λ s. cell (table (by_owner sizes s) p) (g / 4)) m ∙ ap (cell (table (by_owner sizes r) p)) q

module _ (sizes : List (List (List (Option Row)))) (p from r q : ℕ) (few : r < 4) (low : (n : ℕ) → (q ≤ n) ↔ (from ≤ 4 * n + r)) where
  pub next-none : IsNextCell (table (by_owner sizes r) p) q None → IsNextValue sizes p from (λ s. s ≡ r) None
  next-none none g m le = at_value sizes p r (g / 4) g m (omega arith) ∙ none (g / 4) ((low (g / 4)).1 (omega arith))

  pub next-some : (n : ℕ) → IsNextCell (table (by_owner sizes r) p) q (Some n) → IsNextValueAt sizes p from (λ s. s ≡ r) (4 * n + r)
  next-some n at = record {
    from_there = (low n).0 at.from_there;
    there = subst IsSome (sym (at_value sizes p r n (4 * n + r) (omega arith) (omega arith))) at.there;
    least = λ g m le lt. at_value sizes p r (g / 4) g m (omega arith) ∙ at.first (g / 4) ((low (g / 4)).1 (omega arith)) (omega arith);
  }

-- the table of a process as it was read
pub table-read : (inside seen : List (List (List (Option Row)))) (read : List (List (Option Row))) (r x p : ℕ) → inside ≡ seen → length inside ≡ 4 → r < 4 → x ≡ p → table (get_or inside r read) x ≡ table (by_owner seen r) p
table-read inside seen read r x p is len few owner =
    let there : r < length inside = omega arith in
    ap (table (get_or inside r read)) owner ∙ ap (λ s. table s p) (get_or_default inside r read [] there ∙ ap (λ t. by_owner t r) is)

not_some : (o : Option Row) → IsSome o → o ≡ None → ⊥
not_some (Some row) h e = cc
not_some None h e = search rules

-- a row stands within its table
pub row-within : (places : List (Option Row)) (n : ℕ) → IsSome (cell places n) → n < length places
row-within places n there =
    ⊎_elim (λ h. h) (λ h. absurd (not_some (cell places n) there (get_or_past places n None h))) (cases_lt n (length places))
