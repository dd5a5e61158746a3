-- How many moments two paths share: where they part, or where one of them ends.
use Rattle.std.proofs.Common.{◌≡◌, ◌≤◌, ◌<◌, ℕ, false, List, length, take, get_or, Some, inl, inr, refl, sym, ◌∙◌, nat_eq}
use Rattle.std.specs.Prelude.{slice_get}
use Rattle.std.proofs.lemmas.Bool.{cases_lt, eq-eqb, true≢false}
use Rattle.std.proofs.lemmas.Option.{slice_get_read, slice_get_past, none-some, same_Some}
use Rattle.zt_history.proofs.ListLaws.{get-within}
use Rattle.zt_queries.specs.ProofsOnly.RowHappenings.{IsFork}

module _ (way here : List ℕ) (n : ℕ) (in_way : n ≤ length way) (in_here : n ≤ length here) (same : take n way ≡ take n here) where
  -- the next moments differ
  pub fork-apart : (a b : ℕ) → n < length way → n < length here → a ≡ get_or way n a → b ≡ get_or here n b → nat_eq a b ≡ false → IsFork way here n
  fork-apart a b l g at there differ =
      let first : slice_get way n ≡ Some a = slice_get_read way (length way) n a refl l at in
      let second : slice_get here n ≡ Some b = slice_get_read here (length here) n b refl g there in
      record {
        in_way = in_way;
        in_here = in_here;
        same = same;
        no_more = λ e. absurd (true≢false (sym (eq-eqb a b (same_Some a b (sym first ∙ e ∙ second))) ∙ differ));
      }

  -- the one ends
  pub fork-past : length here ≤ n → IsFork way here n
  fork-past past = record {
    in_way = in_way;
    in_here = in_here;
    same = same;
    no_more = λ e. elim (cases_lt n (length way)) [
      | inl l ↦ let w = get-within way n l in absurd (none-some w.0 (sym (sym w.1 ∙ e ∙ slice_get_past here n past)))
      | inr g ↦ g
    ];
  }

  -- the other ends
  pub fork-whole : length way ≤ n → IsFork way here n
  fork-whole whole = record { in_way = in_way; in_here = in_here; same = same; no_more = λ _. whole }
