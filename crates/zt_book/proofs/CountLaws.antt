-- The rows of each client stay counted while one more is written.
use Rattle.std.proofs.Common.{◌≡◌, ℕ, ◌+◌, ◌-◌, ◌≤◌, ◌<◌, Bool, true, false, eqb, cond, List, [], ◌∷◌, ◌++◌, length, get_or, refl, sym, ◌∙◌, ap, subst, arith, length-append}
use Rattle.std.specs.Prelude.{All}
use Rattle.std.specs.List.{AllByRecursion}
use Rattle.std.proofs.lemmas.Bool.{eqb-true, eqb-false}
use Rattle.std.proofs.lemmas.List.{get_or-set_same, get_or-set_other}
use Rattle.std.proofs.lemmas.List.Elements.{filter-append}
use Rattle.zt_book.specs.declared.client.Client.{Client}
use Rattle.zt_book.specs.declared.log.Recorded.{Recorded}
use Rattle.zt_book.specs.Session.{Session, first_client, client_of, most_rows}
use Rattle.zt_book.specs.Log.{rows_of, IsOf, IsCounted}
use Rattle.zt_book.proofs.ListLaws.{all-append}
use Rattle.zt_book.specs.ProofsOnly.SessionState.{IsOneMore}
use Rattle.zt_book.proofs.ServedLaws.{one-more-length}

-- ---- no row yet

pub counted-begun : (M : Session) → length M.clients ≤ 4 → All (λ (client : Client). client.rows ≡ 0) M.clients → IsCounted M []
counted-begun M few none =
    let nothing : (client : ℕ) → 1 ≤ client → client ≤ length M.clients → (client_of M client).rows ≡ 0 =
    λ client one known. none (client - 1) first_client (omega (arith, one, known)) in
    record {
      few = few;
      each = nothing;
      within = λ client one known. subst (λ rows. rows ≤ most_rows) (sym (nothing client one known)) (omega arith);
      of_clients = tt;
    }

-- ---- one row more

one_row : (client i : ℕ) (row : Recorded) → row.client ≡ client → length (rows_of i (row ∷ [])) ≡ cond (eqb client i) 1 0
one_row client i row is =
    let tells : (b : Bool) → length (cond b (row ∷ []) []) ≡ cond b 1 0 = λ b. elim b as (λ b. length (cond b (row ∷ []) []) ≡ cond b 1 0) [ true ↦ refl | false ↦ refl ] in
    ap (λ n. length (cond (eqb n i) (row ∷ []) [])) is ∙ tells (eqb client i)

rows_more : (client i : ℕ) (log : List Recorded) (row : Recorded) → row.client ≡ client → length (rows_of i (log ++ row ∷ [])) ≡ length (rows_of i log) + cond (eqb client i) 1 0
rows_more client i log row is =
    ap length (filter-append (λ row. eqb row.client i) log (row ∷ []))
    ∙ length-append (rows_of i log) (rows_of i (row ∷ []))
    ∙ ap (λ n. length (rows_of i log) + n) (one_row client i row is)

module _ (M N : Session) (client : ℕ) (log : List Recorded) (row : Recorded) (one : 1 ≤ client) (known : client ≤ length M.clients)
    (is : row.client ≡ client) (more : IsOneMore M.clients N.clients client) where
  here : (i : ℕ) → i ≡ client → (client_of N i).rows ≡ (client_of M i).rows + 1
  here i same =
      let P : ℕ → Type 0 = λ i. (client_of N i).rows ≡ (client_of M i).rows + 1 in
      subst P (sym same)
      (ap (λ (l : List Client). (get_or l (client - 1) first_client).rows) more.is
      ∙ ap (λ (c : Client). c.rows) (get_or-set_same M.clients (client - 1) more.to first_client (omega (arith, one, known)))
      ∙ more.rows)

  elsewhere : (i : ℕ) → 1 ≤ i → (i ≡ client → ⊥) → client_of N i ≡ client_of M i
  elsewhere i first other =
      let apart : i - 1 ≡ client - 1 → ⊥ = λ h. other (omega (arith, h, first, one)) in
      ap (λ (l : List Client). get_or l (i - 1) first_client) more.is
      ∙ get_or-set_other M.clients (client - 1) (i - 1) more.to first_client apart

  each_more : IsCounted M log → (i : ℕ) → 1 ≤ i → i ≤ length M.clients → (b : Bool) → eqb client i ≡ b → (client_of N i).rows ≡ length (rows_of i log) + cond b 1 0
  each_more counted i first there true h =
      let same : i ≡ client = sym (eqb-true client i h) in
      here i same ∙ ap (λ n. n + 1) (counted.each i first there)
  each_more counted i first there false h =
      let other : i ≡ client → ⊥ = λ same. eqb-false client i h (sym same) in
      ap (λ (c : Client). c.rows) (elsewhere i first other) ∙ counted.each i first there ∙ omega arith

  within_more : IsCounted M log → (client_of M client).rows < most_rows → (i : ℕ) → 1 ≤ i → i ≤ length M.clients → (b : Bool) → eqb client i ≡ b → (client_of N i).rows ≤ most_rows
  within_more counted few i first there true h =
      let same : i ≡ client = sym (eqb-true client i h) in
      omega (arith, here i same, subst (λ j. (client_of M j).rows < most_rows) (sym same) few)
  within_more counted few i first there false h =
      let other : i ≡ client → ⊥ = λ same. eqb-false client i h (sym same) in
      subst (λ (c : Client). c.rows ≤ most_rows) (sym (elsewhere i first other)) (counted.within i first there)

  pub counted-row : IsCounted M log → (client_of M client).rows < most_rows → IsCounted N (log ++ row ∷ [])
  counted-row counted few =
      let long : length N.clients ≡ length M.clients = one-more-length M.clients N.clients client more in
      let of_it : IsOf (length M.clients) row = (subst (λ n. 1 ≤ n) (sym is) one, subst (λ n. n ≤ length M.clients) (sym is) known) in
      record {
        few = subst (λ n. n ≤ 4) (sym long) counted.few;
        each = λ i first there.
            each_more counted i first (subst (λ n. i ≤ n) long there) (eqb client i) refl ∙ sym (rows_more client i log row is);
        within = λ i first there. within_more counted few i first (subst (λ n. i ≤ n) long there) (eqb client i) refl;
        of_clients =
            subst (λ n. AllByRecursion (IsOf n) (log ++ row ∷ [])) (sym long) (all-append (IsOf (length M.clients)) log row counted.of_clients of_it);
      }
