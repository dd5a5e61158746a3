-- Undoing a list of records from its end.
use Rattle.std.proofs.Common.{◌≡◌, ℕ, ◌+◌, ◌<◌, ◌≤◌, true, List, ◌∷◌, length, take, drop, get_or, set, sym, ap, subst, ◌∙◌, arith}
use Rattle.std.proofs.lemmas.List.{drop_more, drop-set, take-set, take-take, get_or-take, length-set}
use Rattle.zt_rows.specs.State.{State}
use Rattle.zt_rows.specs.Change.{exchange}
use Rattle.zt_rows.specs.Path.{exchange_back, end_of, records_of}
use Rattle.zt_rows.proofs.ChangeLaws.{restores}
use Rattle.zt_store.specs.Places.{Places, fits}
use Rattle.zt_store.specs.RecordRows.{all_fit}
use Rattle.zt_store.proofs.Fitting.{Rows, all_fit-set}

-- all but the first `left` records are exchanged
pub record IsUndone (first : State) (whole : List Rows) (left : ℕ) (so_far : State) (back : List Rows) (places initially : Places) : Type 0 where
  pub within : left ≤ length whole
  pub size : length back ≡ length whole
  pub state : (exchange_back first (drop left whole)).0 ≡ so_far
  pub done : (exchange_back first (drop left whole)).1 ≡ drop left back
  pub rest : take left back ≡ take left whole
  pub same : places ≡ initially
  pub fit : all_fit places back ≡ true

pub undone-restores : (first : State) (whole : List Rows) (left : ℕ) (so_far : State) (back : List Rows) (places initially : Places) → IsUndone first whole left so_far back places initially → left ≤ 0
    → (s : State) (path : List State) → first ≡ end_of s path → whole ≡ records_of s path → so_far ≡ s
undone-restores first whole left so_far back places initially is none s path at_end recorded =
    let zero : left ≡ 0 = omega arith in
    sym is.state ∙ (λ i. (exchange_back (at_end i) (drop (zero i) (recorded i))).0) ∙ restores s path

-- one record more is exchanged, d stands for what is read beyond the end
pub undone-step : (first : State) (whole : List Rows) (left n : ℕ) (so_far new : State) (back : List Rows) (kept d : Rows) (places new_places initially : Places) → IsUndone first whole left so_far back places initially → left ≡ n + 1
    → ◌≡◌ {A = State × Rows} (new, kept) (exchange so_far (get_or back n d)) → new_places ≡ places → fits new_places kept ≡ true → IsUndone first whole n new (set back n kept) new_places initially
undone-step first whole left n so_far new back kept d places new_places initially is more exchanged same fit =
    let within : n < length whole = omega (arith, is.within) in
    let in_back : n < length back = omega (arith, is.size, within) in
    let less : n < left = omega arith in
    let le : n ≤ left = omega arith in
    let next : drop n whole ≡ get_or whole n d ∷ drop left whole = drop_more whole n d within ∙ ap (λ m. get_or whole n d ∷ drop m whole) (sym more) in
    let same_record : get_or whole n d ≡ get_or back n d =
    sym (get_or-take left whole n d less) ∙ ap (λ Rs. get_or Rs n d) (sym is.rest) ∙ get_or-take left back n d less in
    let step : ◌≡◌ {A = State × Rows} (exchange (exchange_back first (drop left whole)).0 (get_or whole n d)) (new, kept) =
    (λ i. exchange (is.state i) (same_record i)) ∙ sym exchanged in
    record {
      within = omega (arith, is.within);
      size = length-set back n kept ∙ is.size;
      state = ap (λ Rs. (exchange_back first Rs).0) next ∙ ap (λ (x : State × Rows). x.0) step;
      done =
          ap (λ Rs. (exchange_back first Rs).1) next
          ∙ (λ i. (step i).1 ∷ is.done i)
          ∙ ap (λ m. kept ∷ drop m back) more ∙ sym (drop-set back n kept in_back);
      rest = take-set back n kept ∙ sym (take-take n left back le) ∙ ap (take n) is.rest ∙ take-take n left whole le;
      same = same ∙ is.same;
      fit = all_fit-set new_places back n kept (subst (λ p. all_fit p back ≡ true) (sym same) is.fit) fit;
    }
