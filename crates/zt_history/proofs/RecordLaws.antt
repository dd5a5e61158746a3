-- The record by which a store goes over one moment, and what it leaves of the others.
use Rattle.std.proofs.Common.{◌≡◌, ℕ, suc, List, sym, ◌∙◌, ap}
use Rattle.std.specs.Prelude.{if◌then◌else◌}
use Rattle.zt_rows.specs.Change.{before, exchange}
use Rattle.zt_rows.proofs.ChangeLaws.{Rows, exchange-before}
use Rattle.zt_history.specs.Tree.{Made, parent_at, state_at}
use Rattle.zt_history.specs.TreeInvariant.{Falls, record_of}
use Rattle.zt_history.proofs.PathLaws.{among-self, among-other, among-parent}

module _ (made : List Made) (falls : Falls made) (i : ℕ) where
  -- at the moment itself: what was before its call
  pub record_of-here : record_of made (suc i) (suc i) ≡ before (state_at made (parent_at made (suc i))) (state_at made (suc i))
  unfolding record_of
  record_of-here =
      ap (λ b. if b then before (state_at made (parent_at made (suc i))) (state_at made (suc i)) else before (state_at made (suc i)) (state_at made (parent_at made (suc i)))) (among-self made falls i)

  -- at its parent: what is after its call
  pub record_of-above : record_of made (parent_at made (suc i)) (suc i) ≡ before (state_at made (suc i)) (state_at made (parent_at made (suc i)))
  unfolding record_of
  record_of-above =
      ap (λ b. if b then before (state_at made (parent_at made (suc i))) (state_at made (suc i)) else before (state_at made (suc i)) (state_at made (parent_at made (suc i)))) (among-parent made falls i)

  -- the records of the others are the same at both
  pub record_of-others : (q : ℕ) → (q ≡ suc i → ⊥) → record_of made (suc i) q ≡ record_of made (parent_at made (suc i)) q
  unfolding record_of
  record_of-others q other =
      ap (λ b. if b then before (state_at made (parent_at made q)) (state_at made q) else before (state_at made q) (state_at made (parent_at made q))) (among-other made falls i q other)

  -- the exchange by which the store goes back over it, and the one by which it goes over it again
  pub exchange-back : exchange (state_at made (suc i)) (record_of made (suc i) (suc i)) ≡ (state_at made (parent_at made (suc i)), record_of made (parent_at made (suc i)) (suc i))
  exchange-back =
      ap (exchange (state_at made (suc i))) record_of-here
      ∙ exchange-before (state_at made (parent_at made (suc i))) (state_at made (suc i))
      ∙ ap (λ (R : Rows). (state_at made (parent_at made (suc i)), R)) (sym record_of-above)

  pub exchange-forth : exchange (state_at made (parent_at made (suc i))) (record_of made (parent_at made (suc i)) (suc i)) ≡ (state_at made (suc i), record_of made (suc i) (suc i))
  exchange-forth =
      ap (exchange (state_at made (parent_at made (suc i)))) record_of-above
      ∙ exchange-before (state_at made (suc i)) (state_at made (parent_at made (suc i)))
      ∙ ap (λ (R : Rows). (state_at made (suc i), R)) (sym record_of-here)
