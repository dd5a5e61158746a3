-- What a history keeps: at the opening, while it moves, and what of it the store's rows tell.
use Rattle.std.proofs.Common.{◌≡◌, ℕ, suc, ◌≤◌, List, [], length, set, refl, sym, ◌∙◌, ap, subst, arith}
use Rattle.std.specs.List.{IsDistinct}
use Rattle.std.proofs.lemmas.Option.{none-some}
use Rattle.zt_rows.specs.declared.calls.Reply.{Reply}
use Rattle.zt_rows.specs.Opening.{opening}
use Rattle.zt_rows.specs.State.{State}
use Rattle.zt_rows.specs.Step.{run}
use Rattle.zt_store.specs.StoreView.{Stored}
use Rattle.zt_history.specs.declared.history.Undo.{Undo}
use Rattle.zt_history.specs.declared.history.Undo.TheVariants as undo
use Rattle.zt_history.specs.Tree.{Made, Branch, opening_tree, parent_at, state_at, calls_to, replies_to}
use Rattle.zt_history.specs.Timeline.{Timeline}
use Rattle.zt_history.specs.TreeInvariant.{AreMoments, AreBranches}
use Rattle.zt_history.specs.ProofsOnly.TreeInvariant.{IsHistory}
use Rattle.zt_history.specs.ProofsOnly.MomentNodes.{Chronicle, IsTurned}
use Rattle.zt_history.specs.ProofsOnly.KeptHistory.{IsKept, timeline_of}
use Rattle.zt_history.proofs.HistoryLaws.{history-opening, history-back, history-forth}
use Rattle.zt_history.proofs.RunLaws.{run-path}

pub no_moments : AreMoments []
no_moments = record { few = omega arith; falls = λ i. omega arith; each = λ i e h. absurd (none-some e h) }

pub one_branch : AreBranches 0 opening_tree.branches
unfolding IsDistinct
one_branch = record { main = refl; names = (tt, tt); heads = (omega arith, tt) }

pub kept-opening : (store : Stored) (moments : Chronicle) (branches : List Branch) → store.state ≡ opening → moments.made ≡ [] → moments.records ≡ [] → branches ≡ opening_tree.branches
    → IsKept store moments branches 0 undo.Nothing
kept-opening store moments branches here none empty one = record {
  moments_stand = subst AreMoments (sym none) no_moments;
  branches_stand = subst (λ (made : List Made). AreBranches (length made) branches) (sym none) (subst (AreBranches 0) (sym one) one_branch);
  history = subst (λ (made : List Made). IsHistory made 0 store moments.records) (sym none) (subst (IsHistory [] 0 store) (sym empty) (history-opening store here));
  undo = tt;
}

-- the store is where running the calls on the path leads, and the moments' replies are those of the run
pub kept-run : (store : Stored) (moments : Chronicle) (branches : List Branch) (position : ℕ) (last : Undo) (h : Timeline)
    → IsKept store moments branches position last → timeline_of (record { made = moments.made; branches = branches }) position last ≡ h
    → ◌≡◌ {A = State × List Reply} (store.state, replies_to h.tree.made h.position) (run opening (calls_to h.tree.made h.position))
kept-run store moments branches position last h is seen =
    ap (λ (S : State). (S, replies_to h.tree.made h.position)) (is.history.here ∙ (λ i. state_at (seen i).tree.made (seen i).position))
    ∙ (λ i. (state_at (sym seen i).tree.made (sym seen i).position, replies_to (sym seen i).tree.made (sym seen i).position))
    ∙ sym (run-path moments.made is.moments_stand position is.history.within)
    ∙ (λ i. run opening (calls_to (seen i).tree.made (seen i).position))

-- ---- moving

module _ (old new : Stored) (from to : Chronicle) (branches : List Branch) (last : Undo) (i m : ℕ) (turned : IsTurned from to old new i) (place : m ≡ suc i) where
  kept-turned : (p q : ℕ) → IsKept old from branches p last → IsHistory from.made q new (set from.records i turned.kept) → IsKept new to branches q undo.Nothing
  kept-turned p q is there = record {
    moments_stand = subst AreMoments (sym turned.made) is.moments_stand;
    branches_stand = let P : List Made → Type 0 = λ made. AreBranches (length made) branches in subst P (sym turned.made) is.branches_stand;
    history =
        let P : List Made → Type 0 = λ made. IsHistory made q new (set from.records i turned.kept) in
        subst (IsHistory to.made q new) (sym turned.records) (subst P (sym turned.made) there);
    undo = tt;
  }

  -- back from the moment, to its parent
  pub kept-back : (q : ℕ) → q ≡ parent_at to.made m → IsKept old from branches m last → IsKept new to branches q undo.Nothing
  kept-back q up is =
      let P : ℕ → Type 0 = λ m. IsHistory from.made m old from.records in
      let at : IsHistory from.made (suc i) old from.records = subst P place is.history in
      let parent : parent_at from.made (suc i) ≡ q = (λ j. parent_at (sym turned.made j) (sym place j)) ∙ sym up in
      kept-turned m q is
      (subst (λ q. IsHistory from.made q new (set from.records i turned.kept)) parent
      (history-back from.made is.moments_stand.falls i old new from.records turned.was turned.kept (omega (arith, at.within)) turned.at turned.exchanged turned.places turned.fit at))

  -- forth to the moment, from its parent
  pub kept-forth : (p : ℕ) → parent_at from.made m ≡ p → m ≤ length from.made → IsKept old from branches p last → IsKept new to branches m undo.Nothing
  kept-forth p up there is =
      let parent : p ≡ parent_at from.made (suc i) = sym up ∙ ap (parent_at from.made) place in
      let P : ℕ → Type 0 = λ p. IsHistory from.made p old from.records in
      kept-turned p m is
      (subst (λ q. IsHistory from.made q new (set from.records i turned.kept)) (sym place)
      (history-forth from.made is.moments_stand.falls i old new from.records turned.was turned.kept (omega (arith, there, place)) turned.at turned.exchanged turned.places turned.fit (subst P parent is.history)))
