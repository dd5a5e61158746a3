-- What is alive at the end of a path: object by object, and of all koids that were given out.
use Rattle.std.proofs.Common.{◌≡◌, ℕ, zero, suc, ◌≤◌, ◌<◌, Bool, true, false, ◌||◌, List, Option, Some, None, inl, inr, refl, sym, ◌∙◌, ap, subst, arith}
use Rattle.std.specs.Prelude.{◌==◌, if◌then◌else◌, nat_le}
use Rattle.std.specs.Option.{option_and_then, option_map}
use Rattle.std.proofs.lemmas.Bool.{eqb-true, eq-eqb}
use Rattle.std.proofs.lemmas.Bool.Decides.{nat_tests}
use Rattle.zt_rows.specs.declared.calls.Happening.TheVariants as happening
use Rattle.zt_rows.specs.declared.rows.ObjectRow.{ObjectRow}
use Rattle.zt_rows.specs.Reads.{counters, is_live, object, on_object}
use Rattle.zt_rows.specs.State.{State}
use Rattle.zt_rows.specs.Support.{support_count}
use Rattle.zt_rows.specs.Tests.{among}
use Rattle.zt_rows.proofs.RowLaws.{or_right, or_true, true≢false}
use Rattle.zt_history.specs.RowHappenings.{last_shown}
use Rattle.zt_history.specs.Tree.{Made, Tree, last_moment, parent_at, path, state_at}
use Rattle.zt_history.specs.TreeInvariant.{Falls, IsTree}
use Rattle.zt_history.specs.declared.row_happenings.RowHappening.TheVariants as shown
use Rattle.zt_history.proofs.LawsOfTrees.{tree-consistent}
use Rattle.zt_history.proofs.PathLaws.{among-early, among-other, among-self}
use Rattle.zt_queries.specs.Happenings.{lives}
use Rattle.zt_queries.specs.HappeningTimes.{happens, last_on}
use Rattle.zt_queries.specs.LaterMoments.{leads_to}
use Rattle.zt_queries.proofs.WhenLaws.{shown-is}
use Rattle.zt_look.specs.declared.alive_list.AliveObject.{AliveObject}
use Rattle.zt_look.specs.AliveList.{AreAlive, IsAlive}
use Rattle.zt_look.specs.ProofsOnly.AliveSoFar.{alive_shown, kind_of_living, made_behind}
use Rattle.zt_look.specs.ProofsOnly.NumbersBelow.{told_below}
use Rattle.zt_look.proofs.BelowLaws.{below-all, below-each, below-rising}

-- ---- up from one moment to another

module _ (made : List Made) (falls : Falls made) (moment : ℕ) where
  pub leads-up : (here : ℕ) → moment < here → leads_to made moment (parent_at made here) ≡ leads_to made moment here
  leads-up zero h = absurd (omega (arith, h))
  leads-up (suc i) h = ap (λ b. (0 == moment) || b) (sym (among-other made falls i moment (λ e. omega (arith, h, e))))

  leads-self : (m : ℕ) → leads_to made m m ≡ true
  leads-self zero = refl
  leads-self (suc i) = or_right (0 == suc i) (among (path made (suc i)) (suc i)) (among-self made falls i)

  pub leads-met : (here : ℕ) → here ≤ moment → (here == moment) ≡ leads_to made moment here
  leads-met here h = by (here == moment) refl
    where
      apart : (here == moment) ≡ false → moment ≤ here → ⊥
      apart e g = true≢false (here == moment) (eq-eqb here moment (omega (arith, h, g))) e

      unled : (here == moment) ≡ false → (b : Bool) → leads_to made moment here ≡ b → leads_to made moment here ≡ false
      unled e false l = l
      unled e true l =
          elim (or_true (0 == moment) (among (path made here) moment) l) [
            | inl z ↦ absurd (apart e (omega (arith, eqb-true 0 moment z)))
            | inr a ↦ absurd (apart e (among-early made falls here moment a))
          ]

      by : (b : Bool) → (here == moment) ≡ b → (here == moment) ≡ leads_to made moment here
      by true e = e ∙ sym (subst (λ q. leads_to made moment q ≡ true) (sym (eqb-true here moment e)) (leads-self moment))
      by false e = e ∙ sym (unled e (leads_to made moment here) refl)

-- ---- one object

module _ (made : List Made) (at since : ℕ) where
  abbrev S : State
  S = state_at made at

  -- by its row
  abbrev of_row : ℕ → Option ObjectRow → Option AliveObject
  of_row x r = option_and_then (λ k. option_and_then (made_behind S since x k) (last_shown shown.Made x made at)) (option_and_then kind_of_living r)

  some_same : {A : Type 0} (a b : A) → Some a ≡ Some b → a ≡ b
  some_same a b e = cc

  abbrev IsTold : ℕ → AliveObject → Type 0
  IsTold x o = IsAlive made at since o × (o.koid ≡ x)

  of-moment : (x m : ℕ) (o : AliveObject) (row : ObjectRow) → object S x ≡ Some row → is_live row.life ≡ true → last_shown shown.Made x made at ≡ Some m
      → made_behind S since x row.kind m ≡ Some o → IsTold x o
  of-moment x m o row here live is h = by (nat_le m since) refl h
    where
      told : AliveObject
      told = record { koid = x; kind = row.kind; holders = support_count S x; made = m }

      by : (b : Bool) → nat_le m since ≡ b → (if b then None else Some told) ≡ Some o → IsTold x o
      by true g h = cc
      by false g h =
          subst (IsTold x) (some_same told o h) (
            record {
              living = ap (on_object (λ o. is_live o.life)) here ∙ live;
              kind = ap (option_map (λ (o : ObjectRow). o.kind)) here;
              holders = refl;
              made_at = sym (shown-is shown.Made x made at) ∙ is;
              behind = grind (arith, nat_tests);
            },
            refl,
          )

  of-object : (x : ℕ) (o : AliveObject) (r : Option ObjectRow) → object S x ≡ r → of_row x r ≡ Some o → IsTold x o
  of-object x o None here h = cc
  of-object x o (Some row) here h = by (is_live row.life) refl h
    where
      by_made : is_live row.life ≡ true → (m : Option ℕ) → last_shown shown.Made x made at ≡ m → option_and_then (made_behind S since x row.kind) m ≡ Some o → IsTold x o
      by_made live None is h = cc
      by_made live (Some m) is h = of-moment x m o row here live is h

      by : (b : Bool) → is_live row.life ≡ b
          → option_and_then (λ k. option_and_then (made_behind S since x k) (last_shown shown.Made x made at)) (if b then Some row.kind else None) ≡ Some o → IsTold x o
      by true live h = by_made live (last_shown shown.Made x made at) refl h
      by false live h = cc

  -- what is told is so
  alive-told : (x : ℕ) (o : AliveObject) → alive_shown made at since x ≡ Some o → IsTold x o
  alive-told x o h = of-object x o (object S x) refl h

  -- what is so is told
  alive-found : (x m : ℕ) → lives S x ≡ true → last_on (happens happening.Made x) made at ≡ Some m → since < m → (o : AliveObject) × (alive_shown made at since x ≡ Some o)
  alive-found x m lives last behind = by (object S x) refl
    where
      by : (r : Option ObjectRow) → object S x ≡ r → (o : AliveObject) × (alive_shown made at since x ≡ Some o)
      by None here = absurd (true≢false (on_object (λ o. is_live o.life) (object S x)) lives (ap (on_object (λ o. is_live o.life)) here))
      by (Some row) here =
          let live : is_live row.life ≡ true = sym (ap (on_object (λ o. is_live o.life)) here) ∙ lives in
          let later : nat_le m since ≡ false = grind (arith, nat_tests) in
          let told : AliveObject = record { koid = x; kind = row.kind; holders = support_count S x; made = m } in (
            told,
            ap (of_row x) here
                ∙ ap (λ b. option_and_then (λ k. option_and_then (made_behind S since x k) (last_shown shown.Made x made at)) (if b then Some row.kind else None)) live
                ∙ ap (option_and_then (made_behind S since x row.kind)) (shown-is shown.Made x made at ∙ last)
                ∙ ap (λ b. if b then None else Some told) later,
          )

-- ---- all of them

pub all-alive : (t : Tree) → IsTree t → (at since next : ℕ) → at ≤ last_moment t → next ≡ (counters (state_at t.made at)).next_koid → (list : List AliveObject)
    → list ≡ told_below (alive_shown t.made at since) next → AreAlive t.made at since list
all-alive t tree at since next within is list told = subst (AreAlive t.made at since) (sym told) (record {
  each = below-each (alive_shown t.made at since) (IsAlive t.made at since) (λ x o h. (alive-told t.made at since x o h).0) next;
  rising = below-rising (alive_shown t.made at since) (λ (o : AliveObject). o.koid) (λ x o h. (alive-told t.made at since x o h).1) next;
  all = λ x m lives last behind.
      let found = alive-found t.made at since x m lives last behind in
      below-all (alive_shown t.made at since) (λ (o : AliveObject). o.koid) (λ x o h. (alive-told t.made at since x o h).1) next x found.0 (given-out x lives) found.1;
})
  where
    given-out : (x : ℕ) → lives (state_at t.made at) x ≡ true → x < next
    given-out x lives = by (object (state_at t.made at) x) refl
      where
        by : (r : Option ObjectRow) → object (state_at t.made at) x ≡ r → x < next
        by None here = absurd (true≢false (on_object (λ o. is_live o.life) (object (state_at t.made at) x)) lives (ap (on_object (λ o. is_live o.life)) here))
        by (Some row) here =
            let high : x < (counters (state_at t.made at)).next_koid = ((tree-consistent t at tree within).sound.of_objects x row here).high in
            omega (arith, high, is)
