-- The jobs above a live process or job: each is live and has a smaller koid, what is above one of them is above it,
-- and of two of them one is above the other. What is under a job follows.
use Rattle.std.proofs.Common.{◌≡◌, ◌≤◌, ◌<◌, ℕ, zero, suc, ◌+◌, true, false, ◌∷◌, ◌⊎◌, inl, inr, refl, sym, ap, ◌∙◌, subst, arith}
use Rattle.std.specs.Prelude.{Option, None, Some, ◌==◌, []}
use Rattle.std.proofs.lemmas.Bool.{eqb-true, eq-eqb}
use Rattle.zt_rows.specs.declared.rows.ObjectRow.{ObjectRow}
use Rattle.zt_rows.specs.State.{State}
use Rattle.zt_rows.specs.Reads.{object, is_live_job}
use Rattle.zt_rows.specs.Tests.{link_at, object_link, among}
use Rattle.zt_rows.specs.End.{upward, links, chain, is_live_task, is_under}
use Rattle.zt_rows.specs.Consistent.{IsChild, has_parent, IsSound}
use Rattle.zt_rows.proofs.RowLaws.{or_true, or_left, or_right, and_left, and_right, and_both}
use Rattle.zt_rows.proofs.SoundLaws.{is_running_task, task-not-endpoint}
use Rattle.zt_rows.proofs.ChainLaws.{chain-child}

-- ---- one step upwards

chain-none : (S : State) (x : ℕ) → link_at S x ≡ 0 → chain S x ≡ []
unfolding chain links
chain-none S x e = let one : x + 1 ≡ suc x = omega arith in ap (λ n. links n S x) one ∙ ap (λ l. upward l (λ y. links x S y)) e

-- the koid is that of its parent, or of a job above the parent
pub record Above (S : State) (x : ℕ) (o : ObjectRow) (j : ℕ) : Type 0 where
  pub child : IsChild S x o
  pub chained : chain S x ≡ o.link ∷ chain S o.link
  pub near : (o.link ≡ j) ⊎ (among (chain S o.link) j ≡ true)

pub above : (S : State) → IsSound S → (x : ℕ) (o : ObjectRow) → object S x ≡ Some o → is_running_task o ≡ true → (j : ℕ) → among (chain S x) j ≡ true → Above S x o j
above S sound x o e t j h =
    elim (has_parent x o) as (λ b. has_parent x o ≡ b → Above S x o j) [
      | true ↦ λ p.
          let up : chain S x ≡ o.link ∷ chain S o.link = chain-child S sound x o e p in
          record {
            child = (sound.of_objects x o e).parents p;
            chained = up;
            near = elim (or_true (o.link == j) _ (ap (λ c. among c j) (sym up) ∙ h)) [ inl is ↦ inl (eqb-true o.link j is) | inr far ↦ inr far ];
          }
      | false ↦ λ p.
          let none : o.link ≡ 0 = (sound.of_objects x o e).alone (task-not-endpoint o t) p in
          absurd (nothing (ap (λ c. among c j) (sym (chain-none S x (ap object_link e ∙ none))) ∙ h))
    ] refl
  where
    nothing : false ≡ true → ⊥
    nothing e = cc

-- what is above the parent is above the child
further : (S : State) (x l k : ℕ) → chain S x ≡ l ∷ chain S l → among (chain S l) k ≡ true → among (chain S x) k ≡ true
further S x l k up h = ap (λ c. among c k) up ∙ or_right (l == k) _ h

nearest : (S : State) (x l k : ℕ) → chain S x ≡ l ∷ chain S l → l ≡ k → among (chain S x) k ≡ true
nearest S x l k up is = ap (λ c. among c k) up ∙ or_left (l == k) _ (eq-eqb l k is)

-- the parent is above its child
pub parent-above : (S : State) → IsSound S → (x : ℕ) (o : ObjectRow) → object S x ≡ Some o → has_parent x o ≡ true → among (chain S x) o.link ≡ true
parent-above S sound x o e h = nearest S x o.link o.link (chain-child S sound x o e h) refl

-- ---- all steps

-- each job above is live, and has a smaller koid
above-live_of : (S : State) → IsSound S → (n x : ℕ) (o : ObjectRow) → object S x ≡ Some o → is_running_task o ≡ true → x < n → (j : ℕ) → among (chain S x) j ≡ true → (q : ObjectRow) × (object S j ≡ Some q) × (is_live_job q ≡ true) × (j < x)
above-live_of S sound zero x o e t few j h = absurd (omega arith)
above-live_of S sound (suc n) x o e t few j h =
    let w : Above S x o j = above S sound x o e t j h in
    let c : IsChild S x o = w.child in
    let less : o.link < x = c.smaller in
    elim w.near [
      | inl is ↦ (c.parent, subst (λ z. object S z ≡ Some c.parent) is c.there, c.live, subst (λ z. z < x) is less)
      | inr far ↦
          let r = above-live_of S sound n o.link c.parent c.there (or_left _ _ c.live) (omega arith) j far in
          let lower : j < o.link = r.3 in
          (r.0, r.1, r.2, omega arith)
    ]

pub above-live : (S : State) → IsSound S → (x : ℕ) (o : ObjectRow) → object S x ≡ Some o → is_running_task o ≡ true → (j : ℕ) → among (chain S x) j ≡ true → (q : ObjectRow) × (object S j ≡ Some q) × (is_live_job q ≡ true) × (j < x)
above-live S sound x o e t j h = above-live_of S sound (suc x) x o e t (omega arith) j h

above-over_of : (S : State) → IsSound S → (n x : ℕ) (o : ObjectRow) → object S x ≡ Some o → is_running_task o ≡ true → x < n → (j k : ℕ) → among (chain S x) j ≡ true → among (chain S j) k ≡ true → among (chain S x) k ≡ true
above-over_of S sound zero x o e t few j k h g = absurd (omega arith)
above-over_of S sound (suc n) x o e t few j k h g =
    let w : Above S x o j = above S sound x o e t j h in
    let c : IsChild S x o = w.child in
    let less : o.link < x = c.smaller in
    elim w.near [
      | inl is ↦ further S x o.link k w.chained (subst (λ z. among (chain S z) k ≡ true) (sym is) g)
      | inr far ↦ further S x o.link k w.chained (above-over_of S sound n o.link c.parent c.there (or_left _ _ c.live) (omega arith) j k far g)
    ]

-- what is above a job above is above
pub above-over : (S : State) → IsSound S → (x : ℕ) (o : ObjectRow) → object S x ≡ Some o → is_running_task o ≡ true → (j k : ℕ) → among (chain S x) j ≡ true → among (chain S j) k ≡ true → among (chain S x) k ≡ true
above-over S sound x o e t j k h g = above-over_of S sound (suc x) x o e t (omega arith) j k h g

above-order_of : (S : State) → IsSound S → (n x : ℕ) (o : ObjectRow) → object S x ≡ Some o → is_running_task o ≡ true → x < n → (j k : ℕ) → among (chain S x) j ≡ true → among (chain S x) k ≡ true → k ≤ j → (j ≡ k) ⊎ (among (chain S j) k ≡ true)
above-order_of S sound zero x o e t few j k h g low = absurd (omega arith)
above-order_of S sound (suc n) x o e t few j k h g low =
    let w : Above S x o j = above S sound x o e t j h in
    let v : Above S x o k = above S sound x o e t k g in
    let c : IsChild S x o = w.child in
    let task : is_running_task c.parent ≡ true = or_left _ _ c.live in
    let less : o.link < x = c.smaller in
    elim w.near [
      | inl isj ↦ elim v.near [
        | inl isk ↦ inl (sym isj ∙ isk)
        | inr fark ↦ inr (subst (λ z. among (chain S z) k ≡ true) isj fark)
      ]
      | inr farj ↦ elim v.near [
        | inl isk ↦ let lower : j < o.link = (above-live S sound o.link c.parent c.there task j farj).3 in absurd (omega arith)
        | inr fark ↦ above-order_of S sound n o.link c.parent c.there task (omega arith) j k farj fark low
      ]
    ]

-- of two jobs above, the one with the smaller koid is above the other
pub above-order : (S : State) → IsSound S → (x : ℕ) (o : ObjectRow) → object S x ≡ Some o → is_running_task o ≡ true → (j k : ℕ) → among (chain S x) j ≡ true → among (chain S x) k ≡ true → k ≤ j → (j ≡ k) ⊎ (among (chain S j) k ≡ true)
above-order S sound x o e t j k h g low = above-order_of S sound (suc x) x o e t (omega arith) j k h g low

-- ---- under a job

pub live_task-some : (r : Option ObjectRow) → is_live_task r ≡ true → (o : ObjectRow) × (r ≡ Some o) × (is_running_task o ≡ true)
live_task-some (Some o) h = (o, refl, h)
live_task-some None h = cc

-- it is the job itself, or a live process or job that has it above
pub under-cases : (S : State) (j x : ℕ) → is_under S j x ≡ true → (x ≡ j) ⊎ ((o : ObjectRow) × (object S x ≡ Some o) × (is_running_task o ≡ true) × (among (chain S x) j ≡ true))
under-cases S j x h = elim (or_true (x == j) _ h) [
  | inl is ↦ inl (eqb-true x j is)
  | inr far ↦
      let w = live_task-some (object S x) (and_left (is_live_task (object S x)) _ far) in
      inr (w.0, w.1, w.2, and_right (is_live_task (object S x)) _ far)
]

pub under-itself : (S : State) (j x : ℕ) → x ≡ j → is_under S j x ≡ true
under-itself S j x is = or_left (x == j) _ (eq-eqb x j is)

pub under-above : (S : State) (j x : ℕ) (o : ObjectRow) → object S x ≡ Some o → is_running_task o ≡ true → among (chain S x) j ≡ true → is_under S j x ≡ true
under-above S j x o e t h = or_right (x == j) _ (and_both (is_live_task (object S x)) _ (ap is_live_task e ∙ t) h)

-- what is under a job under a job is under that
pub under-under : (S : State) → IsSound S → (top j x : ℕ) → is_under S top j ≡ true → is_under S j x ≡ true → is_under S top x ≡ true
under-under S sound top j x g h = elim (under-cases S j x h) [
  | inl is ↦ subst (λ z. is_under S top z ≡ true) (sym is) g
  | inr w ↦ elim (under-cases S top j g) [
    | inl same ↦ under-above S top x w.0 w.1 w.2 (ap (among (chain S x)) (sym same) ∙ w.3)
    | inr v ↦ under-above S top x w.0 w.1 w.2 (above-over S sound x w.0 w.1 w.2 j top w.3 v.3)
  ]
]
