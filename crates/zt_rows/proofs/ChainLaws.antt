-- The jobs above a live process or job: each step upward leads to a smaller koid, so that the bound on the walk
-- never cuts it short, and the jobs above a child are its parent and those above that.
use Rattle.std.proofs.Common.{◌≡◌, ◌≤◌, ◌<◌, ℕ, zero, suc, ◌+◌, true, false, List, ◌∷◌, ◌⊎◌, inl, inr, refl, sym, ap, ◌∙◌, arith}
use Rattle.std.specs.Prelude.{Some}
use Rattle.zt_rows.specs.declared.rows.ObjectRow.{ObjectRow}
use Rattle.zt_rows.specs.State.{State}
use Rattle.zt_rows.specs.Reads.{object}
use Rattle.zt_rows.specs.Tests.{link_at, object_link}
use Rattle.zt_rows.specs.Support.{root_job}
use Rattle.zt_rows.specs.End.{upward, links, chain}
use Rattle.zt_rows.specs.Consistent.{IsChild, has_parent, SoundObject, IsSound}
use Rattle.zt_rows.proofs.RowLaws.{or_left}
use Rattle.zt_rows.proofs.SoundLaws.{is_running_task, task-not-endpoint, upward-same}

-- a live process or job has no link, or its parent is a live job with a smaller koid
pub smaller-above : (S : State) → IsSound S → (x : ℕ) (o : ObjectRow) → object S x ≡ Some o → is_running_task o ≡ true → (o.link ≡ 0) ⊎ ((q : ObjectRow) × (object S o.link ≡ Some q) × (is_running_task q ≡ true) × (o.link < x))
smaller-above S sound x o e t =
    let s : SoundObject S x o = sound.of_objects x o e in
    elim (has_parent x o) as (λ b. has_parent x o ≡ b → (o.link ≡ 0) ⊎ ((q : ObjectRow) × (object S o.link ≡ Some q) × (is_running_task q ≡ true) × (o.link < x))) [
      | true ↦ λ h. let c : IsChild S x o = s.parents h in inr (c.parent, c.there, or_left _ _ c.live, c.smaller)
      | false ↦ λ h. inl (s.alone (task-not-endpoint o t) h)
    ] refl

-- any two bounds above the koid give the same walk
pub links-enough : (S : State) → IsSound S → (n m x : ℕ) (o : ObjectRow) → object S x ≡ Some o → is_running_task o ≡ true → x < n → x < m → links n S x ≡ links m S x
unfolding links
links-enough S sound zero m x o e t few more = absurd (omega arith)
links-enough S sound (suc n) zero x o e t few more = absurd (omega arith)
links-enough S sound (suc n) (suc m) x o e t few more =
    let here : link_at S x ≡ o.link = ap object_link e in
    let next : (o.link ≡ 0) ⊎ (links n S o.link ≡ links m S o.link) = elim (smaller-above S sound x o e t) [
      | inl z ↦ inl z
      | inr q ↦ let less : o.link < x = q.3 in inr (links-enough S sound n m o.link q.0 q.1 q.2 (omega arith) (omega arith))
    ] in
    ap (λ l. upward l (λ y. links n S y)) here ∙ upward-same o.link (λ y. links n S y) (λ y. links m S y) next ∙ ap (λ l. upward l (λ y. links m S y)) (sym here)

upward-from : (l : ℕ) (above : ℕ → List ℕ) → 0 < l → upward l above ≡ l ∷ above l
upward-from zero above h = absurd (omega arith)
upward-from (suc l) above h = refl

-- the walk from what has this link
pub links-from : (n : ℕ) (S : State) (x l : ℕ) → link_at S x ≡ l → 0 < l → links (suc n) S x ≡ l ∷ links n S l
unfolding links
links-from n S x l e above = ap (λ k. upward k (λ y. links n S y)) e ∙ upward-from l (λ y. links n S y) above

-- as far as the walk from x goes, it is the link and the walk from there
pub chain-from : (S : State) (x l : ℕ) → link_at S x ≡ l → 0 < l → chain S x ≡ l ∷ links x S l
unfolding chain
chain-from S x l e above = let one : x + 1 ≡ suc x = omega arith in ap (λ n. links n S x) one ∙ links-from x S x l e above

-- the walk from a smaller koid is its whole chain
pub links-chain : (S : State) → IsSound S → (x l : ℕ) (q : ObjectRow) → object S l ≡ Some q → is_running_task q ≡ true → l < x → links x S l ≡ chain S l
unfolding chain
links-chain S sound x l q e t less = links-enough S sound x (l + 1) l q e t less (omega arith)

-- the jobs above a child are its parent and those above that
pub chain-child : (S : State) → IsSound S → (x : ℕ) (o : ObjectRow) → object S x ≡ Some o → has_parent x o ≡ true → chain S x ≡ o.link ∷ chain S o.link
chain-child S sound x o e h =
    let c : IsChild S x o = (sound.of_objects x o e).parents h in
    let low : root_job ≤ o.link = (sound.of_objects o.link c.parent c.there).low in
    chain-from S x o.link (ap object_link e) (omega arith) ∙ ap (λ l. o.link ∷ l) (links-chain S sound x o.link c.parent c.there (or_left _ _ c.live) c.smaller)
