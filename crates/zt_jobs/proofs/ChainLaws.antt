-- Chains of links: how many there are above, and whether a job is among them.
use Rattle.std.proofs.Common.{◌≡◌, ◌≤◌, ◌<◌, ℕ, zero, suc, ◌+◌, ◌-◌, true, false, not, cond, ◌&&◌, ◌||◌, List, [], ◌∷◌, length, ◌⊎◌, inl, inr, refl, sym, ap, ◌∙◌, arith, add-one}
use Rattle.std.specs.Prelude.{◌==◌}
use Rattle.std.proofs.lemmas.Bool.Decides.{nat_tests}
use Rattle.zt_rows.specs.State.{State}
use Rattle.zt_rows.specs.Tests.{among, link_at}
use Rattle.zt_rows.specs.End.{upward, links, chain, depth}

-- ---- one link

not_zero : (k : ℕ) → (suc k == 0) ≡ false
not_zero k = grind (arith, nat_tests)

upward-alike : (l : ℕ) (f g : ℕ → List ℕ) → (l ≡ 0) ⊎ (f l ≡ g l) → upward l f ≡ upward l g
upward-alike zero f g h = refl
upward-alike (suc k) f g (inl e) = absurd (omega arith)
upward-alike (suc k) f g (inr e) = ap (λ z. (suc k) ∷ z) e

upward-among : (l job : ℕ) (f : ℕ → List ℕ) → among (upward l f) job ≡ (not (l == 0) && ((l == job) || among (f l) job))
upward-among zero job f = refl
upward-among (suc k) job f = sym (ap (λ b. not b && ((suc k == job) || among (f (suc k)) job)) (not_zero k))

upward-length : (l : ℕ) (f : ℕ → List ℕ) → length (upward l f) ≡ cond (l == 0) 0 (1 + length (f l))
upward-length zero f = refl
upward-length (suc k) f = let n : length ((suc k) ∷ f (suc k)) ≡ 1 + length (f (suc k)) = omega arith in n ∙ sym (ap (λ b. cond b 0 (1 + length (f (suc k)))) (not_zero k))

pub links-among : (n : ℕ) (S : State) (x job : ℕ) → among (links (n + 1) S x) job ≡ (not (link_at S x == 0) && ((link_at S x == job) || among (links n S (link_at S x)) job))
unfolding links
links-among n S x job = ap (λ m. among (links m S x) job) (add-one n) ∙ upward-among (link_at S x) job (λ y. links n S y)

links-length : (n : ℕ) (S : State) (x : ℕ) → length (links (n + 1) S x) ≡ cond (link_at S x == 0) 0 (1 + length (links n S (link_at S x)))
unfolding links
links-length n S x = ap (λ m. length (links m S x)) (add-one n) ∙ upward-length (link_at S x) (λ y. links n S y)

pub links-none : (S : State) (x : ℕ) → links 0 S x ≡ []
unfolding links
links-none S x = refl

pub chain-links : (S : State) (x : ℕ) → chain S x ≡ links (x + 1) S x
unfolding chain
chain-links S x = refl

-- ---- loops over links

-- so many links were followed, from koid to `at`
abbrev pub IsFollowed : State → ℕ → ℕ → ℕ → Type 0
IsFollowed S koid above at = above + length (links (koid + 1 - above) S at) ≡ depth S koid

pub followed-none : (S : State) (koid : ℕ) → IsFollowed S koid 0 koid
followed-none S koid =
    let n : koid + 1 - 0 ≡ koid + 1 = omega arith in
    let e : length (links (koid + 1 - 0) S koid) ≡ depth S koid = ap (λ m. length (links m S koid)) n ∙ ap (λ l. length l) (sym (chain-links S koid)) in
    omega arith

pub followed-step : (S : State) (koid above at : ℕ) → above ≤ koid → IsFollowed S koid above at → above + cond (link_at S at == 0) 0 (1 + length (links (koid + 1 - (above + 1)) S (link_at S at))) ≡ depth S koid
followed-step S koid above at le h =
    let n : koid + 1 - above ≡ (koid + 1 - (above + 1)) + 1 = omega arith in
    let e : length (links (koid + 1 - above) S at) ≡ cond (link_at S at == 0) 0 (1 + length (links (koid + 1 - (above + 1)) S (link_at S at))) = ap (λ m. length (links m S at)) n ∙ links-length (koid + 1 - (above + 1)) S at in
    ap (λ m. above + m) (sym e) ∙ h

pub followed-end : (S : State) (koid above at up : ℕ) → above ≤ koid → IsFollowed S koid above at → up ≡ link_at S at → (up == 0) ≡ true → above ≡ depth S koid
followed-end S koid above at up le h is z =
    let e : cond (link_at S at == 0) 0 (1 + length (links (koid + 1 - (above + 1)) S (link_at S at))) ≡ 0 = ap (λ b. cond b 0 (1 + length (links (koid + 1 - (above + 1)) S (link_at S at)))) (ap (λ l. l == 0) (sym is) ∙ z) in
    let f : above + cond (link_at S at == 0) 0 (1 + length (links (koid + 1 - (above + 1)) S (link_at S at))) ≡ depth S koid = followed-step S koid above at le h in
    omega arith

pub followed-more : (S : State) (koid above at up : ℕ) → above ≤ koid → IsFollowed S koid above at → up ≡ link_at S at → (up == 0) ≡ false → IsFollowed S koid (above + 1) up
followed-more S koid above at up le h is some =
    let e : cond (link_at S at == 0) 0 (1 + length (links (koid + 1 - (above + 1)) S (link_at S at))) ≡ 1 + length (links (koid + 1 - (above + 1)) S (link_at S at)) = ap (λ b. cond b 0 (1 + length (links (koid + 1 - (above + 1)) S (link_at S at)))) (ap (λ l. l == 0) (sym is) ∙ some) in
    let f : above + cond (link_at S at == 0) 0 (1 + length (links (koid + 1 - (above + 1)) S (link_at S at))) ≡ depth S koid = followed-step S koid above at le h in
    let g : length (links (koid + 1 - (above + 1)) S up) ≡ length (links (koid + 1 - (above + 1)) S (link_at S at)) = ap (λ x. length (links (koid + 1 - (above + 1)) S x)) is in
    omega arith

pub followed-all : (S : State) (koid above at : ℕ) → koid < above → IsFollowed S koid above at → above ≡ depth S koid
followed-all S koid above at past h =
    let n : koid + 1 - above ≡ 0 = omega arith in
    let e : length (links (koid + 1 - above) S at) ≡ 0 = ap (λ m. length (links m S at)) n ∙ ap (λ (l : List ℕ). length l) (links-none S at) in
    omega arith

-- the job is above koid exactly where it is among the links that are left
abbrev pub IsSought : State → ℕ → ℕ → ℕ → ℕ → Type 0
IsSought S koid job left at = among (links (left + 1) S at) job ≡ among (chain S koid) job

pub sought-start : (S : State) (koid job left : ℕ) → left ≡ koid → IsSought S koid job left koid
sought-start S koid job left e = ap (λ n. among (links (n + 1) S koid) job) e ∙ ap (λ z. among z job) (sym (chain-links S koid))

module _ (S : State) (koid job left at up : ℕ) (h : IsSought S koid job left at) (is : up ≡ link_at S at) where
  sought-link : (not (up == 0) && ((up == job) || among (links left S up) job)) ≡ among (chain S koid) job
  sought-link = ap (λ l. not (l == 0) && ((l == job) || among (links left S l) job)) is ∙ sym (links-among left S at job) ∙ h

  pub sought-end : (up == 0) ≡ true → false ≡ among (chain S koid) job
  sought-end z = sym (ap (λ b. not b && ((up == job) || among (links left S up) job)) z) ∙ sought-link

  not_end : (up == 0) ≡ false → ((up == job) || among (links left S up) job) ≡ among (chain S koid) job
  not_end some = sym (ap (λ b. not b && ((up == job) || among (links left S up) job)) some) ∙ sought-link

  pub sought-found : (up == 0) ≡ false → (up == job) ≡ true → true ≡ among (chain S koid) job
  sought-found some e = sym (ap (λ b. b || among (links left S up) job) e) ∙ not_end some

  not_found : (up == 0) ≡ false → (up == job) ≡ false → among (links left S up) job ≡ among (chain S koid) job
  not_found some other = sym (ap (λ b. b || among (links left S up) job) other) ∙ not_end some

  pub sought-none : (up == 0) ≡ false → (up == job) ≡ false → left ≡ 0 → false ≡ among (chain S koid) job
  sought-none some other z = sym (ap (λ l. among l job) (ap (λ n. links n S up) z ∙ links-none S up)) ∙ not_found some other

  pub sought-more : (less : ℕ) → (up == 0) ≡ false → (up == job) ≡ false → less + 1 ≡ left → IsSought S koid job less up
  sought-more less some other e = ap (λ n. among (links n S up) job) e ∙ not_found some other
