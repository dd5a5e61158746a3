-- Removal one object at a time: it begins, goes on and ends in what collecting gives, and what newly goes was
-- named by what went.
use Rattle.std.proofs.Common.{◌≡◌, ℕ, Bool, true, false, cond, ◌||◌, ◌⊎◌, inl, inr, refl, sym, ap, ◌∙◌}
use Rattle.std.specs.Prelude.{None, Some, ◌==◌}
use Rattle.std.proofs.lemmas.Bool.{eqb-true, eq-eqb}
use Rattle.zt_rows.specs.declared.rows.Held.{Held}
use Rattle.zt_rows.specs.State.{State}
use Rattle.zt_rows.specs.Reads.{message}
use Rattle.zt_rows.specs.Support.{is_supported}
use Rattle.zt_rows.specs.Tests.{is_endpoint, link_at, object_link}
use Rattle.zt_rows.specs.Collect.{unlinked, without, goes, collect}
use Rattle.zt_rows.specs.Justified.{also, none_yet, one_more}
use Rattle.zt_rows.proofs.RowLaws.{list_any-in, true≢false}
use Rattle.zt_rows.proofs.ReadLaws.{exists-some, some-exists, message-without, entry-without, stayed, stays}
use Rattle.zt_rows.proofs.SupportLaws.{KeptBy, by_entry, by_child, by_itself, supported-kept, kept-supported}
use Rattle.zt_rows.proofs.SupportLaws as support
use Rattle.zt_rows.proofs.SoundLaws.{task-not-endpoint, and_no_left, link-kept}
use Rattle.zt_rows.proofs.CollectLaws.{goes-there, goes-free, stays-supported, without-none}
use Rattle.zt_rows.proofs.WithoutLaws.{without-twice, collect-justified}
use Rattle.zt_store.specs.KoidSets.{only}
use Rattle.zt_cascade.specs.OneByOne.{IsOnTheWay, IsReleased, by_message, by_link}

-- ---- the way

or-turned : (a b : Bool) → (a || b) ≡ (b || a)
or-turned true true = refl
or-turned true false = refl
or-turned false true = refl
or-turned false false = refl

pub on_the_way-begun : (S : State) → IsOnTheWay S S
on_the_way-begun S = (λ _. false, sym (without-none S (λ _. false) (λ x. refl)), none_yet)

-- one more object that goes
pub on_the_way-more : (S T : State) (x : ℕ) → IsOnTheWay S T → goes T x ≡ true → IsOnTheWay S (without T (only x))
on_the_way-more S T x way g =
    let gone : ℕ → Bool = way.0 in
    let both : without (without S gone) (only x) ≡ without S (also x gone) =
    without-twice S gone (only x) ∙ ap (without S) (λ i y. or-turned (gone y) (y == x) i) in
    (also x gone, ap (λ s. without s (only x)) way.1 ∙ both, one_more x way.2 (ap (λ s. goes s x) (sym way.1) ∙ g))

-- nothing goes any more
pub on_the_way-end : (S T : State) → IsOnTheWay S T → ((x : ℕ) → goes T x ≡ false) → T ≡ collect S
on_the_way-end S T way none =
    way.1 ∙ sym (collect-justified S way.0 way.2 (λ x. ap (λ s. goes s x) (sym way.1) ∙ none x))

-- ---- what newly goes

-- either x may let y go, or what keeps y keeps it once x is gone
still-kept : (S : State) (x y : ℕ) → (y == x) ≡ false → KeptBy S y → IsReleased S x y ⊎ KeptBy (without S (only x)) y
still-kept S x y apart (by_entry p h held e g) = inr (by_entry p h held (entry-without (only x) S p h ∙ e) g)
still-kept S x y apart (support.by_message e n m held f l g) =
    elim (e == x) as (λ b. (e == x) ≡ b → IsReleased S x y ⊎ KeptBy (without S (only x)) y) [
      | true ↦ λ t.
          let here : message S x n ≡ Some m = ap (λ z. message S z n) (sym (eqb-true e x t)) ∙ f in
          inl (by_message n m here (list_any-in (λ (h : Held). h.koid == y) held m.handles l (eq-eqb held.koid y g)))
      | false ↦ λ t. inr (support.by_message e n m held (message-without (only x) S e n ∙ ap (λ b. cond b None (message S e n)) t ∙ f) l g)
    ] refl
still-kept S x y apart (by_child o z c f live there task g) =
    elim (z == x) as (λ b. (z == x) ≡ b → IsReleased S x y ⊎ KeptBy (without S (only x)) y) [
      | true ↦ λ t. inl (by_link (ap (λ k. link_at S k) (sym (eqb-true z x t)) ∙ ap object_link there ∙ g))
      | false ↦ λ t.
          let plain : is_endpoint c.kind ≡ false = task-not-endpoint c task in
          let same : (unlinked (only x) c).link ≡ c.link = link-kept (only x) c (and_no_left (is_endpoint c.kind) (c.link == x) plain) in
          inr (by_child (unlinked (only x) o) z (unlinked (only x) c) (stays (only x) S y o f apart) live (stays (only x) S z c there t) task (same ∙ g))
    ] refl
still-kept S x y apart (by_itself o f t) = inr (by_itself (unlinked (only x) o) (stays (only x) S y o f apart) t)

pub goes-newly : (S : State) (x y : ℕ) → goes (without S (only x)) y ≡ true → goes S y ≡ false → IsReleased S x y
goes-newly S x y g before =
    let w = some-exists (without S (only x)) y (goes-there (without S (only x)) y g) in
    let p = stayed (only x) S y w.0 w.1 in
    let kept : KeptBy S y = supported-kept S y (stays-supported S y before (exists-some S y p.0 p.1)) in
    elim (still-kept S x y p.3 kept) [
      | inl l ↦ l
      | inr k ↦ absurd (true≢false (is_supported (without S (only x)) y) (kept-supported (without S (only x)) y k) (goes-free (without S (only x)) y g))
    ]
