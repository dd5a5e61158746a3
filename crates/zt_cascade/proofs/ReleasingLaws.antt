-- The list of what may go: what one look at it leaves, and where it ends.
use Rattle.std.proofs.Common.{not, ◌≡◌, ℕ, Bool, true, false, ◌||◌, List, [], ◌∷◌, ◌++◌, length, ◌⊎◌, inl, inr, refl, sym, ap, ◌∙◌, subst, arith}
use Rattle.std.specs.Prelude.{Option, None, Some, if◌then◌else◌, ◌==◌, is_some, Result, Ok, Err, OnOk}
use Rattle.std.proofs.lemmas.Bool.{eqb-true, eq-eqb}
use Rattle.zt_rows.specs.declared.rows.ObjectRow.{ObjectRow}
use Rattle.zt_rows.specs.State.{State}
use Rattle.zt_rows.specs.Reads.{object}
use Rattle.zt_rows.specs.Support.{support_count, is_supported}
use Rattle.zt_rows.specs.Tests.{among, exists}
use Rattle.zt_rows.specs.Collect.{without, goes, collect}
use Rattle.std.proofs.lemmas.List.Folds.{list_any-append}
use Rattle.zt_rows.proofs.RowLaws.{or_true, or_left, or_right, not_true, true≢false}
use Rattle.zt_rows.proofs.ReadLaws.{some-exists, stayed}
use Rattle.zt_rows.proofs.CollectLaws.{goes-there, free-goes, supported-stays}
use Rattle.zt_store.specs.KoidSets.{only}
use Rattle.zt_cascade.specs.OneByOne.{IsOnTheWay, IsReleased}
use Rattle.zt_cascade.specs.JoinedLinks.{IsJoined}
use Rattle.zt_cascade.specs.ProofsOnly.LostObjects.{IsListedFree}
use Rattle.zt_cascade.specs.ProofsOnly.RemovedObject.{Covers}
use Rattle.zt_cascade.proofs.OnTheWayLaws.{on_the_way-more, on_the_way-end, goes-newly}
use Rattle.zt_cascade.proofs.JoinedLaws.{joined-without}

-- ---- one look

-- what three facts of a value that is there give
pub on_ok_three : {A E P Q R W : Type 0} (r : Result A E) → (P → Q → R → W) → OnOk r P → OnOk r Q → OnOk r R → OnOk r W
on_ok_three (Ok v) f p q t = f p q t
on_ok_three (Err e) f p q t = tt

unsupported-is : (S : State) (x : ℕ) → is_supported S x ≡ false → object S x ≡ (if goes S x then object S x else None)
unsupported-is S x free = going (goes S x) refl
  where
    absent : (r : Option ObjectRow) → is_some r ≡ false → r ≡ None
    absent None e = refl
    absent (Some o) e = cc

    going : (b : Bool) → goes S x ≡ b → object S x ≡ (if b then object S x else None)
    going true e = refl
    going false e = absent (object S x) (not_true (exists S x) (λ t. true≢false (goes S x) (free-goes S x t free) e))

not_of_test : (b : Bool) → b ≡ not (if b then false else true)
not_of_test true = refl
not_of_test false = refl

-- nothing supports what is counted 0 times
pub counted : (S : State) (x n : ℕ) → n ≡ support_count S x → (n == 0) ≡ not (is_supported S x)
unfolding is_supported
counted S x n count = not_of_test (n == 0) ∙ ap (λ m. not (if m == 0 then false else true)) count

free : (b : Bool) → not b ≡ true → b ≡ false
free true e = cc
free false e = refl

not_free : (b : Bool) → not b ≡ false → b ≡ true
not_free true e = refl
not_free false e = cc

pub found-free : (S : State) (x : ℕ) → not (is_supported S x) ≡ true → object S x ≡ (if goes S x then object S x else None)
found-free S x e = unsupported-is S x (free (is_supported S x) e)

pub found-held : (S : State) (x : ℕ) → not (is_supported S x) ≡ false → None ≡ (if goes S x then object S x else None)
found-held S x e =
    let stays : goes S x ≡ false = supported-stays S x (λ t. not_free (is_supported S x) e) in
    ap (λ b. if b then object S x else None) (sym stays)

-- what is supported does not go
pub held-listed : (S : State) (x : ℕ) (list : List ℕ) → not (is_supported S x) ≡ false → IsListedFree S x list
held-listed S x list e g = absurd (true≢false (goes S x) g (supported-stays S x (λ t. not_free (is_supported S x) e)))

-- what was found goes, and what was not found stays
pub found-goes : (S : State) (x : ℕ) (o : ObjectRow) → (if goes S x then object S x else None) ≡ Some o → (goes S x ≡ true) × (object S x ≡ Some o)
found-goes S x o e = found (goes S x) refl e
  where
    found : (b : Bool) → goes S x ≡ b → (if b then object S x else None) ≡ Some o → (goes S x ≡ true) × (object S x ≡ Some o)
    found true t f = (t, f)
    found false t f = cc

pub missing-stays : (S : State) (x : ℕ) → (if goes S x then object S x else None) ≡ None → goes S x ≡ false
missing-stays S x e = missing (goes S x) refl e
  where
    none_there : (r : Option ObjectRow) → is_some r ≡ true → r ≡ None → ⊥
    none_there None f g = cc
    none_there (Some o) f g = cc

    missing : (b : Bool) → goes S x ≡ b → (if b then object S x else None) ≡ None → goes S x ≡ false
    missing true t f = absurd (none_there (object S x) (goes-there S x t) f)
    missing false t f = t

abbrev pub looked_at : State → ℕ → State
looked_at S x = if goes S x then without S (only x) else S

pub looked-gone : (S : State) (x : ℕ) → goes S x ≡ true → without S (only x) ≡ looked_at S x
looked-gone S x t = ap (λ b. if b then without S (only x) else S) (sym t)

pub looked-same : (S : State) (x : ℕ) → goes S x ≡ false → S ≡ looked_at S x
looked-same S x t = ap (λ b. if b then without S (only x) else S) (sym t)

gone-itself : (S : State) (x : ℕ) → goes (without S (only x)) x ≡ true → ⊥
gone-itself S x g =
    let w = some-exists (without S (only x)) x (goes-there (without S (only x)) x g) in
    true≢false (x == x) (eq-eqb x x refl) (stayed (only x) S x w.0 w.1).3

pub covers-gone : (x : ℕ) (S T : State) (list later : List ℕ) → T ≡ without S (only x) → ((y : ℕ) → IsReleased S x y → among later y ≡ true) → ((y : ℕ) → among list y ≡ true → among later y ≡ true)
    → Covers (x ∷ list) S → Covers later T
covers-gone x S T list later gone noted grown covers = subst (Covers later) (sym gone) (record { each = λ y g. before y g (goes S y) refl })
  where
    earlier : (y : ℕ) → goes (without S (only x)) y ≡ true → ((x == y) ≡ true) ⊎ (among list y ≡ true) → among later y ≡ true
    earlier y g (inl t) = absurd (gone-itself S x (subst (λ z. goes (without S (only x)) z ≡ true) (sym (eqb-true x y t)) g))
    earlier y g (inr t) = grown y t

    before : (y : ℕ) → goes (without S (only x)) y ≡ true → (b : Bool) → goes S y ≡ b → among later y ≡ true
    before y g true t = earlier y g (or_true (x == y) (among list y) (covers.each y t))
    before y g false t = noted y (goes-newly S x y g t)

pub covers-same : (x : ℕ) (S : State) (list : List ℕ) → goes S x ≡ false → Covers (x ∷ list) S → Covers list S
covers-same x S list stays covers = record { each = λ y g. rest y g (or_true (x == y) (among list y) (covers.each y g)) }
  where
    rest : (y : ℕ) → goes S y ≡ true → ((x == y) ≡ true) ⊎ (among list y ≡ true) → among list y ≡ true
    rest y g (inl t) = absurd (true≢false (goes S x) (subst (λ z. goes S z ≡ true) (sym (eqb-true x y t)) g) stays)
    rest y g (inr t) = t

-- ---- all looks

pub covers-last : (x : ℕ) (S : State) (all rest : List ℕ) → all ≡ rest ++ x ∷ [] → Covers all S → Covers (x ∷ rest) S
covers-last x S all rest e covers = record { each = λ y g. turned y (list_any-append (λ m. m == y) rest (x ∷ [])) (subst (λ l. among l y ≡ true) e (covers.each y g)) }
  where
    place : (y : ℕ) → (among rest y ≡ true) ⊎ (among (x ∷ []) y ≡ true) → among (x ∷ rest) y ≡ true
    place y (inl t) = or_right (x == y) (among rest y) t
    place y (inr t) = elim (or_true (x == y) false t) [ inl u ↦ or_left (x == y) (among rest y) u | inr u ↦ cc ]

    turned : (y : ℕ) → among (rest ++ x ∷ []) y ≡ (among rest y || among (x ∷ []) y) → among (rest ++ x ∷ []) y ≡ true → among (x ∷ rest) y ≡ true
    turned y both t = place y (or_true (among rest y) (among (x ∷ []) y) (sym both ∙ t))

pub joined-looked : (S T : State) (x : ℕ) → T ≡ looked_at S x → IsJoined S → IsJoined T
joined-looked S T x e joined = subst IsJoined (sym e) (either_way (goes S x))
  where
    either_way : (b : Bool) → IsJoined (if b then without S (only x) else S)
    either_way true = joined-without S (only x) joined
    either_way false = joined

pub way-looked : (S0 S T : State) (x : ℕ) → T ≡ looked_at S x → IsOnTheWay S0 S → IsOnTheWay S0 T
way-looked S0 S T x e way = subst (IsOnTheWay S0) (sym e) (either_way (goes S x) refl)
  where
    either_way : (b : Bool) → goes S x ≡ b → IsOnTheWay S0 (if b then without S (only x) else S)
    either_way true t = on_the_way-more S0 S x way t
    either_way false t = way

empty : (list : List ℕ) → length list ≡ 0 → list ≡ []
empty [] e = refl
empty (x ∷ xs) e = absurd (omega arith)

pub looks-end : (S0 T : State) (list : List ℕ) → length list ≡ 0 → Covers list T → IsOnTheWay S0 T → T ≡ collect S0
looks-end S0 T list none covers way = on_the_way-end S0 T way (λ x. not_true (goes T x) (λ t.
    let found : among list x ≡ true = covers.each x t in
    let not_found : among list x ≡ false = ap (λ l. among l x) (empty list none) in
    true≢false (among list x) found not_found))
