-- The first key of a state that passes a test: from what stands under each key to a look along the keys.
use Rattle.std.proofs.Common.{◌≡◌, Bool, true, false, cond, ◌&&◌, ◌||◌, T, List, [], ◌∷◌, map, Some, None, is_some, refl, sym, ap, ◌∙◌, subst}
use Rattle.std.specs.List.{find}
use Rattle.std.specs.FinMap.Entries as entries
use Rattle.std.specs.declared.cmp.Ordering.{Ordering}
use Rattle.std.specs.declared.cmp.Ordering.TheVariants.{Less, Equal, Greater}
use Rattle.std.specs.Ordering.{is_lt}
use Rattle.zt_rows.specs.declared.keys.RowKey.{RowKey}
use Rattle.zt_rows.specs.declared.rows.Row.{Row}
use Rattle.zt_rows.specs.Keys.{rowkey_cmp, rowkey_eq}
use Rattle.zt_rows.specs.ProofsOnly.KeyOrder.{rowkey_eq-self, rowkey_eq-equal}
use Rattle.zt_rows.specs.State.{State, row}
use Rattle.zt_rows.specs.Change.{keys}
use Rattle.zt_rows.proofs.ChangeLaws.{among, among-keys}

-- ---- tests that agree at the keys of a state

passes : (a b : Bool) → b ≡ true → (a || b) ≡ true
passes true b e = refl
passes false b e = e

itself_among : (k : RowKey) (ks : List RowKey) → among k (k ∷ ks) ≡ true
itself_among k ks = ap (λ b. b || among k ks) (rowkey_eq-self k)

alike : (p q : RowKey → Bool) (ks : List RowKey) → ((k : RowKey) → among k ks ≡ true → p k ≡ q k) → find p ks ≡ find q ks
alike p q [] h = refl
alike p q (k ∷ ks) h =
    ap (λ b. cond b (Some k) (find p ks)) (h k (itself_among k ks))
    ∙ ap (cond (q k) (Some k)) (alike p q ks (λ x e. h x (passes (rowkey_eq x k) (among x ks) e)))

pub find-alike : (S : State) (p q : RowKey → Bool) → ((k : RowKey) → is_some (row S k) ≡ true → p k ≡ q k) → find p (keys S) ≡ find q (keys S)
find-alike S p q h = alike p q (keys S) (λ k e. h k (among-keys S k ∙ e))

never : (ks : List RowKey) → find (λ k. false) ks ≡ None
never [] = refl
never (k ∷ ks) = never ks

pub find-none : (S : State) (p : RowKey → Bool) → ((k : RowKey) → is_some (row S k) ≡ true → p k ≡ false) → find p (keys S) ≡ None
find-none S p h = find-alike S p (λ k. false) h ∙ never (keys S)

-- ---- the least key that passes a test

pub both_first : (a b : Bool) → T (a && b) → T a
both_first true b p = tt
both_first false b p = p

pub both_second : (a b : Bool) → T (a && b) → T b
both_second true b p = p
both_second false b p = absurd p

pub is_less : (o : Ordering) → T (is_lt o) → o ≡ Less
is_less Less p = refl
is_less Equal p = absurd p
is_less Greater p = absurd p

second_fails : (a b : Bool) → (a || b) ≡ false → b ≡ false
second_fails true b e = cc
second_fails false b e = e

below_all-among : (x k : RowKey) (es : List (RowKey × Row)) → T (entries.below_all rowkey_cmp x es) → among k (map (λ e. e.0) es) ≡ true → rowkey_cmp x k ≡ Less
below_all-among x k [] below here = cc
below_all-among x k (e ∷ es) below here =
    elim (rowkey_eq k e.0) as (λ b. rowkey_eq k e.0 ≡ b → (b || among k (map (λ e. e.0) es)) ≡ true → rowkey_cmp x k ≡ Less) [
      | true ↦ λ t _. subst (λ y. rowkey_cmp x y ≡ Less) (sym (rowkey_eq-equal k e.0 t)) (is_less _ (both_first _ _ below))
      | false ↦ λ t rest. below_all-among x k es (both_second _ _ below) rest
    ] refl here

abbrev NoneBelow : (RowKey → Bool) → RowKey → List RowKey → Type 0
NoneBelow p k ks = (q : RowKey) → p q ≡ true → rowkey_cmp q k ≡ Less → among q ks ≡ false

-- the first key that passes is not passed by an earlier one
head_is : (p : RowKey → Bool) (k : RowKey) (e : RowKey × Row) (es : List (RowKey × Row)) → T (entries.below_all rowkey_cmp e.0 es) → p e.0 ≡ true → among k (e.0 ∷ map (λ e. e.0) es) ≡ true → NoneBelow p k (e.0 ∷ map (λ e. e.0) es) → e.0 ≡ k
head_is p k e es below passed here least =
    elim (rowkey_eq k e.0) as (λ b. rowkey_eq k e.0 ≡ b → (b || among k (map (λ e. e.0) es)) ≡ true → e.0 ≡ k) [
      | true ↦ λ t _. sym (rowkey_eq-equal k e.0 t)
      | false ↦ λ t rest.
          let less : rowkey_cmp e.0 k ≡ Less = below_all-among e.0 k es below rest in
          let no : true ≡ false = sym (itself_among e.0 (map (λ e. e.0) es)) ∙ least e.0 passed less in cc
    ] refl here

in_tail : (p : RowKey → Bool) (k x : RowKey) (ks : List RowKey) → p k ≡ true → p x ≡ false → among k (x ∷ ks) ≡ true → among k ks ≡ true
in_tail p k x ks passed fails here =
    elim (rowkey_eq k x) as (λ b. rowkey_eq k x ≡ b → (b || among k ks) ≡ true → among k ks ≡ true) [
      | true ↦ λ t _. let no : true ≡ false = sym passed ∙ ap p (rowkey_eq-equal k x t) ∙ fails in cc
      | false ↦ λ t rest. rest
    ] refl here

least : (p : RowKey → Bool) (k : RowKey) (es : List (RowKey × Row)) → T (entries.is_sorted rowkey_cmp es) → p k ≡ true → among k (map (λ e. e.0) es) ≡ true → NoneBelow p k (map (λ e. e.0) es) → find p (map (λ e. e.0) es) ≡ Some k
least p k [] sorted passed here none = cc
least p k (e ∷ es) sorted passed here none =
    elim (p e.0) as (λ b. p e.0 ≡ b → cond b (Some e.0) (find p (map (λ e. e.0) es)) ≡ Some k) [
      | true ↦ λ t. ap Some (head_is p k e es (both_first _ _ sorted) t here none)
      | false ↦ λ t.
          least p k es (both_second _ _ sorted) passed (in_tail p k e.0 (map (λ e. e.0) es) passed t here)
          (λ q a b. second_fails (rowkey_eq q e.0) _ (none q a b))
    ] refl

pub find-least : (S : State) (p : RowKey → Bool) (k : RowKey) → p k ≡ true → is_some (row S k) ≡ true → ((q : RowKey) → p q ≡ true → rowkey_cmp q k ≡ Less → row S q ≡ None) → Some k ≡ find p (keys S)
find-least S p k passed here none =
    sym (least p k S.rows S.sorted passed (sym (among-keys S k) ∙ here) (λ q a b. sym (among-keys S q) ∙ ap is_some (none q a b)))
