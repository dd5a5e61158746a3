-- What a look for the next key says of the rows: one stands there, and none between.
use Rattle.std.proofs.Common.{◌≡◌, Bool, true, false, cond, ◌&&◌, ◌||◌, T, List, [], ◌∷◌, map, Option, Some, None, is_some, refl, sym, ap, ◌∙◌, subst}
use Rattle.std.specs.List.{find}
use Rattle.std.specs.FinMap.Entries as entries
use Rattle.std.specs.declared.cmp.Ordering.{Ordering}
use Rattle.std.specs.declared.cmp.Ordering.TheVariants.{Less, Equal, Greater}
use Rattle.std.specs.Ordering.{is_lt, ordering_reverse}
use Rattle.std.specs.Cmp.{tied_itself}
use Rattle.zt_rows.specs.declared.keys.RowKey.{RowKey}
use Rattle.zt_rows.specs.declared.rows.Row.{Row}
use Rattle.zt_rows.specs.Keys.{rowkey_cmp, rowkey_eq}
use Rattle.zt_rows.specs.ProofsOnly.KeyOrder.{rowkey_cmp_total, rowkey_eq-self, rowkey_eq-equal}
use Rattle.zt_rows.specs.State.{State, row}
use Rattle.zt_rows.specs.Change.{keys}
use Rattle.zt_rows.specs.Room.{is_above, next_key}
use Rattle.zt_rows.proofs.ChangeLaws.{among, among-keys}
use Rattle.zt_rows.proofs.RowLaws.{or_left, or_right}

left_of : (a b : Bool) → T (a && b) → T a
left_of true b h = tt
left_of false b h = h

right_of : (a b : Bool) → T (a && b) → T b
right_of true b h = h
right_of false b h = absurd h

is_less : (o : Ordering) → T (is_lt o) → o ≡ Less
is_less Less p = refl
is_less Equal p = absurd p
is_less Greater p = absurd p

-- ---- along a list of keys

none-passes : (p : RowKey → Bool) (ks : List RowKey) → find p ks ≡ None → (q : RowKey) → p q ≡ true → among q ks ≡ false
none-passes p [] h q passed = refl
none-passes p (k ∷ ks) h q passed =
    elim (p k) as (λ b. p k ≡ b → cond b (Some k) (find p ks) ≡ None → among q (k ∷ ks) ≡ false) [
      | true ↦ λ t s. cc
      | false ↦ λ t s. elim (rowkey_eq q k) as (λ b. rowkey_eq q k ≡ b → (b || among q ks) ≡ false) [
        | true ↦ λ u. let no : true ≡ false = sym passed ∙ ap p (rowkey_eq-equal q k u) ∙ t in cc
        | false ↦ λ u. none-passes p ks s q passed
      ] refl
    ] refl h

found-passes : (p : RowKey → Bool) (ks : List RowKey) (k : RowKey) → find p ks ≡ Some k → p k ≡ true
found-passes p [] k h = cc
found-passes p (x ∷ ks) k h =
    elim (p x) as (λ b. p x ≡ b → cond b (Some x) (find p ks) ≡ Some k → p k ≡ true) [
      | true ↦ λ t s. let same : x ≡ k = cc in ap p (sym same) ∙ t
      | false ↦ λ t s. found-passes p ks k s
    ] refl h

found-among : (p : RowKey → Bool) (ks : List RowKey) (k : RowKey) → find p ks ≡ Some k → among k ks ≡ true
found-among p [] k h = cc
found-among p (x ∷ ks) k h =
    elim (p x) as (λ b. cond b (Some x) (find p ks) ≡ Some k → among k (x ∷ ks) ≡ true) [
      | true ↦ λ s. let same : x ≡ k = cc in or_left (rowkey_eq k x) (among k ks) (ap (rowkey_eq k) same ∙ rowkey_eq-self k)
      | false ↦ λ s. or_right (rowkey_eq k x) (among k ks) (found-among p ks k s)
    ] h

-- ---- along the rows

above-all : (x q : RowKey) (es : List (RowKey × Row)) → T (entries.below_all rowkey_cmp x es) → rowkey_cmp q x ≡ Less → among q (map (λ e. e.0) es) ≡ false
above-all x q [] below less = refl
above-all x q (e ∷ es) below less =
    elim (rowkey_eq q e.0) as (λ b. rowkey_eq q e.0 ≡ b → (b || among q (map (λ e. e.0) es)) ≡ false) [
      | true ↦ λ t.
          let up : rowkey_cmp x q ≡ Less = subst (λ z. rowkey_cmp x z ≡ Less) (sym (rowkey_eq-equal q e.0 t)) (is_less (rowkey_cmp x e.0) (left_of (is_lt (rowkey_cmp x e.0)) _ below)) in
          let down : rowkey_cmp x q ≡ Greater = rowkey_cmp_total.antisymm x q ∙ ap ordering_reverse less in
          cc
      | false ↦ λ t. above-all x q es (right_of _ _ below) less
    ] refl

none-before : (p : RowKey → Bool) (es : List (RowKey × Row)) → T (entries.is_sorted rowkey_cmp es) → (k : RowKey) → find p (map (λ e. e.0) es) ≡ Some k → (q : RowKey) → p q ≡ true → rowkey_cmp q k ≡ Less → among q (map (λ e. e.0) es) ≡ false
none-before p [] sorted k h q passed less = refl
none-before p (e ∷ es) sorted k h q passed less =
    elim (p e.0) as (λ b. p e.0 ≡ b → cond b (Some e.0) (find p (map (λ e. e.0) es)) ≡ Some k → (rowkey_eq q e.0 || among q (map (λ e. e.0) es)) ≡ false) [
      | true ↦ λ t s.
          let same : e.0 ≡ k = cc in
          let before : rowkey_cmp q e.0 ≡ Less = ap (rowkey_cmp q) same ∙ less in
          elim (rowkey_eq q e.0) as (λ b. rowkey_eq q e.0 ≡ b → (b || among q (map (λ e. e.0) es)) ≡ false) [
            | true ↦ λ u.
                let tie : is_lt (rowkey_cmp q q) ≡ false = ap is_lt (tied_itself rowkey_cmp_total q) in
                let lower : is_lt (rowkey_cmp q q) ≡ true = ap (λ z. is_lt (rowkey_cmp q z)) (rowkey_eq-equal q e.0 u) ∙ ap is_lt before in
                cc
            | false ↦ λ u. above-all e.0 q es (left_of _ _ sorted) before
          ] refl
      | false ↦ λ t s.
          elim (rowkey_eq q e.0) as (λ b. rowkey_eq q e.0 ≡ b → (b || among q (map (λ e. e.0) es)) ≡ false) [
            | true ↦ λ u. let no : true ≡ false = sym passed ∙ ap p (rowkey_eq-equal q e.0 u) ∙ t in cc
            | false ↦ λ u. none-before p es (right_of _ _ sorted) k s q passed less
          ] refl
    ] refl h

-- ---- of a state

no_some : (r : Option Row) → is_some r ≡ false → r ≡ None
no_some None e = refl
no_some (Some r) e = cc

-- there is no row above the low key
pub next-none : (S : State) (low : Option RowKey) → next_key S low ≡ None → (q : RowKey) → is_above low q ≡ true → row S q ≡ None
next-none S low h q above = no_some (row S q) (among-keys S q ∙ none-passes (is_above low) (keys S) h q above)

pub next-above : (S : State) (low : Option RowKey) (k : RowKey) → next_key S low ≡ Some k → is_above low k ≡ true
next-above S low k h = found-passes (is_above low) (keys S) k h

pub next-there : (S : State) (low : Option RowKey) (k : RowKey) → next_key S low ≡ Some k → is_some (row S k) ≡ true
next-there S low k h = among-keys S k ∙ found-among (is_above low) (keys S) k h

-- there is no row between the low key and the next one
pub next-least : (S : State) (low : Option RowKey) (k : RowKey) → next_key S low ≡ Some k → (q : RowKey) → is_above low q ≡ true → rowkey_cmp q k ≡ Less → row S q ≡ None
next-least S low k h q above less = no_some (row S q) (among-keys S q ∙ none-before (is_above low) S.rows S.sorted k h q above less)
