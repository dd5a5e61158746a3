-- Handles one behind another: a value is followed by the least above it.
use Rattle.std.proofs.Common.{◌≡◌, ℕ, zero, suc, ◌+◌, ◌^◌, ◌≤◌, ◌<◌, Bool, true, false, ◌||◌, List, [], ◌∷◌, ◌++◌, length, get_or, Option, Some, None, is_some, refl, sym, ◌∙◌, ap, subst, inl, inr, arith, length-append}
use Rattle.std.specs.Prelude.{◌==◌}
use Rattle.std.specs.List.{AllByRecursion}
use Rattle.std.specs.List.Sorted.{IsStrictlyIncreasing}
use Rattle.std.specs.Option.{option_map}
use Rattle.std.proofs.lemmas.Bool.{cases_lt, true≢false, eq-eqb}
use Rattle.std.proofs.lemmas.List.{append-nil, map-append, get_or_append_left}
use Rattle.std.proofs.lemmas.List.Folds.{list_any-append}
use Rattle.std.proofs.Math.Seq.{get_or-append_seam}
use Rattle.zt_rows.specs.declared.rows.Held.{Held}
use Rattle.zt_rows.specs.declared.rows.ObjectRow.{ObjectRow}
use Rattle.zt_rows.specs.Consistent.{IsConsistent}
use Rattle.zt_rows.specs.Reads.{entry, object}
use Rattle.zt_rows.specs.State.{State}
use Rattle.zt_rows.specs.Tests.{among, kind_at}
use Rattle.zt_rows.proofs.ReadLaws.{entry-row}
use Rattle.zt_index.specs.Chains.{IsShortOf, IsNext}
use Rattle.zt_index.specs.Criteria.{has_entry}
use Rattle.zt_history.specs.Tree.{Tree, last_moment, state_at}
use Rattle.zt_history.specs.TreeInvariant.{IsTree}
use Rattle.zt_history.proofs.LawsOfTrees.{tree-consistent}
use Rattle.zt_look.specs.declared.handle_list.Handle.{Handle}
use Rattle.zt_look.specs.HandleList.{IsHandleOf, AreHandles, values}
use Rattle.zt_look.specs.ProofsOnly.HandlesSoFar.{NamesObjects, AreHandlesBefore, handle_by, held_koid, with_handle, left_from}

-- ---- lists

all-append : {A : Type 0} (P : A → Type 0) (xs : List A) (x : A) → AllByRecursion P xs → P x → AllByRecursion P (xs ++ x ∷ [])
all-append P [] x all h = (h, tt)
all-append P (y ∷ ys) x all h = (all.0, all-append P ys x all.1 h)

all-map : {A : Type 0} (P Q : A → Type 0) → ((x : A) → P x → Q x) → (xs : List A) → AllByRecursion P xs → AllByRecursion Q xs
all-map P Q f [] all = tt
all-map P Q f (x ∷ xs) all = (f x all.0, all-map P Q f xs all.1)

all-at : (P : ℕ → Type 0) (xs : List ℕ) (i : ℕ) → AllByRecursion P xs → i < length xs → P (get_or xs i 0)
all-at P [] i all h = absurd (omega (arith, h))
all-at P (x ∷ xs) zero all h = all.0
all-at P (x ∷ xs) (suc i) all h = all-at P xs i all.1 (omega (arith, h))

pub rising-push : (xs : List ℕ) (x : ℕ) → IsStrictlyIncreasing xs → AllByRecursion (λ y. y < x) xs → IsStrictlyIncreasing (xs ++ x ∷ [])
rising-push xs x up below k h =
    let size : length (xs ++ x ∷ []) ≡ length xs + 1 = omega (arith, length-append xs (x ∷ [])) in
    let here : k < length xs = omega (arith, h, size) in
    let this : get_or (xs ++ x ∷ []) k 0 ≡ get_or xs k 0 = get_or_append_left xs (x ∷ []) 0 k here in
    elim (cases_lt (k + 1) (length xs)) [
      | inl l ↦
          let next : get_or (xs ++ x ∷ []) (k + 1) 0 ≡ get_or xs (k + 1) 0 = get_or_append_left xs (x ∷ []) 0 (k + 1) l in
          omega (arith, this, next, up k l)
      | inr g ↦
          let last : k + 1 ≡ length xs = omega (arith, here, g) in
          let next : get_or (xs ++ x ∷ []) (k + 1) 0 ≡ x = ap (λ n. get_or (xs ++ x ∷ []) n 0) last ∙ get_or-append_seam xs x [] 0 in
          omega (arith, this, next, all-at (λ y. y < x) xs k below here)
    ]

values-push : (list : List Handle) (line : Handle) → values (list ++ line ∷ []) ≡ values list ++ line.value ∷ []
values-push list line = map-append (λ (h : Handle). h.value) list (line ∷ [])

or_true : (b : Bool) → (b || true) ≡ true
or_true true = refl
or_true false = refl

among-push_old : (xs : List ℕ) (x h : ℕ) → among xs h ≡ true → among (xs ++ x ∷ []) h ≡ true
among-push_old xs x h e = list_any-append (λ m. m == h) xs (x ∷ []) ∙ ap (λ b. b || among (x ∷ []) h) e

among-push_new : (xs : List ℕ) (x h : ℕ) → x ≡ h → among (xs ++ x ∷ []) h ≡ true
among-push_new xs x h e =
    list_any-append (λ m. m == h) xs (x ∷ []) ∙ ap (λ b. among xs h || (b || false)) (eq-eqb x h e) ∙ or_true (among xs h)

some_same : {A : Type 0} (x y : A) → Some x ≡ Some y → x ≡ y
some_same x y e = cc

some_none : {A : Type 0} (o : Option A) (x : A) → o ≡ Some x → o ≡ None → ⊥
some_none o x e n = cc

-- ---- what is there

pub names-there : (t : Tree) (m : ℕ) (S : State) (p : ℕ) → IsTree t → m ≤ last_moment t → S ≡ state_at t.made m → NamesObjects S p
names-there t m S p is there e h held at =
    let sound : IsConsistent S = subst IsConsistent (sym e) (tree-consistent t m is there) in
    (sound.sound.of_entries p h held at).names

object-there : (o : Option ObjectRow) → is_some o ≡ true → (q : ObjectRow) × (o ≡ Some q)
object-there (Some q) e = (q, refl)
object-there None e = cc

pub object-missing : (S : State) (p h : ℕ) (held : Held) → NamesObjects S p → entry S p h ≡ Some held → object S held.koid ≡ None → ⊥
object-missing S p h held named at none =
    let there = object-there (object S held.koid) (named h held at) in
    some_none (object S held.koid) there.0 there.1 none

-- what is put for an entry
pub handle-put : (S : State) (p h : ℕ) (held : Held) (found : ObjectRow) (list : List Handle) → entry S p h ≡ Some held → object S held.koid ≡ Some found
    → list ++ record { value = h; koid = held.koid; kind = found.kind; rights = held.rights } ∷ [] ≡ with_handle S p h list
handle-put S p h held found list at there =
    let kind : kind_at S held.koid ≡ Some found.kind = ap (option_map (λ (o : ObjectRow). o.kind)) there in
    ap (λ k. list ++ handle_by h (Some held) k) (sym kind)
    ∙ ap (λ o. list ++ handle_by h o (kind_at S (held_koid o))) (sym at)

-- nothing is put where there is no entry
pub handle-none : (S : State) (p h : ℕ) (list : List Handle) → entry S p h ≡ None → list ≡ with_handle S p h list
handle-none S p h list at =
    sym (append-nil list) ∙ ap (λ o. list ++ handle_by h o (kind_at S (held_koid o))) (sym at)

-- ---- one behind another

module _ (S : State) (p : ℕ) where
  has : (h : ℕ) (held : Held) → entry S p h ≡ Some held → has_entry S p h ≡ true
  has h held e = ap is_some (entry-row S p h held e)

  pub handles-first : (next : Option ℕ) → IsNext (has_entry S p) None next → AreHandlesBefore S p next []
  handles-first next n = record {
    each = tt;
    rising = λ k h. absurd (omega (arith, h));
    short = tt;
    all = λ h held short e. absurd (true≢false (sym (has h held e) ∙ n.1 h tt short));
  }

  short-before : (v : ℕ) (next : Option ℕ) → IsNext (has_entry S p) (Some v) next → (y : ℕ) → y ≤ v → IsShortOf (λ a b. a < b) next y
  short-before v None n y h = tt
  short-before v (Some m) n y h = omega (arith, n.0.0, h)

  -- an entry before the next one is before this value, or of it
  before-next : (v : ℕ) (next : Option ℕ) → IsNext (has_entry S p) (Some v) next → (h : ℕ) (held : Held) → IsShortOf (λ a b. a < b) next h → entry S p h ≡ Some held → h ≤ v
  before-next v next n h held short e =
      elim (cases_lt v h) [ inl l ↦ absurd (true≢false (sym (has h held e) ∙ n.1 h l short)) | inr g ↦ g ]

  handles-kept : (v : ℕ) (next : Option ℕ) (list : List Handle) → entry S p v ≡ None → AreHandlesBefore S p (Some v) list → IsNext (has_entry S p) (Some v) next → AreHandlesBefore S p next list
  handles-kept v next list none b n = record {
    each = b.each;
    rising = b.rising;
    short = all-map (λ y. y < v) (IsShortOf (λ a b. a < b) next) (λ y l. short-before v next n y (omega (arith, l))) (values list) b.short;
    all = λ h held short e.
        elim (cases_lt h v) [
          | inl l ↦ b.all h held l e
          | inr g ↦
              let same : h ≡ v = omega (arith, before-next v next n h held short e, g) in
              absurd (some_none (entry S p h) held e (ap (entry S p) same ∙ none))
        ];
  }

  handles-added : (v : ℕ) (next : Option ℕ) (list : List Handle) (line : Handle) → line.value ≡ v → IsHandleOf S p line → AreHandlesBefore S p (Some v) list
      → IsNext (has_entry S p) (Some v) next → AreHandlesBefore S p next (list ++ line ∷ [])
  handles-added v next list line at is b n =
      let long : values (list ++ line ∷ []) ≡ values list ++ line.value ∷ [] = values-push list line in
      record {
        each = all-append (IsHandleOf S p) list line b.each is;
        rising = subst IsStrictlyIncreasing (sym long) (rising-push (values list) line.value b.rising (all-map (λ y. y < v) (λ y. y < line.value) (λ y l. omega (arith, l, at)) (values list) b.short));
        short =
            subst (AllByRecursion (IsShortOf (λ a b. a < b) next)) (sym long)
            (all-append (IsShortOf (λ a b. a < b) next) (values list) line.value
            (all-map (λ y. y < v) (IsShortOf (λ a b. a < b) next) (λ y l. short-before v next n y (omega (arith, l))) (values list) b.short)
            (short-before v next n line.value (omega (arith, at))));
        all = λ h held short e.
            ap (λ l. among l h) long
            ∙ elim (cases_lt h v) [
              | inl l ↦ among-push_old (values list) line.value h (b.all h held l e)
              | inr g ↦ among-push_new (values list) line.value h (omega (arith, at, before-next v next n h held short e, g))
            ];
      }

  -- the list with the handle of the value has the entries before the next one
  pub handles-more : (v : ℕ) (next : Option ℕ) (list new : List Handle) → NamesObjects S p → AreHandlesBefore S p (Some v) list → new ≡ with_handle S p v list
      → IsNext (has_entry S p) (Some v) next → AreHandlesBefore S p next new
  handles-more v next list new named b made n = by (entry S p v) refl
    where
      by : (o : Option Held) → entry S p v ≡ o → AreHandlesBefore S p next new
      by None at = subst (AreHandlesBefore S p next) (handle-none S p v list at ∙ sym made) (handles-kept v next list at b n)
      by (Some held) at =
          let there = object-there (object S held.koid) (named v held at) in
          let line : Handle = record { value = v; koid = held.koid; kind = there.0.kind; rights = held.rights } in
          let is : IsHandleOf S p line = record { held = at; kind = ap (option_map (λ (o : ObjectRow). o.kind)) there.1 } in
          subst (AreHandlesBefore S p next) (handle-put S p v held there.0 list at there.1 ∙ sym made) (handles-added v next list line refl is b n)

  pub handles-done : (next : Option ℕ) (list : List Handle) → ((v : ℕ) → next ≡ Some v → ⊥) → AreHandlesBefore S p next list → AreHandles S p list
  handles-done next list none b = by next none b
    where
      by : (next : Option ℕ) → ((v : ℕ) → next ≡ Some v → ⊥) → AreHandlesBefore S p next list → AreHandles S p list
      by None none b = record { each = b.each; rising = b.rising; all = λ h held e. b.all h held tt e }
      by (Some v) none b = absurd (none v refl)

  pub handles-fewer : (v : ℕ) (next : Option ℕ) → v < 2 ^ 32 → IsNext (has_entry S p) (Some v) next → left_from next < left_from (Some v)
  handles-fewer v None h n = omega (arith, h)
  handles-fewer v (Some m) h n = omega (arith, h, n.0.0)
