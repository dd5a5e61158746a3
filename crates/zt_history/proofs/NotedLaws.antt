-- What is noted of the objects beside a tree: with one moment more and one less, true of each moment, and all that shows.
use Rattle.std.proofs.Common.{◌≡◌, ℕ, zero, suc, ◌+◌, ◌-◌, ◌≤◌, ◌<◌, Bool, true, false, not, ◌&&◌, ◌||◌, cond, List, [], ◌∷◌, ◌++◌, length, map, filter, Option, Some, None, refl, sym, ◌∙◌, ap, subst, inl, inr, arith, append-nil}
use Rattle.std.specs.Prelude.{◌==◌, if◌then◌else◌, slice_get}
use Rattle.std.specs.List.{AllByRecursion, flat_map, last_or, list_any}
use Rattle.std.proofs.lemmas.Bool.{cases_lt, eqb-true, eq-eqb, true≢false}
use Rattle.std.proofs.lemmas.List.Elements.{filter-append}
use Rattle.std.proofs.lemmas.Option.{none-some, same_Some, slice_get_within}
use Rattle.zt_rows.specs.declared.keys.RowKey.{RowKey}
use Rattle.zt_rows.specs.declared.keys.RowKey.TheVariants as key
use Rattle.zt_rows.specs.declared.rows.Row.{Row}
use Rattle.zt_rows.specs.Change.{before, changed, differ_at, rows_under}
use Rattle.zt_rows.specs.Handles.{next_koid}
use Rattle.zt_rows.specs.Keys.{rowkey_eq}
use Rattle.zt_rows.specs.ProofsOnly.KeyOrder.{rowkey_eq-equal}
use Rattle.zt_rows.specs.Opening.{opening}
use Rattle.zt_rows.specs.State.{State, row}
use Rattle.zt_rows.specs.Step.{step}
use Rattle.zt_rows.specs.Tests.{among}
use Rattle.zt_rows.proofs.ChangeLaws.{among-changed, find-before, same_where_not_differ}
use Rattle.zt_store.specs.RecordLook.{held}
use Rattle.zt_history.specs.declared.object_notes.Noted.TheVariants as did
use Rattle.zt_history.specs.declared.object_notes.Sought.{Sought}
use Rattle.zt_history.specs.declared.object_notes.Sought.TheVariants as sought
use Rattle.zt_history.specs.declared.row_happenings.RowHappening.{RowHappening}
use Rattle.zt_history.specs.declared.row_happenings.RowHappening.TheVariants as happening
use Rattle.zt_rows.specs.Reads.{names}
use Rattle.zt_history.specs.Released.{last_released, releases}
use Rattle.zt_history.specs.LostChild.{is_child_row, last_lost_child, loses_child}
use Rattle.zt_history.specs.RowHappenings.{is_alone, is_living, is_there, last_shown, shows}
use Rattle.zt_history.specs.Tree.{Made, parent_of, parent_at, path, state_at}
use Rattle.zt_history.specs.TreeInvariant.{AreMoments, Falls}
use Rattle.zt_history.specs.ProofsOnly.Branches.{without_last}
use Rattle.zt_history.specs.ProofsOnly.ObjectNotes.{AreNoted, AreRising, ChangeNote, IsCut, NotedChanges, TellsLast, gone_of, is_found, loss_of, next_koids_to, note_before, note_of, note_over, note_under, note_with, noted, notes_at, notes_of, notes_to, shown_by, tells}
use Rattle.zt_history.proofs.NoteListLaws.{cut-front}
use Rattle.zt_history.proofs.GrownLaws.{length-push, made_at-end, state-end}
use Rattle.zt_history.proofs.LossLaws.{IsTyped, at-loses, before-lost, before-there, differ-lost, gone-in, loses-at, loss-in}
use Rattle.zt_history.proofs.ListLaws.{either, get-left, get-last, get-right}
use Rattle.zt_history.proofs.MoreLaws.{falls-push, parent-early, parent-more, state-more}
use Rattle.zt_history.proofs.PathLaws.{among-early, among-other, among-self, among-step, by_parents, path-opening, path-step}
use Rattle.zt_history.proofs.RunLaws.{moment-consistent, state-opening}
use Rattle.zt_history.proofs.TreeLaws.{without_last-push}

-- ---- places of lists

module _ {A B : Type 0} (f : A → List B) where
  get-flat_map : (xs : List A) (i : ℕ) (y : B) → slice_get (flat_map f xs) i ≡ Some y → (x : A) × (j : ℕ) × (slice_get (f x) j ≡ Some y)
  get-flat_map [] i y at = absurd (none-some y at)
  get-flat_map (x ∷ xs) i y at = elim (either (f x) (flat_map f xs) i y at) [
    | inl here ↦ (x, i, here)
    | inr there ↦ get-flat_map xs (i - length (f x)) y there
  ]

  has-flat_map : (xs : List A) (k : ℕ) (x : A) (j : ℕ) (y : B) → slice_get xs k ≡ Some x → slice_get (f x) j ≡ Some y → (i : ℕ) × (slice_get (flat_map f xs) i ≡ Some y)
  has-flat_map [] k x j y at there = absurd (none-some x at)
  has-flat_map (z ∷ xs) zero x j y at there =
      let same : z ≡ x = same_Some z x at in
      let here : slice_get (f z) j ≡ Some y = ap (λ z. slice_get (f z) j) same ∙ there in
      (j, get-left (f z) (flat_map f xs) j (slice_get_within (f z) j y here) ∙ here)
  has-flat_map (z ∷ xs) (suc k) x j y at there =
      let rest = has-flat_map xs k x j y at there in
      (length (f z) + rest.0, get-right (f z) (flat_map f xs) rest.0 ∙ rest.1)

-- ---- what is looked for

-- it happened to the object by a call that led from S to T
abbrev pub happens : Sought → ℕ → State → State → Bool
happens (sought.Shown what) x S T = shows what (row S (key.Object x)) (row T (key.Object x))
happens sought.Released x S T = releases x S T
happens sought.LostChild x S T = loses_child x S T

-- it happened to the object by the call that made the moment
abbrev pub happens_at : Sought → ℕ → List Made → ℕ → Bool
happens_at what x made m = happens what x (state_at made (parent_at made m)) (state_at made m)

-- the last moment on the path to `at` at which it did
abbrev pub last_happening : Sought → ℕ → List Made → ℕ → Option ℕ
last_happening what x made at = last_or None (filter (happens_at what x made) (path made at))

-- ---- what is noted of one moment

shows-same : (what : RowHappening) (r : Option Row) → shows what r r ≡ false
shows-same happening.Made r = by (is_there r)
  where
    by : (b : Bool) → (not b && b) ≡ false
    by true = refl
    by false = refl
shows-same happening.Ended r = by (is_living r)
  where
    by : (b : Bool) → (b && not b) ≡ false
    by true = refl
    by false = refl
shows-same happening.PeerClosed r = by (is_alone r)
  where
    by : (b : Bool) → (not b && b) ≡ false
    by true = refl
    by false = refl

any-shown : (what : RowHappening) (r s : Option Row) → shows what r s ≡ true → (shows happening.Made r s || (shows happening.Ended r s || shows happening.PeerClosed r s)) ≡ true
any-shown happening.Made r s e = ap (λ b. b || (shows happening.Ended r s || shows happening.PeerClosed r s)) e
any-shown happening.Ended r s e = ap (λ b. shows happening.Made r s || (b || shows happening.PeerClosed r s)) e ∙ or_true (shows happening.Made r s)
  where
    or_true : (b : Bool) → (b || true) ≡ true
    or_true true = refl
    or_true false = refl
any-shown happening.PeerClosed r s e =
    ap (λ b. shows happening.Made r s || (shows happening.Ended r s || b)) e
    ∙ ap (λ b. shows happening.Made r s || b) (or_true (shows happening.Ended r s)) ∙ or_true (shows happening.Made r s)
  where
    or_true : (b : Bool) → (b || true) ≡ true
    or_true true = refl
    or_true false = refl

module _ (m x : ℕ) (r s : Option Row) where
  abbrev one : ChangeNote
  one = note_with m x (did.Shown (shown_by r s))

  abbrev shown : Bool
  shown = shows happening.Made r s || (shows happening.Ended r s || shows happening.PeerClosed r s)

  one-tells : (what : RowHappening) → tells (sought.Shown what) one ≡ shows what r s
  one-tells happening.Made = refl
  one-tells happening.Ended = refl
  one-tells happening.PeerClosed = refl

  note-in : (i : ℕ) (n : ChangeNote) → slice_get (note_of m x r s) i ≡ Some n → one ≡ n
  note-in i n at = by shown i at
    where
      by : (b : Bool) (i : ℕ) → slice_get (if b then one ∷ [] else []) i ≡ Some n → one ≡ n
      by true zero at = same_Some one n at
      by true (suc i) at = absurd (none-some n at)
      by false i at = absurd (none-some n at)

  note-there : (what : RowHappening) → shows what r s ≡ true → slice_get (note_of m x r s) 0 ≡ Some one
  note-there what e = ap (λ b. slice_get (if b then one ∷ [] else []) 0) (any-shown what r s e)

-- a note of the record of a call
pub record IsNoteOf (m : ℕ) (S T : State) (n : ChangeNote) : Type 0 where
  pub at : n.moment ≡ m
  pub true_of : (what : Sought) → tells what n ≡ true → happens what n.koid S T ≡ true

module _ (m : ℕ) (S T : State) where
  of-shown : (x i : ℕ) (n : ChangeNote) → slice_get (note_of m x (row S (key.Object x)) (row T (key.Object x))) i ≡ Some n → IsNoteOf m S T n
  of-shown x i n at = subst (IsNoteOf m S T) (note-in m x (row S (key.Object x)) (row T (key.Object x)) i n at) (record { at = refl; true_of = told })
    where
      told : (what : Sought) → tells what (one m x (row S (key.Object x)) (row T (key.Object x))) ≡ true → happens what x S T ≡ true
      told (sought.Shown what) e = sym (one-tells m x (row S (key.Object x)) (row T (key.Object x)) what) ∙ e
      told sought.Released e = absurd (true≢false (sym e))
      told sought.LostChild e = absurd (true≢false (sym e))

  of-gone : (k : RowKey) (i : ℕ) (n : ChangeNote) → slice_get (gone_of m (row S k) (row T k) T) i ≡ Some n → IsNoteOf m S T n
  of-gone k i n at =
      let its = gone-in m (row T k) T (row S k) i n at in
      subst (IsNoteOf m S T) its.is (record { at = refl; true_of = told its.koid (loses-at names S T its.koid k refl its.stood its.left) })
    where
      told : (x : ℕ) → releases x S T ≡ true → (what : Sought) → tells what (note_with m x did.Released) ≡ true → happens what x S T ≡ true
      told x gone (sought.Shown what) e = absurd (true≢false (sym e))
      told x gone sought.Released e = gone
      told x gone sought.LostChild e = absurd (true≢false (sym e))

  of-lost : (y i : ℕ) (n : ChangeNote) → slice_get (loss_of m (row S (key.Object y)) (row T (key.Object y)) T) i ≡ Some n → IsNoteOf m S T n
  of-lost y i n at =
      let its = loss-in m (row T (key.Object y)) T (row S (key.Object y)) i n at in
      subst (IsNoteOf m S T) its.is (record { at = refl; true_of = told its.koid (loses-at is_child_row S T its.koid (key.Object y) refl its.stood its.left) })
    where
      told : (x : ℕ) → loses_child x S T ≡ true → (what : Sought) → tells what (note_with m x did.LostChild) ≡ true → happens what x S T ≡ true
      told x lost (sought.Shown what) e = absurd (true≢false (sym e))
      told x lost sought.Released e = absurd (true≢false (sym e))
      told x lost sought.LostChild e = lost

  before-in : (k : RowKey) (i : ℕ) (n : ChangeNote) → slice_get (note_before m (row S k) T k) i ≡ Some n → IsNoteOf m S T n
  before-in (key.Object x) i n at =
      let r = row S (key.Object x) in
      let s = row T (key.Object x) in
      elim (either (note_of m x r s) (loss_of m r s T) i n at) [
        | inl here ↦ of-shown x i n here
        | inr there ↦ of-lost x (i - length (note_of m x r s)) n there
      ]
  before-in key.Counters i n at = of-gone key.Counters i n at
  before-in (key.Entry p h) i n at = of-gone (key.Entry p h) i n at
  before-in (key.Msg e k) i n at = of-gone (key.Msg e k) i n at
  before-in (key.Packet p k) i n at = of-gone (key.Packet p k) i n at
  before-in (key.Wait k) i n at = of-gone (key.Wait k) i n at

  under-in : (k : RowKey) (i : ℕ) (n : ChangeNote) → slice_get (note_under m (before S T) T k) i ≡ Some n → IsNoteOf m S T n
  under-in k i n at = by (differ_at S T k) (ap (λ o. slice_get (note_over m o T k) i) (sym (find-before S T k)) ∙ at)
    where
      by : (b : Bool) → slice_get (note_over m (cond b (Some (row S k)) None) T k) i ≡ Some n → IsNoteOf m S T n
      by true at = before-in k i n at
      by false at = absurd (none-some n at)

  pub notes-in : (i : ℕ) (n : ChangeNote) → slice_get (notes_of m (before S T) T) i ≡ Some n → IsNoteOf m S T n
  notes-in i n at =
      let f = get-flat_map (note_under m (before S T) T) (map (λ e. e.0) (before S T)) i n at in
      under-in f.0 f.1 n f.2

  -- where a key is
  listed : (q : RowKey) (ks : List RowKey) → list_any (rowkey_eq q) ks ≡ true → (i : ℕ) × (slice_get ks i ≡ Some q)
  listed q [] e = absurd (true≢false (sym e))
  listed q (k ∷ ks) e = by (rowkey_eq q k) refl e (λ e. listed q ks e)
    where
      by : (b : Bool) → rowkey_eq q k ≡ b → (b || list_any (rowkey_eq q) ks) ≡ true → (list_any (rowkey_eq q) ks ≡ true → (i : ℕ) × (slice_get ks i ≡ Some q)) → (i : ℕ) × (slice_get (k ∷ ks) i ≡ Some q)
      by true is e rest = (0, ap Some (sym (rowkey_eq-equal q k is)))
      by false is e rest = let r = rest e in (suc r.0, r.1)

  keys-under : (ks : List RowKey) → map (λ e. e.0) (rows_under S ks) ≡ ks
  keys-under [] = refl
  keys-under (k ∷ ks) = ap (λ ks. k ∷ ks) (keys-under ks)

  keys-before : map (λ e. e.0) (before S T) ≡ changed S T
  unfolding before
  keys-before = keys-under (changed S T)

  -- what is noted under a key where the rows differ stands among all that is noted
  under-there : (k : RowKey) (j : ℕ) (n : ChangeNote) → differ_at S T k ≡ true → slice_get (note_before m (row S k) T k) j ≡ Some n
      → (i : ℕ) × (slice_get (notes_of m (before S T) T) i ≡ Some n)
  under-there k j n differ at =
      let there = listed k (changed S T) (among-changed S T k ∙ differ) in
      let place : slice_get (map (λ e. e.0) (before S T)) there.0 ≡ Some k = ap (λ ks. slice_get ks there.0) keys-before ∙ there.1 in
      let has : held (before S T) k ≡ Some (row S k) = find-before S T k ∙ ap (λ b. cond b (Some (row S k)) None) differ in
      let here : slice_get (note_under m (before S T) T k) j ≡ Some n = ap (λ o. slice_get (note_over m o T k) j) has ∙ at in
      has-flat_map (note_under m (before S T) T) (map (λ e. e.0) (before S T)) there.0 k j n place here

  differ-shown : (x : ℕ) (what : RowHappening) → shows what (row S (key.Object x)) (row T (key.Object x)) ≡ true → differ_at S T (key.Object x) ≡ true
  differ-shown x what e = by (differ_at S T (key.Object x)) refl
    where
      by : (b : Bool) → differ_at S T (key.Object x) ≡ b → differ_at S T (key.Object x) ≡ true
      by true is = is
      by false is =
          let same = same_where_not_differ S T (key.Object x) is in
          absurd (true≢false (sym e ∙ ap (λ r. shows what r (row T (key.Object x))) same ∙ shows-same what (row T (key.Object x))))

  pub notes-there : IsTyped S → (x : ℕ) (what : Sought) → happens what x S T ≡ true
      → (i : ℕ) × (n : ChangeNote) × (slice_get (notes_of m (before S T) T) i ≡ Some n) × (n.koid ≡ x) × (n.moment ≡ m) × (tells what n ≡ true)
  notes-there typed x (sought.Shown what) e =
      let r = row S (key.Object x) in
      let s = row T (key.Object x) in
      let there = note-there m x r s what e in
      let here = get-left (note_of m x r s) (loss_of m r s T) 0 (slice_get_within (note_of m x r s) 0 (one m x r s) there) ∙ there in
      let f = under-there (key.Object x) 0 (one m x r s) (differ-shown x what e) here in
      (f.0, one m x r s, f.1, refl, refl, one-tells m x r s what ∙ e)
  notes-there typed x sought.Released e =
      let where_named = at-loses names S T x e in
      let its = before-there m S T typed x where_named.0 where_named.1 where_named.2 in
      let f = under-there where_named.0 its.0 (note_with m x did.Released) (differ-lost names S T x where_named.0 where_named.1 where_named.2) its.1 in
      (f.0, note_with m x did.Released, f.1, refl, refl, refl)
  notes-there typed x sought.LostChild e =
      let where_child = at-loses is_child_row S T x e in
      let its = before-lost m S T typed x where_child.0 where_child.1 where_child.2 in
      let f = under-there where_child.0 its.0 (note_with m x did.LostChild) (differ-lost is_child_row S T x where_child.0 where_child.1 where_child.2) its.1 in
      (f.0, note_with m x did.LostChild, f.1, refl, refl, refl)

-- ---- what is noted of all moments so far

-- each row of each state is of its key's variant
abbrev AreTyped : List Made → Type 0
AreTyped made = (m : ℕ) → m ≤ length made → IsTyped (state_at made m)

module _ (made : List Made) where
  -- a note of one of the first k moments
  pub record IsNoteTo (k : ℕ) (n : ChangeNote) : Type 0 where
    pub some : 0 < n.moment
    pub low : n.moment ≤ k
    pub true_of : (what : Sought) → tells what n ≡ true → happens_at what n.koid made n.moment ≡ true

  at-in : (m i : ℕ) (n : ChangeNote) → slice_get (notes_at made m) i ≡ Some n → (n.moment ≡ m) × ((what : Sought) → tells what n ≡ true → happens_at what n.koid made n.moment ≡ true)
  at-in m i n at =
      let is = notes-in m (state_at made (parent_at made m)) (state_at made m) i n at in
      (is.at, λ what e. ap (λ m. happens_at what n.koid made m) is.at ∙ is.true_of what e)

  pub to-in : (k i : ℕ) (n : ChangeNote) → slice_get (notes_to made k) i ≡ Some n → IsNoteTo k n
  to-in zero i n at = absurd (none-some n at)
  to-in (suc k) i n at = elim (either (notes_to made k) (notes_at made (suc k)) i n at) [
    | inl here ↦
        let is = to-in k i n here in
        record { some = is.some; low = omega (arith, is.low); true_of = is.true_of }
    | inr there ↦
        let is = at-in (suc k) (i - length (notes_to made k)) n there in
        record { some = omega (arith, is.0); low = omega (arith, is.0); true_of = is.1 }
  ]

  pub to-there : Falls made → AreTyped made → (k m x : ℕ) (what : Sought) → k ≤ length made → 0 < m → m ≤ k → happens_at what x made m ≡ true
      → (i : ℕ) × (n : ChangeNote) × (slice_get (notes_to made k) i ≡ Some n) × (n.koid ≡ x) × (n.moment ≡ m) × (tells what n ≡ true)
  to-there falls typed zero m x what all some low e = absurd (omega (arith, some, low))
  to-there falls typed (suc k) m x what all some low e = elim (cases_lt m (suc k)) [
    | inl l ↦
        let rest = to-there falls typed k m x what (omega (arith, all)) some (omega (arith, l)) e in
        (rest.0, rest.1, get-left (notes_to made k) (notes_at made (suc k)) rest.0 (slice_get_within (notes_to made k) rest.0 rest.1 rest.2) ∙ rest.2, rest.3, rest.4, rest.5)
    | inr g ↦
        let same : m ≡ suc k = omega (arith, low, g) in
        let above : IsTyped (state_at made (parent_at made (suc k))) = typed (parent_at made (suc k)) (omega (arith, all, parent-early made falls (suc k))) in
        let here = notes-there (suc k) (state_at made (parent_at made (suc k))) (state_at made (suc k)) above x what (ap (happens_at what x made) (sym same) ∙ e) in
        (length (notes_to made k) + here.0, here.1, get-right (notes_to made k) (notes_at made (suc k)) here.0 ∙ here.2, here.3, here.4 ∙ sym same, here.5)
  ]

  later-in : (k i j : ℕ) (n d : ChangeNote) → i ≤ j → slice_get (notes_to made k) i ≡ Some n → slice_get (notes_to made k) j ≡ Some d → n.moment ≤ d.moment
  later-in zero i j n d h at there = absurd (none-some n at)
  later-in (suc k) i j n d h at there = elim (either (notes_to made k) (notes_at made (suc k)) j d there) [
    | inl front ↦
        let l = slice_get_within (notes_to made k) j d front in
        later-in k i j n d h (sym (get-left (notes_to made k) (notes_at made (suc k)) i (omega (arith, h, l))) ∙ at) front
    | inr back ↦ omega (arith, (to-in (suc k) i n at).low, (at-in (suc k) (j - length (notes_to made k)) d back).0)
  ]

  pub to-rising : (k : ℕ) → AreRising (notes_to made k)
  to-rising k = record {
    some = λ i n at. (to-in k i n at).some;
    later = λ i j n d. later-in k i j n d;
  }

-- ---- one moment more, and one less

module _ (made more : List Made) (falls : Falls made) (still : Falls (made ++ more)) where
  notes_at-more : (m : ℕ) → m ≤ length made → notes_at (made ++ more) m ≡ notes_at made m
  notes_at-more m h =
      let here : state_at (made ++ more) m ≡ state_at made m = state-more made more falls still m h in
      let above : state_at (made ++ more) (parent_at (made ++ more) m) ≡ state_at made (parent_at made m) =
      ap (state_at (made ++ more)) (parent-more made more m h) ∙ state-more made more falls still (parent_at made m) (omega (arith, parent-early made falls m, h)) in
      λ j. notes_of m (before (above j) (here j)) (here j)

  notes_to-more : (k : ℕ) → k ≤ length made → notes_to (made ++ more) k ≡ notes_to made k
  notes_to-more zero h = refl
  notes_to-more (suc k) h =
      let front = notes_to-more k (omega (arith, h)) in
      let back = notes_at-more (suc k) h in
      λ j. front j ++ back j

  next_koids_to-more : (k : ℕ) → k ≤ length made → next_koids_to (made ++ more) k ≡ next_koids_to made k
  next_koids_to-more zero h = ap (λ S. next_koid S ∷ []) (state-more made more falls still 0 h)
  next_koids_to-more (suc k) h =
      let front = next_koids_to-more k (omega (arith, h)) in
      let back = state-more made more falls still (suc k) h in
      λ j. front j ++ next_koid (back j) ∷ []

pub noted-opening : (S : State) (c : NotedChanges) → S ≡ opening → c ≡ record { notes = []; next_koids = next_koid S ∷ [] } → AreNoted [] c
noted-opening S c is e =
    let first : next_koid S ∷ [] ≡ next_koids_to [] 0 = ap (λ S. next_koid S ∷ []) (is ∙ sym (state-opening [])) in
    subst (AreNoted []) (sym e) (record { notes = refl; next_koids = first })

module _ (made : List Made) (e : Made) (falls : Falls made) (within : e.parent ≤ length made) where
  still : Falls (made ++ e ∷ [])
  still = falls-push made e falls within

  above : state_at (made ++ e ∷ []) (parent_at (made ++ e ∷ []) (suc (length made))) ≡ state_at made e.parent
  above = ap (λ o. state_at (made ++ e ∷ []) (parent_of o)) (made_at-end made e falls within) ∙ state-more made (e ∷ []) falls still e.parent within

  pub noted-push : (old new : NotedChanges) (m : ℕ) (S T : State) → AreNoted made old → S ≡ state_at made e.parent → T ≡ (step S e.process e.call).0 → m ≡ suc (length made)
      → new ≡ noted old m (before S T) T → AreNoted (made ++ e ∷ []) new
  noted-push old new m S T are was went place_is is =
      let here : T ≡ state_at (made ++ e ∷ []) (suc (length made)) = went ∙ ap (λ S. (step S e.process e.call).0) was ∙ sym (state-end made e falls within) in
      let up : S ≡ state_at (made ++ e ∷ []) (parent_at (made ++ e ∷ []) (suc (length made))) = was ∙ sym above in
      let own : notes_of m (before S T) T ≡ notes_at (made ++ e ∷ []) (suc (length made)) = λ j. notes_of (place_is j) (before (up j) (here j)) (here j) in
      let front : old.notes ≡ notes_to (made ++ e ∷ []) (length made) = are.notes ∙ sym (notes_to-more made (e ∷ []) falls still (length made) (omega arith)) in
      let koids : old.next_koids ≡ next_koids_to (made ++ e ∷ []) (length made) = are.next_koids ∙ sym (next_koids_to-more made (e ∷ []) falls still (length made) (omega arith)) in
      let size : suc (length made) ≡ length (made ++ e ∷ []) = sym (length-push made e) in
      record {
        notes = ap (λ (c : NotedChanges). c.notes) is ∙ (λ j. front j ++ own j) ∙ ap (notes_to (made ++ e ∷ [])) size;
        next_koids = ap (λ (c : NotedChanges). c.next_koids) is ∙ (λ j. koids j ++ next_koid (here j) ∷ []) ∙ ap (next_koids_to (made ++ e ∷ [])) size;
      }

  pub noted-dropped : (old new : NotedChanges) (m : ℕ) → AreNoted (made ++ e ∷ []) old → m ≡ suc (length made) → IsCut old.notes new.notes m → new.next_koids ≡ without_last old.next_koids
      → AreNoted made new
  noted-dropped old new m are place_is cut fewer =
      let size : length (made ++ e ∷ []) ≡ suc (length made) = length-push made e in
      let same : notes_to made (length made) ++ notes_at (made ++ e ∷ []) (suc (length made)) ≡ new.notes ++ cut.gone =
      ap (λ xs. xs ++ notes_at (made ++ e ∷ []) (suc (length made))) (sym (notes_to-more made (e ∷ []) falls still (length made) (omega arith)))
      ∙ ap (notes_to (made ++ e ∷ [])) (sym size) ∙ sym are.notes ∙ cut.apart in
      record {
        notes = cut-front m (notes_to made (length made)) (notes_at (made ++ e ∷ []) (suc (length made))) new.notes cut.gone same others ends cut.each cut.ends;
        next_koids =
            fewer
            ∙ ap without_last (are.next_koids ∙ ap (next_koids_to (made ++ e ∷ [])) size)
            ∙ without_last-push (next_koids_to (made ++ e ∷ []) (length made)) (next_koid (state_at (made ++ e ∷ []) (suc (length made))))
            ∙ next_koids_to-more made (e ∷ []) falls still (length made) (omega arith);
      }
    where
      -- what holds at each place holds of each
      each : (P : ChangeNote → Type 0) (xs : List ChangeNote) → ((i : ℕ) (n : ChangeNote) → slice_get xs i ≡ Some n → P n) → AllByRecursion P xs
      each P [] holds = tt
      each P (x ∷ xs) holds = (holds 0 x refl, each P xs (λ i n at. holds (suc i) n at))

      others : AllByRecursion (λ n. n.moment ≡ m → ⊥) (notes_to made (length made))
      others = each (λ n. n.moment ≡ m → ⊥) (notes_to made (length made)) (λ i n at same. omega (arith, same, place_is, (to-in made (length made) i n at).low))

      ends : AllByRecursion (λ n. n.moment ≡ m) (notes_at (made ++ e ∷ []) (suc (length made)))
      ends = each (λ n. n.moment ≡ m) (notes_at (made ++ e ∷ []) (suc (length made))) (λ i n at. (at-in (made ++ e ∷ []) (suc (length made)) i n at).0 ∙ sym place_is)

-- ---- over a moment to its parent

pub parent-before : (made : List Made) → Falls made → (m : ℕ) → 0 < m → parent_at made m < m
parent-before made falls zero some = absurd (omega (arith, some))
parent-before made falls (suc i) some = omega (arith, falls i)

pub parent-among : (made : List Made) → Falls made → (m q : ℕ) → q < m → among (path made (parent_at made m)) q ≡ among (path made m) q
parent-among made falls zero q early = absurd (omega (arith, early))
parent-among made falls (suc i) q early = sym (among-other made falls i q (λ same. omega (arith, same, early)))

-- ---- the next koid at a moment

pub next_koid-at : (made : List Made) (k m : ℕ) → m ≤ k → slice_get (next_koids_to made k) m ≡ Some (next_koid (state_at made m))
next_koid-at made zero m h = let same : m ≡ 0 = omega (arith, h) in ap (slice_get (next_koids_to made 0)) same ∙ ap (λ m. Some (next_koid (state_at made m))) (sym same)
next_koid-at made (suc k) m h = elim (cases_lt m (suc k)) [
  | inl l ↦
      let rest = next_koid-at made k m (omega (arith, l)) in
      get-left (next_koids_to made k) (next_koid (state_at made (suc k)) ∷ []) m (slice_get_within (next_koids_to made k) m (next_koid (state_at made m)) rest) ∙ rest
  | inr g ↦
      let same : m ≡ suc k = omega (arith, h, g) in
      get-last (next_koids_to made k) (next_koid (state_at made (suc k))) m (same ∙ sym (many k))
      ∙ ap (λ m. Some (next_koid (state_at made m))) (sym same)
]
  where
    many : (k : ℕ) → length (next_koids_to made k) ≡ suc k
    many zero = refl
    many (suc k) = length-push (next_koids_to made k) (next_koid (state_at made (suc k))) ∙ ap suc (many k)

pub length-next_koids : (made : List Made) (k : ℕ) → length (next_koids_to made k) ≡ suc k
length-next_koids made zero = refl
length-next_koids made (suc k) = length-push (next_koids_to made k) (next_koid (state_at made (suc k))) ∙ ap suc (length-next_koids made k)

-- ---- the last moment of a path at which it shows

last_or-push : (o : Option ℕ) (xs : List ℕ) (y : ℕ) → last_or o (xs ++ y ∷ []) ≡ Some y
last_or-push o [] y = refl
last_or-push o (x ∷ xs) y = last_or-push (Some x) xs y

module _ (made : List Made) (falls : Falls made) (P : ℕ → Bool) where
  one-more : (i : ℕ) → last_or None (filter P (path made (suc i))) ≡ (if P (suc i) then Some (suc i) else last_or None (filter P (path made (parent_at made (suc i)))))
  one-more i =
      let xs = path made (parent_at made (suc i)) in
      ap (λ p. last_or None (filter P p)) (path-step made falls i)
      ∙ ap (last_or None) (filter-append P xs (suc i ∷ []))
      ∙ by xs (P (suc i))
    where
      by : (xs : List ℕ) (b : Bool) → last_or None (filter P xs ++ cond b (suc i ∷ []) []) ≡ (if b then Some (suc i) else last_or None (filter P xs))
      by xs true = last_or-push None (filter P xs) (suc i)
      by xs false = ap (last_or None) (append-nil (filter P xs))

  among-up : (i q : ℕ) → among (path made (parent_at made (suc i))) q ≡ true → among (path made (suc i)) q ≡ true
  among-up i q on = among-step made falls i q ∙ ap (λ b. b || (suc i == q || false)) on

  last-found : (m : ℕ) → P m ≡ true → (at : ℕ) → among (path made at) m ≡ true → ((k : ℕ) → among (path made at) k ≡ true → P k ≡ true → k ≤ m)
      → last_or None (filter P (path made at)) ≡ Some m
  last-found m passes at =
      by_parents made falls (λ at. among (path made at) m ≡ true → ((k : ℕ) → among (path made at) k ≡ true → P k ≡ true → k ≤ m) → last_or None (filter P (path made at)) ≡ Some m) base step_up at
    where
      base : among (path made 0) m ≡ true → ((k : ℕ) → among (path made 0) k ≡ true → P k ≡ true → k ≤ m) → last_or None (filter P (path made 0)) ≡ Some m
      base on most = absurd (true≢false (sym on ∙ ap (λ p. among p m) (path-opening made)))

      step_up : (i : ℕ) → (among (path made (parent_at made (suc i))) m ≡ true → ((k : ℕ) → among (path made (parent_at made (suc i))) k ≡ true → P k ≡ true → k ≤ m) → last_or None (filter P (path made (parent_at made (suc i)))) ≡ Some m)
          → among (path made (suc i)) m ≡ true → ((k : ℕ) → among (path made (suc i)) k ≡ true → P k ≡ true → k ≤ m) → last_or None (filter P (path made (suc i))) ≡ Some m
      step_up i rest on most = by (P (suc i)) refl
        where
          by : (b : Bool) → P (suc i) ≡ b → last_or None (filter P (path made (suc i))) ≡ Some m
          by true e =
              let same : suc i ≡ m = omega (arith, most (suc i) (among-self made falls i) e, among-early made falls (suc i) m on) in
              one-more i ∙ ap (λ b. if b then Some (suc i) else last_or None (filter P (path made (parent_at made (suc i))))) e ∙ ap Some same
          by false e =
              let apart : m ≡ suc i → ⊥ = λ same. true≢false (sym passes ∙ ap P same ∙ e) in
              one-more i ∙ ap (λ b. if b then Some (suc i) else last_or None (filter P (path made (parent_at made (suc i))))) e
              ∙ rest (sym (among-other made falls i m apart) ∙ on) (λ k up. most k (among-up i k up))

  last-none : (at : ℕ) → ((k : ℕ) → among (path made at) k ≡ true → P k ≡ false) → last_or None (filter P (path made at)) ≡ None
  last-none at =
      by_parents made falls (λ at. ((k : ℕ) → among (path made at) k ≡ true → P k ≡ false) → last_or None (filter P (path made at)) ≡ None) base step_up at
    where
      base : ((k : ℕ) → among (path made 0) k ≡ true → P k ≡ false) → last_or None (filter P (path made 0)) ≡ None
      base none = ap (λ p. last_or None (filter P p)) (path-opening made)

      step_up : (i : ℕ) → (((k : ℕ) → among (path made (parent_at made (suc i))) k ≡ true → P k ≡ false) → last_or None (filter P (path made (parent_at made (suc i)))) ≡ None)
          → ((k : ℕ) → among (path made (suc i)) k ≡ true → P k ≡ false) → last_or None (filter P (path made (suc i))) ≡ None
      step_up i rest none =
          one-more i ∙ ap (λ b. if b then Some (suc i) else last_or None (filter P (path made (parent_at made (suc i))))) (none (suc i) (among-self made falls i))
          ∙ rest (λ k up. none k (among-up i k up))

module _ (made : List Made) (stand : AreMoments made) (what : Sought) (x at : ℕ) (within : at ≤ length made) where
  abbrev P : ℕ → Bool
  P = happens_at what x made

  typed : AreTyped made
  typed m low = (moment-consistent made stand m low).sound.typed

  -- what is found tells of the moment
  found-parts : (n : ChangeNote) → is_found made what x at n ≡ true → (n.koid ≡ x) × (tells what n ≡ true) × (among (path made at) n.moment ≡ true)
  found-parts n e = by (n.koid == x) (tells what n) (among (path made at) n.moment) refl refl refl e
    where
      by : (a b c : Bool) → (n.koid == x) ≡ a → tells what n ≡ b → among (path made at) n.moment ≡ c → (a && (b && c)) ≡ true → (n.koid ≡ x) × (tells what n ≡ true) × (among (path made at) n.moment ≡ true)
      by true true true p q r e = (eqb-true n.koid x p, q, r)
      by true true false p q r e = absurd (true≢false (sym e))
      by true false c p q r e = absurd (true≢false (sym e))
      by false b c p q r e = absurd (true≢false (sym e))

  found-whole : (n : ChangeNote) → n.koid ≡ x → tells what n ≡ true → among (path made at) n.moment ≡ true → is_found made what x at n ≡ true
  found-whole n koid told on = (λ j. (eq-eqb n.koid x koid j) && (told j && on j))

  -- a moment on the path is none but the opening's successors
  some-on : (m : ℕ) → among (path made at) m ≡ true → 0 < m
  some-on zero on = absurd (true≢false (sym on ∙ none at))
    where
      none : (at : ℕ) → among (path made at) 0 ≡ false
      none = by_parents made stand.falls (λ at. among (path made at) 0 ≡ false) (ap (λ p. among p 0) (path-opening made)) (λ i rest. among-other made stand.falls i 0 (λ e. omega (arith, e)) ∙ rest)
  some-on (suc m) on = omega arith

  noted-on : (notes : List ChangeNote) → notes ≡ notes_to made (length made) → (m : ℕ) → among (path made at) m ≡ true → P m ≡ true
      → (i : ℕ) × (n : ChangeNote) × (slice_get notes i ≡ Some n) × (n.moment ≡ m) × (is_found made what x at n ≡ true)
  noted-on notes are m on e =
      let low : m ≤ length made = omega (arith, among-early made stand.falls at m on, within) in
      let t = to-there made stand.falls typed (length made) m x what (omega arith) (some-on m on) low e in
      (t.0, t.1, ap (λ notes. slice_get notes t.0) are ∙ t.2, t.4, found-whole t.1 t.3 t.5 (ap (among (path made at)) t.4 ∙ on))

  pub tells-happening : (notes : List ChangeNote) → notes ≡ notes_to made (length made) → (result : Option ℕ) → TellsLast notes made what x at result → result ≡ last_happening what x made at
  tells-happening notes are (Some m) is =
      let parts = found-parts is.note is.found in
      let true_note = to-in made (length made) is.place is.note (ap (λ notes. slice_get notes is.place) (sym are) ∙ is.there) in
      let passes : P m ≡ true = (λ j. happens_at what (sym parts.0 j) made (sym is.at_moment j)) ∙ true_note.true_of what parts.1 in
      let on : among (path made at) m ≡ true = ap (among (path made at)) (sym is.at_moment) ∙ parts.2 in
      let most : (k : ℕ) → among (path made at) k ≡ true → P k ≡ true → k ≤ m = λ k up e.
      let t = noted-on notes are k up e in
      elim (cases_lt is.place t.0) [
        | inl l ↦ absurd (true≢false (sym t.4 ∙ is.last t.0 t.1 (omega (arith, l)) t.2))
        | inr h ↦
            let rising = subst AreRising (sym are) (to-rising made (length made)) in
            omega (arith, rising.later t.0 is.place t.1 is.note h t.2 is.there, t.3, is.at_moment)
      ] in
      sym (last-found made stand.falls P m passes at on most)
  tells-happening notes are None none =
      sym (last-none made stand.falls P at (λ k up. by k up (P k) refl))
    where
      by : (k : ℕ) → among (path made at) k ≡ true → (b : Bool) → P k ≡ b → P k ≡ false
      by k up true e = let t = noted-on notes are k up e in absurd (true≢false (sym t.4 ∙ none t.0 t.1 (omega arith) t.2))
      by k up false e = e

-- those that are asked for

pub last-shown : (what : RowHappening) (x : ℕ) (made : List Made) (at : ℕ) → last_happening (sought.Shown what) x made at ≡ last_shown what x made at
unfolding last_shown
last-shown what x made at = refl

pub last-released : (x : ℕ) (made : List Made) (at : ℕ) → last_happening sought.Released x made at ≡ last_released x made at
unfolding last_released
last-released x made at = refl

pub last-lost_child : (x : ℕ) (made : List Made) (at : ℕ) → last_happening sought.LostChild x made at ≡ last_lost_child x made at
unfolding last_lost_child
last-lost_child x made at = refl
