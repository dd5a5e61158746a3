-- What is noted of names and live children that an object loses: of each row that stood for it before a call and does not after,
-- and of no other object.
use Rattle.std.proofs.Common.{◌≡◌, ℕ, zero, suc, ◌+◌, Bool, true, false, not, ◌&&◌, ◌||◌, List, [], ◌∷◌, length, ◌-◌, Option, Some, None, refl, sym, ◌∙◌, ap, inl, inr}
use Rattle.std.specs.Prelude.{◌==◌, if◌then◌else◌, slice_get}
use Rattle.std.specs.List.{list_any}
use Rattle.std.proofs.lemmas.Bool.{eqb-true, eq-eqb, true≢false}
use Rattle.std.proofs.lemmas.Option.{none-some, same_Some, slice_get_within}
use Rattle.zt_rows.specs.declared.keys.RowKey.{RowKey}
use Rattle.zt_rows.specs.declared.keys.RowKey.TheVariants as key
use Rattle.zt_rows.specs.declared.rows.Held.{Held}
use Rattle.zt_rows.specs.declared.rows.ObjectRow.{ObjectRow}
use Rattle.zt_rows.specs.declared.rows.Row.{Row}
use Rattle.zt_rows.specs.declared.rows.Row.TheVariants as rows
use Rattle.zt_rows.specs.Change.{differ_at}
use Rattle.zt_rows.specs.Reads.{is_live_job, is_live_process, names}
use Rattle.zt_rows.specs.Room.{suits}
use Rattle.zt_rows.specs.State.{State, row}
use Rattle.zt_rows.specs.Tests.{any_row, exists}
use Rattle.zt_rows.proofs.ChangeLaws.{same_where_not_differ}
use Rattle.zt_rows.proofs.RowLaws.{and_both, and_left, and_right, any_row-at, at-any_row, or_left, or_right, or_true}
use Rattle.zt_history.specs.declared.object_notes.Noted.{Noted}
use Rattle.zt_history.specs.declared.object_notes.Noted.TheVariants as did
use Rattle.zt_history.specs.Losses.{loses}
use Rattle.zt_history.specs.LostChild.{is_child_row}
use Rattle.zt_history.specs.ProofsOnly.ObjectNotes.{ChangeNote, gone_name, gone_names, gone_of, is_left, is_released, is_lost, loss_of, lost_by, lost_child, note_before, note_if, note_of, note_with}
use Rattle.zt_history.proofs.ListLaws.{either, get-left, get-right}

-- each row is of its key's variant
abbrev pub IsTyped : State → Type 0
IsTyped S = (k : RowKey) (r : Row) → row S k ≡ Some r → suits k r ≡ true

-- ---- a note that is made where something happened

module _ (m x : ℕ) (what : Noted) where
  pub if-in : (b : Bool) (i : ℕ) (n : ChangeNote) → slice_get (note_if b m x what) i ≡ Some n → (note_with m x what ≡ n) × (b ≡ true)
  if-in true zero n at = (same_Some (note_with m x what) n at, refl)
  if-in true (suc i) n at = absurd (none-some n at)
  if-in false i n at = absurd (none-some n at)

  pub if-there : (b : Bool) → b ≡ true → slice_get (note_if b m x what) 0 ≡ Some (note_with m x what)
  if-there b happened = ap (λ b. slice_get (note_if b m x what) 0) happened

-- ---- rows that stand for an object by some test

module _ (stands : ℕ → Option Row → Bool) where
  -- it is noted of an object for which the row r stood, and s does not
  pub record IsLoss (what : Noted) (m : ℕ) (s : Option Row) (T : State) (r : Option Row) (n : ChangeNote) : Type 0 where
    pub koid : ℕ
    pub is : note_with m koid what ≡ n
    pub left : is_left stands koid s T ≡ true
    pub stood : stands koid r ≡ true

  module _ (S T : State) where
    abbrev passes : ℕ → RowKey → Row → Bool
    passes x k r = stands x (Some r) && not (stands x (row T k))

    pub loses-at : (x : ℕ) (k : RowKey) → stands x None ≡ false → stands x (row S k) ≡ true → is_left stands x (row T k) T ≡ true → loses stands x S T ≡ true
    unfolding any_row
    loses-at x k none stood left = by (row S k) refl stood
      where
        by : (r : Option Row) → row S k ≡ r → stands x r ≡ true → loses stands x S T ≡ true
        by None at stood = absurd (true≢false (sym stood ∙ none))
        by (Some r) at stood =
            and_both (exists T x) (list_any (λ e. passes x e.0 e.1) S.rows) (and_left (exists T x) (not (stands x (row T k))) left)
            (any_row-at (passes x) S k r at (and_both (stands x (Some r)) (not (stands x (row T k))) stood (and_right (exists T x) (not (stands x (row T k))) left)))

    pub at-loses : (x : ℕ) → loses stands x S T ≡ true → (k : RowKey) × (stands x (row S k) ≡ true) × (is_left stands x (row T k) T ≡ true)
    unfolding any_row
    at-loses x e =
        let there = at-any_row (passes x) S (and_right (exists T x) (list_any (λ e. passes x e.0 e.1) S.rows) e) in
        let k : RowKey = there.0 in (
          k,
          ap (stands x) there.2 ∙ and_left (stands x (Some there.1)) (not (stands x (row T k))) there.3,
          and_both (exists T x) (not (stands x (row T k))) (and_left (exists T x) (list_any (λ e. passes x e.0 e.1) S.rows) e)
              (and_right (stands x (Some there.1)) (not (stands x (row T k))) there.3),
        )

    -- where a row stood for it that does not any more the rows differ
    pub differ-lost : (x : ℕ) (k : RowKey) → stands x (row S k) ≡ true → is_left stands x (row T k) T ≡ true → differ_at S T k ≡ true
    differ-lost x k stood left = by (differ_at S T k) refl
      where
        by : (b : Bool) → differ_at S T k ≡ b → differ_at S T k ≡ true
        by true is = is
        by false is =
            let still : stands x (row T k) ≡ true = ap (stands x) (sym (same_where_not_differ S T k is)) ∙ stood in
            absurd (true≢false (sym (and_right (exists T x) (not (stands x (row T k))) left) ∙ ap not still))

-- ---- what is noted of what one row named

module _ (m : ℕ) (s : Option Row) (T : State) where
  names-in : (handles : List Held) (i : ℕ) (n : ChangeNote) → slice_get (gone_names m s T handles) i ≡ Some n
      → (x : ℕ) × (note_with m x did.Released ≡ n) × (is_released x s T ≡ true) × (list_any (λ (held : Held). held.koid == x) handles ≡ true)
  names-in [] i n at = absurd (none-some n at)
  names-in (h ∷ handles) i n at = elim (either (gone_name m s T h.koid) (gone_names m s T handles) i n at) [
    | inl here ↦
        let its = if-in m h.koid did.Released (is_released h.koid s T) i n here in
        (h.koid, its.0, its.1, or_left (h.koid == h.koid) (list_any (λ (held : Held). held.koid == h.koid) handles) (eq-eqb h.koid h.koid refl))
    | inr there ↦
        let rest = names-in handles (i - length (gone_name m s T h.koid)) n there in
        (rest.0, rest.1, rest.2, or_right (h.koid == rest.0) (list_any (λ (held : Held). held.koid == rest.0) handles) rest.3)
  ]

  name-there : (x : ℕ) → is_released x s T ≡ true → slice_get (gone_name m s T x) 0 ≡ Some (note_with m x did.Released)
  name-there x left = if-there m x did.Released (is_released x s T) left

  names-there : (handles : List Held) (x : ℕ) → is_released x s T ≡ true → list_any (λ (held : Held). held.koid == x) handles ≡ true
      → (i : ℕ) × (slice_get (gone_names m s T handles) i ≡ Some (note_with m x did.Released))
  names-there [] x left named = absurd (true≢false (sym named))
  names-there (h ∷ handles) x left named = elim (or_true (h.koid == x) (list_any (λ (held : Held). held.koid == x) handles) named) [
    | inl here ↦
        let same : x ≡ h.koid = sym (eqb-true h.koid x here) in
        let at : slice_get (gone_name m s T h.koid) 0 ≡ Some (note_with m x did.Released) = ap (λ y. slice_get (gone_name m s T y) 0) (sym same) ∙ name-there x left in
        (0, get-left (gone_name m s T h.koid) (gone_names m s T handles) 0 (slice_get_within (gone_name m s T h.koid) 0 (note_with m x did.Released) at) ∙ at)
    | inr there ↦
        let rest = names-there handles x left there in
        (length (gone_name m s T h.koid) + rest.0, get-right (gone_name m s T h.koid) (gone_names m s T handles) rest.0 ∙ rest.1)
  ]

  pub gone-in : (r : Option Row) (i : ℕ) (n : ChangeNote) → slice_get (gone_of m r s T) i ≡ Some n → IsLoss names did.Released m s T r n
  gone-in (Some (rows.Entry held)) i n at =
      let its = if-in m held.koid did.Released (is_released held.koid s T) i n at in
      record { koid = held.koid; is = its.0; left = its.1; stood = eq-eqb held.koid held.koid refl }
  gone-in (Some (rows.Msg sent)) i n at =
      let its = names-in sent.handles i n at in
      record { koid = its.0; is = its.1; left = its.2; stood = its.3 }
  gone-in (Some (rows.Counters _)) i n at = absurd (none-some n at)
  gone-in (Some (rows.Object _)) i n at = absurd (none-some n at)
  gone-in (Some (rows.Packet _)) i n at = absurd (none-some n at)
  gone-in (Some (rows.Wait _)) i n at = absurd (none-some n at)
  gone-in None i n at = absurd (none-some n at)

  gone-there : (r : Option Row) (x : ℕ) → is_released x s T ≡ true → names x r ≡ true → (i : ℕ) × (slice_get (gone_of m r s T) i ≡ Some (note_with m x did.Released))
  gone-there (Some (rows.Entry held)) x left named =
      let same : x ≡ held.koid = sym (eqb-true held.koid x named) in
      (0, ap (λ y. slice_get (gone_name m s T y) 0) (sym same) ∙ name-there x left)
  gone-there (Some (rows.Msg sent)) x left named = names-there sent.handles x left named
  gone-there (Some (rows.Counters _)) x left named = absurd (true≢false (sym named))
  gone-there (Some (rows.Object _)) x left named = absurd (true≢false (sym named))
  gone-there (Some (rows.Packet _)) x left named = absurd (true≢false (sym named))
  gone-there (Some (rows.Wait _)) x left named = absurd (true≢false (sym named))
  gone-there None x left named = absurd (true≢false (sym named))

  -- ---- and of the parent of what stood in it

  pub loss-in : (r : Option Row) (i : ℕ) (n : ChangeNote) → slice_get (loss_of m r s T) i ≡ Some n → IsLoss is_child_row did.LostChild m s T r n
  loss-in (Some (rows.Object o)) i n at = by (is_live_job o || is_live_process o) refl at
    where
      by : (b : Bool) → (is_live_job o || is_live_process o) ≡ b → slice_get (lost_by m s T (if b then Some o.link else None)) i ≡ Some n
          → IsLoss is_child_row did.LostChild m s T (Some (rows.Object o)) n
      by true is at =
          let its = if-in m o.link did.LostChild (is_lost o.link s T) i n at in
          let child : is_child_row o.link (Some (rows.Object o)) ≡ true = and_both (is_live_job o || is_live_process o) (o.link == o.link) is (eq-eqb o.link o.link refl) in
          record { koid = o.link; is = its.0; left = its.1; stood = child }
      by false is at = absurd (none-some n at)
  loss-in (Some (rows.Counters _)) i n at = absurd (none-some n at)
  loss-in (Some (rows.Entry _)) i n at = absurd (none-some n at)
  loss-in (Some (rows.Msg _)) i n at = absurd (none-some n at)
  loss-in (Some (rows.Packet _)) i n at = absurd (none-some n at)
  loss-in (Some (rows.Wait _)) i n at = absurd (none-some n at)
  loss-in None i n at = absurd (none-some n at)

  loss-there : (r : Option Row) (x : ℕ) → is_lost x s T ≡ true → is_child_row x r ≡ true → slice_get (loss_of m r s T) 0 ≡ Some (note_with m x did.LostChild)
  loss-there (Some (rows.Object o)) x left child =
      let task : (is_live_job o || is_live_process o) ≡ true = and_left (is_live_job o || is_live_process o) (o.link == x) child in
      let same : o.link ≡ x = eqb-true o.link x (and_right (is_live_job o || is_live_process o) (o.link == x) child) in
      ap (λ b. slice_get (lost_by m s T (if b then Some o.link else None)) 0) task
      ∙ ap (λ y. slice_get (lost_child m s T y) 0) same ∙ if-there m x did.LostChild (is_lost x s T) left
  loss-there (Some (rows.Counters _)) x left child = absurd (true≢false (sym child))
  loss-there (Some (rows.Entry _)) x left child = absurd (true≢false (sym child))
  loss-there (Some (rows.Msg _)) x left child = absurd (true≢false (sym child))
  loss-there (Some (rows.Packet _)) x left child = absurd (true≢false (sym child))
  loss-there (Some (rows.Wait _)) x left child = absurd (true≢false (sym child))
  loss-there None x left child = absurd (true≢false (sym child))

-- ---- under which key

-- no object's row names another
typed-object : (S : State) → IsTyped S → (x y : ℕ) → names x (row S (key.Object y)) ≡ false
typed-object S typed x y = by (row S (key.Object y)) refl
  where
    by : (r : Option Row) → row S (key.Object y) ≡ r → names x r ≡ false
    by None at = refl
    by (Some (rows.Entry held)) at = absurd (true≢false (sym (typed (key.Object y) (rows.Entry held) at)))
    by (Some (rows.Msg sent)) at = absurd (true≢false (sym (typed (key.Object y) (rows.Msg sent) at)))
    by (Some (rows.Counters _)) at = refl
    by (Some (rows.Object _)) at = refl
    by (Some (rows.Packet _)) at = refl
    by (Some (rows.Wait _)) at = refl

-- it is noted under the key where the name went
pub before-there : (m : ℕ) (S T : State) → IsTyped S → (x : ℕ) (k : RowKey) → names x (row S k) ≡ true → is_released x (row T k) T ≡ true
    → (i : ℕ) × (slice_get (note_before m (row S k) T k) i ≡ Some (note_with m x did.Released))
before-there m S T typed x (key.Object y) named left = absurd (true≢false (sym named ∙ typed-object S typed x y))
before-there m S T typed x key.Counters named left = gone-there m (row T key.Counters) T (row S key.Counters) x left named
before-there m S T typed x (key.Entry p h) named left = gone-there m (row T (key.Entry p h)) T (row S (key.Entry p h)) x left named
before-there m S T typed x (key.Msg e n) named left = gone-there m (row T (key.Msg e n)) T (row S (key.Msg e n)) x left named
before-there m S T typed x (key.Packet p n) named left = gone-there m (row T (key.Packet p n)) T (row S (key.Packet p n)) x left named
before-there m S T typed x (key.Wait n) named left = gone-there m (row T (key.Wait n)) T (row S (key.Wait n)) x left named

-- only an object's row is that of a child
typed-other : (S : State) → IsTyped S → (x : ℕ) (k : RowKey) → ((o : ObjectRow) → suits k (rows.Object o) ≡ false) → is_child_row x (row S k) ≡ false
typed-other S typed x k other = by (row S k) refl
  where
    by : (r : Option Row) → row S k ≡ r → is_child_row x r ≡ false
    by None at = refl
    by (Some (rows.Object o)) at = absurd (true≢false (sym (typed k (rows.Object o) at) ∙ other o))
    by (Some (rows.Counters _)) at = refl
    by (Some (rows.Entry _)) at = refl
    by (Some (rows.Msg _)) at = refl
    by (Some (rows.Packet _)) at = refl
    by (Some (rows.Wait _)) at = refl

-- it is noted under the key where the child stood
pub before-lost : (m : ℕ) (S T : State) → IsTyped S → (x : ℕ) (k : RowKey) → is_child_row x (row S k) ≡ true → is_lost x (row T k) T ≡ true
    → (i : ℕ) × (slice_get (note_before m (row S k) T k) i ≡ Some (note_with m x did.LostChild))
before-lost m S T typed x (key.Object y) child left =
    let r = row S (key.Object y) in
    let s = row T (key.Object y) in
    (length (note_of m y r s) + 0, get-right (note_of m y r s) (loss_of m r s T) 0 ∙ loss-there m s T r x left child)
before-lost m S T typed x key.Counters child left = absurd (true≢false (sym child ∙ typed-other S typed x key.Counters (λ o. refl)))
before-lost m S T typed x (key.Entry p h) child left = absurd (true≢false (sym child ∙ typed-other S typed x (key.Entry p h) (λ o. refl)))
before-lost m S T typed x (key.Msg e n) child left = absurd (true≢false (sym child ∙ typed-other S typed x (key.Msg e n) (λ o. refl)))
before-lost m S T typed x (key.Packet p n) child left = absurd (true≢false (sym child ∙ typed-other S typed x (key.Packet p n) (λ o. refl)))
before-lost m S T typed x (key.Wait n) child left = absurd (true≢false (sym child ∙ typed-other S typed x (key.Wait n) (λ o. refl)))
