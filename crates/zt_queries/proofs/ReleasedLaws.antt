-- An object that is neither a job nor a process that runs, and that nothing names but messages at endpoints of which the same
-- holds, was leaked by the last call by which one of these lost a name or the object ended.
use Rattle.std.proofs.Common.{◌≡◌, ◌≤◌, ◌<◌, ℕ, zero, suc, Bool, true, false, cond, not, ◌&&◌, List, [], ◌∷◌, ◌++◌, fold, max, length, ◌⊎◌, inl, inr, refl, sym, ap, ◌∙◌, subst, arith, append-nil}
use Rattle.std.specs.Prelude.{Option, None, Some, ◌==◌, filter, if◌then◌else◌}
use Rattle.std.specs.List.{last_or, list_any}
use Rattle.std.proofs.lemmas.Bool.{cases_lt, eq-eqb}
use Rattle.std.proofs.lemmas.List.Elements.{filter-append}
use Rattle.zt_rows.specs.declared.calls.Happening.TheVariants as happening
use Rattle.zt_rows.specs.declared.keys.RowKey.{RowKey}
use Rattle.zt_rows.specs.declared.keys.RowKey.TheVariants as key
use Rattle.zt_rows.specs.declared.rows.Held.{Held}
use Rattle.zt_rows.specs.Contents.{MessageContent}
use Rattle.zt_rows.specs.State.{State, row}
use Rattle.zt_rows.specs.Reads.{entry, message, names}
use Rattle.zt_rows.specs.Tests.{among, exists}
use Rattle.zt_rows.specs.Handles.{next_koid}
use Rattle.zt_rows.specs.Support.{root_job}
use Rattle.zt_rows.specs.Consistent.{IsConsistent}
use Rattle.zt_rows.proofs.RowLaws.{In, list_any-in, in-list_any, or_left, or_right, and_left, and_right, and_both, true≢false, not_true}
use Rattle.zt_rows.proofs.ReadLaws.{some_one, some-exists, entry-row}
use Rattle.zt_history.specs.TreeInvariant.{AreMoments, Falls}
use Rattle.zt_history.specs.Tree.{Made, parent_at, path, state_at}
use Rattle.zt_history.proofs.PathLaws.{path-opening, path-step, by_parents, among-self, among-other, among-early}
use Rattle.zt_history.proofs.RunLaws.{made-there, parent-within, moment-consistent}
use Rattle.zt_queries.specs.Happenings.{leaked, IsCallStep}
use Rattle.zt_queries.specs.HappeningTimes.{at_moment, happens, last_on}
use Rattle.zt_queries.specs.Leaks.{is_leaked}
use Rattle.zt_queries.specs.Reachability.{reached, HoldsAllNamed}
use Rattle.zt_history.specs.Released.{releases_at, last_released}
use Rattle.zt_history.specs.LostChild.{is_child_row}
use Rattle.zt_history.specs.RowHappenings.{shows_at, last_shown}
use Rattle.zt_history.specs.declared.row_happenings.RowHappening.TheVariants as turn
use Rattle.zt_queries.specs.ProofsOnly.NameSearch.{stands_passive, waits_at, HoldsEndpoints, HoldsChildren, AreAbove, IsNameSearch, later, last_of_names, last_of_all, IsLastOfNames}
use Rattle.zt_queries.proofs.ReachLaws.{among-in, in-among, in-all, reached-least}
use Rattle.zt_queries.proofs.FollowLaws.{low-koid}
use Rattle.zt_queries.proofs.OnceLaws.{exists-old, given-stays, has_leaked, leaked-begins, leaked-goes-on, next-follows}
use Rattle.zt_queries.proofs.StayLaws.{all-on, begun, earlier-on, kept-on, on-child, on-parent}
use Rattle.zt_queries.proofs.TreeTimes.{among-filter, filter-among, next-made, once}
use Rattle.zt_queries.proofs.FirstLeakLaws.{one-last}
use Rattle.zt_queries.proofs.LeakLaws.{Lost, leaked-lost}
use Rattle.zt_queries.proofs.ChildLaws.{child-came, child-leaked}
use Rattle.zt_queries.proofs.NameLaws.{NamedBy, in_entry, in_message, named-by, message-names, out-named, endpoint-leaked, child-object, object-child, lets-none, none-lets, out-stays, out-came, out-goes-on, passive-leaked, stands_no_job, no_job-exists, passive-no_job, no_job-was, no_job-before, leaked-no-end}

-- ---- what is above a leaked object is leaked with it

pub holds-endpoints : (S : State) → IsConsistent S → HoldsEndpoints S (is_leaked S)
holds-endpoints S c e n y named leaks = endpoint-leaked S c e n y named (leaked-lost S y leaks).unreached

pub holds-children : (S : State) → IsConsistent S → HoldsChildren S (is_leaked S)
holds-children S c z y child leaks = let w = child-object S y z child in (child-leaked S c y z w.0 leaks w.1 w.2 w.3).0

pub above-leaked : (S : State) → IsConsistent S → (x : ℕ) (ends : List ℕ) → AreAbove S x ends → (y : ℕ) → among ends y ≡ true → is_leaked S x ≡ true → is_leaked S y ≡ true
above-leaked S c x ends above y there leaks = above (is_leaked S) (holds-endpoints S c) (holds-children S c) leaks y there

-- ---- the last of a list

last_or-push : (o : Option ℕ) (xs : List ℕ) (y : ℕ) → last_or o (xs ++ y ∷ []) ≡ Some y
last_or-push o [] y = refl
last_or-push o (x ∷ xs) y = last_or-push (Some x) xs y

pub none_is : (r : ℕ) {A : Type 0} → ◌≡◌ {A = Option ℕ} None (Some r) → A
none_is r e = cc

module _ (made : List Made) (falls : Falls made) (P : ℕ → Bool) where
  one-more : (i : ℕ) → last_or None (filter P (path made (suc i))) ≡ (if P (suc i) then Some (suc i) else last_or None (filter P (path made (parent_at made (suc i)))))
  one-more i =
      let xs = path made (parent_at made (suc i)) in
      ap (λ p. last_or None (filter P p)) (path-step made falls i)
      ∙ ap (last_or None) (filter-append P xs (suc i ∷ []))
      ∙ by xs (P (suc i))
    where
      by : (xs : List ℕ) (b : Bool) → last_or None (filter P xs ++ cond b (suc i ∷ []) []) ≡ (if b then Some (suc i) else last_or None (filter P xs))
      by xs true = last_or-push None (filter P xs) (suc i)
      by xs false = ap (last_or None) (append-nil (filter P xs))

  -- what passes, and is not before another that does, is the last
  pub last-found : (m : ℕ) → P m ≡ true → (at : ℕ) → among (path made at) m ≡ true → ((k : ℕ) → among (path made at) k ≡ true → P k ≡ true → k ≤ m)
      → last_or None (filter P (path made at)) ≡ Some m
  last-found m passes =
      by_parents made falls (λ at. among (path made at) m ≡ true → ((k : ℕ) → among (path made at) k ≡ true → P k ≡ true → k ≤ m) → last_or None (filter P (path made at)) ≡ Some m) base step_up
    where
      base : among (path made 0) m ≡ true → ((k : ℕ) → among (path made 0) k ≡ true → P k ≡ true → k ≤ m) → last_or None (filter P (path made 0)) ≡ Some m
      base on most = absurd (true≢false (among (path made 0) m) on (ap (λ p. among p m) (path-opening made)))

      step_up : (i : ℕ) → (among (path made (parent_at made (suc i))) m ≡ true → ((k : ℕ) → among (path made (parent_at made (suc i))) k ≡ true → P k ≡ true → k ≤ m) → last_or None (filter P (path made (parent_at made (suc i)))) ≡ Some m)
          → among (path made (suc i)) m ≡ true → ((k : ℕ) → among (path made (suc i)) k ≡ true → P k ≡ true → k ≤ m) → last_or None (filter P (path made (suc i))) ≡ Some m
      step_up i rest on most = by (P (suc i)) refl
        where
          by : (b : Bool) → P (suc i) ≡ b → last_or None (filter P (path made (suc i))) ≡ Some m
          by true e =
              let same : suc i ≡ m = omega (arith, most (suc i) (among-self made falls i) e, among-early made falls (suc i) m on) in
              one-more i ∙ ap (λ b. if b then Some (suc i) else last_or None (filter P (path made (parent_at made (suc i))))) e ∙ ap Some same
          by false e =
              let apart : m ≡ suc i → ⊥ = λ same. true≢false (P m) passes (ap P same ∙ e) in
              one-more i ∙ ap (λ b. if b then Some (suc i) else last_or None (filter P (path made (parent_at made (suc i))))) e
              ∙ rest (sym (among-other made falls i m apart) ∙ on) (λ k up. most k (on-child made falls i k up))

last_or-among : (o : Option ℕ) (xs : List ℕ) (r : ℕ) → last_or o xs ≡ Some r → (o ≡ Some r) ⊎ (among xs r ≡ true)
last_or-among o [] r e = inl e
last_or-among o (x ∷ xs) r e = elim (last_or-among (Some x) xs r e) [
  | inl same ↦ inr (or_left (x == r) _ (eq-eqb x r (some_one x r same)))
  | inr l ↦ inr (or_right (x == r) _ l)
]

pub last-among : (xs : List ℕ) (r : ℕ) → last_or None xs ≡ Some r → among xs r ≡ true
last-among xs r e = elim (last_or-among None xs r e) [ inl n ↦ none_is r n | inr l ↦ l ]

-- ---- the latest of some moments

by_both : (q : ℕ) (a b : Option ℕ) → ((r : ℕ) → a ≡ Some r → r ≤ q) → ((r : ℕ) → b ≡ Some r → r ≤ q) → (r : ℕ) → later a b ≡ Some r → r ≤ q
by_both q None b f g r e = g r e
by_both q (Some m) None f g r e = f r e
by_both q (Some m) (Some n) f g r e = let same : max m n ≡ r = some_one (max m n) r e in omega (arith, same, f m refl, g n refl)

pub later-first : (q : ℕ) (a b : Option ℕ) → a ≡ Some q → ((r : ℕ) → b ≡ Some r → r ≤ q) → later a b ≡ Some q
later-first q a None e g = ap (λ o. later o None) e
later-first q a (Some n) e g = ap (λ o. later o (Some n)) e ∙ ap Some (omega (arith, g n refl))

pub later-second : (q : ℕ) (a b : Option ℕ) → b ≡ Some q → ((r : ℕ) → a ≡ Some r → r ≤ q) → later a b ≡ Some q
later-second q None b e f = e
later-second q (Some m) b e f = ap (later (Some m)) e ∙ ap Some (omega (arith, f m refl))

-- where none is behind q, and q is one of them, it is the latest
pub latest : (f : ℕ → Option ℕ) (q : ℕ) (ys : List ℕ) → ((y : ℕ) → In y ys → (r : ℕ) → f y ≡ Some r → r ≤ q) → (best : Option ℕ) → ((r : ℕ) → best ≡ Some r → r ≤ q)
    → (best ≡ Some q) ⊎ ((y : ℕ) × In y ys × (f y ≡ Some q)) → fold (λ b y. later b (f y)) best ys ≡ Some q
latest f q [] low best up (inl e) = e
latest f q [] low best up (inr w) = absurd w.1
latest f q (y ∷ ys) low best up (inl e) =
    latest f q ys (λ z m. low z (inr m)) (later best (f y)) (by_both q best (f y) up (low y (inl refl))) (inl (later-first q best (f y) e (low y (inl refl))))
latest f q (y ∷ ys) low best up (inr w) =
    latest f q ys (λ z m. low z (inr m)) (later best (f y)) (by_both q best (f y) up (low y (inl refl))) (elim w.1 [
      | inl same ↦ inl (later-second q best (f y) (ap f (sym same) ∙ w.2) up)
      | inr m ↦ inr (w.0, m, w.2)
    ])

-- where none is behind q, the latest is not
pub all-low : (f : ℕ → Option ℕ) (q : ℕ) (ys : List ℕ) → ((y : ℕ) → In y ys → (r : ℕ) → f y ≡ Some r → r ≤ q) → (best : Option ℕ) → ((r : ℕ) → best ≡ Some r → r ≤ q)
    → (r : ℕ) → fold (λ b y. later b (f y)) best ys ≡ Some r → r ≤ q
all-low f q [] low best up r e = up r e
all-low f q (y ∷ ys) low best up r e = all-low f q ys (λ z m. low z (inr m)) (later best (f y)) (by_both q best (f y) up (low y (inl refl))) r e

-- ---- what is out of reach and was there

abbrev is_out : State → ℕ → Bool
is_out S y = exists S y && not (among (reached S) y)

out-unreached : (S : State) (y : ℕ) → is_out S y ≡ true → among (reached S) y ≡ false
out-unreached S y e = off (among (reached S) y) (and_right (exists S y) _ e)
  where
    off : (b : Bool) → not b ≡ true → b ≡ false
    off true e = cc
    off false e = refl

out-low : (S : State) (y : ℕ) → IsConsistent S → is_out S y ≡ true → y < next_koid S
out-low S y c e = low-koid S c.sound y (and_left (exists S y) _ e)

-- its koid was given out, and it is out of reach
abbrev away : ℕ → State → Type 0
away y S = (y < next_koid S) × (among (reached S) y ≡ false)

out-away : (S : State) (y : ℕ) → IsConsistent S → is_out S y ≡ true → away y S
out-away S y c e = (out-low S y c e, out-unreached S y e)

away-goes-on : (y : ℕ) (S T : State) → IsConsistent S → IsCallStep S T → away y S → away y T
away-goes-on y S T c n a = (given-stays S T y (next-follows S T c n) a.0, out-goes-on S T c n y a.0 a.1)

-- and what named it in the first state names it
abbrev still : State → ℕ → State → Type 0
still U y S = away y S × ((k : RowKey) → names y (row U k) ≡ true → names y (row S k) ≡ true)

still-goes-on : (U : State) (y : ℕ) (S T : State) → IsConsistent S → IsCallStep S T → still U y S → still U y T
still-goes-on U y S T c n s = (away-goes-on y S T c n s.0, λ k e. out-stays S T c n y s.0.1 k (s.1 k e))

-- and the messages that name it were there in the first state
abbrev came : State → ℕ → State → Type 0
came U y S = away y S × ((e l : ℕ) (m : MessageContent) (held : Held) → message S e l ≡ Some m → In held m.handles → held.koid ≡ y → message U e l ≡ Some m)

came-goes-on : (U : State) (y : ℕ) (S T : State) → IsConsistent S → IsCallStep S T → came U y S → came U y T
came-goes-on U y S T c n s =
    (away-goes-on y S T c n s.0, λ e l m held there h same. s.1 e l m held (out-came S T c n y s.0.1 e l m held there h same) h same)

-- it is out of reach, and its live child was so in the first state
abbrev child_came : State → ℕ → ℕ → State → Type 0
child_came U y z S = away y S × (is_child_row y (row S (key.Object z)) ≡ true → is_child_row y (row U (key.Object z)) ≡ true)

child_came-goes-on : (U : State) (y z : ℕ) → 0 < y → (S T : State) → IsConsistent S → IsCallStep S T → child_came U y z S → child_came U y z T
child_came-goes-on U y z some S T c n s = (
  away-goes-on y S T c n s.0,
  λ h.
      let r = child-object T y z h in
      let q = child-came S T c n y z r.0 some s.0.1 r.1 r.2 r.3 in
      s.1 (object-child S y z q.0 q.1 q.2 q.3),
)

pub some-koid : (S : State) → IsConsistent S → (y : ℕ) → exists S y ≡ true → 0 < y
some-koid S c y there =
    let w = some-exists S y there in
    let low : root_job ≤ y = (c.sound.of_objects y w.0 w.1).low in
    omega (arith, low)

-- what was given out and is there and no job was so in the first state
abbrev was_no_job : State → ℕ → State → Type 0
was_no_job U y S = (y < next_koid S) × (stands_no_job S y ≡ true → stands_no_job U y ≡ true)

was_no_job-goes-on : (U : State) (y : ℕ) (S T : State) → IsConsistent S → IsCallStep S T → was_no_job U y S → was_no_job U y T
was_no_job-goes-on U y S T c n s = (given-stays S T y (next-follows S T c n) s.0, λ p. s.1 (no_job-was S T c n y s.0 p))

-- what was given out and is there was so in the first state
abbrev pub was_there : State → ℕ → State → Type 0
was_there U y S = (y < next_koid S) × (exists S y ≡ true → exists U y ≡ true)

pub was_there-goes-on : (U : State) (y : ℕ) (S T : State) → IsConsistent S → IsCallStep S T → was_there U y S → was_there U y T
was_there-goes-on U y S T c n s = (given-stays S T y (next-follows S T c n) s.0, λ e. s.1 (exists-old S T y (next-follows S T c n) s.0 e))

-- ---- from one moment of a path on

module _ (made : List Made) (are : AreMoments made) (at x : ℕ) (within : at ≤ length made) (ends : List ℕ) (s : IsNameSearch (state_at made at) x ends) (there_now : exists (state_at made at) x ≡ true) where
  abbrev S : State
  S = state_at made at

  pub consistent : (q : ℕ) → among (path made at) q ≡ true → IsConsistent (state_at made q)
  consistent q on = moment-consistent made are q (omega (arith, among-early made are.falls at q on, within))

  pub last-consistent : IsConsistent S
  last-consistent = moment-consistent made are at within

  -- beside what a message names and is leaked since a moment, its endpoint was leaked at that moment
  holds-ends : (q : ℕ) → among (path made at) q ≡ true → HoldsEndpoints S (is_leaked (state_at made q))
  holds-ends q on e l y named leaks = by (named-by S last-consistent.sound y (key.Msg e l) named)
    where
      U : State
      U = state_at made q

      lost : Lost U y
      lost = leaked-lost U y leaks

      was : came U y S
      was = kept-on made are (came U y) (came-goes-on U y) q ((low-koid U (consistent q on).sound y lost.there, lost.unreached), λ f n m held there h same. there) at within on

      there_then : (f n : ℕ) (m : MessageContent) (held : Held) → message S f n ≡ Some m → In held m.handles → held.koid ≡ y → is_leaked U f ≡ true
      there_then f n m held there h same =
          endpoint-leaked U (consistent q on) f n y
          (subst (λ z. names z (row U (key.Msg f n)) ≡ true) same (message-names U f n m held (was.1 f n m held there h same) h)) lost.unreached

      by : NamedBy S (key.Msg e l) y → is_leaked U e ≡ true
      by (in_entry p h held is there same) = cc
      by (in_message f n m held is there h same) = subst (λ z. is_leaked U z ≡ true) (ap owner (sym is)) (there_then f n m held there h same)
        where
          owner : RowKey → ℕ
          owner (key.Msg g k) = g
          owner _ = 0

  -- and beside a job its live children
  holds-below : (q : ℕ) → among (path made at) q ≡ true → HoldsChildren S (is_leaked (state_at made q))
  holds-below q on z y child leaks =
      let w = child-object U y z (was.1 child) in
      (child-leaked U (consistent q on) y z w.0 leaks w.1 w.2 w.3).0
    where
      U : State
      U = state_at made q

      lost : Lost U y
      lost = leaked-lost U y leaks

      was : child_came U y z S
      was = kept-on made are (child_came U y z) (child_came-goes-on U y z (some-koid U (consistent q on) y lost.there)) q
          ((low-koid U (consistent q on).sound y lost.there, lost.unreached), λ h. h) at within on

  -- ---- the call by which it was leaked

  own : (m q : ℕ) → among (path made m) q ≡ true → among (path made m) m ≡ true
  own zero q on = absurd (true≢false (among (path made 0) q) on (ap (λ l. among l q) (path-opening made)))
  own (suc i) q on = among-self made are.falls i

  off : (b : Bool) → not b ≡ true → b ≡ false
  off true e = cc
  off false e = refl

  module _ (i : ℕ) (on : among (path made at) (suc i) ≡ true) (leaks : at_moment (leaked x) made (suc i) ≡ true) where
    abbrev P : State
    P = state_at made (parent_at made (suc i))

    abbrev T : State
    T = state_at made (suc i)

    there : suc i ≤ length made
    there = omega (arith, among-early made are.falls at (suc i) on, within)

    pub leaked-then : is_leaked T x ≡ true
    leaked-then = and_right (not (is_leaked P x)) (is_leaked T x) leaks

    pub leads : (m : ℕ) → among (path made at) m ≡ true → among (path made m) (suc i) ≡ true → has_leaked x (state_at made m)
    leads m on_m later =
        kept-on made are (has_leaked x) (λ S T c n p. leaked-goes-on S T x c n p) (suc i) (leaked-begins T x (consistent (suc i) on) leaked-then) m
        (omega (arith, among-early made are.falls at m on_m, within)) later

    no_job-then : stands_passive S x ≡ true → (m : ℕ) → among (path made at) m ≡ true → among (path made m) (suc i) ≡ true → stands_no_job (state_at made m) x ≡ true
    no_job-then passive m on_m later =
        (kept-on made are (was_no_job (state_at made m) x) (was_no_job-goes-on (state_at made m) x) m ((leads m on_m later).0, λ p. p) at within on_m).1 (passive-no_job S x passive)

    pub there-then : (m : ℕ) → among (path made at) m ≡ true → among (path made m) (suc i) ≡ true → exists (state_at made m) x ≡ true
    there-then m on_m later =
        (kept-on made are (was_there (state_at made m) x) (was_there-goes-on (state_at made m) x) m ((leads m on_m later).0, λ e. e) at within on_m).1 there_now

    -- from then on all of these are leaked
    pub all-leaked : (m : ℕ) → among (path made at) m ≡ true → among (path made m) (suc i) ≡ true → (y : ℕ) → among ends y ≡ true → is_leaked (state_at made m) y ≡ true
    all-leaked m on_m later y h =
        s.above (is_leaked (state_at made m)) (holds-ends m on_m) (holds-below m on_m) ((leads m on_m later).1 (there-then m on_m later)) y h

    pub all-out : (m : ℕ) → among (path made at) m ≡ true → among (path made m) (suc i) ≡ true → (y : ℕ) → among ends y ≡ true → is_out (state_at made m) y ≡ true
    all-out m on_m later y h =
        let lost = leaked-lost (state_at made m) y (all-leaked m on_m later y h) in
        and_both (exists (state_at made m) y) _ lost.there (ap not lost.unreached)

    -- ---- a later moment

    module _ (j : ℕ) (low : suc i < suc j) (on_r : among (path made at) (suc j) ≡ true) where
      abbrev pub up : ℕ
      up = parent_at made (suc j)

      pub later_on : among (path made (suc j)) (suc i) ≡ true
      later_on = earlier-on made are.falls (suc i) (suc j) (omega (arith, low)) at on on_r

      pub later_up : among (path made up) (suc i) ≡ true
      later_up = on-parent made are.falls j (suc i) low later_on

      pub on_up : among (path made at) up ≡ true
      on_up = all-on made are.falls up (suc j) (on-child made are.falls j up (own up (suc i) later_up)) at on_r

      pub steps_up : IsCallStep (state_at made up) (state_at made (suc j))
      steps_up =
          let inside : suc j ≤ length made = omega (arith, among-early made are.falls at (suc j) on_r, within) in
          let e = made-there made are j inside in
          next-made made are (leaked 0) j e.0 e.1

      -- none of them loses a name then
      none-then : (y : ℕ) → among ends y ≡ true → releases_at y made (suc j) ≡ false
      none-then y h =
          lets-none y (state_at made up) (state_at made (suc j))
          (out-stays (state_at made up) (state_at made (suc j)) (consistent up on_up) steps_up y (out-unreached (state_at made up) y (all-out up on_up later_up y h)))

      -- nor does the object end
      no-end-then : stands_passive S x ≡ true → shows_at turn.Ended x made (suc j) ≡ false
      no-end-then passive =
          leaked-no-end (state_at made up) (state_at made (suc j)) (consistent up on_up) steps_up x (no_job-then passive (suc j) on_r later_on)
          ((leads up on_up later_up).1 (there-then up on_up later_up))

    none-later : (r : ℕ) → among (path made at) r ≡ true → suc i < r → (y : ℕ) → among ends y ≡ true → releases_at y made r ≡ false
    none-later zero on_r low y h = absurd (omega (arith, low))
    none-later (suc j) on_r low y h = none-then j low on_r y h

    no-end-later : stands_passive S x ≡ true → (r : ℕ) → among (path made at) r ≡ true → suc i < r → shows_at turn.Ended x made r ≡ false
    no-end-later passive zero on_r low = absurd (omega (arith, low))
    no-end-later passive (suc j) on_r low = no-end-then j low on_r passive

    -- ---- one of them lost a name then, or the object ended

    pub itself : among (path made (suc i)) (suc i) ≡ true
    itself = among-self made are.falls i

    pub before : IsConsistent P
    before = moment-consistent made are (parent_at made (suc i)) (parent-within made are i there)

    pub steps : IsCallStep P T
    steps = let e = made-there made are i there in next-made made are (leaked 0) i e.0 e.1

    pub unleaked-before : is_leaked P x ≡ false
    unleaked-before = off (is_leaked P x) (and_left (not (is_leaked P x)) (is_leaked T x) leaks)

    abbrev pub others : ℕ → Bool
    others y = not (among ends y)

    no_member : (y : ℕ) → (among ends y ≡ true → ⊥) → others y ≡ true
    no_member y h = ap not (not_true (among ends y) h)

    module _ (none : (y : ℕ) → among ends y ≡ true → releases_at y made (suc i) ≡ false) where
      kept : (y : ℕ) → among ends y ≡ true → (k : RowKey) → names y (row P k) ≡ true → names y (row T k) ≡ true
      kept y h = none-lets y P T (none y h) (and_left (exists T y) _ (all-out (suc i) on itself y h))

      out-then : (y : ℕ) → among ends y ≡ true → among (reached T) y ≡ false
      out-then y h = out-unreached T y (all-out (suc i) on itself y h)

      no-entry : (p h : ℕ) (held : Held) → entry P p h ≡ Some held → among ends held.koid ≡ true → ⊥
      no-entry p h held e g =
          let named : names held.koid (row P (key.Entry p h)) ≡ true = ap (names held.koid) (entry-row P p h held e) ∙ eq-eqb held.koid held.koid refl in
          let w = out-named T (consistent (suc i) on).sound held.koid (out-then held.koid g) (key.Entry p h) (kept held.koid g (key.Entry p h) named) in
          let apart : key.Entry p h ≡ key.Msg w.0 w.1 = w.2 in
          cc

      at_member : (e l : ℕ) (m : MessageContent) → message P e l ≡ Some m → (held : Held) → In held m.handles → among ends held.koid ≡ true → among ends e ≡ true
      at_member e l m was held h g =
          let y : ℕ = held.koid in
          let named : names y (row T (key.Msg e l)) ≡ true = kept y g (key.Msg e l) (message-names P e l m held was h) in
          let later : still T y S = kept-on made are (still T y) (still-goes-on T y) (suc i) (out-away T y (consistent (suc i) on) (all-out (suc i) on itself y g), λ k f. f) at within on in
          (s.held y g).guarded (key.Msg e l) (later.1 (key.Msg e l) named)

      pub closed : HoldsAllNamed P others
      closed = record {
        entries = λ p h held e. no_member held.koid (no-entry p h held e);
        messages = λ e l m was out. in-all (λ (held : Held). others held.koid ≡ true) m.handles (λ held h.
            no_member held.koid (λ g. true≢false (among ends e) (at_member e l m was held h g) (off (among ends e) out)));
      }

      pub out-before : among (reached P) x ≡ false
      out-before = not_true (among (reached P) x) (λ t. true≢false (among ends x) s.itself (off (among ends x) (reached-least P others closed x t)))

      ends-then : stands_passive S x ≡ true → shows_at turn.Ended x made (suc i) ≡ true
      ends-then passive =
          elim (no_job-before P T before steps x (no_job-then passive (suc i) on itself) leaked-then out-before) [
            | inl was ↦ absurd (true≢false (is_leaked P x) was unleaked-before)
            | inr over ↦ over
          ]

    one-then : stands_passive S x ≡ true → (shows_at turn.Ended x made (suc i) ≡ true) ⊎ ((y : ℕ) × In y ends × (releases_at y made (suc i) ≡ true))
    one-then passive = by (list_any (λ y. releases_at y made (suc i)) ends) refl
      where
        by : (b : Bool) → list_any (λ y. releases_at y made (suc i)) ends ≡ b → (shows_at turn.Ended x made (suc i) ≡ true) ⊎ ((y : ℕ) × In y ends × (releases_at y made (suc i) ≡ true))
        by true t = inr (in-list_any (λ y. releases_at y made (suc i)) ends t)
        by false f =
            inl (ends-then (λ y h. not_true (releases_at y made (suc i)) (λ t.
            true≢false (list_any (λ z. releases_at z made (suc i)) ends) (list_any-in (λ z. releases_at z made (suc i)) y ends (among-in y ends h) t) f)) passive)

    -- ---- what was found

    pub no-later : (y : ℕ) → among ends y ≡ true → (r : ℕ) → among (path made at) r ≡ true → releases_at y made r ≡ true → r ≤ suc i
    no-later y h r on_r goes = elim (cases_lt (suc i) r) [
      | inl l ↦ absurd (true≢false (releases_at y made r) goes (none-later r on_r l y h))
      | inr g ↦ omega (arith, g)
    ]

    no-later-end : stands_passive S x ≡ true → (r : ℕ) → among (path made at) r ≡ true → shows_at turn.Ended x made r ≡ true → r ≤ suc i
    no-later-end passive r on_r over = elim (cases_lt (suc i) r) [
      | inl l ↦ absurd (true≢false (shows_at turn.Ended x made r) over (no-end-later passive r on_r l))
      | inr g ↦ omega (arith, g)
    ]

    pub names-low : (y : ℕ) → In y ends → (r : ℕ) → last_released y made at ≡ Some r → r ≤ suc i
    unfolding last_released
    names-low y h r e = let w = filter-among (releases_at y made) (path made at) r (last-among (filter (releases_at y made) (path made at)) r e) in no-later y (in-among y ends h) r w.0 w.1

    end-low : stands_passive S x ≡ true → (r : ℕ) → last_shown turn.Ended x made at ≡ Some r → r ≤ suc i
    unfolding last_shown
    end-low passive r e = let w = filter-among (shows_at turn.Ended x made) (path made at) r (last-among (filter (shows_at turn.Ended x made) (path made at)) r e) in no-later-end passive r w.0 w.1

    found-then : stands_passive S x ≡ true → last_of_all made at x ends ≡ Some (suc i)
    unfolding last_released last_shown
    found-then passive = elim (one-then passive) [
      | inl over ↦ later-first (suc i) (last_shown turn.Ended x made at) (last_of_names made at ends)
          (last-found made are.falls (shows_at turn.Ended x made) (suc i) over at on (no-later-end passive)) (all-low (λ y. last_released y made at) (suc i) ends names-low None (λ r e. none_is r e))
      | inr goes ↦ later-second (suc i) (last_shown turn.Ended x made at) (last_of_names made at ends)
          (latest (λ y. last_released y made at) (suc i) ends names-low None (λ r e. none_is r e)
          (inr (goes.0, goes.1, last-found made are.falls (releases_at goes.0 made) (suc i) goes.2 at on (no-later goes.0 (in-among goes.0 ends goes.1))))) (end-low passive)
    ]

  -- ---- the moment at which it was leaked

  pub others_of : HoldsAllNamed S (λ y. not (among ends y))
  others_of = record {
    entries = λ p h held e. ap not (not_true (among ends held.koid) (λ g. no_wait p h ((s.held held.koid g).guarded (key.Entry p h) (ap (names held.koid) (entry-row S p h held e) ∙ eq-eqb held.koid held.koid refl))));
    messages = λ e l m was out. in-all (λ (held : Held). not (among ends held.koid) ≡ true) m.handles (λ held h.
        ap not (not_true (among ends held.koid) (λ g. true≢false (among ends e) ((s.held held.koid g).guarded (key.Msg e l) (message-names S e l m held was h)) (off (among ends e) out))));
  }
    where
      no_wait : (p h : ℕ) → waits_at ends (key.Entry p h) ≡ true → ⊥
      no_wait p h e = cc

  pub unreached-now : among (reached S) x ≡ false
  unreached-now = not_true (among (reached S) x) (λ t. true≢false (among ends x) s.itself (off (among ends x) (reached-least S (λ y. not (among ends y)) others_of x t)))

  pub leaked-by : stands_passive S x ≡ true → last_on (happens happening.Leaked x) made at ≡ last_of_all made at x ends
  unfolding last_on
  leaked-by passive = let b = begun made are.falls x at (passive-leaked S last-consistent x passive unreached-now) in by b.0 b.1 b.2
    where
      unmade : (b : Bool) → (not b && b) ≡ true → ⊥
      unmade true e = cc
      unmade false e = cc

      by : (q : ℕ) → among (path made at) q ≡ true → at_moment (leaked x) made q ≡ true → last_or None (filter (at_moment (leaked x) made) (path made at)) ≡ last_of_all made at x ends
      by zero on leaks = absurd (unmade (is_leaked (state_at made 0) x) leaks)
      by (suc i) on leaks =
          one-last (filter (at_moment (leaked x) made) (path made at)) (suc i) (once made are at within x happening.Leaked) (among-filter (at_moment (leaked x) made) (path made at) (suc i) on leaks)
          ∙ sym (found-then i on leaks passive)

-- when an object that is no job and no live process was leaked last: at its end, or at the moment found for its names if later
pub told-by : (made : List Made) (are : AreMoments made) (at x : ℕ) (within : at ≤ length made) → stands_passive (state_at made at) x ≡ true
    → (latest ended told : Option ℕ) → IsLastOfNames made at x latest → ended ≡ last_shown turn.Ended x made at → told ≡ later ended latest → last_on (happens happening.Leaked x) made at ≡ told
told-by made are at x within passive latest ended told names is_end is =
    leaked-by made are at x within names.ends names.search (no_job-exists (state_at made at) x (passive-no_job (state_at made at) x passive)) passive
    ∙ ap (λ o. later o (last_of_names made at names.ends)) (sym is_end)
    ∙ ap (later ended) (sym names.last)
    ∙ sym is
