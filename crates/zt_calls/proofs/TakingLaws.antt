-- An entry is taken out with the waits made on it: first the entry, then the waits one after another.
use Rattle.std.proofs.Common.{◌≡◌, ◌<◌, ◌≤◌, ℕ, ◌+◌, Bool, true, false, cond, ◌&&◌, ◌||◌, List, [], ◌∷◌, length, get_or, drop, option_and_then, refl, sym, ap, ◌∙◌, subst, arith}
use Rattle.std.proofs.lemmas.Bool.Decides.{nat_tests}
use Rattle.std.proofs.lemmas.List.{drop_more}
use Rattle.std.specs.Prelude.{Option, None, Some, is_some, ◌==◌, if◌then◌else◌}
use Rattle.zt_rows.specs.declared.keys.RowKey.{RowKey}
use Rattle.zt_rows.specs.declared.keys.RowKey.TheVariants as key
use Rattle.zt_rows.specs.declared.rows.Held.{Held}
use Rattle.zt_rows.specs.declared.rows.Row.{Row}
use Rattle.zt_rows.specs.declared.rows.Row.TheVariants as rows
use Rattle.zt_rows.specs.State.{State, row, put, change}
use Rattle.zt_rows.specs.Keys.{rowkey_eq}
use Rattle.zt_rows.specs.ProofsOnly.KeyOrder.{rowkey_eq-equal}
use Rattle.zt_rows.specs.Reads.{as_entry, as_wait, entry}
use Rattle.zt_rows.specs.Tests.{among}
use Rattle.zt_rows.specs.Consistent.{IsSound}
use Rattle.zt_rows.specs.Handles.{taken, take_out, take_out_all}
use Rattle.zt_rows.proofs.StateLaws.{row-put, row-change, same_state}
use Rattle.zt_rows.proofs.ReadLaws.{entry-row}
use Rattle.zt_rows.proofs.TakeLaws.{sound-taken}
use Rattle.zt_store.specs.StepView.{Stepping, Advanced}
use Rattle.zt_calls.proofs.ListLemmas.{drop-past}
use Rattle.zt_calls.proofs.GoingOn.{further, reached}
use Rattle.zt_signals.specs.DroppedWaits.{without_waits_on}

module _ (S : State) (p h : ℕ) (held : Held) (there : entry S p h ≡ Some held) where
  abbrev values : ℕ → Bool
  values g = g == h

  same_at : (q : RowKey) → ((r : Row) → without_waits_on p h q r ≡ taken p values q r) → (r : Option Row) → option_and_then (without_waits_on p h q) r ≡ option_and_then (taken p values q) r
  same_at q same (Some r) = same r
  same_at q same None = refl

  wait-same : (n : ℕ) (r : Row) → without_waits_on p h (key.Wait n) r ≡ taken p values (key.Wait n) r
  wait-same n (rows.Wait w) = refl
  wait-same n _ = refl

  entry-same : (q g : ℕ) → ((q == p) && (g == h)) ≡ false → (r : Row) → without_waits_on p h (key.Entry q g) r ≡ taken p values (key.Entry q g) r
  entry-same q g e (rows.Entry other) = sym (ap (λ b. if b then None else Some (rows.Entry other)) e)
  entry-same q g e _ = refl

  entry-at : (q g : ℕ) (b : Bool) → ((q == p) && (g == h)) ≡ b → option_and_then (without_waits_on p h (key.Entry q g)) (cond b None (row S (key.Entry q g))) ≡ option_and_then (taken p values (key.Entry q g)) (row S (key.Entry q g))
  entry-at q g true e =
      let is : key.Entry q g ≡ key.Entry p h = rowkey_eq-equal (key.Entry q g) (key.Entry p h) e in
      let here : row S (key.Entry q g) ≡ Some (rows.Entry held) = ap (row S) is ∙ entry-row S p h held there in
      sym (ap (option_and_then (taken p values (key.Entry q g))) here ∙ ap (λ b. if b then None else Some (rows.Entry held)) e)
  entry-at q g false e = same_at (key.Entry q g) (entry-same q g e) (row S (key.Entry q g))

  at_key : (q : RowKey) → option_and_then (without_waits_on p h q) (cond (rowkey_eq q (key.Entry p h)) None (row S q)) ≡ option_and_then (taken p values q) (row S q)
  at_key key.Counters = same_at key.Counters (λ r. refl) (row S key.Counters)
  at_key (key.Object x) = same_at (key.Object x) (λ r. refl) (row S (key.Object x))
  at_key (key.Entry q g) = entry-at q g ((q == p) && (g == h)) refl
  at_key (key.Msg x n) = same_at (key.Msg x n) (λ r. refl) (row S (key.Msg x n))
  at_key (key.Packet x n) = same_at (key.Packet x n) (λ r. refl) (row S (key.Packet x n))
  at_key (key.Wait n) = same_at (key.Wait n) (wait-same n) (row S (key.Wait n))

  -- the entry goes, and then the waits made on it
  pub taken-out : change (without_waits_on p h) (put S (key.Entry p h) None) ≡ take_out S p h
  taken-out =
      same_state _ _ (λ q.
      row-change (without_waits_on p h) (put S (key.Entry p h) None) q
      ∙ ap (option_and_then (without_waits_on p h q)) (row-put S (key.Entry p h) None q)
      ∙ at_key q
      ∙ sym (row-change (taken p values) S q))

some_of : {A : Type 0} (o : Option A) → is_some o ≡ true → (x : A) × (o ≡ Some x)
some_of (Some x) e = (x, refl)
some_of None e = cc

-- a step went on without the entry, and then without the waits made on it
pub take_out-does : (s t u : Stepping) (p h : ℕ) → is_some (entry s.current p h) ≡ true → Advanced s t (put s.current (key.Entry p h) None) → Advanced t u (change (without_waits_on p h) t.current) → Advanced s u (take_out s.current p h)
take_out-does s t u p h there removed dropped =
    let w = some_of (entry s.current p h) there in
    reached s u _ _ (further s t u (put s.current (key.Entry p h) None) (change (without_waits_on p h)) removed dropped) (taken-out s.current p h w.0 w.1)

-- ---- several entries

eq_either : (m n : ℕ) → (m == n) ≡ (n == m)
eq_either m n = grind (arith, nat_tests)

-- taking one out and then others is taking them all out, of what stands under each key
module _ (p g : ℕ) (rest : List ℕ) where
  abbrev one : ℕ → Bool
  one h = h == g

  abbrev others : ℕ → Bool
  others h = among rest h

  abbrev all : ℕ → Bool
  all h = among (g ∷ rest) h

  then_left : (b : Bool) (f : Row → Option Row) (r : Row) → option_and_then f (if b then None else Some r) ≡ (if b then None else f r)
  then_left true f r = refl
  then_left false f r = refl

  both_left : (a b c d : Bool) (r : Row) → b ≡ c → (if a && b then None else (if a && d then None else Some r)) ≡ (if a && (c || d) then None else Some r)
  both_left true true c d r e = ap (λ z. if z || d then None else Some r) e
  both_left true false c d r e = ap (λ z. if z || d then None else Some r) e
  both_left false b c d r e = refl

  after-one : (q : RowKey) (r : Option Row) → option_and_then (taken p others q) (option_and_then (taken p one q) r) ≡ option_and_then (taken p all q) r
  after-one q None = refl
  after-one (key.Entry a h) (Some (rows.Entry held)) =
      then_left ((a == p) && (h == g)) (taken p others (key.Entry a h)) (rows.Entry held)
      ∙ both_left (a == p) (h == g) (g == h) (others h) (rows.Entry held) (eq_either h g)
  after-one (key.Wait n) (Some (rows.Wait w)) =
      then_left ((w.process == p) && (w.handle == g)) (taken p others (key.Wait n)) (rows.Wait w)
      ∙ both_left (w.process == p) (w.handle == g) (g == w.handle) (others w.handle) (rows.Wait w) (eq_either w.handle g)
  after-one q (Some r) = refl

  pub taken-more : (S : State) → take_out_all (take_out S p g) p (among rest) ≡ take_out_all S p (among (g ∷ rest))
  taken-more S =
      same_state _ _ (λ q.
      row-change (taken p others) (take_out S p g) q
      ∙ ap (option_and_then (taken p others q)) (row-change (taken p one) S q)
      ∙ after-one q (row S q)
      ∙ sym (row-change (taken p all) S q))

-- nothing goes where no value is listed
module _ (S : State) (p : ℕ) where
  not_left : (a : Bool) (r : Row) → (if a && false then None else Some r) ≡ Some r
  not_left true r = refl
  not_left false r = refl

  none-goes : (q : RowKey) (r : Option Row) → option_and_then (taken p (among []) q) r ≡ r
  none-goes q None = refl
  none-goes (key.Entry a h) (Some (rows.Entry held)) = not_left (a == p) (rows.Entry held)
  none-goes (key.Wait n) (Some (rows.Wait w)) = not_left (w.process == p) (rows.Wait w)
  none-goes q (Some r) = refl

  pub taken-none : take_out_all S p (among []) ≡ S
  taken-none = same_state _ _ (λ q. row-change (taken p (among [])) S q ∙ none-goes q (row S q))

-- nothing goes with a value that is not in the table: no wait is made on it
module _ (S : State) (p g : ℕ) (sound : IsSound S) (absent : entry S p g ≡ None) where
  not_there : (a h : ℕ) (held : Held) → entry S a h ≡ Some held → ((a == p) && (h == g)) ≡ false
  not_there a h held there =
      elim ((a == p) && (h == g)) as (λ b. ((a == p) && (h == g)) ≡ b → b ≡ false) [
        | true ↦ λ t.
            let is : key.Entry a h ≡ key.Entry p g = rowkey_eq-equal (key.Entry a h) (key.Entry p g) t in
            let same : entry S a h ≡ entry S p g = ap (λ k. as_entry (row S k)) is in
            cc
        | false ↦ λ _. refl
      ] refl

  still-there : (q : RowKey) (r : Option Row) → row S q ≡ r → option_and_then (taken p (λ h. h == g) q) r ≡ r
  still-there q None at = refl
  still-there (key.Entry a h) (Some (rows.Entry held)) at =
      ap (λ b. if b then None else Some (rows.Entry held)) (not_there a h held (ap as_entry at))
  still-there (key.Wait n) (Some (rows.Wait w)) at =
      let made = sound.of_waits n w (ap as_wait at) in
      ap (λ b. if b then None else Some (rows.Wait w)) (not_there w.process w.handle made.held made.there)
  still-there q (Some r) at = refl

  pub absent-stays : take_out S p g ≡ S
  absent-stays = same_state _ _ (λ q. row-change (taken p (λ h. h == g)) S q ∙ still-there q (row S q) refl)

-- a step took one more out of those in the list
pub rest-taken : (s t : Stepping) (T : State) (p : ℕ) (values : List ℕ) (i g : ℕ) → i < length values → g ≡ get_or values i g → take_out_all s.current p (among (drop i values)) ≡ T → Advanced s t (take_out s.current p g) → take_out_all t.current p (among (drop (i + 1) values)) ≡ T
rest-taken s t T p values i g below at before went =
    ap (λ S. take_out_all S p (among (drop (i + 1) values))) went.1
    ∙ taken-more p g (drop (i + 1) values) s.current
    ∙ ap (λ l. take_out_all s.current p (among l)) (ap (λ z. z ∷ drop (i + 1) values) at ∙ sym (drop_more values i g below))
    ∙ before

pub sound-rest : (s t : Stepping) (p g : ℕ) → IsSound s.current → Advanced s t (take_out s.current p g) → IsSound t.current
sound-rest s t p g sound went = subst IsSound (sym went.1) (sound-taken p (λ h. h == g) s.current sound)

pub all-taken : (C T : State) (p i : ℕ) (values : List ℕ) → length values ≤ i → take_out_all C p (among (drop i values)) ≡ T → C ≡ T
all-taken C T p i values past rest =
    sym (taken-none C p) ∙ ap (λ l. take_out_all C p (among l)) (sym (drop-past values i past)) ∙ rest
