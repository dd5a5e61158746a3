-- What a search for what keeps an object finds: each message that it takes in is taken from the count of the names, so where
-- none are left nothing else names the object; and the live children of a job, one after another.
use Rattle.std.proofs.Common.{◌≡◌, ◌≤◌, ◌<◌, ℕ, zero, suc, ◌+◌, ◌-◌, ◌^◌, Bool, true, false, cond, ◌||◌, List, [], ◌∷◌, ◌++◌, fold, length, take, get_or, count_by, inl, inr, refl, sym, ap, ◌∙◌, subst, arith, append-nil, append_assoc, length-append}
use Rattle.std.specs.Prelude.{Option, None, Some, Result, Ok, Err, OnOk, ◌==◌, if◌then◌else◌, nat_le}
use Rattle.std.specs.List.{list_any, slice_get}
use Rattle.std.specs.Option.{option_map_or}
use Rattle.std.proofs.lemmas.Bool.{cases_lt, eqb-true, eq-eqb, leb-true, le-leb}
use Rattle.std.proofs.lemmas.List.{take-append-le, take_more}
use Rattle.std.proofs.lemmas.List.Folds.{list_any-append}
use Rattle.std.proofs.lemmas.List.Sums.{sum_by-cons}
use Rattle.std.proofs.lemmas.Option.{slice_get_within}
use Rattle.zt_rows.specs.declared.keys.RowKey.{RowKey}
use Rattle.zt_rows.specs.declared.keys.RowKey.TheVariants as key
use Rattle.zt_rows.specs.declared.rows.Held.{Held}
use Rattle.zt_rows.specs.declared.rows.ObjectRow.{ObjectRow}
use Rattle.zt_rows.specs.declared.rows.Row.{Row}
use Rattle.zt_rows.specs.declared.rows.Row.TheVariants as rows
use Rattle.zt_rows.specs.Keys.{rowkey_eq}
use Rattle.zt_rows.specs.ProofsOnly.KeyOrder.{rowkey_eq-equal, rowkey_eq-laws}
use Rattle.zt_rows.specs.Reads.{as_object, is_live_job, names, object}
use Rattle.zt_rows.specs.State.{State, row, put}
use Rattle.zt_rows.specs.Support.{support_count}
use Rattle.zt_rows.specs.Room.{suits}
use Rattle.zt_rows.specs.Settle.{is_child_job_of, is_child_process_of}
use Rattle.zt_rows.specs.Tests.{among, count_row}
use Rattle.zt_rows.specs.Consistent.{IsSound}
use Rattle.zt_rows.proofs.ReadLaws.{some_one}
use Rattle.zt_rows.proofs.RowLaws.{In, list_any-in, or_left, or_right, or_true, true≢false}
use Rattle.zt_rows.proofs.StateLaws.{row-put-other}
use Rattle.zt_index.specs.Chains.{IsBehind, IsNext}
use Rattle.zt_index.specs.Criteria.{is_below, objects_where}
use Rattle.zt_index.specs.KoidCounts.{named_by}
use Rattle.zt_index.specs.ProofsOnly.KoidCounts.{keeps_tasks, numbers_of, total}
use Rattle.zt_index.proofs.Counts.{support_count-numbers}
use Rattle.zt_index.proofs.Totals.{count-total, share, share-within, total-put}
use Rattle.zt_history.specs.LostChild.{is_child_row}
use Rattle.zt_history.specs.TreeInvariant.{AreMoments}
use Rattle.zt_history.specs.Tree.{Made, parent_of, parent_at}
use Rattle.zt_history.proofs.RunLaws.{parent-within}
use Rattle.zt_queries.specs.ProofsOnly.NameSearch.{waits_at, IsGuarded, AreAbove, IsHeldBy, IsNameSearch, Widens, with_end, times_named, is_one, IsNameCount, IsPartSearch, later}
use Rattle.zt_queries.proofs.SinceLaws.{take_whole}

-- ---- more endpoints

among-more : (ends rest : List ℕ) (y : ℕ) → among ends y ≡ true → among (ends ++ rest) y ≡ true
among-more ends rest y h = list_any-append (λ z. z == y) ends rest ∙ or_left (among ends y) _ h

waits-more : (ends rest : List ℕ) (k : RowKey) → waits_at ends k ≡ true → waits_at (ends ++ rest) k ≡ true
waits-more ends rest (key.Msg e n) h = among-more ends rest e h
waits-more ends rest key.Counters h = h
waits-more ends rest (key.Object y) h = h
waits-more ends rest (key.Entry p g) h = h
waits-more ends rest (key.Packet p n) h = h
waits-more ends rest (key.Wait n) h = h

pub widens-itself : (S : State) (y : ℕ) (ends : List ℕ) → Widens S y ends ends
widens-itself S y ends = record { rest = []; whole = sym (append-nil ends); above = λ x h a. a }

pub widens-widens : (S : State) (y : ℕ) (a b c : List ℕ) → Widens S y a b → Widens S y b c → Widens S y a c
widens-widens S y a b c v w = record {
  rest = v.rest ++ w.rest;
  whole = w.whole ∙ ap (λ l. l ++ w.rest) v.whole ∙ append_assoc a v.rest w.rest;
  above = λ x h up. w.above x (ap (λ l. among l y) v.whole ∙ among-more a v.rest y h) (v.above x h up);
}

-- an endpoint at which a message waits that names y
pub widens-end : (S : State) (y e n : ℕ) (ends : List ℕ) → names y (row S (key.Msg e n)) ≡ true → Widens S y ends (with_end ends e)
widens-end S y e n ends named = by (among ends e)
  where
    one : (z : ℕ) → among (e ∷ []) z ≡ true → e ≡ z
    one z h = elim (or_true (e == z) false h) [ inl s ↦ eqb-true e z s | inr f ↦ cc ]

    above : (x : ℕ) → among ends y ≡ true → AreAbove S x ends → AreAbove S x (ends ++ e ∷ [])
    above x h up set holds below first z there = elim (or_true (among ends z) _ (sym (list_any-append (λ w. w == z) ends (e ∷ [])) ∙ there)) [
      | inl old ↦ up set holds below first z old
      | inr new ↦ subst (λ w. set w ≡ true) (one z new) (holds e n y named (up set holds below first y h))
    ]

    by : (b : Bool) → Widens S y ends (if b then ends else ends ++ e ∷ [])
    by true = widens-itself S y ends
    by false = record { rest = e ∷ []; whole = refl; above = above }

-- a live child of y
pub widens-child : (S : State) (y c : ℕ) (ends : List ℕ) → is_child_row y (row S (key.Object c)) ≡ true → Widens S y ends (with_end ends c)
widens-child S y c ends child = by (among ends c)
  where
    one : (z : ℕ) → among (c ∷ []) z ≡ true → c ≡ z
    one z h = elim (or_true (c == z) false h) [ inl s ↦ eqb-true c z s | inr f ↦ cc ]

    above : (x : ℕ) → among ends y ≡ true → AreAbove S x ends → AreAbove S x (ends ++ c ∷ [])
    above x h up set holds below first z there = elim (or_true (among ends z) _ (sym (list_any-append (λ w. w == z) ends (c ∷ [])) ∙ there)) [
      | inl old ↦ up set holds below first z old
      | inr new ↦ subst (λ w. set w ≡ true) (one z new) (below c y child (up set holds below first y h))
    ]

    by : (b : Bool) → Widens S y ends (if b then ends else ends ++ c ∷ [])
    by true = widens-itself S y ends
    by false = record { rest = c ∷ []; whole = refl; above = above }

pub guarded-more : (S : State) (y z : ℕ) (old new : List ℕ) → Widens S z old new → IsGuarded S old y → IsGuarded S new y
guarded-more S y z old new w g k h = ap (λ l. waits_at l k) w.whole ∙ waits-more old w.rest k (g k h)

pub held-more : (S : State) (y z : ℕ) (old new : List ℕ) → Widens S z old new → IsHeldBy S old y → IsHeldBy S new y
held-more S y z old new w h = record {
  guarded = guarded-more S y z old new w h.guarded;
  children = λ c child. ap (λ l. among l c) w.whole ∙ among-more old w.rest c (h.children c child);
  calm = h.calm;
}

-- the endpoint is there then
end-there : (ends : List ℕ) (e : ℕ) → among (with_end ends e) e ≡ true
end-there ends e = by (among ends e) refl
  where
    by : (b : Bool) → among ends e ≡ b → among (if b then ends else ends ++ e ∷ []) e ≡ true
    by true h = h
    by false h = list_any-append (λ z. z == e) ends (e ∷ []) ∙ or_right (among ends e) _ (or_left (e == e) false (eq-eqb e e refl))

-- ---- how often a row names an object

count-some : (p : Held → Bool) (xs : List Held) → list_any p xs ≡ true → 0 < count_by p xs
count-some p [] h = cc
count-some p (x ∷ xs) h = by (p x) refl h (λ g. count-some p xs g)
  where
    by : (b : Bool) → p x ≡ b → (b || list_any p xs) ≡ true → (list_any p xs ≡ true → 0 < count_by p xs) → 0 < count_by p (x ∷ xs)
    by true e g rest = omega (arith, sum_by-cons (λ (z : Held). cond {A = ℕ} (p z) 1 0) x xs, ap (λ c. cond {A = ℕ} c 1 0) e)
    by false e g rest = omega (arith, sum_by-cons (λ (z : Held). cond {A = ℕ} (p z) 1 0) x xs, rest g)

some-count : (p : Held → Bool) (xs : List Held) → 0 < count_by p xs → list_any p xs ≡ true
some-count p [] h = absurd (omega (arith, h))
some-count p (x ∷ xs) h = by (p x) refl (λ g. some-count p xs g)
  where
    by : (b : Bool) → p x ≡ b → (0 < count_by p xs → list_any p xs ≡ true) → list_any p (x ∷ xs) ≡ true
    by true e rest = ap (λ c. c || list_any p xs) e
    by false e rest =
        ap (λ c. c || list_any p xs) e
        ∙ rest (omega (arith, h, sum_by-cons (λ (z : Held). cond {A = ℕ} (p z) 1 0) x xs, ap (λ c. cond {A = ℕ} c 1 0) e))

pub named-times : (y : ℕ) (r : Option Row) → 0 < times_named y r → names y r ≡ true
named-times y (Some (rows.Msg m)) h = some-count (λ held. held.koid == y) m.handles h
named-times y None h = absurd (omega (arith, h))
named-times y (Some (rows.Counters _)) h = absurd (omega (arith, h))
named-times y (Some (rows.Object _)) h = absurd (omega (arith, h))
named-times y (Some (rows.Entry _)) h = absurd (omega (arith, h))
named-times y (Some (rows.Packet _)) h = absurd (omega (arith, h))
named-times y (Some (rows.Wait _)) h = absurd (omega (arith, h))

share-times : (y e n : ℕ) (r : Option Row) → share (named_by y) (key.Msg e n) r ≡ times_named y r
share-times y e n (Some (rows.Msg m)) = refl
share-times y e n None = refl
share-times y e n (Some (rows.Counters _)) = refl
share-times y e n (Some (rows.Object _)) = refl
share-times y e n (Some (rows.Entry _)) = refl
share-times y e n (Some (rows.Packet _)) = refl
share-times y e n (Some (rows.Wait _)) = refl

named-some : (y : ℕ) (k : RowKey) (r : Row) → suits k r ≡ true → names y (Some r) ≡ true → 0 < named_by y k r
named-some y (key.Entry p h) (rows.Entry held) s e = let one : cond {A = ℕ} (held.koid == y) 1 0 ≡ 1 = ap (λ b. cond {A = ℕ} b 1 0) e in omega (arith, one)
named-some y (key.Msg e n) (rows.Msg m) s named = count-some (λ held. held.koid == y) m.handles named
named-some y key.Counters (rows.Entry held) s e = cc
named-some y (key.Object _) (rows.Entry held) s e = cc
named-some y (key.Packet _ _) (rows.Entry held) s e = cc
named-some y (key.Wait _) (rows.Entry held) s e = cc
named-some y _ _ s e = cc

-- ---- what is left of the count

-- the supports of an object are its names at least, and those of a live job its live children too
pub names-few : (S : State) (y count : ℕ) → count ≡ support_count S y → total (named_by y) S ≤ count
names-few S y count is = omega (arith, is, support_count-numbers S y)

pub job-names-few : (S : State) (y count jobs processes : ℕ) (o : ObjectRow) → object S y ≡ Some o → is_live_job o ≡ true → count ≡ support_count S y
    → jobs ≡ count_row (is_child_job_of y) S → processes ≡ count_row (is_child_process_of y) S → total (named_by y) S ≤ count - jobs - processes
job-names-few S y count jobs processes o there live is are_jobs are_processes =
    let tasks : cond {A = ℕ} (keeps_tasks (object S y)) ((numbers_of S y).jobs + (numbers_of S y).processes) 0 ≡ (numbers_of S y).jobs + (numbers_of S y).processes =
    ap (λ (r : Option ObjectRow). cond {A = ℕ} (keeps_tasks r) ((numbers_of S y).jobs + (numbers_of S y).processes) 0) there
    ∙ ap (λ b. cond {A = ℕ} b ((numbers_of S y).jobs + (numbers_of S y).processes) 0) live in
    omega (arith, is, support_count-numbers S y, tasks, are_jobs, are_processes, count-total (is_child_job_of y) S, count-total (is_child_process_of y) S)

pub count-begins : (S : State) (y : ℕ) (ends : List ℕ) (messages : List RowKey) (left : ℕ) → messages ≡ [] → total (named_by y) S ≤ left → IsNameCount S y ends messages left
count-begins S y ends messages left none few = record {
  others = S;
  few = few;
  same = λ k h. refl;
  waiting = λ k h. let f : false ≡ true = sym (ap (λ ms. is_one ms k) none) ∙ h in cc;
}

pub count-more : (S : State) (y e n : ℕ) (ends : List ℕ) (messages : List RowKey) (left times : ℕ) → is_one messages (key.Msg e n) ≡ false → times ≡ times_named y (row S (key.Msg e n))
    → IsNameCount S y ends messages left → IsNameCount S y (with_end ends e) (messages ++ key.Msg e n ∷ []) (left - times)
count-more S y e n ends messages left times new is c =
    let k : RowKey = key.Msg e n in
    let there : share (named_by y) k (row c.others k) ≡ times = ap (share (named_by y) k) (c.same k new) ∙ share-times y e n (row S k) ∙ sym is in
    record {
      others = put c.others k None;
      few = omega (arith, there, total-put (named_by y) c.others k None, c.few);
      same = λ q h.
          let apart : rowkey_eq k q ≡ false = no_right (is_one messages q) (rowkey_eq k q) (sym (added q) ∙ h) in
          row-put-other c.others k None q (rowkey_eq-laws.symm q k ∙ apart) ∙ c.same q (no_left (is_one messages q) (rowkey_eq k q) (sym (added q) ∙ h));
      waiting = λ q h. elim (or_true (is_one messages q) _ (sym (added q) ∙ h)) [
        | inl old ↦ wider q (c.waiting q old)
        | inr one ↦ subst (λ z. waits_at (with_end ends e) z ≡ true) (rowkey_eq-equal k q one) (end-there ends e)
      ];
    }
  where
    added : (q : RowKey) → is_one (messages ++ key.Msg e n ∷ []) q ≡ (is_one messages q || rowkey_eq (key.Msg e n) q)
    added q = list_any-append (λ k. rowkey_eq k q) messages (key.Msg e n ∷ []) ∙ ap (λ b. is_one messages q || b) (or_none (rowkey_eq (key.Msg e n) q))
      where
        or_none : (b : Bool) → (b || false) ≡ b
        or_none true = refl
        or_none false = refl

    no_left : (a b : Bool) → (a || b) ≡ false → a ≡ false
    no_left true b h = h
    no_left false b h = refl

    no_right : (a b : Bool) → (a || b) ≡ false → b ≡ false
    no_right true b h = cc
    no_right false b h = h

    wider : (q : RowKey) → waits_at ends q ≡ true → waits_at (with_end ends e) q ≡ true
    wider q h = by (among ends e)
      where
        by : (b : Bool) → waits_at (if b then ends else ends ++ e ∷ []) q ≡ true
        by true = h
        by false = waits-more ends (e ∷ []) q h

-- ---- one key

pub on_ok : {A E : Type 0} (r : Result A E) (P Q : Type 0) → OnOk r P → (P → Q) → OnOk r Q
on_ok (Ok x) P Q h f = f h
on_ok (Err e) P Q h f = h

module _ (S : State) (y e n times : ℕ) (k : RowKey) (r : Option Row) (ends wide : List ℕ) (is : k ≡ key.Msg e n) (there : r ≡ row S k) (many : times ≡ times_named y r) (put_in : wide ≡ with_end ends e) where
  often : times ≡ times_named y (row S (key.Msg e n))
  often = many ∙ ap (times_named y) there ∙ ap (λ q. times_named y (row S q)) is

  pub look-wider : 0 < times → Widens S y ends wide
  look-wider some = subst (Widens S y ends) (sym put_in) (widens-end S y e n ends (named-times y (row S (key.Msg e n)) (omega (arith, some, often))))

  pub look-counted : (messages more : List RowKey) (left less : ℕ) → is_one messages k ≡ false → more ≡ messages ++ k ∷ [] → less ≡ left - times → IsNameCount S y ends messages left → IsNameCount S y wide more less
  look-counted messages more left less new longer fewer c =
      let made : IsNameCount S y (with_end ends e) (messages ++ key.Msg e n ∷ []) (left - times) =
      count-more S y e n ends messages left times (ap (is_one messages) (sym is) ∙ new) often c in
      let all : messages ++ key.Msg e n ∷ [] ≡ more = ap (λ q. messages ++ q ∷ []) (sym is) ∙ sym longer in
      subst (λ l. IsNameCount S y wide more l) (sym fewer) (subst (λ ms. IsNameCount S y wide ms (left - times)) all (subst (λ l. IsNameCount S y l (messages ++ key.Msg e n ∷ []) (left - times)) (sym put_in) made))

-- ---- all names

-- where none is left, all rows that name it are among the messages
pub count-ends : (S : State) (y : ℕ) (ends : List ℕ) (messages : List RowKey) (left : ℕ) → IsSound S → left ≡ 0 → IsNameCount S y ends messages left → IsGuarded S ends y
count-ends S y ends messages left sound none c k named = by (is_one messages k) refl
  where
    some : (r : Option Row) → row S k ≡ r → names y r ≡ true → 0 < share (named_by y) k r
    some (Some r) there h = named-some y k r (sound.typed k r there) h
    some None there h = cc

    by : (b : Bool) → is_one messages k ≡ b → waits_at ends k ≡ true
    by true e = c.waiting k e
    by false e =
        let one : 0 < share (named_by y) k (row c.others k) = subst (λ r. 0 < share (named_by y) k r) (sym (c.same k e)) (some (row S k) refl named) in
        absurd (omega (arith, one, share-within (named_by y) c.others k, c.few, none))

-- ---- one endpoint after another

fold-push : (f : Option ℕ → ℕ → Option ℕ) (a : Option ℕ) (xs : List ℕ) (y : ℕ) → fold f a (xs ++ y ∷ []) ≡ f (fold f a xs) y
fold-push f a [] y = refl
fold-push f a (x ∷ xs) y = fold-push f (f a x) xs y

take-next : (old rest new : List ℕ) (place named : ℕ) → new ≡ old ++ rest → place < length old → named ≡ get_or old place named → take (place + 1) new ≡ take place old ++ named ∷ []
take-next old rest new place named whole low is =
    let inside : place + 1 ≤ length old = omega (arith, low) in
    ap (take (place + 1)) whole ∙ take-append-le (place + 1) old rest inside ∙ take_more old place named low ∙ ap (λ z. take place old ++ z ∷ []) (sym is)

one_of : (x y : ℕ) → among (x ∷ []) y ≡ true → x ≡ y
one_of x y h = elim (or_true (x == y) false h) [ inl s ↦ eqb-true x y s | inr f ↦ cc ]

-- where nothing is read, the place is past the end
pub past-end : (xs : List ℕ) (place : ℕ) → slice_get xs place ≡ None → length xs ≤ place
past-end [] place h = omega arith
past-end (x ∷ xs) zero h = cc
past-end (x ∷ xs) (suc place) h = omega (arith, past-end xs place h)

-- what is read at a place stands there
pub read-at : (xs : List ℕ) (place named : ℕ) → slice_get xs place ≡ Some named → named ≡ get_or xs place named
read-at [] place named h = cc
read-at (x ∷ xs) zero named h = some_one named x (sym h)
read-at (x ∷ xs) (suc place) named h = read-at xs place named h

pub at-place : (old : List ℕ) (place named : ℕ) → place < length old → named ≡ get_or old place named → among old named ≡ true
at-place old place named low is =
    list_any-in (λ z. z == named) named old (subst (λ z. In z old) (sym is) (in-get_or old place named low)) (eq-eqb named named refl)
  where
    in-get_or : (xs : List ℕ) (i d : ℕ) → i < length xs → In (get_or xs i d) xs
    in-get_or [] i d h = absurd (omega (arith, h))
    in-get_or (x ∷ xs) zero d h = inl refl
    in-get_or (x ∷ xs) (suc i) d h = inr (in-get_or xs i d (omega (arith, h)))

module _ (S : State) (x : ℕ) (old new : List ℕ) (place named : ℕ) (low : place < length old) (is : named ≡ get_or old place named) (w : Widens S named old new) where
  pub part-goes : IsPartSearch S x old place → IsHeldBy S new named → IsPartSearch S x new (place + 1)
  part-goes p g = record {
    within = omega (arith, low, ap length w.whole, length-append old w.rest);
    itself = ap (λ l. among l x) w.whole ∙ among-more old w.rest x p.itself;
    above = w.above x (at-place old place named low is) p.above;
    held = λ y h. elim (or_true (among (take place old) y) _ (sym (list_any-append (λ z. z == y) (take place old) (named ∷ [])) ∙ ap (λ l. among l y) (sym (take-next old w.rest new place named w.whole low is)) ∙ h)) [
      | inl before ↦ held-more S y named old new w (p.held y before)
      | inr one ↦ subst (IsHeldBy S new) (one_of named y one) g
    ];
  }

  -- the latest of what each of these has
  pub latest-goes : (f : ℕ → Option ℕ) (latest next : Option ℕ) → latest ≡ fold (λ best y. later best (f y)) None (take place old) → next ≡ later latest (f named)
      → next ≡ fold (λ best y. later best (f y)) None (take (place + 1) new)
  latest-goes f latest next so_far is_next =
      is_next
      ∙ ap (λ o. later o (f named)) so_far
      ∙ sym (fold-push (λ best y. later best (f y)) None (take place old) named)
      ∙ ap (fold (λ best y. later best (f y)) None) (sym (take-next old w.rest new place named w.whole low is))

pub part-ends : (S : State) (x : ℕ) (ends : List ℕ) (place : ℕ) → length ends ≤ place → IsPartSearch S x ends place → IsNameSearch S x ends
part-ends S x ends place past p = record {
  itself = p.itself;
  above = p.above;
  held = λ y h. p.held y (ap (λ l. among l y) (take_whole ends place past) ∙ h);
}

pub latest-ends : (f : ℕ → Option ℕ) (ends : List ℕ) (place : ℕ) (latest : Option ℕ) → length ends ≤ place → latest ≡ fold (λ best y. later best (f y)) None (take place ends) → latest ≡ fold (λ best y. later best (f y)) None ends
latest-ends f ends place latest past is = is ∙ ap (fold (λ best y. later best (f y)) None) (take_whole ends place past)

-- ---- the children of a job, by rising koid

abbrev pub is_passed : Option ℕ → ℕ → Bool
is_passed None n = false
is_passed (Some low) n = nat_le n low

-- how many numbers there are above the low one
abbrev pub left_above : Option ℕ → ℕ
left_above None = 2 ^ 64 + 1
left_above (Some n) = 2 ^ 64 - n

child-passes : (S : State) (y z : ℕ) → is_child_row y (row S (key.Object z)) ≡ objects_where S (is_below y) z
child-passes S y z = by (row S (key.Object z))
  where
    by : (r : Option Row) → is_child_row y r ≡ option_map_or (is_below y) (as_object r) false
    by (Some (rows.Object o)) = refl
    by None = refl
    by (Some (rows.Counters _)) = refl
    by (Some (rows.Entry _)) = refl
    by (Some (rows.Msg _)) = refl
    by (Some (rows.Packet _)) = refl
    by (Some (rows.Wait _)) = refl

-- those that were passed are among these
abbrev pub ArePassedIn : State → ℕ → Option ℕ → List ℕ → Type 0
ArePassedIn S y low ends = (z : ℕ) → is_child_row y (row S (key.Object z)) ≡ true → is_passed low z ≡ true → among ends z ≡ true

module _ (S : State) (y : ℕ) (low : Option ℕ) where
  pub next-child : (n : ℕ) → IsNext (objects_where S (is_below y)) low (Some n) → is_child_row y (row S (key.Object n)) ≡ true
  next-child n next = child-passes S y n ∙ next.0.1

  pub passed-more : (n : ℕ) (ends more : List ℕ) → IsNext (objects_where S (is_below y)) low (Some n) → more ≡ with_end ends n → ArePassedIn S y low ends → ArePassedIn S y (Some n) more
  passed-more n ends more next longer all z child e = ap (λ l. among l z) longer ∙ by (is_passed low z) refl
    where
      kept : (b : Bool) → among ends z ≡ true → among (if b then ends else ends ++ n ∷ []) z ≡ true
      kept true h = h
      kept false h = among-more ends (n ∷ []) z h

      behind : (b : Option ℕ) → is_passed b z ≡ false → IsBehind (λ a b. a < b) b z
      behind None f = tt
      behind (Some l) f = leb-false l z f
        where
          leb-false : (a b : ℕ) → nat_le b a ≡ false → a < b
          leb-false a b f = elim (cases_lt a b) [ inl lt ↦ lt | inr ge ↦ absurd (true≢false (nat_le b a) (le-leb b a ge) f) ]

      by : (b : Bool) → is_passed low z ≡ b → among (with_end ends n) z ≡ true
      by true t = kept (among ends n) (all z child t)
      by false f = elim (cases_lt z n) [
        | inl lt ↦ absurd (true≢false (objects_where S (is_below y) z) (sym (child-passes S y z) ∙ child) (next.1 z (behind low f) lt))
        | inr ge ↦ let same : n ≡ z = omega (arith, ge, leb-true z n e) in subst (λ k. among (with_end ends n) k ≡ true) same (end-there ends n)
      ]

-- ---- moments

pub parent-inside : (made : List Made) → AreMoments made → (m : ℕ) → parent_at made m ≤ length made
parent-inside made are zero = omega arith
parent-inside made are (suc i) = by (slice_get made i) refl
  where
    by : (e : Option Made) → slice_get made i ≡ e → parent_at made (suc i) ≤ length made
    by (Some e) at = parent-within made are i (slice_get_within made i e at)
    by None at = let none : parent_at made (suc i) ≡ 0 = ap parent_of at in omega (arith, none)
