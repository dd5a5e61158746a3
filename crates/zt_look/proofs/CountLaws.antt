-- Calls counted one by one, and the counts in their order.
use Rattle.std.proofs.Common.{◌≡◌, ℕ, zero, suc, ◌+◌, ◌<◌, Bool, true, false, cond, ◌&&◌, List, [], ◌∷◌, ◌++◌, length, map, take, get_or, Option, Some, None, ◌⊎◌, inl, inr, refl, sym, ◌∙◌, ap, subst, arith}
use Rattle.std.specs.Prelude.{◌==◌, count_by, if◌then◌else◌, Result, Ok, Err, OnOk}
use Rattle.std.specs.BTreeMap.{BTreeMap, get, is_at, IsOrdered}
use Rattle.std.specs.Cmp.{IsTotalOrder, tied_itself}
use Rattle.std.specs.List.{AllByRecursion, filter_map, list_any, slice_get}
use Rattle.std.specs.List.Sorted.{IsStrictlySortedBy}
use Rattle.std.specs.Map.{keys_of}
use Rattle.std.specs.Option.{option_map, unwrap_or}
use Rattle.std.specs.Ordering.{is_eq, nat_cmp, ordering_then}
use Rattle.std.specs.declared.cmp.Ordering.{Ordering}
use Rattle.std.specs.declared.cmp.Ordering.TheVariants.{Less, Equal, Greater}
use Rattle.std.proofs.lemmas.Bool.{eqb-true, eq-eqb}
use Rattle.std.proofs.lemmas.Cmp.{nat_cmp_total, on_total, then_total, ranked}
use Rattle.std.proofs.lemmas.List.{take_more}
use Rattle.std.proofs.lemmas.List.Elements.{filter_map-append}
use Rattle.std.proofs.lemmas.List.Sums.{sum_by-cons, sum_by_push}
use Rattle.std.proofs.lemmas.Map.Entries.{btree_map_get_place, place_from_lookup}
use Rattle.std.proofs.lemmas.Map.Keys.{any_passes_from_place, sorted_head, sorted_tail}
use Rattle.std.proofs.lemmas.Map.Lookups.{exact_unsigned}
use Rattle.zt_bits.specs.declared.statuses.Status.{Status}
use Rattle.zt_bits.specs.declared.statuses.Status.TheVariants as status
use Rattle.zt_rows.specs.declared.calls.Call.{Call}
use Rattle.zt_rows.specs.declared.calls.Reply.{Reply}
use Rattle.zt_history.specs.Tree.{Made, made_at, call_at, reply_at}
use Rattle.zt_look.specs.declared.call_counts.CallCount.{CallCount}
use Rattle.zt_bits.specs.Words.{status_number}
use Rattle.zt_rows.specs.Tests.{status_of}
use Rattle.zt_look.specs.CallCounts.{AreCallCounts, AreCountsInOrder, CountsBefore, IsCallCount, answers, is_answered, is_count_of, made_along}
use Rattle.zt_look.specs.ProofsOnly.CountedCalls.{AreCallsCounted, answer_cmp, answer_of, count_told, counted, has_answer, status_at}

-- ---- the order of answers

answer_cmp_total : IsTotalOrder answer_cmp
answer_cmp_total = then_total (on_total (λ (a : ℕ × ℕ). a.0) nat_cmp_total) (on_total (λ (a : ℕ × ℕ). a.1) nat_cmp_total)

then_first : (p q : Ordering) → ordering_then p q ≡ Equal → p ≡ Equal
then_first Less q e = cc
then_first Equal q e = refl
then_first Greater q e = cc

then_second : (p q : Ordering) → ordering_then p q ≡ Equal → q ≡ Equal
then_second Less q e = cc
then_second Equal q e = e
then_second Greater q e = cc

equal_of : (o : Ordering) → is_eq o ≡ true → o ≡ Equal
equal_of Less e = cc
equal_of Equal e = refl
equal_of Greater e = cc

same_first : (a b : ℕ × ℕ) → is_eq (answer_cmp a b) ≡ true → a.0 ≡ b.0
same_first a b h = exact_unsigned _ _ (then_first (nat_cmp a.0 b.0) (nat_cmp a.1 b.1) (equal_of (answer_cmp a b) h))

same_second : (a b : ℕ × ℕ) → is_eq (answer_cmp a b) ≡ true → a.1 ≡ b.1
same_second a b h = exact_unsigned _ _ (then_second (nat_cmp a.0 b.0) (nat_cmp a.1 b.1) (equal_of (answer_cmp a b) h))

pair_of : (a b : ℕ × ℕ) → a.0 ≡ b.0 → a.1 ≡ b.1 → a ≡ b
pair_of a b p q = λ i. (p i, q i)

same_answer : (a b : ℕ × ℕ) → is_eq (answer_cmp a b) ≡ true → a ≡ b
same_answer a b h = pair_of a b (same_first a b h) (same_second a b h)

itself : (a : ℕ × ℕ) → is_eq (answer_cmp a a) ≡ true
itself a = ap is_eq (tied_itself answer_cmp_total a)

number_lower : (m n : ℕ) → nat_cmp m n ≡ Less → m < n
number_lower m n h = by (nat_cmp m n) refl h
  where
    by : (o : Ordering) → o ≡ nat_cmp m n → o ≡ Less → m < n
    by Less e h = ranked m n Less e
    by Equal e h = cc
    by Greater e h = cc

answer_before : (a b : ℕ × ℕ) → answer_cmp a b ≡ Less → (a.0 < b.0) ⊎ ((a.0 ≡ b.0) × (a.1 < b.1))
answer_before a b h = by (nat_cmp a.0 b.0) refl h
  where
    by : (o : Ordering) → nat_cmp a.0 b.0 ≡ o → ordering_then o (nat_cmp a.1 b.1) ≡ Less → (a.0 < b.0) ⊎ ((a.0 ≡ b.0) × (a.1 < b.1))
    by Less e h = inl (number_lower a.0 b.0 e)
    by Equal e h = inr (exact_unsigned a.0 b.0 e, number_lower a.1 b.1 h)
    by Greater e h = cc

-- ---- one more call

count-push : {A : Type 0} (p : A → Bool) (xs : List A) (x : A) → count_by p (xs ++ x ∷ []) ≡ count_by p xs + cond (p x) 1 0
count-push p xs x = sum_by_push (λ x. cond (p x) 1 0) xs x

count-cons : {A : Type 0} (p : A → Bool) (x : A) (xs : List A) → count_by p (x ∷ xs) ≡ cond (p x) 1 0 + count_by p xs
count-cons p x xs = sum_by-cons (λ x. cond (p x) 1 0) x xs

one_more : (n : ℕ) → Some (unwrap_or (counted n) 0 + 1) ≡ counted (n + 1)
one_more zero = refl
one_more (suc n) = let e : suc n + 1 ≡ suc (suc n) = omega arith in ap Some e ∙ sym (ap counted e)

counted-push : (es : List Made) (e : Made) (old new : BTreeMap (ℕ × ℕ) ℕ) → AreCallsCounted es old
    → ((k : ℕ × ℕ) → get answer_cmp new k ≡ (if is_eq (answer_cmp (answer_of e) k) then Some (unwrap_or (get answer_cmp old (answer_of e)) 0 + 1) else get answer_cmp old k))
    → AreCallsCounted (es ++ e ∷ []) new
counted-push es e old new was is k = is k ∙ by (has_answer k e) refl
  where
    by : (b : Bool) → has_answer k e ≡ b
        → (if b then Some (unwrap_or (get answer_cmp old (answer_of e)) 0 + 1) else get answer_cmp old k) ≡ counted (count_by (has_answer k) (es ++ e ∷ []))
    by true h =
        let same : answer_of e ≡ k = same_answer (answer_of e) k h in
        ap (λ q. Some (unwrap_or (get answer_cmp old q) 0 + 1)) same
        ∙ ap (λ o. Some (unwrap_or o 0 + 1)) (was k)
        ∙ one_more (count_by (has_answer k) es)
        ∙ ap counted (ap (λ b. count_by (has_answer k) es + cond b 1 0) (sym h) ∙ sym (count-push (has_answer k) es e))
    by false h =
        was k ∙ ap counted (grows (count_by (has_answer k) es) ∙ ap (λ b. count_by (has_answer k) es + cond b 1 0) (sym h) ∙ sym (count-push (has_answer k) es e))
      where
        grows : (n : ℕ) → n ≡ n + 0
        grows n = omega arith

-- the call of a moment is one more
module _ (made : List Made) (m : ℕ) where
  abbrev by_made : Option Made → List Made
  by_made o = filter_map (λ (m : ℕ). o) (m ∷ [])

  pub call-one : (process : ℕ) (call : Call) (answer : Reply) (old new : BTreeMap (ℕ × ℕ) ℕ) → call_at made m ≡ Some (process, call) → reply_at made m ≡ Some answer
      → ((k : ℕ × ℕ) → get answer_cmp new k
      ≡ (if is_eq (answer_cmp (process, status_number (status_of answer)) k) then Some (unwrap_or (get answer_cmp old (process, status_number (status_of answer))) 0 + 1) else get answer_cmp old k))
      → (es : List Made) → AreCallsCounted es old → AreCallsCounted (es ++ made_along made (m ∷ [])) new
  call-one process call answer old new e r is es was = by (made_at made m) refl
    where
      no_call : made_at made m ≡ None → ⊥
      no_call h = let n : ◌≡◌ {A = Option (ℕ × Call)} None (Some (process, call)) = sym (ap (option_map (λ (e : Made). (e.process, e.call))) h) ∙ e in cc

      same : {A : Type 0} (x y : A) → Some x ≡ Some y → x ≡ y
      same x y e = cc

      by : (o : Option Made) → made_at made m ≡ o → AreCallsCounted (es ++ made_along made (m ∷ [])) new
      by None h = absurd (no_call h)
      by (Some x) h =
          let at : ◌≡◌ {A = ℕ × Call} (x.process, x.call) (process, call) = same (x.process, x.call) (process, call) (sym (ap (option_map (λ (e : Made). (e.process, e.call))) h) ∙ e) in
          let first : x.process ≡ process = ap (λ (p : ℕ × Call). p.0) at in
          let told : x.reply ≡ answer = same x.reply answer (sym (ap (option_map (λ (e : Made). e.reply)) h) ∙ r) in
          let key : ◌≡◌ {A = ℕ × ℕ} (process, status_number (status_of answer)) (answer_of x) = pair_of (process, status_number (status_of answer)) (answer_of x) (sym first) (ap (λ q. status_number (status_of q)) (sym told)) in
          subst (λ l. AreCallsCounted (es ++ l) new) (ap by_made (sym h))
          (counted-push es x old new was
          (λ k. is k ∙ ap (λ (a : ℕ × ℕ). if is_eq (answer_cmp a k) then Some (unwrap_or (get answer_cmp old a) 0 + 1) else get answer_cmp old k) key))

  pub call-one-ok : {A E : Type 0} (r : Result A E) (process : ℕ) (call : Call) (answer : Reply) (s : Status) (old new : BTreeMap (ℕ × ℕ) ℕ) → call_at made m ≡ Some (process, call)
      → reply_at made m ≡ Some answer → s ≡ status_of answer
      → OnOk r ((k : ℕ × ℕ) → get answer_cmp new k
      ≡ (if is_eq (answer_cmp (process, status_number s) k) then Some (unwrap_or (get answer_cmp old (process, status_number s)) 0 + 1) else get answer_cmp old k))
      → OnOk r ((es : List Made) → AreCallsCounted es old → AreCallsCounted (es ++ made_along made (m ∷ [])) new)
  call-one-ok (Ok x) process call answer s old new e a is h =
      call-one process call answer old new e a
      (subst (λ s. (k : ℕ × ℕ) → get answer_cmp new k
      ≡ (if is_eq (answer_cmp (process, status_number s) k) then Some (unwrap_or (get answer_cmp old (process, status_number s)) 0 + 1) else get answer_cmp old k)) is h)
  call-one-ok (Err x) process call answer s old new e a is h = tt

-- ---- the statuses by their places

number-at : (s : Status) → status_at (status_number s) ≡ s
number-at status.Ok = refl
number-at status.BadHandle = refl
number-at status.WrongType = refl
number-at status.AccessDenied = refl
number-at status.InvalidArgs = refl
number-at status.NotSupported = refl
number-at status.PeerClosed = refl
number-at status.ShouldWait = refl
number-at status.BufferTooSmall = refl
number-at status.TimedOut = refl
number-at status.BadState = refl
number-at status.OutOfRange = refl
number-at status.NotFound = refl
number-at status.AlreadyBound = refl

-- ---- the list of the counts

count-same : {A : Type 0} (p q : A → Bool) → ((x : A) → p x ≡ q x) → (xs : List A) → count_by p xs ≡ count_by q xs
count-same p q f [] = refl
count-same p q f (x ∷ xs) =
    count-cons p x xs ∙ ap (λ b. cond b 1 0 + count_by p xs) (f x) ∙ ap (λ n. cond (q x) 1 0 + n) (count-same p q f xs) ∙ sym (count-cons q x xs)

-- one that passes is there where they are counted
one_there : (p : Made → Bool) (xs : List Made) → 0 < count_by p xs → (x : Made) × (p x ≡ true)
one_there p [] h = absurd (omega (arith, h))
one_there p (x ∷ xs) h = by (p x) refl (λ g. one_there p xs g)
  where
    by : (b : Bool) → p x ≡ b → (0 < count_by p xs → (y : Made) × (p y ≡ true)) → (y : Made) × (p y ≡ true)
    by true e rest = (x, e)
    by false e rest = rest (omega (arith, h, count-cons p x xs, ap {B = ℕ} (λ b. cond b 1 0) e))

counted-some : (n c : ℕ) → counted n ≡ Some c → (n ≡ c) × (0 < c)
counted-some zero c e = cc
counted-some (suc n) c e = let same : suc n ≡ c = cc in (same, omega (arith, same))

some-counted : (n : ℕ) → 0 < n → counted n ≡ Some n
some-counted zero h = absurd (omega (arith, h))
some-counted (suc n) h = refl

and_is : (a b c : Bool) → (a ≡ true → b ≡ true → c ≡ true) → (c ≡ true → (a ≡ true) × (b ≡ true)) → (a && b) ≡ c
and_is true true true f g = refl
and_is true true false f g = sym (f refl refl)
and_is true false true f g = (g refl).1
and_is true false false f g = refl
and_is false b true f g = (g refl).0
and_is false b false f g = refl

answered-same : (p : ℕ) (s : Status) (e : Made) → is_answered p s e ≡ has_answer (p, status_number s) e
answered-same p s e =
    and_is (e.process == p) (status_number (status_of e.reply) == status_number s) (has_answer (p, status_number s) e)
    (λ a b. ap (λ (k : ℕ × ℕ). is_eq (answer_cmp (answer_of e) k)) (sym (pair_of (answer_of e) (p, status_number s) (eqb-true e.process p a) (eqb-true (status_number (status_of e.reply)) (status_number s) b))) ∙ itself (answer_of e))
    (λ h. (eq-eqb e.process p (same_first (answer_of e) (p, status_number s) h), eq-eqb (status_number (status_of e.reply)) (status_number s) (same_second (answer_of e) (p, status_number s) h)))

module _ (made : List Made) (way : List ℕ) where
  abbrev es : List Made
  es = made_along made way

  answers-same : (p : ℕ) (s : Status) → answers made way p s ≡ count_by (has_answer (p, status_number s)) es
  answers-same p s = count-same (is_answered p s) (has_answer (p, status_number s)) (answered-same p s) es

  -- the place is that of a status, and the count is right
  abbrev Counts : (ℕ × ℕ) × ℕ → Type 0
  Counts e = (status_number (status_at e.0.1) ≡ e.0.1) × IsCallCount made way (count_told e)

  counts-one : (counts : BTreeMap (ℕ × ℕ) ℕ) → AreCallsCounted es counts → (k : ℕ × ℕ) (c : ℕ) → get answer_cmp counts k ≡ Some c → Counts (k, c)
  counts-one counts is k c at =
      let told = counted-some (count_by (has_answer k) es) c (sym (is k) ∙ at) in
      let one = one_there (has_answer k) es (subst (λ n. 0 < n) (sym told.0) told.1) in
      let place : status_number (status_of one.0.reply) ≡ k.1 = same_second (answer_of one.0) k one.1 in
      let number : status_number (status_at k.1) ≡ k.1 = ap (λ n. status_number (status_at n)) (sym place) ∙ ap status_number (number-at (status_of one.0.reply)) ∙ place in (
        number,
        record {
          count = sym told.0 ∙ ap (λ (q : ℕ × ℕ). count_by (has_answer q) es) (sym (pair_of (k.0, status_number (status_at k.1)) k refl number)) ∙ sym (answers-same k.0 (status_at k.1));
          some = told.1;
        },
      )

  each-at : {A : Type 0} (P : A → Type 0) (xs : List A) → ((i : ℕ) (x : A) → slice_get xs i ≡ Some x → P x) → AllByRecursion P xs
  each-at P [] f = tt
  each-at P (x ∷ xs) f = (f 0 x refl, each-at P xs (λ i y e. f (suc i) y e))

  each-told : (xs : List ((ℕ × ℕ) × ℕ)) → AllByRecursion Counts xs → AllByRecursion (IsCallCount made way) (map count_told xs)
  each-told [] all = tt
  each-told (x ∷ xs) all = (all.0.1, each-told xs all.1)

  behind-told : (x : (ℕ × ℕ) × ℕ) (xs : List ((ℕ × ℕ) × ℕ)) → Counts x → AllByRecursion Counts xs → AllByRecursion (λ k. answer_cmp x.0 k ≡ Less) (keys_of xs)
      → AllByRecursion (CountsBefore (count_told x)) (map count_told xs)
  behind-told x [] h all less = tt
  behind-told x (y ∷ ys) h all less = (by (answer_before x.0 y.0 less.0), behind-told x ys h all.1 less.1)
    where
      by : (x.0.0 < y.0.0) ⊎ ((x.0.0 ≡ y.0.0) × (x.0.1 < y.0.1)) → CountsBefore (count_told x) (count_told y)
      by (inl l) = inl l
      by (inr (e, l)) = inr (e, subst (λ n. n < status_number (status_at y.0.1)) (sym h.0) (subst (λ n. x.0.1 < n) (sym all.0.0) l))

  ordered-told : (xs : List ((ℕ × ℕ) × ℕ)) → AllByRecursion Counts xs → IsStrictlySortedBy answer_cmp (keys_of xs) → AreCountsInOrder (map count_told xs)
  ordered-told [] all sorted = tt
  ordered-told (x ∷ xs) all sorted =
      (behind-told x xs all.0 all.1 (sorted_head answer_cmp x.0 (keys_of xs) sorted), ordered-told xs all.1 (sorted_tail answer_cmp x.0 (keys_of xs) sorted))

  mapped-at : {A B : Type 0} (f : A → B) (xs : List A) (i : ℕ) (x : A) → slice_get xs i ≡ Some x → slice_get (map f xs) i ≡ Some (f x)
  mapped-at f [] i x e = cc
  mapped-at f (y ∷ xs) zero x e = let same : y ≡ x = cc in ap (λ z. Some (f z)) same
  mapped-at f (y ∷ xs) (suc i) x e = mapped-at f xs i x e

  all-told : (counts : BTreeMap (ℕ × ℕ) ℕ) → AreCallsCounted es counts → (p : ℕ) (s : Status) → 0 < answers made way p s → list_any (is_count_of p s) (map count_told counts.entries) ≡ true
  all-told counts is p s h =
      let some : 0 < count_by (has_answer (p, status_number s)) es = subst (λ n. 0 < n) (answers-same p s) h in
      let found : get answer_cmp counts (p, status_number s) ≡ Some (count_by (has_answer (p, status_number s)) es) = is (p, status_number s) ∙ some-counted (count_by (has_answer (p, status_number s)) es) some in
      let place = place_from_lookup (is_at (answer_cmp (p, status_number s))) counts.entries (count_by (has_answer (p, status_number s)) es) found in
      let key : (p, status_number s) ≡ place.1 = same_answer (p, status_number s) place.1 place.3 in
      any_passes_from_place (is_count_of p s) (map count_told counts.entries) place.0 (count_told (place.1, count_by (has_answer (p, status_number s)) es))
      (mapped-at count_told counts.entries place.0 (place.1, count_by (has_answer (p, status_number s)) es) place.2)
      (both (eq-eqb place.1.0 p (sym (ap (λ (k : ℕ × ℕ). k.0) key)))
      (eq-eqb (status_number (status_at place.1.1)) (status_number s) (ap (λ (k : ℕ × ℕ). status_number (status_at k.1)) (sym key) ∙ ap status_number (number-at s))))
    where
      both : {a b : Bool} → a ≡ true → b ≡ true → (a && b) ≡ true
      both {a} {b} x y = ap (λ c. c && b) x ∙ y

  pub counts-told : (counts : BTreeMap (ℕ × ℕ) ℕ) (list : List CallCount) → AreCallsCounted es counts → IsOrdered answer_cmp counts → list ≡ map count_told counts.entries
      → AreCallCounts made way list
  counts-told counts list is ordered told =
      let all : AllByRecursion Counts counts.entries = each-at Counts counts.entries (λ i e at. counts-one counts is e.0 e.1 (btree_map_get_place answer_cmp_total counts i e.0 e.1 ordered at)) in
      subst (AreCallCounts made way) (sym told) (record {
        each = each-told counts.entries all;
        ordered = ordered-told counts.entries all ordered;
        all = all-told counts is;
      })

pub counted-more : (made : List Made) (way : List ℕ) (i x : ℕ) (old new : BTreeMap (ℕ × ℕ) ℕ) → i < length way → x ≡ get_or way i x → AreCallsCounted (made_along made (take i way)) old
    → ((es : List Made) → AreCallsCounted es old → AreCallsCounted (es ++ made_along made (x ∷ [])) new) → AreCallsCounted (made_along made (take (i + 1) way)) new
counted-more made way i x old new h at was more =
    let one : take (i + 1) way ≡ take i way ++ x ∷ [] = take_more way i x h ∙ ap (λ y. take i way ++ y ∷ []) (sym at) in
    subst (λ l. AreCallsCounted l new) (sym (ap (made_along made) one ∙ filter_map-append (made_at made) (take i way) (x ∷ []))) (more (made_along made (take i way)) was)
