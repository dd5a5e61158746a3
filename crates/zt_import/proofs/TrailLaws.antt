-- What one step more leaves of a trail, and what it adds.
use Rattle.std.proofs.Common.{◌≡◌, ℕ, zero, suc, ◌≤◌, true, List, [], ◌∷◌, ◌++◌, length, Option, Some, None, Result, Ok, Err, refl, sym, ◌∙◌, ap, subst, arith}
use Rattle.std.proofs.lemmas.List.{append-nil, length-append}
use Rattle.std.proofs.lemmas.List.Elements.{filter_map-append}
use Rattle.std.specs.List.{filter_map, cons_option}
use Rattle.std.specs.Option.{option_map, option_to_list}
use Rattle.std.specs.Prelude.{◌==◌, slice_get, IfOk, OnOk, if◌then◌else◌}
use Rattle.zt_rows.specs.declared.calls.Answer.TheVariants as answer
use Rattle.zt_rows.specs.declared.calls.Call.{Call}
use Rattle.zt_rows.specs.declared.calls.Reply.{Reply}
use Rattle.zt_history.specs.Tree.{Made, Tree, call_at}
use Rattle.zt_history.proofs.GrownLaws.{length-push}
use Rattle.zt_history.proofs.ListLaws.{get-last}
use Rattle.zt_history.proofs.MoreLaws.{made_at-more}
use Rattle.zt_book.proofs.LoadLaws.{branches-called}
use Rattle.zt_logs.specs.declared.logged.LoggedCall.{LoggedCall}
use Rattle.zt_import.specs.declared.trail.Origin.{Origin}
use Rattle.zt_import.specs.declared.trail.Origin.TheVariants as origin
use Rattle.zt_import.specs.declared.trail.TrailStep.{TrailStep}
use Rattle.zt_import.specs.Trails.{number_in, numbers_in, moments_in, moments_to, answer_at, bare, bare_called, spawned_in, child_by, pair_of, pair_by, stands_for, IsMadeOf, IsMadeFor, IsMadeBy, AreMadeBy}
use Rattle.zt_import.specs.Comparison.{agrees}
use Rattle.zt_import.specs.ProofsOnly.TakenCalls.{TakenView, IsTakenTrail, IsOneStepMore, IsAside, IsAdopting, IsCallAt, Processes, process_in, pairs_after, pairs_in, Learns, learned, is_beside, IsWithin, Leaves, is_settled, is_settled_by, is_settled_for, is_settled_part}
use Rattle.zt_import.proofs.LoadedLaws.{made_on, called-moment, called-made, loaded-called}

-- ---- one element more

one_option : {A : Type 0} (o : Option A) → cons_option o [] ≡ option_to_list o
one_option None = refl
one_option (Some x) = refl

pub filter_map-push : {A B : Type 0} (f : A → Option B) (xs : List A) (x : A) → filter_map f (xs ++ x ∷ []) ≡ filter_map f xs ++ option_to_list (f x)
filter_map-push f xs x = filter_map-append f xs (x ∷ []) ∙ ap (λ ys. filter_map f xs ++ ys) (one_option (f x))

-- ---- moments that are there

abbrev pub AreWithin : ℕ → List ℕ → Type 0
AreWithin n [] = Unit {0}
AreWithin n (m ∷ ms) = (m ≤ n) × AreWithin n ms

within-later : (n k : ℕ) (ms : List ℕ) → n ≤ k → AreWithin n ms → AreWithin k ms
within-later n k [] h are = tt
within-later n k (m ∷ ms) h are = (omega (arith, are.0, h), within-later n k ms h are.1)

within-push : (n m : ℕ) (ms : List ℕ) → AreWithin n ms → m ≤ n → AreWithin n (ms ++ m ∷ [])
within-push n m [] are h = (h, tt)
within-push n m (k ∷ ms) are h = (are.0, within-push n m ms are.1 h)

pub within-moments : (n : ℕ) → AreWithin n (moments_to n)
within-moments zero = tt
within-moments (suc n) =
    within-push (suc n) (suc n) (moments_to n) (within-later n (suc n) (moments_to n) (omega arith) (within-moments n)) (omega arith)

within-rest : (n : ℕ) (o : Option ℕ) (ms : List ℕ) → AreWithin n (cons_option o ms) → AreWithin n ms
within-rest n None ms are = are
within-rest n (Some m) ms are = are.1

-- ---- what a step made before it makes still

answer-more : (made more : List Made) (o : Option ℕ) (ms : List ℕ) → AreWithin (length made) (cons_option o ms) → answer_at (made ++ more) o ≡ answer_at made o
answer-more made more None ms are = refl
answer-more made more (Some m) ms are = ap (option_map (λ (e : Made). e.reply)) (made_at-more made more m are.0)

pair-more : (calls : List LoggedCall) (made more : List Made) (step : TrailStep) (ms : List ℕ) → AreWithin (length made) (cons_option step.moment ms)
    → pair_by calls (made ++ more) step ≡ pair_by calls made step
pair-more calls made more step ms are =
    ap (λ a. pair_of (child_by calls step.origin) (spawned_in a)) (answer-more made more step.moment ms are)

pairs-more : (calls : List LoggedCall) (made more : List Made) (pairs : List (ℕ × ℕ)) (trail : List TrailStep) → AreWithin (length made) (moments_in trail)
    → pairs_after calls (made ++ more) pairs trail ≡ pairs_after calls made pairs trail
pairs-more calls made more pairs [] are = refl
pairs-more calls made more pairs (step ∷ trail) are =
    ap (λ p. pairs_after calls (made ++ more) (cons_option p pairs) trail) (pair-more calls made more step (moments_in trail) are)
    ∙ pairs-more calls made more (cons_option (pair_by calls made step) pairs) trail (within-rest (length made) step.moment (moments_in trail) are)

pairs-push : (calls : List LoggedCall) (made : List Made) (pairs : List (ℕ × ℕ)) (trail : List TrailStep) (step : TrailStep)
    → pairs_after calls made pairs (trail ++ step ∷ []) ≡ cons_option (pair_by calls made step) (pairs_after calls made pairs trail)
pairs-push calls made pairs [] step = refl
pairs-push calls made pairs (first ∷ trail) step = pairs-push calls made (cons_option (pair_by calls made first) pairs) trail step

-- ---- what was the log's call before is it still

of-more : (made more : List Made) (o : Option ℕ) (ms : List ℕ) (process : ℕ) (c : Call) → AreWithin (length made) (cons_option o ms)
    → IsMadeOf made o process c → IsMadeOf (made ++ more) o process c
of-more made more None ms process c are is = tt
of-more made more (Some m) ms process c are is =
    ap (λ (e : Option Made). option_map bare_called (option_map (λ (e : Made). (e.process, e.call)) e)) (made_at-more made more m are.0) ∙ is

for-more : (made more : List Made) (pairs : List (ℕ × ℕ)) (o : Option ℕ) (ms : List ℕ) (found : Option LoggedCall) → AreWithin (length made) (cons_option o ms)
    → IsMadeFor made pairs o found → IsMadeFor (made ++ more) pairs o found
for-more made more pairs o ms None are is = tt
for-more made more pairs o ms (Some logged) are is = of-more made more o ms (stands_for pairs logged.process) logged.call are is

by-more : (calls : List LoggedCall) (made more : List Made) (pairs : List (ℕ × ℕ)) (n o : Option ℕ) (ms : List ℕ) → AreWithin (length made) (cons_option o ms)
    → IsMadeBy calls made pairs n o → IsMadeBy calls (made ++ more) pairs n o
by-more calls made more pairs None o ms are is = tt
by-more calls made more pairs (Some number) o ms are is = for-more made more pairs o ms (slice_get calls number) are is

pub made-more : (calls : List LoggedCall) (made more : List Made) (pairs : List (ℕ × ℕ)) (trail : List TrailStep) → AreWithin (length made) (moments_in trail)
    → AreMadeBy calls made pairs trail → AreMadeBy calls (made ++ more) pairs trail
made-more calls made more pairs [] are is = tt
made-more calls made more pairs (step ∷ trail) are is =
    let P : Option (ℕ × ℕ) → Type 0 = λ p. AreMadeBy calls (made ++ more) (cons_option p pairs) trail in (
      by-more calls made more pairs (number_in step.origin) step.moment (moments_in trail) are is.0,
      subst P (sym (pair-more calls made more step (moments_in trail) are))
          (made-more calls made more (cons_option (pair_by calls made step) pairs) trail (within-rest (length made) step.moment (moments_in trail) are) is.1),
    )

pub made-push : (calls : List LoggedCall) (made : List Made) (pairs : List (ℕ × ℕ)) (trail : List TrailStep) (step : TrailStep) → AreMadeBy calls made pairs trail
    → IsMadeBy calls made (pairs_after calls made pairs trail) (number_in step.origin) step.moment → AreMadeBy calls made pairs (trail ++ step ∷ [])
made-push calls made pairs [] step is here = (here, tt)
made-push calls made pairs (first ∷ trail) step is here =
    (is.0, made-push calls made (cons_option (pair_by calls made first) pairs) trail step is.1 here)

-- if the call made at a moment is c but for its handles, it is also d but for its handles, provided both differ in handles alone
pub made-bare : (made : List Made) (o : Option ℕ) (process : ℕ) (c d : Call) → bare c ≡ bare d → IsMadeOf made o process c → IsMadeOf made o process d
made-bare made None process c d same is = tt
made-bare made (Some m) process c d same is = is ∙ ap (λ b. let it : Option (ℕ × Call) = Some (process, b) in it) same

-- ---- steps that are settled are so still

within-one : (count : ℕ) (o : Option ℕ) → IsWithin count o → AreWithin count (cons_option o [])
within-one count None h = tt
within-one count (Some m) h = (h, tt)

within-all : (made more : List Made) (o : Option ℕ) → IsWithin (length made) o → IsWithin (length (made ++ more)) o
within-all made more None h = tt
within-all made more (Some m) h = omega (arith, h, length-append made more)

settled-for-more : (made more : List Made) (found : Option LoggedCall) (o : Option ℕ) → IsWithin (length made) o
    → is_settled_for (made ++ more) found o ≡ is_settled_for made found o
settled-for-more made more None o h = refl
settled-for-more made more (Some logged) o h =
    ap (λ a. is_settled_part logged.part (agrees logged.recorded a)) (answer-more made more o [] (within-one (length made) o h))

settled-by-more : (calls : List LoggedCall) (made more : List Made) (n o : Option ℕ) → IsWithin (length made) o
    → is_settled_by calls (made ++ more) n o ≡ is_settled_by calls made n o
settled-by-more calls made more None o h = refl
settled-by-more calls made more (Some number) o h = settled-for-more made more (slice_get calls number) o h

left-more : (calls : List LoggedCall) (made more : List Made) (trail left : List TrailStep) → Leaves calls made trail left
    → Leaves calls (made ++ more) trail left
left-more calls made more trail left so = λ tell none.
    so tell (λ step within settled.
    none step (within-all made more step.moment within) (settled-by-more calls made more (number_in step.origin) step.moment within ∙ settled))

settled-push : (calls : List LoggedCall) (made : List Made) (trail left : List TrailStep) (step : TrailStep) → IsWithin (length made) step.moment
    → is_settled calls made step ≡ true → Leaves calls made trail left → Leaves calls made (trail ++ step ∷ []) left
settled-push calls made trail left step within settled so = λ tell none.
    filter_map-push tell trail step ∙ ap (λ o. filter_map tell trail ++ option_to_list o) (none step within settled)
    ∙ append-nil (filter_map tell trail) ∙ so tell none

left-push : (calls : List LoggedCall) (made : List Made) (trail left : List TrailStep) (step : TrailStep) → Leaves calls made trail left
    → Leaves calls made (trail ++ step ∷ []) (left ++ step ∷ [])
left-push calls made trail left step so = λ tell none.
    filter_map-push tell trail step ∙ ap (λ ds. ds ++ option_to_list (tell step)) (so tell none) ∙ sym (filter_map-push tell left step)

-- ---- a step more

abbrev pub step_of : Origin → Option ℕ → TrailStep
step_of origin o = record { origin = origin; moment = o }

-- the moments before it are those of the tree before it
grown : (t u : Tree) (process : ℕ) (call : Call) (o : Option ℕ) → IsCallAt t u process call o → (more : List Made) × (u.made ≡ t.made ++ more)
grown t u process call None e = ([], ap (λ (v : Tree). v.made) e ∙ sym (append-nil t.made))
grown t u process call (Some moment) (reply, h) = (_, called-made t u process moment call reply h)

-- and its own is one of those after it
within-called : (t u : Tree) (process : ℕ) (call : Call) (o : Option ℕ) → IsCallAt t u process call o → IsWithin (length u.made) o
within-called t u process call None e = tt
within-called t u process call (Some moment) (reply, h) =
    let next : moment ≡ suc (length t.made) = called-moment t u process moment call reply h in
    let long : length u.made ≡ suc (length t.made) = ap length (called-made t u process moment call reply h) ∙ length-push t.made _ in
    omega (arith, next, long)

-- the call that was made is this
pub made-called : (t u : Tree) (process : ℕ) (call : Call) (o : Option ℕ) → IsCallAt t u process call o → IsMadeOf u.made o process call
made-called t u process call None e = tt
made-called t u process call (Some moment) (reply, h) =
    ap (λ made. option_map bare_called (call_at made moment)) (called-made t u process moment call reply h)
    ∙ ap (λ m. option_map bare_called (call_at (t.made ++ made_on t process call ∷ []) m)) (called-moment t u process moment call reply h)
    ∙ ap (λ (e : Option Made). option_map bare_called (option_map (λ (e : Made). (e.process, e.call)) e))
    (get-last t.made (made_on t process call) (length t.made) refl)

moments-push : (trail : List TrailStep) (origin : Origin) (o : Option ℕ)
    → moments_in (trail ++ step_of origin o ∷ []) ≡ moments_in trail ++ option_to_list o
moments-push trail origin o = filter_map-push (λ (step : TrailStep). step.moment) trail (step_of origin o)

pub taken-more : (t u : Tree) (trail : List TrailStep) (origin : Origin) (process : ℕ) (call : Call) (o : Option ℕ) → IsTakenTrail t trail → IsCallAt t u process call o
    → IsTakenTrail u (trail ++ step_of origin o ∷ [])
taken-more t u trail origin process call None taken same =
    let P : Tree → Type 0 = λ v. IsTakenTrail v (trail ++ step_of origin None ∷ []) in
    subst P (sym same) (record {
      loads = taken.loads;
      main = taken.main;
      moments = moments-push trail origin None ∙ append-nil (moments_in trail) ∙ taken.moments;
    })
taken-more t u trail origin process call (Some moment) taken (reply, h) =
    let next : moment ≡ suc (length t.made) = called-moment t u process moment call reply h in
    let long : length u.made ≡ suc (length t.made) = ap length (called-made t u process moment call reply h) ∙ length-push t.made _ in
    record {
      loads = loaded-called t u process moment call reply taken.loads h;
      main = omega (arith, taken.main, branches-called t 0 process call (answer.Called moment reply, u) h);
      moments = moments-push trail origin (Some moment) ∙ ap (λ ms. ms ++ moment ∷ []) taken.moments
          ∙ ap (λ m. moments_to (length t.made) ++ m ∷ []) next ∙ sym (ap moments_to long);
    }

pub one-more : (t u : Tree) (trail : List TrailStep) (origin : Origin) (process : ℕ) (call : Call) (o : Option ℕ) → IsTakenTrail t trail → IsCallAt t u process call o
    → IsOneStepMore (record { tree = t; trail = trail }) (record { tree = u; trail = trail ++ step_of origin o ∷ [] }) (step_of origin o)
one-more t u trail origin process call o taken called =
    let more = grown t u process call o called in
    let are : AreWithin (length t.made) (moments_in trail) =
    subst (AreWithin (length t.made)) (sym taken.moments) (within-moments (length t.made)) in
    let same : (calls : List LoggedCall) → pairs_after calls u.made [] trail ≡ pairs_after calls t.made [] trail =
    λ calls. ap (λ made. pairs_after calls made [] trail) more.1 ∙ pairs-more calls t.made more.0 [] trail are in
    let still : (calls : List LoggedCall) (left : List TrailStep) → Leaves calls t.made trail left → Leaves calls u.made trail left =
    λ calls left so.
    let P : List Made → Type 0 = λ made. Leaves calls made trail left in
    subst P (sym more.1) (left-more calls t.made more.0 trail left so) in
    record {
      trail = refl;
      made = λ calls before here.
          let P : List Made → Type 0 = λ made. AreMadeBy calls made [] trail in
          let Q : List (ℕ × ℕ) → Type 0 = λ pairs. IsMadeBy calls u.made pairs (number_in origin) o in
          made-push calls u.made [] trail (step_of origin o) (subst P (sym more.1) (made-more calls t.made more.0 [] trail are before))
          (subst Q (sym (same calls)) here);
      pairs = λ calls. pairs-push calls u.made [] trail (step_of origin o) ∙ ap (cons_option (pair_by calls u.made (step_of origin o))) (same calls);
      settled = λ calls left settled so.
          settled-push calls u.made trail left (step_of origin o) (within-called t u process call o called) settled (still calls left so);
      left = λ calls left so. left-push calls u.made trail left (step_of origin o) (still calls left so);
    }

-- a trail of t with the step of a call behind it is a trail of the tree u after it; `kept` is `before`, and `found` is o
pub taken-pushed : (t u : Tree) (before kept after : List TrailStep) (origin : Origin) (process : ℕ) (call : Call) (o found : Option ℕ) → IsTakenTrail t before
    → IsCallAt t u process call found
    → found ≡ o → kept ≡ before → after ≡ kept ++ step_of origin o ∷ [] → IsTakenTrail u after
taken-pushed t u before kept after origin process call o found taken called is same pushed =
    let P : List TrailStep → Type 0 = λ trail. IsTakenTrail u trail in
    subst P (sym (pushed ∙ ap (λ trail. trail ++ step_of origin o ∷ []) same))
    (taken-more t u before origin process call o taken (subst (IsCallAt t u process call) is called))

pub one-more-pushed : (t u : Tree) (before kept after : List TrailStep) (origin : Origin) (process : ℕ) (call : Call) (o found : Option ℕ) (old : TakenView)
    → ◌≡◌ {A = TakenView} (record { tree = t; trail = before }) old → IsTakenTrail t before → IsCallAt t u process call found
    → found ≡ o → kept ≡ before → after ≡ kept ++ step_of origin o ∷ []
    → IsOneStepMore old (record { tree = u; trail = after }) (step_of origin o)
one-more-pushed t u before kept after origin process call o found old view taken called is same pushed =
    let P : TakenView → Type 0 = λ v. IsOneStepMore v (record { tree = u; trail = after }) (step_of origin o) in
    let Q : List TrailStep → Type 0 = λ trail. IsOneStepMore (record { tree = t; trail = before }) (record { tree = u; trail = trail }) (step_of origin o) in
    subst P view
    (subst Q (sym (pushed ∙ ap (λ trail. trail ++ step_of origin o ∷ []) same))
    (one-more t u before origin process call o taken (subst (IsCallAt t u process call) is called)))

pub made-pushed : (t u : Tree) (process : ℕ) (call : Call) (o found : Option ℕ) → IsCallAt t u process call found → found ≡ o → IsMadeOf u.made o process call
made-pushed t u process call o found called is = made-called t u process call o (subst (IsCallAt t u process call) is called)

-- ---- steps beside those of the log

beside-number : (o : Origin) → is_beside o ≡ true → number_in o ≡ None
beside-number (origin.Logged number) e = cc
beside-number (origin.Adopted number) e = refl
beside-number (origin.Process number) e = refl
beside-number (origin.Handle handle) e = refl
beside-number (origin.Pair handle) e = refl
beside-number (origin.Duplicate handle) e = refl
beside-number (origin.Outside number) e = refl

beside-child : (calls : List LoggedCall) (o : Origin) → is_beside o ≡ true → child_by calls o ≡ None
beside-child calls (origin.Logged number) e = cc
beside-child calls (origin.Adopted number) e = cc
beside-child calls (origin.Process number) e = refl
beside-child calls (origin.Handle handle) e = refl
beside-child calls (origin.Pair handle) e = refl
beside-child calls (origin.Duplicate handle) e = refl
beside-child calls (origin.Outside number) e = refl

no-number : (old new : TakenView) (origin : Origin) (o : Option ℕ) → number_in origin ≡ None → IsOneStepMore old new (step_of origin o)
    → numbers_in new.trail ≡ numbers_in old.trail
no-number old new origin o none more =
    ap numbers_in more.trail ∙ filter_map-push (λ (step : TrailStep). number_in step.origin) old.trail (step_of origin o)
    ∙ ap (λ n. numbers_in old.trail ++ option_to_list n) none ∙ append-nil (numbers_in old.trail)

pub aside_one : (old new : TakenView) (origin : Origin) (o : Option ℕ) → is_beside origin ≡ true → IsOneStepMore old new (step_of origin o)
    → IsAside old new
aside_one old new origin o beside more = record {
  numbers = no-number old new origin o (beside-number origin beside) more;
  made = λ calls before.
      let P : Option ℕ → Type 0 = λ n. IsMadeBy calls new.tree.made (pairs_in calls old) n o in
      more.made calls before (subst P (sym (beside-number origin beside)) tt);
  pairs = λ calls.
      more.pairs calls
      ∙ ap (λ c. cons_option (pair_of c (spawned_in (answer_at new.tree.made o))) (pairs_in calls old)) (beside-child calls origin beside);
  left = λ calls left so.
      more.settled calls left (ap (λ n. is_settled_by calls new.tree.made n o) (beside-number origin beside)) so;
}

pub aside_none : (view : TakenView) → IsAside view view
aside_none view = record { numbers = refl; made = λ calls are. are; pairs = λ calls. refl; left = λ calls left so. so }

pub aside_both : (old mid new : TakenView) → IsAside old mid → IsAside mid new → IsAside old new
aside_both old mid new first second = record {
  numbers = second.numbers ∙ first.numbers;
  made = λ calls are. second.made calls (first.made calls are);
  pairs = λ calls. second.pairs calls ∙ first.pairs calls;
  left = λ calls left so. second.left calls left (first.left calls left so);
}

pub aside_after : {A E : Type 0} (r : Result A E) (old mid new : TakenView) → IsAside old mid → OnOk r (IsAside mid new) → OnOk r (IsAside old new)
aside_after (Ok a) old mid new first second = aside_both old mid new first second
aside_after (Err e) old mid new first second = tt

-- of a call that is asked and found no memory nothing is said
pub aside_ok : {E : Type 0} (r : Result (Option ℕ) E) (old new : TakenView) (origin : Origin) → is_beside origin ≡ true
    → IfOk r (λ o. IsOneStepMore old new (step_of origin o)) → OnOk r (IsAside old new)
aside_ok (Ok o) old new origin beside more = aside_one old new origin o beside more
aside_ok (Err e) old new origin beside more = tt

-- ---- processes that stand for those of the log

pub learned-stands : (pair : Option (ℕ × ℕ)) (before : ℕ → ℕ) (pairs : List (ℕ × ℕ)) (number : ℕ) → before number ≡ stands_for pairs number
    → learned pair before number ≡ stands_for (cons_option pair pairs) number
learned-stands None before pairs number h = h
learned-stands (Some pair) before pairs number h = ap (λ process. if pair.0 == number then pair.1 else process) h

pub adopting-aside : (old new : TakenView) (before after : Processes) → after ≡ before → IsAside old new → IsAdopting old new before after
adopting-aside old new before after same aside = record {
  numbers = aside.numbers;
  made = aside.made;
  known = λ calls so number.
      ap (λ processes. process_in processes number) same ∙ so number ∙ ap (λ pairs. stands_for pairs number) (sym (aside.pairs calls));
  left = aside.left;
}

pub adopting-both : (old mid new : TakenView) (before between after : Processes) → IsAdopting old mid before between → IsAdopting mid new between after
    → IsAdopting old new before after
adopting-both old mid new before between after first second = record {
  numbers = second.numbers ∙ first.numbers;
  made = λ calls are. second.made calls (first.made calls are);
  known = λ calls so. second.known calls (first.known calls so);
  left = λ calls left so. second.left calls left (first.left calls left so);
}

pub adopting-none : (view : TakenView) (processes : Processes) → IsAdopting view view processes processes
adopting-none view processes = record { numbers = refl; made = λ calls are. are; known = λ calls so. so; left = λ calls left so. so }

-- one that nothing in the log made
pub adopting-one : (old new : TakenView) (before after : Processes) (number : ℕ) (o : Option ℕ) (answer : Option Reply)
    → IsOneStepMore old new (step_of (origin.Adopted number) o) → answer ≡ answer_at new.tree.made o
    → Learns before after (pair_of (Some number) (spawned_in answer)) → IsAdopting old new before after
adopting-one old new before after number o answer more is learns = record {
  numbers = no-number old new (origin.Adopted number) o refl more;
  made = λ calls are. more.made calls are tt;
  known = λ calls so n.
      learns n ∙ learned-stands (pair_of (Some number) (spawned_in answer)) (process_in before) (pairs_in calls old) n (so n)
      ∙ ap (λ a. stands_for (cons_option (pair_of (Some number) (spawned_in a)) (pairs_in calls old)) n) is
      ∙ ap (λ pairs. stands_for pairs n) (sym (more.pairs calls));
  left = λ calls left so. more.settled calls left refl so;
}
