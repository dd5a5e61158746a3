-- The calls of a line, one after another.
use Rattle.std.proofs.Common.{◌≡◌, ℕ, ◌+◌, ◌≤◌, ◌<◌, suc, List, [], ◌∷◌, ◌++◌, map, length, Option, Some, None, refl, sym, ◌∙◌, ap, subst, arith}
use Rattle.std.specs.Prelude.{take, get_or}
use Rattle.std.specs.List.{cons_option}
use Rattle.std.specs.Option.{option_to_list}
use Rattle.std.proofs.lemmas.List.{take_all, append_assoc, append-nil, length-take-le}
use Rattle.std.proofs.Math.Seq.{take-suc}
use Rattle.zt_bits.specs.declared.statuses.Status.{Status}
use Rattle.zt_rows.specs.declared.calls.Call.TheVariants as call
use Rattle.zt_logs.specs.declared.dispositions.Disposition.{Disposition}
use Rattle.zt_logs.specs.declared.line_calls.PartCall.{PartCall}
use Rattle.zt_logs.specs.declared.logged.LoggedCall.{LoggedCall}
use Rattle.zt_logs.specs.LineCalls.{alone, copy_of, copies_from, copies_of, sources_of}
use Rattle.zt_logs.specs.Logged.{IsPart, AreAhead}
use Rattle.zt_logs.specs.ProofsOnly.ReadLines.{AddsAhead}

-- the first ones and one more
more : (A : Type 0) (xs : List A) (i : ℕ) (x : A) → i < length xs → x ≡ get_or xs i x → take (i + 1) xs ≡ take i xs ++ x ∷ []
more A xs i x low here =
    let next : i + 1 ≡ suc i = omega arith in
    rw next (take-suc xs i x low ∙ ap (λ y. take i xs ++ y ∷ []) (sym here))

map_onto : (A B : Type 0) (f : A → B) (xs : List A) (x : A) → map f (xs ++ x ∷ []) ≡ map f xs ++ f x ∷ []
map_onto A B f [] x = refl
map_onto A B f (y ∷ ys) x = ap (λ zs. f y ∷ zs) (map_onto A B f ys x)

-- ---- what is sent

cons_onto : (o : Option PartCall) (xs ys : List PartCall) → cons_option o xs ++ ys ≡ cons_option o (xs ++ ys)
cons_onto None xs ys = refl
cons_onto (Some part) xs ys = refl

copies_push : (p n : ℕ) (xs : List Disposition) (d : Disposition) → n ≡ p + length xs
    → copies_from p (xs ++ d ∷ []) ≡ copies_from p xs ++ option_to_list (copy_of n d)
copies_push p n [] d is =
    let same : n ≡ p = omega (arith, is) in
    rw same (elim (copy_of p d) as (λ o. cons_option o [] ≡ option_to_list o) [
      | None ↦ refl
      | Some part ↦ refl
    ])
copies_push p n (x ∷ xs) d is =
    ap (cons_option (copy_of p x)) (copies_push (suc p) n xs d (omega (arith, is)))
    ∙ sym (cons_onto (copy_of p x) (copies_from (suc p) xs) (option_to_list (copy_of n d)))

pub copies_next : (xs : List Disposition) (i : ℕ) (d : Disposition) → i < length xs → d ≡ get_or xs i d
    → copies_of (take (i + 1) xs) ≡ copies_of (take i xs) ++ option_to_list (copy_of i d)
copies_next xs i d low here =
    let long : length (take i xs) ≡ i = length-take-le i xs (omega (arith, low)) in
    ap copies_of (more Disposition xs i d low here) ∙ copies_push 0 i (take i xs) d (omega (arith, long))

pub copies_all : (xs : List Disposition) (i : ℕ) → length xs ≤ i → copies_of (take i xs) ≡ copies_of xs
copies_all xs i whole = ap copies_of (take_all i xs whole)

pub sources_next : (xs : List Disposition) (i : ℕ) (d : Disposition) → i < length xs → d ≡ get_or xs i d
    → sources_of (take (i + 1) xs) ≡ sources_of (take i xs) ++ d.handle ∷ []
sources_next xs i d low here =
    ap sources_of (more Disposition xs i d low here) ∙ map_onto Disposition ℕ (λ (sent : Disposition). sent.handle) (take i xs) d

pub sources_all : (xs : List Disposition) (i : ℕ) → length xs ≤ i → sources_of (take i xs) ≡ sources_of xs
sources_all xs i whole = ap sources_of (take_all i xs whole)

-- ---- what is closed

abbrev pub each_close : List ℕ → List PartCall
each_close handles = map (λ h. alone (call.HandleClose h)) handles

pub closes_next : (xs : List ℕ) (i h : ℕ) → i < length xs → h ≡ get_or xs i h
    → each_close (take (i + 1) xs) ≡ each_close (take i xs) ++ alone (call.HandleClose h) ∷ []
closes_next xs i h low here =
    ap each_close (more ℕ xs i h low here) ∙ map_onto ℕ PartCall (λ h. alone (call.HandleClose h)) (take i xs) h

-- ---- the calls ahead of the last

ahead_push : (line count : ℕ) (answered : Option Status) (k n : ℕ) (parts : List PartCall) (calls : List LoggedCall) (part : PartCall) (logged : LoggedCall)
    → n ≡ k + length parts → AreAhead line count answered k parts calls → IsPart line count n part logged → logged.recorded.status ≡ answered
    → logged.recorded.handles ≡ option_to_list part.given → AreAhead line count answered k (parts ++ part ∷ []) (calls ++ logged ∷ [])
ahead_push line count answered k n [] [] part logged at are is status handles =
    let same : n ≡ k = omega (arith, at) in
    (subst (λ m. IsPart line count m part logged) same is, status, handles, tt)
ahead_push line count answered k n [] (c ∷ cs) part logged at are is status handles = absurd are
ahead_push line count answered k n (p ∷ ps) [] part logged at are is status handles = absurd are
ahead_push line count answered k n (p ∷ ps) (c ∷ cs) part logged at are is status handles =
    (are.0, are.1, are.2, ahead_push line count answered (suc k) n ps cs part logged (omega (arith, at)) are.3 is status handles)

pub ahead_none : (line count : ℕ) (answered : Option Status) (parts : List PartCall) (old : List LoggedCall) → AddsAhead line count answered (take 0 parts) old old
ahead_none line count answered parts old = ([], sym (append-nil old), tt)

pub ahead_next : (line count : ℕ) (answered : Option Status) (parts : List PartCall) (i : ℕ) (part : PartCall) (logged : LoggedCall) (old mid new : List LoggedCall)
    → i < length parts → part ≡ get_or parts i part → AddsAhead line count answered (take i parts) old mid → new ≡ mid ++ logged ∷ []
    → IsPart line count i part logged → logged.recorded.status ≡ answered → logged.recorded.handles ≡ option_to_list part.given
    → AddsAhead line count answered (take (i + 1) parts) old new
ahead_next line count answered parts i part logged old mid new low here (calls, adds, are) pushed is status handles =
    let long : length (take i parts) ≡ i = length-take-le i parts (omega (arith, low)) in (
      calls ++ logged ∷ [],
      pushed ∙ ap (λ cs. cs ++ logged ∷ []) adds ∙ append_assoc old calls (logged ∷ []),
      subst (λ ps. AreAhead line count answered 0 ps (calls ++ logged ∷ [])) (sym (more PartCall parts i part low here))
          (ahead_push line count answered 0 i (take i parts) calls part logged (omega (arith, long)) are is status handles),
    )

pub ahead_all : (line count : ℕ) (answered : Option Status) (parts : List PartCall) (i : ℕ) (old new : List LoggedCall) → length parts ≤ i
    → AddsAhead line count answered (take i parts) old new → AddsAhead line count answered parts old new
ahead_all line count answered parts i old new whole adds =
    subst (λ ps. AddsAhead line count answered ps old new) (take_all i parts whole) adds
