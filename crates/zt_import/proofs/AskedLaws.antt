-- The steps of a trail ask the calls of a log one by one.
use Rattle.std.proofs.Common.{◌≡◌, ℕ, zero, suc, ◌≤◌, ◌<◌, List, [], ◌∷◌, ◌++◌, length, take, get_or, Option, Some, refl, ◌∙◌, ap, arith}
use Rattle.std.specs.Prelude.{slice_get, slice_set}
use Rattle.std.proofs.lemmas.Option.{slice_get_read}
use Rattle.zt_logs.specs.declared.logged.LoggedCall.{LoggedCall}
use Rattle.zt_import.specs.declared.schedule.AskedCall.{AskedCall}
use Rattle.zt_import.specs.declared.trail.Origin.{Origin}
use Rattle.zt_import.specs.declared.trail.Origin.TheVariants as origin
use Rattle.zt_import.specs.declared.trail.TrailStep.{TrailStep}
use Rattle.zt_import.specs.Trails.{number_in, put_number, put_asked, asked_after}
use Rattle.zt_import.proofs.ComparedLaws.{take-all}
use Rattle.zt_import.proofs.TextLaws.{take-none, take-next}

pub asked-none : (calls : List LoggedCall) (asked : List AskedCall) (trail : List TrailStep) → asked_after calls asked (take 0 trail) ≡ asked
asked-none calls asked trail = ap (asked_after calls asked) (take-none trail)

after-push : (calls : List LoggedCall) (asked : List AskedCall) (trail : List TrailStep) (step : TrailStep)
    → asked_after calls asked (trail ++ step ∷ []) ≡ put_asked calls (asked_after calls asked trail) step
after-push calls asked [] step = refl
after-push calls asked (first ∷ trail) step = after-push calls (put_asked calls asked first) trail step

pub asked-next : (calls : List LoggedCall) (asked : List AskedCall) (trail : List TrailStep) (k j : ℕ) (step : TrailStep) → k < length trail
    → step ≡ get_or trail k step → j ≡ suc k → asked_after calls asked (take j trail) ≡ put_asked calls (asked_after calls asked (take k trail)) step
asked-next calls asked trail k j step there is next =
    let found : slice_get trail k ≡ Some step = slice_get_read trail (length trail) k step refl there is in
    ap (λ n. asked_after calls asked (take n trail)) next ∙ ap (asked_after calls asked) (take-next trail k step found)
    ∙ after-push calls asked (take k trail) step

pub asked-all : (calls : List LoggedCall) (asked : List AskedCall) (trail : List TrailStep) (k : ℕ) → length trail ≤ k
    → asked_after calls asked (take k trail) ≡ asked_after calls asked trail
asked-all calls asked trail k whole = ap (asked_after calls asked) (take-all k trail whole)

-- ---- one step

pub set_past : {A : Type 0} (xs : List A) (n : ℕ) (x : A) → length xs ≤ n → slice_set xs n x ≡ xs
set_past [] zero x h = refl
set_past [] (suc n) x h = refl
set_past (y ∷ xs) zero x h = absurd (omega (arith, h))
set_past (y ∷ xs) (suc n) x h = ap (λ ys. y ∷ ys) (set_past xs n x (omega (arith, h)))

pub asked-beside : (calls : List LoggedCall) (asked : List AskedCall) (o : Origin) (moment : Option ℕ) → ((number : ℕ) → o ≡ origin.Logged number → ⊥)
    → asked ≡ put_number calls asked (number_in o) moment
asked-beside calls asked (origin.Logged number) moment other = absurd (other number refl)
asked-beside calls asked (origin.Adopted number) moment other = refl
asked-beside calls asked (origin.Process number) moment other = refl
asked-beside calls asked (origin.Handle handle) moment other = refl
asked-beside calls asked (origin.Pair handle) moment other = refl
asked-beside calls asked (origin.Duplicate handle) moment other = refl
asked-beside calls asked (origin.Outside number) moment other = refl
