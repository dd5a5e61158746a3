-- The life of a handle, its text step by step; and why nothing is told of it, or of the handles of an object.
use Rattle.std.proofs.Common.{◌≡◌, ℕ, ◌+◌, ◌<◌, ◌++◌, ◌∷◌, [], List, Option, None, Some, Result, Ok, Err, length, get_or, take, ap, ◌∙◌, refl, subst, sym}
use Rattle.std.specs.Prelude.{IfErr}
use Rattle.std.proofs.lemmas.List.{append_assoc, append-nil, take_more}
use Rattle.zt_rows.specs.declared.refusals.Refusal.{Refusal}
use Rattle.zt_rows.specs.declared.refusals.Refusal.TheVariants as refusal
use Rattle.zt_history.specs.HistoryRefusals.{◌>>=◌, moment_on}
use Rattle.zt_history.specs.Tree.{Made, Tree}
use Rattle.zt_queries.specs.HappeningTimes.{IsRefusedWhen}
use Rattle.zt_lineage.specs.declared.handle_life.HandleLife.{HandleLife}
use Rattle.zt_lineage.specs.declared.handle_life.LifeStep.{LifeStep}
use Rattle.zt_lineage.specs.declared.places.Place.TheVariants as place
use Rattle.zt_lineage.specs.Lives.{IsRefused, life_on}
use Rattle.zt_look.specs.declared.handle_tree.LineageStep.{LineageStep}
use Rattle.zt_look.specs.HandleTree.{lineage_on}
use Rattle.zt_view.specs.declared.question.ViewQuestion.TheVariants as question
use Rattle.zt_view.specs.HandleTexts.{last_step, step_text, steps_text}
use Rattle.zt_view.specs.Questions.{IsRefusedAt, IsUnanswered}

-- ---- one more step

last_more : (before : Option LifeStep) (steps : List LifeStep) (step : LifeStep) → last_step before (steps ++ step ∷ []) ≡ Some step
last_more before [] step = refl
last_more before (next ∷ steps) step = last_more (Some next) steps step

steps_more : (made : List Made) (before : Option LifeStep) (steps : List LifeStep) (step : LifeStep) → steps_text made before (steps ++ step ∷ []) ≡ steps_text made before steps ++ step_text made (last_step before steps) step
steps_more made before [] step = append-nil (step_text made before step)
steps_more made before (next ∷ steps) step =
    ap (λ text. step_text made before next ++ text) (steps_more made (Some next) steps step)
    ∙ sym (append_assoc (step_text made before next) (steps_text made (Some next) steps) (step_text made (last_step (Some next) steps) step))

-- the first steps with the next one
one_more : (steps : List LifeStep) (i : ℕ) (step : LifeStep) → i < length steps → step ≡ get_or steps i step → take (i + 1) steps ≡ take i steps ++ step ∷ []
one_more steps i step h at = take_more steps i step h ∙ ap (λ s. take i steps ++ s ∷ []) (sym at)

pub last_next : (steps : List LifeStep) (i : ℕ) (step : LifeStep) → i < length steps → step ≡ get_or steps i step → Some step ≡ last_step None (take (i + 1) steps)
last_next steps i step h at = sym (ap (last_step None) (one_more steps i step h at) ∙ last_more None (take i steps) step)

pub text_next : (made : List Made) (steps : List LifeStep) (i : ℕ) (before : Option LifeStep) (step : LifeStep) (old text new : List ℕ) → i < length steps → step ≡ get_or steps i step → before ≡ last_step None (take i steps) → text ≡ old ++ steps_text made None (take i steps) → new ≡ text ++ step_text made before step → new ≡ old ++ steps_text made None (take (i + 1) steps)
text_next made steps i before step old text new h at last was more =
    let next : steps_text made None (take (i + 1) steps) ≡ steps_text made None (take i steps) ++ step_text made before step =
    ap (steps_text made None) (one_more steps i step h at) ∙ steps_more made None (take i steps) step
    ∙ ap (λ b. steps_text made None (take i steps) ++ step_text made b step) (sym last)
    in
    more ∙ ap (λ t. t ++ step_text made before step) was ∙ append_assoc old (steps_text made None (take i steps)) (step_text made before step) ∙ ap (λ t. old ++ t) (sym next)

-- ---- why nothing is told

-- there is no such moment, or nothing is found at it, or memory is refused
refused_at : {A : Type 0} (there : Result ℕ Refusal) (found : Result A Refusal) (given : Refusal) → IsRefused found given → IfErr there (λ reason. given ≡ reason) → IsRefusedAt there found given
refused_at (Err reason) found given refused moment = moment
refused_at (Ok _) (Ok _) given refused moment = refused
refused_at (Ok _) (Err _) given refused moment = refused

pub unanswered_life : (t : Tree) (at process value : ℕ) (given : Refusal) → IsRefused (life_on t at (place.Entry process value)) given → IfErr (moment_on t at) (λ reason. given ≡ reason) → IsUnanswered (question.Handle process value at) t given
unanswered_life t at process value given = refused_at (moment_on t at) (life_on t at (place.Entry process value)) given

-- memory is refused behind what was found
for_memory : {A : Type 0} (there : Result ℕ Refusal) (find : ℕ → Result A Refusal) (found : A) → there >>= find ≡ Ok found → IsRefusedAt there (there >>= find) refusal.OutOfMemory
for_memory (Ok at) find found is = subst (λ r. IsRefusedWhen r refusal.OutOfMemory) (sym is) refl
for_memory (Err reason) find found is = cc

-- memory is refused behind what was made of that
for_memory_later : {A B : Type 0} (there : Result ℕ Refusal) (find : ℕ → Result A Refusal) (make : A → Result B Refusal) (made : B) → (there >>= find) >>= make ≡ Ok made → IsRefusedAt there ((there >>= find) >>= make) refusal.OutOfMemory
for_memory_later (Ok at) find make made is = subst (λ r. IsRefusedWhen r refusal.OutOfMemory) (sym is) refl
for_memory_later (Err reason) find make made is = cc

pub unanswered_memory : (t : Tree) (at process value : ℕ) (life : HandleLife) → life_on t at (place.Entry process value) ≡ Ok life → IsUnanswered (question.Handle process value at) t refusal.OutOfMemory
unanswered_memory t at process value life is = for_memory (moment_on t at) _ life is

pub unanswered_lineage : (t : Tree) (at koid : ℕ) (given : Refusal) → IsRefusedWhen (lineage_on t at koid) given → IfErr (moment_on t at) (λ reason. given ≡ reason) → IsUnanswered (question.Lineage koid at) t given
unanswered_lineage t at koid given = refused_at (moment_on t at) (lineage_on t at koid) given

pub unanswered_lineage_memory : (t : Tree) (at koid : ℕ) (list : List LineageStep) → lineage_on t at koid ≡ Ok list → IsUnanswered (question.Lineage koid at) t refusal.OutOfMemory
unanswered_lineage_memory t at koid list is = for_memory_later (moment_on t at) _ _ list is
