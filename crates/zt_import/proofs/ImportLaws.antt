-- The calls of a log are run one after another, and then what differs of each is compared behind those before it.
use Rattle.std.proofs.Common.{◌≡◌, ℕ, zero, suc, ◌^◌, ◌-◌, ◌≤◌, ◌<◌, Bool, true, false, not, ◌&&◌, ◌||◌, List, [], ◌∷◌, ◌++◌, length, take, drop, get_or, Option, Some, None, refl, sym, ◌∙◌, ap, subst, arith}
use Rattle.std.specs.Prelude.{◌==◌, slice_get, if◌then◌else◌}
use Rattle.std.proofs.lemmas.Bool.Decides.{nat_tests}
use Rattle.std.specs.List.{filter_map, cons_option}
use Rattle.std.specs.Option.{option_to_list}
use Rattle.zt_history.specs.Tree.{Made, opening_tree}
use Rattle.zt_rows.specs.declared.calls.Reply.{Reply}
use Rattle.zt_logs.specs.declared.logged.LoggedCall.{LoggedCall}
use Rattle.zt_import.specs.declared.trail.Origin.{Origin}
use Rattle.zt_import.specs.declared.trail.Origin.TheVariants as origin
use Rattle.zt_import.specs.declared.trail.Difference.{Difference}
use Rattle.zt_import.specs.declared.trail.TrailStep.{TrailStep}
use Rattle.zt_import.specs.declared.schedule.AskedCall.{AskedCall}
use Rattle.zt_import.specs.Comparison.{agrees}
use Rattle.zt_import.specs.Parts.{is_last, ahead_of, answering}
use Rattle.zt_import.specs.Schedule.{by_schedule}
use Rattle.zt_import.specs.Trails.{number_in, numbers_in, asked_in, difference_with, difference_for, difference_by, difference_at, differences_of, answer_at, spawned_in, child_in, pair_of, pair_by, stands_for, IsMadeOf, IsMadeFor, AreMadeBy}
use Rattle.zt_import.specs.Imports.{IsImportOf}
use Rattle.zt_import.specs.Orders.{IsOrder}
use Rattle.zt_import.specs.ProofsOnly.TakenCalls.{TakenView, ComparedView, IsOneStepMore, IsAside, IsAdopting, HasRun, IsRunOf, Processes, process_in, pairs_in, Knows, Learns, IsComparedAs, ComparesMore, import_of, nothing_compared, Leaves, is_settled, is_settled_by, is_settled_for, is_settled_part}
use Rattle.zt_import.proofs.ComparedLaws.{compared-none}
use Rattle.zt_import.proofs.ListLaws.{so-far-none, so-far-next, so-far-all, so-far-few}
use Rattle.zt_import.proofs.TextLaws.{take-none}
use Rattle.zt_import.proofs.TrailLaws.{filter_map-push, learned-stands}

abbrev step_at : ℕ → Option ℕ → TrailStep
step_at number moment = record { origin = origin.Logged number; moment = moment }

-- ---- the calls in turn

-- none was asked before the first
pub none-run : (calls : List LoggedCall) (old new : TakenView) (before after : Processes) → old ≡ record { tree = opening_tree; trail = [] }
    → ((number : ℕ) → process_in before number ≡ 0) → IsAdopting old new before after → HasRun calls [] new after
none-run calls old new before after opening none adopting =
    let P : TakenView → Type 0 = λ view. AreMadeBy calls view.tree.made [] view.trail in
    let Q : TakenView → Type 0 = λ view. Knows calls view before in
    record {
      numbers = adopting.numbers ∙ ap (λ (v : TakenView). numbers_in v.trail) opening;
      made = adopting.made calls (subst P (sym opening) tt);
      known = adopting.known calls (subst Q (sym opening) none);
    }

-- and one call more
pub one-run : (calls : List LoggedCall) (done : List ℕ) (number : ℕ) (logged : LoggedCall) (a b d : TakenView) (before after : Processes) (moment : Option ℕ)
    → slice_get calls number ≡ Some logged → HasRun calls done a before → IsAside a b → IsOneStepMore b d (step_at number moment)
    → IsMadeOf d.tree.made moment (process_in before logged.process) logged.call → (answer : Option Reply) → answer ≡ answer_at d.tree.made moment
    → Learns before after (pair_of logged.recorded.process (spawned_in answer)) → HasRun calls (done ++ number ∷ []) d after
one-run calls done number logged a b d before after moment found so aside more here answer is learns =
    let knows : Knows calls b before = λ n. so.known n ∙ ap (λ pairs. stands_for pairs n) (sym (aside.pairs calls)) in
    let P : ℕ → Type 0 = λ process. IsMadeOf d.tree.made moment process logged.call in
    let pair = pair_of logged.recorded.process (spawned_in answer) in
    let same : pair_by calls d.tree.made (step_at number moment) ≡ pair =
    ap (λ found. pair_of (child_in found) (spawned_in (answer_at d.tree.made moment))) found
    ∙ ap (λ a. pair_of logged.recorded.process (spawned_in a)) (sym is) in
    record {
      numbers =
          ap numbers_in more.trail ∙ filter_map-push (λ (step : TrailStep). number_in step.origin) b.trail (step_at number moment)
          ∙ ap (λ ns. ns ++ number ∷ []) (aside.numbers ∙ so.numbers);
      made =
          more.made calls (aside.made calls so.made)
          (subst (IsMadeFor d.tree.made (pairs_in calls b) moment) (sym found) (subst P (knows logged.process) here));
      known = λ n.
          learns n ∙ learned-stands pair (process_in before) (pairs_in calls b) n (knows n)
          ∙ ap (λ p. stands_for (cons_option p (pairs_in calls b)) n) (sym same) ∙ ap (λ pairs. stands_for pairs n) (sym (more.pairs calls));
    }

-- ---- what differs, step by step

pub compared-at-first : (calls : List LoggedCall) (made : List Made) (asked : List AskedCall) (left : List TrailStep) (compared : ComparedView)
    → compared ≡ nothing_compared → IsComparedAs (filter_map (difference_at calls made asked) (take 0 left)) compared
compared-at-first calls made asked left compared none =
    let f : TrailStep → Option Difference = difference_at calls made asked in
    let P : List Difference → Type 0 = λ ds. IsComparedAs ds compared in
    let Q : ComparedView → Type 0 = λ c. IsComparedAs [] c in
    subst P (sym (so-far-none f left)) (subst Q (sym none) (record { told = refl; count = refl; by_schedule = refl }))

compared-next : (f : TrailStep → Option Difference) (left : List TrailStep) (k j : ℕ) (step : TrailStep) (old new : ComparedView)
    → k < length left → step ≡ get_or left k step → j ≡ suc k → length left < 2 ^ 64
    → ComparesMore old new (option_to_list (f step)) → IsComparedAs (filter_map f (take k left)) old → IsComparedAs (filter_map f (take j left)) new
compared-next f left k j step old new there is next short more so =
    let P : List Difference → Type 0 = λ ds. IsComparedAs ds new in
    let few = so-far-few f left k (omega (arith, there)) in
    subst P (sym (so-far-next f left k j step there is next))
    (more (filter_map f (take k left)) (omega (arith, few, there, short)) so)

-- the loop compares one step more of those that are left, and leaves V as it is: T and N are V under other names, and `given` is `asked`
pub compared-step : (calls : List LoggedCall) (V T N : TakenView) (asked given : List AskedCall) (left : List TrailStep) (k j : ℕ) (step : TrailStep) (old new : ComparedView)
    → T ≡ V → N ≡ T → given ≡ asked → k < length left → length left < 2 ^ 64 → step ≡ get_or left k step → j ≡ suc k
    → ComparesMore old new (option_to_list (difference_at calls T.tree.made given step))
    → IsComparedAs (filter_map (difference_at calls T.tree.made asked) (take k left)) old
    → (N ≡ V) × IsComparedAs (filter_map (difference_at calls N.tree.made asked) (take j left)) new
compared-step calls V T N asked given left k j step old new t n g there short is next more so =
    let P : TakenView → Type 0 = λ W. IsComparedAs (filter_map (difference_at calls W.tree.made asked) (take j left)) new in
    let S : List AskedCall → Type 0 = λ a. ComparesMore old new (option_to_list (difference_at calls T.tree.made a step)) in
    (n ∙ t, subst P (sym n) (compared-next (difference_at calls T.tree.made asked) left k j step old new there is next short (subst S g more) so))

-- ---- a step that is settled differs from nothing

never : {A : Type 0} → false ≡ true → A
never so = cc

differs-with : (made : List Made) (asked : List AskedCall) (logged : LoggedCall) (number : ℕ) (moment : Option ℕ) (last : Bool) (ahead : ℕ)
    → (not last || ((ahead == 0) && agrees logged.recorded (answer_at made moment))) ≡ true
    → (if last then difference_with made asked logged number (answering made (ahead_of number ahead asked) moment) else None) ≡ None
differs-with made asked logged number moment false ahead so = refl
differs-with made asked logged number moment true zero so =
    let difference : Difference = record { call = number; moment = moment; by_schedule = by_schedule made asked logged number moment } in
    ap (λ xs. difference_with made asked logged number (answering made xs moment)) (take-none (drop (number - 0) asked))
    ∙ ap (λ agreed. if agreed then None else Some difference) so
differs-with made asked logged number moment true (suc ahead) so = never (grind (arith, nat_tests, so))

differs-for : (made : List Made) (asked : List AskedCall) (found : Option LoggedCall) (number : ℕ) (moment : Option ℕ)
    → is_settled_for made found moment ≡ true → difference_for made asked found number moment ≡ None
differs-for made asked None number moment so = refl
differs-for made asked (Some logged) number moment so =
    differs-with made asked logged number moment (is_last logged.part) logged.part.ahead so

differs-by : (calls : List LoggedCall) (made : List Made) (asked : List AskedCall) (n moment : Option ℕ)
    → is_settled_by calls made n moment ≡ true → difference_by calls made asked n moment ≡ None
differs-by calls made asked None moment so = refl
differs-by calls made asked (Some number) moment so = differs-for made asked (slice_get calls number) number moment so

left-differs : (calls : List LoggedCall) (made : List Made) (asked : List AskedCall) (trail left : List TrailStep) → Leaves calls made trail left
    → filter_map (difference_at calls made asked) trail ≡ filter_map (difference_at calls made asked) left
left-differs calls made asked trail left so =
    so (difference_at calls made asked) (λ step within settled. differs-by calls made asked (number_in step.origin) step.moment settled)

-- all that are left were compared, and `listed` is V's trail
pub compared-whole : (calls : List LoggedCall) (V T : TakenView) (asked : List AskedCall) (listed left : List TrailStep) (k : ℕ) (compared : ComparedView)
    → T ≡ V → listed ≡ V.trail → length left ≤ k → asked ≡ asked_in calls listed → Leaves calls V.tree.made V.trail left
    → IsComparedAs (filter_map (difference_at calls T.tree.made asked) (take k left)) compared
    → IsComparedAs (differences_of calls V.tree.made V.trail) compared
compared-whole calls V T asked listed left k compared t list whole is leaves so =
    let f : TrailStep → Option Difference = difference_at calls V.tree.made asked in
    let P : List Difference → Type 0 = λ ds. IsComparedAs ds compared in
    let Q : TakenView → Type 0 = λ W. IsComparedAs (filter_map (difference_at calls W.tree.made asked) (take k left)) compared in
    let R : List AskedCall → Type 0 = λ a. IsComparedAs (filter_map (difference_at calls V.tree.made a) V.trail) compared in
    subst R (is ∙ ap (asked_in calls) list)
    (subst P (so-far-all f left k whole ∙ sym (left-differs calls V.tree.made asked V.trail left leaves)) (subst Q t so))

-- none is left
pub compared-none-left : (calls : List LoggedCall) (V : TakenView) (left : List TrailStep) (compared : ComparedView) → left ≡ []
    → Leaves calls V.tree.made V.trail left → compared ≡ nothing_compared → IsComparedAs (differences_of calls V.tree.made V.trail) compared
compared-none-left calls V left compared none leaves first =
    let f : TrailStep → Option Difference = difference_at calls V.tree.made (asked_in calls V.trail) in
    let P : List Difference → Type 0 = λ ds. IsComparedAs ds compared in
    let Q : ComparedView → Type 0 = λ c. IsComparedAs [] c in
    subst P (sym (left-differs calls V.tree.made (asked_in calls V.trail) V.trail left leaves ∙ ap (filter_map f) none))
    (subst Q (sym first) (record { told = refl; count = refl; by_schedule = refl }))

-- ---- replies that agree, found as the calls are run

pub nothing-left : (calls : List LoggedCall) (old new : TakenView) (before after : Processes) (left : List TrailStep)
    → old ≡ record { tree = opening_tree; trail = [] } → left ≡ [] → IsAdopting old new before after → Leaves calls new.tree.made new.trail left
nothing-left calls old new before after left opening none adopting =
    let P : TakenView → Type 0 = λ view. Leaves calls view.tree.made view.trail [] in
    let Q : List TrailStep → Type 0 = λ steps. Leaves calls new.tree.made new.trail steps in
    subst Q (sym none) (adopting.left calls [] (subst P (sym opening) (λ tell none. refl)))

left-by : (calls : List LoggedCall) (b d : TakenView) (step : TrailStep) (before after : List TrailStep) (settled : Bool)
    → is_settled calls d.tree.made step ≡ settled → after ≡ (if settled then before else before ++ step ∷ []) → IsOneStepMore b d step
    → Leaves calls b.tree.made b.trail before → Leaves calls d.tree.made d.trail after
left-by calls b d step before after true same kept more so =
    let P : List TrailStep → Type 0 = λ steps. Leaves calls d.tree.made d.trail steps in subst P (sym kept) (more.settled calls before same so)
left-by calls b d step before after false same kept more so =
    let P : List TrailStep → Type 0 = λ steps. Leaves calls d.tree.made d.trail steps in subst P (sym kept) (more.left calls before so)

pub one-left : (calls : List LoggedCall) (number : ℕ) (logged : LoggedCall) (a b d : TakenView) (moment : Option ℕ) (before after : List TrailStep) (answer : Option Reply) (agreed : Bool)
    → slice_get calls number ≡ Some logged → IsAside a b → IsOneStepMore b d (step_at number moment) → answer ≡ answer_at d.tree.made moment
    → agreed ≡ agrees logged.recorded answer → after ≡ (if is_settled_part logged.part agreed then before else before ++ step_at number moment ∷ [])
    → Leaves calls a.tree.made a.trail before → Leaves calls d.tree.made d.trail after
one-left calls number logged a b d moment before after answer agreed found aside more is same kept so =
    let settled : is_settled calls d.tree.made (step_at number moment) ≡ is_settled_part logged.part agreed =
    ap (λ f. is_settled_for d.tree.made f moment) found ∙ ap (λ a. is_settled_part logged.part (agrees logged.recorded a)) (sym is)
    ∙ ap (is_settled_part logged.part) (sym same) in
    left-by calls b d (step_at number moment) before after (is_settled_part logged.part agreed) settled kept more (aside.left calls before so)

pub run_of : (calls : List LoggedCall) (numbers : List ℕ) (view : TakenView) (processes : Processes) → IsOrder calls numbers
    → HasRun calls numbers view processes → IsRunOf calls view
run_of calls numbers view processes order run = record { numbers = subst (IsOrder calls) (sym run.numbers) order; made = run.made }

pub imported : (calls : List LoggedCall) (view : TakenView) (compared : ComparedView) → IsRunOf calls view
    → IsComparedAs (differences_of calls view.tree.made view.trail) compared → IsImportOf calls (import_of view compared)
imported calls view compared run so = record { numbers = run.numbers; told = so.told; count = so.count }

-- ---- a step that differs from nothing

not-logged : (o : Origin) → ((number : ℕ) → o ≡ origin.Logged number → ⊥) → number_in o ≡ None
not-logged (origin.Logged number) other = absurd (other number refl)
not-logged (origin.Adopted number) other = refl
not-logged (origin.Process number) other = refl
not-logged (origin.Handle handle) other = refl
not-logged (origin.Pair handle) other = refl
not-logged (origin.Duplicate handle) other = refl
not-logged (origin.Outside number) other = refl

module _ (calls : List LoggedCall) (view : TakenView) (asked : List AskedCall) (step : TrailStep) (compared : ComparedView) where
  none-by : (n : Option ℕ) → number_in step.origin ≡ n → difference_by calls view.tree.made asked n step.moment ≡ None
      → ComparesMore compared compared (option_to_list (difference_at calls view.tree.made asked step))
  none-by n is none = λ differences small so.
      let P : Option Difference → Type 0 = λ d. IsComparedAs (differences ++ option_to_list d) compared in
      subst P (sym (ap (λ m. difference_by calls view.tree.made asked m step.moment) is ∙ none)) (compared-none differences compared so)

  pub aside-compared : ((number : ℕ) → step.origin ≡ origin.Logged number → ⊥)
      → ComparesMore compared compared (option_to_list (difference_at calls view.tree.made asked step))
  aside-compared other = none-by None (not-logged step.origin other) refl

  pub missing-compared : (number : ℕ) → step.origin ≡ origin.Logged number → slice_get calls number ≡ None
      → ComparesMore compared compared (option_to_list (difference_at calls view.tree.made asked step))
  missing-compared number is none =
      none-by (Some number) (ap number_in is) (ap (λ found. difference_for view.tree.made asked found number step.moment) none)
