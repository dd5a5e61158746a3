-- Why nothing is told of an object at a moment: the moment is looked for first.
use Rattle.std.proofs.Common.{◌≡◌, ℕ, Bool, true, false, Ok, inl, inr, refl, subst, sym}
use Rattle.zt_rows.specs.declared.refusals.Refusal.{Refusal}
use Rattle.zt_rows.specs.declared.refusals.Refusal.TheVariants as refusal
use Rattle.zt_history.specs.HistoryRefusals.{◌>>=◌, IsHistoryRefusal, check, moment_on}
use Rattle.zt_history.specs.Tree.{Tree, last_moment, state_at}
use Rattle.zt_queries.specs.HappeningTimes.{IsRefusedWhen, is_known}
use Rattle.zt_view.specs.declared.question.ViewQuestion.TheVariants as question
use Rattle.zt_view.specs.Questions.{IsRefusedAt, IsUnanswered}
use Rattle.std.specs.Prelude.{nat_le}

-- the moment is not there, or memory is refused on the way to it
on_the_way : (inside known : Bool) (at : ℕ) (given : Refusal) → IsHistoryRefusal (check inside refusal.NoMoment >>= λ _. Ok at) given → IsRefusedAt (check inside refusal.NoMoment >>= λ _. Ok at) (check known refusal.NoObject) given
on_the_way false known at given h = h
on_the_way true true at given h = h
on_the_way true false at given h = inr h

pub unanswered_way : (t : Tree) (at koid : ℕ) (given : Refusal) → IsHistoryRefusal (moment_on t at) given → IsUnanswered (question.Object koid at) t given
unanswered_way t at koid given h = on_the_way (nat_le at (last_moment t)) (is_known (state_at t.made at) koid) at given h

-- the object is not known there, or memory is refused
at_the_moment : (known : Bool) (given : Refusal) → IsHistoryRefusal (check known refusal.NoObject) given → IsRefusedWhen (check known refusal.NoObject) given
at_the_moment true given h = h
at_the_moment false given h = inl h

pub unanswered_there : (t : Tree) (at koid : ℕ) (given : Refusal) → moment_on t at ≡ Ok at → IsHistoryRefusal (check (is_known (state_at t.made at) koid) refusal.NoObject) given → IsUnanswered (question.Object koid at) t given
unanswered_there t at koid given there h =
    subst (λ r. IsRefusedAt r (check (is_known (state_at t.made at) koid) refusal.NoObject) given) (sym there) (at_the_moment (is_known (state_at t.made at) koid) given h)

-- memory is refused behind both
for_memory : (known : Bool) → IsRefusedWhen (check known refusal.NoObject) refusal.OutOfMemory
for_memory true = refl
for_memory false = inr refl

pub unanswered_memory : (t : Tree) (at koid : ℕ) → moment_on t at ≡ Ok at → IsUnanswered (question.Object koid at) t refusal.OutOfMemory
unanswered_memory t at koid there =
    subst (λ r. IsRefusedAt r (check (is_known (state_at t.made at) koid) refusal.NoObject) refusal.OutOfMemory) (sym there) (for_memory (is_known (state_at t.made at) koid))
