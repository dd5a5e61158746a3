-- What is answered for the moment at which something happened: found where the object is known at the moment that is asked
-- about, and refused where it is not.
use Rattle.std.proofs.Common.{◌≡◌, ℕ, Bool, true, false, List, Option, None, inl, inr, refl, sym, ap, ◌∙◌}
use Rattle.std.specs.Prelude.{filter, Result, Ok, Err}
use Rattle.std.specs.List.{last_or}
use Rattle.zt_rows.specs.declared.calls.Happening.{Happening}
use Rattle.zt_rows.specs.declared.refusals.Refusal.{Refusal}
use Rattle.zt_rows.specs.declared.refusals.Refusal.TheVariants as refusal
use Rattle.zt_history.specs.declared.row_happenings.RowHappening.{RowHappening}
use Rattle.zt_history.specs.declared.row_happenings.RowHappening.TheVariants as turn
use Rattle.zt_history.specs.HistoryRefusals.{check, ◌>>=◌}
use Rattle.zt_history.specs.RowHappenings.{last_shown}
use Rattle.zt_history.specs.Tree.{Made, path, state_at}
use Rattle.zt_queries.specs.HappeningTimes.{at_moment, happens, last_on, is_known, when_on, IsRefusedWhen}
use Rattle.zt_queries.specs.ProofsOnly.RowHappenings.{happening_of}

-- what shows in the rows is what happens between the states
pub shown-is : (t : RowHappening) (x : ℕ) (made : List Made) (at : ℕ) → last_shown t x made at ≡ last_on (happens (happening_of t) x) made at
unfolding last_shown last_on
shown-is turn.Made x made at = refl
shown-is turn.Ended x made at = refl
shown-is turn.PeerClosed x made at = refl

module _ (made : List Made) (at x : ℕ) (what : Happening) where
  pub when-known : (found : Option ℕ) → is_known (state_at made at) x ≡ true → found ≡ last_on (happens what x) made at → when_on what made at x ≡ Ok found
  when-known found known last = ap (λ b. check b refusal.NoObject >>= λ _. Ok (last_on (happens what x) made at)) known ∙ ap Ok (sym last)

  pub when-unknown : is_known (state_at made at) x ≡ false → IsRefusedWhen (when_on what made at x) refusal.NoObject
  when-unknown unknown = by (is_known (state_at made at) x) unknown
    where
      by : (b : Bool) → b ≡ false → IsRefusedWhen (check b refusal.NoObject >>= λ _. Ok (last_on (happens what x) made at)) refusal.NoObject
      by true e = cc
      by false e = inl refl

  -- the last of the path, as a list that it is
  pub last-on : (way : List ℕ) → way ≡ path made at → last_or None (filter (at_moment (happens what x) made) way) ≡ last_on (happens what x) made at
  unfolding last_on
  last-on way is = ap (λ l. last_or None (filter (at_moment (happens what x) made) l)) is

pub when-refused : (r : Result (Option ℕ) Refusal) → IsRefusedWhen r refusal.OutOfMemory
when-refused (Ok found) = refl
when-refused (Err reason) = inr refl
