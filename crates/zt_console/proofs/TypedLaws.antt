-- One byte more that was typed stands behind those before it.
use Rattle.std.proofs.Common.{◌≡◌, ◌≢◌, ℕ, ◌<◌, ◌+◌, Bool, true, false, List, [], ◌∷◌, ◌++◌, length, take, set, Option, None, sym, subst, refl, arith}
use Rattle.std.specs.Prelude.{All}
use Rattle.std.specs.Io.KnownBytes.{Consumes}
use Rattle.std.proofs.lemmas.List.{take_more_set}
use Rattle.std.proofs.lemmas.List.Elements.{All-push}
use Rattle.zt_console.specs.Typed.{IsAnswered, IsAskedWithin, IsPiece}
use Rattle.zt_console.specs.declared.typed_lines.Aside.TheVariants as aside
use Rattle.zt_console.proofs.LineFeedLaws.{consumes_more}

pub typed_more : (a b c : Option (List ℕ)) (buf : List ℕ) (place byte : ℕ) → place < length buf → Consumes a b (take place buf) → Consumes b c (byte ∷ [])
    → Consumes a c (take (place + 1) (set buf place byte))
typed_more a b c buf place byte within before next =
    subst (Consumes a c) (sym (take_more_set buf place byte within)) (consumes_more a b c (take place buf) (byte ∷ []) before next)

pub no_feed_typed : (buf : List ℕ) (place byte : ℕ) → place < length buf → byte ≢ 10 → All (λ b. b ≢ 10) (take place buf) → All (λ b. b ≢ 10) (take (place + 1) (set buf place byte))
no_feed_typed buf place byte within other before =
    subst (All (λ b. b ≢ 10)) (sym (take_more_set buf place byte within)) (All-push (λ b. b ≢ 10) (take place buf) byte before other)

pub line_typed : (buf : List ℕ) (place : ℕ) → place < length buf → All (λ b. b ≢ 10) (take place buf) → IsPiece true (take (place + 1) (set buf place 10))
line_typed buf place within before = (take place buf, take_more_set buf place 10 within, before)

pub empty_line : (buf : List ℕ) → 0 < length buf → take 1 (set buf 0 10) ≡ 10 ∷ []
empty_line buf within = take_more_set buf 0 10 within

-- what asks nothing is given as it is, and so is a part of a line
pub given_plain : (within ended : Bool) (typed : List ℕ) → IsAskedWithin within typed None → IsAnswered within typed typed ended
given_plain within ended typed none = record {
  within_line = λ e. refl;
  other = λ h. refl;
  asked = λ e it same. absurd (none e it same);
  quit = λ e same. absurd (none e aside.Quit same);
}
