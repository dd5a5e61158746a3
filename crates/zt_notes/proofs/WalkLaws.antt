-- The moment whose call a line shows, field by field.
use Rattle.std.proofs.Common.{◌≡◌, ℕ, List, ◌∷◌, Option, refl, sym, ◌∙◌}
use Rattle.zt_text.specs.Numbers.{moment_of}
use Rattle.zt_notes.specs.declared.shapes.Field.{Field}
use Rattle.zt_notes.specs.declared.shapes.Field.TheVariants as field
use Rattle.zt_notes.specs.Walks.{Walk, behind, moment_or, moment_shown, next_field}

-- the field of the moment tells it
pub at_moment : (walk : Walk) (what : Field) (words others : List (List ℕ)) (word : List ℕ) → words ≡ word ∷ others
    → what ≡ next_field walk.fields → what ≡ field.Moment → moment_shown walk words ≡ moment_of word
at_moment walk what words others word parts is moment =
    let e : next_field walk.fields ≡ field.Moment = sym is ∙ moment in
    rw (parts, e) refl

other_field : (what : Field) (word : List ℕ) (later : Option ℕ) → ¬ (what ≡ field.Moment) → moment_or what word later ≡ later
other_field field.Moment word later other = absurd (other refl)
other_field _ word later other = refl

-- any other field leaves it to those behind
pub passes_on : (walk : Walk) (what : Field) (words others : List (List ℕ)) (word : List ℕ) → words ≡ word ∷ others
    → what ≡ next_field walk.fields → ¬ (what ≡ field.Moment) → moment_shown walk words ≡ moment_shown (behind walk word) others
passes_on walk what words others word parts is other =
    rw parts (other_field (next_field walk.fields) word (moment_shown (behind walk word) others) (λ moment. other (is ∙ moment)))
