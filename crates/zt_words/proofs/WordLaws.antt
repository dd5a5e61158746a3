-- What the words of a command line ask for, by what is read of them.
use Rattle.std.proofs.Common.{rules, ◌≡◌, ℕ, Bool, List, [], ◌∷◌, ◌++◌, ◌&&◌, Option, Some, None, Result, Ok, Err, true, false, codes, map, option_map, sym, ◌∙◌, ap, subst, refl}
use Rattle.std.specs.Prelude.{IfOk, is_some, not, unwrap_or}
use Rattle.std.specs.Borrow.{Bor}
use Rattle.std.specs.Str.Parse.{ParsesUnsigned}
use Rattle.clap.specs.Walk.{is_empty, is_free_arg}
use Rattle.clap.specs.Words.{AddsConflicts, AddsRequirements, App, HasMatchesOf, ReadsOne, Row, Text, all_of, first_of, first_value, is_simple, matched_of, one_of, one_text, raw_values, rows_of, rule_of, subcommand_of, subcommand_rows_of}
use Rattle.clap.specs.declared.builder.arg.Arg.{Arg}
use Rattle.clap.specs.declared.builder.arg.ArgPredicate.{ArgPredicate}
use Rattle.clap.specs.declared.parser.matches.Found.{Found}
use Rattle.clap.specs.declared.parser.matches.ArgMatches.{ArgMatches}
use Rattle.clap.proofs.WalkLemmas.{first_value-rows, one_text-rows, raw_values-rows}
use Rattle.clap.proofs.OnLiterals.{clap_on_literals}
use Rattle.zt_words.specs.declared.fault.Fault.{Fault}
use Rattle.zt_words.specs.declared.no_question.NoQuestion.{NoQuestion}
use Rattle.zt_words.specs.declared.question.Options.{Options}
use Rattle.zt_words.specs.declared.question.Question.{Question}
use Rattle.zt_words.specs.declared.words.Asked.{Asked}
use Rattle.zt_words.specs.LookWords.{AreOptionsOf, IsQuestionIn}
use Rattle.zt_words.specs.Questions.{question_of}
use Rattle.zt_words.specs.Rules.{IsFlagOf, IsNumberOf, IsOptionalNumberOf}
use Rattle.zt_words.specs.Words.{IsAskedBy, command_line}

-- a word's value, by the row of the word
pub value_of_row : (f : Found) (id : Text) (r : Option (Bor Text)) → option_map (λ s. s.now) r ≡ first_value f id → option_map (λ s. s.now) r ≡ first_of id (rows_of f)
value_of_row f id r h = h ∙ first_value-rows f id

-- a word's value, by the row of the word, or this other value where the word has none
pub text_of_row : (f : Found) (id : Text) (r : Option (Bor Text)) (other : Bor Text) → option_map (λ s. s.now) r ≡ first_value f id → (unwrap_or r other).now ≡ unwrap_or (first_of id (rows_of f)) other.now
text_of_row f id r other h = go r (value_of_row f id r h)
  where
    go : (o : Option (Bor Text)) → option_map (λ s. s.now) o ≡ first_of id (rows_of f) → (unwrap_or o other).now ≡ unwrap_or (first_of id (rows_of f)) other.now
    go None e = rw (sym e) refl
    go (Some s) e = rw (sym e) refl

-- a word's number, by the row of the word
pub number_of_row : {E : Type 0} (G : List ℕ → Result ℕ E → Type 0) (bits : ℕ) (f : Found) (id : Text) (r : Option ℕ) (other : ℕ)
    → ((t : List ℕ) (x : Result ℕ E) → G t x → ParsesUnsigned bits 10 t x)
    → ((t : List ℕ) → one_text f id ≡ Some t → ReadsOne G t r) → IsNumberOf bits (one_of id (rows_of f)) (unwrap_or r other)
number_of_row {E} G bits f id r other parses read = go (one_of id (rows_of f)) (λ t e. read t (one_text-rows f id ∙ e))
  where
    number : (t : Text) (o : Option ℕ) → ReadsOne G t o → IsNumberOf bits (Some t) (unwrap_or o other)
    number t (Some n) h numeral small = (parses t (Ok n) h).1
    number t None h numeral small = absurd (parses t (Err h.0) h.1 (numeral, small))

    go : (o : Option Text) → ((t : List ℕ) → o ≡ Some t → ReadsOne G t r) → IsNumberOf bits o (unwrap_or r other)
    go None h = search rules
    go (Some t) h = number t r (h t refl)

-- a word's number, by the row of the word, or none where the word is not there
pub optional_number_of_row : (E : Type 0) (G : List ℕ → Result ℕ E → Type 0) (bits : ℕ) (f : Found) (id : Text) (r : Option ℕ)
    → ((t : List ℕ) (x : Result ℕ E) → G t x → ParsesUnsigned bits 10 t x)
    → (one_text f id ≡ None → r ≡ None) → ((t : List ℕ) → one_text f id ≡ Some t → ReadsOne G t r) → IsOptionalNumberOf bits (one_of id (rows_of f)) r
optional_number_of_row E G bits f id r parses lacks read =
    go (one_of id (rows_of f)) (λ e. lacks (one_text-rows f id ∙ e)) (λ t e. read t (one_text-rows f id ∙ e))
  where
    number : (t : Text) (o : Option ℕ) → ReadsOne G t o → IsOptionalNumberOf bits (Some t) o
    number t (Some n) h numeral small = ap Some (parses t (Ok n) h).1
    number t None h numeral small = absurd (parses t (Err h.0) h.1 (numeral, small))

    go : (o : Option Text) → (o ≡ None → r ≡ None) → ((t : List ℕ) → o ≡ Some t → ReadsOne G t r) → IsOptionalNumberOf bits o r
    go None none some = none refl
    go (Some t) none some = number t r (some t refl)

-- whether a word has a value, by its row
pub given_of_row : (f : Found) (id : Text) (r : Option (Bor Text)) → option_map (λ s. s.now) r ≡ first_value f id → is_some r ≡ is_some (first_of id (rows_of f))
given_of_row f id r h = same r ∙ ap is_some (value_of_row f id r h)
  where
    same : (o : Option (Bor Text)) → is_some o ≡ is_some (option_map (λ s. s.now) o)
    same None = refl
    same (Some s) = refl

-- a flag, by its row
pub flag_of_row : (f : Found) (id : Text) (r : Bool) → (one_text f id ≡ None → r ≡ false) → (one_text f id ≡ Some (codes "true") → r ≡ true)
    → (one_text f id ≡ Some (codes "false") → r ≡ false) → IsFlagOf (one_of id (rows_of f)) r
flag_of_row f id r lacks given kept = record {
  none = λ e. lacks (one_text-rows f id ∙ e);
  yes = λ e. given (one_text-rows f id ∙ e);
  no = λ e. kept (one_text-rows f id ∙ e);
}

-- all values of a word, by its row; none where it lacks
pub texts_of_row : (f : Found) (id : Text) (r : Option (Bor (List (Bor Text)))) → option_map (λ s. map (λ v. v.now) s.now) r ≡ option_map raw_values (matched_of f id)
    → unwrap_or (option_map (λ s. map (λ v. v.now) s.now) r) [] ≡ unwrap_or (all_of id (rows_of f)) []
texts_of_row f id r h = ap (λ o. unwrap_or o []) (h ∙ raw_values-rows f id)

-- the question that the texts of the words ask
pub asked_by_rows : (rows : List Row) (o : Options) (r : Result Question NoQuestion) (name : Text) (words : List Text) → AreOptionsOf rows o
    → name ≡ unwrap_or (first_of (codes "QUESTION") rows) [] → words ≡ unwrap_or (all_of (codes "WORD") rows) []
    → IfOk r (λ asked. question_of name words o ≡ Some asked) → IfOk r (IsQuestionIn rows)
asked_by_rows rows o (Ok asked) name words given named rest h = record { options = o; given = given; asked = rw (← named, ← rest) h }
asked_by_rows rows o (Err reason) name words given named rest h = tt

-- an argument that may not stand beside another has a rule on another
pub rule_of-conflicting : (old new : Arg) (x : Bor Text) → AddsConflicts old new (x ∷ []) → old.conflicts.items ≡ [] → rule_of new ≡ record (rule_of old) { is_free = false }
rule_of-conflicting old new x h none = ap rule_of h.0 ∙ ap (λ b. record (rule_of old) { is_free = b }) not_free
  where
    never : (b : Bool) → (b && false) ≡ false
    never true = refl
    never false = refl

    some : is_empty new.conflicts.items ≡ false
    some = ap is_empty (h.1 ∙ ap (λ l. l ++ x ∷ []) none)

    not_free : is_free_arg (record old { conflicts = new.conflicts }) ≡ false
    not_free =
        ap (λ b. not old.exclusive && (b && (is_empty old.needs.items && (is_empty old.r_ifs.items && (is_empty old.r_ifs_all.items
        && (is_empty old.r_unless.items && is_empty old.r_unless_all.items)))))) some
        ∙ never (not old.exclusive)

-- an argument that gets its first requirement keeps its rule, but is no longer free
pub rule_of-needing : (old new : Arg) (x : ArgPredicate × Bor Text) → AddsRequirements old new (x ∷ []) → old.needs.items ≡ [] → rule_of new ≡ record (rule_of old) { is_free = false }
rule_of-needing old new x h none = ap rule_of h.0 ∙ ap (λ b. record (rule_of old) { is_free = b }) not_free
  where
    never : (a b : Bool) → (a && (b && false)) ≡ false
    never true true = refl
    never true false = refl
    never false b = refl

    some : is_empty new.needs.items ≡ false
    some = ap is_empty (h.1 ∙ ap (λ l. l ++ x ∷ []) none)

    not_free : is_free_arg (record old { needs = new.needs }) ≡ false
    not_free =
        ap (λ b. not old.exclusive && (is_empty old.conflicts.items && (b && (is_empty old.r_ifs.items && (is_empty old.r_ifs_all.items
        && (is_empty old.r_unless.items && is_empty old.r_unless_all.items)))))) some
        ∙ never (not old.exclusive) (is_empty old.conflicts.items)

-- the command line is one of those of which the words alone decide what they ask for
line_is_simple : is_simple command_line ≡ true
unfolding clap_on_literals
line_is_simple = refl

-- what is asked for by what was met, by the words
pub asked_if_met : (words : List Text) (m : ArgMatches) (r : Result Asked Fault) → HasMatchesOf command_line words m
    → IfOk r (IsAskedBy (subcommand_rows_of m)) → IfOk r (IsAskedBy (subcommand_of command_line words))
asked_if_met words m r has h = subst (λ met. IfOk r (IsAskedBy met)) (has line_is_simple).1 h

pub matched_words : (line : App) (words : List Text) (m : ArgMatches) → line ≡ command_line → HasMatchesOf line words m → HasMatchesOf command_line words m
matched_words line words m is has = subst (λ a. HasMatchesOf a words m) is has
