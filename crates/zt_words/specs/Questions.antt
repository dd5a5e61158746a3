-- The questions of `look`: which words ask them.
use Rattle.std.specs.Prelude.{ℕ, ◌==◌, ◌||◌, ◌&&◌, Bool, true, false, not, if◌then◌else◌, length, List, [], ◌∷◌, Option, Some, None, is_some, codes, option_map, unwrap_or}
use Rattle.std.specs.List.{list_all, list_any}
use Rattle.std.specs.Option.{option_and_then}
use Rattle.std.specs.Str.{bytes_eq}
use Rattle.std.specs.Str.Parse.{digits_value, without_leading_plus}
use Rattle.zt_rows.specs.Room.{most_calls}
use Rattle.clap.specs.ValueTests.{is_unsigned_in}
use Rattle.clap.specs.Words.{Text}
use Rattle.zt_look.specs.declared.event_list.HappeningSet.{HappeningSet}
use Rattle.zt_words.specs.declared.question.Options.{Options}
use Rattle.zt_words.specs.declared.question.Question.{Question}
use Rattle.zt_words.specs.declared.question.Question.TheVariants as question
use Rattle.zt_words.specs.declared.question.Topic.{Topic}
use Rattle.zt_words.specs.declared.question.Topic.TheVariants as topic

-- ---- words

-- the number of a decimal up to this one, which may have a plus ahead
abbrev pub number_up_to : ℕ → Text → Option ℕ
number_up_to most word = if is_unsigned_in 0 most word then Some (digits_value 10 (without_leading_plus word)) else None

abbrev pub moment_word : Text → Option ℕ
moment_word = number_up_to most_calls

abbrev pub koid_word : Text → Option ℕ
koid_word = number_up_to 18446744073709551615

abbrev pub handle_word : Text → Option ℕ
handle_word = number_up_to 4294967295

-- the word that stands alone
abbrev pub one_word : List Text → Option Text
one_word (word ∷ []) = Some word
one_word _ = None

abbrev pub one_koid : List Text → Option ℕ
one_koid words = option_and_then koid_word (one_word words)

-- ---- calls, from the first moment to the last that are named

abbrev pub first_of_calls : List Text → Option ℕ
first_of_calls [] = Some 1
first_of_calls (word ∷ words) = moment_word word

abbrev pub last_of_calls : List Text → Option ℕ
last_of_calls [] = Some most_calls
last_of_calls (first ∷ []) = Some most_calls
last_of_calls (first ∷ word ∷ []) = moment_word word
last_of_calls _ = None

abbrev pub filter_from : Options → ℕ → ℕ → Question
filter_from o first last =
    question.Calls (record { first = first; last = last; failed = o.failed; process = o.process; object = o.object })

abbrev pub calls_question : List Text → Options → Option Question
calls_question words o =
    if is_some o.since then None
    else option_and_then (λ first. option_map (filter_from o first) (last_of_calls words)) (first_of_calls words)

-- ---- changed rows: by the call of a moment, or between two moments

abbrev pub between_question : Text → Text → Option Question
between_question from to = option_and_then (λ first. option_map (question.ChangedBetween first) (moment_word to)) (moment_word from)

abbrev pub changed_question : List Text → Option Question
changed_question (word ∷ []) = option_map question.Changed (moment_word word)
changed_question (from ∷ to ∷ []) = between_question from to
changed_question _ = None

-- ---- a handle: its process and its value

abbrev pub handle_of : Text → Text → Option Question
handle_of process value = option_and_then (λ p. option_map (question.Handle p) (handle_word value)) (koid_word process)

abbrev pub handle_question : List Text → Option Question
handle_question (process ∷ value ∷ []) = handle_of process value
handle_question _ = None

-- ---- notes: of one moment, or the calls that have a text; the text has a byte

abbrev pub note_question : List Text → Option Question
note_question words = option_map question.Note (option_and_then moment_word (one_word words))

abbrev pub asked_for : Text → Option Question
asked_for text = if length text == 0 then None else Some question.Find

abbrev pub find_question : List Text → Option Question
find_question words = option_and_then asked_for (one_word words)

-- ---- happenings: those that are named, or all

abbrev pub is_happening : Text → Bool
is_happening word =
    bytes_eq word (codes "made") || (bytes_eq word (codes "ended") || (bytes_eq word (codes "peer_closed") || bytes_eq word (codes "leaked")))

abbrev pub is_named : List Text → Text → Bool
is_named words name = list_any (λ word. bytes_eq word name) words

abbrev pub all_happenings : HappeningSet
all_happenings = record { made = true; ended = true; peer_closed = true; leaked = true }

abbrev pub named_happenings : List Text → HappeningSet
named_happenings words = record {
  made = is_named words (codes "made");
  ended = is_named words (codes "ended");
  peer_closed = is_named words (codes "peer_closed");
  leaked = is_named words (codes "leaked");
}

abbrev pub happenings_of : List Text → Option HappeningSet
happenings_of words =
    if length words == 0 then Some all_happenings
    else (if list_all is_happening words then Some (named_happenings words) else None)

-- ---- questions

abbrev pub late_topic_named : Text → Option Topic
late_topic_named name =
    if bytes_eq name (codes "alive") then Some topic.Alive
    else (if bytes_eq name (codes "handle") then Some topic.Handle
    else (if bytes_eq name (codes "lineage") then Some topic.Lineage
    else (if bytes_eq name (codes "note") then Some topic.Note
    else (if bytes_eq name (codes "find") then Some topic.Find else None))))

abbrev pub other_topic_named : Text → Option Topic
other_topic_named name =
    if bytes_eq name (codes "handles") then Some topic.Handles
    else (if bytes_eq name (codes "messages") then Some topic.Messages
    else (if bytes_eq name (codes "branches") then Some topic.Branches
    else (if bytes_eq name (codes "summary") then Some topic.Summary else late_topic_named name)))

-- what a question with this name asks about
abbrev pub topic_named : Text → Option Topic
topic_named name =
    if bytes_eq name (codes "calls") then Some topic.Calls
    else (if bytes_eq name (codes "changed") then Some topic.Changed
    else (if bytes_eq name (codes "events") then Some topic.Events
    else (if bytes_eq name (codes "object") then Some topic.Object else other_topic_named name)))

-- it is asked of a path
abbrev pub is_of_path : Topic → Bool
is_of_path topic.Changed = false
is_of_path topic.Branches = false
is_of_path topic.Note = false
is_of_path _ = true

-- it can be asked of all branches: each of its lines begins with a moment
abbrev pub is_of_branches : Topic → Bool
is_of_branches topic.Calls = true
is_of_branches topic.Events = true
is_of_branches topic.Find = true
is_of_branches _ = false

-- an option is given that only questions about calls have
abbrev pub has_option_of_calls : Options → Bool
has_option_of_calls o = o.failed || (is_some o.process || is_some o.object)

-- one is given that only they or those about what is alive have
abbrev pub has_other_option : Options → Bool
has_other_option o = has_option_of_calls o || is_some o.since

-- such a question cannot be asked where the options say: of all branches, of one path, or of both
abbrev pub has_other_place : Topic → Options → Bool
has_other_place about o = if o.all then o.placed || not (is_of_branches about) else o.placed && not (is_of_path about)

abbrev pub without_words : List Text → Question → Option Question
without_words words asked = if length words == 0 then Some asked else None

-- what is alive, of what was made behind a moment or at all
abbrev pub alive_question : List Text → Options → Option Question
alive_question words o = if has_option_of_calls o then None else without_words words (question.Alive (unwrap_or o.since 0))

-- the question of no option that these words ask; `calls` and `alive` have one for each of theirs
abbrev pub plain_question : Topic → List Text → Option Question
plain_question topic.Calls words = None
plain_question topic.Alive words = None
plain_question topic.Changed words = changed_question words
plain_question topic.Events words = option_map question.Events (happenings_of words)
plain_question topic.Object words = option_map question.Object (one_koid words)
plain_question topic.Handles words = option_map question.Handles (one_koid words)
plain_question topic.Messages words = option_map question.Messages (one_koid words)
plain_question topic.Branches words = without_words words question.Branches
plain_question topic.Summary words = without_words words question.Summary
plain_question topic.Handle words = handle_question words
plain_question topic.Lineage words = option_map question.Lineage (one_koid words)
plain_question topic.Note words = note_question words
plain_question topic.Find words = find_question words

abbrev pub question_there : Topic → List Text → Options → Option Question
question_there topic.Calls words o = calls_question words o
question_there topic.Alive words o = alive_question words o
question_there about words o = if has_other_option o then None else plain_question about words

-- the question about this that the words and options ask; none, where one of them is not the question's
abbrev pub question_on : Topic → List Text → Options → Option Question
question_on about words o = if has_other_place about o then None else question_there about words o

-- the question with this name
abbrev pub question_of : Text → List Text → Options → Option Question
question_of name words o = option_and_then (λ about. question_on about words o) (topic_named name)
