-- An object that is being made from the fields of a line.
use Rattle.std.specs.Prelude.{ℕ, Bool, true, false, List, [], ◌∷◌, Option, Some, None}
use Rattle.std.specs.Str.{bytes_eq}
use Rattle.json.specs.Token.{Token}
use Rattle.json.specs.Token as json
use Rattle.zt_json.specs.declared.words.Word.{Word}
use Rattle.zt_json.specs.Words.{text_of}
use Rattle.zt_text.specs.Notes.{Noted}
use Rattle.zt_json.specs.Parts.{parts_of}
use Rattle.zt_json.specs.Values.{behind, name_member}

-- the fields that are to be read, in the line and in the line with names; the object's tokens so far; the notes and names; the
-- process whose handles the next fields tell, and the moment whose call the line shows, each 0 at first
pub record Made : Type 0 where
  pub fields : List (List ℕ)
  pub named : List (List ℕ)
  pub tokens : List Token
  pub notes : Noted
  pub process : ℕ
  pub moment : ℕ

-- all fields of a line are to be read, and nothing is made
abbrev pub begun : Noted → ℕ → List ℕ → List ℕ → Made
begun notes process line named =
    record { fields = parts_of 32 line; named = parts_of 32 named; tokens = []; notes = notes; process = process; moment = 0 }

-- a field, as it is in the line and in the line with names
pub record Pair : Type 0 where
  pub text : List ℕ
  pub named : List ℕ

abbrev pub with_tokens : List Token → Made → Made
with_tokens tokens made = record made { tokens = tokens }

-- a token is written behind the others
abbrev pub put : Token → Made → Made
put token made = with_tokens (behind token made.tokens) made

abbrev pub put_key : Word → Made → Made
put_key key made = put (json.key (text_of key)) made

-- a name is written, if there is one
abbrev pub put_name : Word → Option (List ℕ) → Made → Made
put_name key name made = with_tokens (name_member key name made.tokens) made

-- a value is written, if there is one: these are the tokens with it
abbrev pub put_value : Made → Option (List Token) → Option Made
put_value made None = None
put_value made (Some tokens) = Some (with_tokens tokens made)

abbrev pub taken_of : List (List ℕ) → List (List ℕ) → Made → Option (Pair × Made)
taken_of [] named made = None
taken_of (_ ∷ _) [] made = None
taken_of (field ∷ fields) (name ∷ named) made =
    Some (record { text = field; named = name }, record made { fields = fields; named = named })

-- the next field is read
abbrev pub taken : Made → Option (Pair × Made)
taken made = taken_of made.fields made.named made

-- the next field; the empty text if there is none
abbrev pub first_word : List (List ℕ) → List ℕ
first_word [] = []
first_word (field ∷ _) = field

abbrev pub first_is : List ℕ → List (List ℕ) → Bool
first_is word [] = false
first_is word (field ∷ _) = bytes_eq field word

-- whether the next field is this word
abbrev pub next_is : Word → Made → Bool
next_is word made = first_is (text_of word) made.fields

-- whether no field is left
abbrev pub is_read : List (List ℕ) → Bool
is_read [] = true
is_read (_ ∷ _) = false
