-- The values of members: how a field of a line becomes tokens. Each is put behind the tokens so far.
use Rattle.std.specs.Prelude.{ℕ, ◌==◌, ◌||◌, Bool, true, false, List, [], ◌∷◌, ◌++◌, length, Option, is_some, Some, None, if◌then◌else◌, codes}
use Rattle.std.specs.Str.{bytes_eq}
use Rattle.json.specs.Token.{Token}
use Rattle.json.specs.Token as json
use Rattle.json.specs.Word.{after_number}
use Rattle.zt_json.specs.Words.{text_of}
use Rattle.zt_json.specs.declared.words.Word.TheVariants.{Koid, KoidName, Rights, RightsNames}
use Rattle.zt_json.specs.declared.words.Word.{Word}
use Rattle.zt_json.specs.Parts.{parts_of}
use Rattle.zt_text.specs.Notes.{Noted}
use Rattle.zt_json.specs.Names.{koid_name, handle_name}

infixl 10 ◌>>=◌
abbrev pub ◌>>=◌ : {A B : Type 0} → Option A → (A → Option B) → Option B
None >>= f = None
(Some x) >>= f = f x

abbrev pub behind : Token → List Token → List Token
behind token tokens = tokens ++ token ∷ []

-- nothing is left behind the digits of a number
abbrev pub is_ended : Option (List ℕ) → Bool
is_ended None = false
is_ended (Some []) = true
is_ended (Some (_ ∷ _)) = false

-- a number as a line writes it is a number of JSON
abbrev pub number_value : List ℕ → List Token → Option (List Token)
number_value field tokens = if is_ended (after_number field) then Some (behind (json.number field) tokens) else None

-- the digits of bytes; the empty text for none
unfoldable pub bytes_text : List ℕ → List ℕ
bytes_text field = if bytes_eq field (codes "-") then [] else field

unfoldable pub put_strings : List (List ℕ) → List Token → List Token
put_strings [] tokens = tokens
put_strings (text ∷ texts) tokens = put_strings texts (behind (json.string text) tokens)

unfoldable pub put_numbers : List (List ℕ) → List Token → Option (List Token)
put_numbers [] tokens = Some tokens
put_numbers (field ∷ fields) tokens = number_value field tokens >>= put_numbers fields

-- the names of a mask's bits; none for `NONE`
unfoldable pub names_of : List ℕ → List (List ℕ)
names_of names = if bytes_eq names (codes "NONE") then [] else parts_of 124 names

-- the array of the names of a mask's bits
unfoldable pub names_value : List ℕ → List Token → List Token
names_value names tokens = behind json.end_array (put_strings (names_of names) (behind json.begin_array tokens))

-- the elements of a list; none for `-`
unfoldable pub elements_of : List ℕ → List (List ℕ)
elements_of list = if bytes_eq list (codes "-") then [] else parts_of 44 list

-- the array of the handles of a list
unfoldable pub handles_value : List ℕ → List Token → Option (List Token)
handles_value list tokens = put_numbers (elements_of list) (behind json.begin_array tokens) >>= λ after. Some (behind json.end_array after)

-- a name; `null` for none
abbrev pub name_token : Option (List ℕ) → Token
name_token None = json.null
name_token (Some name) = json.string name

unfoldable pub any_named : Noted → ℕ → List (List ℕ) → Bool
any_named notes process [] = false
any_named notes process (handle ∷ handles) = is_some (handle_name notes process handle) || any_named notes process handles

unfoldable pub put_handle_names : Noted → ℕ → List (List ℕ) → List Token → List Token
put_handle_names notes process [] tokens = tokens
put_handle_names notes process (handle ∷ handles) tokens =
    put_handle_names notes process handles (behind (name_token (handle_name notes process handle)) tokens)

-- the array of the names of a process's handles, in the order of the list
unfoldable pub handle_names_value : Noted → ℕ → List ℕ → List Token → List Token
handle_names_value notes process list tokens =
    behind json.end_array (put_handle_names notes process (elements_of list) (behind json.begin_array tokens))

abbrev pub halves_of : List (List ℕ) → Option (List ℕ × List ℕ)
halves_of [] = None
halves_of (_ ∷ []) = None
halves_of (front ∷ back ∷ _) = Some (front, back)

-- what is ahead of a colon, and what is behind it
abbrev pub halves : List ℕ → Option (List ℕ × List ℕ)
halves text = halves_of (parts_of 58 text)

-- the member of a mask and that of the names of its bits
abbrev pub mask_members : List ℕ → List ℕ → List ℕ → List ℕ → List Token → List Token
mask_members key names_key mask names tokens =
    names_value names (behind (json.key names_key) (behind (json.string mask) (behind (json.key key) tokens)))

-- a name as a member, if there is one
abbrev pub name_member : Word → Option (List ℕ) → List Token → List Token
name_member key None tokens = tokens
name_member key (Some name) tokens = behind (json.string name) (behind (json.key (text_of key)) tokens)

-- the object of one held handle: its koid with the name, its rights, and their names
unfoldable pub held_value : Noted → List ℕ → List ℕ → List Token → Option (List Token)
held_value notes held named tokens = do
  parts ← halves held
  names ← halves named
  with_koid ← number_value parts.0 (behind (json.key (text_of Koid)) (behind json.begin_object tokens))
  Some (behind json.end_object (mask_members (text_of Rights) (text_of RightsNames) parts.1 names.1
      (name_member KoidName (koid_name notes parts.0) with_koid)))

unfoldable pub put_held : Noted → List (List ℕ) → List (List ℕ) → List Token → Option (List Token)
put_held notes [] _ tokens = Some tokens
put_held notes (_ ∷ _) [] tokens = None
put_held notes (held ∷ more) (named ∷ others) tokens = held_value notes held named tokens >>= put_held notes more others

-- the array of the handles that a message holds
unfoldable pub all_held_value : Noted → List ℕ → List ℕ → List Token → Option (List Token)
all_held_value notes list named tokens =
    put_held notes (elements_of list) (elements_of named) (behind json.begin_array tokens) >>= λ after. Some (behind json.end_array after)

unfoldable pub put_lines : List (List ℕ) → List Token → List Token
put_lines [] tokens = tokens
put_lines (line ∷ lines) tokens = if length line == 0 then put_lines lines tokens else put_lines lines (behind (json.string line) tokens)

-- the array of the lines of a note
unfoldable pub note_value : List ℕ → List Token → List Token
note_value note tokens = behind json.end_array (put_lines (parts_of 10 note) (behind json.begin_array tokens))
