-- What a line names, by its first fields.
use Rattle.std.proofs.Common.{◌≡◌, ℕ, true, false, List, [], ◌∷◌, Option, Some, None, refl, ap}
use Rattle.std.specs.Prelude.{codes, if◌then◌else◌}
use Rattle.std.specs.Option.{option_map, option_and_then, is_some}
use Rattle.std.specs.Str.{IsUtf8, bytes_eq, is_utf8}
use Rattle.std.proofs.lemmas.Str.{IsUtf8-from_is_utf8, is_utf8-from_IsUtf8}
use Rattle.std.proofs.lemmas.List.Splits.{join_with_byte-slice_split}
use Rattle.zt_text.specs.declared.name_lines.Subject.{Subject}
use Rattle.zt_text.specs.Fields.{fields_of}
use Rattle.zt_text.specs.ShownNumbers.{words}
use Rattle.zt_text.specs.Notes.{handle_by, handle_named, is_name_text, name_in, named_by, named_in, object_by, object_named, with_text}

no_text : (subject : Option Subject) → option_and_then (with_text []) subject ≡ None
unfolding is_name_text
no_text None = refl
no_text (Some subject) = refl

-- the text is what is behind the fields in front of it
texts : (text : List ℕ) → words (fields_of text) ≡ text
texts text = join_with_byte-slice_split 32 text

pub object_alone : (bytes first : List ℕ) → fields_of bytes ≡ first ∷ [] → object_named (fields_of bytes) ≡ None
unfolding object_named
object_alone bytes first one = rw one (no_text (object_by first))

pub object_and_text : (bytes koid text : List ℕ) → fields_of bytes ≡ koid ∷ fields_of text → object_named (fields_of bytes) ≡ option_and_then (with_text text) (object_by koid)
unfolding object_named
object_and_text bytes koid text cut = rw cut (ap (λ t. option_and_then (with_text t) (object_by koid)) (texts text))

pub process_alone : (bytes first : List ℕ) → fields_of bytes ≡ first ∷ [] → handle_named (fields_of bytes) ≡ None
unfolding handle_named
process_alone bytes first one = rw one refl

pub handle_alone : (bytes process left handle : List ℕ) → fields_of bytes ≡ process ∷ fields_of left → fields_of left ≡ handle ∷ [] → handle_named (fields_of bytes) ≡ None
unfolding handle_named
handle_alone bytes process left handle cut one = rw (cut, one) (no_text (handle_by process handle))

pub handle_and_text : (bytes process left handle text : List ℕ) → fields_of bytes ≡ process ∷ fields_of left → fields_of left ≡ handle ∷ fields_of text
    → handle_named (fields_of bytes) ≡ option_and_then (with_text text) (handle_by process handle)
unfolding handle_named
handle_and_text bytes process left handle text cut other = rw (cut, other) (ap (λ t. option_and_then (with_text t) (handle_by process handle)) (texts text))

pub line_alone : (line first : List ℕ) → fields_of line ≡ first ∷ [] → name_in line ≡ None
unfolding name_in named_in
line_alone line first one = rw one refl

named_unsigned : (sign : List ℕ) (left : List (List ℕ)) → bytes_eq sign (codes "#") ≡ false → named_in (sign ∷ left) ≡ None
unfolding named_in
named_unsigned sign [] other = refl
named_unsigned sign (word ∷ fields) other = rw other refl

named_alone : (word : List ℕ) → named_by word [] ≡ None
unfolding named_by object_named handle_named
named_alone word =
    elim (bytes_eq word (codes "name")) as (λ b. (if b then object_named [] else (if bytes_eq word (codes "handle") then handle_named [] else None)) ≡ None) [
      | true ↦ refl
      | false ↦ elim (bytes_eq word (codes "handle")) as (λ b. (if b then handle_named [] else None) ≡ None) [ true ↦ refl | false ↦ refl ]
    ]

pub unsigned : (line sign left : List ℕ) → fields_of line ≡ sign ∷ fields_of left → bytes_eq sign (codes "#") ≡ false → name_in line ≡ None
unfolding name_in
unsigned line sign left cut other = rw cut (named_unsigned sign (fields_of left) other)

pub word_alone : (line sign left word : List ℕ) → fields_of line ≡ sign ∷ fields_of left → bytes_eq sign (codes "#") ≡ true → fields_of left ≡ word ∷ [] → name_in line ≡ None
unfolding name_in named_in
word_alone line sign left word cut is one = rw (cut, one, is) (named_alone word)

pub signed : (line sign left word fields : List ℕ) → fields_of line ≡ sign ∷ fields_of left → bytes_eq sign (codes "#") ≡ true → fields_of left ≡ word ∷ fields_of fields
    → name_in line ≡ named_by word (fields_of fields)
unfolding name_in named_in
signed line sign left word fields cut is other = rw (cut, other, is) refl

pub utf8_yes : (bytes : List ℕ) → IsUtf8 bytes → is_utf8 bytes ≡ true
utf8_yes bytes is = is_utf8-from_IsUtf8 bytes is

pub utf8_no : (bytes : List ℕ) → (¬ IsUtf8 bytes) → is_utf8 bytes ≡ false
utf8_no bytes other =
    elim (is_utf8 bytes) as (λ b. is_utf8 bytes ≡ b → b ≡ false) [
      | true ↦ λ e. absurd (other (IsUtf8-from_is_utf8 bytes e))
      | false ↦ λ e. refl
    ] refl

-- a line names something where its subject is read
pub named_alike : {A B : Type 0} (f : A → B) (found : Option A) (named : Option B) → option_map f found ≡ named → is_some found ≡ is_some named
named_alike f None named is = ap is_some is
named_alike f (Some x) named is = ap is_some is
