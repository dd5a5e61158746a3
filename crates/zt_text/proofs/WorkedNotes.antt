-- The notes and the names of a few texts, by computation.
use Rattle.std.proofs.Common.{◌≡◌, ℕ, List, [], ◌∷◌, ◌++◌, Some, None, refl}
use Rattle.std.specs.Prelude.{codes}
use Rattle.std.specs.List.{flat_map}
use Rattle.std.specs.Str.{chars, is_utf8}
use lib.Utf8.{encode}
use Rattle.zt_text.specs.declared.name_lines.Subject.TheVariants.{Object, Handle}
use Rattle.zt_text.specs.Numbers.{decimal_of}
use Rattle.zt_text.specs.Answers.{as_line}
use Rattle.zt_text.specs.Notes.{notes_of, name_of_subject, name_in, named_in, named_by, object_named, handle_named, is_name_text}

-- a line names an object or a handle, or nothing
object_line : name_in (codes "# name 1028 echo server") ≡ Some (Object 1028, codes "echo server")
unfolding name_in named_in named_by object_named handle_named is_name_text decimal_of chars is_utf8 encode
object_line = refl

handle_line : name_in (codes "# handle 1028 11 0x7c3e91a3") ≡ Some (Handle 1028 11, codes "0x7c3e91a3")
unfolding name_in named_in named_by object_named handle_named is_name_text decimal_of chars is_utf8 encode
handle_line = refl

leading_zero : name_in (codes "# name 01028 echo") ≡ None
unfolding name_in named_in named_by object_named handle_named is_name_text decimal_of chars is_utf8 encode
leading_zero = refl

no_text : name_in (codes "# name 1028 ") ≡ None
unfolding name_in named_in named_by object_named handle_named is_name_text decimal_of chars is_utf8 encode
no_text = refl

text : List ℕ
text = flat_map as_line (codes "zxtt 2" ∷ codes "# name 5 a" ∷ codes "# one" ∷ [] ∷ codes "call 0 5 event_create" ∷ codes "call 1 5 event_create" ∷ codes "# name 5 b" ∷ codes "# two" ∷ codes "branch main 2" ∷ codes "# end" ∷ [])

-- a comment belongs to the moment behind it, and to none ahead of a branch and at the end
text_notes : notes_of text ≡ record { notes = as_line (codes "# one") ∷ [] ∷ []; rest = as_line (codes "# two") ++ as_line (codes "# end"); names = as_line (codes "# name 5 a") ++ as_line (codes "# name 5 b") }
unfolding text notes_of name_in named_in named_by object_named handle_named is_name_text decimal_of chars is_utf8 encode
text_notes = refl

-- the last name counts
text_name : name_of_subject (notes_of text) (Object 5) ≡ Some (codes "b")
unfolding text notes_of name_of_subject name_in named_in named_by object_named handle_named is_name_text decimal_of chars is_utf8 encode
text_name = refl
