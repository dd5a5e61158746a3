-- The lines of a log.
use Rattle.std.specs.Prelude.{ℕ, ◌==◌, List, [], ◌∷◌, take, drop, if◌then◌else◌}
use Rattle.std.specs.List.{onto_first}
use Rattle.std.specs.Str.{bytes_eq}

-- the byte order mark of UTF-8
abbrev pub order_mark : List ℕ
order_mark = 239 ∷ 187 ∷ 191 ∷ []

-- a text behind its byte order mark, if it begins with one
abbrev pub without_mark : List ℕ → List ℕ
without_mark text = if bytes_eq (take 3 text) order_mark then drop 3 text else text

-- a line feed ends a line, and a last line without one counts where it is not empty
abbrev pub lines_of : List ℕ → List (List ℕ)
lines_of [] = []
lines_of (byte ∷ bytes) = if byte == 10 then [] ∷ lines_of bytes else onto_first byte (lines_of bytes)
