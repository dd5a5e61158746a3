-- Which text a line of a log has besides its call.
use Rattle.std.specs.Prelude.{ℕ, zero, suc, ◌-◌, ◌||◌, nat_lt, List, [], length, take, drop, Option, Some, None, slice_get, unwrap_or, if◌then◌else◌, string_bytes}
use Rattle.zt_logs.specs.declared.contexts.LineContexts.{LineContexts}

-- where the text of the line at a place, counted from 1, ends
abbrev pub end_of : List ℕ → ℕ → Option ℕ
end_of ends zero = None
end_of ends (suc place) = slice_get ends place

-- the bytes from one place up to another, where they lie in these
abbrev pub part : List ℕ → ℕ → ℕ → List ℕ
part bytes first end = if nat_lt end first || nat_lt (length bytes) end then [] else take (end - first) (drop first bytes)

abbrev pub text_between : List ℕ → Option ℕ → Option ℕ → List ℕ
text_between bytes first None = []
text_between bytes first (Some end) = part bytes (unwrap_or first 0) end

-- the text of a line, which ends where its own end is, and begins where that of the line before it ends
abbrev pub line_text : LineContexts → ℕ → List ℕ
line_text contexts line = text_between (string_bytes contexts.text) (end_of contexts.ends.items (line - 1)) (end_of contexts.ends.items line)
