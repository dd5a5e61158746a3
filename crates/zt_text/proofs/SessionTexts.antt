-- The session text of calls reads as those calls.
use Rattle.std.proofs.Common.{◌≡◌, ℕ, ◌+◌, List, [], ◌∷◌, map, Some, Ok, refl, ap, ◌∙◌, All, append_assoc}
use Rattle.std.specs.List.{flat_map}
use Rattle.std.proofs.lemmas.List.Elements.{All-head, All-tail}
use Rattle.zt_rows.specs.declared.calls.Call.{Call}
use Rattle.zt_text.specs.Lines.{lines_of}
use Rattle.zt_text.specs.Calls.{shown_call, call_line, session_text, IsCalled}
use Rattle.zt_text.specs.Session.{call_in, calls_in, session_of}
use Rattle.zt_text.proofs.LineLemmas.{line_written}
use Rattle.zt_text.proofs.ShownCalls.{call_line_free, call_line_kept, call_line_made}

abbrev pub line_of : ℕ × Call → List ℕ
line_of made = shown_call made.0 made.1

lines_shown : (calls : List (ℕ × Call)) → All IsCalled calls → lines_of (flat_map call_line calls) ≡ map line_of calls
lines_shown [] are = refl
lines_shown (made ∷ calls) are =
    let here = All-head IsCalled made calls are in
    let line : List ℕ = shown_call made.0 made.1 in
    ap lines_of (append_assoc line (10 ∷ []) (flat_map call_line calls))
    ∙ line_written line (flat_map call_line calls) (call_line_free made.0 made.1 here.0 here.1)
    ∙ ap (λ ls. line ∷ ls) (lines_shown calls (All-tail IsCalled made calls are))

pub call_read : (made : ℕ × Call) → IsCalled made → call_in (line_of made) ≡ Ok (Some made)
unfolding call_in
call_read made (small, within) = rw (call_line_kept made.0 made.1 small within, call_line_made made.0 made.1 small within) refl

calls_read : (number : ℕ) (calls : List (ℕ × Call)) → All IsCalled calls → calls_in number (map line_of calls) ≡ Ok calls
unfolding calls_in
calls_read number [] are = refl
calls_read number (made ∷ calls) are =
    rw (call_read made (All-head IsCalled made calls are), calls_read (number + 1) calls (All-tail IsCalled made calls are)) refl

pub session_read : (calls : List (ℕ × Call)) → All IsCalled calls → session_of (session_text calls) ≡ Ok calls
unfolding session_of session_text
session_read calls are = rw (lines_shown calls are) (calls_read 2 calls are)
