-- A text is UTF-8 just where the test says so.
use Rattle.std.proofs.Common.{◌≡◌, ℕ, List, Some, None, true, false, refl}
use Rattle.std.specs.Str.{IsUtf8, is_utf8}
use Rattle.std.proofs.lemmas.Str.{IsUtf8-from_is_utf8, is_utf8-from_IsUtf8}
use Rattle.zt_json.specs.Names.{if_utf8}

pub utf8 : (name : List ℕ) → IsUtf8 name → if_utf8 name ≡ Some name
utf8 name h = rw (is_utf8-from_IsUtf8 name h) refl

pub not_utf8 : (name : List ℕ) → ¬ (IsUtf8 name) → if_utf8 name ≡ None
not_utf8 name h = elim (is_utf8 name) as (λ b. is_utf8 name ≡ b → if_utf8 name ≡ None) [
  | true ↦ λ e. absurd (h (IsUtf8-from_is_utf8 name e))
  | false ↦ λ e. rw e refl
] refl
