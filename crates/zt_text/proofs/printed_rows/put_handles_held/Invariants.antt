use Rattle.std.proofs.Common.{◌≡◌, ◌∷◌, ◌++◌, string_bytes, take}
use Rattle.std.specs.List.{flat_map}
use Rattle.zt_text.specs.ShownNumbers.{shown_held}
use Rattle.zt_text.proofs.printed_rows.put_handles_held.Given as goal

abbrev pub invariant-loop-held : goal.invariant-loop-held
invariant-loop-held l = string_bytes l.text ≡ string_bytes l.initial.text ++ flat_map (λ held. 44 ∷ shown_held held) (take l.held-index l.others)
