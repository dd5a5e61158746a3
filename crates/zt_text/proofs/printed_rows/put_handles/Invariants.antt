use Rattle.std.proofs.Common.{◌≡◌, ◌∷◌, ◌++◌, string_bytes, take}
use Rattle.std.specs.List.{flat_map}
use Rattle.std.specs.Fmt.{decimal}
use Rattle.zt_text.proofs.printed_rows.put_handles.Given as goal

abbrev pub invariant-loop-handle : goal.invariant-loop-handle
invariant-loop-handle l = string_bytes l.text ≡ string_bytes l.initial.text ++ flat_map (λ handle. 44 ∷ decimal handle) (take l.handle-index l.others)
