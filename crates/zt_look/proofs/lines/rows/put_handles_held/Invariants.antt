use Rattle.std.proofs.Common.{◌≡◌, ◌∷◌, ◌++◌, string_bytes, take}
use Rattle.std.specs.List.{flat_map}
use Rattle.zt_look.specs.NamedTexts.{held_text}
use Rattle.zt_look.proofs.lines.rows.put_handles_held.Given as goal

abbrev pub invariant-loop-held : goal.invariant-loop-held
invariant-loop-held l = string_bytes l.text ≡ string_bytes l.initial.text ++ flat_map (λ held. 44 ∷ held_text l.names held) (take l.held-index l.others)
