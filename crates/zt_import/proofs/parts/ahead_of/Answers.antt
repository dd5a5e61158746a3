-- A part of a list.
use Rattle.std.proofs.Common.{◌≡◌, ◌-◌, List, length, min, take, drop, ap, ◌∙◌, arith}
use Rattle.std.proofs.lemmas.List.{length-drop, take_all, take_min, drop_min}
use Rattle.zt_import.specs.declared.schedule.AskedCall.{AskedCall}
use Rattle.zt_import.proofs.parts.ahead_of.Goals as goal

pub returns : goal.returns
returns c =
    let xs = c.args.asked.now in
    let f = c.min-first.result in
    let B : List AskedCall = take (length xs - f) (drop f xs) in
    let count : c.min.result ≡ min c.args.ahead (length B) = omega (arith, c.min.ensures) in
    let first : f ≡ min (c.args.number - c.args.ahead) (length xs) = c.min-first.ensures ∙ ap (λ k. min k (length xs)) c.saturating_sub.ensures in
    let behind : B ≡ drop (c.args.number - c.args.ahead) xs =
    take_all (length xs - f) (drop f xs) (omega (arith, length-drop f xs)) ∙ ap (λ k. drop k xs) first ∙ drop_min (c.args.number - c.args.ahead) xs in
    ap (λ k. take k B) count ∙ take_min c.args.ahead B ∙ ap (take c.args.ahead) behind
