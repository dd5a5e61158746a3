-- Clients that come in turn.
use Rattle.std.proofs.Common.{◌≡◌, List, [], ◌∷◌, ◌++◌, map, sym, ◌∙◌, ap, subst, arith}
use Rattle.std.specs.Prelude.{All}
use Rattle.std.proofs.lemmas.List.Elements.{All-push}
use Rattle.zt_shared.specs.Sharing.{PassView}
use Rattle.zt_console.specs.Sessions.{Caller, IsCountable}
use Rattle.zt_console.proofs.ServeLaws.{map_more}

pub caller_more : {I O : Type 0} (cs ds : List (Caller I O)) (c : Caller I O) (ys : List PassView) → ds ≡ cs ++ c ∷ [] → map (λ (x : Caller I O). x.2) cs ≡ ys → map (λ (x : Caller I O). x.2) ds ≡ ys ++ c.2 ∷ []
caller_more {I} {O} cs ds c ys e h = ap (map (λ (x : Caller I O). x.2)) e ∙ map_more (λ (x : Caller I O). x.2) cs c ∙ ap (λ z. z ++ c.2 ∷ []) h

pub countable_more : {I O : Type 0} (cs ds : List (Caller I O)) (c : Caller I O) → ds ≡ cs ++ c ∷ [] → (c.0.1 ≡ 0) × (c.1.1 ≡ 0) → All IsCountable cs → All IsCountable ds
countable_more cs ds c e z h = subst (All IsCountable) (sym e) (All-push IsCountable cs c h (omega (arith, z.0), omega (arith, z.1)))
