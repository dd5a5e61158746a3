use Rattle.std.proofs.Common.{◌≡◌, refl, sym, ◌∙◌}
use Rattle.zt_json.specs.Parts.{parts_of, parts_left}
use Rattle.zt_json.proofs.PartLemmas.{cut_none, cut_some}
use Rattle.zt_json.proofs.parts.Parts.next.Goals as goal

pub returns-in-Some : goal.returns-in-Some
returns-in-Some c =
    let cut = c.in-Some.ensures.byte c.self.invariant (λ w o h. h) in
    let whole : parts_left c.self.inside.separator c.self.inside.left ≡ parts_of c.self.inside.separator c.in_ok-text.text.now =
    rw c.in_ok-text.was refl in
    sym c.self.view_is ∙ whole ∙ cut_some c.self.inside.separator c.in_ok-text.text.now _ _ cut.0 cut.1 cut.2

pub returns-in-None : goal.returns-in-None
returns-in-None c =
    let cut = c.in-None.ensures.byte c.self.invariant (λ w o h. h) in
    let whole : parts_left c.self.inside.separator c.self.inside.left ≡ parts_of c.self.inside.separator c.in_ok-text.text.now =
    rw c.in_ok-text.was refl in
    sym c.self.view_is ∙ whole ∙ cut_none c.self.inside.separator c.in_ok-text.text.now cut
