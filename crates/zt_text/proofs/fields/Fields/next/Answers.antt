use Rattle.zt_text.proofs.FieldLemmas.{next_cut}
use Rattle.zt_text.proofs.fields.Fields.next.Goals as goal

pub returns : goal.returns
returns c =
    next_cut c.args.self c.self.inside.left c.in-Some.left c.self.inside.line_len c.cut.result.0.now c.cut.result.1
    c.in-Some.is c.self.view_is (c.self.invariant.0 c.in-Some.left c.in-Some.is) c.cut.ensures
