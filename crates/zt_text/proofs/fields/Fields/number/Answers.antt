use Rattle.zt_text.specs.Numbers.{decimal_of}
use Rattle.zt_text.proofs.FieldLemmas.{field_in_front}
use Rattle.zt_text.proofs.fields.Fields.number.Goals as goal

pub returns-in-Some-number_in_front-clause-ok : goal.returns-in-Some-number_in_front-clause-ok
returns-in-Some-number_in_front-clause-ok c =
    field_in_front (decimal_of c.args.most) c.args.self c.self.inside.left c.in-Some.left c.self.inside.line_len
    (c.in-Some-number_in_front.number, c.in-Some-number_in_front.left)
    c.in-Some.is c.self.view_is (c.self.invariant.0 c.in-Some.left c.in-Some.is) c.in-Some-number_in_front.ensures.read
