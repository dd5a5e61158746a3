use Rattle.zt_text.specs.Numbers.{mask_of}
use Rattle.zt_text.proofs.FieldLemmas.{field_in_front}
use Rattle.zt_text.proofs.fields.Fields.mask.Goals as goal

pub returns-in-Some-mask_in_front : goal.returns-in-Some-mask_in_front
returns-in-Some-mask_in_front c =
    field_in_front mask_of c.args.self c.self.inside.left c.in-Some.left c.self.inside.line_len
    (c.in-Some-mask_in_front.bits, c.in-Some-mask_in_front.left)
    c.in-Some.is c.self.view_is (c.self.invariant.0 c.in-Some.left c.in-Some.is) c.in-Some-mask_in_front.ensures
