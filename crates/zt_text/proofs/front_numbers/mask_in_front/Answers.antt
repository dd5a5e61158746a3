use Rattle.zt_text.proofs.FrontLemmas.{mask_clear}
use Rattle.zt_text.proofs.front_numbers.mask_in_front.Goals as goal

pub cut_at-requires-clause-others : goal.cut_at-requires-clause-others
cut_at-requires-clause-others c = mask_clear c.args.bytes.now c.in-Some.bits c.in-Some.ensures
