use Rattle.std.proofs.Common.{◌≤◌, ◌/◌, length, get_or, subst, ap, ◌∙◌, arith}
use Rattle.zt_cells.proofs.MarkLaws.{clear-past, clear-read, next-read}
use Rattle.zt_cells.proofs.cells.mark_words.MarkWords.next_in_word.Goals as goal

pub returns-in-Some-lowest_from : goal.returns-in-Some-lowest_from
returns-in-Some-lowest_from c =
    next-read c.args.self.now c.args.from c.in-Some.word.now c.in-Some-lowest_from.bit (c.in-Some.ensures.lookup.4 (omega arith) 0 ∙ ap (λ t. get_or t (c.args.from / 64) 0) (c.deref.ensures.value ∙ c.self.view_is)) c.in-Some-lowest_from.ensures

pub returns-in-None-lowest_from : goal.returns-in-None-lowest_from
returns-in-None-lowest_from c =
    clear-read c.args.self.now c.args.from c.in-Some.word.now (c.in-Some.ensures.lookup.4 (omega arith) 0 ∙ ap (λ t. get_or t (c.args.from / 64) 0) (c.deref.ensures.value ∙ c.self.view_is)) c.in-None-lowest_from.ensures

pub returns-in-None : goal.returns-in-None
returns-in-None c =
    clear-past c.args.self.now c.args.from (subst (λ t. length t ≤ c.args.from / 64) (c.deref.ensures.value ∙ c.self.view_is) c.in-None.ensures.lookup.3)
