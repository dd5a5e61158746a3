use Rattle.std.proofs.Common.{◌≤◌, ◌<◌, ◌^◌, length, get_or, subst, sym, ap, ◌∙◌, arith}
use Rattle.std.proofs.lemmas.List.{get_or_default}
use Rattle.zt_cells.proofs.MarkLaws.{first-read, word-there}
use Rattle.zt_cells.proofs.cells.mark_words.MarkWords.first_of.Goals as goal

pub index-word-requires : goal.index-word-requires
index-word-requires c =
    let there : c.args.place < length c.self.inside.words.items = subst (λ t. c.args.place < length t) (sym c.self.view_is) (word-there c.args.self.now c.args.place c.requires) in
    omega arith

pub overflow_mul-result : goal.overflow_mul-result
overflow_mul-result c =
    let there = word-there c.args.self.now c.args.place c.requires in
    let few : length c.args.self.now ≤ 2 ^ 32 = subst (λ t. length t ≤ 2 ^ 32) c.self.view_is c.self.invariant in
    omega (arith, there, few)

pub overflow_add-result : goal.overflow_add-result
overflow_add-result c =
    let there = word-there c.args.self.now c.args.place c.requires in
    let few : length c.args.self.now ≤ 2 ^ 32 = subst (λ t. length t ≤ 2 ^ 32) c.self.view_is c.self.invariant in
    omega (arith, there, few, c.lowest.ensures.within)

pub returns : goal.returns
returns c =
    let there = word-there c.args.self.now c.args.place c.requires in
    first-read c.args.self.now c.args.place c.index-word.result.now c.lowest.result
    (c.index-word.ensures ∙ ap (λ t. get_or t c.args.place c.index-word.result.now) c.self.view_is ∙ get_or_default c.args.self.now c.args.place c.index-word.result.now 0 there)
    c.lowest.ensures.within c.lowest.ensures.set c.lowest.ensures.first
