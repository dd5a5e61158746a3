use Rattle.std.proofs.Common.{◌≡◌, ◌≤◌, ◌<◌, ◌/◌, length, get_or, subst, sym, ap, ◌∙◌, arith, ⊎_elim}
use Rattle.std.proofs.lemmas.Bool.{cases_lt}
use Rattle.std.proofs.lemmas.List.{get_or_default}
use Rattle.zt_cells.specs.ProofsOnly.MarkedNumbers.{word}
use Rattle.zt_cells.proofs.MarkLaws.{mark-past, mark-zero}
use Rattle.zt_cells.proofs.cells.mark_words.MarkWords.next_from.Goals as goal

pub loop-place-preserved : goal.loop-place-preserved
loop-place-preserved c =
    let k = c.loop-place.place in
    let there : k < length c.self.inside.words.items = omega arith in
    let zero : word c.args.self.now k ≡ 0 = ap (λ t. get_or t k 0) (sym c.self.view_is) ∙ sym (c.index.ensures ∙ get_or_default c.self.inside.words.items k c.index.result.now 0 there) ∙ omega arith in
    λ n h l.
    ⊎_elim (λ (b : n / 64 < k). c.loop-place.invariant n h b) (λ (b : k ≤ n / 64).
    let e : n / 64 ≡ k = omega arith in
    mark-zero c.args.self.now n (ap (word c.args.self.now) e ∙ zero)) (cases_lt (n / 64) k)

pub returns : goal.returns
returns c =
    let k = c.loop-place.place in
    let len : length c.args.self.now ≤ k = subst (λ t. length t ≤ k) c.self.view_is (omega arith) in
    λ n h. ⊎_elim (λ (b : n / 64 < k). c.loop-place.invariant n h b) (λ (b : k ≤ n / 64). mark-past c.args.self.now n (omega arith)) (cases_lt (n / 64) k)
