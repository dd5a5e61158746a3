use Rattle.std.proofs.Common.{◌≡◌, ℕ, ◌+◌, ◌≤◌, sym, ap, ◌∙◌, subst}
use Rattle.std.proofs.lemmas.Result.{on_ok_weaker}
use Rattle.zt_rows.specs.declared.keys.RowKey.TheVariants as key
use Rattle.zt_rows.specs.Reads.{message}
use Rattle.zt_cascade.specs.ProofsOnly.RemovedObject.{left_behind, IsLeft, IsPartly, weight}
use Rattle.zt_cascade.proofs.TakingLaws.{none-there, row-gone, row-partly, row-objects, row-messages, row-lighter}
use Rattle.zt_cascade.proofs.removed_rows.take_row.Goals as goal

pub cut_link-requires : goal.cut_link-requires
cut_link-requires c = none-there c.args.koid c.args.step.now.current c.args.found.now c.requires.there c.change.new.step.current c.in_ok-change.ensures.ok

pub returns-clause-partly : goal.returns-clause-partly
returns-clause-partly c =
    let x = c.args.koid in
    let S = c.args.step.now.current in
    let o = c.args.found.now in
    on_ok_weaker c.cut_link.result (λ e.
    subst (IsPartly x S) (sym (e ∙ ap (λ s. left_behind x s (key.Object o.link)) (c.in_ok-change.ensures.ok ∙ row-gone x S o c.requires.there))) (row-partly x S o c.requires.there)) c.cut_link.ensures.ok

pub returns-clause-objects : goal.returns-clause-objects
returns-clause-objects c =
    let x = c.args.koid in
    let S = c.args.step.now.current in
    let o = c.args.found.now in
    on_ok_weaker c.cut_link.result (λ e.
    subst (λ s. (y : ℕ) → IsLeft x s (key.Object y)) (sym (e ∙ ap (λ s. left_behind x s (key.Object o.link)) (c.in_ok-change.ensures.ok ∙ row-gone x S o c.requires.there))) (row-objects x S o c.requires.there c.requires.joined)) c.cut_link.ensures.ok

pub returns-clause-messages : goal.returns-clause-messages
returns-clause-messages c =
    let x = c.args.koid in
    let S = c.args.step.now.current in
    let o = c.args.found.now in
    on_ok_weaker c.cut_link.result (λ e.
    subst (λ s. (n : ℕ) → message s x n ≡ message S x n) (sym (e ∙ ap (λ s. left_behind x s (key.Object o.link)) (c.in_ok-change.ensures.ok ∙ row-gone x S o c.requires.there))) (row-messages x S o c.requires.there)) c.cut_link.ensures.ok

pub returns-clause-lighter : goal.returns-clause-lighter
returns-clause-lighter c =
    let x = c.args.koid in
    let S = c.args.step.now.current in
    let o = c.args.found.now in
    on_ok_weaker c.cut_link.result (λ e.
    subst (λ s. weight s + 1 ≤ weight S) (sym (e ∙ ap (λ s. left_behind x s (key.Object o.link)) (c.in_ok-change.ensures.ok ∙ row-gone x S o c.requires.there))) (row-lighter x S o c.requires.there)) c.cut_link.ensures.ok
