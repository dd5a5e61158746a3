-- The object is looked at where the history was moved to.
use Rattle.std.proofs.Common.{◌≡◌, ◌++◌, ◌∙◌, ap, false, subst}
use Rattle.zt_history.specs.Tree.{state_at}
use Rattle.zt_look.specs.Lines.{object_lines}
use Rattle.zt_look.specs.ObjectLook.{IsObjectLook}
use Rattle.zt_view.specs.Questions.{times_text}
use Rattle.zt_view.proofs.question.object_lines.Goals as goal

pub returns-clause-answer : goal.returns-clause-answer
returns-clause-answer c = (
  c.in_ok-object.object,
  subst (λ h. IsObjectLook h.tree.made h.position c.args.koid c.in_ok-object.object) c.in_ok-goto.ensures.ok c.in_ok-object.ensures.ok,
  subst (λ h. c.put_times.new.text.items ≡ c.in_ok-text.text.items ++ times_text h.tree.made c.in_ok-object.object) c.in_ok-goto.ensures.ok c.in_ok-put_times.ensures
      ∙ ap (λ t. t ++ times_text c.args.history.now.tree.made c.in_ok-object.object) c.in_ok-text.ensures
      ∙ ap (λ S. object_lines false S c.in_ok-object.object ++ times_text c.args.history.now.tree.made c.in_ok-object.object)
      (c.store.ensures.state ∙ ap (λ h. state_at h.tree.made h.position) c.in_ok-goto.ensures.ok),
)
