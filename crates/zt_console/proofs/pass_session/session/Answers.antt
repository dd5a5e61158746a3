-- A talk over a pass keeps its client, and where its log begins.
use Rattle.std.proofs.Common.{◌∙◌, ap}
use Rattle.zt_shared.specs.Sharing.{PassView}
use Rattle.zt_console.proofs.KeepLaws.{talked_who, talked_base}
use Rattle.zt_console.proofs.pass_session.session.Goals as goal

pub returns-in-Ok-clause-who : goal.returns-in-Ok-clause-who
returns-in-Ok-clause-who g c = ap (λ (p : PassView). p.client) c.responder.view_is ∙ talked_who _ _ _ _ _ _ c.answer_all-responder.ensures.talk

pub returns-in-Ok-clause-base : goal.returns-in-Ok-clause-base
returns-in-Ok-clause-base g c = ap (λ (p : PassView). p.base) c.responder.view_is ∙ talked_base _ _ _ _ _ _ c.answer_all-responder.ensures.talk

pub returns-in-Err-clause-who : goal.returns-in-Err-clause-who
returns-in-Err-clause-who g c = ap (λ (p : PassView). p.client) c.responder.view_is ∙ talked_who _ _ _ _ _ _ c.answer_all-responder.ensures.talk

pub returns-in-Err-clause-base : goal.returns-in-Err-clause-base
returns-in-Err-clause-base g c = ap (λ (p : PassView). p.base) c.responder.view_is ∙ talked_base _ _ _ _ _ _ c.answer_all-responder.ensures.talk
