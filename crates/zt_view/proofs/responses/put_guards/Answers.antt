use Rattle.zt_view.proofs.HeaderLaws.{four}
use Rattle.zt_view.proofs.responses.put_guards.Goals as goal

pub returns-clause-headers : goal.returns-clause-headers
returns-clause-headers c = four _ _ _ _ _ _ _ _ _ c.in_ok-add_text.ensures.headers c.in_ok-add_text-2.ensures.headers c.in_ok-add_text-3.ensures.headers c.in_ok-add_text-4.ensures.headers
