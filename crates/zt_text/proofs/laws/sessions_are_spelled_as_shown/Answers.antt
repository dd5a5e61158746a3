use Rattle.zt_text.proofs.SpelledSessions.{session_spelled}
use Rattle.zt_text.proofs.laws.sessions_are_spelled_as_shown.Goals as goal

pub returns : goal.returns
returns c = session_spelled
