use Rattle.zt_rows.proofs.SpentLaws.{spent-opening, spent-step, spent-room}
use Rattle.zt_rows.proofs.laws.few_calls_leave_room.Goals as goal

pub returns-clause-opening : goal.returns-clause-opening
returns-clause-opening c = spent-opening

pub returns-clause-call : goal.returns-clause-call
returns-clause-call c = λ S p m calls few consistent live is given. spent-step S p m calls few consistent.sound live is given

pub returns-clause-room : goal.returns-clause-room
returns-clause-room c = spent-room
