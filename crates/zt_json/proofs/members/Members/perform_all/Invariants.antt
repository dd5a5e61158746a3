use Rattle.std.proofs.Common.{◌≡◌, drop}
use Rattle.zt_json.specs.Members.{performed_all}
use Rattle.zt_json.proofs.members.Members.perform_all.Given as goal

-- what is made and what is left to do are the whole
abbrev pub invariant-loop-step : goal.invariant-loop-step
invariant-loop-step l = performed_all (drop l.step-index l.steps) l.self ≡ performed_all l.fn.steps l.fn.self
