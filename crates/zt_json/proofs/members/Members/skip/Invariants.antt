use Rattle.std.proofs.Common.{◌≡◌, ◌-◌}
use Rattle.zt_json.specs.Lives.{skipped}
use Rattle.zt_json.proofs.members.Members.skip.Given as goal

-- what is read and what is left to read are the whole
abbrev pub invariant-loop : goal.invariant-loop
invariant-loop l = skipped (l.count - l.counter) l.self ≡ skipped l.fn.count l.fn.self
