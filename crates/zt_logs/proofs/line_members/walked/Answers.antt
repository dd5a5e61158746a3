-- All members are seen.
use Rattle.zt_logs.specs.ProofsOnly.Tokens.{value_at, members_at}
use Rattle.zt_logs.proofs.WalkLaws.{first_seen, next_seen, all_seen}
use Rattle.zt_logs.proofs.line_members.walked.Goals as goal

pub loop-name-init : goal.loop-name-init
loop-name-init c = first_seen (members_at c.args.members) c.none-seen.result c.none-seen.ensures.call c.none-seen.ensures.args c.none-seen.ensures.status c.none-seen.ensures.out

pub loop-name-preserved : goal.loop-name-preserved
loop-name-preserved c =
    next_seen (members_at c.args.members) (members_at c.loop-name.rest) (members_at c.next.new.self) c.in-Some.name.now (value_at c.in-Some.value)
    c.loop-name.seen c.see.new.self c.loop-name.invariant c.in-Some.ensures.value c.see.ensures

pub returns : goal.returns
returns c = all_seen _ _ _ c.loop-name.invariant c.in_default.ensures.value
