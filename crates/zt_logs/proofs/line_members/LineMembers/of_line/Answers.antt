-- What the walk has found are the fields of the line.
use Rattle.std.proofs.Common.{◌≡◌, Some, refl, ap, ◌∙◌}
use Rattle.zt_logs.specs.declared.places.Member.TheVariants as member
use Rattle.zt_logs.specs.ProofsOnly.Tokens.{value_at, data_at, members_at}
use Rattle.zt_logs.proofs.WalkLaws.{field_seen}
use Rattle.zt_logs.proofs.line_members.LineMembers.of_line.Goals as goal

pub returns-clause-walked : goal.returns-clause-walked
returns-clause-walked c =
    let d = value_at c.args.line in
    let ms = members_at c.in-Some.members in
    let here : data_at c.new-whole.result.value ≡ Some d = ap data_at c.new-whole.ensures in
    record {
      call = field_seen member.Call d ms _ _ refl c.in-Some.ensures c.walked-others.ensures.call here;
      args = field_seen member.Args d ms _ _ refl c.in-Some.ensures (ap data_at (c.new-args.ensures ∙ c.take.ensures.value) ∙ c.walked-others.ensures.args) here;
      status = field_seen member.Status d ms _ _ refl c.in-Some.ensures c.walked-others.ensures.status here;
      out = field_seen member.Out d ms _ _ refl c.in-Some.ensures (ap data_at (c.new-out.ensures ∙ c.take-2.ensures.value) ∙ c.walked-others.ensures.out) here;
    }
