-- The first line ends at the first line feed.
use Rattle.std.proofs.Common.{◌∙◌, sym}
use Rattle.zt_logs.proofs.LineLaws.{line_before, line_alone}
use Rattle.zt_logs.proofs.json_lines.next_line.Goals as goal

pub returns-in-Some-clause-lines : goal.returns-in-Some-clause-lines
returns-in-Some-clause-lines c = line_before c.args.bytes.now c.in-Some.place (sym c.feed_place.ensures ∙ c.in-Some.is)

pub returns-in-None-clause-lines : goal.returns-in-None-clause-lines
returns-in-None-clause-lines c = line_alone c.args.bytes.now (sym c.feed_place.ensures ∙ c.in-None.is) c.requires
