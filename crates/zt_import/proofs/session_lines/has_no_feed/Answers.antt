-- No byte is a line feed where none is found.
use Rattle.std.proofs.Common.{◌∙◌, ap}
use Rattle.std.specs.Prelude.{not}
use Rattle.zt_import.proofs.TextLaws.{feed_none}
use Rattle.zt_import.proofs.session_lines.has_no_feed.Goals as goal

pub returns : goal.returns
returns c = ap not c.contains.ensures.value ∙ feed_none c.args.bytes.now
