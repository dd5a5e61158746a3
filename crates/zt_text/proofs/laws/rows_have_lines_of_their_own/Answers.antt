use Rattle.zt_text.proofs.RowLines.{row_lines_differ}
use Rattle.zt_text.proofs.laws.rows_have_lines_of_their_own.Goals as goal

pub returns : goal.returns
returns c = λ key other row shown. row_lines_differ key other row shown
