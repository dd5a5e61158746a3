use Rattle.zt_book.proofs.WrittenLaws.{written_law}
use Rattle.zt_book.proofs.laws.what_is_written_down_is_loaded.Goals as goal

pub returns : goal.returns
returns c = written_law
