-- The clients that connect have all the passes of the book.
use Rattle.zt_console.proofs.ServeLaws.{first_callers}
use Rattle.zxtt.proofs.service.serve_book.Goals as goal

pub sessions-requires-clause-all : goal.sessions-requires-clause-all
sessions-requires-clause-all g c κs within =
    first_callers c.in_ok-callers.callers.items _ _ _ _ c.in_ok-callers.ensures.passes c.in-Ok.ensures.passes c.requires.base.1
