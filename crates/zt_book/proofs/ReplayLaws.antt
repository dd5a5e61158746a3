-- How a log goes on: with one row more it replays from where it did.
use Rattle.std.proofs.Common.{◌≡◌, List, [], ◌∷◌, ◌++◌, Ok, refl, subst}
use Rattle.zt_book.specs.declared.log.Recorded.{Recorded}
use Rattle.zt_book.specs.Session.{Session, serve}
use Rattle.zt_book.specs.Log.{Replays}

pub replays-row : (M N P : Session) (log : List Recorded) (row : Recorded) → Replays M log N → serve N row.client row.asked ≡ Ok (row.answered, P)
    → Replays M (log ++ row ∷ []) P
replays-row M N P [] row end served = (P, subst (λ (S : Session). serve S row.client row.asked ≡ Ok (row.answered, P)) end served, refl)
replays-row M N P (first ∷ rows) row log served = (log.0, log.1, replays-row log.0 N P rows row log.2 served)
