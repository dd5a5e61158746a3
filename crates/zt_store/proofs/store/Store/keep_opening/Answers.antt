-- Four rows put over a hollow store are the opening's.
use Rattle.std.proofs.Common.{◌∙◌}
use Rattle.std.proofs.lemmas.Result.{on_ok_weaker}
use Rattle.zt_store.proofs.StoreLaws.{opened}
use Rattle.zt_store.proofs.store.Store.keep_opening.Goals as goal

pub returns : goal.returns
returns c =
    on_ok_weaker c.keep-4.result
    (λ is. is ∙ rw (c.in_ok-keep-3.ensures, c.in_ok-keep-2.ensures, c.in_ok-keep.ensures, c.requires) opened)
    c.keep-4.ensures
