-- So many first clients stand in any tree.
use Rattle.std.proofs.Common.{rules, ◌≡◌, List, false, subst, sym}
use Rattle.std.specs.Prelude.{replicate}
use Rattle.zt_book.specs.declared.client.Client.{Client}
use Rattle.zt_book.specs.Session.{first_client}
use Rattle.zt_book.specs.ProofsOnly.SessionState.{AreClients}
use Rattle.zt_book.proofs.SessionStateLaws.{first_all_clients}
use Rattle.zt_book.proofs.session_state.SessionState.new.Goals as goal

pub invariant_of-result : goal.invariant_of-result
invariant_of-result c =
    let are : c.in_ok-clients.clients.items ≡ replicate c.args.clients first_client = search rules in
    subst (λ (l : List Client). AreClients c.args.history l false) (sym are) (first_all_clients c.args.history c.args.clients c.requires c.position-position.ensures.tree)
