-- What the closure asks is what its caller gives: bounds of types, and what it asks of the lists.
use Rattle.std.proofs.Common.{rules}
use Rattle.zt_console.proofs.client_threads.fn.serve_all.scope+FnOnce.call_once.Goals as goal

pub scope-requires : goal.scope-requires
scope-requires g c = (search rules, (search rules, (search rules, (search rules, (search rules, (search rules, (search rules, (search rules, search rules))))))))
