-- The closure may be called.
use denote.Param.{param}
use denote.Param.Send.{param_send, param_sync, arg_send, arg_sync}
use denote.Exit.{no}
use Rattle.zt_console.proofs.client_threads.serve_all.Goals as goal

pub scoped-requires : goal.scoped-requires
scoped-requires g c = record {
  at = λ s. (
    c.requires,
    (
      param_send 1 _ (arg_send _ no (param 1 g.row.I) c.type_bounds.send-I),
      param_send 2 _ (arg_send _ no (param 2 g.row.O) c.type_bounds.send-O),
      param_send 3 _ (arg_send _ no (param 3 g.row.A) c.type_bounds.send-A),
      param_send 4 _ (arg_send _ no (param 4 g.row.B) c.type_bounds.send-B),
      param_send 5 _ (arg_send _ no (param 5 g.row.C) c.type_bounds.send-C),
      param_send 6 _ (arg_send _ no (param 6 g.row.D) c.type_bounds.send-D),
      param_sync 0 _ (arg_sync _ no (param 0 g.row.R) c.type_bounds.sync-R),
      param_sync 7 _ (arg_sync _ no (param 7 g.row.G) c.type_bounds.sync-G),
    ),
  );
}
