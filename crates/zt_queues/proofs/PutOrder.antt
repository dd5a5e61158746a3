-- The endpoint's row may be put before the message that it gave a number to.
use Rattle.std.proofs.Common.{◌≡◌, ℕ, refl}
use Rattle.std.specs.Prelude.{Option}
use Rattle.zt_rows.specs.declared.keys.RowKey.TheVariants as key
use Rattle.zt_rows.specs.declared.rows.Row.{Row}
use Rattle.zt_rows.specs.State.{State, put}
use Rattle.zt_rows.proofs.StateLaws.{put-swap}

pub message_last : (S : State) (x e n : ℕ) (endpoint message : Option Row) → put (put S (key.Object x) endpoint) (key.Msg e n) message ≡ put (put S (key.Msg e n) message) (key.Object x) endpoint
message_last S x e n endpoint message = put-swap S (key.Object x) endpoint (key.Msg e n) message refl
