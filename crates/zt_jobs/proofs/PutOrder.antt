-- The counters may be put before the object that they gave a koid to.
use Rattle.std.proofs.Common.{◌≡◌, ℕ, refl}
use Rattle.std.specs.Prelude.{Option}
use Rattle.zt_rows.specs.declared.keys.RowKey.TheVariants as key
use Rattle.zt_rows.specs.declared.rows.Row.{Row}
use Rattle.zt_rows.specs.State.{State, put}
use Rattle.zt_rows.proofs.StateLaws.{put-swap}

pub object_last : (S : State) (x : ℕ) (counters object : Option Row) → put (put S key.Counters counters) (key.Object x) object ≡ put (put S (key.Object x) object) key.Counters counters
object_last S x counters object = put-swap S key.Counters counters (key.Object x) object refl
