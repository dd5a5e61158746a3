-- The counters may be put before the wait that they gave a number to.
use Rattle.std.proofs.Common.{◌≡◌, ℕ, refl}
use Rattle.std.specs.Prelude.{Option}
use Rattle.zt_rows.specs.declared.keys.RowKey.TheVariants as key
use Rattle.zt_rows.specs.declared.rows.Row.{Row}
use Rattle.zt_rows.specs.State.{State, put}
use Rattle.zt_rows.proofs.StateLaws.{put-swap}

pub wait_last : (S : State) (n : ℕ) (counters wait : Option Row) → put (put S key.Counters counters) (key.Wait n) wait ≡ put (put S (key.Wait n) wait) key.Counters counters
wait_last S n counters wait = put-swap S key.Counters counters (key.Wait n) wait refl
