-- The counters may be put before the objects that they gave koids to.
use Rattle.std.proofs.Common.{◌≡◌, ℕ, refl, ap, ◌∙◌}
use Rattle.std.specs.Prelude.{Option}
use Rattle.zt_rows.specs.declared.keys.RowKey.TheVariants as key
use Rattle.zt_rows.specs.declared.rows.Row.{Row}
use Rattle.zt_rows.specs.State.{State, put}
use Rattle.zt_rows.proofs.StateLaws.{put-swap}

-- the counters before an object
pub object_last : (S : State) (x : ℕ) (counters object : Option Row) → put (put S key.Counters counters) (key.Object x) object ≡ put (put S (key.Object x) object) key.Counters counters
object_last S x counters object = put-swap S key.Counters counters (key.Object x) object refl

-- the counters before two objects
pub objects_last : (S : State) (x y : ℕ) (counters near far : Option Row) → put (put (put S key.Counters counters) (key.Object x) near) (key.Object y) far ≡ put (put (put S (key.Object x) near) (key.Object y) far) key.Counters counters
objects_last S x y counters near far =
    ap (λ U. put U (key.Object y) far) (object_last S x counters near)
    ∙ object_last (put S (key.Object x) near) y counters far
