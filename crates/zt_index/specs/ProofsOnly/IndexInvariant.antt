-- How the buckets of an index stand once a row is exchanged. Used by proofs only.
use Rattle.std.specs.Prelude.{ℕ, Bool, Option, slice_set}
use Rattle.std.specs.Option.{option_and_then, option_map}
use Rattle.zt_rows.specs.declared.rows.ObjectRow.{ObjectRow}
use Rattle.zt_rows.specs.declared.rows.Wait.{Wait}
use Rattle.zt_rows.specs.State.{State}
use Rattle.zt_index.specs.declared.index.RowChains.{RowChains}
use Rattle.zt_index.specs.declared.index.Criterion.{Criterion}
use Rattle.zt_index.specs.declared.index.Criterion.TheVariants as criterion
use Rattle.zt_index.specs.Criteria.{is_at, is_below, is_by, is_for, is_on, objects_where, waits_where}
use Rattle.zt_index.specs.IndexInvariant.{bucket_on, bucket_for, bucket_by, bucket_of, bucket_below}

-- what stands under this number is looked for
abbrev pub meets_criterion : State → Criterion → ℕ → Bool
meets_criterion S (criterion.On p h) = waits_where S (is_on p h)
meets_criterion S (criterion.For x) = waits_where S (is_for x)
meets_criterion S (criterion.At x) = waits_where S (is_at S x)
meets_criterion S (criterion.By p) = waits_where S (is_by p)
meets_criterion S (criterion.Below x) = objects_where S (is_below x)

-- ---- buckets

-- the index with the wait of this number, or none, in its buckets
abbrev pub index_with : State → RowChains → ℕ → Option Wait → RowChains
index_with S index n w = record {
  handles = slice_set index.handles n (option_map bucket_on w);
  ports = slice_set index.ports n (option_map bucket_for w);
  objects = slice_set index.objects n (option_and_then (bucket_of S) w);
  processes = slice_set index.processes n (option_map bucket_by w);
  parents = index.parents;
}

-- the index with the object of this koid, or none, in its bucket
abbrev pub index_below : RowChains → ℕ → Option ObjectRow → RowChains
index_below index x o = record index { parents = slice_set index.parents x (option_and_then bucket_below o) }
