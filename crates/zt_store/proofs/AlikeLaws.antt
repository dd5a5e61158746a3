-- An object replaces one of the same kind, life and link. It counts for the same koid and stands in the same bucket, so neither
-- the numbers nor the buckets change.
use Rattle.std.proofs.Common.{◌≡◌, ℕ, Bool, true, false, cond, List, Option, None, Some, refl, sym, ap, ◌∙◌, arith}
use Rattle.std.specs.Prelude.{◌==◌}
use Rattle.std.specs.Option.{option_and_then, option_map}
use Rattle.std.proofs.lemmas.Bool.{eqb-true}
use Rattle.zt_rows.specs.declared.keys.RowKey.{RowKey}
use Rattle.zt_rows.specs.declared.keys.RowKey.TheVariants as key
use Rattle.zt_rows.specs.declared.rows.ObjectRow.{ObjectRow}
use Rattle.zt_rows.specs.declared.rows.Row.{Row}
use Rattle.zt_rows.specs.declared.rows.Row.TheVariants as rows
use Rattle.zt_rows.specs.declared.rows.Wait.{Wait}
use Rattle.zt_rows.specs.Reads.{as_object, entry, object, wait}
use Rattle.zt_rows.specs.State.{State, row, put}
use Rattle.zt_rows.proofs.StateLaws.{row-put}
use Rattle.zt_cells.specs.AlikeObjects.{AreAlike}
use Rattle.zt_cells.specs.CellsView.{CellsView}
use Rattle.zt_index.specs.declared.index.RowChains.{RowChains}
use Rattle.zt_index.specs.declared.support_counts.KoidCounts.{KoidCounts}
use Rattle.zt_index.specs.IndexInvariant.{IsIndexed, bucket_below, bucket_by, bucket_for, bucket_of, bucket_on, held_bucket}
use Rattle.zt_index.specs.KoidCounts.{job_by, named_by, process_by}
use Rattle.zt_index.specs.ProofsOnly.KoidCounts.{AreKoidCounts, NamesFew, total}
use Rattle.zt_index.proofs.IndexLaws.{entry-other, shelved_put, wait-other}
use Rattle.zt_index.proofs.SupportCountLaws.{names_few-put}
use Rattle.zt_index.proofs.Totals.{share, total-put}

below-alike : (a b : ObjectRow) → AreAlike a b → bucket_below a ≡ bucket_below b
below-alike a b e = λ i. bucket_below (record a { kind = e.kind i; life = e.life i; link = e.link i })

module _ (S : State) (x : ℕ) (a b : ObjectRow) (was : Some (rows.Object b) ≡ row S (key.Object x)) (e : AreAlike b a) where
  total-alike : (g : RowKey → Row → ℕ) → g (key.Object x) (rows.Object b) ≡ g (key.Object x) (rows.Object a) → total g S ≡ total g (put S (key.Object x) (Some (rows.Object a)))
  total-alike g same = omega (arith, total-put g S (key.Object x) (Some (rows.Object a)), ap (share g (key.Object x)) was, same)

  pub numbers-alike : (list : List KoidCounts) → AreKoidCounts S list → AreKoidCounts (put S (key.Object x) (Some (rows.Object a))) list
  numbers-alike list counts y =
      counts y
      ∙ (λ i. record { named = total-alike (named_by y) refl i; jobs = total-alike (job_by y) jobs i; processes = total-alike (process_by y) processes i })
    where
      jobs : job_by y (key.Object x) (rows.Object b) ≡ job_by y (key.Object x) (rows.Object a)
      jobs = λ i. job_by y (key.Object x) (rows.Object (record a { kind = e.kind i; life = e.life i; link = e.link i }))

      processes : process_by y (key.Object x) (rows.Object b) ≡ process_by y (key.Object x) (rows.Object a)
      processes = λ i. process_by y (key.Object x) (rows.Object (record a { kind = e.kind i; life = e.life i; link = e.link i }))

  pub names_few-alike : NamesFew S → NamesFew (put S (key.Object x) (Some (rows.Object a)))
  names_few-alike few = names_few-put S (key.Object x) (Some (rows.Object a)) few (λ y. omega arith)

  bucket-alike : (y : ℕ) → option_and_then bucket_below (object S y) ≡ option_and_then bucket_below (object (put S (key.Object x) (Some (rows.Object a))) y)
  bucket-alike y = by (y == x) refl
    where
      there : (t : Bool) → (y == x) ≡ t → row (put S (key.Object x) (Some (rows.Object a))) (key.Object y) ≡ cond t (Some (rows.Object a)) (row S (key.Object y))
      there t is = row-put S (key.Object x) (Some (rows.Object a)) (key.Object y) ∙ ap (λ u. cond u (Some (rows.Object a)) (row S (key.Object y))) is

      by : (t : Bool) → (y == x) ≡ t → option_and_then bucket_below (object S y) ≡ option_and_then bucket_below (object (put S (key.Object x) (Some (rows.Object a))) y)
      by true is =
          let same : row S (key.Object y) ≡ Some (rows.Object b) = ap (λ z. row S (key.Object z)) (eqb-true y x is) ∙ sym was in
          ap (λ r. option_and_then bucket_below (as_object r)) same ∙ below-alike b a e
          ∙ sym (ap (λ r. option_and_then bucket_below (as_object r)) (there true is))
      by false is = sym (ap (λ r. option_and_then bucket_below (as_object r)) (there false is))

-- a wait is in the bucket of the same object where the entries are the same
same-bucket : (S T : State) → ((p h : ℕ) → entry T p h ≡ entry S p h) → (o : Option Wait) → option_and_then (bucket_of S) o ≡ option_and_then (bucket_of T) o
same-bucket S T same None = refl
same-bucket S T same (Some w) = ap (option_map held_bucket) (sym (same w.process w.handle))

pub indexed-alike : (s : CellsView) (x : ℕ) (a b : ObjectRow) (index : RowChains) → Some (rows.Object b) ≡ row s.state (key.Object x) → AreAlike b a → IsIndexed s index → IsIndexed (shelved_put s (key.Object x) (Some (rows.Object a))) index
indexed-alike s x a b index was e h = record {
  on = λ m. h.on m ∙ ap (option_map bucket_on) (sym (same m));
  to = λ m. h.to m ∙ ap (option_map bucket_for) (sym (same m));
  at = λ m.
      h.at m ∙ ap (option_and_then (bucket_of s.state)) (sym (same m))
      ∙ same-bucket s.state (put s.state (key.Object x) (Some (rows.Object a))) (entry-other s.state (key.Object x) (Some (rows.Object a)) (λ p g e. cc)) (wait (put s.state (key.Object x) (Some (rows.Object a))) m);
  by = λ m. h.by m ∙ ap (option_map bucket_by) (sym (same m));
  below = λ y. h.below y ∙ bucket-alike s.state x a b was e y;
  roomy = h.roomy;
  tasks = h.tasks;
}
  where
    same : (m : ℕ) → wait (put s.state (key.Object x) (Some (rows.Object a))) m ≡ wait s.state m
    same = wait-other s.state (key.Object x) (Some (rows.Object a)) (λ n e. cc)
