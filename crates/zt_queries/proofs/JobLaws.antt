-- What a process that runs has as its parent is not leaked; and only what lives has a job above it.
use Rattle.std.proofs.Common.{◌≡◌, ◌<◌, ℕ, suc, ◌+◌, Bool, true, false, not, ◌&&◌, ◌||◌, cond, List, [], ◌∷◌, refl, ap, subst, arith}
use Rattle.std.specs.Prelude.{Some, ◌==◌, count_by}
use Rattle.std.specs.List.{list_any}
use Rattle.std.proofs.lemmas.Bool.{eqb-true}
use Rattle.zt_bits.specs.declared.kinds.Kind.{Kind}
use Rattle.zt_bits.specs.declared.kinds.Kind.TheVariants as kind
use Rattle.zt_rows.specs.declared.keys.RowKey.{RowKey}
use Rattle.zt_rows.specs.declared.keys.RowKey.TheVariants as key
use Rattle.zt_rows.specs.declared.rows.ObjectRow.{ObjectRow}
use Rattle.zt_rows.specs.declared.rows.Row.{Row}
use Rattle.zt_rows.specs.declared.rows.Row.TheVariants as rows
use Rattle.zt_rows.specs.State.{State, row}
use Rattle.zt_rows.specs.Reads.{as_object, object, is_job, is_process, is_live_job, is_live_process}
use Rattle.zt_rows.specs.Settle.{is_child_process_of}
use Rattle.zt_rows.specs.Support.{root_job}
use Rattle.zt_rows.specs.Tests.{among, count_row, is_task, link_at, object_link}
use Rattle.zt_rows.specs.End.{chain, links}
use Rattle.zt_rows.specs.Consistent.{IsSound}
use Rattle.zt_rows.proofs.AboveLaws.{parent-above}
use Rattle.zt_rows.proofs.RowLaws.{In, in-row, in-list_any, count-cons, or_left, or_right, and_left, and_right, not_true}
use Rattle.zt_queries.specs.Leaks.{is_leaked}
use Rattle.zt_queries.proofs.LeakLaws.{in-upward, leaked-lost}
use Rattle.zt_queries.proofs.NameLaws.{task-ends}
use Rattle.zt_queries.proofs.ReachLaws.{among-in}

-- ---- what is above

-- only what lives has anything above it
pub above-lives : (S : State) → IsSound S → (y : ℕ) (o : ObjectRow) → object S y ≡ Some o → is_task o.kind ≡ true → (x : ℕ) → In x (chain S y) → (is_live_job o || is_live_process o) ≡ true
unfolding chain links
above-lives S sound y o there task x m = by (is_live_job o || is_live_process o) refl
  where
    more : y + 1 ≡ suc y
    more = omega arith

    ended : (j p z : Bool) → (j || p) ≡ false → (p || (j && z)) ≡ false
    ended true p z e = cc
    ended false p z e = grind (arith, e)

    by : (b : Bool) → (is_live_job o || is_live_process o) ≡ b → (is_live_job o || is_live_process o) ≡ true
    by true t = t
    by false t =
        let none : o.link ≡ 0 = (sound.of_objects y o there).alone (task-ends o.kind task) (ended (is_live_job o) (is_live_process o) (not (y == root_job)) t) in
        let w = in-upward x (link_at S y) (λ z. links y S z) (subst (λ n. In x (links n S y)) more m) in
        let some : 0 < link_at S y = w.0 in
        let same : link_at S y ≡ o.link = ap object_link there in
        absurd (omega arith)

pub job-no-process : (k : Kind) → is_job k ≡ true → is_process k ≡ true → ⊥
job-no-process kind.Job e f = cc
job-no-process kind.Process e f = cc
job-no-process kind.Channel e f = cc
job-no-process kind.Event e f = cc
job-no-process kind.EventPair e f = cc
job-no-process kind.Port e f = cc

-- ---- a live process as its child

child-process : (S : State) (x : ℕ) (k : RowKey) (r : Row) → row S k ≡ Some r → is_child_process_of x k r ≡ true → (y : ℕ) × (q : ObjectRow) × (object S y ≡ Some q) × (is_live_process q ≡ true) × (q.link ≡ x)
child-process S x (key.Object y) (rows.Object q) there e = (y, q, ap as_object there, and_left (is_live_process q) _ e, eqb-true q.link x (and_right (is_live_process q) _ e))
child-process S x _ _ there e = cc

some-row : (p : RowKey × Row → Bool) (es : List (RowKey × Row)) → 0 < count_by p es → list_any p es ≡ true
some-row p [] some = absurd (omega (arith, some))
some-row p (e ∷ es) some = by (p e) refl (λ more. some-row p es more)
  where
    by : (b : Bool) → p e ≡ b → (0 < count_by p es → list_any p es ≡ true) → list_any p (e ∷ es) ≡ true
    by true t rest = or_left (p e) (list_any p es) t
    by false f rest = or_right (p e) (list_any p es) (rest (omega (arith, some, count-cons p e es, ap (λ b. cond {A = ℕ} b 1 0) f)))

-- what a process that runs has as its parent is not leaked
pub process-below : (S : State) → IsSound S → (x : ℕ) → 0 < count_row (is_child_process_of x) S → is_leaked S x ≡ false
unfolding count_row
process-below S sound x some = not_true (is_leaked S x) (λ leaks.
    let w = in-list_any (λ (e : RowKey × Row). is_child_process_of x e.0 e.1) S.rows (some-row (λ (e : RowKey × Row). is_child_process_of x e.0 e.1) S.rows some) in
    let p = child-process S x w.0.0 w.0.1 (in-row S w.0.0 w.0.1 w.1) w.2 in
    let up : among (chain S p.0) x ≡ true = subst (λ z. among (chain S p.0) z ≡ true) p.4 (parent-above S sound p.0 p.1 p.2 (or_left (is_live_process p.1) _ p.3)) in
    (leaked-lost S x leaks).not_above p.0 p.1 p.2 (or_left (is_live_process p.1) _ p.3) (among-in x (chain S p.0) up))
