-- What a message of a record names is reached where the endpoint is at which it waited.
use Rattle.std.proofs.Common.{◌≡◌, ◌<◌, ℕ, true, refl, sym, ap, ◌∙◌, subst, arith, List}
use Rattle.std.specs.Prelude.{Option, None, Some, unwrap_or, ◌==◌}
use Rattle.std.proofs.lemmas.Bool.{eqb-true}
use Rattle.zt_rows.specs.declared.keys.RowKey.{RowKey}
use Rattle.zt_rows.specs.declared.keys.RowKey.TheVariants as key
use Rattle.zt_rows.specs.declared.rows.Held.{Held}
use Rattle.zt_rows.specs.declared.rows.Row.{Row}
use Rattle.zt_rows.specs.declared.rows.Row.TheVariants as rows
use Rattle.zt_rows.specs.Reads.{as_message}
use Rattle.zt_rows.specs.State.{State, row}
use Rattle.zt_rows.specs.Tests.{among}
use Rattle.zt_rows.proofs.RowLaws.{in-list_any}
use Rattle.zt_store.specs.RecordLook.{held}
use Rattle.zt_queries.specs.Reachability.{reached}
use Rattle.zt_queries.specs.ProofsOnly.FirstLeak.{ShowsReachedWith}
use Rattle.zt_queries.specs.ProofsOnly.NameSearch.{times_named}
use Rattle.zt_queries.proofs.NameSearchLaws.{named-times}
use Rattle.zt_queries.proofs.ReachLaws.{message-reached}

module _ (S : State) (e n x : ℕ) (known : among (reached S) e ≡ true) where
  by_row : (r : Option Row) → row S (key.Msg e n) ≡ r → 0 < times_named x r → among (reached S) x ≡ true
  by_row (Some (rows.Msg m)) there some =
      let w = in-list_any (λ (h : Held). h.koid == x) m.handles (named-times x (Some (rows.Msg m)) some) in
      ap (among (reached S)) (sym (eqb-true w.0.koid x w.2)) ∙ message-reached S e n m (ap as_message there) known w.0 w.1
  by_row None there some = absurd (omega (arith, some))
  by_row (Some (rows.Counters _)) there some = absurd (omega (arith, some))
  by_row (Some (rows.Object _)) there some = absurd (omega (arith, some))
  by_row (Some (rows.Entry _)) there some = absurd (omega (arith, some))
  by_row (Some (rows.Packet _)) there some = absurd (omega (arith, some))
  by_row (Some (rows.Wait _)) there some = absurd (omega (arith, some))

pub message-shows : (R : List (RowKey × Option Row)) (e n x : ℕ) (r : Option Row) → held R (key.Msg e n) ≡ Some r → 0 < times_named x r → ShowsReachedWith R x e
message-shows R e n x r there some = λ S behind known.
    let same : r ≡ row S (key.Msg e n) = sym (ap (λ o. unwrap_or o (row S (key.Msg e n))) there) ∙ behind.same (key.Msg e n) in
    by_row S e n x known (row S (key.Msg e n)) refl (subst (λ q. 0 < times_named x q) same some)
