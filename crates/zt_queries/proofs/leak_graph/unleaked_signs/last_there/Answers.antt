-- Forth from the fork, each record tells the row after its call.
use Rattle.std.proofs.Common.{◌≡◌, ◌<◌, ◌≤◌, ◌+◌, length, inl, inr, sym, ap, ◌∙◌, arith}
use Rattle.std.specs.Option.{option_copied}
use Rattle.std.proofs.lemmas.Bool.{cases_lt}
use Rattle.zt_rows.specs.declared.keys.RowKey.TheVariants as key
use Rattle.zt_rows.specs.State.{row}
use Rattle.zt_rows.specs.Tests.{exists}
use Rattle.zt_rows.proofs.RowLaws.{true≢false}
use Rattle.zt_queries.specs.ProofsOnly.FirstLeak.{state_after, is_sure}
use Rattle.zt_history.specs.RowHappenings.{is_there}
use Rattle.zt_queries.proofs.FirstLeakLaws.{sure-unleaked}
use Rattle.zt_queries.proofs.WayLaws.{forth-up}
use Rattle.zt_queries.proofs.leak_graph.unleaked_signs.last_there.Goals as goal
use Rattle.zt_queries.proofs.leak_graph.unleaked_signs.last_there.Goals.{then-is_there, else-is_there}

pub loop-i-preserved : goal.loop-i-preserved
loop-i-preserved c =
    let below : c.loop-i.i < length c.args.ways.now.way.items = omega (arith, c.loop-i-test.true, c.len-i-end.ensures, c.args.ways.now.way.ok.0) in
    let far : c.args.ways.now.shared ≤ c.loop-i.i = omega (arith, c.loop-i.invariant.low, c.loop-i.invariant.high) in
    let stands : option_copied c.row_over-row.result ≡ row (state_after c.args.history.now.tree.made c.args.ways.now.way.items (c.loop-i.i + 1)) (key.Object c.args.koid) =
    forth-up c.args.history.now c.args.ways.now.way.items c.args.ways.now.here.items c.args.ways.now.shared c.requires (key.Object c.args.koid) c.loop-i.i c.index.result.now
    (option_copied c.loop-i.row) (option_copied c.row_over-row.result) far below c.index.ensures c.loop-i.invariant.stands c.row_over-row.ensures in
    let told : exists (state_after c.args.history.now.tree.made c.args.ways.now.way.items (c.loop-i.i + 1)) c.args.koid ≡ c.is_there.result =
    ap (λ r. is_there r) (sym stands) ∙ sym c.is_there.ensures in
    record {
      stands = stands;
      there = elim c.if-is_there.branch [
        | then-is_there w ↦
            w.there-is ∙ sym (told ∙ w.if-is_there.true)
            ∙ ap (λ n. exists (state_after c.args.history.now.tree.made c.args.ways.now.way.items n) c.args.koid) (sym w.place-is)
        | else-is_there w ↦
            w.there-is ∙ c.loop-i.invariant.there
            ∙ ap (λ n. exists (state_after c.args.history.now.tree.made c.args.ways.now.way.items n) c.args.koid) (sym w.place-is)
      ];
      sure = elim c.if-is_there.branch [
        | then-is_there w ↦
            w.sure-is ∙ w.is_sure-sure-then-is_there.ensures
            ∙ ap (λ r. is_sure r c.args.koid) stands
            ∙ ap (λ n. is_sure (row (state_after c.args.history.now.tree.made c.args.ways.now.way.items n) (key.Object c.args.koid)) c.args.koid) (sym w.place-is)
        | else-is_there w ↦
            w.sure-is ∙ c.loop-i.invariant.sure
            ∙ ap (λ n. is_sure (row (state_after c.args.history.now.tree.made c.args.ways.now.way.items n) (key.Object c.args.koid)) c.args.koid) (sym w.place-is)
      ];
      gone = λ j l m. elim c.if-is_there.branch [
        | then-is_there w ↦ absurd (omega (arith, l, m, w.place-is))
        | else-is_there w ↦ elim (cases_lt c.loop-i.i j) [
          | inl above ↦
              let same : j ≡ c.loop-i.i + 1 = omega (arith, above, m) in
              ap (λ n. exists (state_after c.args.history.now.tree.made c.args.ways.now.way.items n) c.args.koid) same ∙ told ∙ w.if-is_there.false
          | inr within ↦ c.loop-i.invariant.gone j (omega (arith, l, w.place-is)) within
        ]
      ];
      low = elim c.if-is_there.branch [
        | then-is_there w ↦ omega (arith, far, w.place-is)
        | else-is_there w ↦ omega (arith, c.loop-i.invariant.low, w.place-is)
      ];
      high = elim c.if-is_there.branch [
        | then-is_there w ↦ omega (arith, w.place-is)
        | else-is_there w ↦ omega (arith, c.loop-i.invariant.high, w.place-is)
      ];
      beyond = λ e. elim c.if-is_there.branch [
        | then-is_there w ↦ absurd (true≢false _ w.there-is e)
        | else-is_there w ↦ w.place-is ∙ c.loop-i.invariant.beyond (sym w.there-is ∙ e)
      ];
    }

pub returns-then-there-clause-sure : goal.returns-then-there-clause-sure
returns-then-there-clause-sure c = λ t.
    sure-unleaked (state_after c.args.history.now.tree.made c.args.ways.now.way.items c.loop-i.place) c.args.koid (sym c.loop-i.invariant.sure ∙ t)
