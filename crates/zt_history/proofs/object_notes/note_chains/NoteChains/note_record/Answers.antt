-- What is under one key more is noted.
use Rattle.std.proofs.Common.{◌≡◌, ◌<◌, ◌++◌, length, map, List, Some, sym, ap, ◌∙◌, append-nil, arith}
use Rattle.std.specs.Prelude.{slice_get}
use Rattle.std.specs.Option.{option_map}
use Rattle.zt_rows.specs.declared.keys.RowKey.{RowKey}
use Rattle.zt_store.specs.RecordLook.{held}
use Rattle.zt_history.proofs.ListLaws.{length-mapped}
use Rattle.zt_history.proofs.NoteListLaws.{by-row, key-read, longer-next, longer-self, notes-all, notes-next}
use Rattle.zt_history.proofs.object_notes.note_chains.NoteChains.note_record.Goals as goal

pub loop-place-init : goal.loop-place-init
loop-place-init c = record { notes = sym (append-nil c.args.self.now); kept = longer-self c.args.self.now }

pub loop-place-preserved : goal.loop-place-preserved
loop-place-preserved c =
    let R = c.args.change.now in
    let T = c.args.store.now.state in
    let keys : List RowKey = map (λ e. e.0) R in
    let q = c.key.result in
    let below : c.loop-place.place < length keys = omega (arith, c.loop-place-test.true, c.len-place-end.ensures, ap length c.rows-rows.ensures, length-mapped (λ e. e.0) R) in
    let there : option_map (λ e. e.0) (slice_get R c.loop-place.place) ≡ Some q = ap (λ Q. option_map (λ e. e.0) (slice_get Q c.loop-place.place)) (sym c.rows-rows.ensures) ∙ c.key.ensures in
    let held_there = ap (λ Q. held Q q) (sym c.rows-rows.ensures) ∙ c.row.ensures.held q c.key.ensures in
    record {
      notes =
          notes-next c.args.moment R T keys c.loop-place.place q c.args.self.now c.loop-place.self c.note_under.new.self below (key-read R c.loop-place.place q there)
          c.loop-place.invariant.notes (c.in_ok-note_under.ensures.ok ∙ ap (λ l. c.loop-place.self ++ l) (by-row c.args.moment R T q _ held_there));
      kept = longer-next c.args.self.now c.loop-place.self c.note_under.new.self c.loop-place.invariant.kept c.note_under.ensures.kept;
    }

pub returns-clause-ok : goal.returns-clause-ok
returns-clause-ok c =
    let whole : c.loop-place.place ≡ length (map (λ e. e.0) c.args.change.now) =
    omega (arith, c.loop-place-test.false, c.loop-place.auto.place-end, c.len-place-end.ensures, ap length c.rows-rows.ensures, length-mapped (λ e. e.0) c.args.change.now) in
    notes-all c.args.moment c.args.change.now c.args.store.now.state (map (λ e. e.0) c.args.change.now) c.loop-place.place c.args.self.now c.loop-place.self whole
    c.loop-place.invariant.notes

pub returns-in_err-note_under-clause-kept : goal.returns-in_err-note_under-clause-kept
returns-in_err-note_under-clause-kept c = longer-next c.args.self.now c.loop-place.self c.note_under.new.self c.loop-place.invariant.kept c.note_under.ensures.kept
