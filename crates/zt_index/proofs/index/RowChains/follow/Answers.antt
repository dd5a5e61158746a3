use Rattle.std.proofs.Common.{◌≡◌, ℕ, true, Option, sym, ap, ◌∙◌, subst}
use Rattle.std.specs.Option.{option_copied, option_map}
use Rattle.std.specs.Prelude.{if◌then◌else◌}
use Rattle.zt_rows.specs.declared.keys.RowKey.{RowKey}
use Rattle.zt_rows.specs.declared.keys.RowKey.TheVariants as key
use Rattle.zt_rows.specs.declared.rows.Held.{Held}
use Rattle.zt_rows.specs.declared.rows.Row.{Row}
use Rattle.zt_cells.specs.CellsView.{CellsView}
use Rattle.zt_cells.specs.TableSizes.{has_place}
use Rattle.zt_index.specs.declared.index.RowChains.{RowChains}
use Rattle.zt_index.specs.Chains.{bucket_at}
use Rattle.zt_index.specs.Criteria.{is_on, waits_where}
use Rattle.zt_index.specs.IndexInvariant.{IsIndexed, held_bucket}
use Rattle.zt_index.specs.ProofsOnly.IndexInvariant.{index_below, index_with}
use Rattle.zt_index.proofs.IndexLaws.{followed-entry, followed-object, followed-other, followed-wait, room-below, room-for, shelved_put}
use Rattle.zt_index.proofs.index.RowChains.follow.Goals as goal

pub set-requires : goal.set-requires
set-requires c =
    let there : has_place c.args.cells.now.sizes (key.Wait c.in-Wait.number) ≡ true = ap (has_place c.args.cells.now.sizes) (sym c.in-Wait.is) ∙ c.requires.placed in
    room-for c.args.cells.now c.in-Wait.number c.args.self.now there c.requires.indexed

pub set_below-requires : goal.set_below-requires
set_below-requires c =
    let there : has_place c.args.cells.now.sizes (key.Object c.in-Object.koid) ≡ true = ap (has_place c.args.cells.now.sizes) (sym c.in-Object.is) ∙ c.requires.placed in
    room-below c.args.cells.now c.in-Object.koid c.args.self.now there c.requires.indexed

pub returns-in_default : goal.returns-in_default
returns-in_default c =
    followed-other c.args.cells.now c.args.key (option_copied c.args.row) c.args.self.now (λ n e. c.in_default.not-Wait n e) (λ p h e. c.in_default.not-Entry p h e) (λ x e. c.in_default.not-Object x e) c.requires.indexed

pub returns-in-Wait : goal.returns-in-Wait
returns-in-Wait c =
    let s : CellsView = c.args.cells.now in
    let n : ℕ = c.in-Wait.number in
    let r : Option Row = (option_copied c.args.row) in
    let there : has_place s.sizes (key.Wait n) ≡ true = ap (has_place s.sizes) (sym c.in-Wait.is) ∙ c.requires.placed in
    subst (λ (k : RowKey). IsIndexed (shelved_put s k r) c.set.new.self) (sym c.in-Wait.is)
    (subst (λ (i : RowChains). IsIndexed (shelved_put s (key.Wait n) r) i) (sym (c.set.ensures ∙ ap (index_with s.state c.args.self.now n) c.as_wait.ensures))
    (followed-wait s n r c.args.self.now (room-for s n c.args.self.now there c.requires.indexed) c.requires.indexed))

pub returns-in-Entry : goal.returns-in-Entry
returns-in-Entry c =
    let s : CellsView = c.args.cells.now in
    let p : ℕ = c.in-Entry.process in
    let h : ℕ = c.in-Entry.handle in
    let r : Option Row = (option_copied c.args.row) in
    subst (λ (k : RowKey). IsIndexed (shelved_put s k r) c.rename.new.self) (sym c.in-Entry.is)
    (followed-entry s p h r c.args.self.now c.rename.new.self c.requires.indexed c.rename.ensures.handles c.rename.ensures.ports c.rename.ensures.processes c.rename.ensures.parents c.rename.ensures.objects
    (λ m. c.rename.ensures.moved m ∙ ap (λ (o : Option Held). if waits_where s.state (is_on p h) m then option_map held_bucket o else bucket_at c.args.self.now.objects m) c.as_entry.ensures))

pub returns-in-Object : goal.returns-in-Object
returns-in-Object c =
    let s : CellsView = c.args.cells.now in
    let x : ℕ = c.in-Object.koid in
    let r : Option Row = (option_copied c.args.row) in
    let there : has_place s.sizes (key.Object x) ≡ true = ap (has_place s.sizes) (sym c.in-Object.is) ∙ c.requires.placed in
    subst (λ (k : RowKey). IsIndexed (shelved_put s k r) c.set_below.new.self) (sym c.in-Object.is)
    (subst (λ (i : RowChains). IsIndexed (shelved_put s (key.Object x) r) i) (sym (c.set_below.ensures ∙ ap (index_below c.args.self.now x) (c.copied.ensures ∙ c.as_object.ensures)))
    (followed-object s x r c.args.self.now (room-below s x c.args.self.now there c.requires.indexed) c.requires.indexed))
