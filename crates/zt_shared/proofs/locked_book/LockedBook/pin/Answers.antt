-- One client's account has one row more, or none; and the pass is a part of the log.
use Rattle.std.proofs.Common.{refl, ap, sym, ◌∙◌}
use Rattle.once_cell.specs.Once.{cell_name}
use Rattle.zt_rows.specs.declared.calls.Command.TheVariants as command
use Rattle.zt_shared.specs.Sharing.{begun}
use Rattle.zt_shared.specs.ClientSlots.{slot_number, slot_rows}
use Rattle.zt_shared.proofs.SharingLaws.{sides, part, locked-turned, with_first, with_second, with_third, with_fourth, sides-first, sides-second, sides-third, sides-fourth, turned-part}
use Rattle.zt_shared.proofs.locked_book.LockedBook.pin.Goals.{in-First, in-Second, in-Third, in-Fourth}
use Rattle.zt_shared.proofs.locked_book.LockedBook.pin.Goals as goal

pub invariant_of-self : goal.invariant_of-self
invariant_of-self g c =
    let d = c.self.inside in
    let e = c.pin_turn.ensures in
    locked-turned 1 (λ s. s.first) with_first (λ log. refl) sides-first (λ s. refl) g.A.Beginning.base g.A.Beginning.clients (cell_name d.base) d.told
    d.book.session c.pin_turn.new.book.session d.book.log c.pin_turn.new.book.log (sides d.first.rows d.second.rows d.third.rows d.fourth.rows) c.pin_turn.new.ours.rows c.self.invariant
    _ _ (λ a. a.0) command.Pin c.pin_turn.result e.served e.logged e.ours e.clients e.same

pub invariant_of-self-in-Second : goal.invariant_of-self-in-Second
invariant_of-self-in-Second g c =
    let d = c.self.inside in
    let e = c.pin_turn-in-Second.ensures in
    locked-turned 2 (λ s. s.second) with_second (λ log. refl) sides-second (λ s. refl) g.A.Beginning.base g.A.Beginning.clients (cell_name d.base) d.told
    d.book.session c.pin_turn-in-Second.new.book.session d.book.log c.pin_turn-in-Second.new.book.log (sides d.first.rows d.second.rows d.third.rows d.fourth.rows) c.pin_turn-in-Second.new.ours.rows c.self.invariant
    _ _ (λ a. a.0) command.Pin c.pin_turn-in-Second.result e.served e.logged e.ours e.clients e.same

pub invariant_of-self-in-Third : goal.invariant_of-self-in-Third
invariant_of-self-in-Third g c =
    let d = c.self.inside in
    let e = c.pin_turn-in-Third.ensures in
    locked-turned 3 (λ s. s.third) with_third (λ log. refl) sides-third (λ s. refl) g.A.Beginning.base g.A.Beginning.clients (cell_name d.base) d.told
    d.book.session c.pin_turn-in-Third.new.book.session d.book.log c.pin_turn-in-Third.new.book.log (sides d.first.rows d.second.rows d.third.rows d.fourth.rows) c.pin_turn-in-Third.new.ours.rows c.self.invariant
    _ _ (λ a. a.0) command.Pin c.pin_turn-in-Third.result e.served e.logged e.ours e.clients e.same

pub invariant_of-self-in-Fourth : goal.invariant_of-self-in-Fourth
invariant_of-self-in-Fourth g c =
    let d = c.self.inside in
    let e = c.pin_turn-in-Fourth.ensures in
    locked-turned 4 (λ s. s.fourth) with_fourth (λ log. refl) sides-fourth (λ s. refl) g.A.Beginning.base g.A.Beginning.clients (cell_name d.base) d.told
    d.book.session c.pin_turn-in-Fourth.new.book.session d.book.log c.pin_turn-in-Fourth.new.book.log (sides d.first.rows d.second.rows d.third.rows d.fourth.rows) c.pin_turn-in-Fourth.new.ours.rows c.self.invariant
    _ _ (λ a. a.0) command.Pin c.pin_turn-in-Fourth.result e.served e.logged e.ours e.clients e.same

pub returns-clause-part : goal.returns-clause-part
returns-clause-part g c =
    let d = c.self.inside in
    let base = begun g.A.Beginning.clients c.pass.inside.told.known in
    let begin = begun g.A.Beginning.clients d.told.known in
    let pass = c.pass.view_is ∙ c.agree.ensures.pass in
    let locked = c.self.view_is ∙ c.agree.ensures.locked in
    elim c.match-pass.branch [
      | in-First w ↦
          rw (w.self-is, w.pass-inside-is)
          (turned-part _ _ (λ a. a.0) 1 base begin d.book.session w.pin_turn.new.book.session w.in-First.side.rows w.pin_turn.new.mine.rows c.args.pass.now c.args.self.now d.book.log w.pin_turn.new.book.log
          command.Pin w.pin_turn.result (ap (λ slot. part (slot_number slot) base (slot_rows slot)) (sym w.in-First.is) ∙ pass) locked c.agree.ensures.part
          w.pin_turn.ensures.served w.pin_turn.ensures.logged w.pin_turn.ensures.mine w.pin_turn.ensures.same)
      | in-Second w ↦
          rw (w.self-is, w.pass-inside-is)
          (turned-part _ _ (λ a. a.0) 2 base begin d.book.session w.pin_turn-in-Second.new.book.session w.in-Second.side.rows w.pin_turn-in-Second.new.mine.rows c.args.pass.now c.args.self.now d.book.log w.pin_turn-in-Second.new.book.log
          command.Pin w.pin_turn-in-Second.result (ap (λ slot. part (slot_number slot) base (slot_rows slot)) (sym w.in-Second.is) ∙ pass) locked c.agree.ensures.part
          w.pin_turn-in-Second.ensures.served w.pin_turn-in-Second.ensures.logged w.pin_turn-in-Second.ensures.mine w.pin_turn-in-Second.ensures.same)
      | in-Third w ↦
          rw (w.self-is, w.pass-inside-is)
          (turned-part _ _ (λ a. a.0) 3 base begin d.book.session w.pin_turn-in-Third.new.book.session w.in-Third.side.rows w.pin_turn-in-Third.new.mine.rows c.args.pass.now c.args.self.now d.book.log w.pin_turn-in-Third.new.book.log
          command.Pin w.pin_turn-in-Third.result (ap (λ slot. part (slot_number slot) base (slot_rows slot)) (sym w.in-Third.is) ∙ pass) locked c.agree.ensures.part
          w.pin_turn-in-Third.ensures.served w.pin_turn-in-Third.ensures.logged w.pin_turn-in-Third.ensures.mine w.pin_turn-in-Third.ensures.same)
      | in-Fourth w ↦
          rw (w.self-is, w.pass-inside-is)
          (turned-part _ _ (λ a. a.0) 4 base begin d.book.session w.pin_turn-in-Fourth.new.book.session w.in-Fourth.side.rows w.pin_turn-in-Fourth.new.mine.rows c.args.pass.now c.args.self.now d.book.log w.pin_turn-in-Fourth.new.book.log
          command.Pin w.pin_turn-in-Fourth.result (ap (λ slot. part (slot_number slot) base (slot_rows slot)) (sym w.in-Fourth.is) ∙ pass) locked c.agree.ensures.part
          w.pin_turn-in-Fourth.ensures.served w.pin_turn-in-Fourth.ensures.logged w.pin_turn-in-Fourth.ensures.mine w.pin_turn-in-Fourth.ensures.same)
    ]
