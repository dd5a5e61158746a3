-- One client's account has one row more, or none; and the pass is a part of the log.
use Rattle.std.proofs.Common.{refl, ap, sym, ◌∙◌}
use Rattle.once_cell.specs.Once.{cell_name}
use Rattle.zt_shared.specs.Sharing.{begun}
use Rattle.zt_shared.specs.ClientSlots.{slot_number, slot_rows}
use Rattle.zt_shared.proofs.SharingLaws.{sides, part, locked-turned, with_first, with_second, with_third, with_fourth, sides-first, sides-second, sides-third, sides-fourth, turned-part}
use Rattle.zt_shared.proofs.locked_book.LockedBook.ask.Goals.{in-First, in-Second, in-Third, in-Fourth}
use Rattle.zt_shared.proofs.locked_book.LockedBook.ask.Goals as goal

pub invariant_of-self : goal.invariant_of-self
invariant_of-self g c =
    let d = c.self.inside in
    let e = c.turn.ensures in
    locked-turned 1 (λ s. s.first) with_first (λ log. refl) sides-first (λ s. refl) g.A.Beginning.base g.A.Beginning.clients (cell_name d.base) d.told
    d.book.session c.turn.new.book.session d.book.log c.turn.new.book.log (sides d.first.rows d.second.rows d.third.rows d.fourth.rows) c.turn.new.ours.rows c.self.invariant
    _ _ (λ a. a) c.args.asked c.turn.result e.served e.logged e.ours e.clients e.same

pub invariant_of-self-in-Second : goal.invariant_of-self-in-Second
invariant_of-self-in-Second g c =
    let d = c.self.inside in
    let e = c.turn-in-Second.ensures in
    locked-turned 2 (λ s. s.second) with_second (λ log. refl) sides-second (λ s. refl) g.A.Beginning.base g.A.Beginning.clients (cell_name d.base) d.told
    d.book.session c.turn-in-Second.new.book.session d.book.log c.turn-in-Second.new.book.log (sides d.first.rows d.second.rows d.third.rows d.fourth.rows) c.turn-in-Second.new.ours.rows c.self.invariant
    _ _ (λ a. a) c.args.asked c.turn-in-Second.result e.served e.logged e.ours e.clients e.same

pub invariant_of-self-in-Third : goal.invariant_of-self-in-Third
invariant_of-self-in-Third g c =
    let d = c.self.inside in
    let e = c.turn-in-Third.ensures in
    locked-turned 3 (λ s. s.third) with_third (λ log. refl) sides-third (λ s. refl) g.A.Beginning.base g.A.Beginning.clients (cell_name d.base) d.told
    d.book.session c.turn-in-Third.new.book.session d.book.log c.turn-in-Third.new.book.log (sides d.first.rows d.second.rows d.third.rows d.fourth.rows) c.turn-in-Third.new.ours.rows c.self.invariant
    _ _ (λ a. a) c.args.asked c.turn-in-Third.result e.served e.logged e.ours e.clients e.same

pub invariant_of-self-in-Fourth : goal.invariant_of-self-in-Fourth
invariant_of-self-in-Fourth g c =
    let d = c.self.inside in
    let e = c.turn-in-Fourth.ensures in
    locked-turned 4 (λ s. s.fourth) with_fourth (λ log. refl) sides-fourth (λ s. refl) g.A.Beginning.base g.A.Beginning.clients (cell_name d.base) d.told
    d.book.session c.turn-in-Fourth.new.book.session d.book.log c.turn-in-Fourth.new.book.log (sides d.first.rows d.second.rows d.third.rows d.fourth.rows) c.turn-in-Fourth.new.ours.rows c.self.invariant
    _ _ (λ a. a) c.args.asked c.turn-in-Fourth.result e.served e.logged e.ours e.clients e.same

pub returns-clause-part : goal.returns-clause-part
returns-clause-part g c =
    let d = c.self.inside in
    let base = begun g.A.Beginning.clients c.pass.inside.told.known in
    let begin = begun g.A.Beginning.clients d.told.known in
    let pass = c.pass.view_is ∙ c.agree.ensures.pass in
    let locked = c.self.view_is ∙ c.agree.ensures.locked in
    elim c.match-pass.branch [
      | in-First w ↦
          rw (w.self-is, w.pass-inside-is)
          (turned-part _ _ (λ a. a) 1 base begin d.book.session w.turn.new.book.session w.in-First.side.rows w.turn.new.mine.rows c.args.pass.now c.args.self.now d.book.log w.turn.new.book.log
          c.args.asked w.turn.result (ap (λ slot. part (slot_number slot) base (slot_rows slot)) (sym w.in-First.is) ∙ pass) locked c.agree.ensures.part
          w.turn.ensures.served w.turn.ensures.logged w.turn.ensures.mine w.turn.ensures.same)
      | in-Second w ↦
          rw (w.self-is, w.pass-inside-is)
          (turned-part _ _ (λ a. a) 2 base begin d.book.session w.turn-in-Second.new.book.session w.in-Second.side.rows w.turn-in-Second.new.mine.rows c.args.pass.now c.args.self.now d.book.log w.turn-in-Second.new.book.log
          c.args.asked w.turn-in-Second.result (ap (λ slot. part (slot_number slot) base (slot_rows slot)) (sym w.in-Second.is) ∙ pass) locked c.agree.ensures.part
          w.turn-in-Second.ensures.served w.turn-in-Second.ensures.logged w.turn-in-Second.ensures.mine w.turn-in-Second.ensures.same)
      | in-Third w ↦
          rw (w.self-is, w.pass-inside-is)
          (turned-part _ _ (λ a. a) 3 base begin d.book.session w.turn-in-Third.new.book.session w.in-Third.side.rows w.turn-in-Third.new.mine.rows c.args.pass.now c.args.self.now d.book.log w.turn-in-Third.new.book.log
          c.args.asked w.turn-in-Third.result (ap (λ slot. part (slot_number slot) base (slot_rows slot)) (sym w.in-Third.is) ∙ pass) locked c.agree.ensures.part
          w.turn-in-Third.ensures.served w.turn-in-Third.ensures.logged w.turn-in-Third.ensures.mine w.turn-in-Third.ensures.same)
      | in-Fourth w ↦
          rw (w.self-is, w.pass-inside-is)
          (turned-part _ _ (λ a. a) 4 base begin d.book.session w.turn-in-Fourth.new.book.session w.in-Fourth.side.rows w.turn-in-Fourth.new.mine.rows c.args.pass.now c.args.self.now d.book.log w.turn-in-Fourth.new.book.log
          c.args.asked w.turn-in-Fourth.result (ap (λ slot. part (slot_number slot) base (slot_rows slot)) (sym w.in-Fourth.is) ∙ pass) locked c.agree.ensures.part
          w.turn-in-Fourth.ensures.served w.turn-in-Fourth.ensures.logged w.turn-in-Fourth.ensures.mine w.turn-in-Fourth.ensures.same)
    ]
