-- The position has so many ancestors or not; it has, and the client stands at the ancestor.
use Rattle.std.proofs.Common.{◌≡◌, ◌≤◌, length, ◌∙◌, arith, subst, sym}
use Rattle.zt_history.specs.Tree.{path}
use Rattle.zt_history.specs.TreeInvariant.{Falls}
use Rattle.zt_book.specs.Session.{position_of, ancestor}
use Rattle.zt_book.proofs.SessionStateLaws.{back-far, back-seen, ancestor-within}
use Rattle.zt_book.proofs.session_state.SessionState.back.Goals as goal

pub returns-then-count-depth-clause-refused : goal.returns-then-count-depth-clause-refused
returns-then-count-depth-clause-refused c =
    let depth : c.depth_of-depth.result ≡ length (path c.args.self.now.session.tree.made (position_of c.args.self.now.session c.args.client)) =
    c.depth_of-depth.ensures ∙ (λ i. length (path (c.self.view_is i).session.tree.made (c.position-position.ensures.position i))) in
    back-far c.args.self.now.session c.args.client c.args.count (omega (arith, c.if-count-depth.true, depth))

pub ancestor-moment-requires-clause-falls : goal.ancestor-moment-requires-clause-falls
ancestor-moment-requires-clause-falls c = subst (λ v. Falls v.session.tree.made) (sym c.self.view_is) c.limits.ensures.tree.moments.falls

pub ancestor-moment-requires-clause-far : goal.ancestor-moment-requires-clause-far
ancestor-moment-requires-clause-far c = omega (arith, c.if-count-depth.false, c.depth_of-depth.ensures)

pub stand-requires-clause-stands : goal.stand-requires-clause-stands
stand-requires-clause-stands c =
    let is : c.ancestor-moment.result ≡ ancestor (path c.args.self.now.session.tree.made (position_of c.args.self.now.session c.args.client)) c.args.count =
    c.ancestor-moment.ensures ∙ (λ i. ancestor (path (c.self.view_is i).session.tree.made (c.position-position.ensures.position i)) c.args.count) in
    let within : position_of c.args.self.now.session c.args.client ≤ length c.args.self.now.session.tree.made =
    omega (arith, c.position-position.ensures.position, c.position-position.ensures.within) in
    omega (arith, is, ancestor-within c.args.self.now.session.tree.made c.limits.ensures.tree.moments.falls (position_of c.args.self.now.session c.args.client) c.args.count within)

pub returns-clause-ok : goal.returns-clause-ok
returns-clause-ok c =
    let depth : c.depth_of-depth.result ≡ length (path c.args.self.now.session.tree.made (position_of c.args.self.now.session c.args.client)) =
    c.depth_of-depth.ensures ∙ (λ i. length (path (c.self.view_is i).session.tree.made (c.position-position.ensures.position i))) in
    let is : c.ancestor-moment.result ≡ ancestor (path c.args.self.now.session.tree.made (position_of c.args.self.now.session c.args.client)) c.args.count =
    c.ancestor-moment.ensures ∙ (λ i. ancestor (path (c.self.view_is i).session.tree.made (c.position-position.ensures.position i)) c.args.count) in
    back-seen c.args.self.now.session c.stand.new.self.session c.args.client c.args.count c.ancestor-moment.result (omega (arith, c.if-count-depth.false, depth)) is
    c.stand.ensures.session
