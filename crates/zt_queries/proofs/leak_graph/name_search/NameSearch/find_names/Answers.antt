-- All names are left to be found at first; where none is left, what was found are all.
use Rattle.std.proofs.Common.{◌≤◌, length, sym, subst, arith}
use Rattle.zt_rows.specs.State.{State}
use Rattle.zt_index.specs.KoidCounts.{named_by}
use Rattle.zt_index.specs.ProofsOnly.KoidCounts.{total}
use Rattle.zt_history.specs.Tree.{state_at}
use Rattle.zt_history.proofs.RunLaws.{moment-consistent}
use Rattle.zt_queries.specs.ProofsOnly.NameSearch.{Widens, IsNameCount}
use Rattle.zt_queries.proofs.NameSearchLaws.{widens-itself, widens-widens, count-begins, count-ends, parent-inside}
use Rattle.zt_queries.proofs.leak_graph.name_search.NameSearch.find_names.Goals as goal

pub loop-init : goal.loop-init
loop-init c = record {
  wider = widens-itself (state_at c.args.history.now.tree.made c.args.history.now.position) c.args.koid c.args.self.now.ends.keys;
  counted = count-begins (state_at c.args.history.now.tree.made c.args.history.now.position) c.args.koid c.args.self.now.ends.keys c.clear.new.self.items c.names_of-self.result c.clear.ensures.items
      (subst (λ (S : State). total (named_by c.args.koid) S ≤ c.names_of-self.result) c.store-store.ensures.state c.names_of-self.ensures);
}

pub returns-then-self-eq0-clause-guarded : goal.returns-then-self-eq0-clause-guarded
returns-then-self-eq0-clause-guarded c = λ all.
    count-ends (state_at c.args.history.now.tree.made c.args.history.now.position) c.args.koid c.loop.self.ends.keys c.loop.self.messages.items c.loop.self.left
    (moment-consistent c.args.history.now.tree.made c.position.ensures.tree.moments c.args.history.now.position (omega (arith, c.position.ensures.within, c.position.ensures.position))).sound
    (omega (arith, c.if-self-eq0.true)) c.loop.invariant.counted

pub last_released-next-requires-in-loop : goal.last_released-next-requires-in-loop
last_released-next-requires-in-loop c =
    subst (λ m. m ≤ length c.args.history.now.tree.made) (sym c.parent_of.ensures) (parent-inside c.args.history.now.tree.made c.position.ensures.tree.moments c.in-Some.moment)

pub loop-preserved : goal.loop-preserved
loop-preserved c = record {
  wider = widens-widens (state_at c.args.history.now.tree.made c.args.history.now.position) c.args.koid c.args.self.now.ends.keys c.loop.self.ends.keys c.look_into.new.self.ends.keys c.loop.invariant.wider
      (subst (λ (S : State). Widens S c.args.koid c.loop.self.ends.keys c.look_into.new.self.ends.keys) c.store-store.ensures.state c.in_ok-look_into.ensures.wider);
  counted = subst (λ (S : State). IsNameCount S c.args.koid c.look_into.new.self.ends.keys c.look_into.new.self.messages.items c.look_into.new.self.left) c.store-store.ensures.state
      (c.in_ok-look_into.ensures.counted (subst (λ (S : State). IsNameCount S c.args.koid c.loop.self.ends.keys c.loop.self.messages.items c.loop.self.left) (sym c.store-store.ensures.state) c.loop.invariant.counted));
}
