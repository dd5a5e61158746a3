-- One key more.
use Rattle.zt_queries.proofs.NameSearchLaws.{widens-widens}
use Rattle.zt_queries.proofs.leak_graph.name_search.NameSearch.look_under.Goals as goal

pub loop-key-preserved : goal.loop-key-preserved
loop-key-preserved c = record {
  wider = widens-widens c.args.store.now.state c.args.koid c.args.self.now.ends.keys c.loop-key.self.ends.keys c.look_at.new.self.ends.keys c.loop-key.invariant.wider c.in_ok-look_at.ensures.wider;
  counted = λ h. c.in_ok-look_at.ensures.counted (c.loop-key.invariant.counted h);
}
