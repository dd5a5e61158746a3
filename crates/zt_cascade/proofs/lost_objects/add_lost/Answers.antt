use Rattle.std.proofs.lemmas.Result.{on_ok_weaker}
use Rattle.std.specs.Option.{option_copied}
use Rattle.zt_cascade.proofs.LostLaws.{named-longer, named-lost}
use Rattle.zt_cascade.specs.ProofsOnly.LostObjects.{named_by}
use Rattle.zt_cascade.proofs.lost_objects.add_lost.Goals as goal

pub returns-in_default : goal.returns-in_default
returns-in_default c =
    let s = c.args.step.now in
    record {
      lost = on_ok_weaker c.add_named.result
          (λ added. named-lost s.beginning s.current c.args.key (option_copied c.args.first) c.args.list.now.items c.add_named.new.list.items (λ x is. c.in_default.not-Object x is) c.requires added)
          c.add_named.ensures;
      longer = on_ok_weaker c.add_named.result
          (λ added. named-longer c.args.list.now.items c.add_named.new.list.items (named_by (option_copied c.args.first)) added)
          c.add_named.ensures;
    }
