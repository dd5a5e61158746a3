-- Each line is fed behind the others, and then the rest.
use Rattle.std.proofs.Common.{◌∙◌, refl}
use Rattle.zt_console.proofs.LineFeedLaws.{eaten_none, eaten_more, eaten_failed, eaten_all, eaten_stopped}
use Rattle.zt_console.proofs.line_feed.feed.Goals as goal

pub loop-place-init : goal.loop-place-init
loop-place-init g c = record {
  fed = eaten_none g.D.Responder.asks c.args.client.now c.args.part.now c.args.bytes.now c.args.waiting.now.items _;
  count = refl;
  ready = c.requires.ready;
}

pub returns-in-Err-clause-fed : goal.returns-in-Err-clause-fed
returns-in-Err-clause-fed g c =
    eaten_failed g.D.Responder.asks c.args.client.now c.loop-place.client c.end_line.new.client c.args.part.now c.loop-place.part c.end_line.new.part c.args.bytes.now c.loop-place.rest.now
    c.split_at.result.0.now c.split_at.result.1.now c.args.waiting.now.items c.loop-place.waiting.items c.end_line.new.waiting.items _ _ _ c.in-Some.place
    c.loop-place.invariant.fed c.in-Some.ensures.found c.split_at.ensures.front c.split_at.ensures.back c.in-Err.ensures.fed

pub loop-place-preserved : goal.loop-place-preserved
loop-place-preserved g c = record {
  fed = eaten_more g.D.Responder.asks c.args.client.now c.loop-place.client c.end_line.new.client c.args.part.now c.loop-place.part c.end_line.new.part c.args.bytes.now c.loop-place.rest.now
      c.split_at.result.0.now c.split_at.result.1.now c.split_at-in-Some.result.1.now c.args.waiting.now.items c.loop-place.waiting.items c.end_line.new.waiting.items _ _ _ c.in-Some.place
      c.loop-place.invariant.fed c.in-Some.ensures.found c.split_at.ensures.front c.split_at.ensures.back c.split_at-in-Some.ensures.back c.in-Ok.ensures.fed;
  count = c.in-Ok.ensures.counted ∙ c.loop-place.invariant.count;
  ready = c.end_line.ensures.ready;
}

pub returns-in-Ok-add-clause-fed : goal.returns-in-Ok-add-clause-fed
returns-in-Ok-add-clause-fed g c =
    eaten_all g.D.Responder.asks c.args.client.now c.loop-place.client c.args.part.now c.loop-place.part c.add.new.self c.args.bytes.now c.loop-place.rest.now c.args.waiting.now.items c.loop-place.waiting.items _ _
    c.loop-place.invariant.fed c.in-Ok-add.ensures.ok c.add.ensures.one c.in_default.ensures.none

pub returns-in-Err-add-clause-fed : goal.returns-in-Err-add-clause-fed
returns-in-Err-add-clause-fed g c =
    eaten_stopped g.D.Responder.asks c.args.client.now c.loop-place.client c.args.part.now c.loop-place.part c.add.new.self c.args.bytes.now c.loop-place.rest.now c.args.waiting.now.items c.loop-place.waiting.items
    c.out_of_memory.new.waiting.items _ _ _ c.loop-place.invariant.fed c.out_of_memory.ensures.written
