-- One call of the log more is asked.
use Rattle.std.proofs.Common.{◌≡◌, length, Some, refl}
use Rattle.std.specs.Prelude.{slice_get}
use Rattle.std.specs.Option.{option_copied}
use Rattle.std.proofs.lemmas.Option.{slice_get_read}
use Rattle.zt_import.proofs.ImportLaws.{one-run, one-left}
use Rattle.zt_import.proofs.run_log.run_one.Goals as goal

pub returns : goal.returns
returns c =
    let found : slice_get c.args.calls.now c.args.index ≡ Some c.index-calls-index.result =
    slice_get_read c.args.calls.now (length c.args.calls.now) c.args.index c.index-calls-index.result refl c.requires c.index-calls-index.is in
    record {
      run = λ done so.
          one-run c.args.calls.now done c.args.index c.index-calls-index.result c.args.taken.now c.write_outside.new.taken c.run_call.new.taken c.args.numbers.now.processes
          c.learn.new.numbers.processes c.in_ok-moment.moment found so c.in_ok-write_outside.ensures c.in_ok-moment.ensures.one c.in_ok-moment.ensures.made
          (option_copied c.reply-reply.result) c.reply-reply.ensures c.in_ok-learn.ensures;
      left = λ so.
          one-left c.args.calls.now c.args.index c.index-calls-index.result c.args.taken.now c.write_outside.new.taken c.run_call.new.taken
          c.in_ok-moment.moment c.args.left.now.items c.keep_left.new.left.items (option_copied c.reply-reply.result) c.agrees-agreed.result found
          c.in_ok-write_outside.ensures c.in_ok-moment.ensures.one c.reply-reply.ensures c.agrees-agreed.ensures c.in_ok-keep_left.ensures so;
    }
