-- A message in a sound state is within the limits of a message, so its numbers fit.
use Rattle.std.proofs.Common.{◌≡◌, length, ap, ◌∙◌, arith}
use Rattle.zt_calls.proofs.ReceivingLaws.{first-within}
use Rattle.zt_calls.proofs.channel_calls.channel_read.Goals as goal

pub overflow_cast-size : goal.overflow_cast-size
overflow_cast-size c =
    let within = first-within c.args.step.now.current c.in_ok-held.held.koid c.in-Some.number c.in-Some.message.now c.requires.sound c.in-Some.ensures in
    let many : c.len.result ≡ length c.in-Some.message.now.bytes = c.len.ensures ∙ ap length c.bytes.ensures in
    omega (arith, within.0)
