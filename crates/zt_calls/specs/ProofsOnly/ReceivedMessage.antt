-- What a read does with the first message of the endpoint's queue. Used by proofs only.
use Rattle.std.specs.Prelude.{ℕ, Option, None, Some}
use Rattle.zt_bits.specs.declared.statuses.Status.TheVariants as status
use Rattle.zt_rows.specs.declared.calls.Reply.{Reply}
use Rattle.zt_rows.specs.declared.calls.Reply.TheVariants as reply
use Rattle.zt_rows.specs.Contents.{MessageContent}
use Rattle.zt_rows.specs.State.{State}
use Rattle.zt_rows.specs.ChannelCalls.{take_message}

-- this message goes to process p, or there is none to wait for
abbrev pub received : Option (ℕ × MessageContent) → State → ℕ → ℕ → State × Reply
received (Some (n, m)) S p x = take_message S p x n m
received None S p x = (S, reply.Status status.ShouldWait)
