-- Their bytes and their handles are the same lists.
use Rattle.std.proofs.Common.{◌≡◌, sym, ◌∙◌}
use Rattle.zt_rows.specs.declared.calls.Reply.TheVariants as replies
use Rattle.zt_history.proofs.SameCallLaws.{same_numbers}
use Rattle.zt_history.proofs.same_calls.is_same_reply.Goals as goal

pub returns-then-eq : goal.returns-then-eq
returns-then-eq c same =
    let at = c.in-Message-Message in
    let bytes : at.bytes ≡ at.other_bytes = same_numbers at.bytes at.other_bytes (sym c.eq-in-Message-Message.ensures ∙ c.if-eq.true) in
    let handles : at.handles ≡ at.other_handles = same_numbers at.handles at.other_handles (sym c.eq-then-eq.ensures ∙ same) in
    at.is-0 ∙ (λ i. replies.Message (bytes i) (handles i)) ∙ sym at.is-1
