use Rattle.std.proofs.Common.{string_bytes, sym, ◌∙◌}
use Rattle.zt_text.specs.ShownNumbers.{shown_bytes}
use Rattle.zt_text.proofs.ByteLemmas.{shown_bytes-some}
use Rattle.zt_text.proofs.ShownLemmas.{pushed}
use Rattle.zt_text.proofs.printed_rows.put_bytes.Goals as goal

pub returns : goal.returns
returns c =
    pushed c.push_str-2.result (string_bytes c.push_str-2.new.self) (string_bytes c.args.text.now) c.as_str.result.now (shown_bytes c.args.bytes.now)
    c.push_str-2.ensures.bytes
    (c.as_str.ensures.value ∙ c.in_ok-digits.ensures ∙ shown_bytes-some c.args.bytes.now (sym c.is_empty.ensures ∙ c.if-is_empty.false))
