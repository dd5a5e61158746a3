-- The line of where a call comes from, and the line of the call.
use Rattle.std.proofs.Common.{ℕ, Option, subst, sym, string_bytes}
use Rattle.zt_import.specs.ProofsOnly.ReadTexts.{Writes, moment_calls}
use Rattle.zt_import.proofs.TextLaws.{writes-behind}
use Rattle.zt_import.proofs.session_lines.put_step.Goals as goal

pub returns-in_ok-put_moment-in-Some : goal.returns-in_ok-put_moment-in-Some
returns-in_ok-put_moment-in-Some c =
    let P : Option ℕ → Type 0 = λ o.
    Writes (string_bytes c.args.text.now) (string_bytes c.put_moment.new.text) (moment_calls c.args.history.now.tree.made o) in
    subst P (sym c.in-Some.is)
    (writes-behind (string_bytes c.args.text.now) (string_bytes c.put_origin.new.text) (string_bytes c.put_moment.new.text) _
    c.in_ok-put_origin-in-Some.ensures c.in_ok-put_moment-in-Some.ensures)
