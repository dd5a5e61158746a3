-- What is taken is all that decides the line, or all that there is.
use Rattle.std.proofs.Common.{◌≡◌, ◌++◌, ◌+◌, ◌-◌, ◌≤◌, ℕ, List, length, take, min, ap, sym, ◌∙◌, arith}
use Rattle.std.proofs.lemmas.List.{take_min}
use Rattle.std.proofs.Math.Seq.{take-append-add}
use Rattle.zt_console.specs.ProofsOnly.LineFeed.{decisive}
use Rattle.zt_console.proofs.line_buffer.LineBuffer.add.Goals as goal

taken : (old bytes kept : List ℕ) (n : ℕ) → length old ≤ 140001 → n ≡ min (140001 - length old) (length bytes) → kept ≡ take n bytes → old ++ kept ≡ decisive (old ++ bytes)
taken old bytes kept n short e k =
    let whole : length old + (140001 - length old) ≡ 140001 = omega arith in
    ap (λ z. old ++ z) (k ∙ ap (λ z. take z bytes) e ∙ take_min (140001 - length old) bytes)
    ∙ sym (take-append-add old bytes (140001 - length old)) ∙ ap (λ z. take z (old ++ bytes)) whole

pub returns-clause-ok : goal.returns-clause-ok
returns-clause-ok c =
    let count : c.min.result ≡ min (140001 - length c.self.inside.bytes.items) (length c.args.bytes.now) =
    cc (c.bytes.ensures.value, c.self.view_is, c.min.ensures) in
    let all : c.self.inside.bytes.items ++ c.split_at.result.0.now ≡ decisive (c.self.inside.bytes.items ++ c.args.bytes.now) =
    taken c.self.inside.bytes.items c.args.bytes.now c.split_at.result.0.now c.min.result c.self.invariant.short count c.split_at.ensures.front in
    cc (c.self.view_is, c.in_ok-extend_from_slice.ensures.items, all)
