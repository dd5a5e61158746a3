-- A line behind `#` is skipped.
use Rattle.std.proofs.Common.{◌≡◌, true, arith}
use Rattle.zt_import.specs.ProofsOnly.ReadTexts.{fits}
use Rattle.zt_import.proofs.TextLaws.{comment-written}
use Rattle.zt_import.proofs.session_lines.put_comment.Goals as goal

pub returns : goal.returns
returns c =
    let fit : fits c.args.comment.now ≡ true = grind (arith, c.fits.ensures, c.if-not-fits.false) in
    comment-written _ _ _ _ c.args.comment.now fit c.in_ok-push_str.ensures.bytes c.in_ok-push_str-2.ensures.bytes c.in_ok-push_str-3.ensures.bytes
