-- The words one behind another, with a space between.
use Rattle.std.proofs.Common.{◌++◌, ◌∙◌, ap, string_bytes}
use Rattle.std.specs.Option.{option_map}
use Rattle.zt_look.specs.declared.object_handles.ObjectHandle.{ObjectHandle}
use Rattle.zt_look.specs.LineageLines.{object_handle_line}
use Rattle.zt_look.proofs.SpacedLines.{all_words}
use Rattle.zt_look.proofs.lines.lives.put_object_handle.Goals as goal

pub returns : goal.returns
returns c =
    c.in_ok-push_str.ensures.bytes
    ∙ all_words _ _ _ _ _ _ _ _ _ c.in_ok-write.ensures.bytes c.coming_word.ensures
    c.in_ok-put_rights_at.ensures c.in_ok-put_journey.ensures
    ∙ ap (λ (h : ObjectHandle). string_bytes c.args.text.now ++ object_handle_line c.args.names h (option_map (λ e. (e.0, e.1.now)) c.args.came.now) (option_map (λ e. (e.0, e.1.now)) c.args.left.now)) c.handle.view_is
