-- The words one behind another, with a space between.
use Rattle.std.proofs.Common.{◌++◌, ◌∙◌, ap, string_bytes}
use Rattle.std.specs.Option.{option_map}
use Rattle.zt_lineage.specs.declared.handle_life.LifeStep.{LifeStep}
use Rattle.zt_look.specs.LifeLines.{life_step_line}
use Rattle.zt_look.proofs.SpacedLines.{all_words}
use Rattle.zt_look.proofs.lines.lives.put_life_step.Goals as goal

pub returns : goal.returns
returns c =
    c.in_ok-push_str.ensures.bytes
    ∙ all_words _ _ _ _ _ _ _ _ _ c.in_ok-write.ensures.bytes c.coming_word.ensures
    c.in_ok-put_rights_at.ensures c.in_ok-put_origin.ensures
    ∙ ap (λ (s : LifeStep). string_bytes c.args.text.now ++ life_step_line c.args.names s c.args.before (option_map (λ e. (e.0, e.1.now)) c.args.by.now)) c.step.view_is
