-- The values of the words behind `run`.
use Rattle.std.proofs.Common.{codes, ◌∙◌, ap, Bor, List, ℕ}
use Rattle.clap.specs.Words.{found_of}
use Rattle.zt_words.proofs.WordLaws.{text_of_row, value_of_row}
use Rattle.zt_words.proofs.words.run_of.Goals as goal

pub returns : goal.returns
returns c =
    let words = found_of c.args.words.now in (
      ap (λ (s : Bor (List ℕ)). s.now) c.unwrap_or.ensures ∙ text_of_row words (codes "FILE") c.get_str.result _ c.get_str.ensures,
      value_of_row words (codes "from") c.get_str-2.result c.get_str-2.ensures,
      value_of_row words (codes "save") c.get_str-3.result c.get_str-3.ensures,
      c.flag_in.ensures,
      value_of_row words (codes "save-tree") c.get_str-4.result c.get_str-4.ensures,
      c.flag_in-2.ensures,
    )
