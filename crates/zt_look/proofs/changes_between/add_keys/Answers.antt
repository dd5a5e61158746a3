-- The record has the keys at which the call changed rows, and a moment of the tree has its record.
use Rattle.std.proofs.Common.{◌||◌, sym, ap, ◌∙◌}
use Rattle.std.specs.BTreeSet.{contains}
use Rattle.std.specs.Option.{option_copied}
use Rattle.std.proofs.lemmas.Result.{on_ok_weaker}
use Rattle.zt_rows.specs.Keys.{rowkey_cmp}
use Rattle.zt_look.specs.ProofsOnly.TwoStates.{is_key_of}
use Rattle.zt_look.proofs.TwoStateLaws.{recorded-keys, recorded-there}
use Rattle.zt_look.proofs.changes_between.add_keys.Goals as goal

pub returns-in-Some : goal.returns-in-Some
returns-in-Some c =
    on_ok_weaker c.add_all.result
    (λ adds key.
    adds key
    ∙ ap (λ b. contains rowkey_cmp c.args.keys.now key || b) (
    ap (λ ks. is_key_of ks key) c.keys.ensures
    ∙ recorded-keys c.args.history.now.tree.made c.args.history.now.position c.args.moment c.in-Some.kept.now key
    (sym c.record_of.ensures ∙ ap option_copied c.in-Some.is)
    ))
    c.add_all.ensures

pub returns-in-None : goal.returns-in-None
returns-in-None c =
    absurd (
    recorded-there c.args.history.now.tree.made c.args.history.now.position c.args.moment c.requires.made c.requires.there
    (sym c.record_of.ensures ∙ ap option_copied c.in-None.is)
    )
