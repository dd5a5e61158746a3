-- What is no call of the log differs from nothing.
use Rattle.std.proofs.Common.{◌≡◌, None, ◌≤◌, length, refl, arith}
use Rattle.std.specs.Prelude.{slice_get}
use Rattle.std.proofs.lemmas.Bool.Decides.{nat_tests}
use Rattle.std.proofs.lemmas.Option.{slice_get_past}
use Rattle.zt_import.proofs.ImportLaws.{aside-compared, missing-compared}
use Rattle.zt_import.proofs.differences.compare_step.Goals as goal

pub returns-in-None-clause-differences : goal.returns-in-None-clause-differences
returns-in-None-clause-differences c =
    let past : length c.args.calls.now ≤ c.in-Logged.number = grind (arith, nat_tests, c.in-None.ensures.lookup.0) in
    let none : slice_get c.args.calls.now c.in-Logged.number ≡ None = slice_get_past c.args.calls.now c.in-Logged.number past in
    missing-compared c.args.calls.now c.args.taken.now c.args.asked.now c.args.step c.args.compared.now c.in-Logged.number c.in-Logged.is none

pub returns-in_default : goal.returns-in_default
returns-in_default c = record {
  differences = aside-compared c.args.calls.now c.args.taken.now c.args.asked.now c.args.step c.args.compared.now c.in_default.not-Logged;
  same = refl;
}
