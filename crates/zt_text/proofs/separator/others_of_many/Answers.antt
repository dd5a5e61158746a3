use Rattle.std.proofs.Common.{arith, w8, lit≤}
use Rattle.std.proofs.lemmas.Grind.{common_steps}
use Rattle.std.proofs.lemmas.Simd.{bitmask_splat}
use lib.Dec.{eqb}
use lib.Lanes.{chunk}
use Rattle.zt_text.proofs.Places.{marked, unmarked}
use Rattle.zt_text.proofs.separator.others_of_many.Goals as goal

pub returns-then-marks-eq0-clause-others : goal.returns-then-marks-eq0-clause-others
returns-then-marks-eq0-clause-others c =
    let seen = chunk c.args.from 16 c.args.bytes.now in
    let is = bitmask_splat w8 eqb seen 16 c.args.separator (grind (arith, common_steps)) (omega arith) in
    unmarked c.args.separator c.args.bytes.now 16 c.args.from _ c.requires is c.if-marks-eq0.true

pub returns-else-marks-eq0 : goal.returns-else-marks-eq0
returns-else-marks-eq0 c =
    let seen = chunk c.args.from 16 c.args.bytes.now in
    let is = bitmask_splat w8 eqb seen 16 c.args.separator (grind (arith, common_steps)) (omega arith) in
    let all = marked c.args.separator c.args.bytes.now 16 c.args.from _ (lit≤ tt) c.requires is (omega arith) in
    record { few = all.0; others = all.1; separator = all.2 }
