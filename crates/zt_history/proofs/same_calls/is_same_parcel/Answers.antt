-- Their bytes and their handles are the same lists.
use Rattle.std.proofs.Common.{◌≡◌, sym, ◌∙◌}
use Rattle.zt_history.proofs.SameCallLaws.{same_numbers, same_parcels}
use Rattle.zt_history.proofs.same_calls.is_same_parcel.Goals as goal

pub returns-then-eq : goal.returns-then-eq
returns-then-eq c same =
    let bytes : c.args.a.now.bytes ≡ c.args.b.now.bytes = sym c.bytes.ensures ∙ same_numbers c.bytes.result.now c.bytes-2.result.now (sym c.eq.ensures ∙ c.if-eq.true) ∙ c.bytes-2.ensures in
    let handles : c.args.a.now.handles ≡ c.args.b.now.handles = sym c.handles.ensures ∙ same_numbers c.handles.result.now c.handles-then-eq.result.now (sym c.eq-then-eq.ensures ∙ same) ∙ c.handles-then-eq.ensures in
    same_parcels c.args.a.now c.args.b.now bytes handles
