-- What the rows of a state keep, also while its objects are removed one at a time: links join both ends of a
-- pair. A part of what a sound state keeps; this project's own form.
use Rattle.std.specs.Prelude.{◌≡◌, ◌⊎◌, ℕ, true, Some}
use Rattle.zt_rows.specs.declared.rows.ObjectRow.{ObjectRow}
use Rattle.zt_rows.specs.State.{State}
use Rattle.zt_rows.specs.Reads.{object}
use Rattle.zt_rows.specs.Tests.{is_endpoint, link_at}

-- an endpoint has no peer, or its peer names it back
pub record IsJoined (S : State) : Type 0 where
  pub back : (x : ℕ) (o : ObjectRow) → object S x ≡ Some o → is_endpoint o.kind ≡ true → (o.link ≡ 0) ⊎ (link_at S o.link ≡ x)
