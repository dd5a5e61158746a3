-- It is noted of each moment.
use Rattle.std.proofs.Common.{◌≤◌, length, ◌∙◌, ap, arith}
use Rattle.std.specs.Prelude.{slice_get}
use Rattle.std.proofs.lemmas.Option.{same_Some}
use Rattle.zt_rows.specs.Handles.{next_koid}
use Rattle.zt_history.specs.Timeline.{Timeline}
use Rattle.zt_history.specs.Tree.{state_at}
use Rattle.zt_history.proofs.NotedLaws.{length-next_koids, next_koid-at}
use Rattle.zt_history.proofs.history.History.next_koid_at.Goals as goal

pub next_koid-requires : goal.next_koid-requires
next_koid-requires c =
    omega (
      arith,
      c.requires,
      ap (λ (h : Timeline). length h.tree.made) c.self.view_is,
      ap length c.self.invariant.noted.next_koids,
      length-next_koids c.self.inside.moments.made (length c.self.inside.moments.made),
    )

pub returns : goal.returns
returns c =
    let within : c.args.moment ≤ length c.self.inside.moments.made = omega (arith, c.requires, ap (λ (h : Timeline). length h.tree.made) c.self.view_is) in
    same_Some _ _ (
    c.next_koid.ensures
    ∙ ap (λ ks. slice_get ks c.args.moment) c.self.invariant.noted.next_koids
    ∙ next_koid-at c.self.inside.moments.made (length c.self.inside.moments.made) c.args.moment within
    )
    ∙ ap (λ (h : Timeline). next_koid (state_at h.tree.made c.args.moment)) c.self.view_is
