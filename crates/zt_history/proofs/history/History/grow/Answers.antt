-- At every moment there is room, also for the koids; the history keeps the new moment, and where memory is refused it stands as before.
use Rattle.std.proofs.Common.{◌≡◌, ◌<◌, ◌+◌, ◌∙◌, ◌++◌, [], ◌∷◌, List, ℕ, None, length, length-append, true, refl, sym, ap, subst, arith}
use Rattle.std.specs.Prelude.{OnErr, Result, Ok, Err}
use Rattle.zt_rows.specs.declared.calls.Reply.{Reply}
use Rattle.zt_rows.specs.Change.{before, with_rows}
use Rattle.zt_rows.specs.Handles.{next_koid}
use Rattle.zt_rows.specs.Reads.{has_live_process}
use Rattle.zt_rows.specs.State.{State}
use Rattle.zt_rows.specs.Step.{step}
use Rattle.zt_rows.proofs.ChangeLaws.{Rows, with_rows-before}
use Rattle.zt_store.specs.Places.{Keeps, fits}
use Rattle.zt_store.specs.StoreView.{Stored}
use Rattle.zt_history.specs.declared.history.Undo.{Undo}
use Rattle.zt_history.specs.declared.history.Undo.TheVariants as undo
use Rattle.zt_history.specs.Tree.{Branch, Made, state_at}
use Rattle.zt_history.specs.Timeline.{Timeline, after_call_at, unmoved}
use Rattle.zt_history.specs.ProofsOnly.KeptHistory.{timeline_of}
use Rattle.zt_history.specs.ProofsOnly.MomentNodes.{run_at}
use Rattle.zt_history.specs.ProofsOnly.ObjectNotes.{noted}
use Rattle.zt_history.proofs.ChangedLaws.{kept-consistent, kept-few, kept-room, kept-small, kept-refused, kept-grown, grown-seen}
use Rattle.zt_history.proofs.WholeLaws.{noted-grown, noted-same}
use Rattle.zt_history.proofs.history.History.grow.Goals as goal

-- what holds whatever was answered
either : {A E P : Type 0} (r : Result A E) → P → OnErr r P
either (Ok v) p = tt
either (Err e) p = p

-- a history seen as h, under an equal list of moments and without its undo, is seen as h with nothing to take back
seen-same : (made same : List Made) (branches : List Branch) (p : ℕ) (last : Undo) (h : Timeline) → same ≡ made → timeline_of (record { made = made; branches = branches }) p last ≡ h
    → timeline_of (record { made = same; branches = branches }) p undo.Nothing ≡ unmoved h
seen-same made same branches p last h is seen = (λ i. record { tree = record { made = is i; branches = branches }; position = p; before = None }) ∙ ap unmoved seen

pub apply-requires-clause-room : goal.apply-requires-clause-room
apply-requires-clause-room c = kept-room c.self.inside.store c.self.inside.moments c.self.inside.branches c.self.inside.position c.self.inside.undo c.self.invariant.kept

pub apply-requires-clause-consistent : goal.apply-requires-clause-consistent
apply-requires-clause-consistent c = kept-consistent c.self.inside.store c.self.inside.moments c.self.inside.branches c.self.inside.position c.self.inside.undo c.self.invariant.kept

pub note-requires : goal.note-requires
note-requires c =
    let after : c.store.result.now.state ≡ (step c.self.inside.store.state c.args.process c.args.call.now).0 = ap (λ (s : Stored). s.state) c.store.ensures ∙ ap (λ (r : State × Reply). r.0) c.in_ok-change.ensures.ok in
    record {
      few =
          subst (λ S. next_koid S < 4294967296) (sym after)
          (kept-few c.self.inside.store c.self.inside.moments c.self.inside.branches c.self.inside.position c.self.inside.undo c.self.invariant.kept
          c.args.process c.args.call.now
          (omega (arith, c.requires.few, ap (λ (h : Timeline). length h.tree.made) c.self.view_is))
          (ap (λ S. has_live_process S c.args.process) (c.self.invariant.kept.history.here ∙ ap (λ (h : Timeline). state_at h.tree.made h.position) c.self.view_is) ∙ c.requires.running)
          c.limits.ensures);
    }

pub push-requires-clause-few : goal.push-requires-clause-few
push-requires-clause-few c = omega (arith, c.requires.few, ap (λ (h : Timeline). length h.tree.made) c.self.view_is, ap length c.reserve.ensures.made)

pub push-requires-clause-there : goal.push-requires-clause-there
push-requires-clause-there c = omega (arith, c.self.invariant.kept.history.within, ap length c.reserve.ensures.made)

pub push-requires-clause-small : goal.push-requires-clause-small
push-requires-clause-small c =
    kept-small c.self.inside.store c.self.inside.moments c.self.inside.branches c.self.inside.position c.self.inside.undo c.self.invariant.kept
    c.args.process
    (omega (arith, c.requires.few, ap (λ (h : Timeline). length h.tree.made) c.self.view_is))
    (ap (λ S. has_live_process S c.args.process) (c.self.invariant.kept.history.here ∙ ap (λ (h : Timeline). state_at h.tree.made h.position) c.self.view_is) ∙ c.requires.running)

pub invariant_of-self : goal.invariant_of-self
invariant_of-self c = record {
  kept =
      kept-refused c.self.inside.store c.self.inside.moments c.self.inside.branches c.self.inside.position c.self.inside.undo c.self.invariant.kept
      c.self.inside.store c.reserve.new.self refl c.reserve.ensures.made c.reserve.ensures.records (λ R fit. fit);
  noted = noted-same c.self.inside.moments.made c.reserve.new.self.made c.self.inside.notes c.self.inside.notes c.reserve.ensures.made refl c.self.invariant.noted;
}

pub invariant_of-self-in_err-change : goal.invariant_of-self-in_err-change
invariant_of-self-in_err-change c = record {
  kept =
      kept-refused c.self.inside.store c.self.inside.moments c.self.inside.branches c.self.inside.position c.self.inside.undo c.self.invariant.kept
      c.apply.new.self c.reserve.new.self c.in_err-change.ensures.err c.reserve.ensures.made c.reserve.ensures.records c.apply.ensures.kept;
  noted = noted-same c.self.inside.moments.made c.reserve.new.self.made c.self.inside.notes c.self.inside.notes c.reserve.ensures.made refl c.self.invariant.noted;
}

pub invariant_of-self-in-Ok : goal.invariant_of-self-in-Ok
invariant_of-self-in-Ok c =
    let answered : c.apply.new.reply ≡ (step c.self.inside.store.state c.args.process c.args.call.now).1 = ap (λ (r : State × Reply). r.1) c.in_ok-change.ensures.ok in
    let made : c.push.new.self.made ≡ c.self.inside.moments.made ++ run_at c.self.inside.position c.self.inside.store.state c.args.process c.args.call.now ∷ [] =
    c.push.ensures.made ∙ (λ i. c.reserve.ensures.made i ++ record { parent = c.self.inside.position; process = c.args.process; call = c.args.call.now; reply = answered i } ∷ []) in
    let recorded : c.push.new.self.records ≡ c.self.inside.moments.records ++ before c.self.inside.store.state c.apply.new.self.state ∷ [] =
    c.push.ensures.records ∙ (λ i. c.reserve.ensures.records i ++ c.in_ok-change.ensures.recorded i ∷ []) in
    let fit : fits c.apply.new.self.places (before c.self.inside.store.state c.apply.new.self.state) ≡ true =
    ap (fits c.apply.new.self.places) (sym c.in_ok-change.ensures.recorded) ∙ c.in_ok-change.ensures.fits in
    let end : c.next_moment-moment.result ≡ length c.push.new.self.made =
    omega (arith, c.next_moment-moment.ensures, ap length c.reserve.ensures.made, ap length made, length-append c.self.inside.moments.made (run_at c.self.inside.position c.self.inside.store.state c.args.process c.args.call.now ∷ [])) in
    let place : c.next_moment-moment.result ≡ length c.self.inside.moments.made + 1 = omega (arith, c.next_moment-moment.ensures, ap length c.reserve.ensures.made) in
    let told : c.note.new.self ≡ noted c.self.inside.notes c.next_moment-moment.result (before c.self.inside.store.state c.apply.new.self.state) c.apply.new.self.state =
    c.in-Ok.ensures.ok ∙ (λ i. noted c.self.inside.notes c.next_moment-moment.result (c.in_ok-change.ensures.recorded i) (c.store.ensures i).state) in
    record {
      kept =
          kept-grown c.self.inside.store c.self.inside.moments c.self.inside.branches c.self.inside.position c.self.inside.undo c.self.invariant.kept
          c.args.process c.args.call.now c.apply.new.reply c.apply.new.self c.push.new.self c.next_moment-moment.result
          (omega (arith, c.requires.few, ap (λ (h : Timeline). length h.tree.made) c.self.view_is))
          (ap (λ S. has_live_process S c.args.process) (c.self.invariant.kept.history.here ∙ ap (λ (h : Timeline). state_at h.tree.made h.position) c.self.view_is) ∙ c.requires.running)
          c.limits.ensures c.in_ok-change.ensures.ok made recorded c.apply.ensures.kept fit end;
      noted =
          noted-grown c.self.inside.store c.apply.new.self c.self.inside.moments c.push.new.self c.self.inside.notes c.note.new.self c.self.inside.branches c.self.inside.position c.args.process _ c.self.inside.undo c.args.call.now c.apply.new.reply
          c.self.invariant.kept c.self.invariant.noted c.in_ok-change.ensures.ok made place told;
    }

pub invariant_of-self-in-Err : goal.invariant_of-self-in-Err
invariant_of-self-in-Err c =
    let state : c.swap.new.self.state ≡ c.self.inside.store.state =
    ap (λ (x : State × Rows). x.0) c.swap.ensures.exchanged ∙ ap (with_rows c.apply.new.self.state) c.in_ok-change.ensures.recorded ∙ with_rows-before c.self.inside.store.state c.apply.new.self.state in
    record {
      kept =
          kept-refused c.self.inside.store c.self.inside.moments c.self.inside.branches c.self.inside.position c.self.inside.undo c.self.invariant.kept
          c.swap.new.self c.reserve.new.self state c.reserve.ensures.made c.reserve.ensures.records
          (subst (λ p. Keeps c.self.inside.store.places p) (sym c.swap.ensures.places) c.apply.ensures.kept);
      noted = noted-same c.self.inside.moments.made c.reserve.new.self.made c.self.inside.notes c.note.new.self c.reserve.ensures.made c.in-Err.ensures.err c.self.invariant.noted;
    }

pub returns-in_err-reserve-clause-err : goal.returns-in_err-reserve-clause-err
returns-in_err-reserve-clause-err c = either _ (seen-same c.self.inside.moments.made c.reserve.new.self.made c.self.inside.branches c.self.inside.position c.self.inside.undo c.args.self.now c.reserve.ensures.made c.self.view_is)

pub returns-in_err-change-clause-err : goal.returns-in_err-change-clause-err
returns-in_err-change-clause-err c = either _ (seen-same c.self.inside.moments.made c.reserve.new.self.made c.self.inside.branches c.self.inside.position c.self.inside.undo c.args.self.now c.reserve.ensures.made c.self.view_is)

pub returns-clause-err : goal.returns-clause-err
returns-clause-err c = seen-same c.self.inside.moments.made c.reserve.new.self.made c.self.inside.branches c.self.inside.position c.self.inside.undo c.args.self.now c.reserve.ensures.made c.self.view_is

pub returns-in-Ok-clause-grown : goal.returns-in-Ok-clause-grown
returns-in-Ok-clause-grown c =
    let answered : c.apply.new.reply ≡ (step c.self.inside.store.state c.args.process c.args.call.now).1 = ap (λ (r : State × Reply). r.1) c.in_ok-change.ensures.ok in
    let made : c.push.new.self.made ≡ c.self.inside.moments.made ++ run_at c.self.inside.position c.self.inside.store.state c.args.process c.args.call.now ∷ [] =
    c.push.ensures.made ∙ (λ i. c.reserve.ensures.made i ++ record { parent = c.self.inside.position; process = c.args.process; call = c.args.call.now; reply = answered i } ∷ []) in
    let recorded : c.push.new.self.records ≡ c.self.inside.moments.records ++ before c.self.inside.store.state c.apply.new.self.state ∷ [] =
    c.push.ensures.records ∙ (λ i. c.reserve.ensures.records i ++ c.in_ok-change.ensures.recorded i ∷ []) in
    let fit : fits c.apply.new.self.places (before c.self.inside.store.state c.apply.new.self.state) ≡ true =
    ap (fits c.apply.new.self.places) (sym c.in_ok-change.ensures.recorded) ∙ c.in_ok-change.ensures.fits in
    let end : c.next_moment-moment.result ≡ length c.push.new.self.made =
    omega (arith, c.next_moment-moment.ensures, ap length c.reserve.ensures.made, ap length made, length-append c.self.inside.moments.made (run_at c.self.inside.position c.self.inside.store.state c.args.process c.args.call.now ∷ [])) in
    grown-seen c.self.inside.store c.self.inside.moments c.self.inside.branches c.self.inside.position c.self.inside.undo c.self.invariant.kept
    c.args.process c.args.call.now c.apply.new.reply c.apply.new.self c.push.new.self c.next_moment-moment.result
    (omega (arith, c.requires.few, ap (λ (h : Timeline). length h.tree.made) c.self.view_is))
    (ap (λ S. has_live_process S c.args.process) (c.self.invariant.kept.history.here ∙ ap (λ (h : Timeline). state_at h.tree.made h.position) c.self.view_is) ∙ c.requires.running)
    c.limits.ensures c.in_ok-change.ensures.ok made recorded c.apply.ensures.kept fit end
    ∙ ap (λ (h : Timeline). after_call_at h h.position c.args.process c.args.call.now) c.self.view_is
