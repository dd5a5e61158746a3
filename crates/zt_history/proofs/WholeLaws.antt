-- What is noted of the objects while a history changes.
use Rattle.std.proofs.Common.{◌≡◌, ℕ, suc, ◌+◌, ◌≤◌, ◌<◌, List, [], ◌∷◌, ◌++◌, length, refl, sym, ◌∙◌, ap, subst, arith}
use Rattle.zt_rows.specs.declared.calls.Call.{Call}
use Rattle.zt_rows.specs.declared.calls.Reply.{Reply}
use Rattle.zt_rows.specs.Change.{before}
use Rattle.zt_rows.specs.Handles.{next_koid}
use Rattle.zt_rows.specs.Opening.{opening}
use Rattle.zt_rows.specs.State.{State}
use Rattle.zt_rows.specs.Step.{step}
use Rattle.zt_store.specs.StoreView.{Stored}
use Rattle.zt_history.specs.Tree.{Made, Branch, opening_tree, parent_of}
use Rattle.zt_history.specs.declared.history.Undo.{Undo}
use Rattle.zt_history.specs.declared.history.Undo.TheVariants as undo
use Rattle.zt_history.specs.ProofsOnly.Branches.{without_last}
use Rattle.zt_history.specs.ProofsOnly.KeptHistory.{IsKept, IsWhole}
use Rattle.zt_history.specs.ProofsOnly.MomentNodes.{Chronicle, run_at}
use Rattle.zt_history.specs.ProofsOnly.ObjectNotes.{AreNoted, IsCut, NotedChanges, noted}
use Rattle.zt_history.specs.TreeInvariant.{AreMoments}
use Rattle.zt_history.proofs.GrownLaws.{length-push, moments-left}
use Rattle.zt_history.proofs.KeptLaws.{kept-opening}
use Rattle.zt_history.proofs.ListLaws.{get-last}
use Rattle.zt_history.proofs.NotedLaws.{noted-dropped, noted-opening, noted-push}
use Rattle.zt_history.proofs.TreeLaws.{last_apart}

-- AreNoted with equals in place of equals: `same` for `made`, `new` for `old`
pub noted-same : (made same : List Made) (old new : NotedChanges) → same ≡ made → new ≡ old → AreNoted made old → AreNoted same new
noted-same made same old new m c are = subst (AreNoted same) (sym c) (let P : List Made → Type 0 = λ made. AreNoted made old in subst P (sym m) are)

pub whole-opening : (store : Stored) (moments : Chronicle) (changes : NotedChanges) (branches : List Branch) → store.state ≡ opening → moments.made ≡ [] → moments.records ≡ []
    → changes ≡ record { notes = []; next_koids = next_koid store.state ∷ [] } → branches ≡ opening_tree.branches → IsWhole store moments changes branches 0 undo.Nothing
whole-opening store moments changes branches here none empty no_change one = record {
  kept = kept-opening store moments branches here none empty one;
  noted = noted-same [] moments.made changes changes none refl (noted-opening store.state changes here no_change);
}

-- one moment more, which a call made
pub noted-grown : (store new : Stored) (moments longer : Chronicle) (old changes : NotedChanges) (branches : List Branch) (p process m : ℕ) (last : Undo) (call : Call) (reply : Reply)
    → IsKept store moments branches p last → AreNoted moments.made old
    → ◌≡◌ {A = State × Reply} (new.state, reply) (step store.state process call) → longer.made ≡ moments.made ++ run_at p store.state process call ∷ []
    → m ≡ length moments.made + 1 → changes ≡ noted old m (before store.state new.state) new.state → AreNoted longer.made changes
noted-grown store new moments longer old changes branches p process m last call reply is are ran made place is_noted =
    let e : Made = run_at p store.state process call in
    let whole : AreNoted (moments.made ++ e ∷ []) changes =
    noted-push moments.made e is.moments_stand.falls is.history.within old changes m store.state new.state are is.history.here (ap (λ (r : State × Reply). r.0) ran) (omega (arith, place)) is_noted in
    noted-same (moments.made ++ e ∷ []) longer.made changes changes made refl whole

-- the last moment is taken back
pub noted-uncalled : (moments turned shorter : Chronicle) (old new : NotedChanges) (m : ℕ) → AreMoments moments.made → 0 < length moments.made → turned.made ≡ moments.made
    → shorter.made ≡ without_last turned.made → m ≡ length moments.made → AreNoted moments.made old → IsCut old.notes new.notes m → new.next_koids ≡ without_last old.next_koids
    → AreNoted shorter.made new
noted-uncalled moments turned shorter old new m stand some same less place are cut fewer =
    let apart = last_apart moments.made some in
    let front : List Made = without_last moments.made in
    let e : Made = apart.0 in
    let all : AreMoments (front ++ e ∷ []) = subst AreMoments apart.1 stand in
    let left = moments-left front e all in
    let up : e.parent ≤ length front = omega (arith, all.falls (length front), ap parent_of (get-last front e (length front) refl)) in
    let size : length moments.made ≡ suc (length front) = ap length apart.1 ∙ length-push front e in
    let noted_all : AreNoted (front ++ e ∷ []) old = let P : List Made → Type 0 = λ made. AreNoted made old in subst P apart.1 are in
    noted-same front shorter.made new new (less ∙ ap without_last same) refl
    (noted-dropped front e left.falls up old new m noted_all (place ∙ size) cut fewer)
