-- The call itself leaves a sound state, and began where each object was supported; once those that go are gone, ports have room for
-- the packets of waits; and the state after the step is consistent, since the call's process runs.
use Rattle.std.proofs.Common.{◌≡◌, ◌∙◌, ap, sym, refl, subst}
use Rattle.std.specs.Prelude.{OnErr, Result, Ok, Err}
use Rattle.zt_rows.specs.declared.calls.Reply.{Reply}
use Rattle.zt_rows.specs.State.{State}
use Rattle.zt_rows.specs.Change.{before}
use Rattle.zt_rows.specs.Collect.{collect}
use Rattle.zt_rows.specs.Settle.{settle}
use Rattle.zt_rows.specs.Step.{completed, direct, step}
use Rattle.zt_rows.specs.Consistent.{IsConsistent}
use Rattle.zt_store.specs.StepView.{Advanced, AsBegun, IsAtRest, Stepping, begun}
use Rattle.zt_cascade.proofs.CoveredLaws.{lost-covered}
use Rattle.zt_cascade.proofs.JoinedLaws.{sound-joined}
use Rattle.zt_cascade.specs.PacketRoom.{HasRoomToFire}
use Rattle.zt_calls.proofs.CallerLaws.{consistent_after, sound_after}
use Rattle.zt_calls.proofs.RoomLaws.{room_after}
use Rattle.zt_calls.proofs.applied_call.run_on.Goals as goal

-- a state, with the second of a pair of which it is the first
both : {T : State} {d : State × Reply} → T ≡ d.0 → ◌≡◌ {A = State × Reply} (T, d.1) d
both {T} {d} e i = (e i, d.1)

-- what holds whatever was answered
either : {A E P : Type 0} (r : Result A E) → P → OnErr r P
either (Ok v) p = tt
either (Err e) p = p

-- a step that is as it was begun has put nothing, over the state of its beginning
rests : (old new : Stepping) → AsBegun old new → IsAtRest new
rests old new e = e ∙ ap (λ S. begun S new.places) (sym (ap (λ (s : Stepping). s.current) e))

back : (S : State) (old new : Stepping) → AsBegun old new → old.beginning ≡ S → new.current ≡ S
back S old new e began = ap (λ (s : Stepping). s.current) e ∙ began

-- what the call itself changed and answered, carried through
carried : (S : State) (d : State × Reply) (t u v : Stepping) (answer : Reply) → t.beginning ≡ S → t.current ≡ d.0 → answer ≡ d.1 → Advanced t u (collect t.current) → Advanced u v (settle u.beginning u.current)
    → ◌≡◌ {A = State × Reply} (v.current, answer) (completed S d)
carried S d t u v answer began made answered released settled =
    let last : v.current ≡ settle S (collect d.0) = settled.1 ∙ ap (λ B. settle B u.current) (released.0 ∙ began) ∙ ap (settle S) (released.1 ∙ ap collect made) in
    λ i. (last i, answered i)

pub release-requires-clause-joined : goal.release-requires-clause-joined
release-requires-clause-joined c =
    let S : State = c.args.resting.now.current in
    let went = (c.in_ok-leave.ensures.ok (direct S c.args.process c.args.call.now) c.args.resting.now c.direct-done.new.step c.direct-done.ensures.does).0 in
    sound-joined c.direct-done.new.step.current
    (sound_after S c.direct-done.new.step.current c.args.process c.args.call.now _ (both went.1) c.requires.consistent.sound c.requires.running c.limits.ensures)

pub release-requires-clause-covered : goal.release-requires-clause-covered
release-requires-clause-covered c =
    let S : State = c.args.resting.now.current in
    let went = (c.in_ok-leave.ensures.ok (direct S c.args.process c.args.call.now) c.args.resting.now c.direct-done.new.step c.direct-done.ensures.does).0 in
    let began : c.direct-done.new.step.beginning ≡ S = went.0 ∙ ap (λ (s : Stepping). s.beginning) c.requires.rest in
    let supported : IsConsistent c.direct-done.new.step.beginning = subst IsConsistent (sym began) c.requires.consistent in
    lost-covered c.direct-done.new.step c.as_slice.result.now supported.supported

pub settle-requires-clause-began : goal.settle-requires-clause-began
settle-requires-clause-began c =
    let S : State = c.args.resting.now.current in
    let went = (c.in_ok-leave.ensures.ok (direct S c.args.process c.args.call.now) c.args.resting.now c.direct-done.new.step c.direct-done.ensures.does).0 in
    let began : c.direct-done.new.step.beginning ≡ S = went.0 ∙ ap (λ (s : Stepping). s.beginning) c.requires.rest in
    subst IsConsistent (sym (c.in_ok-release.ensures.ok.0 ∙ began)) c.requires.consistent

pub settle-requires-clause-room : goal.settle-requires-clause-room
settle-requires-clause-room c =
    let S : State = c.args.resting.now.current in
    let went = (c.in_ok-leave.ensures.ok (direct S c.args.process c.args.call.now) c.args.resting.now c.direct-done.new.step c.direct-done.ensures.does).0 in
    let began : c.direct-done.new.step.beginning ≡ S = went.0 ∙ ap (λ (s : Stepping). s.beginning) c.requires.rest in
    let collected : c.release.new.step.current ≡ collect (direct S c.args.process c.args.call.now).0 = c.in_ok-release.ensures.ok.1 ∙ ap collect went.1 in
    subst (λ B. HasRoomToFire B c.release.new.step.current) (sym (c.in_ok-release.ensures.ok.0 ∙ began))
    (subst (HasRoomToFire S) (sym collected) (room_after S c.args.process c.args.call.now c.requires.consistent c.requires.room c.requires.running c.limits.ensures))

pub returns-in_err-leave-clause-rest : goal.returns-in_err-leave-clause-rest
returns-in_err-leave-clause-rest c =
    let S : State = c.args.resting.now.current in
    let left : AsBegun c.args.resting.now c.direct-done.new.step = c.in_err-leave.ensures.err (direct S c.args.process c.args.call.now) c.args.resting.now c.direct-done.new.step c.direct-done.ensures.does in
    rests c.args.resting.now c.direct-done.new.step left

pub returns-in_err-leave-clause-err : goal.returns-in_err-leave-clause-err
returns-in_err-leave-clause-err c =
    let S : State = c.args.resting.now.current in
    let left : AsBegun c.args.resting.now c.direct-done.new.step = c.in_err-leave.ensures.err (direct S c.args.process c.args.call.now) c.args.resting.now c.direct-done.new.step c.direct-done.ensures.does in
    either _ (back S c.args.resting.now c.direct-done.new.step left (ap (λ (s : Stepping). s.beginning) c.requires.rest))

pub returns-in_err-leave-clause-consistent : goal.returns-in_err-leave-clause-consistent
returns-in_err-leave-clause-consistent c =
    let S : State = c.args.resting.now.current in
    let left : AsBegun c.args.resting.now c.direct-done.new.step = c.in_err-leave.ensures.err (direct S c.args.process c.args.call.now) c.args.resting.now c.direct-done.new.step c.direct-done.ensures.does in
    let same : c.direct-done.new.step.current ≡ S = back S c.args.resting.now c.direct-done.new.step left (ap (λ (s : Stepping). s.beginning) c.requires.rest) in
    subst IsConsistent (sym same) c.requires.consistent

pub returns-in_err-release-clause-rest : goal.returns-in_err-release-clause-rest
returns-in_err-release-clause-rest c = rests c.direct-done.new.step c.release.new.step c.in_err-release.ensures.err

pub returns-in_err-release-clause-err : goal.returns-in_err-release-clause-err
returns-in_err-release-clause-err c =
    let S : State = c.args.resting.now.current in
    let went = (c.in_ok-leave.ensures.ok (direct S c.args.process c.args.call.now) c.args.resting.now c.direct-done.new.step c.direct-done.ensures.does).0 in
    let began : c.direct-done.new.step.beginning ≡ S = went.0 ∙ ap (λ (s : Stepping). s.beginning) c.requires.rest in
    either _ (back S c.direct-done.new.step c.release.new.step c.in_err-release.ensures.err began)

pub returns-in_err-release-clause-consistent : goal.returns-in_err-release-clause-consistent
returns-in_err-release-clause-consistent c =
    let S : State = c.args.resting.now.current in
    let went = (c.in_ok-leave.ensures.ok (direct S c.args.process c.args.call.now) c.args.resting.now c.direct-done.new.step c.direct-done.ensures.does).0 in
    let began : c.direct-done.new.step.beginning ≡ S = went.0 ∙ ap (λ (s : Stepping). s.beginning) c.requires.rest in
    let same : c.release.new.step.current ≡ S = back S c.direct-done.new.step c.release.new.step c.in_err-release.ensures.err began in
    subst IsConsistent (sym same) c.requires.consistent

pub returns-in_err-settle-clause-rest : goal.returns-in_err-settle-clause-rest
returns-in_err-settle-clause-rest c = rests c.release.new.step c.settle.new.step c.in_err-settle.ensures.err

pub returns-in_err-settle-clause-err : goal.returns-in_err-settle-clause-err
returns-in_err-settle-clause-err c =
    let S : State = c.args.resting.now.current in
    let went = (c.in_ok-leave.ensures.ok (direct S c.args.process c.args.call.now) c.args.resting.now c.direct-done.new.step c.direct-done.ensures.does).0 in
    let began : c.direct-done.new.step.beginning ≡ S = went.0 ∙ ap (λ (s : Stepping). s.beginning) c.requires.rest in
    either _ (back S c.release.new.step c.settle.new.step c.in_err-settle.ensures.err (c.in_ok-release.ensures.ok.0 ∙ began))

pub returns-in_err-settle-clause-consistent : goal.returns-in_err-settle-clause-consistent
returns-in_err-settle-clause-consistent c =
    let S : State = c.args.resting.now.current in
    let went = (c.in_ok-leave.ensures.ok (direct S c.args.process c.args.call.now) c.args.resting.now c.direct-done.new.step c.direct-done.ensures.does).0 in
    let began : c.direct-done.new.step.beginning ≡ S = went.0 ∙ ap (λ (s : Stepping). s.beginning) c.requires.rest in
    let same : c.settle.new.step.current ≡ S = back S c.release.new.step c.settle.new.step c.in_err-settle.ensures.err (c.in_ok-release.ensures.ok.0 ∙ began) in
    subst IsConsistent (sym same) c.requires.consistent

pub returns-clause-ok : goal.returns-clause-ok
unfolding step
returns-clause-ok c =
    let S : State = c.args.resting.now.current in
    let went = (c.in_ok-leave.ensures.ok (direct S c.args.process c.args.call.now) c.args.resting.now c.direct-done.new.step c.direct-done.ensures.does).0 in
    let began : c.direct-done.new.step.beginning ≡ S = went.0 ∙ ap (λ (s : Stepping). s.beginning) c.requires.rest in
    let carried_through = carried S (direct S c.args.process c.args.call.now) c.direct-done.new.step c.release.new.step c.settle.new.step c.leave.new.place began went.1
    (c.in_ok-leave.ensures.ok (direct S c.args.process c.args.call.now) c.args.resting.now c.direct-done.new.step c.direct-done.ensures.does).1 c.in_ok-release.ensures.ok c.in_ok-settle.ensures.ok in
    let last : c.commit.new.self.current ≡ c.settle.new.step.current = ap (λ (s : Stepping). s.current) c.commit.ensures.next in
    (λ i. (last i, c.leave.new.place)) ∙ carried_through

pub returns-clause-recorded : goal.returns-clause-recorded
returns-clause-recorded c =
    let S : State = c.args.resting.now.current in
    let went = (c.in_ok-leave.ensures.ok (direct S c.args.process c.args.call.now) c.args.resting.now c.direct-done.new.step c.direct-done.ensures.does).0 in
    let began : c.direct-done.new.step.beginning ≡ S = went.0 ∙ ap (λ (s : Stepping). s.beginning) c.requires.rest in
    let first : c.settle.new.step.beginning ≡ S = c.in_ok-settle.ensures.ok.0 ∙ c.in_ok-release.ensures.ok.0 ∙ began in
    let last : c.commit.new.self.current ≡ c.settle.new.step.current = ap (λ (s : Stepping). s.current) c.commit.ensures.next in
    c.commit.ensures.recorded ∙ (λ i. before (first i) (sym last i))

pub returns-clause-consistent : goal.returns-clause-consistent
returns-clause-consistent c =
    let S : State = c.args.resting.now.current in
    let went = (c.in_ok-leave.ensures.ok (direct S c.args.process c.args.call.now) c.args.resting.now c.direct-done.new.step c.direct-done.ensures.does).0 in
    let began : c.direct-done.new.step.beginning ≡ S = went.0 ∙ ap (λ (s : Stepping). s.beginning) c.requires.rest in
    let carried_through = carried S (direct S c.args.process c.args.call.now) c.direct-done.new.step c.release.new.step c.settle.new.step c.leave.new.place began went.1
    (c.in_ok-leave.ensures.ok (direct S c.args.process c.args.call.now) c.args.resting.now c.direct-done.new.step c.direct-done.ensures.does).1 c.in_ok-release.ensures.ok c.in_ok-settle.ensures.ok in
    let last : c.commit.new.self.current ≡ c.settle.new.step.current = ap (λ (s : Stepping). s.current) c.commit.ensures.next in
    consistent_after S S c.settle.new.step.current c.commit.new.self.current c.args.process c.args.call.now _ refl last carried_through c.requires.consistent c.requires.running c.limits.ensures
