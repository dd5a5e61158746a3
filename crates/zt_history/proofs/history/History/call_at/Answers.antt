-- The moment that was made has the reply; dropped again, it leaves the history as it was, at the parent.
use Rattle.std.proofs.Common.{◌≡◌, ◌-◌, ◌∙◌, inr, length, refl, sym, ap, subst, arith}
use Rattle.std.specs.Prelude.{IsSome, OnErr, Result, Ok, Err}
use Rattle.zt_history.specs.Timeline.{IsMovedAtMost, Timeline, after_call_at}
use Rattle.zt_history.specs.Tree.{made_by, reply_at}
use Rattle.zt_history.specs.TreeInvariant.{AreBranches}
use Rattle.zt_history.specs.ProofsOnly.Timeline.{without_moment}
use Rattle.zt_history.proofs.ChangedLaws.{call-answered, reply-grown, heads-grown, dropped-grown}
use Rattle.zt_history.proofs.GrownLaws.{length-push}
use Rattle.zt_history.proofs.history.History.call_at.Goals as goal

-- what holds whatever was answered
either : {A E P : Type 0} (r : Result A E) → P → OnErr r P
either (Ok v) p = tt
either (Err e) p = p

pub last_reply-requires-clause-there : goal.last_reply-requires-clause-there
last_reply-requires-clause-there c =
    let moved : c.grow.new.self ≡ after_call_at c.args.self.now c.args.parent c.args.process c.args.call.now =
    c.in_ok-grow.ensures.grown ∙ (λ i. after_call_at (c.in_ok-stand_ready.ensures.ok i) (c.in_ok-stand_ready.ensures.ok i).position c.args.process (c.in_ok-equal.ensures i)) in
    subst IsSome (sym (ap (λ (h : Timeline). reply_at h.tree.made h.position) moved ∙ reply-grown c.args.self.now c.args.parent c.args.process c.args.call.now)) refl

pub last_reply-requires-clause-some : goal.last_reply-requires-clause-some
last_reply-requires-clause-some c =
    let moved : c.grow.new.self ≡ after_call_at c.args.self.now c.args.parent c.args.process c.args.call.now =
    c.in_ok-grow.ensures.grown ∙ (λ i. after_call_at (c.in_ok-stand_ready.ensures.ok i) (c.in_ok-stand_ready.ensures.ok i).position c.args.process (c.in_ok-equal.ensures i)) in
    omega (arith, ap (λ (h : Timeline). length h.tree.made) moved, length-push c.args.self.now.tree.made (made_by c.args.self.now.tree.made c.args.parent c.args.process c.args.call.now))

pub last_reply-requires-clause-last : goal.last_reply-requires-clause-last
last_reply-requires-clause-last c =
    let moved : c.grow.new.self ≡ after_call_at c.args.self.now c.args.parent c.args.process c.args.call.now =
    c.in_ok-grow.ensures.grown ∙ (λ i. after_call_at (c.in_ok-stand_ready.ensures.ok i) (c.in_ok-stand_ready.ensures.ok i).position c.args.process (c.in_ok-equal.ensures i)) in
    omega (arith, ap (λ (h : Timeline). h.position) moved, ap (λ (h : Timeline). length h.tree.made) moved, length-push c.args.self.now.tree.made (made_by c.args.self.now.tree.made c.args.parent c.args.process c.args.call.now))

pub last_reply-requires-clause-heads : goal.last_reply-requires-clause-heads
last_reply-requires-clause-heads c =
    let began = c.stand_ready.new.self in
    subst (λ (h : Timeline). AreBranches (length h.tree.made - 1) h.tree.branches) (sym c.in_ok-grow.ensures.grown)
    (heads-grown began began.position c.args.process c.in_ok-equal.equal c.limits.ensures)

pub returns-in_err-reply-clause-err : goal.returns-in_err-reply-clause-err
returns-in_err-reply-clause-err c =
    let moved : c.grow.new.self ≡ after_call_at c.args.self.now c.args.parent c.args.process c.args.call.now =
    c.in_ok-grow.ensures.grown ∙ (λ i. after_call_at (c.in_ok-stand_ready.ensures.ok i) (c.in_ok-stand_ready.ensures.ok i).position c.args.process (c.in_ok-equal.ensures i)) in
    let left : IsMovedAtMost c.args.self.now c.last_reply.new.self c.args.parent =
    inr (c.in_err-reply.ensures.err ∙ ap without_moment moved ∙ dropped-grown c.args.self.now c.args.parent c.args.process c.args.call.now) in
    either _ left

pub returns-clause-ok : goal.returns-clause-ok
returns-clause-ok c =
    let moved : c.grow.new.self ≡ after_call_at c.args.self.now c.args.parent c.args.process c.args.call.now =
    c.in_ok-grow.ensures.grown ∙ (λ i. after_call_at (c.in_ok-stand_ready.ensures.ok i) (c.in_ok-stand_ready.ensures.ok i).position c.args.process (c.in_ok-equal.ensures i)) in
    let all : c.last_reply.new.self ≡ after_call_at c.args.self.now c.args.parent c.args.process c.args.call.now = c.in_ok-reply.ensures.same ∙ moved in
    call-answered c.args.self.now c.args.parent c.args.process c.args.call.now c.last_reply.new.self c.last.result c.in_ok-reply.reply
    c.in_ok-stand_ready.ensures.few c.in_ok-stand_ready.ensures.there c.in_ok-stand_ready.ensures.running all c.last.ensures.last
    (c.in_ok-reply.ensures.ok ∙ ap (λ (h : Timeline). reply_at h.tree.made h.position) (sym c.in_ok-reply.ensures.same))

pub returns-clause-moved : goal.returns-clause-moved
returns-clause-moved c =
    let moved : c.grow.new.self ≡ after_call_at c.args.self.now c.args.parent c.args.process c.args.call.now =
    c.in_ok-grow.ensures.grown ∙ (λ i. after_call_at (c.in_ok-stand_ready.ensures.ok i) (c.in_ok-stand_ready.ensures.ok i).position c.args.process (c.in_ok-equal.ensures i)) in
    c.in_ok-reply.ensures.same ∙ moved

pub returns-clause-position : goal.returns-clause-position
returns-clause-position c =
    let moved : c.grow.new.self ≡ after_call_at c.args.self.now c.args.parent c.args.process c.args.call.now =
    c.in_ok-grow.ensures.grown ∙ (λ i. after_call_at (c.in_ok-stand_ready.ensures.ok i) (c.in_ok-stand_ready.ensures.ok i).position c.args.process (c.in_ok-equal.ensures i)) in
    let all : c.last_reply.new.self ≡ after_call_at c.args.self.now c.args.parent c.args.process c.args.call.now = c.in_ok-reply.ensures.same ∙ moved in
    ap (λ (h : Timeline). h.position) all
    ∙ sym (c.last.ensures.last ∙ ap (λ (h : Timeline). length h.tree.made) all ∙ length-push c.args.self.now.tree.made (made_by c.args.self.now.tree.made c.args.parent c.args.process c.args.call.now))
