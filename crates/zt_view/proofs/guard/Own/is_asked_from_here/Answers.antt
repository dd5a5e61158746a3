use Rattle.std.proofs.Common.{◌∙◌, All, refl, subst, sym}
use Rattle.std.proofs.lemmas.List.Elements.{All-nil, All-cons, All-head, All-tail}
use Rattle.zt_view.specs.Guard.{IsOwnOrigin}
use Rattle.zt_view.proofs.guard.Own.is_asked_from_here.Goals as goal

pub loop-origin-init : goal.loop-origin-init
loop-origin-init c =
    let same = c.into_iter-origin-iterator.ensures.into_iter_gives ∙ c.get_all-origin-items.ensures.value in record {
      whole = λ all. subst (All (λ origin. IsOwnOrigin c.args.self.now origin.bytes)) same all;
      left = λ all. subst (All (λ origin. IsOwnOrigin c.args.self.now origin.bytes)) (sym same) all;
    }

pub returns-then-not-is_origin : goal.returns-then-not-is_origin
returns-then-not-is_origin c = (
  λ wrong. cc,
  λ all.
      let left = subst (All (λ origin. IsOwnOrigin c.args.self.now origin.bytes)) c.in-Some.ensures.steps (c.loop-origin.invariant.left all) in
      sym c.if-not-is_origin.true ∙ c.is_origin.ensures.1 (All-head (λ origin. IsOwnOrigin c.args.self.now origin.bytes) c.in-Some.origin.now c.next.new.self left),
)

pub loop-origin-preserved : goal.loop-origin-preserved
loop-origin-preserved c = record {
  whole = λ rest.
      c.loop-origin.invariant.whole (subst (All (λ origin. IsOwnOrigin c.args.self.now origin.bytes)) (sym c.in-Some.ensures.steps)
      (All-cons (λ origin. IsOwnOrigin c.args.self.now origin.bytes) c.in-Some.origin.now c.next.new.self (c.is_origin.ensures.0 c.if-not-is_origin.false) rest));
  left = λ all.
      All-tail (λ origin. IsOwnOrigin c.args.self.now origin.bytes) c.in-Some.origin.now c.next.new.self
      (subst (All (λ origin. IsOwnOrigin c.args.self.now origin.bytes)) c.in-Some.ensures.steps (c.loop-origin.invariant.left all));
}

pub returns : goal.returns
returns c = (
  λ _. c.loop-origin.invariant.whole (subst (All (λ origin. IsOwnOrigin c.args.self.now origin.bytes)) (sym c.in-None.ensures.steps.0) (All-nil (λ origin. IsOwnOrigin c.args.self.now origin.bytes))),
  λ _. refl,
)
