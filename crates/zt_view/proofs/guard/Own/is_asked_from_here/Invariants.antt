-- Each origin is this server exactly where each of those that are left is.
use Rattle.std.proofs.Common.{All, codes}
use Rattle.http_header.specs.HeaderMap.{get_all}
use Rattle.zt_view.specs.Guard.{IsOwnOrigin}
use Rattle.zt_view.proofs.guard.Own.is_asked_from_here.Given as goal

abbrev pub invariant-loop-origin : goal.invariant-loop-origin
invariant-loop-origin l = record {
  whole : All (λ origin. IsOwnOrigin l.self origin.bytes) l.origin-iterator → All (λ origin. IsOwnOrigin l.self origin.bytes) (get_all l.headers (codes "origin"));
  left : All (λ origin. IsOwnOrigin l.self origin.bytes) (get_all l.headers (codes "origin")) → All (λ origin. IsOwnOrigin l.self origin.bytes) l.origin-iterator;
}
