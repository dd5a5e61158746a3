use Rattle.std.proofs.Common.{◌≡◌, ◌≤◌, ℕ, ◌-◌, get_or, vec_len}
use Rattle.std.specs.Vec.{vec_capacity}
use Rattle.zt_index.specs.ProofsOnly.Chains.{no_link}
use Rattle.zt_index.proofs.chains.make_links.Given as goal

abbrev pub invariant-loop-links : goal.invariant-loop-links
invariant-loop-links l = record {
  same : (k : ℕ) → get_or l.links.items k no_link ≡ get_or l.initial.links.items k no_link;
  longer : vec_len l.initial.links ≤ vec_len l.links;
  few : vec_len l.links ≤ l.len;
  room : l.len ≤ vec_capacity l.links;
}

abbrev pub decreases-loop-links : goal.decreases-loop-links
decreases-loop-links l = l.len - vec_len l.links
