-- Each of these that was looked at is kept by others of them alone; where all were, the last of them to lose a name is found, and
-- the last to lose a child.
use Rattle.std.proofs.Common.{◌≡◌, ◌≤◌, ◌<◌, Some, length, get_or, sym, ap, ◌∙◌, arith}
use Rattle.std.specs.List.{slice_get}
use Rattle.std.specs.Option.{option_copied}
use Rattle.std.proofs.lemmas.Option.{slice_get_within}
use Rattle.zt_history.specs.Released.{last_released}
use Rattle.zt_history.specs.LostChild.{last_lost_child}
use Rattle.zt_history.specs.Tree.{state_at}
use Rattle.zt_history.proofs.RunLaws.{moment-consistent}
use Rattle.zt_queries.specs.ProofsOnly.NameSearch.{later}
use Rattle.zt_queries.proofs.ReleasedLaws.{above-leaked}
use Rattle.zt_queries.proofs.NameSearchLaws.{at-place, past-end, read-at, part-goes, part-ends, latest-goes, latest-ends}
use Rattle.zt_queries.proofs.leak_graph.name_search.search_names.Goals as goal

pub returns-in_default : goal.returns-in_default
returns-in_default c =
    let past : length c.loop-place.search.ends.keys ≤ c.loop-place.place =
    past-end c.loop-place.search.ends.keys c.loop-place.place (sym c.get_index.ensures.key ∙ ap option_copied c.in_default.is) in
    let made = c.args.history.now.tree.made in
    let at = c.args.history.now.position in
    record {
      ends = c.loop-place.search.ends.keys;
      search = part-ends (state_at made at) c.args.koid c.loop-place.search.ends.keys c.loop-place.place past c.loop-place.invariant.part;
      names = latest-ends (λ y. last_released y made at) c.loop-place.search.ends.keys c.loop-place.place c.loop-place.names past c.loop-place.invariant.names;
      children = latest-ends (λ y. last_lost_child y made at) c.loop-place.search.ends.keys c.loop-place.place c.loop-place.children past c.loop-place.invariant.children;
    }

pub told_by_entries-requires-clause-with : goal.told_by_entries-requires-clause-with
told_by_entries-requires-clause-with c = λ leaks.
    let within : c.args.history.now.position ≤ length c.args.history.now.tree.made = omega (arith, c.position-position.ensures.within, c.position-position.ensures.position) in
    let there : slice_get c.loop-place.search.ends.keys c.loop-place.place ≡ Some c.in-Some.end.now = sym c.get_index.ensures.key ∙ ap option_copied c.in-Some.is in
    let low : c.loop-place.place < length c.loop-place.search.ends.keys = slice_get_within c.loop-place.search.ends.keys c.loop-place.place c.in-Some.end.now there in
    let is : c.in-Some.end.now ≡ get_or c.loop-place.search.ends.keys c.loop-place.place c.in-Some.end.now = read-at c.loop-place.search.ends.keys c.loop-place.place c.in-Some.end.now there in
    above-leaked (state_at c.args.history.now.tree.made c.args.history.now.position)
    (moment-consistent c.args.history.now.tree.made c.position-position.ensures.tree.moments c.args.history.now.position within)
    c.args.koid c.loop-place.search.ends.keys c.loop-place.invariant.part.above c.in-Some.end.now
    (at-place c.loop-place.search.ends.keys c.loop-place.place c.in-Some.end.now low is)
    leaks

pub loop-place-preserved : goal.loop-place-preserved
loop-place-preserved c =
    let there : slice_get c.loop-place.search.ends.keys c.loop-place.place ≡ Some c.in-Some.end.now = sym c.get_index.ensures.key ∙ ap option_copied c.in-Some.is in
    let low : c.loop-place.place < length c.loop-place.search.ends.keys = slice_get_within c.loop-place.search.ends.keys c.loop-place.place c.in-Some.end.now there in
    let is : c.in-Some.end.now ≡ get_or c.loop-place.search.ends.keys c.loop-place.place c.in-Some.end.now = read-at c.loop-place.search.ends.keys c.loop-place.place c.in-Some.end.now there in
    let made = c.args.history.now.tree.made in
    let at = c.args.history.now.position in
    record {
      part = part-goes (state_at made at) c.args.koid c.loop-place.search.ends.keys c.find_all.new.self.ends.keys c.loop-place.place c.in-Some.end.now
          low is c.in_ok-whole.ensures.wider c.loop-place.invariant.part
          (c.in_ok-whole.ensures.held c.if-not-whole.false);
      names = latest-goes (state_at made at) c.args.koid c.loop-place.search.ends.keys c.find_all.new.self.ends.keys c.loop-place.place c.in-Some.end.now
          low is c.in_ok-whole.ensures.wider (λ y. last_released y made at) c.loop-place.names c.later-names.result c.loop-place.invariant.names
          (c.later-names.ensures ∙ ap (λ o. later c.loop-place.names o) (c.last_released.ensures ∙ ap (last_released c.in-Some.end.now made) c.position-position.ensures.position));
      children = latest-goes (state_at made at) c.args.koid c.loop-place.search.ends.keys c.find_all.new.self.ends.keys c.loop-place.place c.in-Some.end.now
          low is c.in_ok-whole.ensures.wider (λ y. last_lost_child y made at) c.loop-place.children c.later-children.result c.loop-place.invariant.children
          (c.later-children.ensures ∙ ap (λ o. later c.loop-place.children o) (c.last_lost_child.ensures ∙ ap (last_lost_child c.in-Some.end.now made) c.position-position.ensures.position));
    }
