-- What a walk over the members of a line has found once it ends.
use Rattle.std.proofs.Common.{◌≡◌, ℕ, Bool, true, false, List, Option, Some, None, refl, sym, ap, ◌∙◌}
use Rattle.std.specs.Prelude.{option_and_then, if◌then◌else◌, codes}
use Rattle.std.specs.Str.{bytes_eq}
use Rattle.std.proofs.lemmas.Slice.Eq.{bytes_eq-Decides}
use Rattle.json.specs.Json.{Json, null, boolean, number, string, array, object, Members, no_members, member}
use Rattle.json.specs.Find.{get_member, later_or, as_object}
use Rattle.zt_logs.specs.declared.line_members.OtherMembers.{OtherMembers}
use Rattle.zt_logs.specs.declared.places.Member.{Member}
use Rattle.zt_logs.specs.Members.{first_name, second_name, not_null, or_named, field}
use Rattle.zt_logs.specs.ProofsOnly.Tokens.{data_at}
use Rattle.zt_logs.specs.ProofsOnly.Walks.{last_named, told_or, seen_behind, seen_as, IsSeen, IsSeenUpTo, SeesNext}

-- a name that is one is no other
pub other_name : (name a b : List ℕ) → bytes_eq name a ≡ true → bytes_eq a b ≡ false → bytes_eq name b ≡ false
other_name name a b is other = ap (λ n. bytes_eq n b) ((bytes_eq-Decides name a).0 is) ∙ other

seen_at_first : (o : Option Json) → told_or o None ≡ option_and_then not_null o
seen_at_first None = refl
seen_at_first (Some d) = refl

pub first_seen : (ms : Members) (seen : OtherMembers) → seen.call ≡ None → seen.args ≡ None → seen.status ≡ None → seen.out ≡ None → IsSeenUpTo ms ms seen
first_seen ms seen call args status out = record {
  call = ap (λ o. told_or (get_member (codes "call") ms) (data_at o)) call ∙ seen_at_first (get_member (codes "call") ms);
  args = ap (λ o. told_or (get_member (codes "args") ms) (data_at o)) args ∙ seen_at_first (get_member (codes "args") ms);
  status = ap (λ o. told_or (get_member (codes "status") ms) (data_at o)) status ∙ seen_at_first (get_member (codes "status") ms);
  out = ap (λ o. told_or (get_member (codes "out") ms) (data_at o)) out ∙ seen_at_first (get_member (codes "out") ms);
}

behind : (o : Option Json) (here : Bool) (d : Json) (seen : Option Json)
    → told_or (later_or o (if here then Some d else None)) seen ≡ told_or o (if here then not_null d else seen)
behind None true d seen = refl
behind None false d seen = refl
behind (Some x) here d seen = refl

one_more : (wanted name : List ℕ) (d : Json) (rest others : Members) (old new goal : Option Json) → rest ≡ member name d others
    → new ≡ seen_as wanted name d old → seen_behind wanted rest old ≡ goal → seen_behind wanted others new ≡ goal
one_more wanted name d rest others old new goal first is so_far =
    ap (seen_behind wanted others) is ∙ sym (behind (get_member wanted others) (bytes_eq name wanted) d old)
    ∙ ap (λ ms. seen_behind wanted ms old) (sym first) ∙ so_far

pub next_seen : (all rest others : Members) (name : List ℕ) (d : Json) (old new : OtherMembers) → IsSeenUpTo all rest old → rest ≡ member name d others
    → SeesNext name d old new → IsSeenUpTo all others new
next_seen all rest others name d old new so_far first sees = record {
  call = one_more (codes "call") name d rest others _ _ _ first sees.call so_far.call;
  args = one_more (codes "args") name d rest others _ _ _ first sees.args so_far.args;
  status = one_more (codes "status") name d rest others _ _ _ first sees.status so_far.status;
  out = one_more (codes "out") name d rest others _ _ _ first sees.out so_far.out;
}

at_end : (wanted : List ℕ) (rest : Members) (seen goal : Option Json) → rest ≡ no_members → seen_behind wanted rest seen ≡ goal → seen ≡ goal
at_end wanted rest seen goal none is = sym (ap (λ ms. seen_behind wanted ms seen) none) ∙ is

pub all_seen : (all rest : Members) (seen : OtherMembers) → IsSeenUpTo all rest seen → rest ≡ no_members → IsSeen all seen
all_seen all rest seen so_far none = record {
  call = at_end (codes "call") rest _ _ none so_far.call;
  args = at_end (codes "args") rest _ _ none so_far.args;
  status = at_end (codes "status") rest _ _ none so_far.status;
  out = at_end (codes "out") rest _ _ none so_far.out;
}

alone_named : (o whole : Option Json) → o ≡ or_named o None whole
alone_named None whole = refl
alone_named (Some d) whole = refl

-- a field with one name is the last member of that name
pub field_seen : (name : Member) (d : Json) (ms : Members) (seen whole : Option Json) → second_name name ≡ None → Some ms ≡ as_object d
    → seen ≡ last_named (first_name name) ms → whole ≡ Some d → seen ≡ field name whole
field_seen name null ms seen whole one is found here = cc is
field_seen name (boolean b) ms seen whole one is found here = cc is
field_seen name (number s) ms seen whole one is found here = cc is
field_seen name (string s) ms seen whole one is found here = cc is
field_seen name (array js) ms seen whole one is found here = cc is
field_seen name (object other) ms seen whole one is found here =
    let same : ms ≡ other = cc is in
    found ∙ ap (last_named (first_name name)) same ∙ alone_named (last_named (first_name name) other) (Some (object other))
    ∙ ap (λ second. or_named (last_named (first_name name) other) second (Some (object other))) (sym one) ∙ ap (field name) (sym here)
