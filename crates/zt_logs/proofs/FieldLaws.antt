-- What is in a value whose numbers are numbers has such numbers too.
use Rattle.std.proofs.Common.{◌≡◌, ℕ, zero, suc, Bool, true, false, cond, List, Option, Some, None, sym, ◌∙◌, ap, subst}
use Rattle.std.specs.Option.{option_map}
use Rattle.std.specs.Str.{bytes_eq}
use Rattle.json.specs.Json.{Json, null, boolean, number, string, array, object, Items, no_items, item, Members, no_members, member}
use Rattle.json.specs.Find.{get_member, get_item, get, at, later_or}
use Rattle.json.specs.Tree.{HasNumbers, ItemsHaveNumbers, MembersHaveNumbers}

item_numbers : (n : ℕ) (js : Items) (d : Json) → ItemsHaveNumbers js → get_item n js ≡ Some d → HasNumbers d
item_numbers n no_items d has is = cc is
item_numbers zero (item j js) d has is =
    let same : j ≡ d = cc is in
    subst HasNumbers same has.0
item_numbers (suc n) (item j js) d has is = item_numbers n js d has.1 is

-- an item of a list
at_numbers : (n : ℕ) (j d : Json) → HasNumbers j → at n j ≡ Some d → HasNumbers d
at_numbers n null d has is = cc is
at_numbers n (boolean b) d has is = cc is
at_numbers n (number s) d has is = cc is
at_numbers n (string s) d has is = cc is
at_numbers n (array js) d has is = item_numbers n js d has is
at_numbers n (object ms) d has is = cc is

later_numbers : (o : Option Json) (here : Bool) (j d : Json) → ((e : Json) → o ≡ Some e → HasNumbers e) → HasNumbers j
    → later_or o (cond here (Some j) None) ≡ Some d → HasNumbers d
later_numbers (Some e) here j d rest has is = rest d is
later_numbers None true j d rest has is =
    let same : j ≡ d = cc is in
    subst HasNumbers same has
later_numbers None false j d rest has is = cc is

member_numbers : (name : List ℕ) (ms : Members) (d : Json) → MembersHaveNumbers ms → get_member name ms ≡ Some d → HasNumbers d
member_numbers name no_members d has is = cc is
member_numbers name (member k j ms) d has is =
    later_numbers (get_member name ms) (bytes_eq k name) j d (λ e so. member_numbers name ms e has.1 so) has.0 is

-- a member of an object
get_numbers : (name : List ℕ) (j d : Json) → HasNumbers j → get name j ≡ Some d → HasNumbers d
get_numbers name null d has is = cc is
get_numbers name (boolean b) d has is = cc is
get_numbers name (number s) d has is = cc is
get_numbers name (string s) d has is = cc is
get_numbers name (array js) d has is = cc is
get_numbers name (object ms) d has is = member_numbers name ms d has is

-- ---- what is looked up, as it is seen

pub item_found : {V : Type 0} (view : V → Json) (n : ℕ) (j : Json) (o : Option V) (v : V) → HasNumbers j → option_map view o ≡ at n j → o ≡ Some v
    → HasNumbers (view v)
item_found view n j o v has gives is = at_numbers n j (view v) has (sym gives ∙ ap (option_map view) is)

pub member_found : {V : Type 0} (view : V → Json) (name : List ℕ) (j : Json) (o : Option V) (v : V) → HasNumbers j → option_map view o ≡ get name j
    → o ≡ Some v → HasNumbers (view v)
member_found view name j o v has gives is = get_numbers name j (view v) has (sym gives ∙ ap (option_map view) is)
