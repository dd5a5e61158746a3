-- What stands at a place of a tape, of which the kit's clauses see the tokens. Used by proofs only.
use Rattle.std.specs.Prelude.{List, ◌∷◌, length, Option, Some, None}
use Rattle.std.specs.Option.{option_map}
use Rattle.json.specs.Token.{Token}
use Rattle.json.specs.Json.{Json, null, Items, no_items, Members, no_members, value}
use Rattle.json.specs.Find.{as_array, as_object}

abbrev pub first_or_null : Option (Json × List Token) → Json
first_or_null None = null
first_or_null (Some p) = p.0

-- the value that begins there
unfoldable pub value_at : List Token → Json
value_at ts = first_or_null (value (length ts) ts)

-- the value that begins at a place; none where there is no such place
abbrev pub data_at : Option (List Token) → Option Json
data_at place = option_map value_at place

abbrev pub items_or_none : Option Items → Items
items_or_none None = no_items
items_or_none (Some js) = js

-- the items of a list that are left there
abbrev pub items_at : List Token → Items
items_at ts = items_or_none (as_array (value_at (Token.begin_array ∷ ts)))

abbrev pub members_or_none : Option Members → Members
members_or_none None = no_members
members_or_none (Some ms) = ms

-- the members of an object that are left there
abbrev pub members_at : List Token → Members
members_at ts = members_or_none (as_object (value_at (Token.begin_object ∷ ts)))
