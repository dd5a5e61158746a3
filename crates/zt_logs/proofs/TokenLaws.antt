-- Tokens that begin with a value have no other value at their place.
use Rattle.std.specs.Prelude.{MatchOption}
use Rattle.std.specs.Option.{option_map}
use denote.Ref.{Bor}
use Rattle.std.proofs.Common.{◌≡◌, ℕ, zero, suc, ◌≤◌, List, [], ◌∷◌, ◌++◌, length, Option, Some, None, refl, sym, ap, ◌∙◌, subst, arith, append_assoc, length-append}
use Rattle.json.specs.Token.{Token}
use Rattle.json.specs.Json.{Json, null, boolean, number, string, array, object, Items, no_items, item, Members, no_members, member, members, after_end_array}
use Rattle.json.specs.Find.{BeginsWith, HasValue, InItems, NextItem, InMembers, NextMember, Finds, get, as_array, as_object}
use Rattle.json.specs.Tree.{json_tokens, items_tokens, members_tokens, depth, items_depth, members_depth}
use Rattle.json.proofs.Grammar.{closed_array}
use Rattle.json.proofs.Found.{Some_inj, not_found, items_go_on, items_close, members_go_on, members_close, members_short, IsKey}
use Rattle.json.proofs.Printed.Trees.{value-json_tokens}
use Rattle.json.proofs.Unique.Spelling.{value-json_tokens_back}
use Rattle.zt_logs.specs.ProofsOnly.Tokens.{first_or_null, value_at, items_or_none, items_at, members_or_none, members_at}

-- nothing nests deeper than it has tokens
mutual
  few_levels : (j : Json) → depth j ≤ length (json_tokens j)
  few_levels null = omega arith
  few_levels (boolean b) = omega arith
  few_levels (number s) = omega arith
  few_levels (string s) = omega arith
  few_levels (array js) = omega (arith, few_levels_of_items js)
  few_levels (object ms) = omega (arith, few_levels_of_members ms)

  few_levels_of_items : (js : Items) → items_depth js ≤ length (items_tokens js)
  few_levels_of_items no_items = omega arith
  few_levels_of_items (item j js) = omega (arith, few_levels j, few_levels_of_items js, length-append (json_tokens j) (items_tokens js))

  few_levels_of_members : (ms : Members) → members_depth ms ≤ length (members_tokens ms)
  few_levels_of_members no_members = omega arith
  few_levels_of_members (member k j ms) = omega (arith, few_levels j, few_levels_of_members ms, length-append (json_tokens j) (members_tokens ms))

pub value_at-json_tokens : (j : Json) (rest : List Token) → value_at (json_tokens j ++ rest) ≡ j
unfolding value_at
value_at-json_tokens j rest =
    ap first_or_null (value-json_tokens j (length (json_tokens j ++ rest)) rest (omega (arith, few_levels j, length-append (json_tokens j) rest)))

pub value_here : (ts : List Token) (j : Json) → BeginsWith ts j → value_at ts ≡ j
value_here ts j (d, rest, e) = ap value_at (value-json_tokens_back d ts rest j e) ∙ value_at-json_tokens j rest

abbrev Ends : Items → List Token → Type 0
Ends js ts = (rest : List Token) × (ts ≡ items_tokens js ++ rest)

items_back : (js : Items) (ts : List Token) → InItems ts js → Ends js ts
items_back no_items ts here = elim (after_end_array ts) as (λ o. after_end_array ts ≡ o → Ends no_items ts) [
  | Some rest ↦ λ e. (rest, closed_array ts rest e)
  | None ↦ λ e. let first = items_go_on ts no_items e here in cc (first.5)
] refl
items_back (item j js) ts here = elim (after_end_array ts) as (λ o. after_end_array ts ≡ o → Ends (item j js) ts) [
  | Some rest ↦ λ e. let none = items_close rest (item j js) (subst (λ t. InItems t (item j js)) (closed_array ts rest e) here) in cc none
  | None ↦ λ e.
      let first = items_go_on ts (item j js) e here in
      let same : j ≡ first.1 = cc (first.5) in
      let others : first.3 ≡ js = cc (first.5) in
      let more = items_back js first.2 (subst (λ items. InItems first.2 items) others first.6) in (
        more.0,
        value-json_tokens_back first.0 ts first.2 first.1 first.4 ∙ ap (λ t. json_tokens first.1 ++ t) more.1
            ∙ ap (λ v. json_tokens v ++ (items_tokens js ++ more.0)) (sym same) ∙ sym (append_assoc (json_tokens j) (items_tokens js) more.0),
      )
] refl

pub items_here : (ts : List Token) (js : Items) → InItems ts js → items_at ts ≡ js
items_here ts js here =
    let back = items_back js ts here in
    ap items_at back.1 ∙ ap (λ v. items_or_none (as_array v)) (value_at-json_tokens (array js) back.0)

abbrev EndsObject : List Token → Type 0
EndsObject ts = (rest : List Token) × (ts ≡ Token.end_object ∷ rest)

ends_object : (ts : List Token) → InMembers ts no_members → EndsObject ts
unfolding members
ends_object ts (d, zero, r, e) = not_found (no_members, r) e
ends_object [] (d, suc n, r, e) = not_found (no_members, r) e
ends_object (Token.begin_object ∷ ts) (d, suc n, r, e) = not_found (no_members, r) e
ends_object (Token.end_object ∷ ts) (d, suc n, r, e) = (ts, refl)
ends_object (Token.begin_array ∷ ts) (d, suc n, r, e) = not_found (no_members, r) e
ends_object (Token.end_array ∷ ts) (d, suc n, r, e) = not_found (no_members, r) e
ends_object ((Token.key k) ∷ ts) (d, suc n, r, e) = let first = members_go_on k ts no_members (d, suc n, r, e) in cc (first.5)
ends_object ((Token.string s) ∷ ts) (d, suc n, r, e) = not_found (no_members, r) e
ends_object ((Token.number s) ∷ ts) (d, suc n, r, e) = not_found (no_members, r) e
ends_object ((Token.boolean b) ∷ ts) (d, suc n, r, e) = not_found (no_members, r) e
ends_object (Token.null ∷ ts) (d, suc n, r, e) = not_found (no_members, r) e
ends_object (Token.bad ∷ ts) (d, suc n, r, e) = not_found (no_members, r) e

abbrev EndsMembers : Members → List Token → Type 0
EndsMembers ms ts = (rest : List Token) × (ts ≡ members_tokens ms ++ rest)

no_other : (t : Token) (ts : List Token) (k : List ℕ) (j : Json) (ms : Members) → (IsKey t → ⊥) → InMembers (t ∷ ts) (member k j ms) → EndsMembers (member k j ms) (t ∷ ts)
no_other t ts k j ms other here = let none = members_close t ts (member k j ms) other here in cc none

members_back : (ms : Members) (ts : List Token) → InMembers ts ms → EndsMembers ms ts
members_back no_members ts here = ends_object ts here
members_back (member k j ms) [] here = let none = members_short [] (member k j ms) (omega arith) here in cc none
members_back (member k j ms) (Token.begin_object ∷ ts) here = no_other Token.begin_object ts k j ms (λ is. is) here
members_back (member k j ms) (Token.end_object ∷ ts) here = no_other Token.end_object ts k j ms (λ is. is) here
members_back (member k j ms) (Token.begin_array ∷ ts) here = no_other Token.begin_array ts k j ms (λ is. is) here
members_back (member k j ms) (Token.end_array ∷ ts) here = no_other Token.end_array ts k j ms (λ is. is) here
members_back (member k j ms) (Token.key l ∷ ts) here =
    let first = members_go_on l ts (member k j ms) here in
    let name : k ≡ l = cc (first.5) in
    let same : j ≡ first.1 = cc (first.5) in
    let others : first.3 ≡ ms = cc (first.5) in
    let more = members_back ms first.2 (subst (λ rest. InMembers first.2 rest) others first.6) in
    let all : ts ≡ json_tokens j ++ (members_tokens ms ++ more.0) =
    value-json_tokens_back first.0 ts first.2 first.1 first.4 ∙ ap (λ t. json_tokens first.1 ++ t) more.1
    ∙ ap (λ v. json_tokens v ++ (members_tokens ms ++ more.0)) (sym same) in (
      more.0,
      ap (λ l. Token.key l ∷ ts) (sym name) ∙ ap (λ t. Token.key k ∷ t) (all ∙ sym (append_assoc (json_tokens j) (members_tokens ms) more.0)),
    )
members_back (member k j ms) ((Token.string s) ∷ ts) here = no_other (Token.string s) ts k j ms (λ is. is) here
members_back (member k j ms) ((Token.number s) ∷ ts) here = no_other (Token.number s) ts k j ms (λ is. is) here
members_back (member k j ms) ((Token.boolean b) ∷ ts) here = no_other (Token.boolean b) ts k j ms (λ is. is) here
members_back (member k j ms) (Token.null ∷ ts) here = no_other Token.null ts k j ms (λ is. is) here
members_back (member k j ms) (Token.bad ∷ ts) here = no_other Token.bad ts k j ms (λ is. is) here

pub members_here : (ts : List Token) (ms : Members) → InMembers ts ms → members_at ts ≡ ms
members_here ts ms here =
    let back = members_back ms ts here in
    ap members_at back.1 ∙ ap (λ v. members_or_none (as_object v)) (value_at-json_tokens (object ms) back.0)

-- ---- what is looked up in a value

-- an answer that holds of the value that tokens begin with holds of the value at their place
pub answer_is : {A : Type 0} (f : Json → A) (ts : List Token) (answer : A) → HasValue ts → ((j : Json) → BeginsWith ts j → answer ≡ f j) → answer ≡ f (value_at ts)
answer_is f ts answer has is = is has.0 has.1 ∙ ap f (sym (value_here ts has.0 has.1))

pub found_none : (name : List ℕ) (ts : List Token) (r : Option (List Token)) → HasValue ts → ((j : Json) → BeginsWith ts j → Finds r (get name j)) → r ≡ None
    → None ≡ get name (value_at ts)
found_none name ts None has finds is = sym (ap (get name) (value_here ts has.0 has.1) ∙ finds has.0 has.1)
found_none name ts (Some found) has finds is = cc is

pub found_some : (name : List ℕ) (ts : List Token) (r : Option (List Token)) (found : List Token) → HasValue ts
    → ((j : Json) → BeginsWith ts j → Finds r (get name j)) → r ≡ Some found → (Some (value_at found) ≡ get name (value_at ts)) × HasValue found
found_some name ts None found has finds is = cc is
found_some name ts (Some other) found has finds is =
    let same : other ≡ found = cc is in
    let there = finds has.0 has.1 in
    let begins : BeginsWith found there.0 = subst (λ t. BeginsWith t there.0) same there.2 in (
      ap Some (value_here found there.0 begins) ∙ sym there.1 ∙ ap (get name) (sym (value_here ts has.0 has.1)),
      (there.0, begins),
    )

-- ---- lists

abbrev pub HasItems : List Token → Type 0
HasItems ts = (js : Items) × InItems ts js

abbrev IsList : Option (List Token) → Json → Type 0
IsList r j = MatchOption r (as_array j ≡ None) (λ rest. (js : Items) × (j ≡ array js) × InItems rest js)

pub list_none : (ts : List Token) (r : Option (List Token)) → HasValue ts → ((j : Json) → BeginsWith ts j → IsList r j) → r ≡ None
    → None ≡ as_array (value_at ts)
list_none ts None has is none = sym (ap as_array (value_here ts has.0 has.1) ∙ is has.0 has.1)
list_none ts (Some rest) has is none = cc none

pub list_some : (ts : List Token) (r : Option (List Token)) (rest : List Token) → HasValue ts → ((j : Json) → BeginsWith ts j → IsList r j) → r ≡ Some rest
    → (Some (items_at rest) ≡ as_array (value_at ts)) × HasItems rest
list_some ts None rest has is some = cc some
list_some ts (Some other) rest has is some =
    let same : other ≡ rest = cc some in
    let there = is has.0 has.1 in
    let in_items : InItems rest there.0 = subst (λ t. InItems t there.0) same there.2 in (
      ap Some (items_here rest there.0 in_items) ∙ sym (ap as_array (value_here ts has.0 has.1 ∙ there.1)),
      (there.0, in_items),
    )

pub next_none : (ts : List Token) → HasItems ts → ((js : Items) → InItems ts js → js ≡ no_items) → items_at ts ≡ no_items
next_none ts has none = items_here ts has.0 has.1 ∙ none has.0 has.1

pub next_some : (old new : List Token) (r : Option (List Token)) (found : List Token) → HasItems old → NextItem old r new → r ≡ Some found
    → (items_at old ≡ item (value_at found) (items_at new)) × HasValue found × HasItems new
next_some old new None found has next some = cc some
next_some old new (Some other) found has next some =
    let same : other ≡ found = cc some in
    let there = next has.0 has.1 in
    let begins : BeginsWith found there.0 = subst (λ t. BeginsWith t there.0) same there.3 in (
      items_here old has.0 has.1 ∙ there.2 ∙ ap (λ v. item v there.1) (sym (value_here found there.0 begins)) ∙ ap (item (value_at found)) (sym (items_here new there.1 there.4)),
      (there.0, begins),
      (there.1, there.4),
    )

-- ---- objects

abbrev pub HasMembers : List Token → Type 0
HasMembers ts = (ms : Members) × InMembers ts ms

abbrev IsObject : Option (List Token) → Json → Type 0
IsObject r j = MatchOption r (as_object j ≡ None) (λ rest. (ms : Members) × (j ≡ object ms) × InMembers rest ms)

pub object_none : (ts : List Token) (r : Option (List Token)) → HasValue ts → ((j : Json) → BeginsWith ts j → IsObject r j) → r ≡ None
    → None ≡ as_object (value_at ts)
object_none ts None has is none = sym (ap as_object (value_here ts has.0 has.1) ∙ is has.0 has.1)
object_none ts (Some rest) has is none = cc none

pub object_some : (ts : List Token) (r : Option (List Token)) (rest : List Token) → HasValue ts → ((j : Json) → BeginsWith ts j → IsObject r j) → r ≡ Some rest
    → (Some (members_at rest) ≡ as_object (value_at ts)) × HasMembers rest
object_some ts None rest has is some = cc some
object_some ts (Some other) rest has is some =
    let same : other ≡ rest = cc some in
    let there = is has.0 has.1 in
    let in_members : InMembers rest there.0 = subst (λ t. InMembers t there.0) same there.2 in (
      ap Some (members_here rest there.0 in_members) ∙ sym (ap as_object (value_here ts has.0 has.1 ∙ there.1)),
      (there.0, in_members),
    )

pub member_none : (ts : List Token) → HasMembers ts → ((ms : Members) → InMembers ts ms → ms ≡ no_members) → members_at ts ≡ no_members
member_none ts has none = members_here ts has.0 has.1 ∙ none has.0 has.1

-- the place of a member's name and value, by the name alone
abbrev named_place : Bor (List ℕ) × List Token → List ℕ × List Token
named_place m = (m.0.now, m.1)

pub member_some : (old new : List Token) (r : Option (Bor (List ℕ) × List Token)) (name : Bor (List ℕ)) (found : List Token) → HasMembers old
    → NextMember old (option_map named_place r) new → r ≡ Some (name, found)
    → (members_at old ≡ member name.now (value_at found) (members_at new)) × HasValue found × HasMembers new
member_some old new None name found has next some = cc some
member_some old new (Some other) name found has next some =
    let same : other ≡ (name, found) = Some_inj other (name, found) some in
    let place : other.1 ≡ found = ap (λ m. m.1) same in
    let word : other.0.now ≡ name.now = ap (λ (m : Bor (List ℕ) × List Token). m.0.now) same in
    let there = next has.0 has.1 in
    let begins : BeginsWith found there.0 = subst (λ t. BeginsWith t there.0) place there.3 in (
      members_here old has.0 has.1 ∙ there.2 ∙ ap (λ w. member w there.0 there.1) word
          ∙ ap (λ v. member name.now v there.1) (sym (value_here found there.0 begins))
          ∙ ap (member name.now (value_at found)) (sym (members_here new there.1 there.4)),
      (there.0, begins),
      (there.1, there.4),
    )
