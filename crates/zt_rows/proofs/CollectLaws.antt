-- Collecting: nothing goes afterwards, a sound state stays sound, and where nothing goes it changes nothing.
use Rattle.std.proofs.Common.{◌≡◌, ◌≤◌, ◌<◌, ℕ, zero, suc, ◌+◌, Bool, true, false, cond, not, ◌&&◌, List, [], ◌∷◌, refl, sym, ap, ◌∙◌, subst, arith}
use Rattle.std.specs.Prelude.{Option, None, Some, option_and_then, is_some, if◌then◌else◌, length}
use Rattle.std.specs.List.{filter_map, count_by, cons_option}
use Rattle.std.proofs.lemmas.List.Sums.{sum_by-cons}
use Rattle.zt_rows.specs.declared.keys.RowKey.{RowKey}
use Rattle.zt_rows.specs.declared.keys.RowKey.TheVariants as key
use Rattle.zt_rows.specs.declared.rows.Row.{Row}
use Rattle.zt_rows.specs.declared.rows.Row.TheVariants as rows
use Rattle.zt_rows.specs.Keys.{first_number}
use Rattle.zt_rows.specs.State.{State, row, change}
use Rattle.zt_rows.specs.Reads.{objects, object_at}
use Rattle.zt_rows.specs.Tests.{exists, is_endpoint, any_row, count_row}
use Rattle.zt_rows.specs.Support.{is_supported}
use Rattle.zt_rows.specs.Collect.{unlinked, left, without, goes, rounds, collect}
use Rattle.zt_rows.specs.Consistent.{IsSound}
use Rattle.zt_rows.proofs.StateLaws.{same_state}
use Rattle.zt_rows.proofs.RowLaws.{In, row-in, filter_map-in, and_left, and_right, and_both, not_true, true≢false, any_row-at, at-any_row, count_row-change-less}
use Rattle.zt_rows.proofs.ReadLaws.{some_one, some-exists, object-row, then_none, row-without}
use Rattle.zt_rows.proofs.SoundLaws.{and_no_right, sound-without}

not_false : (b : Bool) → not b ≡ true → b ≡ false
not_false true e = cc
not_false false e = refl

not_of : (b : Bool) → b ≡ false → not b ≡ true
not_of b e = ap not e

-- what goes is there, and nothing supports it
pub goes-there : (S : State) (x : ℕ) → goes S x ≡ true → exists S x ≡ true
unfolding goes
goes-there S x e = and_left (exists S x) _ e

pub goes-free : (S : State) (x : ℕ) → goes S x ≡ true → is_supported S x ≡ false
unfolding goes
goes-free S x e = not_false (is_supported S x) (and_right (exists S x) _ e)

pub free-goes : (S : State) (x : ℕ) → exists S x ≡ true → is_supported S x ≡ false → goes S x ≡ true
unfolding goes
free-goes S x e f = and_both (exists S x) _ e (not_of (is_supported S x) f)

pub supported-stays : (S : State) (x : ℕ) → (exists S x ≡ true → is_supported S x ≡ true) → goes S x ≡ false
supported-stays S x h = not_true (goes S x) (λ t. true≢false (is_supported S x) (h (goes-there S x t)) (goes-free S x t))

pub stays-supported : (S : State) (x : ℕ) → goes S x ≡ false → exists S x ≡ true → is_supported S x ≡ true
stays-supported S x h e =
    elim (is_supported S x) as (λ b. is_supported S x ≡ b → b ≡ true) [
      | true ↦ λ f. refl
      | false ↦ λ f. absurd (true≢false (goes S x) (free-goes S x e f) h)
    ] refl

-- ---- where nothing goes

left-all : (going : ℕ → Bool) → ((x : ℕ) → going x ≡ false) → (k : RowKey) (r : Row) → left going k r ≡ Some r
left-all going none (key.Object x) (rows.Object o) =
    let link : (if is_endpoint o.kind && going o.link then 0 else o.link) ≡ o.link = ap (λ b. if b then 0 else o.link) (and_no_right (is_endpoint o.kind) _ (none o.link)) in
    let same : unlinked going o ≡ o = λ i. record { kind = o.kind; signals = o.signals; link = link i; life = o.life; next = o.next; critical = o.critical } in
    then_none (going x) (rows.Object (unlinked going o)) (none x) ∙ ap (λ q. Some (rows.Object q)) same
left-all going none (key.Msg e n) (rows.Msg m) = then_none (going e) _ (none e)
left-all going none (key.Packet p n) (rows.Packet k) = then_none (going p) _ (none p)
left-all going none (key.Wait n) (rows.Wait w) = then_none (going w.port) _ (none w.port)
left-all going none k r = refl

pub and_then_all : (f : Row → Option Row) (r : Option Row) → ((s : Row) → r ≡ Some s → f s ≡ Some s) → option_and_then f r ≡ r
and_then_all f None h = refl
and_then_all f (Some s) h = h s refl

-- removing nothing changes nothing
pub without-none : (S : State) (going : ℕ → Bool) → ((x : ℕ) → going x ≡ false) → without S going ≡ S
without-none S going none = same_state (without S going) S (λ k. row-without going S k ∙ and_then_all (left going k) (row S k) (λ s e. left-all going none k s))

pub rounds-none : (n : ℕ) (S : State) → ((x : ℕ) → goes S x ≡ false) → rounds n S ≡ S
unfolding rounds
rounds-none zero S none = refl
rounds-none (suc n) S none = ap (rounds n) (without-none S (goes S) none) ∙ rounds-none n S none

-- where everything is supported, collecting changes nothing
pub collect-none : (S : State) → ((x : ℕ) → goes S x ≡ false) → collect S ≡ S
unfolding collect
collect-none S none = rounds-none (length (objects S)) S none

-- ---- a sound state stays sound

pub sound-rounds : (n : ℕ) (S : State) → IsSound S → IsSound (rounds n S)
unfolding rounds
sound-rounds zero S sound = sound
sound-rounds (suc n) S sound = sound-rounds n (without S (goes S)) (sound-without S sound (goes S) (goes-free S))

pub sound-collect : (S : State) → IsSound S → IsSound (collect S)
unfolding collect
sound-collect S sound = sound-rounds (length (objects S)) S sound

-- ---- nothing goes afterwards

abbrev is_object : RowKey → Row → Bool
is_object k r = is_some (object_at (k, r))

abbrev object_goes : (ℕ → Bool) → RowKey → Row → Bool
object_goes going k r = is_object k r && going (first_number k)

some_length : {A : Type 0} (x : A) (xs : List A) → In x xs → 0 < length xs
some_length x [] m = absurd m
some_length x (y ∷ ys) m = omega arith

length-filter_map : {A B : Type 0} (f : A → Option B) (xs : List A) → length (filter_map f xs) ≡ count_by (λ x. is_some (f x)) xs
length-filter_map f [] = refl
length-filter_map {A} f (x ∷ xs) =
    let c : count_by (λ (y : A). is_some (f y)) (x ∷ xs) ≡ cond (is_some (f x)) 1 0 + count_by (λ (y : A). is_some (f y)) xs = sum_by-cons (λ (y : A). cond (is_some (f y)) 1 0) x xs in
    let rest : length (filter_map f xs) ≡ count_by (λ (y : A). is_some (f y)) xs = length-filter_map f xs in
    longer (f x) (filter_map f xs) (count_by (λ (y : A). is_some (f y)) xs) rest ∙ sym c
  where
    longer : {B : Type 0} (o : Option B) (ys : List B) (n : ℕ) → length ys ≡ n → length (cons_option o ys) ≡ cond (is_some o) 1 0 + n
    longer None ys n e = omega arith
    longer (Some y) ys n e = omega arith

objects-count : (S : State) → length (objects S) ≡ count_row is_object S
unfolding objects count_row
objects-count S = length-filter_map object_at S.rows

object-there : (S : State) (x : ℕ) → exists S x ≡ true → 0 < length (objects S)
unfolding objects
object-there S x e =
    let w = some-exists S x e in
    some_length (x, w.0) (filter_map object_at S.rows) (filter_map-in object_at (x, w.0) (key.Object x, rows.Object w.0) S.rows (row-in S (key.Object x) (rows.Object w.0) (object-row S x w.0 w.1)) refl)

left-object_still : (going : ℕ → Bool) (k : RowKey) (r s : Row) → left going k r ≡ Some s → is_object k s ≡ true → is_object k r ≡ true
left-object_still going (key.Object x) (rows.Object o) s e h = refl
left-object_still going (key.Object x) r s e h = subst (λ z. is_object (key.Object x) z ≡ true) (sym (some_one r s e)) h
left-object_still going _ r s e h = cc

gone : (going : ℕ → Bool) (k : RowKey) (r : Row) → object_goes going k r ≡ true → left going k r ≡ None
gone going (key.Object x) (rows.Object o) e = ap (λ b. if b then None else Some (rows.Object (unlinked going o))) e
gone going _ _ e = cc

-- there are fewer objects once one goes
fewer : (S : State) (going : ℕ → Bool) → any_row (object_goes going) S ≡ true → length (objects (without S going)) < length (objects S)
unfolding without
fewer S going h =
    let w = at-any_row (object_goes going) S h in
    let less : count_row is_object (change (left going) S) < count_row is_object S = count_row-change-less is_object (left going) (left-object_still going) S w.0 w.1 w.2 (gone going w.0 w.1 w.3) (and_left (is_object w.0 w.1) _ w.3) in
    let a : length (objects (change (left going) S)) ≡ count_row is_object (change (left going) S) = objects-count _ in
    let b : length (objects S) ≡ count_row is_object S = objects-count S in
    omega arith

none_goes : (S : State) (x : ℕ) → any_row (object_goes (goes S)) S ≡ false → goes S x ≡ false
none_goes S x h = not_true (goes S x) (λ t.
    let w = some-exists S x (goes-there S x t) in
    true≢false _ (any_row-at (object_goes (goes S)) S (key.Object x) (rows.Object w.0) (object-row S x w.0 w.1) t) h)

pub rounds-supported : (n : ℕ) (S : State) → length (objects S) ≤ n → (x : ℕ) → goes (rounds n S) x ≡ false
unfolding rounds
rounds-supported zero S h x = not_true (goes S x) (λ t. let p : 0 < length (objects S) = object-there S x (goes-there S x t) in omega arith)
rounds-supported (suc n) S h x =
    elim (any_row (object_goes (goes S)) S) as (λ b. any_row (object_goes (goes S)) S ≡ b → goes (rounds n (without S (goes S))) x ≡ false) [
      | true ↦ λ t. let l : length (objects (without S (goes S))) < length (objects S) = fewer S (goes S) t in rounds-supported n (without S (goes S)) (omega arith) x
      | false ↦ λ t.
          let none : (y : ℕ) → goes S y ≡ false = λ y. none_goes S y t in
          let same : rounds n (without S (goes S)) ≡ S = ap (rounds n) (without-none S (goes S) none) ∙ rounds-none n S none in
          ap (λ s. goes s x) same ∙ none x
    ] refl

-- nothing goes after collecting: every object that is left is supported
pub collect-supported : (S : State) (x : ℕ) → goes (collect S) x ≡ false
unfolding collect
collect-supported S x = rounds-supported (length (objects S)) S (omega arith) x

pub ruleset collect_laws = (collect-supported)
