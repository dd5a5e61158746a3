-- What a look at one number of a store says of all rows at once: whether one passes.
use Rattle.std.proofs.Common.{◌≡◌, ℕ, ◌+◌, Bool, true, false, not, cond, ◌||◌, List, [], ◌∷◌, Option, Some, None, is_some, IsSome, arith, refl, sym, ap, ◌∙◌}
use Rattle.std.specs.Prelude.{◌==◌, count_by}
use Rattle.std.specs.List.{list_any}
use Rattle.std.proofs.lemmas.Bool.{eqb-true, eq-eqb}
use Rattle.std.proofs.lemmas.Bool.Decides.{nat_tests}
use Rattle.zt_rows.specs.declared.keys.RowKey.{RowKey}
use Rattle.zt_rows.specs.declared.keys.RowKey.TheVariants as key
use Rattle.zt_rows.specs.declared.rows.Row.{Row}
use Rattle.zt_rows.specs.declared.rows.Row.TheVariants as rows
use Rattle.zt_rows.specs.declared.rows.ObjectRow.{ObjectRow}
use Rattle.zt_rows.specs.Keys.{rowkey_eq}
use Rattle.zt_rows.specs.ProofsOnly.KeyOrder.{rowkey_eq-equal}
use Rattle.zt_rows.specs.State.{State, row}
use Rattle.zt_rows.specs.Reads.{object}
use Rattle.zt_rows.specs.Room.{SuitsKey}
use Rattle.zt_rows.specs.Settle.{is_message_of, renewed, refreshed}
use Rattle.zt_rows.specs.Tests.{any_row, count_row}
use Rattle.zt_rows.proofs.ReadLaws.{object-row}
use Rattle.zt_rows.proofs.StateLaws.{row-put, same_state}
use Rattle.zt_signals.specs.ObjectSignals.{refreshed_object, refreshed_object_of}
use Rattle.zt_rows.proofs.RowLaws.{any_row-at, at-any_row, not_true, count-cons}
use Rattle.zt_cells.specs.FirstNumber.{IsFirst}

-- ---- a first message

at_message : (S : State) (x n : ℕ) (r : Row) → row S (key.Msg x n) ≡ Some r → SuitsKey (key.Msg x n) (Some r) → any_row (is_message_of x) S ≡ true
at_message S x n (rows.Msg m) there suits = any_row-at (is_message_of x) S (key.Msg x n) (rows.Msg m) there (eq-eqb x x refl)
at_message S x n _ there suits = cc

some_message : (S : State) (x n : ℕ) (o : Option Row) → row S (key.Msg x n) ≡ o → IsSome o → SuitsKey (key.Msg x n) o → any_row (is_message_of x) S ≡ true
some_message S x n (Some r) there is suits = at_message S x n r there suits
some_message S x n None there is suits = cc

no_message : (S : State) (x : ℕ) (k : RowKey) (r : Row) → row S k ≡ Some r → is_message_of x k r ≡ true → ((n : ℕ) → row S (key.Msg x n) ≡ None) → ⊥
no_message S x (key.Msg e n) (rows.Msg m) there is none =
    let same : e ≡ x = eqb-true e x is in
    let absent : row S (key.Msg e n) ≡ None = ap (λ y. row S (key.Msg y n)) same ∙ none n in
    cc
no_message S x _ _ there is none = cc

-- an endpoint has a first message where it has a message
pub message-any : (S : State) (x : ℕ) (found : Option ℕ) → IsFirst S (λ n. key.Msg x n) found → ((k : RowKey) → SuitsKey k (row S k)) → is_some found ≡ any_row (is_message_of x) S
message-any S x (Some n) first suited = sym (some_message S x n (row S (key.Msg x n)) refl first.0 (suited (key.Msg x n)))
message-any S x None first suited =
    sym (not_true (any_row (is_message_of x) S) (λ t. let w = at-any_row (is_message_of x) S t in no_message S x w.0 w.1 w.2 w.3 first))

-- ---- how many

none_more : (b : Bool) (n : ℕ) (rest : Bool) → (n == 0) ≡ not rest → (cond b 1 0 + n == 0) ≡ not (b || rest)
none_more true n rest h = grind (arith, nat_tests, h)
none_more false n rest h = grind (arith, nat_tests, h)

counted : (p : RowKey × Row → Bool) (es : List (RowKey × Row)) → (count_by p es == 0) ≡ not (list_any p es)
counted p [] = refl
counted p (e ∷ es) = ap (λ n. n == 0) (count-cons p e es) ∙ none_more (p e) (count_by p es) (list_any p es) (counted p es)

-- none passes where their number is 0
pub count-none : (test : RowKey → Row → Bool) (S : State) → (count_row test S == 0) ≡ not (any_row test S)
unfolding count_row any_row
count-none test S = counted (λ e. test e.0 e.1) S.rows

-- ---- signals anew

-- an object whose signals are those that the rows give it stays as it is
pub refreshed_stays : (S : State) (x : ℕ) (o : ObjectRow) → object S x ≡ Some o → renewed S x o ≡ o.signals.0 → S ≡ refreshed_object S x
refreshed_stays S x o there same = same_state S (refreshed_object S x) (λ q. sym (ap (λ z. row (refreshed_object_of z S x) q) there ∙ row-put S (key.Object x) (refreshed S (key.Object x) (rows.Object o)) q ∙ by q (rowkey_eq q (key.Object x)) refl))
  where
    was : refreshed S (key.Object x) (rows.Object o) ≡ row S (key.Object x)
    was = (λ i. Some (rows.Object (record o { signals = record { 0 = same i } }))) ∙ sym (object-row S x o there)

    by : (q : RowKey) (b : Bool) → rowkey_eq q (key.Object x) ≡ b → cond b (refreshed S (key.Object x) (rows.Object o)) (row S q) ≡ row S q
    by q true e = was ∙ ap (row S) (sym (rowkey_eq-equal q (key.Object x) e))
    by q false e = refl
