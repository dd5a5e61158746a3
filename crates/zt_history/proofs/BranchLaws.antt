-- Branches as the entries of a map: look-ups, heads that move, one branch more.
use Rattle.std.proofs.Common.{◌≡◌, ◌<◌, ℕ, zero, suc, ◌+◌, length, Bool, false, not, cond, List, [], ◌∷◌, ◌++◌, map, position, Option, Some, None, is_some, refl, sym, ◌∙◌, ap}
use Rattle.std.specs.Prelude.{slice_get, nat_lt}
use Rattle.std.specs.List.{position_or_len}
use Rattle.std.specs.Map.{keys_of, values_of, lookup}
use Rattle.std.specs.Str.{bytes_eq}
use Rattle.std.proofs.lemmas.List.{map-append}
use Rattle.std.proofs.lemmas.Option.{none-some, same_Some}
use Rattle.std.proofs.lemmas.Bool.{true≢false}
use Rattle.std.proofs.lemmas.List.Quantifiers.{position-Some}
use Rattle.indexmap.specs.Layout.{set_value_at}
use Rattle.indexmap.proofs.MapLemmas.{some_index}
use Rattle.zt_history.specs.Tree.{Branch, branch_named, head_at, headed}
use Rattle.zt_history.specs.ProofsOnly.Branches.{branches_by}
use Rattle.zt_history.proofs.ListLaws.{length-mapped}

position_or_len-map : {A B : Type 0} (test : B → Bool) (f : A → B) (xs : List A) → position_or_len test (map f xs) ≡ position_or_len (λ x. test (f x)) xs
position_or_len-map test f [] = refl
position_or_len-map test f (x ∷ xs) = ap (λ n. cond (not (test (f x))) (1 + n) 0) (position_or_len-map test f xs)

pub position-map : {A B : Type 0} (test : B → Bool) (f : A → B) (xs : List A) → position test (map f xs) ≡ position (λ x. test (f x)) xs
position-map test f xs = λ i. cond (nat_lt (position_or_len-map test f xs i) (length-mapped f xs i)) (Some (position_or_len-map test f xs i)) None

module _ {K : Type 0} (name : K → List ℕ) where
  -- the look-up by a key is the one by a name
  pub branch_named-keys : (wanted : List ℕ) (es : List (K × ℕ)) → branch_named (branches_by name es) wanted ≡ position (λ k. bytes_eq wanted (name k)) (keys_of es)
  branch_named-keys wanted es =
      position-map (λ b. bytes_eq wanted b.name) (λ e. record { name = name e.0; head = e.1 }) es
      ∙ sym (position-map (λ k. bytes_eq wanted (name k)) (λ e. e.0) es)

  pub lookup-unnamed : (wanted : List ℕ) (es : List (K × ℕ)) → branch_named (branches_by name es) wanted ≡ None → lookup (λ k. bytes_eq wanted (name k)) es ≡ None
  lookup-unnamed wanted es none = none_here (lookup (λ k. bytes_eq wanted (name k)) es) (sym (some_index (λ k. bytes_eq wanted (name k)) es) ∙ ap is_some (sym (branch_named-keys wanted es) ∙ none))
    where
      none_here : (o : Option ℕ) → is_some o ≡ false → o ≡ None
      none_here None h = refl
      none_here (Some x) h = absurd (true≢false h)

  pub head_at-values : (es : List (K × ℕ)) (i m : ℕ) → slice_get (values_of es) i ≡ Some m → head_at (branches_by name es) i ≡ m
  head_at-values [] i m h = absurd (none-some m h)
  head_at-values (e ∷ es) zero m h = same_Some e.1 m h
  head_at-values (e ∷ es) (suc i) m h = head_at-values es i m h

  pub headed-value : (es : List (K × ℕ)) (i m : ℕ) → branches_by name (set_value_at es i m) ≡ headed (branches_by name es) i m
  headed-value [] i m = refl
  headed-value (e ∷ es) zero m = refl
  headed-value (e ∷ es) (suc i) m = ap (λ bs. record { name = name e.0; head = e.1 } ∷ bs) (headed-value es i m)

  pub branches_by-push : (es : List (K × ℕ)) (k : K) (m : ℕ) → branches_by name (es ++ (k, m) ∷ []) ≡ branches_by name es ++ record { name = name k; head = m } ∷ []
  branches_by-push es k m = map-append (λ (e : K × ℕ). record { name = name e.0; head = e.1 }) es ((k, m) ∷ [])

-- a branch that is found by its name is one of the branches
pub named-within : (branches : List Branch) (name : List ℕ) (id : ℕ) → Some id ≡ branch_named branches name → id < length branches
named-within branches name id found = (position-Some (λ b. bytes_eq name b.name) branches id (record { name = []; head = 0 }) (sym found)).0
