-- What goes and had a support at the beginning of the step had it by a row that is no longer there: so it is in a list that has
-- what the rows that were put may have lost.
use Rattle.std.proofs.Common.{◌≡◌, ℕ, Bool, true, false, ◌||◌, ◌&&◌, List, ◌++◌, ◌⊎◌, inl, inr, refl, sym, ap, ◌∙◌, subst}
use Rattle.std.specs.Prelude.{◌==◌, Option, None, Some}
use Rattle.std.proofs.lemmas.Bool.{eq-eqb}
use Rattle.zt_rows.specs.declared.keys.RowKey.{RowKey}
use Rattle.zt_rows.specs.declared.keys.RowKey.TheVariants as key
use Rattle.zt_rows.specs.declared.rows.Held.{Held}
use Rattle.zt_rows.specs.declared.rows.ObjectRow.{ObjectRow}
use Rattle.zt_rows.specs.declared.rows.Row.{Row}
use Rattle.zt_rows.specs.State.{State, row}
use Rattle.zt_rows.specs.Reads.{as_entry, as_message, as_object, is_job, is_live, is_process, object}
use Rattle.zt_rows.specs.Support.{is_supported, root_job}
use Rattle.zt_rows.specs.Tests.{among, exists}
use Rattle.zt_rows.specs.Collect.{goes}
use Rattle.zt_rows.proofs.RowLaws.{list_any-in, or_left, true≢false}
use Rattle.zt_rows.proofs.ReadLaws.{entry-row, exists-some, message-row, some-exists}
use Rattle.zt_rows.proofs.SupportLaws.{KeptBy, by_child, by_entry, by_itself, by_message, kept-supported, supported-kept}
use Rattle.zt_rows.proofs.CollectLaws.{goes-free, goes-there}
use Rattle.zt_store.specs.StepView.{DiffersAtTouched, Stepping, listed}
use Rattle.zt_cascade.specs.OneByOne.{is_named}
use Rattle.zt_cascade.specs.ToldObjects.{IsTold, by_birth, by_list, by_loss, IsCovered}
use Rattle.zt_cascade.specs.ProofsOnly.LostObjects.{HasAllLost, HasLost, HasLostObject, SupportsAlike, named_by}
use Rattle.zt_cascade.specs.ProofsOnly.RaisedWaits.{IsLonger}
use Rattle.zt_cascade.specs.ProofsOnly.RemovedObject.{Covers, koids}
use Rattle.zt_cascade.proofs.TakingLaws.{among-koids, among-left, among-right}
use Rattle.zt_cascade.proofs.TouchedLaws.{LastsLonger}

-- ---- a longer list has what a shorter one has

lost_object-longer : (T : State) (x : ℕ) (o : Option ObjectRow) (list later : List ℕ) → IsLonger list later → HasLostObject T x o list → HasLostObject T x o later
lost_object-longer T x (Some o) list later longer (inl alike) = inl alike
lost_object-longer T x (Some o) list later longer (inr h) = inr (λ g. longer x (h.0 g), λ g. longer o.link (h.1 g))
lost_object-longer T x None list later longer h = λ g. longer x (h g)

pub lost-longer : (B T : State) → LastsLonger (HasLost B T)
lost-longer B T (key.Object x) list later longer h = lost_object-longer T x (object B x) list later longer h
lost-longer B T key.Counters list later longer h = λ y e. longer y (h y e)
lost-longer B T (key.Entry p g) list later longer h = λ y e. longer y (h y e)
lost-longer B T (key.Msg e n) list later longer h = λ y e. longer y (h y e)
lost-longer B T (key.Packet p n) list later longer h = λ y e. longer y (h y e)
lost-longer B T (key.Wait n) list later longer h = λ y e. longer y (h y e)

-- ---- what an entry or a message named

pub named-longer : (list later : List ℕ) (handles : List Held) → later ≡ list ++ koids handles → IsLonger list later
named-longer list later handles is y e = ap (λ l. among l y) is ∙ among-left list (koids handles) y e

named-added : (list later : List ℕ) (handles : List Held) → later ≡ list ++ koids handles → (y : ℕ) → is_named handles y ≡ true → among later y ≡ true
named-added list later handles is y e = ap (λ l. among l y) is ∙ among-right list (koids handles) y (among-koids handles y ∙ e)

pub named-lost : (B T : State) (k : RowKey) (r : Option Row) (list later : List ℕ) → ((x : ℕ) → k ≡ key.Object x → ⊥) → r ≡ row B k → later ≡ list ++ koids (named_by r) → HasLost B T k later
named-lost B T (key.Object x) r list later other first is = absurd (other x refl)
named-lost B T key.Counters r list later other first is = λ y e. named-added list later (named_by r) is y (ap (λ r. is_named (named_by r) y) first ∙ e)
named-lost B T (key.Entry p g) r list later other first is = λ y e. named-added list later (named_by r) is y (ap (λ r. is_named (named_by r) y) first ∙ e)
named-lost B T (key.Msg m n) r list later other first is = λ y e. named-added list later (named_by r) is y (ap (λ r. is_named (named_by r) y) first ∙ e)
named-lost B T (key.Packet p n) r list later other first is = λ y e. named-added list later (named_by r) is y (ap (λ r. is_named (named_by r) y) first ∙ e)
named-lost B T (key.Wait n) r list later other first is = λ y e. named-added list later (named_by r) is y (ap (λ r. is_named (named_by r) y) first ∙ e)

-- ---- what goes

-- the object is there, kept as by this row
abbrev HasKept : State → ℕ → ObjectRow → Type 0
HasKept T x o = (p : ObjectRow) × (object T x ≡ Some p) × (p.kind ≡ o.kind) × (p.life ≡ o.life) × (p.link ≡ o.link)

module _ (s : Stepping) (list : List ℕ) (differs : DiffersAtTouched s) (all : HasAllLost s list) where
  -- an object of the beginning is kept alike, or what of it and of its link goes is in the list
  kept-or-listed : (x : ℕ) (o : ObjectRow) → object s.beginning x ≡ Some o → HasKept s.current x o ⊎ ((goes s.current x ≡ true → among list x ≡ true) × (goes s.current o.link ≡ true → among list o.link ≡ true))
  kept-or-listed x o h = by (listed s.touched (key.Object x)) refl
    where
      near : (now : Option ObjectRow) → object s.current x ≡ now → HasLostObject s.current x (Some o) list → HasKept s.current x o ⊎ ((goes s.current x ≡ true → among list x ≡ true) × (goes s.current o.link ≡ true → among list o.link ≡ true))
      near now is (inr lists) = inr lists
      near (Some p) is (inl alike) = let kept = subst (λ r. SupportsAlike o r) is alike in inl (p, is, kept.kind, kept.life, kept.link)
      near None is (inl alike) = absurd (subst (λ r. SupportsAlike o r) is alike)

      by : (b : Bool) → listed s.touched (key.Object x) ≡ b → HasKept s.current x o ⊎ ((goes s.current x ≡ true → among list x ≡ true) × (goes s.current o.link ≡ true → among list o.link ≡ true))
      by false t = inl (o, ap as_object (differs (key.Object x) t) ∙ h, refl, refl, refl)
      by true t = near (object s.current x) refl (subst (λ r. HasLostObject s.current x r list) h (all (key.Object x) t))

  module _ (x : ℕ) (g : goes s.current x ≡ true) where
    -- what kept it keeps it, or it is in the list
    listed-or-kept : KeptBy s.beginning x → (among list x ≡ true) ⊎ KeptBy s.current x
    listed-or-kept (by_entry p h held e names) =
        elim (listed s.touched (key.Entry p h)) as (λ b. listed s.touched (key.Entry p h) ≡ b → (among list x ≡ true) ⊎ KeptBy s.current x) [
          | true ↦ λ t. inl (all (key.Entry p h) t x (ap (λ r. is_named (named_by r) x) (entry-row s.beginning p h held e) ∙ or_left (held.koid == x) false (eq-eqb held.koid x names)))
          | false ↦ λ t. inr (by_entry p h held (ap as_entry (differs (key.Entry p h) t) ∙ e) names)
        ] refl
    listed-or-kept (by_message e n m held f l names) =
        elim (listed s.touched (key.Msg e n)) as (λ b. listed s.touched (key.Msg e n) ≡ b → (among list x ≡ true) ⊎ KeptBy s.current x) [
          | true ↦ λ t. inl (all (key.Msg e n) t x (ap (λ r. is_named (named_by r) x) (message-row s.beginning e n m f) ∙ list_any-in (λ (h : Held). h.koid == x) held m.handles l (eq-eqb held.koid x names)))
          | false ↦ λ t. inr (by_message e n m held (ap as_message (differs (key.Msg e n) t) ∙ f) l names)
        ] refl
    listed-or-kept (by_child o y d f live there task names) = elim (kept-or-listed y d there) [
      | inr lists ↦ inl (subst (λ z. among list z ≡ true) names (lists.1 (ap (goes s.current) names ∙ g)))
      | inl child ↦ elim (kept-or-listed x o f) [
        | inr lists ↦ inl (lists.0 g)
        | inl itself ↦ inr (by_child itself.0 y child.0 itself.1 ((λ i. is_job (itself.2 i) && is_live (itself.3 i)) ∙ live) child.1
            ((λ i. (is_job (child.2 i) && is_live (child.3 i)) || (is_process (child.2 i) && is_live (child.3 i))) ∙ task) (child.4 ∙ names))
      ]
    ]
    listed-or-kept (by_itself o f t) = elim (kept-or-listed x o f) [
      | inr lists ↦ inl (lists.0 g)
      | inl itself ↦ inr (by_itself itself.0 itself.1 ((λ i. (is_process (itself.2 i) && is_live (itself.3 i)) || (x == root_job)) ∙ t))
    ]

    listed-lost : is_supported s.beginning x ≡ true → among list x ≡ true
    listed-lost supported = elim (listed-or-kept (supported-kept s.beginning x supported)) [
      | inl t ↦ t
      | inr kept ↦ absurd (true≢false (is_supported s.current x) (kept-supported s.current x kept) (goes-free s.current x g))
    ]

    -- an object that was not there at the beginning was put
    listed-new : object s.beginning x ≡ None → among list x ≡ true
    listed-new none = by (listed s.touched (key.Object x)) refl
      where
        no_object : (r : Option ObjectRow) (o : ObjectRow) → r ≡ None → r ≡ Some o → ⊥
        no_object r o e f = cc

        by : (b : Bool) → listed s.touched (key.Object x) ≡ b → among list x ≡ true
        by true t = subst (λ r. HasLostObject s.current x r list) none (all (key.Object x) t) g
        by false t =
            let w = some-exists s.current x (goes-there s.current x g) in
            absurd (no_object (object s.beginning x) w.0 none (ap as_object (sym (differs (key.Object x) t)) ∙ w.1))

    listed-born : exists s.beginning x ≡ false → among list x ≡ true
    listed-born none = by (object s.beginning x) refl
      where
        by : (r : Option ObjectRow) → object s.beginning x ≡ r → among list x ≡ true
        by (Some o) h = absurd (true≢false (exists s.beginning x) (exists-some s.beginning x o h) none)
        by None h = listed-new h

  -- all that is told of is in the list, where the released handles stand behind it
  pub told-covers : (released : List Held) → IsCovered s released → Covers (list ++ koids released) s.current
  told-covers released covered = record { each = λ x g. told x g (covered.told x g) }
    where
      told : (x : ℕ) → goes s.current x ≡ true → IsTold s released x → among (list ++ koids released) x ≡ true
      told x g (by_list e) = among-right list (koids released) x (among-koids released x ∙ e)
      told x g (by_birth e) = among-left list (koids released) x (listed-born x g e)
      told x g (by_loss e) = among-left list (koids released) x (listed-lost x g e)
