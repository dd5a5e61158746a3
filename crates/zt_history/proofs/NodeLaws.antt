-- Moments as they are kept: look-ups, depths, a record that changes, one more and one less.
use Rattle.std.proofs.Common.{◌≡◌, ℕ, zero, suc, ◌+◌, ◌-◌, ◌≤◌, ◌<◌, true, inl, inr, List, [], ◌∷◌, ◌++◌, length, reverse, set, take, get_or, Option, Some, None, refl, sym, ◌∙◌, ap, subst, arith, Bor}
use Rattle.std.specs.Prelude.{Bool, slice_get, IfSome}
use Rattle.std.specs.Option.{option_copied, option_map}
use Rattle.std.specs.Slice.{IsItemAt}
use Rattle.std.proofs.lemmas.List.{reverse-append, append_assoc, length-append, length-reverse, map-append, take-map}
use Rattle.std.proofs.lemmas.Option.{slice_get-map, slice_get-get_or, slice_get_past, slice_get_within, none-some, same_Some}
use Rattle.zt_rows.specs.Change.{exchange}
use Rattle.zt_rows.specs.State.{State}
use Rattle.zt_rows.proofs.ChangeLaws.{Rows}
use Rattle.zt_store.specs.Places.{Places, fits}
use Rattle.zt_store.specs.RecordRows.{all_fit}
use Rattle.zt_store.specs.StoreView.{Stored}
use Rattle.zt_store.proofs.Fitting.{all_fit-at}
use Rattle.zt_history.specs.Tree.{Made, made_at, parent_of, parent_at, path}
use Rattle.zt_history.specs.HistoryRefusals.{most_moments}
use Rattle.zt_history.specs.TreeInvariant.{Falls}
use Rattle.zt_history.specs.ProofsOnly.Branches.{without_last}
use Rattle.zt_history.specs.ProofsOnly.MomentNodes.{Chronicle, AreNodes, IsTurned, made_as, made_in, record_at}
use Rattle.zt_history.specs.ProofsOnly.StoredNodes.{MomentNode}
use Rattle.zt_history.proofs.ListLaws.{length-mapped, get-within, get-left, get-last, place}
use Rattle.zt_history.proofs.MoreLaws.{path-more, falls-push, falls-left}
use Rattle.zt_history.proofs.PathLaws.{path-opening, path-step, length-path}

-- ---- looking at one

pub got : {X : Type 0} (xs : List X) (i : ℕ) (r : Option (Bor X)) → IsItemAt xs i r → option_copied r ≡ slice_get xs i
got xs i None h = sym (slice_get_past xs i h.3)
got xs i (Some x) h = ap Some h.1 ∙ sym (slice_get-get_or xs i x.now h.3.0)

abbrev pub seen : List MomentNode → List Rows → Bool → Chronicle
seen nodes records room = record { made = made_in nodes; records = records; room = room }

module _ {room : Bool} (nodes : List MomentNode) (records : List Rows) (h : Chronicle) (i m : ℕ) (is : seen nodes records room ≡ h) (place : m ≡ suc i) where
  there : made_at (made_in nodes) (suc i) ≡ made_at h.made m
  there = λ j. made_at (is j).made (sym place j)

  -- what is read of a node is so of the moment
  pub node-seen : {X : Type 0} (f : Made → X) → option_map (λ n. f (made_as n)) (slice_get nodes i) ≡ option_map f (made_at h.made m)
  node-seen f = by (slice_get nodes i) ∙ ap (option_map f) (sym (slice_get-map made_as nodes i) ∙ there)
    where
      by : (o : Option MomentNode) → option_map (λ n. f (made_as n)) o ≡ option_map f (option_map made_as o)
      by None = refl
      by (Some n) = refl

  pub node-depth : AreNodes nodes → (r : Option ℕ) → r ≡ option_map (λ n. n.depth) (slice_get nodes i) → IfSome r (λ d. d ≡ length (path h.made m))
  node-depth are r e = by (slice_get nodes i) refl r e
    where
      by : (o : Option MomentNode) → slice_get nodes i ≡ o → (r : Option ℕ) → r ≡ option_map (λ n. n.depth) o → IfSome r (λ d. d ≡ length (path h.made m))
      by o at None e = tt
      by None at (Some d) e = absurd (none-some d (sym e))
      by (Some n) at (Some d) e = same_Some d n.depth e ∙ are.deep i n at ∙ (λ j. length (path (is j).made (sym place j)))

  -- a moment that there is has a depth
  pub node-there : m ≤ length h.made → None ≡ option_map (λ n. n.depth) (slice_get nodes i) → ⊥
  node-there within e =
      let at = get-within nodes i (omega (arith, within, place, ap (λ (h : Chronicle). length h.made) is, length-mapped made_as nodes)) in
      none-some (at.0.depth) (e ∙ ap (option_map (λ (n : MomentNode). n.depth)) at.1)

-- the record of a moment, as it is read from the list of the records
pub record-listed : {room : Bool} (nodes : List MomentNode) (records xs : List Rows) (h : Chronicle) (i m : ℕ) (r : Option (Bor Rows)) → IsItemAt xs i r → xs ≡ records → seen nodes records room ≡ h → m ≡ suc i
    → option_copied r ≡ record_at h.records m
record-listed nodes records xs h i m r at all is place = got xs i r at ∙ ap (λ xs. slice_get xs i) all ∙ (λ j. record_at (is j).records (sym place j))

abbrev pub or_opening : Option ℕ → ℕ
or_opening None = 0
or_opening (Some m) = m

parent_in : (o : Option MomentNode) → or_opening (option_map (λ n. n.parent) o) ≡ parent_of (option_map made_as o)
parent_in None = refl
parent_in (Some n) = refl

-- the parent of a moment, as it is read from its node
pub parent-listed : {room : Bool} (nodes : List MomentNode) (records : List Rows) (h : Chronicle) (i m : ℕ) → seen nodes records room ≡ h → m ≡ suc i
    → or_opening (option_map (λ n. n.parent) (slice_get nodes i)) ≡ parent_at h.made m
parent-listed nodes records h i m is place =
    parent_in (slice_get nodes i)
    ∙ ap parent_of (sym (slice_get-map made_as nodes i))
    ∙ (λ j. parent_at (is j).made (sym place j))

-- the opening's path is empty
pub depth-opening : (made : List Made) (m : ℕ) → m ≡ 0 → 0 ≡ length (path made m)
depth-opening made m e = sym (ap (λ m. length (path made m)) e ∙ ap length (path-opening made))

-- ---- a path from its end

-- so many moments of the path are gathered, the last first, and the rest is the path to this one
pub record IsGathered (made : List Made) (end at : ℕ) (way : List ℕ) (depth : ℕ) : Type 0 where
  pub rest : path made end ≡ path made at ++ reverse way
  pub many : length way ≡ depth

pub gathered-left : (made : List Made) (end at : ℕ) (way : List ℕ) (depth : ℕ) → IsGathered made end at way depth → length (path made end) ≡ length (path made at) + depth
gathered-left made end at way depth is = ap length is.rest ∙ omega (arith, length-append (path made at) (reverse way), length-reverse way, is.many)

pub gathered-step : (made : List Made) → Falls made → (end at : ℕ) (way longer : List ℕ) (depth next : ℕ) → IsGathered made end at way depth → depth < length (path made end)
    → longer ≡ way ++ at ∷ [] → next ≡ parent_at made at → IsGathered made end next longer (depth + 1)
gathered-step made falls end zero way longer depth next is more pushed up =
    absurd (omega (arith, gathered-left made end zero way depth is, more, ap length (path-opening made)))
gathered-step made falls end (suc i) way longer depth next is more pushed up = record {
  rest =
      is.rest ∙ ap (λ p. p ++ reverse way) (path-step made falls i)
      ∙ append_assoc (path made (parent_at made (suc i))) (suc i ∷ []) (reverse way)
      ∙ (λ j. path made (sym up j) ++ (sym (ap reverse pushed ∙ reverse-append way (suc i ∷ [])) j));
  many = ap length pushed ∙ omega (arith, length-append way (suc i ∷ []), is.many);
}

-- ---- nodes that stay, and one more

module _ (nodes more : List MomentNode) where
  pub made_in-more : made_in (nodes ++ more) ≡ made_in nodes ++ made_in more
  made_in-more = map-append made_as nodes more

pub length-made_in : (nodes : List MomentNode) → length (made_in nodes) ≡ length nodes
length-made_in nodes = length-mapped made_as nodes

pub made_in-fewer : (nodes : List MomentNode) → made_in (without_last nodes) ≡ without_last (made_in nodes)
made_in-fewer nodes = sym (take-map made_as (length nodes - 1) nodes) ∙ ap (λ n. take (n - 1) (made_in nodes)) (sym (length-made_in nodes))

-- the first nodes of a list of nodes
pub nodes-left : (nodes more : List MomentNode) → AreNodes (nodes ++ more) → AreNodes nodes
nodes-left nodes more are = record {
  few = omega (arith, are.few, length-append nodes more);
  falls = falls;
  deep = λ i n at.
      are.deep i n (get-left nodes more i (slice_get_within nodes i n at) ∙ at)
      ∙ ap length (ap (λ made. path made (suc i)) (made_in-more nodes more)
      ∙ path-more (made_in nodes) (made_in more) falls (suc i) (omega (arith, slice_get_within nodes i n at, length-made_in nodes)));
}
  where
    falls : Falls (made_in nodes)
    falls = falls-left (made_in nodes) (made_in more) (subst Falls (made_in-more nodes more) are.falls)

-- one more node, one deeper than its parent
pub nodes-push : (nodes : List MomentNode) (n : MomentNode) → n.parent ≤ length nodes → n.depth ≡ length (path (made_in nodes) n.parent) + 1 → length nodes < most_moments → AreNodes nodes → AreNodes (nodes ++ n ∷ [])
nodes-push nodes n there deep few are = record {
  few = omega (arith, few, length-append nodes (n ∷ []));
  falls = falls;
  deep = λ i k at. elim (place nodes n i) [
    | inl l ↦
        are.deep i k (sym (get-left nodes (n ∷ []) i l) ∙ at)
        ∙ ap length (sym (path-more (made_in nodes) (made_as n ∷ []) are.falls (suc i) (omega (arith, l, length-made_in nodes))) ∙ ap (λ made. path made (suc i)) (sym all))
    | inr r ↦ elim r [
      | inl end ↦
          ap (λ (k : MomentNode). k.depth) (sym (same_Some n k (sym (get-last nodes n i end) ∙ at)))
          ∙ deep_end
          ∙ ap (λ i. length (path (made_in (nodes ++ n ∷ [])) (suc i))) (sym end)
      | inr past ↦ absurd (none-some k (sym (slice_get_past (nodes ++ n ∷ []) i past) ∙ at))
    ]
  ];
}
  where
    all : made_in (nodes ++ n ∷ []) ≡ made_in nodes ++ made_as n ∷ []
    all = made_in-more nodes (n ∷ [])

    falls : Falls (made_in (nodes ++ n ∷ []))
    falls = subst Falls (sym all) (falls-push (made_in nodes) (made_as n) are.falls (omega (arith, there, length-made_in nodes)))

    deep_end : n.depth ≡ length (path (made_in (nodes ++ n ∷ [])) (suc (length nodes)))
    deep_end =
        let longer : List Made = made_in nodes ++ made_as n ∷ [] in
        let still : Falls longer = subst Falls all falls in
        let parent : parent_at longer (suc (length nodes)) ≡ n.parent = ap parent_of (get-last (made_in nodes) (made_as n) (length nodes) (sym (length-made_in nodes))) in
        let above : path longer (parent_at longer (suc (length nodes))) ≡ path (made_in nodes) n.parent =
        ap (path longer) parent ∙ path-more (made_in nodes) (made_as n ∷ []) are.falls n.parent (omega (arith, there, length-made_in nodes)) in
        deep
        ∙ omega (arith, length-path longer still (length nodes), ap length above)
        ∙ ap (λ made. length (path made (suc (length nodes)))) (sym all)

-- ---- a record that changes

pub record_fits : (p : Places) (records : List Rows) (i : ℕ) (was : Rows) → i < length records → was ≡ get_or records i was → all_fit p records ≡ true → fits p was ≡ true
record_fits p records i was within is fit = ap (fits p) is ∙ all_fit-at p records i was within fit

-- the i-th record exchanged its rows with the store's
pub turned_at : {room later : Bool} (nodes : List MomentNode) (records : List Rows) (was kept : Rows) (old new : Chronicle) (before after : Stored) (i j : ℕ) → i < length records → was ≡ get_or records i was
    → seen nodes records room ≡ old → seen nodes (set records i kept) later ≡ new → i ≡ j
    → ◌≡◌ {A = State × Rows} (after.state, kept) (exchange before.state was) → after.places ≡ before.places → fits after.places kept ≡ true
    → IsTurned old new before after j
turned_at nodes records was kept old new before after i j within is stood goes number done places fit = record {
  made = ap (λ (h : Chronicle). h.made) (sym goes) ∙ ap (λ (h : Chronicle). h.made) stood;
  was = was;
  kept = kept;
  at = (λ k. slice_get (sym stood k).records (sym number k)) ∙ slice_get-get_or records i was within ∙ ap Some (sym is);
  exchanged = done;
  records = ap (λ (h : Chronicle). h.records) (sym goes) ∙ (λ k. set (stood k).records (number k) kept);
  places = places;
  fit = fit;
}

pub nodes-pushed : {room : Bool} (nodes middle new : List MomentNode) (records : List Rows) (n : MomentNode) (h : Chronicle) → new ≡ middle ++ n ∷ [] → middle ≡ nodes → seen nodes records room ≡ h
    → n.parent ≤ length h.made → n.depth ≡ length (path h.made n.parent) + 1 → length h.made < most_moments → AreNodes nodes → AreNodes new
nodes-pushed nodes middle new records n h pushed kept is there deep few are =
    let made : made_in nodes ≡ h.made = ap (λ (h : Chronicle). h.made) is in
    let many : length (made_in nodes) ≡ length h.made = ap length made in
    subst AreNodes (sym (pushed ∙ ap (λ xs. xs ++ n ∷ []) kept))
    (nodes-push nodes n (omega (arith, there, many, length-made_in nodes)) (deep ∙ ap (λ made. length (path made n.parent) + 1) (sym made)) (omega (arith, few, many, length-made_in nodes)) are)
