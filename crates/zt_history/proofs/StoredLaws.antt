-- Nodes as they lie in memory: one more, one less, and looks.
use Rattle.std.proofs.Common.{◌≡◌, ℕ, zero, suc, ◌+◌, ◌-◌, ◌≤◌, ◌<◌, inl, inr, ◌⊎◌, List, [], ◌∷◌, ◌++◌, length, take, get_or, Bool, true, false, Option, Some, Bor, refl, sym, ◌∙◌, ap, subst, arith}
use Rattle.std.specs.Prelude.{slice_get}
use Rattle.std.specs.Option.{option_copied, option_map}
use Rattle.std.specs.Slice.{IsItemAt}
use Rattle.std.proofs.lemmas.List.{append-nil, length-append, get_or_append_left}
use Rattle.std.proofs.lemmas.Bool.{true≢false}
use Rattle.std.proofs.lemmas.Option.{none-some, same_Some, slice_get_within, slice_get-get_or}
use Rattle.zt_rows.specs.declared.calls.Call.{Call}
use Rattle.zt_rows.specs.declared.calls.Reply.{Reply}
use Rattle.zt_history.specs.declared.moment_nodes.StoredNode.{StoredNode}
use Rattle.zt_history.specs.HistoryRefusals.{most_moments}
use Rattle.zt_history.specs.ProofsOnly.Branches.{without_last}
use Rattle.zt_history.specs.ProofsOnly.StoredNodes.{MomentNode, node_as, nodes_of, no_call, no_reply, shared_calls, shared_replies, Fills, IsFilled, AreStored, IsPut, IsCut}
use Rattle.zt_history.specs.ProofsOnly.FourBytes.{four_byte_numbers}
use Rattle.zt_history.proofs.ListLaws.{get-left}
use Rattle.zt_history.proofs.NodeLaws.{got}
use Rattle.zt_history.proofs.TreeLaws.{last_apart, without_last-push}

-- ---- places

module _ (place : StoredNode → ℕ) (owns : StoredNode → Bool) where
  -- the end is no earlier, and no more places are taken than there are nodes
  pub fills-up : (from : ℕ) (ns : List StoredNode) (end : ℕ) → Fills place owns from ns end → (from ≤ end) × (end ≤ from + length ns)
  fills-up from [] end h = (omega (arith, h), omega (arith, h))
  fills-up from (n ∷ ns) end (inl h) = let rest = fills-up from ns end h.2 in (omega (arith, rest.0), omega (arith, rest.1))
  fills-up from (n ∷ ns) end (inr h) = let rest = fills-up (suc from) ns end h.2 in (omega (arith, rest.0), omega (arith, rest.1))

  -- each place is before the end
  pub fills-within : (from : ℕ) (ns : List StoredNode) (end : ℕ) → Fills place owns from ns end → (i : ℕ) (n : StoredNode) → slice_get ns i ≡ Some n → place n < end
  fills-within from [] end h i n at = absurd (none-some n at)
  fills-within from (m ∷ ns) end (inl h) zero n at =
      let up = fills-up from ns end h.2 in
      omega (arith, h.1, up.0, ap place (same_Some m n at))
  fills-within from (m ∷ ns) end (inl h) (suc i) n at = fills-within from ns end h.2 i n at
  fills-within from (m ∷ ns) end (inr h) zero n at =
      let up = fills-up (suc from) ns end h.2 in
      omega (arith, h.1, up.0, ap place (same_Some m n at))
  fills-within from (m ∷ ns) end (inr h) (suc i) n at = fills-within (suc from) ns end h.2 i n at

  pub fills-there : (from : ℕ) (ns : List StoredNode) (n : StoredNode) (end : ℕ) → Fills place owns from ns end → owns n ≡ false → place n < end → Fills place owns from (ns ++ n ∷ []) end
  fills-there from [] n end h free less = inl (free, omega (arith, less, h), h)
  fills-there from (m ∷ ns) n end (inl h) free less = inl (h.0, h.1, fills-there from ns n end h.2 free less)
  fills-there from (m ∷ ns) n end (inr h) free less = inr (h.0, h.1, fills-there (suc from) ns n end h.2 free less)

  pub fills-own : (from : ℕ) (ns : List StoredNode) (n : StoredNode) (end : ℕ) → Fills place owns from ns end → owns n ≡ true → place n ≡ end → Fills place owns from (ns ++ n ∷ []) (suc end)
  fills-own from [] n end h owned own = inr (owned, own ∙ sym h, ap suc h)
  fills-own from (m ∷ ns) n end (inl h) owned own = inl (h.0, h.1, fills-own from ns n end h.2 owned own)
  fills-own from (m ∷ ns) n end (inr h) owned own = inr (h.0, h.1, fills-own (suc from) ns n end h.2 owned own)

  -- without the last node
  pub fills-left : (from : ℕ) (ns : List StoredNode) (n : StoredNode) (end : ℕ) → Fills place owns from (ns ++ n ∷ []) end
      → ((owns n ≡ false) × Fills place owns from ns end) ⊎ ((owns n ≡ true) × (suc (place n) ≡ end) × Fills place owns from ns (place n))
  fills-left from [] n end (inl h) = inl (h.0, h.2)
  fills-left from [] n end (inr h) = inr (h.0, ap suc h.1 ∙ h.2, sym h.1)
  fills-left from (m ∷ ns) n end (inl h) = elim (fills-left from ns n end h.2) [ inl l ↦ inl (l.0, inl (h.0, h.1, l.1)) | inr r ↦ inr (r.0, r.1, inl (h.0, h.1, r.2)) ]
  fills-left from (m ∷ ns) n end (inr h) = elim (fills-left (suc from) ns n end h.2) [ inl l ↦ inl (l.0, inr (h.0, h.1, l.1)) | inr r ↦ inr (r.0, r.1, inr (h.0, h.1, r.2)) ]

-- one that stands there already
pub put-there : {X : Type 0} (none : X) (kept : List X) (x : X) (place : ℕ) → slice_get kept place ≡ Some x → IsPut none kept kept x place false
put-there none kept x place at = record {
  more = [];
  grown = sym (append-nil kept);
  there = same_Some (get_or kept place none) x (sym (slice_get-get_or kept place none (slice_get_within kept place x at)) ∙ at);
  stands = inl (refl, slice_get_within kept place x at, refl);
}

-- ---- a list of shared elements and of those that are no other's

module _ {X : Type 0} (place : StoredNode → ℕ) (owns : StoredNode → Bool) (shared : List X) (ns : List StoredNode) (n : StoredNode) where
  pub filled-put : (none : X) (old new : List X) (x : X) → IsFilled place owns shared ns old → IsPut none old new x (place n) (owns n) → IsFilled place owns shared (ns ++ n ∷ []) new
  filled-put none old new x is put = record {
    begins = λ i y at.
        ap (λ xs. slice_get xs i) put.grown
        ∙ get-left old put.more i (slice_get_within old i y (is.begins i y at))
        ∙ is.begins i y at;
    fills = elim put.stands [
      | inl s ↦ subst (Fills place owns (length shared) (ns ++ n ∷ [])) (sym s.2) (fills-there place owns (length shared) ns n (length old) is.fills s.0 s.1)
      | inr s ↦ subst (Fills place owns (length shared) (ns ++ n ∷ [])) (sym s.2) (fills-own place owns (length shared) ns n (length old) is.fills s.0 s.1)
    ];
  }

  -- what is left of it, with what goes
  pub record IsLeft (kept left : List X) : Type 0 where
    pub gone : List X
    pub apart : kept ≡ left ++ gone
    pub stand : IsFilled place owns shared ns left

  pub filled-cut : (kept left : List X) → IsFilled place owns shared (ns ++ n ∷ []) kept → IsCut (owns n) kept left → IsLeft kept left
  filled-cut kept left is cut = elim (fills-left place owns (length shared) ns n (length kept) is.fills) [
    | inl l ↦ elim cut [
      | inl same ↦ still l.1 same.1
      | inr own ↦ absurd (true≢false (sym own.0 ∙ l.0))
    ]
    | inr r ↦ elim cut [
      | inl same ↦ absurd (true≢false (sym r.0 ∙ same.0))
      | inr own ↦ fewer r.1 r.2 own.1
    ]
  ]
    where
      still : Fills place owns (length shared) ns (length kept) → left ≡ kept → IsLeft kept left
      still fills same = record {
        gone = [];
        apart = sym same ∙ sym (append-nil left);
        stand = record {
          begins = λ i x at. ap (λ xs. slice_get xs i) same ∙ is.begins i x at;
          fills = subst (Fills place owns (length shared) ns) (ap length (sym same)) fills;
        };
      }

      fewer : suc (place n) ≡ length kept → Fills place owns (length shared) ns (place n) → left ≡ without_last kept → IsLeft kept left
      fewer last fills less =
          let end = last_apart kept (omega (arith, last)) in
          let apart : kept ≡ left ++ end.0 ∷ [] = end.1 ∙ ap (λ xs. xs ++ end.0 ∷ []) (sym less) in
          let many : place n ≡ length left = omega (arith, last, ap length apart, length-append left (end.0 ∷ [])) in
          let low : length shared ≤ place n = (fills-up place owns (length shared) ns (place n) fills).0 in
          record {
            gone = end.0 ∷ [];
            apart = apart;
            stand = record {
              begins = λ i x at.
                  sym (get-left left (end.0 ∷ []) i (omega (arith, slice_get_within shared i x at, low, many)))
                  ∙ ap (λ xs. slice_get xs i) (sym apart)
                  ∙ is.begins i x at;
              fills = subst (Fills place owns (length shared) ns) many fills;
            };
          }

-- ---- the nodes

module _ (C : List Call) (R : List Reply) where
  pub length-nodes : (ns : List StoredNode) (ps : List ℕ) → length ps ≡ length ns → length (nodes_of C R ns ps) ≡ length ns
  length-nodes [] ps many = refl
  length-nodes (n ∷ ns) [] many = absurd (omega (arith, many))
  length-nodes (n ∷ ns) (p ∷ ps) many = ap suc (length-nodes ns ps (omega (arith, many)))

  -- one that is looked at
  pub node-look : {X : Type 0} (f : MomentNode → X) (g : StoredNode → X) → ((n : StoredNode) (p : ℕ) → f (node_as C R n p) ≡ g n) → (ns : List StoredNode) (ps : List ℕ) (i : ℕ) → length ps ≡ length ns
      → option_map g (slice_get ns i) ≡ option_map f (slice_get (nodes_of C R ns ps) i)
  node-look f g same [] ps i many = refl
  node-look f g same (n ∷ ns) [] i many = absurd (omega (arith, many))
  node-look f g same (n ∷ ns) (p ∷ ps) zero many = ap Some (sym (same n p))
  node-look f g same (n ∷ ns) (p ∷ ps) (suc i) many = node-look f g same ns ps i (omega (arith, many))

  pub parent-look : (ns : List StoredNode) (ps : List ℕ) (i : ℕ) → length ps ≡ length ns → slice_get ps i ≡ option_map (λ n. n.parent) (slice_get (nodes_of C R ns ps) i)
  parent-look [] [] i many = refl
  parent-look [] (p ∷ ps) i many = absurd (omega (arith, many))
  parent-look (n ∷ ns) [] i many = absurd (omega (arith, many))
  parent-look (n ∷ ns) (p ∷ ps) zero many = refl
  parent-look (n ∷ ns) (p ∷ ps) (suc i) many = parent-look ns ps i (omega (arith, many))

  -- as it is read from the list
  pub node-got : {X : Type 0} (f : MomentNode → X) (g : StoredNode → X) → ((n : StoredNode) (p : ℕ) → f (node_as C R n p) ≡ g n) → (ns xs : List StoredNode) (ps : List ℕ) (list : List MomentNode) (i : ℕ) (r : Option (Bor StoredNode))
      → IsItemAt xs i r → xs ≡ ns → AreStored C R ns ps → nodes_of C R ns ps ≡ list → option_map g (option_copied r) ≡ option_map f (slice_get list i)
  node-got f g same ns xs ps list i r at all are is =
      ap (option_map g) (got xs i r at ∙ ap (λ xs. slice_get xs i) all)
      ∙ node-look f g same ns ps i are.many
      ∙ ap (λ list. option_map f (slice_get list i)) is

  pub parent-got : (ns : List StoredNode) (ps xs : List ℕ) (list : List MomentNode) (i : ℕ) (r : Option (Bor ℕ))
      → IsItemAt xs i r → xs ≡ ps → AreStored C R ns ps → nodes_of C R ns ps ≡ list → option_copied r ≡ option_map (λ n. n.parent) (slice_get list i)
  parent-got ns ps xs list i r at all are is =
      got xs i r at
      ∙ ap (λ xs. slice_get xs i) all
      ∙ parent-look ns ps i are.many
      ∙ ap (λ list. option_map (λ n. n.parent) (slice_get list i)) is

  nodes-push : (ns : List StoredNode) (n : StoredNode) (ps : List ℕ) (p : ℕ) → length ps ≡ length ns → nodes_of C R (ns ++ n ∷ []) (ps ++ p ∷ []) ≡ nodes_of C R ns ps ++ node_as C R n p ∷ []
  nodes-push [] n [] p many = refl
  nodes-push [] n (q ∷ ps) p many = absurd (omega (arith, many))
  nodes-push (m ∷ ns) n [] p many = absurd (omega (arith, many))
  nodes-push (m ∷ ns) n (q ∷ ps) p many = ap (λ rest. node_as C R m q ∷ rest) (nodes-push ns n ps p (omega (arith, many)))

  -- calls and replies that no node has are none of them
  nodes-more : (more : List Call) (others : List Reply) (ns : List StoredNode) (ps : List ℕ) → ((i : ℕ) (n : StoredNode) → slice_get ns i ≡ Some n → (n.call < length C) × (n.reply < length R))
      → nodes_of (C ++ more) (R ++ others) ns ps ≡ nodes_of C R ns ps
  nodes-more more others [] ps within = refl
  nodes-more more others (n ∷ ns) [] within = refl
  nodes-more more others (n ∷ ns) (p ∷ ps) within =
      let here = within zero n refl in
      let call = get_or_append_left C more no_call n.call here.0 in
      let reply = get_or_append_left R others no_reply n.reply here.1 in
      let rest = nodes-more more others ns ps (λ i m at. within (suc i) m at) in
      λ j. record { parent = p; depth = n.depth; process = n.process; call = call j; reply = reply j } ∷ rest j

  pub stored-within : (ns : List StoredNode) (ps : List ℕ) → AreStored C R ns ps → (i : ℕ) (n : StoredNode) → slice_get ns i ≡ Some n → (n.call < length C) × (n.reply < length R)
  stored-within ns ps are i n at = (
    fills-within (λ n. n.call) (λ n. n.owns_call) (length shared_calls) ns (length C) are.calls_stand.fills i n at,
    fills-within (λ n. n.reply) (λ n. n.owns_reply) (length shared_replies) ns (length R) are.replies_stand.fills i n at,
  )

-- the places of one that is read
pub read-within : (C : List Call) (R : List Reply) (ns xs : List StoredNode) (ps : List ℕ) (i : ℕ) (n : Bor StoredNode) → IsItemAt xs i (Some n) → xs ≡ ns → AreStored C R ns ps → (n.now.call < length C) × (n.now.reply < length R)
read-within C R ns xs ps i n at all are = stored-within C R ns ps are i n.now (sym (got xs i (Some n) at ∙ ap (λ xs. slice_get xs i) all))

-- an element that is read, as one with a default is
pub read-any : {X : Type 0} (none : X) (xs : List X) (i : ℕ) (x : X) → i < length xs → x ≡ get_or xs i x → get_or xs i none ≡ x
read-any none xs i x within is = same_Some (get_or xs i none) x (sym (slice_get-get_or xs i none within) ∙ slice_get-get_or xs i x within ∙ ap Some (sym is))

-- there are few of each
pub stored-few : (C : List Call) (R : List Reply) (ns : List StoredNode) (ps : List ℕ) (list : List MomentNode) → AreStored C R ns ps → nodes_of C R ns ps ≡ list → length list < most_moments
    → (length C < four_byte_numbers) × (length R < four_byte_numbers)
stored-few C R ns ps list are is few =
    let size : length ns ≡ length list = sym (length-nodes C R ns ps are.many) ∙ ap length is in (
      omega (arith, few, size, (fills-up (λ n. n.call) (λ n. n.owns_call) (length shared_calls) ns (length C) are.calls_stand.fills).1),
      omega (arith, few, size, (fills-up (λ n. n.reply) (λ n. n.owns_reply) (length shared_replies) ns (length R) are.replies_stand.fills).1),
    )

-- one more
module _ (C longer : List Call) (R wider : List Reply) (ns nodes : List StoredNode) (ps parents : List ℕ) (are : AreStored C R ns ps) (n : StoredNode) (p : ℕ) (call : Call) (reply : Reply)
    (c : IsPut no_call C longer call n.call n.owns_call) (r : IsPut no_reply R wider reply n.reply n.owns_reply)
    (pushed : nodes ≡ ns ++ n ∷ []) (added : parents ≡ ps ++ p ∷ []) where
  pub stored-pushed : (process : ℕ) (list : List MomentNode) → n.process ≡ process → nodes_of C R ns ps ≡ list
      → nodes_of longer wider nodes parents ≡ list ++ record { parent = p; depth = n.depth; process = process; call = call; reply = reply } ∷ []
  stored-pushed process list same is =
      (λ j. nodes_of longer wider (pushed j) (added j))
      ∙ nodes-push longer wider ns n ps p are.many
      ∙ (λ j. nodes_of (c.grown j) (r.grown j) ns ps ++ record { parent = p; depth = n.depth; process = same j; call = c.there j; reply = r.there j } ∷ [])
      ∙ ap (λ nodes. nodes ++ record { parent = p; depth = n.depth; process = process; call = call; reply = reply } ∷ []) (nodes-more C R c.more r.more ns ps (stored-within C R ns ps are) ∙ is)

  pub stored-push : AreStored longer wider nodes parents
  stored-push = subst (AreStored longer wider nodes) (sym added) (subst (λ nodes. AreStored longer wider nodes (ps ++ p ∷ [])) (sym pushed) (record {
    many = omega (arith, are.many, length-append ns (n ∷ []), length-append ps (p ∷ []));
    calls_stand = filled-put (λ n. n.call) (λ n. n.owns_call) shared_calls ns n no_call C longer call are.calls_stand c;
    replies_stand = filled-put (λ n. n.reply) (λ n. n.owns_reply) shared_replies ns n no_reply R wider reply are.replies_stand r;
  }))

-- one less
pub record IsShorter (C fewer : List Call) (R less : List Reply) (ns left : List StoredNode) (ps others : List ℕ) : Type 0 where
  pub list : nodes_of fewer less left others ≡ without_last (nodes_of C R ns ps)
  pub stand : AreStored fewer less left others

pub stored-pop : (C fewer : List Call) (R less : List Reply) (ns left : List StoredNode) (n : StoredNode) (ps others : List ℕ) (k : ℕ) → AreStored C R ns ps → ns ≡ left ++ n ∷ [] → others ≡ take k ps → k ≡ length ps - 1
    → IsCut n.owns_call C fewer → IsCut n.owns_reply R less → IsShorter C fewer R less ns left ps others
stored-pop C fewer R less ns left n ps others k are apart front last c r = record {
  list =
      sym (nodes-more fewer less calls.gone replies.gone left others (stored-within fewer less left others stand))
      ∙ (λ j. nodes_of (sym calls.apart j) (sym replies.apart j) left others)
      ∙ sym (without_last-push (nodes_of C R left others) (node_as C R n end.0))
      ∙ ap without_last (sym (nodes-push C R left n others end.0 many) ∙ (λ j. nodes_of C R (sym apart j) (sym parted j)));
  stand = stand;
}
  where
    size : length ns ≡ length left + 1
    size = ap length apart ∙ omega (arith, length-append left (n ∷ []))

    rest : others ≡ without_last ps
    rest = front ∙ ap (λ k. take k ps) last

    end : (p : ℕ) × (ps ≡ without_last ps ++ p ∷ [])
    end = last_apart ps (omega (arith, size, are.many))

    parted : ps ≡ others ++ end.0 ∷ []
    parted = end.1 ∙ ap (λ xs. xs ++ end.0 ∷ []) (sym rest)

    many : length others ≡ length left
    many = omega (arith, size, are.many, ap length parted, length-append others (end.0 ∷ []))

    calls : IsLeft (λ n. n.call) (λ n. n.owns_call) shared_calls left n C fewer
    calls = filled-cut (λ n. n.call) (λ n. n.owns_call) shared_calls left n C fewer (subst (λ ns. IsFilled (λ n. n.call) (λ n. n.owns_call) shared_calls ns C) apart are.calls_stand) c

    replies : IsLeft (λ n. n.reply) (λ n. n.owns_reply) shared_replies left n R less
    replies = filled-cut (λ n. n.reply) (λ n. n.owns_reply) shared_replies left n R less (subst (λ ns. IsFilled (λ n. n.reply) (λ n. n.owns_reply) shared_replies ns R) apart are.replies_stand) r

    stand : AreStored fewer less left others
    stand = record { many = many; calls_stand = calls.stand; replies_stand = replies.stand }
