-- Moments with the lists of their shortcuts and of their records: one more and one less.
use Rattle.std.proofs.Common.{◌≡◌, ℕ, suc, ◌+◌, ◌-◌, ◌≤◌, ◌<◌, List, [], ◌∷◌, ◌++◌, length, set, take, Option, Some, None, inl, inr, refl, sym, ◌∙◌, ap, subst, arith, Bor}
use Rattle.std.specs.Prelude.{Bool, slice_get, IfSome}
use Rattle.std.specs.Option.{option_copied}
use Rattle.std.specs.Slice.{IsItemAt}
use Rattle.std.proofs.lemmas.Bool.{cases_lt}
use Rattle.std.proofs.lemmas.List.{length-append, length-set, length-take, append-nil}
use Rattle.std.proofs.lemmas.Option.{none-some, same_Some, slice_get_past, slice_get_within}
use Rattle.zt_rows.proofs.ChangeLaws.{Rows}
use Rattle.zt_history.specs.declared.moments.Shortcut.{Shortcut}
use Rattle.zt_history.specs.HistoryRefusals.{most_moments}
use Rattle.zt_history.specs.Tree.{Made, parent_of, parent_at, path}
use Rattle.zt_history.specs.TreeInvariant.{Falls}
use Rattle.zt_history.specs.ProofsOnly.Branches.{without_last}
use Rattle.zt_history.specs.ProofsOnly.Forks.{IsAbove, IsRunBeyond, IsShortcut, AreShortcuts}
use Rattle.zt_history.specs.ProofsOnly.MomentNodes.{Chronicle, AreNodes, AreListed, made_as, made_in}
use Rattle.zt_history.specs.ProofsOnly.StoredNodes.{MomentNode}
use Rattle.zt_history.proofs.ForkLaws.{above-above, above-early, above-opening, above-parent, above-self}
use Rattle.zt_history.proofs.ListLaws.{get-left, get-last, place}
use Rattle.zt_history.proofs.MoreLaws.{falls-push, path-more}
use Rattle.zt_history.proofs.TreeLaws.{last_apart}
use Rattle.zt_history.proofs.NodeLaws.{got, length-made_in, made_in-more, nodes-left, nodes-pushed, seen}

-- ---- shortcuts while moments are made or dropped

module _ (made more : List Made) (falls : Falls made) (up moment : ℕ) (earlier : up ≤ length made) (there : moment ≤ length made) where
  above-more : IsAbove made up moment → IsAbove (made ++ more) up moment
  above-more is = record {
    begins =
        path-more made more falls up earlier
        ∙ is.begins
        ∙ (λ i. take (length (sym (path-more made more falls up earlier) i)) (sym (path-more made more falls moment there) i));
  }

  above-fewer : IsAbove (made ++ more) up moment → IsAbove made up moment
  above-fewer is = record {
    begins =
        sym (path-more made more falls up earlier)
        ∙ is.begins
        ∙ (λ i. take (length (path-more made more falls up earlier i)) (path-more made more falls moment there i));
  }

module _ (made more : List Made) (falls : Falls made) (s : Shortcut) (moment : ℕ) (there : moment ≤ length made) where
  shortcut-more : IsShortcut made s moment → IsShortcut (made ++ more) s moment
  shortcut-more is = record {
    jump = record {
      earlier = is.jump.earlier;
      above = above-more made more falls s.jump moment (omega (arith, is.jump.earlier, there)) there is.jump.above;
    };
    run = record {
      within = is.run.within;
      above = λ m later early. above-more made more falls m moment (omega (arith, early, there)) there (is.run.above m later early);
    };
  }

  shortcut-fewer : IsShortcut (made ++ more) s moment → IsShortcut made s moment
  shortcut-fewer is = record {
    jump = record {
      earlier = is.jump.earlier;
      above = above-fewer made more falls s.jump moment (omega (arith, is.jump.earlier, there)) there is.jump.above;
    };
    run = record {
      within = is.run.within;
      above = λ m later early. above-fewer made more falls m moment (omega (arith, early, there)) there (is.run.above m later early);
    };
  }

shortcuts-fewer : (made more : List Made) → Falls made → (shortcuts fewer gone : List Shortcut) → shortcuts ≡ fewer ++ gone → length fewer ≡ length made → AreShortcuts (made ++ more) shortcuts → AreShortcuts made fewer
shortcuts-fewer made more falls shortcuts fewer gone apart many are i s at =
    let within : i < length fewer = slice_get_within fewer i s at in
    shortcut-fewer made more falls s (suc i) (omega (arith, within, many)) (are i s (ap (λ xs. slice_get xs i) apart ∙ get-left fewer gone i within ∙ at))

-- one more, whose jump leads to its parent or to a moment above that
shortcuts-push : (made : List Made) (e : Made) → Falls made → (shortcuts : List Shortcut) (s : Shortcut) → length shortcuts ≡ length made → e.parent ≤ length made → IsAbove made s.jump e.parent
    → IsRunBeyond made s.first e.parent → AreShortcuts made shortcuts → AreShortcuts (made ++ e ∷ []) (shortcuts ++ s ∷ [])
shortcuts-push made e falls shortcuts s many there above run are i t at =
    elim (place shortcuts s i) [
      | inl within ↦
          shortcut-more made (e ∷ []) falls t (suc i) (omega (arith, within, many)) (are i t (sym (get-left shortcuts (s ∷ []) i within) ∙ at))
      | inr r ↦ elim r [
        | inl end ↦
            let is : s ≡ t = same_Some s t (sym (get-last shortcuts s i end) ∙ at) in
            let last : length made ≡ i = omega (arith, end, many) in
            subst (λ t. IsShortcut (made ++ e ∷ []) t (suc i)) is (subst (λ i. IsShortcut (made ++ e ∷ []) s (suc i)) last newest)
        | inr past ↦ absurd (none-some t (sym (slice_get_past (shortcuts ++ s ∷ []) i past) ∙ at))
      ]
    ]
  where
    longer : List Made
    longer = made ++ e ∷ []

    early : s.jump ≤ e.parent
    early = above-early made falls s.jump e.parent above

    parent : parent_at longer (suc (length made)) ≡ e.parent
    parent = ap parent_of (get-last made e (length made) refl)

    -- what is above the parent is above the moment
    over : (m : ℕ) → m ≤ length made → IsAbove made m e.parent → IsAbove longer m (suc (length made))
    over m low is =
        above-above longer m e.parent (suc (length made)) (above-more made (e ∷ []) falls m e.parent low there is)
        (subst (λ p. IsAbove longer p (suc (length made))) parent (above-parent longer (falls-push made e falls there) (suc (length made))))

    newest : IsShortcut longer s (suc (length made))
    newest = record {
      jump = record {
        earlier = omega (arith, early, there);
        above = over s.jump (omega (arith, early, there)) above;
      };
      run = record {
        within = run.within;
        above = λ m later low. elim (cases_lt m (suc (length made))) [
          | inl less ↦ over m (omega (arith, less)) (run.above m later (omega (arith, less)))
          | inr most ↦
              let is : suc (length made) ≡ m = omega (arith, most, low) in
              subst (λ m. IsAbove longer m (suc (length made))) is (above-self longer (suc (length made)))
        ];
      };
    }

-- a moment that has no other: its jump leads to the opening, and its run is itself
pub shortcut-alone : (made : List Made) (s : Shortcut) (m : ℕ) → s.jump ≡ 0 → s.first ≡ m → IsShortcut made s m
shortcut-alone made s m jump first = record {
  jump = record {
    earlier = omega (arith, jump);
    above = subst (λ up. IsAbove made up m) (sym jump) (above-opening made m);
  };
  run = record {
    within = omega (arith, first);
    above = λ k later low. subst (λ k. IsAbove made k m) (omega (arith, first, later, low)) (above-self made m);
  };
}

-- the shortcut of a moment, as it is read from the list of the shortcuts
pub shortcut-listed : {room : Bool} (nodes : List MomentNode) (records : List Rows) (shortcuts xs : List Shortcut) (h : Chronicle) (i m : ℕ) (r : Option (Bor Shortcut)) → IsItemAt xs i r → xs ≡ shortcuts
    → AreShortcuts (made_in nodes) shortcuts → seen nodes records room ≡ h → m ≡ suc i → IfSome r (λ s. IsShortcut h.made s.now m)
shortcut-listed nodes records shortcuts xs h i m r at all are is place = by r (got xs i r at ∙ ap (λ xs. slice_get xs i) all)
  where
    by : (r : Option (Bor Shortcut)) → option_copied r ≡ slice_get shortcuts i → IfSome r (λ s. IsShortcut h.made s.now m)
    by None e = tt
    by (Some s) e = subst (IsShortcut h.made s.now) (sym place) (subst (λ (h : Chronicle). IsShortcut h.made s.now (suc i)) is (are i s.now (sym e)))

-- ---- nodes with all lists

pub listed-left : (nodes fewer : List MomentNode) (shortcuts held gone : List Shortcut) (records kept : List Rows) (q r : ℕ)
    → fewer ≡ without_last nodes → shortcuts ≡ held ++ gone → held ≡ take q shortcuts → q ≡ length nodes - 1 → kept ≡ take r records → r ≡ length nodes - 1
    → AreListed nodes shortcuts records → AreListed fewer held kept
listed-left nodes fewer shortcuts held gone records kept q r first parted leaps few rows still are = elim (cases_lt 0 (length nodes)) [
  | inl some ↦ by (last_apart nodes some)
  | inr none ↦ same none
]
  where
    size : length fewer ≡ length nodes - 1
    size = ap length first ∙ omega (arith, length-take (length nodes - 1) nodes)

    many : length held ≡ length fewer
    many = omega (arith, ap length leaps, length-take q shortcuts, size, few, are.many)

    recorded : length kept ≡ length fewer
    recorded = omega (arith, ap length rows, length-take r records, size, still, are.recorded)

    whole : (more : List MomentNode) → nodes ≡ fewer ++ more → AreListed fewer held kept
    whole more apart =
        let stand : AreNodes fewer = nodes-left fewer more (subst AreNodes apart are.stand) in
        record {
          stand = stand;
          many = many;
          ways =
              shortcuts-fewer (made_in fewer) (made_in more) stand.falls shortcuts held gone parted (omega (arith, many, length-made_in fewer))
              (subst (λ made. AreShortcuts made shortcuts) (ap made_in apart ∙ made_in-more fewer more) are.ways);
          recorded = recorded;
        }

    by : (n : MomentNode) × (nodes ≡ without_last nodes ++ n ∷ []) → AreListed fewer held kept
    by last = whole (last.0 ∷ []) (last.1 ∙ ap (λ xs. xs ++ last.0 ∷ []) (sym first))

    same : length nodes ≤ 0 → AreListed fewer held kept
    same none = whole [] (empty nodes none ∙ sym (append-nil fewer ∙ empty fewer (omega (arith, size, none))))
      where
        empty : {A : Type 0} (xs : List A) → length xs ≤ 0 → xs ≡ []
        empty [] h = refl
        empty (x ∷ xs) h = absurd (omega (arith, h))

-- another record in the place of one
pub listed-set : (nodes : List MomentNode) (shortcuts : List Shortcut) (records : List Rows) (i : ℕ) (R : Rows)
    → AreListed nodes shortcuts records → AreListed nodes shortcuts (set records i R)
listed-set nodes shortcuts records i R are = record {
  stand = are.stand;
  many = are.many;
  ways = are.ways;
  recorded = length-set records i R ∙ are.recorded;
}

-- the record of a moment is there
pub listed-within : {room : Bool} (nodes : List MomentNode) (shortcuts : List Shortcut) (records : List Rows) (h : Chronicle) (i m : ℕ) → seen nodes records room ≡ h
    → i ≡ m - 1 → 0 < m → m ≤ length h.made → AreListed nodes shortcuts records → i < length records
listed-within nodes shortcuts records h i m is place some there are =
    omega (arith, place, some, there, ap (λ (h : Chronicle). length h.made) is, length-made_in nodes, are.recorded)

-- a moment more, with its shortcut and its record, where room was made first
module _ {room : Bool} (nodes middle new : List MomentNode) (n : MomentNode) (shortcuts spare leaps : List Shortcut) (s : Shortcut)
    (records space rows : List Rows) (R : Rows) (h : Chronicle)
    (pushed : new ≡ middle ++ n ∷ []) (kept : middle ≡ nodes)
    (leapt : leaps ≡ spare ++ s ∷ []) (spared : spare ≡ shortcuts) (wrote : rows ≡ space ++ R ∷ []) (stood : space ≡ records)
    (is : seen nodes records room ≡ h) where
  pub listed-pushed : n.parent ≤ length h.made → n.depth ≡ length (path h.made n.parent) + 1 → IsAbove h.made s.jump n.parent → IsRunBeyond h.made s.first n.parent
      → length h.made < most_moments → AreListed nodes shortcuts records → AreListed new leaps rows
  listed-pushed there deep above run few are = record {
    stand = nodes-pushed nodes middle new records n h pushed kept is there deep few are.stand;
    many = ap length leaps_are ∙ omega (arith, length-append shortcuts (s ∷ []), are.many, more);
    ways =
        subst (λ made. AreShortcuts made leaps) (sym (ap made_in all ∙ made_in-more nodes (n ∷ [])))
        (subst (AreShortcuts (made_in nodes ++ made_as n ∷ [])) (sym leaps_are)
        (shortcuts-push (made_in nodes) (made_as n) are.stand.falls shortcuts s (omega (arith, are.many, length-made_in nodes)) (omega (arith, there, ap length made))
        (subst (λ made. IsAbove made s.jump n.parent) (sym made) above) (subst (λ made. IsRunBeyond made s.first n.parent) (sym made) run) are.ways));
    recorded = ap length (wrote ∙ ap (λ xs. xs ++ R ∷ []) stood) ∙ omega (arith, length-append records (R ∷ []), are.recorded, more);
  }
    where
      all : new ≡ nodes ++ n ∷ []
      all = pushed ∙ ap (λ xs. xs ++ n ∷ []) kept

      more : length new ≡ length nodes + 1
      more = ap length all ∙ omega (arith, length-append nodes (n ∷ []))

      leaps_are : leaps ≡ shortcuts ++ s ∷ []
      leaps_are = leapt ∙ ap (λ xs. xs ++ s ∷ []) spared

      made : made_in nodes ≡ h.made
      made = ap (λ (h : Chronicle). h.made) is
