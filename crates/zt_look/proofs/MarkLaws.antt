-- Marks on the way up from a head: what was gone over leads to no earlier branch, and what is met first to the branch that is
-- left.
use Rattle.std.proofs.Common.{◌≡◌, ℕ, zero, suc, ◌+◌, ◌≤◌, ◌<◌, Bool, true, false, not, cond, ◌&&◌, ◌||◌, List, [], ◌∷◌, ◌++◌, length, map, get_or, set, take, position, replicate, Option, Some, None, is_some, refl, sym, ◌∙◌, ap, subst, inl, inr, arith}
use Rattle.std.specs.Prelude.{slice_get, ◌==◌}
use Rattle.std.specs.List.{filter_map, last_or, position_from, range_with_len}
use Rattle.std.specs.Option.{option_map}
use Rattle.std.proofs.lemmas.Bool.{true≢false, ne_eqb, cases_eq}
use Rattle.std.proofs.lemmas.List.{append-nil, get_or-replicate, length-replicate, length-set, length-take, take_more}
use Rattle.std.proofs.lemmas.List.Elements.{filter_map-append}
use Rattle.std.proofs.lemmas.List.FromFn.{map-range_with_len_more}
use Rattle.std.proofs.lemmas.Iterator.Adapters.{position_from-zero}
use Rattle.std.proofs.lemmas.Option.{slice_get-get_or, same_Some, none-some, slice_get_within, get_or_from_slice_get}
use Rattle.zt_rows.specs.Tests.{among}
use Rattle.zt_history.specs.Tree.{Made, Branch, Tree, branch_head, head_at, parent_at, path}
use Rattle.zt_history.specs.TreeInvariant.{Falls}
use Rattle.zt_history.proofs.ListLaws.{get-set_same, get-set_other, get-within}
use Rattle.zt_history.proofs.PathLaws.{path-opening, path-step, among-self, among-other, among-parent, by_parents}
use Rattle.zt_queries.specs.LaterMoments.{leads_to}
use Rattle.zt_look.specs.declared.branch_list.BranchLook.{BranchLook}
use Rattle.zt_look.specs.BranchList.{branch_look, first_branch, met, leaving}
use Rattle.zt_look.specs.ProofsOnly.BranchMarks.{AreMarks, AreMarksDownTo, is_passed, marked}

-- ---- the first of a list that passes

-- this one, or else the one behind the others, if it passes
abbrev pub first_or : Option ℕ → Bool → ℕ → Option ℕ
first_or (Some j) b n = Some j
first_or None b n = cond b (Some n) None

module _ {A : Type 0} (test : A → Bool) where
  from-push : (i : ℕ) (xs : List A) (y : A) → position_from test i (xs ++ y ∷ []) ≡ first_or (position_from test i xs) (test y) (i + length xs)
  from-push i [] y = ap (λ n. cond (test y) (Some n) None) (omega arith)
  from-push i (x ∷ xs) y = by (from-push (i + 1) xs y) (test x)
    where
      by : position_from test (i + 1) (xs ++ y ∷ []) ≡ first_or (position_from test (i + 1) xs) (test y) (i + 1 + length xs) → (b : Bool) → cond b (Some i) (position_from test (i + 1) (xs ++ y ∷ [])) ≡ first_or (cond b (Some i) (position_from test (i + 1) xs)) (test y) (i + suc (length xs))
      by rest true = refl
      by rest false = rest ∙ ap (first_or (position_from test (i + 1) xs) (test y)) (omega arith)

  first-push : (xs : List A) (y : A) → position test (xs ++ y ∷ []) ≡ first_or (position test xs) (test y) (length xs)
  first-push xs y =
      position_from-zero test (xs ++ y ∷ [])
      ∙ from-push 0 xs y
      ∙ ap (first_or (position_from test 0 xs) (test y)) (omega arith)
      ∙ ap (λ o. first_or o (test y) (length xs)) (sym (position_from-zero test xs))

-- where each that passes the one test passes the other, and one passes the one, one passes the other
from-wider : {A : Type 0} (p q : A → Bool) → ((x : A) → p x ≡ true → q x ≡ true) → (i : ℕ) (xs : List A) → is_some (position_from p i xs) ≡ true → is_some (position_from q i xs) ≡ true
from-wider p q wider i [] h = h
from-wider p q wider i (x ∷ xs) h = by (from-wider p q wider (i + 1) xs) (p x) (q x) refl refl
  where
    by : (is_some (position_from p (i + 1) xs) ≡ true → is_some (position_from q (i + 1) xs) ≡ true) → (b c : Bool) → p x ≡ b → q x ≡ c → is_some (cond (q x) (Some i) (position_from q (i + 1) xs)) ≡ true
    by rest b true e f = ap (λ c. is_some (cond c (Some i) (position_from q (i + 1) xs))) f
    by rest true false e f = absurd (true≢false (sym (wider x e) ∙ f))
    by rest false false e f =
        ap (λ c. is_some (cond c (Some i) (position_from q (i + 1) xs))) f
        ∙ rest (ap (λ c. is_some (cond c (Some i) (position_from p (i + 1) xs))) (sym e) ∙ h)

wider : {A : Type 0} (p q : A → Bool) → ((x : A) → p x ≡ true → q x ≡ true) → (xs : List A) → is_some (position p xs) ≡ true → is_some (position q xs) ≡ true
wider p q more xs h = ap is_some (position_from-zero q xs) ∙ from-wider p q more 0 xs (ap is_some (sym (position_from-zero p xs)) ∙ h)

-- ---- to which moments one leads

or_true : (b : Bool) → (b || true) ≡ true
or_true true = refl
or_true false = refl

and_not : (b : Bool) → (b && not b) ≡ false
and_not true = refl
and_not false = refl

module _ (made : List Made) (falls : Falls made) where
  pub leads-opening : (n : ℕ) → leads_to made 0 n ≡ true
  leads-opening n = refl

  pub leads-self : (n : ℕ) → leads_to made n n ≡ true
  leads-self zero = refl
  leads-self (suc i) = ap (λ b. (0 == suc i) || b) (among-self made falls i) ∙ or_true (0 == suc i)

  pub leads-other : (i x : ℕ) → (x ≡ suc i → ⊥) → leads_to made x (suc i) ≡ leads_to made x (parent_at made (suc i))
  leads-other i x other = ap (λ b. (0 == x) || b) (among-other made falls i x other)

  pub leads-parent : (i : ℕ) → leads_to made (suc i) (parent_at made (suc i)) ≡ false
  leads-parent i = ap (λ b. b || among (path made (parent_at made (suc i))) (suc i)) (ne_eqb 0 (suc i) (λ e. omega (arith, e))) ∙ among-parent made falls i

  pub leads-up : (i x : ℕ) → leads_to made x (parent_at made (suc i)) ≡ true → leads_to made x (suc i) ≡ true
  leads-up i x h = elim (cases_eq x (suc i)) [ inl e ↦ subst (λ y. leads_to made y (suc i) ≡ true) (sym e) (leads-self (suc i)) | inr n ↦ leads-other i x n ∙ h ]

  -- what leads to a moment leads to where that one leads
  pub leads-on : (x m : ℕ) → leads_to made x m ≡ true → (n : ℕ) → leads_to made m n ≡ true → leads_to made x n ≡ true
  leads-on x m h = by_parents made falls (λ n. leads_to made m n ≡ true → leads_to made x n ≡ true) base step
    where
      at : (k : ℕ) → m ≡ k → leads_to made x k ≡ true
      at k e = subst (λ k. leads_to made x k ≡ true) e h

      base : leads_to made m 0 ≡ true → leads_to made x 0 ≡ true
      base g = elim (cases_eq m 0) [
        | inl e ↦ at 0 e
        | inr n ↦ absurd (true≢false (sym g ∙ ap (λ b. b || among (path made 0) m) (ne_eqb 0 m (λ e. n (sym e))) ∙ ap (λ p. among p m) (path-opening made)))
      ]

      step : (i : ℕ) → (leads_to made m (parent_at made (suc i)) ≡ true → leads_to made x (parent_at made (suc i)) ≡ true) → leads_to made m (suc i) ≡ true → leads_to made x (suc i) ≡ true
      step i rest g = elim (cases_eq m (suc i)) [ inl e ↦ at (suc i) e | inr n ↦ leads-up i x (rest (sym (leads-other i m n) ∙ g)) ]

  -- ---- where it leaves the earlier branches

  last_or-push : {A : Type 0} (o : Option A) (xs : List A) (y : A) → last_or o (xs ++ y ∷ []) ≡ Some y
  last_or-push o [] y = refl
  last_or-push o (x ∷ xs) y = last_or-push (Some x) xs y

  leaves-step : (earlier : List Branch) (i : ℕ) → leaving made earlier (suc i) ≡ last_or None (filter_map (met made earlier) (0 ∷ path made (parent_at made (suc i))) ++ filter_map (met made earlier) (suc i ∷ []))
  leaves-step earlier i =
      ap (λ p. last_or None (filter_map (met made earlier) (0 ∷ p))) (path-step made falls i)
      ∙ ap (last_or None) (filter_map-append (met made earlier) (0 ∷ path made (parent_at made (suc i))) (suc i ∷ []))

  leaves-opening : (earlier : List Branch) → leaving made earlier 0 ≡ met made earlier 0
  leaves-opening earlier = ap (λ p. last_or None (filter_map (met made earlier) (0 ∷ p))) (path-opening made) ∙ one (met made earlier 0)
    where
      one : {A : Type 0} (o : Option A) → last_or None (filter_map (λ (x : ℕ). o) (0 ∷ [])) ≡ o
      one (Some y) = refl
      one None = refl

  pub leaves-met : (earlier : List Branch) (m j : ℕ) → first_branch made earlier m ≡ Some j → leaving made earlier m ≡ Some (j, m)
  leaves-met earlier zero j e = leaves-opening earlier ∙ ap (option_map (λ j. (j, 0))) e
  leaves-met earlier (suc i) j e =
      let front : List (ℕ × ℕ) = filter_map (met made earlier) (0 ∷ path made (parent_at made (suc i))) in
      leaves-step earlier i
      ∙ ap (λ o. last_or None (front ++ filter_map (λ (x : ℕ). option_map (λ (j : ℕ). (j, suc i)) o) (suc i ∷ []))) e
      ∙ last_or-push None front (j, suc i)

  pub leaves-on : (earlier : List Branch) (i : ℕ) → first_branch made earlier (suc i) ≡ None → leaving made earlier (suc i) ≡ leaving made earlier (parent_at made (suc i))
  leaves-on earlier i e =
      let front : List (ℕ × ℕ) = filter_map (met made earlier) (0 ∷ path made (parent_at made (suc i))) in
      leaves-step earlier i
      ∙ ap (λ o. last_or None (front ++ filter_map (λ (x : ℕ). option_map (λ (j : ℕ). (j, suc i)) o) (suc i ∷ []))) e
      ∙ ap (last_or None) (append-nil front)

  pub leaves-none : (earlier : List Branch) → first_branch made earlier 0 ≡ None → leaving made earlier 0 ≡ None
  leaves-none earlier e = leaves-opening earlier ∙ ap (option_map (λ j. (j, 0))) e

  -- ---- marks

  pub no-mark : (marks : List (Option ℕ)) (k : ℕ) (o : Option ℕ) → o ≡ get_or marks k o → is_some o ≡ false → get_or marks k None ≡ None
  no-mark marks k None read none = sym read
  no-mark marks k (Some j) read none = absurd (true≢false none)

  pub some-mark : (marks : List (Option ℕ)) (k : ℕ) (o : Option ℕ) → k < length marks → o ≡ get_or marks k o → is_some o ≡ true → is_some (get_or marks k None) ≡ true
  some-mark marks k o inside read some = ap is_some (get_or-default marks k None o inside ∙ sym read) ∙ some
    where
      get_or-default : (xs : List (Option ℕ)) (i : ℕ) (a b : Option ℕ) → i < length xs → get_or xs i a ≡ get_or xs i b
      get_or-default xs i a b h = same_Some (get_or xs i a) (get_or xs i b) (sym (slice_get-get_or xs i a h) ∙ slice_get-get_or xs i b h)

  pub no-marks : (n : ℕ) (marks : List (Option ℕ)) (bs : List Branch) → n ≡ length made + 1 → marks ≡ replicate n None → AreMarks made (take 0 bs) marks
  no-marks n marks bs size e x h =
      let inside : x < n = omega (arith, h, size) in
      let none : Option ℕ = None in
      ap (λ l. slice_get l x) e
      ∙ slice_get-get_or (replicate n None) x None (omega (arith, inside, length-replicate n none))
      ∙ ap Some (get_or-replicate n x None None inside)

  module _ (earlier next : List Branch) (head id : ℕ) (more : (x : ℕ) → first_branch made next x ≡ first_or (first_branch made earlier x) (leads_to made x head) id) where
    -- by passed or not
    abbrev either : Bool → List Branch
    either b = cond b next earlier

    pub marks-begin : (marks : List (Option ℕ)) (m : ℕ) → m ≡ head → m ≤ length made → AreMarks made earlier marks → AreMarksDownTo made earlier next head m marks
    marks-begin marks m e there are = subst (λ m. AreMarksDownTo made earlier next head m marks) (sym e) (record {
      each = λ x h. are x h ∙ ap (λ b. Some (first_branch made (cond b next earlier) x)) (sym (and_not (leads_to made x head)));
      above = λ x h. h;
      left = refl;
      there = omega (arith, there, e);
    })

    -- what has no mark leads to no earlier branch
    unmarked : (marks : List (Option ℕ)) (m : ℕ) (o : Option ℕ) → AreMarksDownTo made earlier next head m marks → get_or marks m None ≡ o → first_branch made earlier m ≡ o
    unmarked marks m o down e =
        let self : is_passed made head m m ≡ false = ap (λ b. leads_to made m head && not b) (leads-self m) ∙ off (leads_to made m head) in
        let here : slice_get marks m ≡ Some (first_branch made earlier m) = down.each m down.there ∙ ap (λ b. Some (first_branch made (cond b next earlier) m)) self in
        sym (at marks m (first_branch made earlier m) here) ∙ e
      where
        off : (b : Bool) → (b && false) ≡ false
        off true = refl
        off false = refl

        at : (xs : List (Option ℕ)) (i : ℕ) (o : Option ℕ) → slice_get xs i ≡ Some o → get_or xs i None ≡ o
        at [] i o e = absurd (none-some o e)
        at (x ∷ xs) zero o e = same_Some x o e
        at (x ∷ xs) (suc i) o e = at xs i o e

    -- one moment further up
    pub marks-up : (marks new : List (Option ℕ)) (m : ℕ) → length marks ≡ length made + 1 → 0 < m → AreMarksDownTo made earlier next head m marks → get_or marks m None ≡ None
        → new ≡ set marks m (Some id) → AreMarksDownTo made earlier next head (parent_at made m) new
    marks-up marks new zero size later down none put = absurd (omega (arith, later))
    marks-up marks new (suc i) size later down none put =
        let free : first_branch made earlier (suc i) ≡ None = unmarked marks (suc i) None down none in
        let up : ℕ = parent_at made (suc i) in
        record {
          each = λ x h. elim (cases_eq x (suc i)) [
            | inl e ↦ subst (λ y. slice_get new y ≡ Some (first_branch made (either (is_passed made head up y)) y)) (sym e) (here free)
            | inr n ↦
                ap (λ l. slice_get l x) put
                ∙ get-set_other marks (suc i) x (Some id) n
                ∙ down.each x h
                ∙ ap (λ b. Some (first_branch made (either (leads_to made x head && not b)) x)) (leads-other i x n)
          ];
          above = λ x h. down.above x (leads-up i x h);
          left = down.left ∙ leaves-on earlier i free;
          there = omega (arith, falls i, down.there);
        }
      where
        here : first_branch made earlier (suc i) ≡ None → slice_get new (suc i) ≡ Some (first_branch made (either (is_passed made head (parent_at made (suc i)) (suc i))) (suc i))
        here free =
            let top : leads_to made (suc i) head ≡ true = down.above (suc i) (leads-self (suc i)) in
            let over : is_passed made head (parent_at made (suc i)) (suc i) ≡ true = ap (λ b. b && not (leads_to made (suc i) (parent_at made (suc i)))) top ∙ ap not (leads-parent i) in
            let one : first_branch made next (suc i) ≡ Some id = more (suc i) ∙ ap (λ o. first_or o (leads_to made (suc i) head) id) free ∙ ap (λ b. cond b (Some id) None) top in
            ap (λ l. slice_get l (suc i)) put
            ∙ get-set_same marks (suc i) (Some id) (omega (arith, down.there, size))
            ∙ ap Some (sym (ap (λ b. first_branch made (either b) (suc i)) over ∙ one))

    pub line-up : (marks new : List (Option ℕ)) (m k p : ℕ) (o : Option ℕ) → length marks ≡ length made + 1 → k ≡ m → p ≡ parent_at made m → 0 < m
        → AreMarksDownTo made earlier next head m marks → o ≡ get_or marks k o → is_some o ≡ false → new ≡ set marks k (Some id) → AreMarksDownTo made earlier next head p new
    line-up marks new m k p o size same up later down read none put =
        subst (λ p. AreMarksDownTo made earlier next head p new) (sym up)
        (marks-up marks new m size later down (ap (λ n. get_or marks n None) (sym same) ∙ no-mark marks k o read none) (put ∙ ap (λ n. set marks n (Some id)) same))

    -- what is earlier than the new branch stays first
    still : (x j : ℕ) → first_branch made earlier x ≡ Some j → first_branch made next x ≡ first_branch made earlier x
    still x j e = more x ∙ ap (λ o. first_or o (leads_to made x head) id) e ∙ sym e

    apart : (x : ℕ) → leads_to made x head ≡ false → first_branch made next x ≡ first_branch made earlier x
    apart x e = more x ∙ ap (λ b. first_or (first_branch made earlier x) b id) e ∙ same (first_branch made earlier x)
      where
        same : (o : Option ℕ) → first_or o false id ≡ o
        same (Some j) = refl
        same None = refl

    some_number : (o : Option ℕ) → is_some o ≡ true → (j : ℕ) × (o ≡ Some j)
    some_number (Some j) h = (j, refl)
    some_number None h = absurd (true≢false (sym h))

    pub marks-met : (marks : List (Option ℕ)) (m j : ℕ) → AreMarksDownTo made earlier next head m marks → get_or marks m None ≡ Some j → AreMarks made next marks
    marks-met marks m j down found x h = by (leads_to made x head) (leads_to made x m) refl refl
      where
        is : first_branch made earlier m ≡ Some j
        is = unmarked marks m (Some j) down found

        by : (b c : Bool) → leads_to made x head ≡ b → leads_to made x m ≡ c → slice_get marks x ≡ Some (first_branch made next x)
        by true false e f = down.each x h ∙ ap (λ b. Some (first_branch made (either (b && not (leads_to made x m))) x)) e ∙ ap (λ c. Some (first_branch made (either (not c)) x)) f
        by true true e f =
            let there = some_number (first_branch made earlier x)
            (wider (λ (b : Branch). leads_to made m b.head) (λ (b : Branch). leads_to made x b.head) (λ b g. leads-on x m f b.head g) earlier (ap is_some is)) in
            down.each x h
            ∙ ap (λ b. Some (first_branch made (either (b && not (leads_to made x m))) x)) e
            ∙ ap (λ c. Some (first_branch made (either (not c)) x)) f
            ∙ ap Some (sym (still x there.0 there.1))
        by false c e f =
            down.each x h
            ∙ ap (λ b. Some (first_branch made (either (b && not (leads_to made x m))) x)) e
            ∙ ap Some (sym (apart x e))

    pub marks-opening : (marks new : List (Option ℕ)) → length marks ≡ length made + 1 → AreMarksDownTo made earlier next head 0 marks → get_or marks 0 None ≡ None
        → new ≡ set marks 0 (Some id) → AreMarks made next new
    marks-opening marks new size down none put x h = elim (cases_eq x 0) [ inl e ↦ subst (λ y. slice_get new y ≡ Some (first_branch made next y)) (sym e) here | inr n ↦ there n ]
      where
        here : slice_get new 0 ≡ Some (first_branch made next 0)
        here =
            ap (λ l. slice_get l 0) put
            ∙ get-set_same marks 0 (Some id) (omega (arith, size))
            ∙ ap Some (sym (more 0 ∙ ap (λ o. first_or o true id) (unmarked marks 0 None down none)))

        alone : (x ≡ 0 → ⊥) → leads_to made x 0 ≡ false
        alone n = ap (λ b. b || among (path made 0) x) (ne_eqb 0 x (λ e. n (sym e))) ∙ ap (λ p. among p x) (path-opening made)

        by : (x ≡ 0 → ⊥) → (b : Bool) → leads_to made x head ≡ b → slice_get marks x ≡ Some (first_branch made next x)
        by n true e = down.each x h ∙ ap (λ b. Some (first_branch made (either (b && not (leads_to made x 0))) x)) e ∙ ap (λ c. Some (first_branch made (either (not c)) x)) (alone n)
        by n false e =
            down.each x h
            ∙ ap (λ b. Some (first_branch made (either (b && not (leads_to made x 0))) x)) e
            ∙ ap Some (sym (apart x e))

        there : (x ≡ 0 → ⊥) → slice_get new x ≡ Some (first_branch made next x)
        there n = ap (λ l. slice_get l x) put ∙ get-set_other marks 0 x (Some id) n ∙ by n (leads_to made x head) refl

    -- what is told and marked where the way up ends: at the opening, or at a moment with a mark
    pub marks-end : (marks new : List (Option ℕ)) (m : ℕ) → length marks ≡ length made + 1 → AreMarksDownTo made earlier next head m marks → (0 < m → is_some (get_or marks m None) ≡ true)
        → new ≡ marked marks m id → AreMarks made next new
    marks-end marks new m size down ends put = by m (get_or marks m None) refl refl
      where
        by : (k : ℕ) (o : Option ℕ) → m ≡ k → get_or marks m None ≡ o → AreMarks made next new
        by k (Some j) e f = subst (AreMarks made next) (sym (put ∙ ap (λ o. cond (is_some o) marks (set marks m (Some id))) f)) (marks-met marks m j down f)
        by zero None e f =
            let at : new ≡ set marks 0 (Some id) = put ∙ ap (λ o. cond (is_some o) marks (set marks m (Some id))) f ∙ ap (λ m. set marks m (Some id)) e in
            marks-opening marks new size (subst (λ m. AreMarksDownTo made earlier next head m marks) e down) (sym (ap (λ m. get_or marks m None) e) ∙ f) at
        by (suc i) None e f = absurd (true≢false (sym (ends (omega (arith, e))) ∙ ap is_some f))

    pub leaves-end : (marks : List (Option ℕ)) (m : ℕ) → AreMarksDownTo made earlier next head m marks → (0 < m → is_some (get_or marks m None) ≡ true)
        → option_map (λ j. (j, m)) (get_or marks m None) ≡ leaving made earlier head
    leaves-end marks m down ends = by m (get_or marks m None) refl refl
      where
        by : (k : ℕ) (o : Option ℕ) → m ≡ k → get_or marks m None ≡ o → option_map (λ j. (j, m)) (get_or marks m None) ≡ leaving made earlier head
        by k (Some j) e f = ap (option_map (λ j. (j, m))) f ∙ sym (down.left ∙ leaves-met earlier m j (unmarked marks m (Some j) down f))
        by zero None e f =
            let first : first_branch made earlier 0 ≡ None = sym (ap (first_branch made earlier) e) ∙ unmarked marks m None down f in
            ap (option_map (λ j. (j, m))) f ∙ sym (down.left ∙ ap (leaving made earlier) e ∙ leaves-none earlier first)
        by (suc i) None e f = absurd (true≢false (sym (ends (omega (arith, e))) ∙ ap is_some f))

-- one branch more
pub branch-more : (made : List Made) (bs : List Branch) (id : ℕ) → id < length bs → (x : ℕ)
    → first_branch made (take (id + 1) bs) x ≡ first_or (first_branch made (take id bs) x) (leads_to made x (head_at bs id)) id
branch-more made bs id h x =
    let b = get-within bs id h in
    let test : Branch → Bool = λ b. leads_to made x b.head in
    ap (position test) (more bs id b.0 b.1)
    ∙ first-push test (take id bs) b.0
    ∙ ap (λ n. first_or (position test (take id bs)) (test b.0) n) (omega (arith, length-take id bs, h))
    ∙ ap (λ o. first_or (position test (take id bs)) (leads_to made x (branch_head o)) id) (sym b.1)
  where
    more : (bs : List Branch) (i : ℕ) (b : Branch) → slice_get bs i ≡ Some b → take (i + 1) bs ≡ take i bs ++ b ∷ []
    more bs i b e = take_more bs i b (slice_get_within bs i b e) ∙ ap (λ c. take i bs ++ c ∷ []) (get_or_from_slice_get bs i b b e)

pub parent-earlier : (made : List Made) → Falls made → (m p : ℕ) → 0 < m → p ≡ parent_at made m → p < m
parent-earlier made falls zero p later e = absurd (omega (arith, later))
parent-earlier made falls (suc i) p later e = omega (arith, e, falls i)

pub marked-size : (marks : List (Option ℕ)) (m id : ℕ) → length (marked marks m id) ≡ length marks
marked-size marks m id = by (is_some (get_or marks m None))
  where
    by : (b : Bool) → length (cond b marks (set marks m (Some id))) ≡ length marks
    by true = refl
    by false = length-set marks m (Some id)

-- one branch more is listed
pub branch-listed : (t : Tree) (list new : List BranchLook) (i head : ℕ) (left : Option (ℕ × ℕ)) → list ≡ map (branch_look t) (range_with_len 0 i) → head ≡ head_at t.branches i
    → left ≡ leaving t.made (take i t.branches) (head_at t.branches i) → new ≡ list ++ record { id = i; head = head; leaves = left } ∷ []
    → new ≡ map (branch_look t) (range_with_len 0 (i + 1))
branch-listed t list new i head left so_far at is put =
    put
    ∙ ap (λ l. l ++ record { id = i; head = head; leaves = left } ∷ []) so_far
    ∙ (λ k. map (branch_look t) (range_with_len 0 i) ++ record { id = i; head = at k; leaves = is k } ∷ [])
    ∙ sym (map-range_with_len_more (branch_look t) 0 i i (omega arith))
