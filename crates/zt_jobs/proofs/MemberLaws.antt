-- A walk from each member to what ends next to it finds one set; and the members are listed by rising koids.
use Rattle.std.proofs.Common.{◌≡◌, ◌≤◌, ◌<◌, ℕ, Bool, true, false, ◌||◌, List, [], ◌∷◌, ◌++◌, length, get_or, ◌⊎◌, inl, inr, refl, sym, ap, ◌∙◌, subst, arith}
use Rattle.std.specs.Prelude.{◌==◌, if◌then◌else◌}
use Rattle.std.proofs.lemmas.Bool.{eqb-true, eq-eqb, cases_lt}
use Rattle.std.proofs.lemmas.List.Folds.{list_any-append, list_any_at}
use Rattle.std.proofs.lemmas.List.Quantifiers.{all_pairs_push}
use Rattle.zt_rows.specs.State.{State}
use Rattle.zt_rows.specs.Tests.{among}
use Rattle.zt_rows.proofs.RowLaws.{or_left, or_right, or_true, true≢false, same_test}
use Rattle.zt_store.specs.KoidSets.{only}
use Rattle.zt_jobs.specs.EndingWalk.{IsWalkable, ends_next}
use Rattle.zt_jobs.specs.ProofsOnly.TaskTree.{IsRising}
use Rattle.zt_jobs.specs.ProofsOnly.EndingWalk.{IsNoted}

-- ---- members of a list

-- a number is this one from either side
pub this_one : (x y : ℕ) → (x == y) ≡ only x y
this_one x y = same_test (x == y) (y == x) (λ t. eq-eqb y x (sym (eqb-true x y t))) (λ t. eq-eqb x y (sym (eqb-true y x t)))

pub among-push : (xs : List ℕ) (x y : ℕ) → among (xs ++ x ∷ []) y ≡ (among xs y || (x == y))
among-push xs x y = list_any-append (λ m. m == y) xs (x ∷ []) ∙ ap (λ b. among xs y || b) (or-none (x == y))
  where
    or-none : (b : Bool) → (b || false) ≡ b
    or-none true = refl
    or-none false = refl

pub among-at : (xs : List ℕ) (i d : ℕ) → i < length xs → among xs (get_or xs i d) ≡ true
among-at xs i d lt = list_any_at (λ m. m == get_or xs i d) xs i d lt (eq-eqb (get_or xs i d) (get_or xs i d) refl)

none-among : (xs : List ℕ) (x : ℕ) → length xs ≡ 0 → among xs x ≡ true → ⊥
none-among [] x e h = cc
none-among (y ∷ ys) x e h = absurd (omega arith)

-- ---- what is noted

pub noted_itself : (known : ℕ → Bool) (waiting : List ℕ) → IsNoted known waiting known waiting
noted_itself known waiting = record { new = λ x e. inl e; still = λ x e. e; within = λ x e. inl e }

pub noted_then : (known more most : ℕ → Bool) (waiting later last : List ℕ) → IsNoted known waiting more later → IsNoted more later most last → ((x : ℕ) → more x ≡ true → most x ≡ true) → IsNoted known waiting most last
noted_then known more most waiting later last first second grown = record {
  new = λ x e. elim (second.new x e) [
    | inl was ↦ elim (first.new x was) [ inl known_before ↦ inl known_before | inr waits ↦ inr (second.still x waits) ]
    | inr waits ↦ inr waits
  ];
  still = λ x e. second.still x (first.still x e);
  within = λ x e. elim (second.within x e) [
    | inl was ↦ elim (first.within x was) [ inl waited ↦ inl waited | inr is ↦ inr (grown x is) ]
    | inr is ↦ inr is
  ];
}

-- the koid was known already
pub noted_old : (koid : ℕ) (known more : ℕ → Bool) (waiting : List ℕ) → known koid ≡ true → ((x : ℕ) → more x ≡ (known x || (koid == x))) → IsNoted known waiting more waiting
noted_old koid known more waiting was is = record {
  new = λ x e. elim (or_true (known x) (koid == x) (sym (is x) ∙ e)) [
    | inl k ↦ inl k
    | inr same ↦ inl (subst (λ z. known z ≡ true) (eqb-true koid x same) was)
  ];
  still = λ x e. e;
  within = λ x e. inl e;
}

-- it was not, and waits
pub noted_new : (koid : ℕ) (known more : ℕ → Bool) (waiting later : List ℕ) → later ≡ waiting ++ koid ∷ [] → ((x : ℕ) → more x ≡ (known x || (koid == x))) → IsNoted known waiting more later
noted_new koid known more waiting later pushed is =
    let has : (x : ℕ) → among later x ≡ (among waiting x || (koid == x)) = λ x. ap (λ l. among l x) pushed ∙ among-push waiting koid x in
    record {
      new = λ x e. elim (or_true (known x) (koid == x) (sym (is x) ∙ e)) [
        | inl k ↦ inl k
        | inr same ↦ inr (has x ∙ or_right (among waiting x) (koid == x) same)
      ];
      still = λ x e. has x ∙ or_left (among waiting x) (koid == x) e;
      within = λ x e. elim (or_true (among waiting x) (koid == x) (sym (has x) ∙ e)) [
        | inl waited ↦ inl waited
        | inr same ↦ inr (is x ∙ or_right (known x) (koid == x) same)
      ];
    }

-- ---- the walk

-- each set that the walk stays in has what is known; what waits is known; and what is known waits, or all that ends next
-- to it is known
pub record IsWalked (S : State) (task : ℕ) (known : ℕ → Bool) (waiting : List ℕ) : Type 0 where
  pub least : (found : ℕ → Bool) → found task ≡ true → ((y x : ℕ) → found y ≡ true → ends_next S y x ≡ true → found x ≡ true) → (x : ℕ) → known x ≡ true → found x ≡ true
  pub begun : known task ≡ true
  pub waits : (x : ℕ) → among waiting x ≡ true → known x ≡ true
  pub closed : (y : ℕ) → known y ≡ true → (among waiting y ≡ true) ⊎ ((x : ℕ) → ends_next S y x ≡ true → known x ≡ true)

module _ (S : State) (task : ℕ) where
  pub walk-start : (none known : ℕ → Bool) (first waiting : List ℕ) → ((x : ℕ) → none x ≡ false) → first ≡ [] → ((x : ℕ) → known x ≡ (none x || (task == x))) → IsNoted none first known waiting → IsWalked S task known waiting
  walk-start none known first waiting empty bare is noted = record {
    least = λ found has all x e. elim (or_true (none x) (task == x) (sym (is x) ∙ e)) [
      | inl t ↦ absurd (true≢false (none x) t (empty x))
      | inr same ↦ subst (λ z. found z ≡ true) (eqb-true task x same) has
    ];
    begun = is task ∙ or_right (none task) (task == task) (eq-eqb task task refl);
    waits = λ x e. elim (noted.within x e) [
      | inl t ↦ let none_waits : false ≡ true = subst (λ l. among l x ≡ true) bare t in cc
      | inr k ↦ k
    ];
    closed = λ y e. elim (noted.new y e) [
      | inl t ↦ absurd (true≢false (none y) t (empty y))
      | inr w ↦ inl w
    ];
  }

  -- one that waited has been looked at
  pub walk-next : (at : ℕ) (known more : ℕ → Bool) (waiting rest later : List ℕ) → IsWalked S task known waiting → waiting ≡ rest ++ at ∷ [] → ((x : ℕ) → more x ≡ (known x || ends_next S at x)) → IsNoted known rest more later → IsWalked S task more later
  walk-next at known more waiting rest later walked popped is noted = record {
    least = λ found has all x e. elim (or_true (known x) (ends_next S at x) (sym (is x) ∙ e)) [
      | inl k ↦ walked.least found has all x k
      | inr next ↦ all at x (walked.least found has all at at_known) next
    ];
    begun = grown task walked.begun;
    waits = λ x e. elim (noted.within x e) [
      | inl r ↦ grown x (walked.waits x (has x ∙ or_left (among rest x) (at == x) r))
      | inr k ↦ k
    ];
    closed = λ y e. elim (noted.new y e) [
      | inl k ↦ looked y (walked.closed y k)
      | inr w ↦ inl w
    ];
  }
    where
      has : (x : ℕ) → among waiting x ≡ (among rest x || (at == x))
      has x = ap (λ l. among l x) popped ∙ among-push rest at x

      at_known : known at ≡ true
      at_known = walked.waits at (has at ∙ or_right (among rest at) (at == at) (eq-eqb at at refl))

      grown : (x : ℕ) → known x ≡ true → more x ≡ true
      grown x k = is x ∙ or_left (known x) (ends_next S at x) k

      looked : (y : ℕ) → (among waiting y ≡ true) ⊎ ((x : ℕ) → ends_next S y x ≡ true → known x ≡ true) → (among later y ≡ true) ⊎ ((x : ℕ) → ends_next S y x ≡ true → more x ≡ true)
      looked y (inl w) = elim (or_true (among rest y) (at == y) (sym (has y) ∙ w)) [
        | inl r ↦ inl (noted.still y r)
        | inr same ↦ inr (λ x next. is x ∙ or_right (known x) (ends_next S at x) (subst (λ z. ends_next S z x ≡ true) (sym (eqb-true at y same)) next))
      ]
      looked y (inr all) = inr (λ x next. grown x (all x next))

  -- where nothing waits, what is known is what the walk finds
  pub walk-end : (known : ℕ → Bool) (waiting : List ℕ) → IsWalked S task known waiting → length waiting ≡ 0 → IsWalkable S task known
  walk-end known waiting walked empty = record {
    begun = walked.begun;
    closed = λ y x k h. elim (walked.closed y k) [ inl w ↦ absurd (none-among waiting y empty w) | inr all ↦ all x h ];
    least = walked.least;
  }

  -- the walk finds one set
  pub walk-same : (a b : ℕ → Bool) → IsWalkable S task a → IsWalkable S task b → a ≡ b
  walk-same a b one other =
      let each : (x : ℕ) → a x ≡ b x = λ x. same_test (a x) (b x) (one.least b other.begun other.closed x) (other.least a one.begun one.closed x) in
      λ i x. each x i

-- ---- the members by rising koids

-- of a set: what was listed, by rising numbers, and what is left, all above it
pub record IsListed (list : List ℕ) (left all : ℕ → Bool) : Type 0 where
  pub whole : (x : ℕ) → (among list x || left x) ≡ all x
  pub rising : IsRising list
  pub above : (y x : ℕ) → among list y ≡ true → left x ≡ true → y < x

pub list-start : (list : List ℕ) (all : ℕ → Bool) → list ≡ [] → IsListed list all all
list-start list all none = subst (λ l. IsListed l all all) (sym none) (record {
  whole = λ x. refl;
  rising = λ i j d less within. absurd (omega arith);
  above = λ y x e t. cc;
})

pub list-next : (list later : List ℕ) (left rest all : ℕ → Bool) (next : ℕ) → IsListed list left all → later ≡ list ++ next ∷ [] → left next ≡ true → ((x : ℕ) → left x ≡ true → next ≤ x) → ((x : ℕ) → rest x ≡ (if next == x then false else left x)) → IsListed later rest all
list-next list later left rest all next listed pushed there least gone = record {
  whole = λ x. either x (next == x) refl;
  rising = subst IsRising (sym pushed) (all_pairs_push (λ a b. a < b) list next listed.rising (λ k d lt. listed.above (get_or list k d) next (among-at list k d lt) there));
  above = λ y x e t. over y x (next == x) refl t (or_true (among list y) (next == y) (sym (has y) ∙ e));
}
  where
    has : (x : ℕ) → among later x ≡ (among list x || (next == x))
    has x = ap (λ l. among l x) pushed ∙ among-push list next x

    or-true : (a b : Bool) → ((a || true) || b) ≡ true
    or-true true b = refl
    or-true false b = refl

    or-false : (a b : Bool) → ((a || false) || b) ≡ (a || b)
    or-false true b = refl
    or-false false b = refl

    either : (x : ℕ) (b : Bool) → (next == x) ≡ b → (among later x || rest x) ≡ all x
    either x true e =
        ap (λ a. a || rest x) (has x)
        ∙ ap (λ b. (among list x || b) || rest x) e
        ∙ or-true (among list x) (rest x)
        ∙ sym (or_right (among list x) (left x) (subst (λ z. left z ≡ true) (eqb-true next x e) there))
        ∙ listed.whole x
    either x false e =
        ap (λ a. a || rest x) (has x)
        ∙ ap (λ b. (among list x || b) || rest x) e
        ∙ or-false (among list x) (rest x)
        ∙ ap (λ b. among list x || b) (gone x ∙ ap (λ b. if b then false else left x) e)
        ∙ listed.whole x

    over : (y x : ℕ) (b : Bool) → (next == x) ≡ b → rest x ≡ true → (among list y ≡ true) ⊎ ((next == y) ≡ true) → y < x
    over y x true e t w = absurd (true≢false (rest x) t (gone x ∙ ap (λ b. if b then false else left x) e))
    over y x false e t w =
        let was : left x ≡ true = sym (gone x ∙ ap (λ b. if b then false else left x) e) ∙ t in
        let le : next ≤ x = least x was in
        elim w [
          | inl earlier ↦ listed.above y x earlier was
          | inr same ↦
              let is : next ≡ y = eqb-true next y same in
              elim (cases_lt next x) [
                | inl less ↦ omega arith
                | inr ge ↦ let at : next ≡ x = omega arith in absurd (true≢false (next == x) (eq-eqb next x at) e)
              ]
        ]

pub list-end : (list : List ℕ) (left all : ℕ → Bool) → IsListed list left all → ((x : ℕ) → left x ≡ false) → among list ≡ all
list-end list left all listed empty =
    let each : (x : ℕ) → among list x ≡ all x = λ x. sym (or-none (among list x)) ∙ ap (λ b. among list x || b) (sym (empty x)) ∙ listed.whole x in
    λ i x. each x i
  where
    or-none : (b : Bool) → (b || false) ≡ b
    or-none true = refl
    or-none false = refl
