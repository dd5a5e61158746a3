-- What fits a store: lists of rows put together, in another order or made shorter, and stores that keep their places.
use Rattle.std.proofs.Common.{◌≡◌, ℕ, ◌+◌, ◌≤◌, ◌<◌, Bool, true, false, ◌&&◌, ◌||◌, cond, List, [], ◌∷◌, ◌++◌, length, drop, get_or, set, Option, Some, None, refl, sym, ap, ◌∙◌, subst, arith}
use Rattle.std.specs.Prelude.{nat_lt}
use Rattle.std.specs.List.{All, Contains, filter, list_all}
use Rattle.std.specs.List.Sorted.{IsPermutation}
use Rattle.std.proofs.lemmas.List.{at_drop_more, at_drop_all}
use Rattle.std.proofs.lemmas.List.Elements.{All-nil, All-cons, All-head, All-tail, All-append, All-set, All-filter, All-get_or, All-weaker, All-contains, Contains-get_or, Contains-append_left, Contains-append_right}
use Rattle.std.proofs.lemmas.List.Sorted.{All-permutation}
use Rattle.std.proofs.lemmas.Bool.{ltb-true, lt-ltb}
use Rattle.zt_rows.specs.declared.keys.RowKey.{RowKey}
use Rattle.zt_rows.specs.declared.keys.RowKey.TheVariants as key
use Rattle.zt_rows.specs.declared.rows.Held.{Held}
use Rattle.zt_rows.specs.declared.rows.Row.{Row}
use Rattle.zt_rows.specs.declared.rows.Row.TheVariants as rows
use Rattle.zt_rows.specs.Reads.{is_live_job, is_live_process}
use Rattle.zt_rows.specs.Room.{SuitsKey}
use Rattle.zt_rows.proofs.RowLaws.{and_left, and_right, and_both}
use Rattle.zt_cells.specs.TableSizes.{has_place}
use Rattle.zt_index.specs.KoidCounts.{counts_within, counts_within_if}
use Rattle.zt_store.specs.Places.{Places, fits, fits_row, Keeps}
use Rattle.zt_store.specs.RecordRows.{all_fit}
use Rattle.zt_store.specs.ProofsOnly.StoreView.{AllSuit}

abbrev pub Rows : Type 0
Rows = List (RowKey × Option Row)

-- ---- each row of a list fits

abbrev pub FitsOne : Places → RowKey × Option Row → Type 0
FitsOne p e = fits_row p e.0 e.1 ≡ true

pub each_fits : (p : Places) (R : Rows) → fits p R ≡ true → All (FitsOne p) R
unfolding fits
each_fits p [] h = All-nil (FitsOne p)
each_fits p (e ∷ es) h =
    All-cons (FitsOne p) e es (and_left (fits_row p e.0 e.1) (fits p es) h) (each_fits p es (and_right (fits_row p e.0 e.1) (fits p es) h))

pub fits-each : (p : Places) (R : Rows) → All (FitsOne p) R → fits p R ≡ true
unfolding fits
fits-each p [] h = refl
fits-each p (e ∷ es) h =
    and_both (fits_row p e.0 e.1) (fits p es) (All-head (FitsOne p) e es h) (fits-each p es (All-tail (FitsOne p) e es h))

pub fits-nil : (p : Places) → fits p [] ≡ true
unfolding fits
fits-nil p = refl

pub fits-append : (p : Places) (R Q : Rows) → fits p R ≡ true → fits p Q ≡ true → fits p (R ++ Q) ≡ true
fits-append p R Q h g = fits-each p (R ++ Q) (All-append (FitsOne p) R Q (each_fits p R h) (each_fits p Q g))

pub fits-push : (p : Places) (R : Rows) (k : RowKey) (r : Option Row) → fits p R ≡ true → fits_row p k r ≡ true → fits p (R ++ (k, r) ∷ []) ≡ true
fits-push p R k r h g = fits-append p R ((k, r) ∷ []) h (fits-each p ((k, r) ∷ []) (All-cons (FitsOne p) (k, r) [] g (All-nil (FitsOne p))))

pub fits-permutation : (p : Places) (R Q : Rows) → IsPermutation R Q → fits p R ≡ true → fits p Q ≡ true
fits-permutation p R Q moved h = fits-each p Q (All-permutation (FitsOne p) R Q moved (each_fits p R h))

pub fits-filter : (p : Places) (test : RowKey × Option Row → Bool) (R : Rows) → fits p R ≡ true → fits p (filter test R) ≡ true
fits-filter p test R h = fits-each p (filter test R) (All-filter test (FitsOne p) R (each_fits p R h))

-- a list whose rows all stand in one that fits
pub fits-within : (p : Places) (R Q : Rows) → ((e : RowKey × Option Row) → Contains Q e → Contains R e) → fits p R ≡ true → fits p Q ≡ true
fits-within p R Q there h =
    fits-each p Q (λ i d within. All-contains (FitsOne p) R (get_or Q i d) (each_fits p R h) (there (get_or Q i d) (Contains-get_or Q i d within)))

pub fits-left : (p : Places) (R Q : Rows) → fits p (R ++ Q) ≡ true → fits p R ≡ true
fits-left p R Q h = fits-within p (R ++ Q) R (λ e m. Contains-append_left R Q e m) h

pub fits-right : (p : Places) (R Q : Rows) → fits p (R ++ Q) ≡ true → fits p Q ≡ true
fits-right p R Q h = fits-within p (R ++ Q) Q (λ e m. Contains-append_right R Q e m) h

pub fits-set : (p : Places) (R : Rows) (i : ℕ) (k : RowKey) (r : Option Row) → fits p R ≡ true → fits_row p k r ≡ true → fits p (set R i (k, r)) ≡ true
fits-set p R i k r h g = fits-each p (set R i (k, r)) (All-set (FitsOne p) R i (k, r) g (each_fits p R h))

pub fits-at : (p : Places) (R : Rows) (i : ℕ) (e : RowKey × Option Row) → i < length R → e ≡ get_or R i e → fits p R ≡ true → fits_row p e.0 e.1 ≡ true
fits-at p R i e within is h =
    subst (FitsOne p) (sym is) (All-get_or (FitsOne p) R i e within (each_fits p R h))

-- ---- each row of a list suits its key

abbrev pub SuitsOne : RowKey × Option Row → Type 0
SuitsOne e = SuitsKey e.0 e.1

pub each_suits : (R : Rows) → AllSuit R → All SuitsOne R
each_suits [] h = All-nil SuitsOne
each_suits (e ∷ es) h = All-cons SuitsOne e es h.0 (each_suits es h.1)

pub suits-each : (R : Rows) → All SuitsOne R → AllSuit R
suits-each [] h = tt
suits-each (e ∷ es) h = (All-head SuitsOne e es h, suits-each es (All-tail SuitsOne e es h))

pub suits-push : (R : Rows) (k : RowKey) (r : Option Row) → AllSuit R → SuitsKey k r → AllSuit (R ++ (k, r) ∷ [])
suits-push R k r h g = suits-each (R ++ (k, r) ∷ []) (All-append SuitsOne R ((k, r) ∷ []) (each_suits R h) (All-cons SuitsOne (k, r) [] g (All-nil SuitsOne)))

pub suits-permutation : (R Q : Rows) → IsPermutation R Q → AllSuit R → AllSuit Q
suits-permutation R Q moved h = suits-each Q (All-permutation SuitsOne R Q moved (each_suits R h))

pub suits-filter : (test : RowKey × Option Row → Bool) (R : Rows) → AllSuit R → AllSuit (filter test R)
suits-filter test R h = suits-each (filter test R) (All-filter test SuitsOne R (each_suits R h))

pub suits-set : (R : Rows) (i : ℕ) (k : RowKey) (r : Option Row) → AllSuit R → SuitsKey k r → AllSuit (set R i (k, r))
suits-set R i k r h g = suits-each (set R i (k, r)) (All-set SuitsOne R i (k, r) g (each_suits R h))

pub suits-at : (R : Rows) (i : ℕ) (e : RowKey × Option Row) → i < length R → e ≡ get_or R i e → AllSuit R → SuitsKey e.0 e.1
suits-at R i e within is h =
    subst SuitsOne (sym is) (All-get_or SuitsOne R i e within (each_suits R h))

-- ---- places that are kept

pub keeps-same : (p : Places) → Keeps p p
keeps-same p R h = h

pub keeps-equal : (p q : Places) → q ≡ p → Keeps p q
keeps-equal p q same R h = ap (λ s. fits s R) same ∙ h

pub keeps-both : (p q s : Places) → Keeps p q → Keeps q s → Keeps p s
keeps-both p q s h g R e = g R (h R e)

pub keeps-row : (p q : Places) → Keeps p q → (k : RowKey) (r : Option Row) → fits_row p k r ≡ true → fits_row q k r ≡ true
keeps-row p q kept k r h =
    All-head (FitsOne q) (k, r) [] (each_fits q ((k, r) ∷ []) (kept ((k, r) ∷ []) (fits-push p [] k r (fits-nil p) h)))

-- numbers for more koids
module _ (m n : ℕ) (le : m ≤ n) where
  below-more : (x : ℕ) → nat_lt x m ≡ true → nat_lt x n ≡ true
  below-more x h = let b : x < m = ltb-true x m h in lt-ltb x n (omega arith)

  all_below-more : (handles : List Held) → list_all (λ held. nat_lt held.koid m) handles ≡ true → list_all (λ held. nat_lt held.koid n) handles ≡ true
  all_below-more [] h = refl
  all_below-more (held ∷ rest) h =
      and_both (nat_lt held.koid n) (list_all (λ held. nat_lt held.koid n) rest) (below-more held.koid (and_left (nat_lt held.koid m) (list_all (λ held. nat_lt held.koid m) rest) h)) (all_below-more rest (and_right (nat_lt held.koid m) (list_all (λ held. nat_lt held.koid m) rest) h))

  link_below-more : (task : Bool) (x : ℕ) → cond task (nat_lt x m) true ≡ true → cond task (nat_lt x n) true ≡ true
  link_below-more true x h = below-more x h
  link_below-more false x h = refl

  within-more : (k : RowKey) (r : Row) → counts_within m k r ≡ true → counts_within n k r ≡ true
  within-more (key.Entry p h) (rows.Entry held) e = below-more held.koid e
  within-more (key.Msg x i) (rows.Msg message) e = all_below-more message.handles e
  within-more (key.Object y) (rows.Object o) e = link_below-more (is_live_job o || is_live_process o) o.link e
  within-more _ _ e = e

  within_if-more : (k : RowKey) (r : Option Row) → counts_within_if m k r ≡ true → counts_within_if n k r ≡ true
  within_if-more k (Some r) e = within-more k r e
  within_if-more k None e = refl

-- places and numbers that are there still
pub keeps-by : (p q : Places) → ((k : RowKey) → has_place p.sizes k ≡ true → has_place q.sizes k ≡ true) → p.koids ≤ q.koids → Keeps p q
keeps-by p q placed le R h =
    fits-each q R (All-weaker (FitsOne p) (FitsOne q) (λ e g.
    and_both (has_place q.sizes e.0) (counts_within_if q.koids e.0 e.1)
    (placed e.0 (and_left (has_place p.sizes e.0) (counts_within_if p.koids e.0 e.1) g))
    (within_if-more p.koids q.koids le e.0 e.1 (and_right (has_place p.sizes e.0) (counts_within_if p.koids e.0 e.1) g))) R (each_fits p R h))

-- rows that fitted the old places fit the new ones, if each old place is there still and there are no fewer koids
pub keeps-grown : (old new : Places) → ((k : RowKey) → has_place old.sizes k ≡ true → has_place new.sizes k ≡ true) → old.koids ≤ new.koids → Keeps old new
keeps-grown old new placed le = keeps-by old new placed le

-- ---- the rows of a record, one after another

fits-step : (p : Places) (R : Rows) (i : ℕ) (d : RowKey × Option Row) → i < length R → fits p (drop i R) ≡ (fits_row p (get_or R i d).0 (get_or R i d).1 && fits p (drop (i + 1) R))
unfolding fits
fits-step p R i d lt = at_drop_more (fits p) R i d lt

fits-end : (p : Places) (R : Rows) (i : ℕ) → length R ≤ i → fits p (drop i R) ≡ true
unfolding fits
fits-end p R i le = at_drop_all (fits p) R i le

-- one row that does not fit decides
pub fits-not : (p : Places) (R items : Rows) (i : ℕ) (d : RowKey × Option Row) (b : Bool) → i < length items → d ≡ get_or items i d → fits p (drop i items) ≡ fits p R → b ≡ fits_row p d.0 d.1 → b ≡ false → false ≡ fits p R
fits-not p R items i d b lt at left is answer =
    let row : fits_row p (get_or items i d).0 (get_or items i d).1 ≡ false = ap (λ (e : RowKey × Option Row). fits_row p e.0 e.1) (sym at) ∙ sym is ∙ answer in
    sym (ap (λ t. t && fits p (drop (i + 1) items)) row) ∙ sym (fits-step p items i d lt) ∙ left

-- after one that fits the rest decides
pub fits-next : (p : Places) (R items : Rows) (i : ℕ) (d : RowKey × Option Row) (b : Bool) → i < length items → d ≡ get_or items i d → fits p (drop i items) ≡ fits p R → b ≡ fits_row p d.0 d.1 → b ≡ true → fits p (drop (i + 1) items) ≡ fits p R
fits-next p R items i d b lt at left is answer =
    let row : fits_row p (get_or items i d).0 (get_or items i d).1 ≡ true = ap (λ (e : RowKey × Option Row). fits_row p e.0 e.1) (sym at) ∙ sym is ∙ answer in
    sym (ap (λ t. t && fits p (drop (i + 1) items)) row) ∙ sym (fits-step p items i d lt) ∙ left

pub fits-all : (p : Places) (R items : Rows) (i : ℕ) → length items ≤ i → fits p (drop i items) ≡ fits p R → true ≡ fits p R
fits-all p R items i le left = sym (fits-end p items i le) ∙ left

-- ---- lists of records

abbrev pub RecordFits : Places → Rows → Type 0
RecordFits p R = fits p R ≡ true

pub each_record_fits : (p : Places) (Rs : List Rows) → all_fit p Rs ≡ true → All (RecordFits p) Rs
each_record_fits p [] h = All-nil (RecordFits p)
each_record_fits p (R ∷ Rs) h = All-cons (RecordFits p) R Rs (and_left (fits p R) (all_fit p Rs) h) (each_record_fits p Rs (and_right (fits p R) (all_fit p Rs) h))

pub all_fit-each : (p : Places) (Rs : List Rows) → All (RecordFits p) Rs → all_fit p Rs ≡ true
all_fit-each p [] h = refl
all_fit-each p (R ∷ Rs) h = and_both (fits p R) (all_fit p Rs) (All-head (RecordFits p) R Rs h) (all_fit-each p Rs (All-tail (RecordFits p) R Rs h))

pub all_fit-kept : (p q : Places) → Keeps p q → (Rs : List Rows) → all_fit p Rs ≡ true → all_fit q Rs ≡ true
all_fit-kept p q kept Rs h = all_fit-each q Rs (All-weaker (RecordFits p) (RecordFits q) (λ R. kept R) Rs (each_record_fits p Rs h))

pub all_fit-append : (p : Places) (Rs Qs : List Rows) → all_fit p Rs ≡ true → all_fit p Qs ≡ true → all_fit p (Rs ++ Qs) ≡ true
all_fit-append p Rs Qs h g = all_fit-each p (Rs ++ Qs) (All-append (RecordFits p) Rs Qs (each_record_fits p Rs h) (each_record_fits p Qs g))

pub all_fit-push : (p : Places) (Rs : List Rows) (R : Rows) → all_fit p Rs ≡ true → fits p R ≡ true → all_fit p (Rs ++ R ∷ []) ≡ true
all_fit-push p Rs R h g = all_fit-append p Rs (R ∷ []) h (and_both (fits p R) true g refl)

pub all_fit-at : (p : Places) (Rs : List Rows) (i : ℕ) (d : Rows) → i < length Rs → all_fit p Rs ≡ true → fits p (get_or Rs i d) ≡ true
all_fit-at p Rs i d within h = All-get_or (RecordFits p) Rs i d within (each_record_fits p Rs h)

pub all_fit-set : (p : Places) (Rs : List Rows) (i : ℕ) (R : Rows) → all_fit p Rs ≡ true → fits p R ≡ true → all_fit p (set Rs i R) ≡ true
all_fit-set p Rs i R h g = all_fit-each p (set Rs i R) (All-set (RecordFits p) Rs i R g (each_record_fits p Rs h))

pub all_fit-within : (p : Places) (Rs Qs : List Rows) → ((R : Rows) → Contains Qs R → Contains Rs R) → all_fit p Rs ≡ true → all_fit p Qs ≡ true
all_fit-within p Rs Qs there h =
    all_fit-each p Qs (λ i d within. All-contains (RecordFits p) Rs (get_or Qs i d) (each_record_fits p Rs h) (there (get_or Qs i d) (Contains-get_or Qs i d within)))

pub all_fit-left : (p : Places) (Rs Qs : List Rows) → all_fit p (Rs ++ Qs) ≡ true → all_fit p Rs ≡ true
all_fit-left p Rs Qs h = all_fit-within p (Rs ++ Qs) Rs (λ R m. Contains-append_left Rs Qs R m) h

pub all_fit-right : (p : Places) (Rs Qs : List Rows) → all_fit p (Rs ++ Qs) ≡ true → all_fit p Qs ≡ true
all_fit-right p Rs Qs h = all_fit-within p (Rs ++ Qs) Qs (λ R m. Contains-append_right Rs Qs R m) h

pub all_fit-permutation : (p : Places) (Rs Qs : List Rows) → IsPermutation Rs Qs → all_fit p Rs ≡ true → all_fit p Qs ≡ true
all_fit-permutation p Rs Qs moved h = all_fit-each p Qs (All-permutation (RecordFits p) Rs Qs moved (each_record_fits p Rs h))
