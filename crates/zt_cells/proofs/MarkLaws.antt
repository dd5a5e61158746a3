-- Marks of numbers in words, and of words in words above them.
use Rattle.std.proofs.Common.{◌≡◌, ◌≢◌, ◌≤◌, ◌<◌, ℕ, ◌+◌, ◌/◌, ◌%◌, ◌*◌, min, List, [], ◌∷◌, length, get_or, set, Option, Some, None, sym, ap, ◌∙◌, subst, arith, ⊎_elim, get_or-set_same, get_or-set_other}
use Rattle.std.specs.Int.{bit_at}
use Rattle.std.specs.Option.{MatchOption}
use Rattle.std.proofs.lemmas.Bool.{cases_eq, cases_lt}
use Rattle.std.proofs.lemmas.List.{get_or_past, get_or_default, length-set}
use Rattle.std.proofs.lemmas.Nat.Bits.{bit_at-zero, bit_at_above, bit_at_lowest}
use Rattle.zt_cells.specs.ProofsOnly.MarkedNumbers.{word, mark, IsWordWith, IsLowestFrom, IsMarkedAs, AreAbove, IsNextAt, IsNextMark, IsClearWordFrom}

-- ---- one list of words

-- in a word that is 0 nothing is marked
pub mark-zero : (words : List ℕ) (n : ℕ) → word words (n / 64) ≡ 0 → mark words n ≡ 0
unfolding mark
mark-zero words n z = ap (λ w. bit_at w (n % 64)) z ∙ bit_at-zero (n % 64)

pub mark-word : (new old : List ℕ) (n : ℕ) → word new (n / 64) ≡ word old (n / 64) → mark new n ≡ mark old n
unfolding mark
mark-word new old n e = ap (λ w. bit_at w (n % 64)) e

-- a word in which a number is marked is not 0
pub word-marked : (words : List ℕ) (n : ℕ) → mark words n ≡ 1 → 0 < word words (n / 64)
word-marked words n e =
    ⊎_elim (λ z. absurd (omega (arith, sym (mark-zero words n z) ∙ e))) (λ (d : word words (n / 64) ≢ 0). omega arith) (cases_eq (word words (n / 64)) 0)

-- beyond the words nothing is marked
pub mark-past : (words : List ℕ) (n : ℕ) → length words ≤ n / 64 → mark words n ≡ 0
mark-past words n h = mark-zero words n (get_or_past words (n / 64) 0 h)

module _ (words : List ℕ) (i w bit : ℕ) (within : i / 64 < length words) (with : IsWordWith (word words (i / 64)) w (i % 64) bit) where
  mark-here : mark (set words (i / 64) w) i ≡ bit
  unfolding mark
  mark-here = ap (λ x. bit_at x (i % 64)) (get_or-set_same words (i / 64) w 0 within) ∙ with.here

  mark-there : (n : ℕ) → n ≢ i → n / 64 ≡ i / 64 → mark (set words (i / 64) w) n ≡ mark words n
  unfolding mark
  mark-there n d e =
      ap (λ k. bit_at (get_or (set words (i / 64) w) k 0) (n % 64)) e
      ∙ ap (λ x. bit_at x (n % 64)) (get_or-set_same words (i / 64) w 0 within)
      ∙ with.others (n % 64) (omega arith) (λ s. d (omega arith))
      ∙ ap (λ k. bit_at (get_or words k 0) (n % 64)) (sym e)

  -- another word in the place of one
  pub marked-as : IsMarkedAs words (set words (i / 64) w) i bit
  marked-as = record {
    here = mark-here;
    others = λ n d.
        ⊎_elim (mark-there n d) (λ k. mark-word (set words (i / 64) w) words n (get_or-set_other words (i / 64) (n / 64) w 0 k)) (cases_eq (n / 64) (i / 64));
    words = λ k d. get_or-set_other words (i / 64) k w 0 d;
    len = length-set words (i / 64) w;
  }

-- writing w where `was` was read, with the bit of i made so and all others kept, makes the mark of i so and keeps all others
pub marked-seen : (inside seen : List ℕ) (i was w bit : ℕ) → inside ≡ seen → i / 64 < length seen → was ≡ get_or inside (i / 64) was → IsWordWith was w (i % 64) bit → IsMarkedAs seen (set inside (i / 64) w) i bit
marked-seen inside seen i was w bit is within read with =
    let e : was ≡ word seen (i / 64) = read ∙ ap (λ t. get_or t (i / 64) was) is ∙ get_or_default seen (i / 64) was 0 within in
    subst (λ t. IsMarkedAs seen (set t (i / 64) w) i bit) (sym is) (marked-as seen i w bit within (subst (λ x. IsWordWith x w (i % 64) bit) e with))

-- the number of a bit of the word from a number on
pub next-in-word : (words : List ℕ) (from b : ℕ) → IsLowestFrom (word words (from / 64)) (from % 64) b → IsNextAt words from (64 * (from / 64) + b)
unfolding mark
next-in-word words from b low =
    let n = 64 * (from / 64) + b in
    let w : n / 64 ≡ from / 64 = omega (arith, low.within) in
    let p : n % 64 ≡ b = omega (arith, low.within) in
    record {
      from_there = omega (arith, low.from_there);
      marked = ap (λ k. bit_at (get_or words k 0) (n % 64)) w ∙ ap (bit_at (word words (from / 64))) p ∙ low.set;
      first = λ m h l.
          let e : m / 64 ≡ from / 64 = omega (arith, low.within) in
          ap (λ k. bit_at (get_or words k 0) (m % 64)) e ∙ low.first (m % 64) (omega arith) (omega arith);
    }

pub clear-word : (words : List ℕ) (from : ℕ) → ((b : ℕ) → from % 64 ≤ b → bit_at (word words (from / 64)) b ≡ 0) → IsClearWordFrom words from
unfolding mark
clear-word words from none n h e =
    ap (λ k. bit_at (get_or words k 0) (n % 64)) e ∙ none (n % 64) (omega arith)

-- by the word w as it was read: its lowest bit set from a number on is the next mark; if none is, the word is clear from there
pub next-read : (words : List ℕ) (from w b : ℕ) → w ≡ word words (from / 64) → IsLowestFrom w (from % 64) b → IsNextAt words from (64 * (from / 64) + b)
next-read words from w b e low =
    next-in-word words from b (subst (λ x. IsLowestFrom x (from % 64) b) e low)

pub clear-read : (words : List ℕ) (from w : ℕ) → w ≡ word words (from / 64) → ((b : ℕ) → from % 64 ≤ b → bit_at w b ≡ 0) → IsClearWordFrom words from
clear-read words from w e none = clear-word words from (λ b h. ap (λ x. bit_at x b) (sym e) ∙ none b h)

pub clear-past : (words : List ℕ) (from : ℕ) → length words ≤ from / 64 → IsClearWordFrom words from
clear-past words from h n l e = mark-past words n (omega arith)

-- the lowest bit of a word
pub first-of : (words : List ℕ) (k b : ℕ) → b < 64 → bit_at (word words k) b ≡ 1 → ((j : ℕ) → j < b → bit_at (word words k) j ≡ 0) → IsNextAt words (64 * k) (64 * k + b)
first-of words k b within set first =
    let e : 64 * k / 64 ≡ k = omega arith in
    let z : 64 * k % 64 ≡ 0 = omega arith in
    let low : IsLowestFrom (word words (64 * k / 64)) (64 * k % 64) b = record {
      from_there = omega arith;
      within = within;
      set = ap (λ j. bit_at (word words j) b) e ∙ set;
      first = λ j _ l. ap (λ i. bit_at (word words i) j) e ∙ first j l;
    } in
    subst (λ j. IsNextAt words (64 * k) (64 * j + b)) e (next-in-word words (64 * k) b low)

pub first-read : (words : List ℕ) (k w b : ℕ) → w ≡ word words k → b < 64 → bit_at w b ≡ 1 → ((j : ℕ) → j < b → bit_at w j ≡ 0) → IsNextAt words (64 * k) (64 * k + b)
first-read words k w b e within set first =
    first-of words k b within (ap (λ x. bit_at x b) (sym e) ∙ set) (λ j l. ap (λ x. bit_at x j) (sym e) ∙ first j l)

-- there are words as far as one that is not 0
pub word-there : (words : List ℕ) (k : ℕ) → 0 < word words k → k < length words
word-there words k h =
    ⊎_elim (λ l. l) (λ l. let z : word words k ≡ 0 = get_or_past words k 0 l in absurd (omega arith)) (cases_lt k (length words))

-- the first number of a later word, where none is marked before
pub next-later : (words : List ℕ) (from k n : ℕ) → from ≤ 64 * k → ((m : ℕ) → from ≤ m → m / 64 < k → mark words m ≡ 0) → IsNextAt words (64 * k) n → IsNextAt words from n
next-later words from k n l none at = record {
  from_there = omega (arith, at.from_there);
  marked = at.marked;
  first = λ m h b.
      ⊎_elim (λ (e : m / 64 < k). none m h e) (λ (e : k ≤ m / 64). at.first m (omega arith) b) (cases_lt (m / 64) k);
}

-- ---- words above words

above-word : (upper lower : List ℕ) (k : ℕ) → AreAbove upper lower → mark upper k ≡ 1 → 0 < word lower k
above-word upper lower k above e = omega (arith, sym (above.marked k) ∙ e)

above-none : (upper lower : List ℕ) (k : ℕ) → AreAbove upper lower → mark upper k ≡ 0 → word lower k ≡ 0
above-none upper lower k above e = omega (arith, sym (above.marked k) ∙ e)

module _ (upper lower : List ℕ) (from : ℕ) (above : AreAbove upper lower) (clear : IsClearWordFrom lower from) where
  -- nothing is marked below words of which none is marked
  pub no-next : ((k : ℕ) → from / 64 + 1 ≤ k → mark upper k ≡ 0) → (n : ℕ) → from ≤ n → mark lower n ≡ 0
  no-next none n h =
      ⊎_elim (λ e. clear n h e) (λ d. mark-zero lower n (above-none upper lower (n / 64) above (none (n / 64) (omega arith)))) (cases_eq (n / 64) (from / 64))

  -- the first number of the next word that is marked is the next number that is
  pub next-above : (k n : ℕ) → IsNextAt upper (from / 64 + 1) k → IsNextAt lower (64 * k) n → IsNextAt lower from n
  next-above k n at first =
      next-later lower from k n (omega (arith, at.from_there))
      (λ m h l.
      ⊎_elim (λ e. clear m h e) (λ d. mark-zero lower m (above-none upper lower (m / 64) above (at.first (m / 64) (omega arith) l))) (cases_eq (m / 64) (from / 64)))
      first

pub below-marked : (upper lower : List ℕ) (from k : ℕ) → AreAbove upper lower → IsNextAt upper from k → 0 < word lower k
below-marked upper lower from k above at = above-word upper lower k above at.marked

module _ (upper lower lower' : List ℕ) (i bit : ℕ) (above : AreAbove upper lower) (is : IsMarkedAs lower lower' i bit) where
  -- the word is as it was as to whether it is 0
  pub above-kept : min 1 (word lower' (i / 64)) ≡ min 1 (word lower (i / 64)) → AreAbove upper lower'
  above-kept e = record {
    marked = λ k. ⊎_elim (λ s. above.marked k ∙ ap (λ j. min 1 (word lower j)) s ∙ sym e ∙ ap (λ j. min 1 (word lower' j)) (sym s)) (λ d. above.marked k ∙ ap (min 1) (sym (is.words k d))) (cases_eq k (i / 64));
    room = omega (arith, is.len, above.room);
  }

  -- the word is marked as it is now
  pub above-set : (upper' : List ℕ) → IsMarkedAs upper upper' (i / 64) (min 1 (word lower' (i / 64))) → AreAbove upper' lower'
  above-set upper' to = record {
    marked = λ k. ⊎_elim (λ s. ap (mark upper') s ∙ to.here ∙ ap (λ j. min 1 (word lower' j)) (sym s)) (λ d. to.others k d ∙ above.marked k ∙ ap (min 1) (sym (is.words k d))) (cases_eq k (i / 64));
    room = omega (arith, is.len, to.len, above.room);
  }

pub above-mark : (upper lower lower' : List ℕ) (i : ℕ) → AreAbove upper lower → IsMarkedAs lower lower' i 1 → word lower (i / 64) ≢ 0 → AreAbove upper lower'
above-mark upper lower lower' i above is some =
    let h = word-marked lower' i is.here in
    above-kept upper lower lower' i 1 above is (omega arith)

pub above-mark_first : (upper lower upper' lower' : List ℕ) (i : ℕ) → AreAbove upper lower → IsMarkedAs lower lower' i 1 → IsMarkedAs upper upper' (i / 64) 1 → AreAbove upper' lower'
above-mark_first upper lower upper' lower' i above is to =
    let h = word-marked lower' i is.here in
    let e : 1 ≡ min 1 (word lower' (i / 64)) = omega arith in
    above-set upper lower lower' i 1 above is upper' (subst (λ bit. IsMarkedAs upper upper' (i / 64) bit) e to)

pub above-unmark : (upper lower lower' : List ℕ) (i : ℕ) → AreAbove upper lower → IsMarkedAs lower lower' i 0 → word lower' (i / 64) ≤ word lower (i / 64) → word lower' (i / 64) ≢ 0 → AreAbove upper lower'
above-unmark upper lower lower' i above is less some =
    above-kept upper lower lower' i 0 above is (omega arith)

pub above-unmark_last : (upper lower upper' lower' : List ℕ) (i : ℕ) → AreAbove upper lower → IsMarkedAs lower lower' i 0 → word lower' (i / 64) ≡ 0 → IsMarkedAs upper upper' (i / 64) 0 → AreAbove upper' lower'
above-unmark_last upper lower upper' lower' i above is none to =
    let e : 0 ≡ min 1 (word lower' (i / 64)) = omega arith in
    above-set upper lower lower' i 0 above is upper' (subst (λ bit. IsMarkedAs upper upper' (i / 64) bit) e to)

pub above-grown : (upper lower upper' lower' : List ℕ) → AreAbove upper lower → ((k : ℕ) → word upper' k ≡ word upper k) → ((k : ℕ) → word lower' k ≡ word lower k) → length lower' ≤ 64 * length upper' → AreAbove upper' lower'
above-grown upper lower upper' lower' above up low room = record {
  marked = λ k. mark-word upper' upper k (up (k / 64)) ∙ above.marked k ∙ ap (min 1) (sym (low k));
  room = room;
}

-- one word above one
module _ (any w : ℕ) (is : any ≡ min 1 w) where
  above-first : (k : ℕ) → k ≡ 0 → mark (any ∷ []) k ≡ min 1 (word (w ∷ []) k)
  unfolding mark
  above-first k z =
      ap (mark (any ∷ [])) z ∙ bit_at_lowest any ∙ omega arith ∙ ap (λ j. min 1 (word (w ∷ []) j)) (sym z)

  no-mark : (k : ℕ) → k ≢ 0 → mark (any ∷ []) k ≡ 0
  unfolding mark
  no-mark k d =
      ⊎_elim (λ (h : k < 64).
      let z : k / 64 ≡ 0 = omega arith in
      ap (λ j. bit_at (get_or (any ∷ []) j 0) (k % 64)) z ∙ bit_at_above any 1 (k % 64) (omega arith) (omega arith)) (λ (h : 64 ≤ k). mark-past (any ∷ []) k (omega arith)) (cases_lt k 64)

  pub above-one : AreAbove (any ∷ []) (w ∷ [])
  above-one = record {
    marked = λ k.
        ⊎_elim (above-first k) (λ d.
        let past : word (w ∷ []) k ≡ 0 = get_or_past (w ∷ []) k 0 (omega arith) in
        no-mark k d ∙ ap (min 1) (sym past)) (cases_eq k 0);
    room = omega arith;
  }

pub above-of : (upper lower : List ℕ) (any w : ℕ) → upper ≡ any ∷ [] → lower ≡ w ∷ [] → any ≡ min 1 w → AreAbove upper lower
above-of upper lower any w up low is =
    subst (λ t. AreAbove t lower) (sym up) (subst (λ t. AreAbove (any ∷ []) t) (sym low) (above-one any w is))

-- ---- one word alone

pub one-marked : (w w' i bit : ℕ) → i < 64 → IsWordWith w w' i bit → IsMarkedAs (w ∷ []) (w' ∷ []) i bit
one-marked w w' i bit h with =
    let z : i / 64 ≡ 0 = omega arith in
    let m : i ≡ i % 64 = omega arith in
    let e : w ≡ word (w ∷ []) (i / 64) = ap (word (w ∷ [])) (sym z) in
    let with' : IsWordWith (word (w ∷ []) (i / 64)) w' (i % 64) bit = subst (λ x. IsWordWith x w' (i % 64) bit) e (subst (λ j. IsWordWith w w' j bit) m with) in
    subst (λ k. IsMarkedAs (w ∷ []) (set (w ∷ []) k w') i bit) z (marked-as (w ∷ []) i w' bit (omega arith) with')

pub one-past : (w from : ℕ) → 64 ≤ from → (n : ℕ) → from ≤ n → mark (w ∷ []) n ≡ 0
one-past w from h n l = mark-past (w ∷ []) n (omega arith)

module _ (w from : ℕ) (within : from < 64) where
  same_word : w ≡ word (w ∷ []) (from / 64)
  same_word = let z : 0 ≡ from / 64 = omega arith in ap (word (w ∷ [])) z

  same_bit : from ≡ from % 64
  same_bit = omega arith

  -- the first number that is marked in one word
  pub one-next : (found : Option ℕ) → MatchOption found ((i : ℕ) → from ≤ i → bit_at w i ≡ 0) (IsLowestFrom w from) → IsNextMark (w ∷ []) from found
  one-next None none = λ n h.
      ⊎_elim (λ (b : n < 64). clear-read (w ∷ []) from w same_word (λ j l. none j (omega arith)) n h (omega arith)) (λ (b : 64 ≤ n). mark-past (w ∷ []) n (omega arith)) (cases_lt n 64)
  one-next (Some b) low =
      let e : 64 * (from / 64) + b ≡ b = omega arith in
      subst (IsNextAt (w ∷ []) from) e (next-read (w ∷ []) from w b same_word (subst (λ j. IsLowestFrom w j b) same_bit low))
