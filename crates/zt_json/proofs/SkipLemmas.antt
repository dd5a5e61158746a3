-- Reading so many fields, one at a time.
use Rattle.std.proofs.Common.{◌≡◌, ℕ, ◌+◌, ◌-◌, ◌<◌, ◌≤◌, suc, Some, None, refl, ap, ◌∙◌, add-one, arith}
use Rattle.zt_json.specs.Values.{◌>>=◌}
use Rattle.zt_json.specs.Made.{Made, Pair, taken}
use Rattle.zt_json.specs.Lives.{skipped}

more : (n m : ℕ) (made : Made) → n ≡ suc m → skipped n made ≡ (taken made >>= λ field. skipped m field.1)
unfolding skipped
more n m made h = rw h refl

one_less : (count at : ℕ) → at < count → count - at ≡ suc (count - (at + 1))
one_less count at h = let e : count - at ≡ (count - (at + 1)) + 1 = omega arith in e ∙ add-one (count - (at + 1))

pub skipped_some : (count at : ℕ) (made after : Made) (field : Pair) → at < count → taken made ≡ Some (field, after) → skipped (count - at) made ≡ skipped (count - (at + 1)) after
skipped_some count at made after field h e =
    more (count - at) (count - (at + 1)) made (one_less count at h) ∙ ap (λ o. o >>= λ f. skipped (count - (at + 1)) f.1) e

pub skipped_none : (count at : ℕ) (made : Made) → at < count → taken made ≡ None → skipped (count - at) made ≡ None
skipped_none count at made h e =
    more (count - at) (count - (at + 1)) made (one_less count at h) ∙ ap (λ o. o >>= λ f. skipped (count - (at + 1)) f.1) e

pub skipped_all : (count at : ℕ) (made : Made) → count ≤ at → skipped (count - at) made ≡ Some made
unfolding skipped
skipped_all count at made h = let e : count - at ≡ 0 = omega arith in rw e refl
