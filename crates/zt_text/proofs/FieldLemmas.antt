-- What a field of a form reads as, by what the next field is.
use Rattle.std.proofs.Common.{◌≡◌, ℕ, false, List, [], ◌∷◌, Option, Some, None, Result, Ok, Err, refl, ap, sym, ◌∙◌, subst, ◌+◌, ◌-◌, ◌≤◌, length, arith}
use Rattle.zt_rows.specs.declared.refusals.Refusal.{Refusal}
use Rattle.zt_rows.specs.declared.refusals.Refusal.TheVariants.{BadLine}
use Rattle.std.specs.Option.{ok_or}
use denote.Ref.{Bor}
use Rattle.zt_text.specs.Fields.{Placed, Unread, placed, ◌>>=◌, next, first_of, none_of, ended, field, flag, flag_of}
use Rattle.zt_text.specs.ProofsOnly.Cut.{unread_of, IsCut, IsInFront}

surplus : (fields : List Placed) (behind : ℕ) (x : Placed × Unread) → Ok x ≡ first_of fields behind → Err (BadLine x.0.column) ≡ none_of fields
surplus [] behind x h = cc
surplus (f ∷ fs) behind x h = let same : x ≡ (f, record { fields = fs; behind = behind }) = cc in rw same refl

-- a next field is a surplus one
pub ended_surplus : (left : Unread) (x : Placed × Unread) → Ok x ≡ next left → Err (BadLine x.0.column) ≡ ended left
unfolding ended
ended_surplus left x h = surplus left.fields left.behind x h

nothing : (fields : List Placed) (behind : ℕ) (e : Refusal) → Err e ≡ first_of fields behind → Ok tt ≡ none_of fields
nothing [] behind e h = refl
nothing (f ∷ fs) behind e h = cc

-- where there is none, every field is read
pub ended_none : (left : Unread) (e : Refusal) → Err e ≡ next left → Ok tt ≡ ended left
unfolding ended
ended_none left e h = nothing left.fields left.behind e h

-- the next field is what is cut off in front of the first space
pub next_cut : (view : Unread) (left : Option (Bor (List ℕ))) (l : Bor (List ℕ)) (n : ℕ) (first : List ℕ) (rest : Option (Bor (List ℕ))) → left ≡ Some l → unread_of left n ≡ view → length l.now ≤ n → IsCut 32 l.now first rest → Ok (record { column = n - length l.now + 1; bytes = first }, unread_of rest n) ≡ next view
unfolding placed
next_cut view left l n first None is seen low (fields, same) =
    let at : unread_of (Some l) n ≡ view = ap (λ o. unread_of o n) (sym is) ∙ seen in
    subst (λ v. Ok (record { column = n - length l.now + 1; bytes = first }, unread_of None n) ≡ next v) at (rw fields refl)
next_cut view left l n first (Some r) is seen low (fields, lengths) =
    let at : unread_of (Some l) n ≡ view = ap (λ o. unread_of o n) (sym is) ∙ seen in
    let column : n - length r.now + 1 ≡ n - length l.now + 1 + length first + 1 = omega arith in
    subst (λ v. Ok (record { column = n - length l.now + 1; bytes = first }, unread_of (Some r) n) ≡ next v) at (rw (fields, column) refl)

-- where nothing is left, the next field is missing
pub next_missing : (view : Unread) (left : Option (Bor (List ℕ))) (n : ℕ) → left ≡ None → unread_of left n ≡ view → Err (BadLine (n + 1)) ≡ next view
next_missing view left n is seen =
    let at : unread_of None n ≡ view = ap (λ o. unread_of o n) (sym is) ∙ seen in
    subst (λ v. Err (BadLine (n + 1)) ≡ next v) at refl

reads_as : {A : Type 0} (form : List ℕ → Option A) (view : Unread) (x : Placed × Unread) (value : A)
    → Ok x ≡ next view → form x.0.bytes ≡ Some value → Ok (value, x.1) ≡ field form view
unfolding field
reads_as {A = A} form view x value is reads =
    ap (λ (o : Option A). ok_or o (BadLine x.0.column) >>= λ v. Ok (v, x.1)) (sym reads)
    ∙ ap (λ (r : Result (Placed × Unread) Refusal). r >>= λ first. (ok_or (form first.0.bytes) (BadLine first.0.column) >>= λ v. Ok (v, first.1))) is

-- what the field in front reads as is what the next field does
pub field_in_front : {A : Type 0} (form : List ℕ → Option A) (view : Unread) (left : Option (Bor (List ℕ))) (l : Bor (List ℕ)) (n : ℕ) (read : A × Option (Bor (List ℕ)))
    → left ≡ Some l → unread_of left n ≡ view → length l.now ≤ n → IsInFront form l.now read → Ok (read.0, unread_of read.1 n) ≡ field form view
field_in_front form view left l n read is seen low (first, cut, reads) =
    reads_as form view (record { column = n - length l.now + 1; bytes = first }, unread_of read.1 n) read.0 (next_cut view left l n first read.1 is seen low cut) reads

-- where nothing is left there is no field
no_fields : (view : Unread) (left : Option (Bor (List ℕ))) (n : ℕ) → left ≡ None → unread_of left n ≡ view → view.fields ≡ []
no_fields view left n is seen = ap (λ (u : Unread). u.fields) (sym (ap (λ o. unread_of o n) (sym is) ∙ seen))

pub ended_there : (view : Unread) (left : Option (Bor (List ℕ))) (n : ℕ) → left ≡ None → unread_of left n ≡ view → Ok tt ≡ ended view
unfolding ended
ended_there view left n is seen = ap none_of (sym (no_fields view left n is seen))

pub flag_missing : (word : List ℕ) (view : Unread) (left : Option (Bor (List ℕ))) (n : ℕ) → left ≡ None → unread_of left n ≡ view → Ok false ≡ flag word view
unfolding flag
flag_missing word view left n is seen = ap (flag_of word) (sym (no_fields view left n is seen))
