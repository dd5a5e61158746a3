-- What ends with a live process or job is closed, has it, and lies inside every closed set that has it.
use Rattle.std.proofs.Common.{◌≡◌, ◌≢◌, ◌≤◌, ◌<◌, ℕ, zero, suc, ◌+◌, Bool, true, false, not, ◌&&◌, ◌||◌, List, [], ◌∷◌, ◌⊎◌, inl, inr, refl, sym, ap, ◌∙◌, subst, arith}
use Rattle.std.specs.Prelude.{None, Some, ◌==◌, nat_lt, if◌then◌else◌}
use Rattle.std.proofs.lemmas.Bool.{eqb-true, eq-eqb, ltb-true, ltb-false, cases_lt}
use Rattle.zt_bits.specs.declared.kinds.Kind.{Kind}
use Rattle.zt_bits.specs.declared.kinds.Kind.TheVariants as kind
use Rattle.zt_rows.specs.declared.keys.RowKey.{RowKey}
use Rattle.zt_rows.specs.declared.keys.RowKey.TheVariants as key
use Rattle.zt_rows.specs.declared.rows.ObjectRow.{ObjectRow}
use Rattle.zt_rows.specs.declared.rows.Row.{Row}
use Rattle.zt_rows.specs.declared.rows.Row.TheVariants as rows
use Rattle.zt_rows.specs.State.{State}
use Rattle.zt_rows.specs.Reads.{as_object, object, object_at, objects, is_live, is_job, is_process, is_live_job, is_live_process}
use Rattle.zt_rows.specs.Tests.{among}
use Rattle.zt_rows.specs.Support.{root_job}
use Rattle.zt_rows.specs.End.{chain, is_under, IsClosed, critical_of, criticals, smallest, highest, top, job_or_critical, job_ending, ends_with}
use Rattle.zt_rows.specs.Consistent.{IsSound}
use Rattle.zt_rows.proofs.RowLaws.{In, or_left, or_right, and_left, and_right, and_both, true≢false, not_true, in-filter_map, filter_map-in, row-in, in-row}
use Rattle.zt_rows.proofs.ReadLaws.{some_one, object-row}
use Rattle.zt_rows.proofs.SoundLaws.{is_running_task, process-not-job}
use Rattle.zt_rows.proofs.AboveLaws.{above-live, above-order, under-cases, under-itself, under-above, under-under}

-- ---- the smallest number

least_of : (m n : ℕ) → ((if nat_lt m n then m else n) ≤ n) × ((if nat_lt m n then m else n) ≤ m)
least_of m n = elim (nat_lt m n) as (λ b. nat_lt m n ≡ b → ((if b then m else n) ≤ n) × ((if b then m else n) ≤ m)) [
  | true ↦ λ t. let less : m < n = ltb-true m n t in (omega arith, omega arith)
  | false ↦ λ f. let more : n ≤ m = ltb-false m n f in (omega arith, omega arith)
] refl

smallest-low : (n : ℕ) (ms : List ℕ) → smallest n ms ≤ n
smallest-low n [] = omega arith
smallest-low n (m ∷ ms) =
    let next : ℕ = if nat_lt m n then m else n in
    let a : smallest next ms ≤ next = smallest-low next ms in
    let b : next ≤ n = (least_of m n).0 in
    omega arith

smallest-in : (n m : ℕ) (ms : List ℕ) → In m ms → smallest n ms ≤ m
smallest-in n m [] h = absurd h
smallest-in n m (k ∷ ms) (inl is) =
    let next : ℕ = if nat_lt k n then k else n in
    let a : smallest next ms ≤ next = smallest-low next ms in
    let b : next ≤ k = (least_of k n).1 in
    omega arith
smallest-in n m (k ∷ ms) (inr h) = smallest-in (if nat_lt k n then k else n) m ms h

smallest-is : (n : ℕ) (ms : List ℕ) → (smallest n ms ≡ n) ⊎ In (smallest n ms) ms
smallest-is n [] = inl refl
smallest-is n (m ∷ ms) = elim (nat_lt m n) as (λ b. (smallest (if b then m else n) ms ≡ n) ⊎ In (smallest (if b then m else n) ms) (m ∷ ms)) [
  | true ↦ elim (smallest-is m ms) [ inl is ↦ inr (inl is) | inr h ↦ inr (inr h) ]
  | false ↦ elim (smallest-is n ms) [ inl is ↦ inl is | inr h ↦ inr (inr h) ]
]

-- ---- the jobs that processes under a job are critical to

not_zero : (n : ℕ) → n ≢ 0 → not (n == 0) ≡ true
not_zero n h = ap not (not_true (n == 0) (λ t. h (eqb-true n 0 t)))

is_not_zero : (n : ℕ) → not (n == 0) ≡ true → n ≢ 0
is_not_zero zero h e = cc
is_not_zero (suc n) h e = omega arith

in-objects_of : (S : State) (x : ℕ) (o : ObjectRow) (k : RowKey) (r : Row) → In (k, r) S.rows → object_at (k, r) ≡ Some (x, o) → object S x ≡ Some o
in-objects_of S x o (key.Object y) (rows.Object q) h e =
    let same : (y, q) ≡ (x, o) = some_one _ _ e in
    let there : object S y ≡ Some q = ap as_object (in-row S (key.Object y) (rows.Object q) h) in
    ap (object S) (sym (ap (λ (p : ℕ × ObjectRow). p.0) same)) ∙ there ∙ ap Some (ap (λ (p : ℕ × ObjectRow). p.1) same)
in-objects_of S x o _ _ h e = cc

pub in-objects : (S : State) (x : ℕ) (o : ObjectRow) → In (x, o) (objects S) → object S x ≡ Some o
unfolding objects
in-objects S x o h = let w = in-filter_map object_at (x, o) S.rows h in in-objects_of S x o w.0.0 w.0.1 w.1 w.2

pub objects-in : (S : State) (x : ℕ) (o : ObjectRow) → object S x ≡ Some o → In (x, o) (objects S)
unfolding objects
objects-in S x o e = filter_map-in object_at (x, o) (key.Object x, rows.Object o) S.rows (row-in S (key.Object x) (rows.Object o) (object-row S x o e)) refl

some_if : (b : Bool) (v w : ℕ) → (if b then Some v else None) ≡ Some w → (b ≡ true) × (v ≡ w)
some_if true v w e = (refl, some_one v w e)
some_if false v w e = cc

-- an object under the job is critical to this one
record Leads (S : State) (job to : ℕ) : Type 0 where
  x : ℕ
  o : ObjectRow
  there : object S x ≡ Some o
  under : is_under S job x ≡ true
  critical : o.critical ≡ to
  some : o.critical ≢ 0

leads : (S : State) (job to : ℕ) → In to (criticals S job) → Leads S job to
leads S job to h =
    let w = in-filter_map (critical_of S job) to (objects S) h in
    let x : ℕ = w.0.0 in
    let o : ObjectRow = w.0.1 in
    let e = some_if (is_under S job x && not (o.critical == 0)) o.critical to w.2 in
    record {
      x = x;
      o = o;
      there = in-objects S x o w.1;
      under = and_left (is_under S job x) _ e.0;
      critical = e.1;
      some = is_not_zero o.critical (and_right (is_under S job x) _ e.0);
    }

critical-in : (S : State) (job x : ℕ) (o : ObjectRow) → object S x ≡ Some o → is_under S job x ≡ true → o.critical ≢ 0 → In o.critical (criticals S job)
critical-in S job x o e under some =
    filter_map-in (critical_of S job) o.critical (x, o) (objects S) (objects-in S x o e)
    (ap (λ b. if b then Some o.critical else None) (and_both (is_under S job x) _ under (not_zero o.critical some)))

-- what an object of a sound state is critical to is a live job above it, and the object a live process
record Bound (S : State) (x : ℕ) (o : ObjectRow) : Type 0 where
  live : is_live_process o ≡ true
  above : among (chain S x) o.critical ≡ true
  job : ObjectRow
  there : object S o.critical ≡ Some job
  lives : is_live_job job ≡ true

bound : (S : State) → IsSound S → (x : ℕ) (o : ObjectRow) → object S x ≡ Some o → o.critical ≢ 0 → Bound S x o
bound S sound x o e some = elim (sound.criticals x o e) [
  | inl none ↦ absurd (some none)
  | inr w ↦
      let v = above-live S sound x o e (or_right (is_live_job o) _ w.0) o.critical w.1 in
      record { live = w.0; above = w.1; job = v.0; there = v.1; lives = v.2 }
]

-- ---- a live job or process, told apart by its kind

job_lives : (k : Kind) (lives : Bool) → is_job k ≡ true → ((is_job k && lives) || (is_process k && lives)) ≡ true → (is_job k && lives) ≡ true
job_lives kind.Job true e t = refl
job_lives kind.Job false e t = cc
job_lives _ lives e t = cc

process_lives : (k : Kind) (lives : Bool) → is_job k ≡ false → ((is_job k && lives) || (is_process k && lives)) ≡ true → (is_process k && lives) ≡ true
process_lives kind.Job lives e t = cc
process_lives kind.Process lives e t = t
process_lives _ lives e t = cc

-- ---- from a job to the highest

module _ (S : State) (sound : IsSound S) where
  -- a process is at another koid than a job
  apart : (x : ℕ) (o : ObjectRow) → object S x ≡ Some o → is_live_process o ≡ true → (j : ℕ) (q : ObjectRow) → object S j ≡ Some q → is_live_job q ≡ true → x ≡ j → ⊥
  apart x o e live j q h job same = process-not-job o live (ap is_live_job (some_one o q (sym e ∙ ap (object S) same ∙ h)) ∙ job)

  -- a process under a live job that is critical to a job of no greater koid has it above the job, or is critical to the job
  critical-over : (j : ℕ) (q : ObjectRow) → object S j ≡ Some q → is_live_job q ≡ true → (x : ℕ) (o : ObjectRow) → object S x ≡ Some o → is_under S j x ≡ true → (b : Bound S x o) → o.critical ≤ j → is_under S o.critical j ≡ true
  critical-over j q h job x o e under b low = elim (under-cases S j x under) [
    | inl same ↦ absurd (apart x o e b.live j q h job same)
    | inr w ↦ elim (above-order S sound x o e (or_right (is_live_job o) _ b.live) j o.critical w.3 b.above low) [
      | inl is ↦ under-itself S o.critical j is
      | inr far ↦ under-above S o.critical j q h (or_left _ _ job) far
    ]
  ]

  -- a live job over the first one, which no process under it is critical to one above
  record IsTop (first found : ℕ) : Type 0 where
    job : ObjectRow
    there : object S found ≡ Some job
    live : is_live_job job ≡ true
    over : is_under S found first ≡ true
    rests : smallest found (criticals S found) ≡ found

  highest-top : (n j : ℕ) → j < n → (q : ObjectRow) → object S j ≡ Some q → is_live_job q ≡ true → IsTop j (highest n S j)
  unfolding highest
  highest-top zero j few q h live = absurd (omega arith)
  highest-top (suc n) j few q h live =
      let next : ℕ = smallest j (criticals S j) in
      let low : next ≤ j = smallest-low j (criticals S j) in
      elim (next == j) as (λ b. (next == j) ≡ b → IsTop j (if b then j else highest n S next)) [
        | true ↦ λ t. record { job = q; there = h; live = live; over = under-itself S j j refl; rests = eqb-true next j t }
        | false ↦ λ f. elim (smallest-is j (criticals S j)) [
          | inl same ↦ absurd (true≢false (next == j) (eq-eqb next j same) f)
          | inr member ↦
              let w : Leads S j next = leads S j next member in
              let b : Bound S w.x w.o = bound S sound w.x w.o w.there w.some in
              let is : w.o.critical ≡ next = w.critical in
              let over : is_under S next j ≡ true = subst (λ z. is_under S z j ≡ true) is (critical-over j q h live w.x w.o w.there w.under b (subst (λ z. z ≤ j) (sym is) low)) in
              let less : next < j = strictly next j low (λ same. true≢false (next == j) (eq-eqb next j same) f) in
              let found : IsTop next (highest n S next) = highest-top n next (omega arith) b.job (subst (λ z. object S z ≡ Some b.job) is b.there) b.lives in
              record { job = found.job; there = found.there; live = found.live; over = under-under S sound (highest n S next) next j found.over over; rests = found.rests }
        ]
      ] refl
    where
      strictly : (m n : ℕ) → m ≤ n → (m ≡ n → ⊥) → m < n
      strictly m n low other = elim (cases_lt m n) [ inl less ↦ less | inr more ↦ absurd (other (omega arith)) ]

  top-closed : (first found : ℕ) → IsTop first found → IsClosed S (is_under S found)
  top-closed first found t = record {
    under = λ j x g h. under-under S sound found j x g h;
    critical = λ x o e g some.
        let b : Bound S x o = bound S sound x o e some in
        let low : smallest found (criticals S found) ≤ o.critical = smallest-in found o.critical (criticals S found) (critical-in S found x o e g some) in
        let rests : smallest found (criticals S found) ≡ found = t.rests in
        elim (under-cases S found x g) [
          | inl same ↦ absurd (apart x o e b.live found t.job t.there t.live same)
          | inr w ↦ elim (above-order S sound x o e (or_right (is_live_job o) _ b.live) o.critical found b.above w.3 (omega arith)) [
            | inl is ↦ under-itself S found o.critical is
            | inr far ↦ under-above S found o.critical b.job b.there (or_left _ _ b.lives) far
          ]
        ];
  }

  -- a closed set that has a job has the highest as well
  highest-inside : (ending : ℕ → Bool) → IsClosed S ending → (n j : ℕ) → ending j ≡ true → ending (highest n S j) ≡ true
  unfolding highest
  highest-inside ending closed zero j h = h
  highest-inside ending closed (suc n) j h =
      let next : ℕ = smallest j (criticals S j) in
      elim (next == j) as (λ b. ending (if b then j else highest n S next) ≡ true) [
        | true ↦ h
        | false ↦ highest-inside ending closed n next (elim (smallest-is j (criticals S j)) [
          | inl same ↦ subst (λ z. ending z ≡ true) (sym same) h
          | inr member ↦
              let w : Leads S j next = leads S j next member in
              subst (λ z. ending z ≡ true) w.critical (closed.critical w.x w.o w.there (closed.under j w.x h w.under) w.some)
        ])
      ]

  -- ---- what ends with a process or job

  module _ (x : ℕ) (o : ObjectRow) (here : object S x ≡ Some o) (task : is_running_task o ≡ true) where
    -- it is a live job, or a live process
    by_kind : (P : ℕ → Type 0) → (is_live_job o ≡ true → P x) → (is_live_process o ≡ true → P o.critical) → P (job_ending S x)
    by_kind P job process = subst P (sym (ap (job_or_critical x) here)) (elim (is_job o.kind) as (λ b. is_job o.kind ≡ b → P (if b then x else o.critical)) [
      | true ↦ λ e. job (job_lives o.kind (is_live o.life) e task)
      | false ↦ λ e. process (process_lives o.kind (is_live o.life) e task)
    ] refl)

    -- the job that ends where it does, which it is under
    record Starts (j : ℕ) : Type 0 where
      job : ObjectRow
      there : object S j ≡ Some job
      live : is_live_job job ≡ true
      over : is_under S j x ≡ true
      inside : (ending : ℕ → Bool) → IsClosed S ending → ending x ≡ true → ending j ≡ true

    starts : job_ending S x ≢ 0 → Starts (job_ending S x)
    starts = by_kind (λ j. j ≢ 0 → Starts j)
        (λ live some. record { job = o; there = here; live = live; over = under-itself S x x refl; inside = λ ending closed h. h })
        (λ live some.
        let b : Bound S x o = bound S sound x o here some in
        record { job = b.job; there = b.there; live = b.lives; over = under-above S o.critical x o here task b.above; inside = λ ending closed h. closed.critical x o here h some })

    some-job : (job_ending S x == 0) ≡ false → job_ending S x ≢ 0
    some-job f none = true≢false (job_ending S x == 0) (eq-eqb (job_ending S x) 0 none) f

    found-top : (job_ending S x == 0) ≡ false → IsTop (job_ending S x) (top S (job_ending S x))
    found-top f = let s : Starts (job_ending S x) = starts (some-job f) in highest-top (job_ending S x + 1) (job_ending S x) (omega arith) s.job s.there s.live

    -- where no job ends with it, it is a process that is critical to none
    alone : (job_ending S x == 0) ≡ true → (is_live_process o ≡ true) × (o.critical ≡ 0)
    alone t = by_kind (λ j. j ≡ 0 → (is_live_process o ≡ true) × (o.critical ≡ 0))
        (λ live none. let low : root_job ≤ x = (sound.of_objects x o here).low in absurd (omega arith))
        (λ live none. (live, none))
        (eqb-true (job_ending S x) 0 t)

    -- itself is among what ends with it
    pub ends-has : ends_with S x x ≡ true
    ends-has = elim (job_ending S x == 0) as (λ b. (job_ending S x == 0) ≡ b → (if b then x == x else is_under S (top S (job_ending S x)) x) ≡ true) [
      | true ↦ λ t. eq-eqb x x refl
      | false ↦ λ f. under-under S sound (top S (job_ending S x)) (job_ending S x) x (found-top f).over (starts (some-job f)).over
    ] refl

    closed-alone : is_live_process o ≡ true → o.critical ≡ 0 → IsClosed S (λ y. y == x)
    closed-alone live none = record {
      under = λ j y g h.
          let same : j ≡ x = eqb-true j x g in
          elim (under-cases S j y h) [
            | inl is ↦ eq-eqb y x (is ∙ same)
            | inr w ↦ let v = above-live S sound y w.0 w.1 w.2 j w.3 in absurd (apart x o here live j v.0 v.1 v.2 (sym same))
          ];
      critical = λ y q e g some.
          let is : q ≡ o = some_one q o (sym e ∙ ap (object S) (eqb-true y x g) ∙ here) in
          absurd (some (ap (λ (z : ObjectRow). z.critical) is ∙ none));
    }

    -- what ends with it is closed
    pub ends-closed : IsClosed S (ends_with S x)
    ends-closed = elim (job_ending S x == 0) as (λ b. (job_ending S x == 0) ≡ b → IsClosed S (λ y. if b then y == x else is_under S (top S (job_ending S x)) y)) [
      | true ↦ λ t. let w = alone t in closed-alone w.0 w.1
      | false ↦ λ f. top-closed (job_ending S x) (top S (job_ending S x)) (found-top f)
    ] refl

    -- and is in every closed set that has it
    pub ends-inside : (ending : ℕ → Bool) → IsClosed S ending → ending x ≡ true → (y : ℕ) → ends_with S x y ≡ true → ending y ≡ true
    ends-inside ending closed h y = elim (job_ending S x == 0) as (λ b. (job_ending S x == 0) ≡ b → (if b then y == x else is_under S (top S (job_ending S x)) y) ≡ true → ending y ≡ true) [
      | true ↦ λ t g. subst (λ z. ending z ≡ true) (sym (eqb-true y x g)) h
      | false ↦ λ f g. closed.under (top S (job_ending S x)) y (highest-inside ending closed (job_ending S x + 1) (job_ending S x) ((starts (some-job f)).inside ending closed h)) g
    ] refl

    -- all that ends with it is live
    pub ends-live : (y : ℕ) → ends_with S x y ≡ true → (q : ObjectRow) × (object S y ≡ Some q) × (is_running_task q ≡ true)
    ends-live y = elim (job_ending S x == 0) as (λ b. (job_ending S x == 0) ≡ b → (if b then y == x else is_under S (top S (job_ending S x)) y) ≡ true → (q : ObjectRow) × (object S y ≡ Some q) × (is_running_task q ≡ true)) [
      | true ↦ λ t g. (o, ap (object S) (eqb-true y x g) ∙ here, task)
      | false ↦ λ f g.
          let t : IsTop (job_ending S x) (top S (job_ending S x)) = found-top f in
          elim (under-cases S (top S (job_ending S x)) y g) [
            | inl is ↦ (t.job, ap (object S) is ∙ t.there, or_left _ _ t.live)
            | inr w ↦ (w.0, w.1, w.2)
          ]
    ] refl
