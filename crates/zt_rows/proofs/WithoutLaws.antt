-- Removing twice is removing both sets, and collecting is the removal of any set that was built one object at
-- a time until nothing went: the order does not matter.
use Rattle.std.proofs.Common.{◌≡◌, ℕ, zero, suc, Bool, true, false, cond, ◌&&◌, ◌||◌, inl, inr, refl, sym, ap, ◌∙◌}
use Rattle.std.specs.Prelude.{Option, None, Some, option_and_then, if◌then◌else◌, ◌==◌, length}
use Rattle.std.proofs.lemmas.Bool.{eqb-true}
use Rattle.zt_rows.specs.declared.keys.RowKey.{RowKey}
use Rattle.zt_rows.specs.declared.keys.RowKey.TheVariants as key
use Rattle.zt_rows.specs.declared.rows.ObjectRow.{ObjectRow}
use Rattle.zt_rows.specs.declared.rows.Row.{Row}
use Rattle.zt_rows.specs.declared.rows.Row.TheVariants as rows
use Rattle.zt_rows.specs.State.{State, row}
use Rattle.zt_rows.specs.Reads.{objects, message, is_live_job, is_live_process}
use Rattle.zt_rows.specs.Tests.{exists, is_endpoint}
use Rattle.zt_rows.specs.Support.{root_job, is_supported}
use Rattle.zt_rows.specs.Collect.{unlinked, left, without, goes, rounds, collect}
use Rattle.zt_rows.specs.Justified.{Justified, none_yet, one_more}
use Rattle.zt_rows.proofs.StateLaws.{same_state}
use Rattle.zt_rows.proofs.RowLaws.{or_true, true≢false, not_true, same_test}
use Rattle.zt_rows.proofs.ReadLaws.{exists-some, some-exists, row-without, message-without, entry-without, stayed, stays, message-stayed}
use Rattle.zt_rows.proofs.SupportLaws.{KeptBy, by_entry, by_message, by_child, by_itself, supported-kept, kept-supported}
use Rattle.zt_rows.proofs.SoundLaws.{is_running_task, task-not-endpoint, and_no_left, link-kept}
use Rattle.zt_rows.proofs.CollectLaws.{goes-there, goes-free, stays-supported, without-none, collect-supported}

-- what is in one of two sets
abbrev pub either : (ℕ → Bool) → (ℕ → Bool) → ℕ → Bool
either b c x = b x || c x

-- ---- twice

link-twice : (c : ℕ → Bool) (l : ℕ) (e t : Bool) → ◌≡◌ {A = ℕ} (if e && c (if e && t then 0 else l) then 0 else (if e && t then 0 else l)) (if e && (t || c l) then 0 else l)
link-twice c l false t = refl
link-twice c l true true = elim (c 0) as (λ b. ◌≡◌ {A = ℕ} (if b then 0 else 0) 0) [ true ↦ refl | false ↦ refl ]
link-twice c l true false = refl

unlinked-twice : (b c : ℕ → Bool) (o : ObjectRow) → unlinked c (unlinked b o) ≡ unlinked (either b c) o
unlinked-twice b c o =
    let link : (unlinked c (unlinked b o)).link ≡ (unlinked (either b c) o).link = link-twice c o.link (is_endpoint o.kind) (b o.link) in
    λ i. record { kind = o.kind; signals = o.signals; link = link i; life = o.life; next = o.next; critical = o.critical }

twice_of : (s t : Bool) (f : Row → Option Row) (r q : Row) → f r ≡ (if t then None else Some q) → option_and_then f (if s then None else Some r) ≡ (if s || t then None else Some q)
twice_of true t f r q e = refl
twice_of false t f r q e = e

left-twice : (b c : ℕ → Bool) (k : RowKey) (r : Row) → option_and_then (left c k) (left b k r) ≡ left (either b c) k r
left-twice b c (key.Object x) (rows.Object o) =
    twice_of (b x) (c x) (left c (key.Object x)) (rows.Object (unlinked b o)) (rows.Object (unlinked (either b c) o)) (ap (λ z. if c x then None else Some (rows.Object z)) (unlinked-twice b c o))
left-twice b c (key.Msg e n) (rows.Msg m) = twice_of (b e) (c e) (left c (key.Msg e n)) (rows.Msg m) (rows.Msg m) refl
left-twice b c (key.Packet p n) (rows.Packet k) = twice_of (b p) (c p) (left c (key.Packet p n)) (rows.Packet k) (rows.Packet k) refl
left-twice b c (key.Wait n) (rows.Wait w) = twice_of (b w.port) (c w.port) (left c (key.Wait n)) (rows.Wait w) (rows.Wait w) refl
left-twice b c k r = refl

and_then_twice : (b c : ℕ → Bool) (k : RowKey) (r : Option Row) → option_and_then (left c k) (option_and_then (left b k) r) ≡ option_and_then (left (either b c) k) r
and_then_twice b c k None = refl
and_then_twice b c k (Some r) = left-twice b c k r

-- to remove one set and then another is to remove both
pub without-twice : (S : State) (b c : ℕ → Bool) → without (without S b) c ≡ without S (either b c)
without-twice S b c =
    same_state (without (without S b) c) (without S (either b c)) (λ k.
    row-without c (without S b) k ∙ ap (option_and_then (left c k)) (row-without b S k) ∙ and_then_twice b c k (row S k) ∙ sym (row-without (either b c) S k))

-- ---- a set within another

abbrev pub Within : (ℕ → Bool) → (ℕ → Bool) → Type 0
Within b c = (x : ℕ) → b x ≡ true → c x ≡ true

-- nothing goes once the set is gone
abbrev pub IsLast : State → (ℕ → Bool) → Type 0
IsLast S b = (x : ℕ) → goes (without S b) x ≡ false

outside : (b c : ℕ → Bool) → Within b c → (x : ℕ) → c x ≡ false → b x ≡ false
outside b c h x e = not_true (b x) (λ t. true≢false (c x) (h x t) e)

-- what keeps an object when more went keeps it when less went
kept-more : (S : State) (b c : ℕ → Bool) → Within b c → (x : ℕ) → KeptBy (without S c) x → KeptBy (without S b) x
kept-more S b c h x (by_entry p v held e g) = by_entry p v held (entry-without b S p v ∙ sym (entry-without c S p v) ∙ e) g
kept-more S b c h x (by_message e n m held f l g) =
    let w = message-stayed c S e n m f in
    by_message e n m held (message-without b S e n ∙ ap (λ z. cond z None (message S e n)) (outside b c h e w.0) ∙ w.1) l g
kept-more S b c h x (by_child o y d f live there task g) =
    let p = stayed c S x o f in
    let q = stayed c S y d there in
    let job : is_live_job p.0 ≡ true = ap is_live_job (sym p.2) ∙ live in
    let runs : is_running_task q.0 ≡ true = ap is_running_task (sym q.2) ∙ task in
    let plain : is_endpoint q.0.kind ≡ false = task-not-endpoint q.0 runs in
    let old : q.0.link ≡ x = sym (link-kept c q.0 (and_no_left (is_endpoint q.0.kind) (c q.0.link) plain)) ∙ ap (λ (z : ObjectRow). z.link) (sym q.2) ∙ g in
    by_child (unlinked b p.0) y (unlinked b q.0) (stays b S x p.0 p.1 (outside b c h x p.3)) job (stays b S y q.0 q.1 (outside b c h y q.3)) runs (link-kept b q.0 (and_no_left (is_endpoint q.0.kind) (b q.0.link) plain) ∙ old)
kept-more S b c h x (by_itself o f t) =
    let p = stayed c S x o f in
    by_itself (unlinked b p.0) (stays b S x p.0 p.1 (outside b c h x p.3)) (ap (λ (z : ObjectRow). is_live_process z || (x == root_job)) (sym p.2) ∙ t)

-- what goes once a set is gone is in each last set around it
pub goes-within : (S : State) (b c : ℕ → Bool) → Within b c → IsLast S c → (x : ℕ) → goes (without S b) x ≡ true → c x ≡ true
goes-within S b c h last x g =
    elim (c x) as (λ z. c x ≡ z → z ≡ true) [
      | true ↦ λ _. refl
      | false ↦ λ e.
          let w = some-exists (without S b) x (goes-there (without S b) x g) in
          let p = stayed b S x w.0 w.1 in
          let there : exists (without S c) x ≡ true = exists-some (without S c) x (unlinked c p.0) (stays c S x p.0 p.1 e) in
          let kept : KeptBy (without S c) x = supported-kept (without S c) x (stays-supported (without S c) x (last x) there) in
          absurd (true≢false (is_supported (without S b) x) (kept-supported (without S b) x (kept-more S b c h x kept)) (goes-free (without S b) x g))
    ] refl

-- a set that was built one at a time is within each last one
pub justified-within : (S : State) (b c : ℕ → Bool) → Justified S b → IsLast S c → Within b c
justified-within S b c none_yet last x e = cc
justified-within S b c (one_more {going = a} y j g) last x e = elim (or_true (x == y) (a x) e) [
  | inl t ↦ ap c (eqb-true x y t) ∙ goes-within S a c (justified-within S a c j last) last y g
  | inr t ↦ justified-within S a c j last x t
]

-- ---- collecting removes a set, which is within each last one

abbrev Collects : State → ℕ → (ℕ → Bool) → Type 0
Collects S n c = (d : ℕ → Bool) × (rounds n (without S c) ≡ without S d) × ((b : ℕ → Bool) → IsLast S b → Within d b)

rounds-set : (S : State) (n : ℕ) (c : ℕ → Bool) → ((b : ℕ → Bool) → IsLast S b → Within c b) → Collects S n c
unfolding rounds
rounds-set S zero c h = (c, refl, h)
rounds-set S (suc n) c h =
    let more : ℕ → Bool = goes (without S c) in
    let within : (b : ℕ → Bool) → IsLast S b → Within (either c more) b = λ b last x e. elim (or_true (c x) (more x) e) [ inl t ↦ h b last x t | inr t ↦ goes-within S c b (h b last) last x t ] in
    let rest : Collects S n (either c more) = rounds-set S n (either c more) within in
    (rest.0, ap (rounds n) (without-twice S c more) ∙ rest.1, rest.2)

pub collect-set : (S : State) → (d : ℕ → Bool) × (collect S ≡ without S d) × ((b : ℕ → Bool) → IsLast S b → Within d b)
unfolding collect
collect-set S =
    let w : Collects S (length (objects S)) (λ _. false) = rounds-set S (length (objects S)) (λ _. false) (λ b last x e. cc) in
    (w.0, ap (rounds (length (objects S))) (sym (without-none S (λ _. false) (λ x. refl))) ∙ w.1, w.2)

-- collecting is the removal of a set that was built one object at a time until nothing went
pub collect-justified : (S : State) (b : ℕ → Bool) → Justified S b → ((x : ℕ) → goes (without S b) x ≡ false) → collect S ≡ without S b
collect-justified S b j last =
    let w = collect-set S in
    let d_last : IsLast S w.0 = λ x. ap (λ z. goes z x) (sym w.1) ∙ collect-supported S x in
    let same : (x : ℕ) → w.0 x ≡ b x = λ x. same_test (w.0 x) (b x) (w.2 b last x) (justified-within S b w.0 j d_last x) in
    w.1 ∙ ap (without S) (λ i x. same x i)
