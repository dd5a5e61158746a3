-- Each happening holds of one object at most once on a path: afterwards the object is past it, and what is past it
-- stays so, since a koid is given out once, what has ended does not live again, what lost its peer finds no other,
-- and what is leaked stays so.
use Rattle.std.proofs.Common.{◌≡◌, ◌≤◌, ◌<◌, ℕ, ◌-◌, Bool, true, false, not, ◌&&◌, List, [], ◌∷◌, length, inl, inr, refl, sym, ap, ◌∙◌, subst, arith}
use Rattle.std.specs.Prelude.{Option, None, Some, if◌then◌else◌, ◌==◌, bit_and, bit_or}
use Rattle.std.specs.List.{AllByRecursion, last_or}
use Rattle.std.specs.Int.Bits.{and_comm, and_zero_l}
use Rattle.std.proofs.lemmas.Nat.{and_assoc, and_or_self, and_or_apart}
use Rattle.std.proofs.lemmas.Bool.{eqb-true, eq-eqb}
use Rattle.zt_bits.specs.declared.kinds.Kind.{Kind}
use Rattle.zt_bits.specs.declared.kinds.Kind.TheVariants as kind
use Rattle.zt_rows.specs.declared.rows.ObjectRow.{ObjectRow}
use Rattle.zt_rows.specs.State.{State}
use Rattle.zt_rows.specs.Reads.{object, is_live, on_object}
use Rattle.zt_rows.specs.Tests.{exists, among, is_endpoint, has_all, without_bits, any_row}
use Rattle.zt_rows.specs.Settle.{is_message_of, derived_mask, bit_if, derived_by}
use Rattle.zt_rows.specs.Handles.{next_koid}
use Rattle.zt_rows.specs.Consistent.{IsSound, IsConsistent}
use Rattle.zt_rows.proofs.RowLaws.{and_left, and_right, and_both, true≢false, not_true}
use Rattle.zt_rows.proofs.ReadLaws.{some_one, exists-some, some-exists}
use Rattle.zt_rows.proofs.CallLaws.{step-consistent}
use Rattle.zt_queries.specs.Reachability.{reached}
use Rattle.zt_queries.specs.Leaks.{is_leaked}
use Rattle.zt_history.specs.RowHappenings.{is_cut_off}
use Rattle.zt_queries.specs.Happenings.{lives, lacks_peer, made, ended, peer_closed, leaked, IsCallStep, IsCallPath, moments, last_moment}
use Rattle.zt_queries.proofs.ReachLaws.{reached-least}
use Rattle.zt_queries.proofs.FollowLaws.{Aged, Was, is_new, is_old, Follows, low-koid}
use Rattle.zt_queries.proofs.LeakLaws.{leaked-lost, lost-leaked, lost-follows, follows-step}

-- ---- what holds from one state of a path to the next

pub next-consistent : (S T : State) → IsConsistent S → IsCallStep S T → IsConsistent T
next-consistent S T consistent n = subst IsConsistent (sym n.gives) (step-consistent S n.process n.call consistent n.live n.is)

pub next-follows : (S T : State) → IsConsistent S → IsCallStep S T → Follows S T
next-follows S T consistent n = subst (Follows S) (sym n.gives) (follows-step S consistent.sound n.process n.live n.call n.is)

-- ---- what happens once

-- what is past it stays past it, and then it does not happen; after it has happened all are past it
record Passes (happens : State → State → Bool) (Past : State → Type 0) : Type 0 where
  stays : (S T : State) → IsConsistent S → IsConsistent T → Follows S T → Past S → Past T
  never : (S T : State) → IsConsistent S → IsConsistent T → Follows S T → Past S → happens S T ≡ true → ⊥
  begins : (S T : State) → IsConsistent S → IsConsistent T → Follows S T → happens S T ≡ true → Past T

module _ (happens : State → State → Bool) (Past : State → Type 0) (w : Passes happens Past) where
  -- what is past it does not happen any more
  moments-none : (S : State) (path : List (ℕ × State)) → IsConsistent S → IsCallPath S path → Past S → moments happens S path ≡ []
  moments-none S [] consistent is past = refl
  moments-none S ((n, T) ∷ path) consistent is past =
      let later : IsConsistent T = next-consistent S T consistent is.0 in
      let f : Follows S T = next-follows S T consistent is.0 in
      let rest : moments happens T path ≡ [] = moments-none T path later is.1 (w.stays S T consistent later f past) in
      let here : happens S T ≡ false = not_true (happens S T) (w.never S T consistent later f past) in
      ap (λ b. if b then n ∷ moments happens T path else moments happens T path) here ∙ rest

  moments-once : (S : State) (path : List (ℕ × State)) → IsConsistent S → IsCallPath S path → length (moments happens S path) ≤ 1
  moments-once S [] consistent is = omega arith
  moments-once S ((n, T) ∷ path) consistent is =
      let later : IsConsistent T = next-consistent S T consistent is.0 in
      let f : Follows S T = next-follows S T consistent is.0 in
      elim (happens S T) as (λ b. happens S T ≡ b → length (if b then n ∷ moments happens T path else moments happens T path) ≤ 1) [
        | true ↦ λ t.
            let rest : length (moments happens T path) ≡ 0 = ap length (moments-none T path later is.1 (w.begins S T consistent later f t)) in
            omega arith
        | false ↦ λ t. moments-once T path later is.1
      ] refl

-- the last of at most one is the only one
pub last-only : (ms : List ℕ) (n : ℕ) → length ms ≤ 1 → last_or None ms ≡ Some n → ms ≡ n ∷ []
last-only [] n few e = cc
last-only (m ∷ []) n few e = ap (λ k. k ∷ []) (some_one m n e)
last-only (m ∷ k ∷ ms) n few e = absurd (omega arith)

-- ---- an object of before

pub off : (b : Bool) → not b ≡ true → b ≡ false
off true e = cc
off false e = refl

-- the koid was given out
abbrev given : ℕ → State → Type 0
given x S = x < next_koid S

pub given-stays : (S T : State) (x : ℕ) → Follows S T → given x S → given x T
given-stays S T x f g = let k : next_koid S ≤ next_koid T = f.koids in let l : x < next_koid S = g in omega arith

-- an object that is there, of a koid that was given out before, was there
pub was-old : (S T : State) (x : ℕ) → Follows S T → given x S → (q : ObjectRow) → object T x ≡ Some q → (o : ObjectRow) × (object S x ≡ Some o) × Aged o q
was-old S T x f g q e = by_was (f.objects x q e)
  where
    by_was : Was S x q → (o : ObjectRow) × (object S x ≡ Some o) × Aged o q
    by_was (is_new above fresh) = absurd (omega arith)
    by_was (is_old o h a) = (o, h, a)

pub exists-old : (S T : State) (x : ℕ) → Follows S T → given x S → exists T x ≡ true → exists S x ≡ true
exists-old S T x f g e = let w = some-exists T x e in let o = was-old S T x f g w.0 w.1 in exists-some S x o.0 o.1

-- ---- made

made-passes : (x : ℕ) → Passes (made x) (given x)
made-passes x = record {
  stays = λ S T c d f g. given-stays S T x f g;
  never = λ S T c d f g h. true≢false (exists S x) (exists-old S T x f g (and_right (not (exists S x)) _ h)) (off (exists S x) (and_left (not (exists S x)) _ h));
  begins = λ S T c d f h. low-koid T d.sound x (and_right (not (exists S x)) _ h);
}

-- ---- ended

pub of_object : (test : ObjectRow → Bool) (r : Option ObjectRow) → on_object test r ≡ true → (o : ObjectRow) × (r ≡ Some o) × (test o ≡ true)
of_object test (Some o) e = (o, refl, e)
of_object test None e = cc

pub lives-exists : (S : State) (x : ℕ) → lives S x ≡ true → exists S x ≡ true
lives-exists S x e = let w = of_object (λ (o : ObjectRow). is_live o.life) (object S x) e in exists-some S x w.0 w.1

-- what lives lived before
pub lived : (S T : State) (x : ℕ) → Follows S T → given x S → lives T x ≡ true → lives S x ≡ true
lived S T x f g e =
    let w = of_object (λ (o : ObjectRow). is_live o.life) (object T x) e in
    let o = was-old S T x f g w.0 w.1 in
    ap (on_object (λ (o : ObjectRow). is_live o.life)) o.1 ∙ o.2.life w.2

abbrev has_ended : ℕ → State → Type 0
has_ended x S = (x < next_koid S) × (lives S x ≡ false)

ended-passes : (x : ℕ) → Passes (ended x) (has_ended x)
ended-passes x = record {
  stays = λ S T c d f p. (given-stays S T x f p.0, not_true (lives T x) (λ t. true≢false (lives S x) (lived S T x f p.0 t) p.1));
  never = λ S T c d f p h. true≢false (lives S x) (and_left (lives S x) _ h) p.1;
  begins = λ S T c d f h. (
    given-stays S T x f (low-koid S c.sound x (lives-exists S x (and_left (lives S x) _ h))),
    off (lives T x) (and_right (lives S x) _ h),
  );
}

-- ---- the signal that the peer is closed

-- bits that are derived stand as they are derived
derived-stand : (bits derived bit : ℕ) → bit_and derived bit ≡ bit → bit_and (bit_or bits derived) bit ≡ bit
derived-stand bits derived bit e =
    ap (bit_and (bit_or bits derived)) (sym e) ∙ sym (and_assoc bit (bit_or bits derived) derived) ∙ ap (λ z. bit_and z bit) (and_or_self derived bits) ∙ e

derived-lack : (s mask derived bit : ℕ) → bit_and derived bit ≡ 0 → bit_and (4294967295 - mask) bit ≡ 0 → bit_and (bit_or (without_bits s mask) derived) bit ≡ 0
derived-lack s mask derived bit e out =
    and_or_apart bit (without_bits s mask) derived e ∙ and_assoc bit s (4294967295 - mask) ∙ ap (bit_and s) out ∙ and_comm s 0 ∙ and_zero_l s

stands : (s mask derived : ℕ) → bit_and derived 4 ≡ 4 → has_all (bit_or (without_bits s mask) derived) 4 ≡ true
stands s mask derived e = ap (λ z. z == 4) (derived-stand (without_bits s mask) derived 4 e)

lacks : (s mask derived : ℕ) → bit_and derived 4 ≡ 0 → bit_and (4294967295 - mask) 4 ≡ 0 → has_all (bit_or (without_bits s mask) derived) 4 ≡ false
lacks s mask derived e out = ap (λ z. z == 4) (derived-lack s mask derived 4 e out)

channel-bits : (s : ℕ) (r z : Bool) → has_all (bit_or (without_bits s 7) (bit_or (bit_if r 1) (bit_or (bit_if (not z) 2) (bit_if z 4)))) 4 ≡ z
channel-bits s true true = stands s 7 5 refl
channel-bits s true false = lacks s 7 3 refl refl
channel-bits s false true = stands s 7 4 refl
channel-bits s false false = lacks s 7 2 refl refl

pair-bits : (s : ℕ) (z : Bool) → has_all (bit_or (without_bits s 4) (bit_if z 4)) 4 ≡ z
pair-bits s true = stands s 4 4 refl
pair-bits s false = lacks s 4 0 refl refl

renewed-bits : (S : State) (x : ℕ) (o : ObjectRow) (k : Kind) → is_endpoint k ≡ true → has_all (bit_or (without_bits o.signals.0 (derived_mask k)) (derived_by k S x o)) 4 ≡ (o.link == 0)
renewed-bits S x o kind.Channel e = channel-bits o.signals.0 (any_row (is_message_of x) S) (o.link == 0)
renewed-bits S x o kind.EventPair e = pair-bits o.signals.0 (o.link == 0)
renewed-bits S x o kind.Job e = cc
renewed-bits S x o kind.Process e = cc
renewed-bits S x o kind.Event e = cc
renewed-bits S x o kind.Port e = cc

-- in a consistent state the signal stands on an endpoint where it has no peer
cut_off-is : (S : State) → IsConsistent S → (x : ℕ) (o : ObjectRow) → object S x ≡ Some o → is_endpoint o.kind ≡ true → has_all o.signals.0 0x4 ≡ (o.link == 0)
cut_off-is S c x o there ends = ap (λ s. has_all s 4) (sym (c.agrees x o there)) ∙ renewed-bits S x o o.kind ends

pub lacks_peer-is : (S : State) (x : ℕ) (o : ObjectRow) → IsConsistent S → object S x ≡ Some o → is_endpoint o.kind ≡ true → lacks_peer S x ≡ (o.link == 0)
lacks_peer-is S x o c there ends = ap (on_object is_cut_off) there ∙ ap (λ b. b && has_all o.signals.0 0x4) ends ∙ cut_off-is S c x o there ends

-- what is there and was an endpoint without a peer is one
still-cut-off : (S T : State) → IsConsistent S → IsConsistent T → (x : ℕ) (o q : ObjectRow) → object S x ≡ Some o → object T x ≡ Some q → Aged o q → is_cut_off o ≡ true → is_cut_off q ≡ true
still-cut-off S T c d x o q was is a e =
    let ends : is_endpoint o.kind ≡ true = and_left (is_endpoint o.kind) _ e in
    let still : is_endpoint q.kind ≡ true = ap is_endpoint a.kind ∙ ends in
    let none : o.link ≡ 0 = eqb-true o.link 0 (sym (cut_off-is S c x o was ends) ∙ and_right (is_endpoint o.kind) _ e) in
    let none_now : q.link ≡ 0 = elim a.link [ inl same ↦ same ∙ none | inr z ↦ z ] in
    and_both (is_endpoint q.kind) _ still (cut_off-is T d x q is still ∙ eq-eqb q.link 0 none_now)

abbrev has_no_peer : ℕ → State → Type 0
has_no_peer x S = (x < next_koid S) × (exists S x ≡ true → lacks_peer S x ≡ true)

still-lacks : (S T : State) → IsConsistent S → IsConsistent T → (x : ℕ) → Follows S T → given x S → exists T x ≡ true → lacks_peer S x ≡ true → lacks_peer T x ≡ true
still-lacks S T c d x f g e l =
    let w = some-exists T x e in
    let o = was-old S T x f g w.0 w.1 in
    let cut : is_cut_off o.0 ≡ true = sym (ap (on_object is_cut_off) o.1) ∙ l in
    ap (on_object is_cut_off) w.1 ∙ still-cut-off S T c d x o.0 w.0 o.1 w.1 o.2 cut

lacks-exists : (S : State) (x : ℕ) → lacks_peer S x ≡ true → exists S x ≡ true
lacks-exists S x e = let w = of_object is_cut_off (object S x) e in exists-some S x w.0 w.1

peer_closed-passes : (x : ℕ) → Passes (peer_closed x) (has_no_peer x)
peer_closed-passes x = record {
  stays = λ S T c d f p. (given-stays S T x f p.0, λ e. still-lacks S T c d x f p.0 e (p.1 (exists-old S T x f p.0 e)));
  never = λ S T c d f p h.
      let e : exists T x ≡ true = lacks-exists T x (and_right (not (lacks_peer S x)) _ h) in
      true≢false (lacks_peer S x) (p.1 (exists-old S T x f p.0 e)) (off (lacks_peer S x) (and_left (not (lacks_peer S x)) _ h));
  begins = λ S T c d f h.
      let l : lacks_peer T x ≡ true = and_right (not (lacks_peer S x)) _ h in
      (low-koid T d.sound x (lacks-exists T x l), λ e. l);
}

-- ---- leaked

abbrev pub has_leaked : ℕ → State → Type 0
has_leaked x S = (x < next_koid S) × (exists S x ≡ true → is_leaked S x ≡ true)

pub leaked-exists : (S : State) (x : ℕ) → is_leaked S x ≡ true → exists S x ≡ true
leaked-exists S x e = (leaked-lost S x e).there

leaked-passes : (x : ℕ) → Passes (leaked x) (has_leaked x)
leaked-passes x = record {
  stays = λ S T c d f p. (
    given-stays S T x f p.0,
    λ e. lost-leaked T x (lost-follows S T c.sound f x (leaked-lost S x (p.1 (exists-old S T x f p.0 e))) e),
  );
  never = λ S T c d f p h.
      let e : exists T x ≡ true = leaked-exists T x (and_right (not (is_leaked S x)) _ h) in
      true≢false (is_leaked S x) (p.1 (exists-old S T x f p.0 e)) (off (is_leaked S x) (and_left (not (is_leaked S x)) _ h));
  begins = λ S T c d f h.
      let l : is_leaked T x ≡ true = and_right (not (is_leaked S x)) _ h in
      (low-koid T d.sound x (leaked-exists T x l), λ e. l);
}

pub leaked-begins : (S : State) (x : ℕ) → IsConsistent S → is_leaked S x ≡ true → has_leaked x S
leaked-begins S x c l = (low-koid S c.sound x (leaked-exists S x l), λ e. l)

pub leaked-goes-on : (S T : State) (x : ℕ) → IsConsistent S → IsCallStep S T → has_leaked x S → has_leaked x T
leaked-goes-on S T x c n p = (leaked-passes x).stays S T c (next-consistent S T c n) (next-follows S T c n) p

-- ---- the laws

module _ (S : State) (path : List (ℕ × State)) (x : ℕ) (consistent : IsConsistent S) (is : IsCallPath S path) where
  pub made-once : length (moments (made x) S path) ≤ 1
  made-once = moments-once (made x) (given x) (made-passes x) S path consistent is

  pub ended-once : length (moments (ended x) S path) ≤ 1
  ended-once = moments-once (ended x) (has_ended x) (ended-passes x) S path consistent is

  pub peer_closed-once : length (moments (peer_closed x) S path) ≤ 1
  peer_closed-once = moments-once (peer_closed x) (has_no_peer x) (peer_closed-passes x) S path consistent is

  pub leaked-once : length (moments (leaked x) S path) ≤ 1
  leaked-once = moments-once (leaked x) (has_leaked x) (leaked-passes x) S path consistent is

-- ---- out of reach for good

-- what a sound state reaches is there
pub reached-there : (S : State) → IsSound S → (x : ℕ) → among (reached S) x ≡ true → exists S x ≡ true
reached-there S sound x e = reached-least S (exists S) (record {
  entries = λ p h held there. (sound.of_entries p h held there).names;
  messages = λ e n m there owner. (sound.of_messages e n m there).names;
}) x e

pub unreached : (S : State) (x : ℕ) → IsConsistent S → has_leaked x S → among (reached S) x ≡ false
unreached S x c p = not_true (among (reached S) x) (λ t. true≢false (among (reached S) x) t (leaked-lost S x (p.1 (reached-there S c.sound x t))).unreached)

never-reached : (S : State) (path : List (ℕ × State)) (x : ℕ) → IsConsistent S → IsCallPath S path → has_leaked x S → AllByRecursion (λ m. among (reached m.1) x ≡ false) path
never-reached S [] x consistent is p = tt
never-reached S ((n, T) ∷ path) x consistent is p =
    let later : IsConsistent T = next-consistent S T consistent is.0 in
    let q : has_leaked x T = (leaked-passes x).stays S T consistent later (next-follows S T consistent is.0) p in
    (unreached T x later q, never-reached T path x later is.1 q)

-- what is leaked is reached at no later state of a path
pub leaked-unreached : (S : State) (path : List (ℕ × State)) (x : ℕ) → IsConsistent S → IsCallPath S path → is_leaked S x ≡ true → AllByRecursion (λ m. among (reached m.1) x ≡ false) path
leaked-unreached S path x consistent is e = never-reached S path x consistent is (low-koid S consistent.sound x (leaked-exists S x e), λ there. e)

pub last-moment-only : (happens : State → State → Bool) (S : State) (path : List (ℕ × State)) (n : ℕ) → length (moments happens S path) ≤ 1 → last_moment happens S path ≡ Some n → moments happens S path ≡ n ∷ []
last-moment-only happens S path n few e = last-only (moments happens S path) n few e

pub ruleset last_laws = (last-moment-only)
