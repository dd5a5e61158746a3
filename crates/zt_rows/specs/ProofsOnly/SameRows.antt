-- The test that two rows are one is exact. Used by proofs only.
use Rattle.std.proofs.Common.{◌≡◌, ℕ, List, Bool, cond, refl, sym, ap, ◌∙◌}
use Rattle.std.specs.Cmp.{booleans_Decides}
use Rattle.std.specs.Prelude.{◌==◌}
use Rattle.std.specs.Bool.{Decides, one_answer}
use Rattle.std.specs.Cmp.{IsPartialEquivalence}
use Rattle.std.specs.Cmp.Lexicographic.{pointwise}
use Rattle.std.proofs.lemmas.Bool.Decides.{Decides-eqb, Decides-int_eq, Decides-and, Decides-like}
use Rattle.std.proofs.lemmas.Slice.Eq.{slice_eq-Decides}
use Rattle.zt_bits.specs.declared.right_bits.Rights.{Rights}
use Rattle.zt_bits.specs.declared.signal_bits.Signals.{Signals}
use Rattle.zt_bits.specs.declared.kinds.Kind.{Kind}
use Rattle.zt_bits.specs.declared.kinds.Kind.TheVariants as kind
use Rattle.zt_rows.specs.declared.rows.Held.{Held}
use Rattle.zt_rows.specs.declared.rows.Life.{Life}
use Rattle.zt_rows.specs.declared.rows.Life.TheVariants as life
use Rattle.zt_rows.specs.declared.rows.Counters.{Counters}
use Rattle.zt_rows.specs.declared.rows.ObjectRow.{ObjectRow}
use Rattle.zt_rows.specs.declared.rows.Packet.{Packet}
use Rattle.zt_rows.specs.declared.rows.Packet.TheVariants as packet
use Rattle.zt_rows.specs.declared.rows.Wait.{Wait}
use Rattle.zt_rows.specs.declared.rows.Row.{Row}
use Rattle.zt_rows.specs.declared.rows.Row.TheVariants as rows
use Rattle.zt_rows.specs.Contents.{MessageContent}
use Rattle.zt_rows.specs.Same.{kind_number, kind_eq, held_eq, life_eq, counters_eq, object_eq, content_eq, packet_eq, wait_eq, row_eq}

kind_at : ℕ → Kind
kind_at n = cond (n == 0) kind.Job (cond (n == 1) kind.Process (cond (n == 2) kind.Channel (cond (n == 3) kind.Event (cond (n == 4) kind.EventPair kind.Port))))

kind_at-number : (k : Kind) → kind_at (kind_number k) ≡ k
unfolding kind_at
kind_at-number kind.Job = refl
kind_at-number kind.Process = refl
kind_at-number kind.Channel = refl
kind_at-number kind.Event = refl
kind_at-number kind.EventPair = refl
kind_at-number kind.Port = refl

pub kind_eq-decides : (a b : Kind) → Decides (kind_eq a b) (a ≡ b)
kind_eq-decides a b =
    Decides-like _ (λ e. sym (kind_at-number a) ∙ ap kind_at e ∙ kind_at-number b) (λ e. ap kind_number e) (Decides-eqb (kind_number a) (kind_number b))

rights_same : (a b : Rights) → a.0 ≡ b.0 → a ≡ b
rights_same a b e = λ i. record { 0 = e i }

signals_same : (a b : Signals) → a.0 ≡ b.0 → a ≡ b
signals_same a b e = λ i. record { 0 = e i }

rights-decides : (a b : Rights) → Decides (a.0 == b.0) (a ≡ b)
rights-decides a b = Decides-like _ (rights_same a b) (λ e. ap (λ (r : Rights). r.0) e) (Decides-eqb a.0 b.0)

signals-decides : (a b : Signals) → Decides (a.0 == b.0) (a ≡ b)
signals-decides a b = Decides-like _ (signals_same a b) (λ e. ap (λ (r : Signals). r.0) e) (Decides-eqb a.0 b.0)

pub held_eq-decides : (a b : Held) → Decides (held_eq a b) (a ≡ b)
held_eq-decides a b =
    Decides-like _ (λ e i. record { koid = e.0 i; rights = e.1 i }) (λ e. (ap (λ (h : Held). h.koid) e, ap (λ (h : Held). h.rights) e))
    (Decides-and _ _ (Decides-eqb a.koid b.koid) (rights-decides a.rights b.rights))

pub life_eq-decides : (a b : Life) → Decides (life_eq a b) (a ≡ b)
life_eq-decides life.Live life.Live = (λ _. refl, λ _. refl)
life_eq-decides life.Killed life.Killed = (λ _. refl, λ _. refl)
life_eq-decides (life.Exited c) (life.Exited d) =
    Decides-like _ (λ e. ap life.Exited e) (λ e. cc) (Decides-int_eq c d)
life_eq-decides _ _ = (λ e. cc, λ e. cc)

pub counters_eq-decides : (a b : Counters) → Decides (counters_eq a b) (a ≡ b)
counters_eq-decides a b =
    Decides-like _ (λ e i. record { next_koid = e.0 i; next_wait = e.1 i }) (λ e. (ap (λ (c : Counters). c.next_koid) e, ap (λ (c : Counters). c.next_wait) e))
    (Decides-and _ _ (Decides-eqb a.next_koid b.next_koid) (Decides-eqb a.next_wait b.next_wait))

pub object_eq-decides : (a b : ObjectRow) → Decides (object_eq a b) (a ≡ b)
object_eq-decides a b =
    Decides-like _ (λ e i. record { kind = e.0.0.0.0.0 i; signals = e.0.0.0.0.1 i; link = e.0.0.0.1 i; life = e.0.0.1 i; next = e.0.1 i; critical = e.1 i })
    (λ e. (((((ap (λ (o : ObjectRow). o.kind) e, ap (λ (o : ObjectRow). o.signals) e), ap (λ (o : ObjectRow). o.link) e), ap (λ (o : ObjectRow). o.life) e), ap (λ (o : ObjectRow). o.next) e), ap (λ (o : ObjectRow). o.critical) e))
    (Decides-and _ _ (Decides-and _ _ (Decides-and _ _ (Decides-and _ _ (Decides-and _ _ (kind_eq-decides a.kind b.kind) (signals-decides a.signals b.signals)) (Decides-eqb a.link b.link)) (life_eq-decides a.life b.life)) (Decides-eqb a.next b.next)) (Decides-eqb a.critical b.critical))

bytes-decides : (xs ys : List ℕ) → Decides (pointwise (λ x y. x == y) xs ys) (xs ≡ ys)
bytes-decides xs ys = slice_eq-Decides Decides-eqb xs ys _ refl

helds-decides : (xs ys : List Held) → Decides (pointwise held_eq xs ys) (xs ≡ ys)
helds-decides xs ys = slice_eq-Decides held_eq-decides xs ys _ refl

pub content_eq-decides : (a b : MessageContent) → Decides (content_eq a b) (a ≡ b)
content_eq-decides a b =
    Decides-like _ (λ e i. record { bytes = e.0 i; handles = e.1 i }) (λ e. (ap (λ (m : MessageContent). m.bytes) e, ap (λ (m : MessageContent). m.handles) e))
    (Decides-and _ _ (bytes-decides a.bytes b.bytes) (helds-decides a.handles b.handles))

pub packet_eq-decides : (a b : Packet) → Decides (packet_eq a b) (a ≡ b)
packet_eq-decides (packet.User k bs) (packet.User l cs) =
    Decides-like _ (λ e i. packet.User (e.0 i) (e.1 i)) (λ e. (cc, cc)) (Decides-and _ _ (Decides-eqb k l) (bytes-decides bs cs))
packet_eq-decides (packet.Signal k t o p h) (packet.Signal l u r q g) =
    Decides-like _ (λ e i. packet.Signal (e.0.0.0.0 i) (e.0.0.0.1 i) (e.0.0.1 i) (e.0.1 i) (e.1 i)) (λ e. ((((cc, cc), cc), cc), cc))
    (Decides-and _ _ (Decides-and _ _ (Decides-and _ _ (Decides-and _ _ (Decides-eqb k l) (signals-decides t u)) (signals-decides o r)) (Decides-eqb p q)) (Decides-eqb h g))
packet_eq-decides _ _ = (λ e. cc, λ e. cc)

pub wait_eq-decides : (a b : Wait) → Decides (wait_eq a b) (a ≡ b)
wait_eq-decides a b =
    Decides-like _ (λ e i. record { process = e.0.0.0.0.0 i; handle = e.0.0.0.0.1 i; port = e.0.0.0.1 i; key = e.0.0.1 i; signals = e.0.1 i; edge = e.1 i })
    (λ e. (((((ap (λ (o : Wait). o.process) e, ap (λ (o : Wait). o.handle) e), ap (λ (o : Wait). o.port) e), ap (λ (o : Wait). o.key) e), ap (λ (o : Wait). o.signals) e), ap (λ (o : Wait). o.edge) e))
    (Decides-and _ _ (Decides-and _ _ (Decides-and _ _ (Decides-and _ _ (Decides-and _ _ (Decides-eqb a.process b.process) (Decides-eqb a.handle b.handle)) (Decides-eqb a.port b.port)) (Decides-eqb a.key b.key)) (signals-decides a.signals b.signals)) (booleans_Decides a.edge b.edge))

pub row_eq-decides : (a b : Row) → Decides (row_eq a b) (a ≡ b)
row_eq-decides (rows.Counters a) (rows.Counters b) = Decides-like _ (λ e. ap rows.Counters e) (λ e. cc) (counters_eq-decides a b)
row_eq-decides (rows.Object a) (rows.Object b) = Decides-like _ (λ e. ap rows.Object e) (λ e. cc) (object_eq-decides a b)
row_eq-decides (rows.Entry a) (rows.Entry b) = Decides-like _ (λ e. ap rows.Entry e) (λ e. cc) (held_eq-decides a b)
row_eq-decides (rows.Msg a) (rows.Msg b) = Decides-like _ (λ e. ap rows.Msg e) (λ e. cc) (content_eq-decides a b)
row_eq-decides (rows.Packet a) (rows.Packet b) = Decides-like _ (λ e. ap rows.Packet e) (λ e. cc) (packet_eq-decides a b)
row_eq-decides (rows.Wait a) (rows.Wait b) = Decides-like _ (λ e. ap rows.Wait e) (λ e. cc) (wait_eq-decides a b)
row_eq-decides _ _ = (λ e. cc, λ e. cc)

per : {A : Type 0} (E : A → A → Bool) → ((a b : A) → Decides (E a b) (a ≡ b)) → IsPartialEquivalence E
per E d = record {
  symm = λ a b. one_answer _ _ (d a b) (λ e. sym ((d b a).0 e), λ e. (d b a).1 (sym e));
  trans = λ a b c p q. (d a c).1 ((d a b).0 p ∙ (d b c).0 q);
}

pub content_eq-laws : IsPartialEquivalence content_eq
content_eq-laws = per content_eq content_eq-decides

pub row_eq-laws : IsPartialEquivalence row_eq
row_eq-laws = per row_eq row_eq-decides
