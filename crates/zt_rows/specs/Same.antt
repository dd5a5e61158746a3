-- When two rows are one, as a test that computes: every field of the one is that of the other. A test by
-- the tests of the fields is what the code's own `==` answers.
use Rattle.std.specs.Prelude.{ℕ, Bool, true, false, ◌==◌, ◌&&◌}
use Rattle.std.specs.Bool.{beq}
use Rattle.std.specs.Ordering.{int_eq}
use Rattle.std.specs.Cmp.Lexicographic.{pointwise}
use Rattle.zt_bits.specs.declared.kinds.Kind.{Kind}
use Rattle.zt_bits.specs.declared.kinds.Kind.TheVariants as kind
use Rattle.zt_rows.specs.declared.rows.Held.{Held}
use Rattle.zt_rows.specs.declared.rows.Life.{Life}
use Rattle.zt_rows.specs.declared.rows.Life.TheVariants as life
use Rattle.zt_rows.specs.declared.rows.Counters.{Counters}
use Rattle.zt_rows.specs.declared.rows.ObjectRow.{ObjectRow}
use Rattle.zt_rows.specs.declared.rows.Packet.{Packet}
use Rattle.zt_rows.specs.declared.rows.Packet.TheVariants as packet
use Rattle.zt_rows.specs.declared.rows.Wait.{Wait}
use Rattle.zt_rows.specs.declared.rows.Row.{Row}
use Rattle.zt_rows.specs.declared.rows.Row.TheVariants as rows
use Rattle.zt_rows.specs.Contents.{MessageContent}

abbrev pub kind_number : Kind → ℕ
kind_number kind.Job = 0
kind_number kind.Process = 1
kind_number kind.Channel = 2
kind_number kind.Event = 3
kind_number kind.EventPair = 4
kind_number kind.Port = 5

abbrev pub kind_eq : Kind → Kind → Bool
kind_eq a b = kind_number a == kind_number b

abbrev pub held_eq : Held → Held → Bool
held_eq a b = (a.koid == b.koid) && (a.rights.0 == b.rights.0)

abbrev pub life_eq : Life → Life → Bool
life_eq life.Live life.Live = true
life_eq life.Killed life.Killed = true
life_eq (life.Exited c) (life.Exited d) = int_eq c d
life_eq _ _ = false

abbrev pub counters_eq : Counters → Counters → Bool
counters_eq a b = (a.next_koid == b.next_koid) && (a.next_wait == b.next_wait)

abbrev pub object_eq : ObjectRow → ObjectRow → Bool
object_eq a b =
    kind_eq a.kind b.kind && (a.signals.0 == b.signals.0) && (a.link == b.link) && life_eq a.life b.life && (a.next == b.next) && (a.critical == b.critical)

abbrev pub content_eq : MessageContent → MessageContent → Bool
content_eq a b = pointwise (λ x y. x == y) a.bytes b.bytes && pointwise held_eq a.handles b.handles

abbrev pub packet_eq : Packet → Packet → Bool
packet_eq (packet.User k bs) (packet.User l cs) = (k == l) && pointwise (λ x y. x == y) bs cs
packet_eq (packet.Signal k t o p h) (packet.Signal l u r q g) =
    (k == l) && (t.0 == u.0) && (o.0 == r.0) && (p == q) && (h == g)
packet_eq _ _ = false

abbrev pub wait_eq : Wait → Wait → Bool
wait_eq a b =
    (a.process == b.process) && (a.handle == b.handle) && (a.port == b.port) && (a.key == b.key) && (a.signals.0 == b.signals.0) && beq a.edge b.edge

abbrev pub row_eq : Row → Row → Bool
row_eq (rows.Counters a) (rows.Counters b) = counters_eq a b
row_eq (rows.Object a) (rows.Object b) = object_eq a b
row_eq (rows.Entry a) (rows.Entry b) = held_eq a b
row_eq (rows.Msg a) (rows.Msg b) = content_eq a b
row_eq (rows.Packet a) (rows.Packet b) = packet_eq a b
row_eq (rows.Wait a) (rows.Wait b) = wait_eq a b
row_eq _ _ = false
