-- The keys of rows and their one order: by variant as listed, then by their numbers. This project's own.
use Rattle.std.specs.Prelude.{ℕ, Bool, true, false, ◌==◌, ◌&&◌}
use Rattle.std.specs.declared.cmp.Ordering.{Ordering}
use Rattle.std.specs.Ordering.{nat_cmp, on, then_cmp}
use Rattle.zt_rows.specs.declared.keys.RowKey.{RowKey}
use Rattle.zt_rows.specs.declared.keys.RowKey.TheVariants as key

-- the place of a key's variant in the list of variants
abbrev pub variant : RowKey → ℕ
variant key.Counters = 0
variant (key.Object _) = 1
variant (key.Entry _ _) = 2
variant (key.Msg _ _) = 3
variant (key.Packet _ _) = 4
variant (key.Wait _) = 5

-- the number that a key begins with: an object's koid, the koid of an owner or the number of a wait
abbrev pub first_number : RowKey → ℕ
first_number key.Counters = 0
first_number (key.Object x) = x
first_number (key.Entry p _) = p
first_number (key.Msg e _) = e
first_number (key.Packet p _) = p
first_number (key.Wait n) = n

-- the number of what an owner has
abbrev pub second_number : RowKey → ℕ
second_number key.Counters = 0
second_number (key.Object _) = 0
second_number (key.Entry _ h) = h
second_number (key.Msg _ n) = n
second_number (key.Packet _ n) = n
second_number (key.Wait _) = 0

-- the order of keys
abbrev pub rowkey_cmp : RowKey → RowKey → Ordering
rowkey_cmp = then_cmp (on variant nat_cmp) (then_cmp (on first_number nat_cmp) (on second_number nat_cmp))

-- whether two keys are one
abbrev pub rowkey_eq : RowKey → RowKey → Bool
rowkey_eq key.Counters key.Counters = true
rowkey_eq (key.Object x) (key.Object y) = x == y
rowkey_eq (key.Entry p h) (key.Entry q g) = (p == q) && (h == g)
rowkey_eq (key.Msg e n) (key.Msg f m) = (e == f) && (n == m)
rowkey_eq (key.Packet p n) (key.Packet q m) = (p == q) && (n == m)
rowkey_eq (key.Wait n) (key.Wait m) = n == m
rowkey_eq _ _ = false
