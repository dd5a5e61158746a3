-- How many supports an object has, by the numbers of its koid.
use Rattle.std.proofs.Common.{◌≡◌, ◌≤◌, ℕ, ◌+◌, Bool, true, false, cond, ◌&&◌, ◌||◌, List, [], ◌∷◌, ◌++◌, length, count_by, filter_map, flat_map, Option, Some, None, refl, sym, ap, ◌∙◌, arith, length-append}
use Rattle.std.specs.Prelude.{◌==◌}
use mir.Val.{bool_byte}
use Rattle.std.specs.List.{cons_option}
use Rattle.std.proofs.lemmas.List.Sums.{sum_by-cons}
use Rattle.zt_bits.specs.declared.kinds.Kind.{Kind}
use Rattle.zt_bits.specs.declared.kinds.Kind.TheVariants as kind
use Rattle.zt_rows.specs.declared.keys.RowKey.{RowKey}
use Rattle.zt_rows.specs.declared.keys.RowKey.TheVariants as key
use Rattle.zt_rows.specs.declared.rows.Held.{Held}
use Rattle.zt_rows.specs.declared.rows.ObjectRow.{ObjectRow}
use Rattle.zt_rows.specs.declared.rows.Row.{Row}
use Rattle.zt_rows.specs.declared.rows.Row.TheVariants as rows
use Rattle.zt_rows.specs.declared.supports.Support.TheVariants as support
use Rattle.zt_rows.specs.State.{State}
use Rattle.zt_rows.specs.Reads.{object, is_live, is_job, is_process, is_live_job, is_live_process}
use Rattle.zt_rows.specs.Settle.{is_child_job_of, is_child_process_of}
use Rattle.zt_rows.specs.Support.{entry_support, places, message_supports, child_support, children, itself, supports, support_count, root_job}
use Rattle.zt_index.specs.declared.support_counts.KoidCounts.{KoidCounts}
use Rattle.zt_rows.specs.Tests.{count_row}
use Rattle.zt_index.specs.KoidCounts.{named_by, job_by, process_by, numbers_at}
use Rattle.zt_index.specs.ProofsOnly.KoidCounts.{sum_rows, total, numbers_of, keeps_tasks, keeps_itself, AreKoidCounts}
use Rattle.zt_index.proofs.Totals.{count-total}

abbrev many : {A : Type 0} → Option A → ℕ
many (Some x) = 1
many None = 0

length-cons_option : {A : Type 0} (o : Option A) (xs : List A) → length (cons_option o xs) ≡ many o + length xs
length-cons_option (Some x) xs = omega arith
length-cons_option None xs = omega arith

length-places : (x e n index : ℕ) (hs : List Held) → length (places x e n index hs) ≡ count_by (λ held. held.koid == x) hs
length-places x e n index [] = refl
length-places x e n index (h ∷ hs) =
    here (h.koid == x) (length-places x e n (index + 1) hs) ∙ sym (sum_by-cons (λ (held : Held). cond (held.koid == x) 1 0) h hs)
  where
    here : (b : Bool) → length (places x e n (index + 1) hs) ≡ count_by (λ held. held.koid == x) hs → length (cond b (support.Message e n index ∷ places x e n (index + 1) hs) (places x e n (index + 1) hs)) ≡ cond b 1 0 + count_by (λ held. held.koid == x) hs
    here true rest = omega arith
    here false rest = omega arith

-- ---- what one row gives

many_if : {A : Type 0} (b : Bool) (x : A) → many (cond b (Some x) None) ≡ cond b 1 0
many_if true x = refl
many_if false x = refl

named-row : (x : ℕ) (k : RowKey) (r : Row) → many (entry_support x (k, r)) + length (message_supports x (k, r)) ≡ named_by x k r
named-row x (key.Entry p h) (rows.Entry held) = let one = many_if (held.koid == x) (support.Entry p h) in omega (arith, one)
named-row x (key.Msg e n) (rows.Msg m) = omega (arith, length-places x e n 0 m.handles)
named-row x key.Counters r = refl
named-row x (key.Object _) r = refl
named-row x (key.Packet _ _) r = refl
named-row x (key.Wait _) r = refl
named-row x (key.Entry _ _) _ = refl
named-row x (key.Msg _ _) _ = refl

one_kind : (j p l : Bool) (k : Kind) → is_job k ≡ j → is_process k ≡ p → (b : Bool) → cond {A = ℕ} (((j && l) || (p && l)) && b) 1 0 ≡ cond {A = ℕ} ((j && l) && b) 1 0 + cond {A = ℕ} ((p && l) && b) 1 0
one_kind true true l kind.Job e f b = cc
one_kind true true l kind.Process e f b = cc
one_kind true true l kind.Channel e f b = cc
one_kind true true l kind.Event e f b = cc
one_kind true true l kind.EventPair e f b = cc
one_kind true true l kind.Port e f b = cc
one_kind true false true k e f true = refl
one_kind true false true k e f false = refl
one_kind true false false k e f b = refl
one_kind false true true k e f true = refl
one_kind false true true k e f false = refl
one_kind false true false k e f b = refl
one_kind false false l k e f b = refl

tasks-row : (x : ℕ) (k : RowKey) (r : Row) → many (child_support x (k, r)) ≡ job_by x k r + process_by x k r
tasks-row x (key.Object y) (rows.Object o) =
    many_if ((is_live_job o || is_live_process o) && (o.link == x)) (support.Child y)
    ∙ one_kind (is_job o.kind) (is_process o.kind) (is_live o.life) o.kind refl refl (o.link == x)
tasks-row x key.Counters r = refl
tasks-row x (key.Packet _ _) r = refl
tasks-row x (key.Wait _) r = refl
tasks-row x (key.Entry _ _) _ = refl
tasks-row x (key.Msg _ _) _ = refl
tasks-row x (key.Object _) _ = refl

-- ---- what all rows give

named-rows : (x : ℕ) (es : List (RowKey × Row)) → length (filter_map (entry_support x) es) + length (flat_map (message_supports x) es) ≡ sum_rows (named_by x) es
named-rows x [] = refl
named-rows x (e ∷ es) =
    let rest : length (filter_map (entry_support x) es) + length (flat_map (message_supports x) es) ≡ sum_rows (named_by x) es = named-rows x es in
    omega (arith, rest, named-row x e.0 e.1, length-cons_option (entry_support x e) (filter_map (entry_support x) es), length-append (message_supports x e) (flat_map (message_supports x) es))

tasks-rows : (x : ℕ) (es : List (RowKey × Row)) → length (filter_map (child_support x) es) ≡ sum_rows (job_by x) es + sum_rows (process_by x) es
tasks-rows x [] = refl
tasks-rows x (e ∷ es) =
    let rest : length (filter_map (child_support x) es) ≡ sum_rows (job_by x) es + sum_rows (process_by x) es = tasks-rows x es in
    omega (arith, rest, tasks-row x e.0 e.1, length-cons_option (child_support x e) (filter_map (child_support x) es))

length-children : (o : Option ObjectRow) (x : ℕ) (es : List (RowKey × Row)) → length (children o x es) ≡ cond (keeps_tasks o) (length (filter_map (child_support x) es)) 0
length-children (Some o) x es = at (is_live_job o) (filter_map (child_support x) es)
  where
    at : {A : Type 0} (b : Bool) (xs : List A) → length (cond b xs []) ≡ cond b (length xs) 0
    at true xs = refl
    at false xs = refl
length-children None x es = refl

length-itself : (o : Option ObjectRow) (x : ℕ) → length (itself o x) ≡ cond (keeps_itself x o) 1 0
length-itself (Some o) x = at (is_live_process o || (x == root_job))
  where
    at : (b : Bool) → length (cond b (support.Itself ∷ []) []) ≡ cond b 1 0
    at true = refl
    at false = refl
length-itself None x = refl

-- an object is supported by what names it, by the live tasks below a live job, and by itself
pub support_count-numbers : (S : State) (x : ℕ) → support_count S x ≡ (numbers_of S x).named + cond {A = ℕ} (keeps_tasks (object S x)) ((numbers_of S x).jobs + (numbers_of S x).processes) 0 + cond {A = ℕ} (keeps_itself x (object S x)) 1 0
unfolding support_count supports total
support_count-numbers S x =
    let o = object S x in
    let A = filter_map (entry_support x) S.rows in
    let B = flat_map (message_supports x) S.rows in
    let C = children o x S.rows in
    let tasks : cond {A = ℕ} (keeps_tasks o) (length (filter_map (child_support x) S.rows)) 0 ≡ cond {A = ℕ} (keeps_tasks o) (sum_rows (job_by x) S.rows + sum_rows (process_by x) S.rows) 0 =
    ap (λ n. cond {A = ℕ} (keeps_tasks o) n 0) (tasks-rows x S.rows) in
    omega (arith, length-append ((A ++ B) ++ C) (itself o x), length-append (A ++ B) C, length-append A B, length-children o x S.rows, length-itself o x, named-rows x S.rows, tasks)

byte_of : (b : Bool) → bool_byte b ≡ cond b 1 0
byte_of true = refl
byte_of false = refl

pub bit-small : (b : Bool) (n : ℕ) → n ≡ bool_byte b → n ≤ 1
bit-small true n e = omega (arith, e)
bit-small false n e = omega (arith, e)

-- what the numbers of the koid give together is the count
pub counted : (S T : State) (list : List KoidCounts) (x : ℕ) (n : KoidCounts) (o : Option ObjectRow) (tasks own : ℕ) (kept : Bool) → S ≡ T → AreKoidCounts S list → n ≡ numbers_at list x → o ≡ object T x
    → tasks ≡ cond {A = ℕ} (keeps_tasks o) (n.jobs + n.processes) 0 → kept ≡ keeps_itself x o → own ≡ bool_byte kept → n.named + tasks + own ≡ support_count T x
counted S T list x n o tasks own kept seen koid_counts at_n at_o is_tasks is_kept is_own =
    let numbers : n ≡ numbers_of T x = at_n ∙ koid_counts x ∙ ap (λ U. numbers_of U x) seen in
    let t : tasks ≡ cond {A = ℕ} (keeps_tasks (object T x)) ((numbers_of T x).jobs + (numbers_of T x).processes) 0 =
    is_tasks ∙ (λ i. cond {A = ℕ} (keeps_tasks (at_o i)) ((numbers i).jobs + (numbers i).processes) 0) in
    let s : own ≡ cond {A = ℕ} (keeps_itself x (object T x)) 1 0 = is_own ∙ byte_of kept ∙ ap (λ b. cond {A = ℕ} b 1 0) (is_kept ∙ ap (keeps_itself x) at_o) in
    let named : n.named ≡ (numbers_of T x).named = ap (λ (m : KoidCounts). m.named) numbers in
    omega (arith, support_count-numbers T x)

pub jobs-counted : (S T : State) (list : List KoidCounts) (x : ℕ) (n : KoidCounts) → S ≡ T → AreKoidCounts S list → n ≡ numbers_at list x → n.jobs ≡ count_row (is_child_job_of x) T
jobs-counted S T list x n seen koid_counts at_n =
    ap (λ (m : KoidCounts). m.jobs) (at_n ∙ koid_counts x ∙ ap (λ U. numbers_of U x) seen) ∙ sym (count-total (is_child_job_of x) T)

pub processes-counted : (S T : State) (list : List KoidCounts) (x : ℕ) (n : KoidCounts) → S ≡ T → AreKoidCounts S list → n ≡ numbers_at list x → n.processes ≡ count_row (is_child_process_of x) T
processes-counted S T list x n seen koid_counts at_n =
    ap (λ (m : KoidCounts). m.processes) (at_n ∙ koid_counts x ∙ ap (λ U. numbers_of U x) seen) ∙ sym (count-total (is_child_process_of x) T)
