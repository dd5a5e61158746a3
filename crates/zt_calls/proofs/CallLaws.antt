-- What the parts of a call do one after another is what the call does.
use Rattle.std.proofs.Common.{◌≡◌, ℕ, ◌+◌, ◌-◌, ◌^◌, ◌<◌, ◌≤◌, true, ap, sym, ◌∙◌, arith}
use Rattle.zt_bits.specs.declared.kinds.Kind.{Kind}
use Rattle.zt_bits.specs.declared.right_bits.Rights.{Rights}
use Rattle.zt_rows.specs.declared.calls.Reply.{Reply}
use Rattle.zt_rows.specs.declared.calls.Reply.TheVariants as reply
use Rattle.zt_rows.specs.declared.rows.Held.{Held}
use Rattle.zt_rows.specs.declared.rows.ObjectRow.{ObjectRow}
use Rattle.zt_rows.specs.State.{State}
use Rattle.zt_bits.specs.declared.statuses.Status.TheVariants as status
use Rattle.zt_bits.specs.Tables.{asked_rights}
use Rattle.std.specs.Prelude.{Some, Ok, ok_or}
use Rattle.zt_rows.specs.Reads.{counters, object, entry, has_live_process}
use Rattle.zt_rows.specs.Tests.{next_at, is_endpoint}
use Rattle.zt_rows.specs.Room.{HasRoom}
use Rattle.zt_rows.specs.Handles.{◌>>=◌, answered, caller, value_of, whole, fresh, next_koid, install, make, make_pair, take_out}
use Rattle.zt_rows.specs.ObjectCalls.{create, create_pair, received, handle_replace}
use Rattle.zt_rows.specs.Consistent.{IsSound}
use Rattle.zt_store.specs.StepView.{Stepping, Advanced}
use Rattle.zt_tables.specs.Entries.{with_rights}
use Rattle.zt_calls.proofs.GoingOn.{further, reached}
use Rattle.zt_calls.proofs.CallerLaws.{room-installs, caller-same, next-same, caller-next, object-of-made, object-of-paired, object-of-rest, caller-of-installed}

-- a step went on to a state in which the caller's row is the same, and the caller received a handle there
pub installed_on : (s t u : Stepping) (T : State) (p value : ℕ) (held : Held) → Advanced s t T → object T p ≡ object s.current p → Advanced t u (install p (caller t.current p) held t.current) → value ≡ value_of (next_at t.current p) → (Advanced s u (install p (caller s.current p) held T)) × (value ≡ value_of (caller s.current p).next)
installed_on s t u T p value held went same installed valued =
    let there : Advanced s u (install p (caller T p) held T) = further s t u T (λ S. install p (caller S p) held S) went installed in
    let at : next_at t.current p ≡ (caller s.current p).next = ap (λ S. next_at S p) went.1 ∙ next-same s.current T p same ∙ sym (caller-next s.current p) in
    (reached s u _ _ there (ap (λ me. install p me held T) (caller-same s.current T p same)), valued ∙ ap value_of at)

-- the caller's next value fits in a state in which its row is the same
fits_on : (s t : Stepping) (T : State) (p : ℕ) → Advanced s t T → object T p ≡ object s.current p → HasRoom s.current → has_live_process s.current p ≡ true → next_at t.current p ≤ 2 ^ 30 - 64
fits_on s t T p went same room live =
    let at : next_at t.current p ≡ next_at s.current p = ap (λ S. next_at S p) went.1 ∙ next-same s.current T p same in
    let n : next_at s.current p ≤ 2 ^ 30 - 64 = room-installs s.current p room live in
    omega arith

-- ---- an object is made

pub create-fits : (s t : Stepping) (p : ℕ) (k : Kind) → HasRoom s.current → IsSound s.current → has_live_process s.current p ≡ true → Advanced s t (make (counters s.current) (fresh k 0) s.current) → next_at t.current p < 2 ^ 30
create-fits s t p k room sound live made =
    let n : next_at t.current p ≤ 2 ^ 30 - 64 = fits_on s t (make (counters s.current) (fresh k 0) s.current) p made (object-of-made s.current p (fresh k 0) sound live) room live in
    omega arith

pub create-does : (s t u : Stepping) (p value koid : ℕ) (k : Kind) (held : Held) → IsSound s.current → has_live_process s.current p ≡ true → koid ≡ next_koid s.current → Advanced s t (make (counters s.current) (fresh k 0) s.current) → held ≡ whole koid k → Advanced t u (install p (caller t.current p) held t.current) → value ≡ value_of (next_at t.current p) → (Advanced s u (create k s.current p).0) × (reply.Handle value ≡ (create k s.current p).1)
create-does s t u p value koid k held sound live named made is installed valued =
    let T : State = make (counters s.current) (fresh k 0) s.current in
    let w = installed_on s t u T p value held made (object-of-made s.current p (fresh k 0) sound live) installed valued in
    (reached s u _ _ w.0 (ap (λ h. install p (caller s.current p) h T) (is ∙ ap (λ x. whole x k) named)), ap reply.Handle w.1)

-- ---- a pair is made

pub pair-fits : (s t : Stepping) (p : ℕ) (k : Kind) → HasRoom s.current → IsSound s.current → is_endpoint k ≡ true → has_live_process s.current p ≡ true → Advanced s t (make_pair (counters s.current) k s.current) → next_at t.current p + 1 < 2 ^ 30
pair-fits s t p k room sound ends live made =
    let n : next_at t.current p ≤ 2 ^ 30 - 64 = fits_on s t (make_pair (counters s.current) k s.current) p made (object-of-paired s.current p k sound ends live) room live in
    omega arith

-- the process receives both in turn
abbrev both_installed : ℕ → Held → Held → State → State
both_installed p a b S = let T = install p (caller S p) a S in install p (caller T p) b T

pub pair-does : (s t u : Stepping) (p near far : ℕ) (values : ℕ × ℕ) (k : Kind) (a b : Held) → IsSound s.current → is_endpoint k ≡ true → has_live_process s.current p ≡ true → near ≡ next_koid s.current → far ≡ next_koid s.current + 1 → Advanced s t (make_pair (counters s.current) k s.current) → a ≡ whole near k → b ≡ whole far k → Advanced t u (both_installed p a b t.current) → values ≡ (value_of (next_at t.current p), value_of (next_at t.current p + 1)) → (Advanced s u (create_pair k s.current p).0) × (reply.Handles values.0 values.1 ≡ (create_pair k s.current p).1)
pair-does s t u p near far values k a b sound ends live one two made is other installed valued =
    let S : State = s.current in
    let me : ObjectRow = caller S p in
    let T : State = make_pair (counters S) k S in
    let A : Held = whole (next_koid S) k in
    let B : Held = whole (next_koid S + 1) k in
    let U : State = install p me A T in
    let same : object T p ≡ object S p = object-of-paired S p k sound ends live in
    let there : Advanced s u (both_installed p a b T) = further s t u T (both_installed p a b) made installed in
    let at : next_at t.current p ≡ me.next = ap (λ V. next_at V p) made.1 ∙ next-same S T p same ∙ sym (caller-next S p) in (
      reached s u _ _ there (
          ap (λ h. both_installed p h b T) (is ∙ ap (λ x. whole x k) one)
          ∙ ap (λ h. both_installed p A h T) (other ∙ ap (λ x. whole x k) two)
          ∙ ap (λ o. let V : State = install p o A T in install p (caller V p) B V) (caller-same S T p same)
          ∙ ap (λ o. install p o B U) (caller-of-installed T p me A)),
      ap (λ (h : ℕ × ℕ). reply.Handles h.0 h.1) valued ∙ ap (λ n. reply.Handles (value_of n) (value_of (n + 1))) at,
    )

-- ---- a handle takes the place of another

pub replace-fits : (s t : Stepping) (p h : ℕ) → HasRoom s.current → has_live_process s.current p ≡ true → Advanced s t (take_out s.current p h) → next_at t.current p < 2 ^ 30
replace-fits s t p h room live went =
    let n : next_at t.current p ≤ 2 ^ 30 - 64 = fits_on s t (take_out s.current p h) p went (object-of-rest s.current p h) room live in
    omega arith

-- what a replacement does whose rights are granted
replaced : (S : State) (p h mask rights : ℕ) (held : Held) → entry S p h ≡ Some held → asked_rights mask held.rights.0 ≡ Some rights → handle_replace S p h mask ≡ received rights S p held (take_out S p h)
replaced S p h mask rights held there granted =
    ap (λ o. answered S (ok_or o status.BadHandle >>= (λ (g : Held). Ok (answered (take_out S p h) (ok_or (asked_rights mask g.rights.0) status.InvalidArgs >>= (λ r. Ok (received r S p g (take_out S p h)))))))) there
    ∙ ap (λ o. answered (take_out S p h) (ok_or o status.InvalidArgs >>= (λ r. Ok (received r S p held (take_out S p h))))) granted

pub replace-does : (s t u : Stepping) (p h mask value : ℕ) (held : Held) (rights : Rights) → entry s.current p h ≡ Some held → asked_rights mask held.rights.0 ≡ Some rights.0 → Advanced s t (take_out s.current p h) → Advanced t u (install p (caller t.current p) (with_rights held rights) t.current) → value ≡ value_of (next_at t.current p) → (Advanced s u (handle_replace s.current p h mask).0) × (reply.Handle value ≡ (handle_replace s.current p h mask).1)
replace-does s t u p h mask value held rights there granted went installed valued =
    let w = installed_on s t u (take_out s.current p h) p value (with_rights held rights) went (object-of-rest s.current p h) installed valued in
    let is : handle_replace s.current p h mask ≡ received rights.0 s.current p held (take_out s.current p h) = replaced s.current p h mask rights.0 held there granted in
    (reached s u _ _ w.0 (ap (λ (d : State × Reply). d.0) (sym is)), ap reply.Handle w.1 ∙ ap (λ (d : State × Reply). d.1) (sym is))

-- ---- a second handle

pub duplicate-fits : (S : State) (p : ℕ) → HasRoom S → has_live_process S p ≡ true → next_at S p < 2 ^ 30
duplicate-fits S p room live = let n : next_at S p ≤ 2 ^ 30 - 64 = room-installs S p room live in omega arith
