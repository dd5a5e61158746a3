-- The owner's row may be put before the entries that it gave numbers to, and once for two of them.
use Rattle.std.proofs.Common.{◌≡◌, ℕ, ◌+◌, refl, sym, ap, ◌∙◌, arith}
use Rattle.std.specs.Prelude.{Option, Some}
use Rattle.zt_rows.specs.declared.keys.RowKey.TheVariants as key
use Rattle.zt_rows.specs.declared.rows.Held.{Held}
use Rattle.zt_rows.specs.declared.rows.ObjectRow.{ObjectRow}
use Rattle.zt_rows.specs.declared.rows.Row.{Row}
use Rattle.zt_rows.specs.declared.rows.Row.TheVariants as rows
use Rattle.zt_rows.specs.Handles.{as_caller, caller, install, value_of}
use Rattle.zt_rows.specs.State.{State, put}
use Rattle.zt_rows.specs.Tests.{raised}
use Rattle.zt_rows.proofs.GivenLaws.{object-received}
use Rattle.zt_rows.proofs.StateLaws.{put-put, put-swap}

-- the owner's row before an entry
pub entry_last : (S : State) (p q h : ℕ) (owner held : Option Row) → put (put S (key.Object p) owner) (key.Entry q h) held ≡ put (put S (key.Entry q h) held) (key.Object p) owner
entry_last S p q h owner held = put-swap S (key.Object p) owner (key.Entry q h) held refl

-- the owner's row, with two numbers given out, before two entries, in place of once after each
pub entries_last : (S : State) (p near far : ℕ) (owner : ObjectRow) (first second : Held) → near ≡ value_of (caller S p).next → far ≡ value_of ((caller S p).next + 1) → owner ≡ record (caller S p) { next = (caller S p).next + 2 } →
    put (put (put S (key.Object p) (Some (rows.Object owner))) (key.Entry p near) (Some (rows.Entry first))) (key.Entry p far) (Some (rows.Entry second)) ≡ install p (caller (install p (caller S p) first S) p) second (install p (caller S p) first S)
entries_last S p near far owner first second one two of_two =
    let me : ObjectRow = caller S p in
    let is : owner ≡ raised (raised me) = of_two ∙ ap (λ n. record me { next = n }) (two_more me.next) in
    let front : State = put S (key.Entry p near) (Some (rows.Entry first)) in
    let raised_once : Option Row = Some (rows.Object (raised me)) in
    let row : Option Row = Some (rows.Object owner) in
    let entry : Option Row = Some (rows.Entry second) in
    ap (λ U. put U (key.Entry p far) entry) (entry_last S p p near row (Some (rows.Entry first)))
    ∙ entry_last front p p far row entry
    ∙ sym (put-put (put front (key.Entry p far) entry) (key.Object p) raised_once row)
    ∙ ap (λ U. put U (key.Object p) row) (sym (entry_last front p p far raised_once entry))
    ∙ ap (λ o. put (put (put front (key.Object p) raised_once) (key.Entry p far) entry) (key.Object p) (Some (rows.Object o))) is
    ∙ ap (λ n. put (put (put front (key.Object p) raised_once) (key.Entry p n) entry) (key.Object p) (Some (rows.Object (raised (raised me))))) two
    ∙ ap (λ n. install p (raised me) second (put (put S (key.Entry p n) (Some (rows.Entry first))) (key.Object p) raised_once)) one
    ∙ ap (λ o. install p (as_caller o) second (install p me first S)) (sym (object-received S p me first))
  where
    two_more : (n : ℕ) → n + 2 ≡ n + 1 + 1
    two_more n = omega arith
