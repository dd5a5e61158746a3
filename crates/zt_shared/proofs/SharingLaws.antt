-- One row more in a log: whose row it is, and how the log goes on.
use Rattle.std.proofs.Common.{◌≡◌, ℕ, ◌+◌, ◌≤◌, ◌<◌, ◌==◌, Bool, true, false, cond, List, [], ◌∷◌, ◌++◌, length, map, refl, ap, sym, ◌∙◌, subst, arith, Ok, Err, inl, inr}
use Rattle.std.specs.Prelude.{◌≢◌, nat_lt, Result, IfOk, IfErr, OnErr}
use Rattle.std.proofs.lemmas.Bool.{eq-eqb}
use Rattle.std.proofs.lemmas.List.{append-nil, map-append, length-map, length_push}
use Rattle.std.proofs.lemmas.List.Elements.{filter-append}
use Rattle.std.specs.List.Sorted.{IsPermutation}
use Rattle.std.proofs.lemmas.List.Sorted.{IsPermutation-refl}
use Rattle.zt_rows.specs.declared.calls.Answer.{Answer}
use Rattle.zt_rows.specs.declared.calls.Command.{Command}
use Rattle.zt_rows.specs.declared.refusals.Refusal.{Refusal}
use Rattle.zt_rows.specs.declared.refusals.Refusal.TheVariants as refusal
use Rattle.zt_book.specs.declared.log.Recorded.{Recorded}
use Rattle.zt_rows.specs.declared.calls.Answer.TheVariants as answer
use Rattle.zt_rows.specs.declared.calls.Command.TheVariants as command
use Rattle.zt_history.specs.HistoryRefusals.{check, ◌>>=◌}
use Rattle.zt_history.specs.Tree.{state_at, calls_to}
use Rattle.zt_queries.specs.FrozenCopy.{Snapshot}
use Rattle.zt_book.specs.Session.{Session, serve, pin_to, position_of, IsCommandRefusal, client_of, most_rows}
use Rattle.zt_book.specs.Log.{SessionLog, Replays, rows_of, IsCounted, snapshot_at}
use Rattle.zt_shared.specs.Accounts.{most}
use Rattle.once_cell.specs.declared.race.note.Note.{Note}
use Rattle.zt_rows.specs.declared.saved.Saved.{Saved}
use Rattle.zt_shared.specs.Sharing.{PassView, IsPartOf, IsAnsweredOnPass, IsRefusedTo, IsPinnedOnPass, IsCopyOf, begun, told_to, logged, said_in}
use Rattle.zt_shared.specs.LockedBooks.{Shown, Sides, sides_of, IsLockedBook}

-- a session with its log
abbrev pub standing : Session → List Recorded → SessionLog
standing M log = record { session = M; log = log }

-- the row of a client, of which it is asked whether it is of this one
abbrev pub row_of : ℕ → Command → Answer → Recorded
row_of client asked answered = record { client = client; asked = asked; answered = answered }

-- what one row tells a client
pub told-row : (other client : ℕ) (c : Command) (a : Answer) (b : Bool) → (client == other) ≡ b → told_to other (row_of client c a ∷ []) ≡ cond b ((c, a) ∷ []) []
told-row other client c a b is =
    let tells : (b : Bool) → map said_in (cond b (row_of client c a ∷ []) []) ≡ cond b ((c, a) ∷ []) [] =
    λ b. elim b as (λ b. map said_in (cond b (row_of client c a ∷ []) []) ≡ cond b ((c, a) ∷ []) []) [ true ↦ refl | false ↦ refl ] in
    ap (λ t. map said_in (cond t (row_of client c a ∷ []) [])) is ∙ tells b

pub told-more : (other client : ℕ) (c : Command) (a : Answer) (log : List Recorded) (b : Bool) → (client == other) ≡ b
    → told_to other (logged log client c a) ≡ told_to other log ++ cond b ((c, a) ∷ []) []
told-more other client c a log b is =
    ap (map said_in) (filter-append (λ row. row.client == other) log (row_of client c a ∷ []))
    ∙ (map-append said_in (rows_of other log) (rows_of other (row_of client c a ∷ [])) ∙ ap (λ w. told_to other log ++ w) (told-row other client c a b is))

-- a client's own row is its last
pub told-own : (client : ℕ) (c : Command) (a : Answer) (log : List Recorded) → told_to client (logged log client c a) ≡ told_to client log ++ (c, a) ∷ []
told-own client c a log = told-more client client c a log true (eq-eqb client client refl)

-- how a log goes on
pub replays-more : (M N P : Session) (log : List Recorded) (client : ℕ) (c : Command) (a : Answer) → Replays M log N → serve N client c ≡ Ok (a, P) → Replays M (logged log client c a) P
replays-more M N P [] client c a end served = (P, subst (λ (S : Session). serve S client c ≡ Ok (a, P)) end served, refl)
replays-more M N P (row ∷ rows) client c a log served = (log.0, log.1, replays-more log.0 N P rows client c a log.2 served)

-- what is refused, but for memory, is refused so by the checks
pub refused-so : {A : Type 0} (r : Result A Refusal) (why : Refusal) → IsCommandRefusal r why → why ≢ refusal.OutOfMemory → r ≡ Err why
refused-so (Ok x) why is other = absurd (other is)
refused-so (Err refusal.NoProcess) why (inl is) other = ap Err (sym is)
refused-so (Err refusal.NoProcess) why (inr is) other = absurd (other is)
refused-so (Err refusal.NoObject) why (inl is) other = ap Err (sym is)
refused-so (Err refusal.NoObject) why (inr is) other = absurd (other is)
refused-so (Err reason) why is other = ap Err (sym is)

-- where one row more was counted there was room for it
pub room-left : (N : Session) (client : ℕ) (log : List Recorded) (c : Command) (a : Answer)
    → IsCounted N (logged log client c a) → 1 ≤ client → client ≤ length N.clients → length (told_to client log) < most
room-left N client log c a counted one known =
    let rows : (client_of N client).rows ≡ length (rows_of client (logged log client c a)) = counted.each client one known in
    let told : length (told_to client (logged log client c a)) ≡ length (rows_of client (logged log client c a)) = length-map (rows_of client (logged log client c a)) said_in in
    let grown : length (told_to client (logged log client c a)) ≡ length (told_to client log) + 1 = ap length (told-own client c a log) ∙ length_push (told_to client log) (c, a) in
    omega (arith, rows, told, grown, counted.within client one known)

-- ---- the passes of all clients

pub in_order : (clients back : List ℕ) → back ≡ clients → IsPermutation clients back
in_order clients back same = subst (IsPermutation clients) (sym same) (IsPermutation-refl clients)

-- ---- the four accounts

-- another client's row tells a client nothing
pub told-other : (other client : ℕ) (c : Command) (a : Answer) (log : List Recorded) → (client == other) ≡ false → told_to other (logged log client c a) ≡ told_to other log
told-other other client c a log is = told-more other client c a log false is ∙ append-nil (told_to other log)

-- ---- a part of the log, and one more row of it

-- an answer behind a check is an answer without it
pub past : {A : Type 0} (b : Bool) (why : Refusal) (rest : Result A Refusal) (y : A) → (check b why >>= λ _. rest) ≡ Ok y → rest ≡ Ok y
past true why rest y h = h
past false why rest y h = absurd (let e : Err why ≡ Ok y = h in cc)

-- a client's answer is one event of the history
pub answered-part : (p q : PassView) (log : List Recorded) (M N : Session) (c : Command) (a : Answer)
    → IsPartOf p log M → serve M p.client c ≡ Ok (a, N) → q.client ≡ p.client → q.base ≡ p.base → q.rows ≡ p.rows ++ (c, a) ∷ []
    → IsPartOf q (logged log q.client c a) N
answered-part p q log M N c a part served who base rows = record {
  replays = rw (who, base) (replays-more p.base M N log p.client c a part.replays served);
  rows = rw (who, rows) (told-own p.client c a log ∙ ap (λ w. w ++ (c, a) ∷ []) part.rows);
}

-- a pass, by its parts, and a locked book
abbrev pub part : ℕ → Session → List (Command × Answer) → PassView
part client base rows = record { client = client; base = base; rows = rows }

abbrev pub shown : Session → Session → List Recorded → Shown
shown base M log = record { base = base; session = M; log = log }

-- what a pass is part of, under another name for both
part-here : (p q : PassView) (z : Shown) (base M : Session) (log : List Recorded) → p ≡ q → shown base M log ≡ z → IsPartOf q z.log z.session → IsPartOf p log M
part-here p q z base M log pass locked known =
    subst (λ y. IsPartOf p y.log y.session) (sym locked) (subst (λ x. IsPartOf x z.log z.session) (sym pass) known)

-- after a turn the pass is a part of the log that it left
pub turned-part : (A X : Type 0) (said : A → Answer) (client : ℕ) (base begin M N : Session) (old new : List (Command × Answer)) (q : PassView) (z : Shown) (log more : List Recorded)
    (c : Command) (r : Result A Refusal) → part client base old ≡ q → shown begin M log ≡ z → IsPartOf q z.log z.session
    → IfOk r (λ a. serve M client c ≡ Ok (said a, N)) → IfOk r (λ a. more ≡ logged log client c (said a)) → IfOk r (λ a. new ≡ old ++ (c, said a) ∷ [])
    → OnErr r ((standing N more ≡ standing M log) × X × (new ≡ old)) → IsPartOf (part client base new) more N
turned-part A X said client base begin M N old new q z log more c (Ok a) pass locked known served grown rows still =
    let before = part-here (part client base old) q z begin M log pass locked known in
    subst (λ l. IsPartOf (part client base new) l N) (sym grown)
    (answered-part (part client base old) (part client base new) log M N c (said a) before served refl refl rows)
turned-part A X said client base begin M N old new q z log more c (Err why) pass locked known served grown rows still =
    let before = part-here (part client base old) q z begin M log pass locked known in
    let here : IsPartOf (part client base new) log M = subst (λ w. IsPartOf (part client base w) log M) (sym still.2) before in
    subst (λ (s : SessionLog). IsPartOf (part client base new) s.log s.session) (sym still.0) here

ok-same : {A : Type 0} (x y : A) → ◌≡◌ {A = Result A Refusal} (Ok x) (Ok y) → x ≡ y
ok-same x y h = cc

-- the copy that a pin gives is of the tree in which its event ends
pin-copies : (M N : Session) (client : ℕ) (a : Answer) → serve M client command.Pin ≡ Ok (a, N) → IsCopyOf N.tree a (snapshot_at M.tree (position_of M client))
unfolding serve pin_to state_at
pin-copies M N client a served =
    let last = past (nat_lt (client_of M client).rows most_rows) refusal.ClientFull _ (a, N) served in
    let both = ok-same _ _ last in
    let said : answer.Pinned (position_of M client) ≡ a = ap (λ z. z.0) both in
    let tree : M.tree ≡ N.tree = ap (λ z. z.1.tree) both in
    record { moment = sym said; path = ap (λ t. calls_to t.made (position_of M client)) tree; state = refl }

-- ---- what was done under the lock, where all that is known of the log is that there is one

pub some-answered : (q : PassView) (client : ℕ) (log more : List Recorded) (N : Session) (c : Command) (r : Result Answer Refusal) → q.client ≡ client → IsPartOf q more N
    → IfOk r (λ a. more ≡ logged log client c a) → IfOk r (IsAnsweredOnPass q c)
some-answered q client log more N c (Ok a) who part grown =
    (log, N, subst (λ l. IsPartOf q l N) (grown ∙ ap (λ n. logged log n c a) (sym who)) part)
some-answered q client log more N c (Err why) who part grown = grown

pub some-pinned : (q : PassView) (client : ℕ) (log more : List Recorded) (M N : Session) (r : Result (Answer × Snapshot) Refusal) → q.client ≡ client → IsPartOf q more N
    → IfOk r (λ a. more ≡ logged log client command.Pin a.0) → IfOk r (λ a. serve M client command.Pin ≡ Ok (a.0, N))
    → IfOk r (λ a. a.1 ≡ snapshot_at M.tree (position_of M client)) → IfOk r (λ a. IsPinnedOnPass q a.0 a.1)
some-pinned q client log more M N (Ok a) who part grown served frozen = (
  log,
  N,
  subst (λ l. IsPartOf q l N) (grown ∙ ap (λ n. logged log n command.Pin a.0) (sym who)) part,
  rw frozen (pin-copies M N client a.0 served),
)
some-pinned q client log more M N (Err why) who part grown served frozen = grown

pub some-refused : {A : Type 0} (p q : PassView) (y z : Shown) (c : Command) (r : Result A Refusal) → OnErr r (z ≡ y) → OnErr r (q ≡ p) → IsPartOf q z.log z.session
    → IfErr r (λ why. why ≢ refusal.OutOfMemory → serve y.session p.client c ≡ Err why) → IfErr r (IsRefusedTo p c)
some-refused p q y z c (Ok a) still same part because = because
some-refused p q y z c (Err why) still same part because =
    let here : IsPartOf p z.log z.session = subst (λ x. IsPartOf x z.log z.session) same part in
    λ other. (y.log, y.session, subst (λ (x : Shown). IsPartOf p x.log x.session) still here, because other)

-- ---- the four accounts, of which one has one row more

abbrev pub sides : (f s t u : List (Command × Answer)) → Sides
sides f s t u = record { first = f; second = s; third = t; fourth = u }

same-sides : (f f' s s' t t' u u' : List (Command × Answer)) → f ≡ f' → s ≡ s' → t ≡ t' → u ≡ u' → sides f s t u ≡ sides f' s' t' u'
same-sides f f' s s' t t' u u' first second third fourth =
    ap (λ w. sides w s t u) first ∙ (ap (λ w. sides f' w t u) second ∙ (ap (λ w. sides f' s' w u) third ∙ ap (λ w. sides f' s' t' w) fourth))

abbrev pub with_first : List (Command × Answer) → Sides → Sides
with_first w s = sides w s.second s.third s.fourth

abbrev pub with_second : List (Command × Answer) → Sides → Sides
with_second w s = sides s.first w s.third s.fourth

abbrev pub with_third : List (Command × Answer) → Sides → Sides
with_third w s = sides s.first s.second w s.fourth

abbrev pub with_fourth : List (Command × Answer) → Sides → Sides
with_fourth w s = sides s.first s.second s.third w

pub sides-first : (log : List Recorded) (c : Command) (a : Answer) → sides_of (logged log 1 c a) ≡ with_first (told_to 1 log ++ (c, a) ∷ []) (sides_of log)
sides-first log c a =
    same-sides _ _ _ _ _ _ _ _ (told-own 1 c a log) (told-other 2 1 c a log refl) (told-other 3 1 c a log refl) (told-other 4 1 c a log refl)

pub sides-second : (log : List Recorded) (c : Command) (a : Answer) → sides_of (logged log 2 c a) ≡ with_second (told_to 2 log ++ (c, a) ∷ []) (sides_of log)
sides-second log c a =
    same-sides _ _ _ _ _ _ _ _ (told-other 1 2 c a log refl) (told-own 2 c a log) (told-other 3 2 c a log refl) (told-other 4 2 c a log refl)

pub sides-third : (log : List Recorded) (c : Command) (a : Answer) → sides_of (logged log 3 c a) ≡ with_third (told_to 3 log ++ (c, a) ∷ []) (sides_of log)
sides-third log c a =
    same-sides _ _ _ _ _ _ _ _ (told-other 1 3 c a log refl) (told-other 2 3 c a log refl) (told-own 3 c a log) (told-other 4 3 c a log refl)

pub sides-fourth : (log : List Recorded) (c : Command) (a : Answer) → sides_of (logged log 4 c a) ≡ with_fourth (told_to 4 log ++ (c, a) ∷ []) (sides_of log)
sides-fourth log c a =
    same-sides _ _ _ _ _ _ _ _ (told-other 1 4 c a log refl) (told-other 2 4 c a log refl) (told-other 3 4 c a log refl) (told-own 4 c a log)

-- Under the lock, after a command of one client that was answered or refused: `side` is its account's rows, and
-- `with_side` the four with other rows for it.
module _ (client : ℕ) (side : Sides → List (Command × Answer)) (with_side : List (Command × Answer) → Sides → Sides)
    (at : (log : List Recorded) → side (sides_of log) ≡ told_to client log)
    (more : (log : List Recorded) (c : Command) (a : Answer) → sides_of (logged log client c a) ≡ with_side (told_to client log ++ (c, a) ∷ []) (sides_of log))
    (same : (s : Sides) → with_side (side s) s ≡ s)
    (base clients cell : ℕ) (told : Note Saved) (M N : Session) (log log' : List Recorded) (s : Sides) (ours : List (Command × Answer)) (locked : IsLockedBook base clients cell told M log s) where
  pub locked-answered : (c : Command) (a : Answer) → serve M client c ≡ Ok (a, N) → log' ≡ logged log client c a → ours ≡ side s ++ (c, a) ∷ []
      → length N.clients ≡ length M.clients → IsLockedBook base clients cell told N log' (with_side ours s)
  locked-answered c a served grown mine kept = record {
    named = locked.named;
    noted = locked.noted;
    known = locked.known;
    replays = rw grown (replays-more (begun clients told.known) M N log client c a locked.replays served);
    rows =
        ap (λ w. with_side w s) mine
        ∙ (ap (λ z. with_side (side z ++ (c, a) ∷ []) z) locked.rows
        ∙ (ap (λ w. with_side (w ++ (c, a) ∷ []) (sides_of log)) (at log) ∙ (sym (more log c a) ∙ ap sides_of (sym grown))));
    many = kept ∙ locked.many;
  }

  pub locked-same : standing N log' ≡ standing M log → ours ≡ side s → IsLockedBook base clients cell told N log' (with_side ours s)
  locked-same still mine =
      let here : N ≡ M = ap (λ z. z.session) still in
      let there : log' ≡ log = ap (λ z. z.log) still in
      rw (here, there, mine, same s) locked

  pub locked-turned : (A X : Type 0) (said : A → Answer) (c : Command) (r : Result A Refusal)
      → IfOk r (λ a. serve M client c ≡ Ok (said a, N)) → IfOk r (λ a. log' ≡ logged log client c (said a)) → IfOk r (λ a. ours ≡ side s ++ (c, said a) ∷ [])
      → length N.clients ≡ length M.clients → OnErr r ((standing N log' ≡ standing M log) × (ours ≡ side s) × X)
      → IsLockedBook base clients cell told N log' (with_side ours s)
  locked-turned A X said c (Ok a) served grown mine kept refused = locked-answered c (said a) served grown mine kept
  locked-turned A X said c (Err why) served grown mine kept refused = locked-same refused.0 refused.1
