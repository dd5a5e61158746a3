-- What a command does to the clients and to their history, and what the session's checks say of it.
use Rattle.std.proofs.Common.{◌≡◌, ℕ, zero, suc, ◌+◌, ◌-◌, ◌≤◌, ◌<◌, Bool, true, false, List, [], ◌∷◌, ◌++◌, length, length-append, get_or, Option, Some, None, Result, Ok, Err, refl, sym, ◌∙◌, ap, subst, inl, inr, arith}
use Rattle.std.specs.Prelude.{is_some, IfErr, IsSome, slice_get, replicate}
use Rattle.std.proofs.lemmas.List.{get_or_append_left, length-replicate}
use Rattle.std.proofs.Math.Seq.{get_or-append_seam}
use Rattle.std.proofs.lemmas.List.Elements.{All-replicate}
use Rattle.std.proofs.lemmas.Bool.{le-leb, lt-leb, lt-ltb, le-ltb}
use Rattle.zt_rows.specs.declared.calls.Answer.{Answer}
use Rattle.zt_rows.specs.declared.calls.Answer.TheVariants as answer
use Rattle.zt_rows.specs.declared.calls.Call.{Call}
use Rattle.zt_rows.specs.declared.calls.Command.{Command}
use Rattle.zt_rows.specs.declared.calls.Command.TheVariants as command
use Rattle.zt_rows.specs.declared.calls.Happening.{Happening}
use Rattle.zt_rows.specs.declared.keys.RowKey.{RowKey}
use Rattle.zt_rows.specs.declared.refusals.Refusal.{Refusal}
use Rattle.zt_rows.specs.declared.rows.Row.{Row}
use Rattle.zt_rows.specs.declared.supports.Support.{Support}
use Rattle.zt_rows.specs.declared.refusals.Refusal.TheVariants as refusal
use Rattle.zt_rows.specs.Tests.{exists}
use Rattle.zt_history.specs.HistoryRefusals.{◌>>=◌, check, call_on, branch_on, IsHistoryRefusal}
use Rattle.zt_history.specs.TreeInvariant.{Falls, IsTree, names_of}
use Rattle.zt_history.specs.Tree.{Made, Branch, Tree, main_name, last_moment, parent_at, path, state_at, head_at, branch_named}
use Rattle.zt_history.proofs.PathLaws.{path-opening, path-step, by_parents}
use Rattle.zt_history.specs.Timeline.{Timeline}
use Rattle.zt_queries.specs.FrozenCopy.{holders_on}
use Rattle.zt_queries.specs.Leaks.{leaks}
use Rattle.zt_queries.specs.HappeningTimes.{happens, last_on, is_known, when_on, IsRefusedWhen}
use Rattle.zt_bits.specs.declared.kinds.Kind.{Kind}
use Rattle.std.specs.Option.{option_map}
use Rattle.zt_rows.specs.declared.calls.Event.{Event}
use Rattle.zt_book.specs.ProofsOnly.SessionState.{IsCursor, IsPinnedMoment, IsClient, AreClients}
use Rattle.zt_book.proofs.LoadLaws.{moments-called, branches-called}
use Rattle.zt_book.specs.declared.client.Client.{Client}
use Rattle.zt_book.specs.declared.client.Cursor.{Cursor}
use Rattle.zt_book.specs.declared.client.Cursor.TheVariants.{Follows, At}
use Rattle.zt_book.specs.Session.{Session, first_client, event_of, event_at, client_of, position_of, state_of, with_client, standing, ancestor, is_name, most_rows, serve, call_by, goto_by, back_by, branch_by, follow_by, show_to, holders_to, leaks_to, when_to, pin_to, IsCommandRefusal}

-- ---- refusals

-- what the history or a query refuses, the session refuses
pub refused-there : {A B : Type 0} (r : Result A Refusal) (f : A → B) (given : Refusal) → IsHistoryRefusal r given → IsCommandRefusal (r >>= λ x. Ok (f x)) given
refused-there (Ok x) f given h = h
refused-there (Err refusal.NoProcess) f given h = h
refused-there (Err refusal.NoObject) f given h = inl h
refused-there (Err _) f given h = h

-- ---- branches

pub some-branch : (branches : List Branch) → slice_get (names_of branches) 0 ≡ Some main_name → 0 < length branches
some-branch [] h = cc h
some-branch (b ∷ bs) h = omega arith

-- ---- events

-- the call of a moment tells its event
pub event_called : (m : ℕ) (o : Option Made)
    → option_map (event_of m) o ≡ option_map (λ (q : ℕ × Call). let x : Event = record { moment = m; process = q.0; call = q.1 } in x) (option_map (λ e. (e.process, e.call)) o)
event_called m None = refl
event_called m (Some e) = refl

-- ---- one command each

module _ (M : Session) (client : ℕ) where
  pub call-detached : (process moment : ℕ) (call : Call) → (client_of M client).cursor ≡ At moment → IsCommandRefusal (call_by M client process call) refusal.Detached
  unfolding call_by
  call-detached process moment call h = rw h refl

  pub call-done : (process branch : ℕ) (call : Call) (said : Answer) (u : Tree) → (client_of M client).cursor ≡ Follows branch
      → call_on M.tree branch process call ≡ Ok (said, u) → call_by M client process call ≡ Ok (said, record M { tree = u })
  unfolding call_by
  call-done process branch call said u h done =
      rw h (ap (λ r. r >>= λ (done : Answer × Tree). Ok (done.0, record M { tree = done.1 })) done)

  pub call-refused : (process branch : ℕ) (call : Call) (given : Refusal) → (client_of M client).cursor ≡ Follows branch
      → IsHistoryRefusal (call_on M.tree branch process call) given → IsCommandRefusal (call_by M client process call) given
  unfolding call_by
  call-refused process branch call given h refused =
      rw h (refused-there (call_on M.tree branch process call) (λ (done : Answer × Tree). let N : Answer × Session = (done.0, record M { tree = done.1 }) in N) given refused)

  pub goto-far : (moment : ℕ) → last_moment M.tree < moment → IsCommandRefusal (goto_by M client moment) refusal.NoMoment
  unfolding goto_by
  goto-far moment h = rw (lt-leb moment (last_moment M.tree) h) refl

  pub goto-done : (moment : ℕ) → moment ≤ last_moment M.tree → goto_by M client moment ≡ Ok (answer.At moment, standing M client (At moment))
  unfolding goto_by
  goto-done moment h = rw (le-leb moment (last_moment M.tree) h) refl

  pub back-far : (count : ℕ) → length (path M.tree.made (position_of M client)) < count → IsCommandRefusal (back_by M client count) refusal.AtStart
  unfolding back_by
  back-far count h = rw (lt-leb count (length (path M.tree.made (position_of M client))) h) refl

  pub back-done : (count moment : ℕ) → count ≤ length (path M.tree.made (position_of M client)) → moment ≡ ancestor (path M.tree.made (position_of M client)) count
      → back_by M client count ≡ Ok (answer.At moment, standing M client (At moment))
  unfolding back_by
  back-done count moment h is =
      rw (le-leb count (length (path M.tree.made (position_of M client))) h)
      (ap (λ m. let y : Result (Answer × Session) Refusal = Ok (answer.At m, standing M client (At m)) in y) (sym is))

  pub branch-unnamed : (name : List ℕ) → is_name name ≡ false → IsCommandRefusal (branch_by M client name) refusal.BadName
  unfolding branch_by
  branch-unnamed name h = rw h refl

  pub branch-taken : (name : List ℕ) → is_name name ≡ true → position_of M client ≤ last_moment M.tree → is_some (branch_named M.tree.branches name) ≡ true
      → IsCommandRefusal (branch_by M client name) refusal.NameTaken
  unfolding branch_by
  branch-taken name h within taken = rw (h, le-leb (position_of M client) (last_moment M.tree) within, taken) refl

  pub branch-memory : (name : List ℕ) → is_name name ≡ true → position_of M client ≤ last_moment M.tree → is_some (branch_named M.tree.branches name) ≡ false
      → IsCommandRefusal (branch_by M client name) refusal.OutOfMemory
  unfolding branch_by
  branch-memory name h within free = rw (h, le-leb (position_of M client) (last_moment M.tree) within, free) refl

  pub branch-refused : (name : List ℕ) (given : Refusal) → is_name name ≡ true → IsHistoryRefusal (branch_on M.tree name (position_of M client)) given
      → IsCommandRefusal (branch_by M client name) given
  unfolding branch_by
  branch-refused name given h refused =
      rw h
      (refused-there (branch_on M.tree name (position_of M client))
      (λ (added : ℕ × Tree). let N : Answer × Session = (answer.Branched name (position_of M client), standing (record M { tree = added.1 }) client (Follows added.0)) in N)
      given refused)

  pub branch-done : (name : List ℕ) (branch : ℕ) (u : Tree) → is_name name ≡ true → branch_on M.tree name (position_of M client) ≡ Ok (branch, u)
      → branch_by M client name ≡ Ok (answer.Branched name (position_of M client), standing (record M { tree = u }) client (Follows branch))
  unfolding branch_by
  branch-done name branch u h done =
      rw h
      (ap (λ r. r >>= λ (added : ℕ × Tree). Ok (answer.Branched name (position_of M client), standing (record M { tree = added.1 }) client (Follows added.0))) done)

  pub follow-none : (name : List ℕ) → branch_named M.tree.branches name ≡ None → IsCommandRefusal (follow_by M client name) refusal.NoBranch
  unfolding follow_by
  follow-none name h = rw h refl

  pub follow-memory : (name : List ℕ) (branch : ℕ) → branch_named M.tree.branches name ≡ Some branch → IsCommandRefusal (follow_by M client name) refusal.OutOfMemory
  unfolding follow_by
  follow-memory name branch h = rw h refl

  pub follow-done : (name : List ℕ) (branch : ℕ) → branch_named M.tree.branches name ≡ Some branch
      → follow_by M client name ≡ Ok (answer.Followed name (head_at M.tree.branches branch), standing M client (Follows branch))
  unfolding follow_by
  follow-done name branch h = rw h refl

  pub holders-refused : (object : ℕ) (given : Refusal) → IsHistoryRefusal (holders_on (state_of M client) object) given → IsCommandRefusal (holders_to M client object) given
  unfolding holders_to
  holders-refused object given refused =
      refused-there (holders_on (state_of M client) object) (λ held. let N : Answer × Session = (answer.Holders object held, M) in N) given refused

  pub holders-memory : (object : ℕ) (b : Bool) → exists (state_of M client) object ≡ b → IsCommandRefusal (holders_to M client object) refusal.OutOfMemory
  unfolding holders_to
  holders-memory object true h = rw h refl
  holders-memory object false h = rw h (inr refl)

  pub show-memory : IsCommandRefusal (show_to M client) refusal.OutOfMemory
  unfolding show_to
  show-memory = refl

  pub leaks-memory : IsCommandRefusal (leaks_to M client) refusal.OutOfMemory
  unfolding leaks_to
  leaks-memory = refl

  pub when-memory : (what : Happening) (object : ℕ) (b : Bool) → is_known (state_of M client) object ≡ b → IsCommandRefusal (when_to M client what object) refusal.OutOfMemory
  unfolding when_to
  when-memory what object true h = rw h refl
  when-memory what object false h = rw h (inr refl)

  when-refused-by : (made : List Made) (what : Happening) (moment object : ℕ) (f : Option ℕ → Answer × Session) (given : Refusal) (b : Bool)
      → is_known (state_at made moment) object ≡ b
      → IsRefusedWhen (when_on what made moment object) given → IsCommandRefusal (when_on what made moment object >>= λ found. Ok (f found)) given
  when-refused-by made what moment object f given true h refused = rw h (subst (λ b. IsRefusedWhen (check b refusal.NoObject >>= λ _. Ok (last_on (happens what object) made moment)) given) h refused)
  when-refused-by made what moment object f given false h refused = rw h (subst (λ b. IsRefusedWhen (check b refusal.NoObject >>= λ _. Ok (last_on (happens what object) made moment)) given) h refused)

  pub pin-memory : (client_of M client).rows < most_rows → IsCommandRefusal (serve M client command.Pin) refusal.OutOfMemory
  unfolding serve pin_to
  pin-memory h = rw (lt-ltb (client_of M client).rows most_rows h) refl

  -- a client that has no room
  pub serve-full : (request : Command) → most_rows ≤ (client_of M client).rows → IsCommandRefusal (serve M client request) refusal.ClientFull
  unfolding serve
  serve-full request h = rw (le-ltb (client_of M client).rows most_rows h) refl

-- ---- what was done is what is asked

abbrev said_and : Answer → Session → Result (Answer × Session) Refusal
said_and said N = Ok (said, N)

module _ (M N : Session) (client : ℕ) where
  pub call-seen : (process branch : ℕ) (call : Call) (said : Answer) → (client_of M client).cursor ≡ Follows branch
      → call_on M.tree branch process call ≡ Ok (said, N.tree) → N.clients ≡ M.clients → call_by M client process call ≡ Ok (said, N)
  call-seen process branch call said h done clients =
      call-done M client process branch call said N.tree h done ∙ ap (λ l. said_and said (record { tree = N.tree; clients = l })) (sym clients)

  pub goto-seen : (moment : ℕ) → moment ≤ last_moment M.tree → N ≡ standing M client (At moment) → goto_by M client moment ≡ Ok (answer.At moment, N)
  goto-seen moment h is = goto-done M client moment h ∙ ap (said_and (answer.At moment)) (sym is)

  pub back-seen : (count moment : ℕ) → count ≤ length (path M.tree.made (position_of M client)) → moment ≡ ancestor (path M.tree.made (position_of M client)) count
      → N ≡ standing M client (At moment) → back_by M client count ≡ Ok (answer.At moment, N)
  back-seen count moment h is there = back-done M client count moment h is ∙ ap (said_and (answer.At moment)) (sym there)

  pub branch-seen : (K : Session) (name named : List ℕ) (position branch : ℕ) → is_name name ≡ true → branch_on M.tree name position ≡ Ok (branch, K.tree)
      → position ≡ position_of M client → named ≡ name → K.clients ≡ M.clients → N ≡ standing K client (Follows branch)
      → branch_by M client name ≡ Ok (answer.Branched named position, N)
  branch-seen K name named position branch h done is same clients there =
      let at : branch_on M.tree name (position_of M client) ≡ Ok (branch, K.tree) = subst (λ m. branch_on M.tree name m ≡ Ok (branch, K.tree)) is done in
      let after : standing (record M { tree = K.tree }) client (Follows branch) ≡ N =
      ap (λ l. standing (record { tree = K.tree; clients = l }) client (Follows branch)) (sym clients) ∙ sym there in
      branch-done M client name branch K.tree h at ∙ (λ i. said_and (answer.Branched (sym same i) (sym is i)) (after i))

  pub follow-seen : (name named : List ℕ) (branch head : ℕ) → branch_named M.tree.branches name ≡ Some branch → named ≡ name → head ≡ head_at M.tree.branches branch
      → N ≡ standing M client (Follows branch) → follow_by M client name ≡ Ok (answer.Followed named head, N)
  follow-seen name named branch head h same is there =
      follow-done M client name branch h ∙ (λ i. said_and (answer.Followed (sym same i) (sym is i)) (sym there i))

  pub show-seen : (position : ℕ) (rows : List (RowKey × Row)) → position ≡ position_of M client → rows ≡ (state_at M.tree.made position).rows → N ≡ M
      → show_to M client ≡ Ok (answer.Rows position rows, N)
  unfolding show_to
  show-seen position rows is are same =
      let there : rows ≡ (state_of M client).rows = are ∙ ap (λ m. (state_at M.tree.made m).rows) is in
      λ i. said_and (answer.Rows (sym is i) (sym there i)) (sym same i)

  pub holders-seen : (position object : ℕ) (held : List Support) → position ≡ position_of M client → holders_on (state_at M.tree.made position) object ≡ Ok held → N ≡ M
      → holders_to M client object ≡ Ok (answer.Holders object held, N)
  unfolding holders_to
  holders-seen position object held is found same =
      let there : holders_on (state_of M client) object ≡ Ok held = subst (λ m. holders_on (state_at M.tree.made m) object ≡ Ok held) is found in
      ap (λ r. r >>= λ held. said_and (answer.Holders object held) M) there ∙ ap (said_and (answer.Holders object held)) (sym same)

  pub leaks-seen : (position : ℕ) (found : List (ℕ × Kind)) → position ≡ position_of M client → found ≡ leaks (state_at M.tree.made position) → N ≡ M
      → leaks_to M client ≡ Ok (answer.Leaks position found, N)
  unfolding leaks_to
  leaks-seen position found is are same =
      let there : found ≡ leaks (state_of M client) = are ∙ ap (λ m. leaks (state_at M.tree.made m)) is in
      λ i. said_and (answer.Leaks (sym is i) (sym there i)) (sym same i)

  pub pin-seen : (position : ℕ) (to : Client) → position ≡ position_of M client → to ≡ record (client_of M client) { pinned = Some position } → N ≡ with_client M client to
      → pin_to M client ≡ Ok (answer.Pinned position, N)
  unfolding pin_to
  pin-seen position to is so there =
      let after : with_client M client (record (client_of M client) { pinned = Some (position_of M client) }) ≡ N =
      ap (λ m. with_client M client (record (client_of M client) { pinned = Some m })) (sym is) ∙ ap (with_client M client) (sym so) ∙ sym there in
      λ i. said_and (answer.Pinned (sym is i)) (after i)

-- want of memory alone
pub memory-alone : {T : Type 0} (P : Refusal → Type 0) (r : Result T Refusal) → P refusal.OutOfMemory → IfErr r (λ given. given ≡ refusal.OutOfMemory) → IfErr r P
memory-alone P (Ok x) told h = tt
memory-alone P (Err given) told h = subst P (sym h) told

-- ---- the clients after a call

cursor-more : (t u : Tree) (cursor : Cursor) → length t.made ≤ length u.made → length t.branches ≤ length u.branches → IsCursor t cursor → IsCursor u cursor
cursor-more t u (Follows branch) made branches h = omega arith
cursor-more t u (At moment) made branches h = omega arith

pinned-more : (t u : Tree) (pinned : Option ℕ) → length t.made ≤ length u.made → IsPinnedMoment t pinned → IsPinnedMoment u pinned
pinned-more t u (Some moment) made h = omega arith
pinned-more t u None made h = tt

pub all_clients-called : (h g : Timeline) (clients : List Client) (grown : Bool) (branch process : ℕ) (call : Call) (said : Answer) → AreClients h clients grown
    → call_on h.tree branch process call ≡ Ok (said, g.tree) → IsSome g.before → AreClients g clients true
all_clients-called h g clients grown branch process call said is done some =
    let made : length h.tree.made ≤ length g.tree.made = moments-called h.tree branch process call (said, g.tree) done in
    let branches : length h.tree.branches ≤ length g.tree.branches = omega (arith, branches-called h.tree branch process call (said, g.tree) done) in
    record {
      few = is.few;
      stand = λ k d there.
          let c : Client = get_or clients k d in
          let one : IsClient h.tree c = is.stand k d there in
          record {
            cursor = cursor-more h.tree g.tree c.cursor made branches one.cursor;
            pinned = pinned-more h.tree g.tree c.pinned made one.pinned;
            rows = one.rows;
          };
      can_retract = λ _. some;
    }

-- ---- the ancestors

push-bounded : (most : ℕ) (xs : List ℕ) (x : ℕ) → ((k : ℕ) → get_or xs k 0 ≤ most) → x ≤ most → (k : ℕ) → get_or (xs ++ x ∷ []) k 0 ≤ most
push-bounded most [] x all one zero = one
push-bounded most [] x all one (suc k) = omega arith
push-bounded most (y ∷ ys) x all one zero = all 0
push-bounded most (y ∷ ys) x all one (suc k) = push-bounded most ys x (λ j. all (suc j)) one k

path-bounded : (made : List Made) → Falls made → (most m : ℕ) → m ≤ most → (k : ℕ) → get_or (path made m) k 0 ≤ most
path-bounded made falls most =
    by_parents made falls (λ m. m ≤ most → (k : ℕ) → get_or (path made m) k 0 ≤ most)
    (λ h. let P : List ℕ → Type 0 = λ l. (k : ℕ) → get_or l k 0 ≤ most in subst P (sym (path-opening made)) (λ k. omega arith))
    (λ i up h. let P : List ℕ → Type 0 = λ l. (k : ℕ) → get_or l k 0 ≤ most in
    subst P (sym (path-step made falls i)) (push-bounded most (path made (parent_at made (suc i))) (suc i) (up (omega (arith, h, falls i))) h))

first_or : (made : List Made) → Falls made → (m : ℕ) → m ≤ length made → (n : ℕ) → get_or (0 ∷ path made m) n 0 ≤ length made
first_or made falls m h zero = omega arith
first_or made falls m h (suc n) = path-bounded made falls (length made) m h n

pub ancestor-within : (made : List Made) → Falls made → (m count : ℕ) → m ≤ length made → ancestor (path made m) count ≤ length made
ancestor-within made falls m count h = first_or made falls m h (length (path made m) - count)

-- the parent has one moment less above it
pub parent-far : (made : List Made) → Falls made → (m count : ℕ) → suc count ≤ length (path made m) → count ≤ length (path made (parent_at made m))
parent-far made falls zero count h = absurd (omega (arith, ap length (path-opening made)))
parent-far made falls (suc i) count h =
    omega (arith, ap length (path-step made falls i) ∙ length-append (path made (parent_at made (suc i))) (suc i ∷ []))

-- a step nearer, the ancestor is one of the parent's
pub ancestor-parent : (made : List Made) → Falls made → (m count : ℕ) → suc count ≤ length (path made m)
    → ancestor (path made (parent_at made m)) count ≡ ancestor (path made m) (suc count)
ancestor-parent made falls zero count h = absurd (omega (arith, ap length (path-opening made)))
ancestor-parent made falls (suc i) count h =
    let up : List ℕ = path made (parent_at made (suc i)) in
    let step : path made (suc i) ≡ up ++ suc i ∷ [] = path-step made falls i in
    let many : length (path made (suc i)) ≡ length up + 1 = ap length step ∙ length-append up (suc i ∷ []) in
    let near : length (path made (suc i)) - suc count ≡ length up - count = omega arith in
    sym (
    (λ k. get_or (0 ∷ step k) (near k) 0)
    ∙ get_or_append_left (0 ∷ up) (suc i ∷ []) 0 (length up - count) (omega arith)
    )

-- no step away it is the moment itself
pub ancestor-none : (made : List Made) → Falls made → (m : ℕ) → ancestor (path made m) 0 ≡ m
ancestor-none made falls zero = ap (λ way. ancestor way 0) (path-opening made)
ancestor-none made falls (suc i) =
    let up : List ℕ = path made (parent_at made (suc i)) in
    let step : path made (suc i) ≡ up ++ suc i ∷ [] = path-step made falls i in
    let many : length (path made (suc i)) ≡ length up + 1 = ap length step ∙ length-append up (suc i ∷ []) in
    let all : length (path made (suc i)) - 0 ≡ suc (length up) = omega arith in
    (λ k. get_or (0 ∷ step k) (all k) 0) ∙ get_or-append_seam (0 ∷ up) (suc i) [] 0

-- ---- when something happened

pub when_told : (M : Session) (client : ℕ) (what : Happening) (position object : ℕ) (found : Option ℕ) (event : Option Event) → position ≡ position_of M client
    → when_on what M.tree.made position object ≡ Ok found → event ≡ event_at M.tree.made found → when_to M client what object ≡ Ok (answer.When event, M)
unfolding when_to
when_told M client what position object found event is done are =
    let there : when_on what M.tree.made (position_of M client) object ≡ Ok found = subst (λ m. when_on what M.tree.made m object ≡ Ok found) is done in
    ap (λ r. r >>= λ found. said_and (answer.When (event_at M.tree.made found)) M) there ∙ ap (λ e. said_and (answer.When e) M) (sym are)

pub when_refused : (M : Session) (client : ℕ) (what : Happening) (position object : ℕ) (given : Refusal) → position ≡ position_of M client
    → IsRefusedWhen (when_on what M.tree.made position object) given → IsCommandRefusal (when_to M client what object) given
unfolding when_to
when_refused M client what position object given is refused =
    when-refused-by M client M.tree.made what (position_of M client) object (λ found. let N : Answer × Session = (answer.When (event_at M.tree.made found), M) in N) given _ refl
    (subst (λ m. IsRefusedWhen (when_on what M.tree.made m object) given) is refused)

pub when_forgotten : (M : Session) (client : ℕ) (what : Happening) (object : ℕ) → IsCommandRefusal (when_to M client what object) refusal.OutOfMemory
when_forgotten M client what object = when-memory M client what object _ refl

-- ---- the first clients

pub first-stands : (t : Tree) → IsTree t → IsClient t first_client
first-stands t h = record { cursor = some-branch t.branches h.branches.main; pinned = tt; rows = omega arith }

pub first_all_clients : (h : Timeline) (clients : ℕ) → clients ≤ 4 → IsTree h.tree → AreClients h (replicate clients first_client) false
first_all_clients h clients few tree = record {
  few = subst (λ n. n ≤ 4) (sym (length-replicate clients first_client)) few;
  stand = All-replicate (IsClient h.tree) clients first_client (first-stands h.tree tree);
  can_retract = λ e. cc e;
}
