-- The session of a book is loaded again of how it is written down, whatever was answered since it began: the moments, the
-- branches, and where each client stands.
use Rattle.std.proofs.Common.{◌≡◌, ℕ, zero, suc, ◌+◌, ◌-◌, ◌≤◌, ◌<◌, Bool, true, false, not, List, [], ◌∷◌, ◌++◌, length, map, get_or, Option, Some, None, Result, Ok, Err, refl, sym, ◌∙◌, ap, subst, inl, inr, arith, length-append}
use Rattle.std.specs.Prelude.{All, is_some, nat_lt, nat_le, replicate}
use Rattle.std.specs.Cmp.Lexicographic.{bytes_decides, nat_list_eq_equiv}
use Rattle.std.specs.List.{AllByRecursion, IsDistinct, position_or_len}
use Rattle.std.specs.Str.{bytes_eq}
use Rattle.std.proofs.lemmas.Bool.{cases_lt, le-leb, le-ltb, leb-true}
use Rattle.std.proofs.lemmas.List.{append-nil, append_assoc, get_or_past, length-map, length-set, map-append, take-append-le, take_all}
use Rattle.std.proofs.lemmas.List.Elements.{All-from_recursion, All-set, recursion_from_All}
use Rattle.std.proofs.lemmas.Map.Keys.{IsDistinct-head, IsDistinct-tail}
use Rattle.std.proofs.lemmas.Option.{none-some, same_Some}
use Rattle.zt_rows.specs.declared.calls.Answer.{Answer}
use Rattle.zt_rows.specs.declared.calls.Answer.TheVariants as answer
use Rattle.zt_rows.specs.declared.calls.Call.{Call}
use Rattle.zt_rows.specs.declared.calls.Command.{Command}
use Rattle.zt_rows.specs.declared.calls.Command.TheVariants as command
use Rattle.zt_rows.specs.declared.calls.Happening.{Happening}
use Rattle.zt_rows.specs.declared.refusals.Refusal.{Refusal}
use Rattle.zt_rows.specs.declared.refusals.Refusal.TheVariants as refusal
use Rattle.zt_rows.specs.declared.saved.Saved.{Saved}
use Rattle.zt_rows.specs.declared.saved.SavedCall.{SavedCall}
use Rattle.zt_rows.specs.Reads.{has_live_process}
use Rattle.zt_history.specs.HistoryRefusals.{check, ◌>>=◌ as ◌then◌, call_on, branch_on, most_moments}
use Rattle.zt_history.specs.Tree.{Made, Branch, Tree, main_name, opening_tree, last_moment, path, state_at, head_at, headed, branch_named, made_by, called, branched}
use Rattle.zt_history.specs.TreeInvariant.{Falls, names_of}
use Rattle.zt_history.proofs.BranchLaws.{named-within}
use Rattle.zt_history.proofs.MoreLaws.{falls-push}
use Rattle.zt_history.proofs.TreeLaws.{branches-headed, head-within, some-branch}
use Rattle.zt_queries.specs.FrozenCopy.{holders_on}
use Rattle.zt_queries.specs.HappeningTimes.{when_on}
use Rattle.zt_book.specs.declared.client.Client.{Client}
use Rattle.zt_book.specs.declared.client.Cursor.{Cursor}
use Rattle.zt_book.specs.declared.client.Cursor.TheVariants.{Follows, At}
use Rattle.zt_book.specs.declared.log.Recorded.{Recorded}
use Rattle.zt_book.specs.Session.{Session, first_client, is_name, client_of, with_client, standing, moment_of, position_of, state_of, followed, ancestor, branch_found, event_at, most_rows, counted, asked, serve, call_by, goto_by, back_by, branch_by, follow_by, show_to, holders_to, leaks_to, when_to, pin_to}
use Rattle.zt_book.specs.SavedSessions.{saved_call, saved_branch, saved_of_session, ◌>>=◌, at_item, in_turn, with_moment, with_branch, with_branches, with_cursor, loaded_tree, client_at, clients_at, seated, loaded_saved, unanswered}
use Rattle.zt_book.specs.Log.{Replays, IsBegun, IsWholeLog}
use Rattle.zt_book.specs.ProofsOnly.SessionState.{IsCursor}
use Rattle.zt_book.proofs.AgainLaws.{cursors-again, cursors-stand, clients-stand}
use Rattle.zt_book.proofs.BegunLaws.{loaded-apart, begun-few}
use Rattle.zt_book.proofs.KeptLaws.{apart, same_Ok, turn-apart, moment-apart, HasBranches, has-branched, bare, tree-kept}
use Rattle.zt_book.proofs.SessionStateLaws.{ancestor-within}
use Rattle.zt_book.proofs.ServedLaws.{last, moved, moved-length}
use Rattle.zt_book.proofs.LoadLaws.{branches-called, moments-called}

-- ---- trees whose moments are loaded again

pub record IsWritable (t : Tree) : Type 0 where
  pub falls : Falls t.made
  pub moments : in_turn with_moment 0 opening_tree (map saved_call t.made) ≡ Ok (bare t.made)
  pub has : HasBranches t

-- one item more
turn-push : {W I : Type 0} (add : W → I → Result W Refusal) (n : ℕ) (w v u : W) (xs : List I) (x : I)
    → in_turn add n w xs ≡ Ok v → add v x ≡ Ok u → in_turn add n w (xs ++ x ∷ []) ≡ Ok u
turn-push add n w v u [] x h added =
    ap (λ r. at_item n r >>= λ more. in_turn add (suc n) more []) (ap (λ w. add w x) (same_Ok w v h) ∙ added)
turn-push add n w v u (y ∷ ys) x h added =
    let e = turn-apart add n w v y ys h in
    ap (λ r. at_item n r >>= λ more. in_turn add (suc n) more (ys ++ x ∷ [])) e.1 ∙ turn-push add (suc n) e.0 v u ys x e.2 added

-- ---- a tree that is loaded

moments-fall : (ms : List SavedCall) (n : ℕ) (t u : Tree) → in_turn with_moment n t ms ≡ Ok u → Falls t.made → Falls u.made
moments-fall [] n t u h falls = subst (λ (u : Tree). Falls u.made) (same_Ok t u h) falls
moments-fall (m ∷ ms) n t u h falls =
    let e = turn-apart with_moment n t u m ms h in
    let f = moment-apart t e.0 m e.1 in
    moments-fall ms (suc n) e.0 u e.2
    (subst (λ (v : Tree). Falls v.made) (sym f.2) (falls-push t.made (made_by t.made m.parent m.process m.call) falls f.1))

pub writable-loaded : (s : Saved) (t : Tree) → loaded_tree s ≡ Ok t → IsWritable t
writable-loaded s t h =
    let kept = tree-kept s t h in
    record {
      falls = moments-fall s.moments 0 opening_tree (bare t.made) kept.3 (λ i. omega arith);
      moments = ap (in_turn with_moment 0 opening_tree) kept.0 ∙ kept.3;
      has = kept.2;
    }

-- ---- a call

called-parts : (room running : Bool) (said : Answer) (after : Tree) (y : Answer × Tree)
    → (check room refusal.Full then (λ _. check running refusal.NoProcess then (λ _. let done : Result (Answer × Tree) Refusal = Ok (said, after) in done))) ≡ Ok y
    → (room ≡ true) × (running ≡ true) × (y.1 ≡ after)
called-parts true true said after y h = (refl, refl, ap (λ (y : Answer × Tree). y.1) (sym (same_Ok (said, after) y h)))
called-parts true false said after y h = absurd (cc)
called-parts false running said after y h = absurd (cc)

named-headed : (bs : List Branch) (i m : ℕ) → AllByRecursion (λ b. is_name b.name ≡ true) bs → AllByRecursion (λ b. is_name b.name ≡ true) (headed bs i m)
named-headed [] i m all = tt
named-headed (b ∷ bs) zero m all = all
named-headed (b ∷ bs) (suc i) m all = (all.0, named-headed bs i m all.1)

writable-called : (t : Tree) (b process : ℕ) (call : Call) (y : Answer × Tree) → IsWritable t → call_on t b process call ≡ Ok y → IsWritable y.1
writable-called t b process call y is h =
    let e = called-parts (nat_lt (last_moment t) most_moments) (has_live_process (state_at t.made (head_at t.branches b)) process) _ _ y h in
    subst IsWritable (sym e.2) (record { falls = falls; moments = moments e.0 e.1; has = has })
  where
    head : ℕ
    head = head_at t.branches b

    one : Made
    one = made_by t.made head process call

    there : head ≤ last_moment t
    there = head-within (last_moment t) t.branches is.has.branches.heads b

    falls : Falls (t.made ++ one ∷ [])
    falls = falls-push t.made one is.falls there

    moments : nat_lt (last_moment t) most_moments ≡ true → has_live_process (state_at t.made head) process ≡ true
        → in_turn with_moment 0 opening_tree (map saved_call (t.made ++ one ∷ [])) ≡ Ok (bare (t.made ++ one ∷ []))
    moments room running =
        ap (in_turn with_moment 0 opening_tree) (map-append saved_call t.made (one ∷ []))
        ∙ turn-push with_moment 0 opening_tree (bare t.made) (bare (t.made ++ one ∷ [])) (map saved_call t.made) (saved_call one) is.moments
        (rw (room, le-leb head (last_moment t) there, running) refl)

    longer : length (t.made ++ one ∷ []) ≡ suc (last_moment t)
    longer = omega (arith, length-append t.made (one ∷ []))

    has : HasBranches (called t b process call)
    has = record {
      branches = branches-headed (last_moment t) (length (t.made ++ one ∷ [])) (suc (last_moment t)) t.branches b (omega (arith, longer)) (omega (arith, longer)) is.has.branches;
      named = named-headed t.branches b (suc (last_moment t)) is.has.named;
    }

-- ---- a branch

added-parts : (there : Bool) (found : Option ℕ) (number : ℕ) (after : Tree) (y : ℕ × Tree)
    → (check there refusal.NoMoment then (λ _. check (not (is_some found)) refusal.NameTaken then (λ _. let done : Result (ℕ × Tree) Refusal = Ok (number, after) in done))) ≡ Ok y
    → (there ≡ true) × (found ≡ None) × ((number, after) ≡ y)
added-parts true None number after y h = (refl, refl, same_Ok (number, after) y h)
added-parts true (Some b) number after y h = absurd (cc)
added-parts false found number after y h = absurd (cc)

added-apart : (t : Tree) (name : List ℕ) (m : ℕ) (y : ℕ × Tree) → branch_on t name m ≡ Ok y
    → (m ≤ last_moment t) × (branch_named t.branches name ≡ None) × ((length t.branches, branched t name m) ≡ y)
added-apart t name m y h =
    let e = added-parts (nat_le m (last_moment t)) (branch_named t.branches name) (length t.branches) (branched t name m) y h in
    (leb-true m (last_moment t) e.0, e.1, e.2)

writable-branched : (t : Tree) (name : List ℕ) (m : ℕ) → IsWritable t → is_name name ≡ true → m ≤ last_moment t → branch_named t.branches name ≡ None
    → IsWritable (branched t name m)
writable-branched t name m is named there free = record {
  falls = is.falls;
  moments = is.moments;
  has = has-branched t name m is.has named free there;
}

-- ---- sessions

pub record CanBeWritten (M : Session) : Type 0 where
  pub tree : IsWritable M.tree
  pub stand : All (λ (c : Client). IsCursor M.tree c.cursor) M.clients

cursor-more : (t u : Tree) (cursor : Cursor) → length t.made ≤ length u.made → length t.branches ≤ length u.branches → IsCursor t cursor → IsCursor u cursor
cursor-more t u (Follows branch) made branches h = omega arith
cursor-more t u (At moment) made branches h = omega arith

-- where the last of two steps gives something, so does the first
then-apart : {A B : Type 0} (r : Result A Refusal) (f : A → Result B Refusal) (y : B) → (r then f) ≡ Ok y → (x : A) × (r ≡ Ok x) × (f x ≡ Ok y)
then-apart (Ok x) f y h = (x, refl, h)
then-apart (Err e) f y h = absurd (cc)

checked : (test : Bool) (reason : Refusal) (x : Unit {0}) → check test reason ≡ Ok x → test ≡ true
checked true reason x h = refl
checked false reason x h = absurd (cc)

module _ (M : Session) (client : ℕ) (can : CanBeWritten M) where
  some : 0 < length M.tree.branches
  some = some-branch (last_moment M.tree) M.tree.branches can.tree.has.branches

  -- the client stands somewhere
  stands : IsCursor M.tree (client_of M client).cursor
  stands =
      elim (cases_lt (client - 1) (length M.clients)) [
        | inl there ↦ can.stand (client - 1) first_client there
        | inr beyond ↦ subst (λ (c : Client). IsCursor M.tree c.cursor) (sym (get_or_past M.clients (client - 1) first_client beyond)) some
      ]

  position-within : position_of M client ≤ last_moment M.tree
  position-within = by (client_of M client).cursor stands
    where
      by : (c : Cursor) → IsCursor M.tree c → moment_of M.tree c ≤ last_moment M.tree
      by (Follows b) h = head-within (last_moment M.tree) M.tree.branches can.tree.has.branches.heads b
      by (At m) h = h

  -- known to be otherwise
  otherwise : (c : Client) → IsCursor M.tree c.cursor → CanBeWritten (with_client M client c)
  otherwise c there = record {
    tree = can.tree;
    stand = All-set (λ (c : Client). IsCursor M.tree c.cursor) M.clients (client - 1) c there can.stand;
  }

  -- another tree, with no less
  over : (t : Tree) → IsWritable t → length M.tree.made ≤ length t.made → length M.tree.branches ≤ length t.branches → CanBeWritten (record M { tree = t })
  over t is made branches = record {
    tree = is;
    stand = λ k d there. cursor-more M.tree t (get_or M.clients k d).cursor made branches (can.stand k d there);
  }

-- ---- one command

abbrev Written : Answer × Session → Type 0
Written y = CanBeWritten y.1

written_as : (y z : Answer × Session) → ◌≡◌ {A = Result (Answer × Session) Refusal} (Ok y) (Ok z) → Written y → Written z
written_as y z h = subst Written (same_Ok y z h)

module _ (M : Session) (client : ℕ) (can : CanBeWritten M) (y : Answer × Session) where
  written-call : (process : ℕ) (call : Call) → call_by M client process call ≡ Ok y → Written y
  unfolding call_by
  written-call process call h =
      let e = then-apart (followed (client_of M client).cursor) (λ b. call_on M.tree b process call then (λ done. let r : Result (Answer × Session) Refusal = Ok (done.0, record M { tree = done.1 }) in r)) y h in
      let f = then-apart (call_on M.tree e.0 process call) (λ done. let r : Result (Answer × Session) Refusal = Ok (done.0, record M { tree = done.1 }) in r) y e.2 in
      written_as (f.0.0, record M { tree = f.0.1 }) y f.2
      (over M client can f.0.1 (writable-called M.tree e.0 process call f.0 can.tree f.1) (moments-called M.tree e.0 process call f.0 f.1)
      (omega (arith, branches-called M.tree e.0 process call f.0 f.1)))

  written-goto : (moment : ℕ) → goto_by M client moment ≡ Ok y → Written y
  unfolding goto_by
  written-goto moment h =
      let e = told (nat_le moment (last_moment M.tree)) h in
      written_as (answer.At moment, standing M client (At moment)) y e.1
      (otherwise M client can (record (client_of M client) { cursor = At moment }) (leb-true moment (last_moment M.tree) e.0))
    where
      there : ℕ → Result (Answer × Session) Refusal
      there m = Ok (answer.At m, standing M client (At m))

      told : (known : Bool) → ((check known refusal.NoMoment then (λ _. let m : Result ℕ Refusal = Ok moment in m)) then there) ≡ Ok y → (known ≡ true) × (there moment ≡ Ok y)
      told true h = (refl, h)
      told false h = absurd (cc)

  written-back : (count : ℕ) → back_by M client count ≡ Ok y → Written y
  unfolding back_by
  written-back count h =
      let there : ℕ = ancestor (path M.tree.made (position_of M client)) count in
      let e = then-apart (check (nat_le count (length (path M.tree.made (position_of M client)))) refusal.AtStart) (λ _. let r : Result (Answer × Session) Refusal = Ok (answer.At there, standing M client (At there)) in r) y h in
      written_as (answer.At there, standing M client (At there)) y e.2
      (otherwise M client can (record (client_of M client) { cursor = At there }) (ancestor-within M.tree.made can.tree.falls (position_of M client) count (position-within M client can)))

  written-branch : (name : List ℕ) → branch_by M client name ≡ Ok y → Written y
  unfolding branch_by
  written-branch name h =
      let m : ℕ = position_of M client in
      let t : Tree = branched M.tree name m in
      let after = λ (added : ℕ × Tree). let r : Result (Answer × Session) Refusal = Ok (answer.Branched name m, standing (record M { tree = added.1 }) client (Follows added.0)) in r in
      let e = then-apart (check (is_name name) refusal.BadName) (λ _. branch_on M.tree name m then after) y h in
      let f = then-apart (branch_on M.tree name m) after y e.2 in
      let g = added-apart M.tree name m f.0 f.1 in
      let named : is_name name ≡ true = checked (is_name name) refusal.BadName e.0 e.1 in
      let longer : length t.branches ≡ suc (length M.tree.branches) = omega (arith, length-append M.tree.branches (record { name = name; head = m } ∷ [])) in
      let N : Session = record M { tree = t } in
      let can_still : CanBeWritten N = over M client can t (writable-branched M.tree name m can.tree named g.0 g.1) (omega arith) (omega (arith, longer)) in
      let last : Written (answer.Branched name m, standing N client (Follows (length M.tree.branches))) =
      otherwise N client can_still (record (client_of M client) { cursor = Follows (length M.tree.branches) }) (omega (arith, longer)) in
      written_as (answer.Branched name m, standing (record M { tree = f.0.1 }) client (Follows f.0.0)) y f.2
      (subst (λ (added : ℕ × Tree). Written (answer.Branched name m, standing (record M { tree = added.1 }) client (Follows added.0))) g.2 last)

  written-follow : (name : List ℕ) → follow_by M client name ≡ Ok y → Written y
  unfolding follow_by
  written-follow name h =
      let e = found-apart (branch_named M.tree.branches name) (named-within M.tree.branches name) h in
      written_as (answer.Followed name (head_at M.tree.branches e.0), standing M client (Follows e.0)) y e.2
      (otherwise M client can (record (client_of M client) { cursor = Follows e.0 }) e.1)
    where
      found-apart : (found : Option ℕ) → ((b : ℕ) → Some b ≡ found → b < length M.tree.branches)
          → (branch_found found then (λ b. let r : Result (Answer × Session) Refusal = Ok (answer.Followed name (head_at M.tree.branches b), standing M client (Follows b)) in r)) ≡ Ok y
          → (b : ℕ) × (b < length M.tree.branches) × (let r : Result (Answer × Session) Refusal = Ok (answer.Followed name (head_at M.tree.branches b), standing M client (Follows b)) in r ≡ Ok y)
      found-apart (Some b) within h = (b, within b refl, h)
      found-apart None within h = absurd (cc)

  written-show : show_to M client ≡ Ok y → Written y
  unfolding show_to
  written-show h = written_as _ y h can

  written-holders : (object : ℕ) → holders_to M client object ≡ Ok y → Written y
  unfolding holders_to
  written-holders object h = last Written (holders_on (state_of M client) object) (λ held. (answer.Holders object held, M)) y (λ held. can) h

  written-leaks : leaks_to M client ≡ Ok y → Written y
  unfolding leaks_to
  written-leaks h = written_as _ y h can

  written-when : (what : Happening) (object : ℕ) → when_to M client what object ≡ Ok y → Written y
  unfolding when_to
  written-when what object h = last Written (when_on what M.tree.made (position_of M client) object) (λ found. (answer.When (event_at M.tree.made found), M)) y (λ found. can) h

  written-pin : pin_to M client ≡ Ok y → Written y
  unfolding pin_to
  written-pin h =
      written_as _ y h (otherwise M client can (record (client_of M client) { pinned = Some (position_of M client) }) (stands M client can))

  written-asked : (request : Command) → asked M client request ≡ Ok y → Written y
  written-asked (command.Call process call) h = written-call process call h
  written-asked (command.Goto moment) h = written-goto moment h
  written-asked (command.Back count) h = written-back count h
  written-asked (command.Branch name) h = written-branch name h
  written-asked (command.Follow name) h = written-follow name h
  written-asked command.Show h = written-show h
  written-asked (command.Holders object) h = written-holders object h
  written-asked command.Leaks h = written-leaks h
  written-asked (command.When what object) h = written-when what object h
  written-asked command.Pin h = written-pin h

-- ---- a log

written-counted : (M : Session) (client : ℕ) → CanBeWritten M → CanBeWritten (counted M client)
written-counted M client can = otherwise M client can (record (client_of M client) { rows = (client_of M client).rows + 1 }) (stands M client can)

-- what holds of a session holds of the one after a command
written-served : (M N : Session) (client : ℕ) (request : Command) (said : Answer) → CanBeWritten M → serve M client request ≡ Ok (said, N) → CanBeWritten N
unfolding serve
written-served M N client request said can h =
    let after = λ (z : Answer × Session). let r : Result (Answer × Session) Refusal = Ok (z.0, counted z.1 client) in r in
    let e = then-apart (check (nat_lt (client_of M client).rows most_rows) refusal.ClientFull) (λ _. asked M client request then after) (said, N) h in
    let f = then-apart (asked M client request) after (said, N) e.2 in
    written_as (f.0.0, counted f.0.1 client) (said, N) f.2 (written-counted f.0.1 client (written-asked M client can f.0 request f.1))

-- and there are as many clients
as-many : (M N : Session) (client : ℕ) (request : Command) (said : Answer) → serve M client request ≡ Ok (said, N) → length N.clients ≡ length M.clients
unfolding serve
as-many M N client request said h =
    let after = λ (z : Answer × Session). let r : Result (Answer × Session) Refusal = Ok (z.0, counted z.1 client) in r in
    let e = then-apart (check (nat_lt (client_of M client).rows most_rows) refusal.ClientFull) (λ _. asked M client request then after) (said, N) h in
    let f = then-apart (asked M client request) after (said, N) e.2 in
    ap (λ (z : Answer × Session). length z.1.clients) (sym (same_Ok (f.0.0, counted f.0.1 client) (said, N) f.2))
    ∙ length-set f.0.1.clients (client - 1) _
    ∙ moved-length M.clients f.0.1.clients client (moved M client request f.0 f.1)

written-replayed : (M N : Session) (log : List Recorded) → CanBeWritten M → Replays M log N → CanBeWritten N × (length N.clients ≡ length M.clients)
written-replayed M N [] can is = (subst CanBeWritten (sym is) can, ap (λ (S : Session). length S.clients) is)
written-replayed M N (row ∷ rows) can on =
    let rest = written-replayed on.0 N rows (written-served M on.0 row.client row.asked row.answered can on.1) on.2 in
    (rest.0, rest.1 ∙ as-many M on.0 row.client row.asked row.answered on.1)

-- where a book begins
written-begun : (M : Session) → IsBegun M → CanBeWritten M
written-begun M begun =
    let of = loaded-apart (length M.clients) begun.saved M begun.gives in
    let tree : IsWritable M.tree = writable-loaded begun.saved M.tree of.tree in
    let some : 0 < length M.tree.branches = some-branch (last_moment M.tree) M.tree.branches tree.has.branches in
    let stand : AllByRecursion (λ (c : Client). IsCursor M.tree c.cursor) M.clients =
    subst (AllByRecursion (λ (c : Client). IsCursor M.tree c.cursor)) (sym of.clients_are)
    (clients-stand M.tree (length M.clients) of.cursors some (cursors-stand M.tree begun.saved.cursors _ [] of.cursors of.found tt)) in
    record { tree = tree; stand = All-from_recursion (λ (c : Client). IsCursor M.tree c.cursor) M.clients stand }

-- ---- what is written down is loaded

-- no name before it is its own
free-so-far : (fs : List Branch) (b : Branch) (bs : List Branch) → IsDistinct bytes_eq (names_of (fs ++ b ∷ bs)) → branch_named fs b.name ≡ None
free-so-far fs b bs apart =
    let past : position_or_len (λ c. bytes_eq b.name c.name) fs ≡ length fs = passed fs apart in
    rw (past, le-ltb (length fs) (length fs) (omega arith)) refl
  where
    there : (fs : List Branch) (name : List ℕ) → AllByRecursion (λ y. bytes_eq name y ≡ false) (names_of (fs ++ b ∷ bs)) → bytes_eq name b.name ≡ false
    there [] name all = all.0
    there (f ∷ fs) name all = there fs name all.1

    passed : (fs : List Branch) → IsDistinct bytes_eq (names_of (fs ++ b ∷ bs)) → position_or_len (λ c. bytes_eq b.name c.name) fs ≡ length fs
    passed [] apart = refl
    passed (f ∷ fs) apart =
        let other : bytes_eq b.name f.name ≡ false = nat_list_eq_equiv.symm b.name f.name ∙ there fs f.name (IsDistinct-head bytes_eq f.name (names_of (fs ++ b ∷ bs)) apart) in
        let rest : position_or_len (λ c. bytes_eq b.name c.name) fs ≡ length fs = passed fs (IsDistinct-tail bytes_eq f.name (names_of (fs ++ b ∷ bs)) apart) in
        rw other (omega (arith, rest))

others-loaded : (made : List Made) (bs fs : List Branch) (n : ℕ) → IsDistinct bytes_eq (names_of (fs ++ bs)) → AllByRecursion (λ b. b.head ≤ length made) bs
    → AllByRecursion (λ b. is_name b.name ≡ true) bs
    → in_turn with_branch n (record { made = made; branches = fs }) (map saved_branch bs) ≡ Ok (record { made = made; branches = fs ++ bs })
others-loaded made [] fs n apart heads named = ap (λ bs. let r : Result Tree (ℕ × Refusal) = Ok (record { made = made; branches = bs }) in r) (sym (append-nil fs))
others-loaded made (b ∷ bs) fs n apart heads named =
    let assoc : (fs ++ b ∷ []) ++ bs ≡ fs ++ b ∷ bs = append_assoc fs (b ∷ []) bs in
    rw (named.0, free-so-far fs b bs apart, le-leb b.head (length made) heads.0)
    (others-loaded made bs (fs ++ b ∷ []) (suc n) (subst (λ l. IsDistinct bytes_eq (names_of l)) (sym assoc) apart) heads.1 named.1
    ∙ ap (λ bs. let r : Result Tree (ℕ × Refusal) = Ok (record { made = made; branches = bs }) in r) assoc)

branches-loaded : (made : List Made) (bs : List Branch) (n : ℕ) → HasBranches (record { made = made; branches = bs })
    → with_branches n (bare made) (map saved_branch bs) ≡ Ok (record { made = made; branches = bs })
branches-loaded made [] n has = absurd (none-some main_name has.branches.main)
branches-loaded made (b ∷ bs) n has =
    let main : b.name ≡ main_name = same_Some b.name main_name has.branches.main in
    rw ((bytes_decides b.name main_name).1 main, le-leb b.head (length made) has.branches.heads.0)
    (ap (λ name. in_turn with_branch (suc n) (record { made = made; branches = record { name = name; head = b.head } ∷ [] }) (map saved_branch bs)) (sym main)
    ∙ others-loaded made bs (b ∷ []) (suc n) has.branches.names has.branches.heads.1 has.named.1)

-- clients who stand where they stood
clients-unanswered : (cs : List Client) → clients_at (length cs) (map (λ (c : Client). c.cursor) cs) ≡ map (λ (c : Client). client_at c.cursor) cs
clients-unanswered cs =
    let all : length (map client_at (map (λ (c : Client). c.cursor) cs)) ≡ length cs = length-map (map (λ (c : Client). c.cursor) cs) client_at ∙ length-map cs (λ (c : Client). c.cursor) in
    take-append-le (length cs) (map client_at (map (λ (c : Client). c.cursor) cs)) (replicate (length cs) first_client) (omega (arith, all))
    ∙ take_all (length cs) (map client_at (map (λ (c : Client). c.cursor) cs)) (omega (arith, all))
    ∙ map-twice cs
  where
    map-twice : (cs : List Client) → map client_at (map (λ (c : Client). c.cursor) cs) ≡ map (λ (c : Client). client_at c.cursor) cs
    map-twice [] = refl
    map-twice (c ∷ cs) = ap (λ l. client_at c.cursor ∷ l) (map-twice cs)

written-loaded : (M : Session) → CanBeWritten M → length M.clients ≤ 4 → loaded_saved (length M.clients) (saved_of_session M) ≡ Ok (unanswered M)
written-loaded M can few =
    rw (le-ltb 4 (length M.clients) few)
    (ap (λ r. r >>= λ t. seated (length M.clients) number t written.cursors) same-tree
    ∙ ap (λ r. r >>= λ cs. let r : Result Session (ℕ × Refusal) = Ok (record { tree = M.tree; clients = clients_at (length M.clients) cs }) in r) same-cursors
    ∙ ap (λ cs. let r : Result Session (ℕ × Refusal) = Ok (record { tree = M.tree; clients = cs }) in r) (clients-unanswered M.clients))
  where
    written : Saved
    written = saved_of_session M

    number : ℕ
    number = length written.moments + length written.branches

    same-tree : loaded_tree written ≡ Ok M.tree
    same-tree =
        ap (λ r. r >>= λ t. with_branches (length written.moments) t written.branches) can.tree.moments
        ∙ branches-loaded M.tree.made M.tree.branches (length written.moments) can.tree.has

    same-cursors : in_turn (with_cursor M.tree) number [] written.cursors ≡ Ok (map (λ c. c.cursor) M.clients)
    same-cursors = cursors-again M.tree M.clients number [] can.tree.has (recursion_from_All (λ (c : Client). IsCursor M.tree c.cursor) M.clients can.stand)

pub written_law : (M : Session) (log : List Recorded) → IsWholeLog M log → loaded_saved (length M.clients) (saved_of_session M) ≡ Ok (unanswered M)
written_law M log whole =
    let on = written-replayed whole.base M log (written-begun whole.base whole.begun) whole.replays in
    written-loaded M on.0 (omega (arith, on.1, begun-few whole.base whole.begun))
