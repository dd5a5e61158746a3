-- What was loaded is loaded again, of how it is written down then.
use Rattle.std.proofs.Common.{◌≡◌, ℕ, zero, suc, ◌+◌, ◌<◌, Bool, true, false, List, [], ◌∷◌, ◌++◌, length, map, take, Option, Some, None, Result, Ok, refl, sym, ◌∙◌, ap, subst, arith, length-append}
use Rattle.std.specs.Prelude.{nat_le, replicate}
use Rattle.std.specs.Cmp.Lexicographic.{bytes_decides, nat_list_eq_equiv}
use Rattle.std.specs.List.{AllByRecursion, IsDistinct, position_or_len}
use Rattle.std.specs.Str.{bytes_eq}
use Rattle.std.proofs.lemmas.Bool.{le-leb, le-ltb, leb-true, lt-ltb}
use Rattle.std.proofs.lemmas.List.{append-nil, append_assoc, map-append, length-map, length-replicate, length-take-le, take-append-le, take-map, take_all}
use Rattle.std.proofs.lemmas.List.Elements.{All-append, All-from_recursion, All-replicate, All-take, recursion_from_All}
use Rattle.std.proofs.lemmas.Map.Keys.{IsDistinct-head, IsDistinct-tail}
use Rattle.zt_rows.specs.declared.refusals.Refusal.{Refusal}
use Rattle.zt_rows.specs.declared.refusals.Refusal.TheVariants as refusal
use Rattle.zt_rows.specs.declared.saved.Saved.{Saved}
use Rattle.zt_rows.specs.declared.saved.Cursor.{Cursor as SavedCursor}
use Rattle.zt_rows.specs.declared.saved.Cursor.TheVariants as saved_cursor
use Rattle.zt_history.specs.HistoryRefusals.{check, ◌>>=◌ as ◌then◌}
use Rattle.zt_history.specs.Tree.{Branch, Tree, last_moment, name_at, branch_named}
use Rattle.zt_history.specs.TreeInvariant.{names_of}
use Rattle.zt_history.proofs.BranchLaws.{named-within}
use Rattle.zt_history.proofs.TreeLaws.{some-branch}
use Rattle.zt_book.specs.declared.client.Client.{Client}
use Rattle.zt_book.specs.declared.client.Cursor.{Cursor}
use Rattle.zt_book.specs.declared.client.Cursor.TheVariants.{Follows, At}
use Rattle.zt_book.specs.Session.{Session, first_client, branch_found}
use Rattle.zt_book.specs.SavedSessions.{saved_call, saved_branch, saved_place, saved_of_session, ◌>>=◌, in_turn, place_on, with_cursor, loaded_tree, client_at, clients_at, seated, loaded_saved}
use Rattle.zt_book.specs.ProofsOnly.SessionState.{IsCursor}
use Rattle.zt_book.proofs.ListLaws.{all-append}
use Rattle.zt_book.proofs.BegunLaws.{IsLoadedOf, loaded-apart}
use Rattle.zt_book.proofs.KeptLaws.{apart, same_Ok, turn-apart, HasBranches, tree-kept}

-- ---- cursors

-- a branch is found by its name
place-named : (name : List ℕ) (bs : List Branch) (i : ℕ) → name ≡ name_at bs i → IsDistinct bytes_eq (names_of bs) → i < length bs
    → position_or_len (λ b. bytes_eq name b.name) bs ≡ i
place-named name [] i is apart there = absurd (omega arith)
place-named name (b ∷ bs) zero is apart there = rw ((bytes_decides name b.name).1 is) refl
place-named name (b ∷ bs) (suc i) is apart there =
    rw (other bs i is (omega arith) (IsDistinct-head bytes_eq b.name (names_of bs) apart))
    (let rest : position_or_len (λ b. bytes_eq name b.name) bs ≡ i = place-named name bs i is (IsDistinct-tail bytes_eq b.name (names_of bs) apart) (omega arith) in omega (arith, rest))
  where
    other : (bs : List Branch) (i : ℕ) → name ≡ name_at bs i → i < length bs → AllByRecursion (λ y. bytes_eq b.name y ≡ false) (names_of bs) → bytes_eq name b.name ≡ false
    other [] i is there all = absurd (omega arith)
    other (c ∷ cs) zero is there all = ap (λ n. bytes_eq n b.name) is ∙ nat_list_eq_equiv.symm c.name b.name ∙ all.0
    other (c ∷ cs) (suc i) is there all = other cs i is (omega arith) all.1

named-again : (bs : List Branch) (i : ℕ) → IsDistinct bytes_eq (names_of bs) → i < length bs → branch_named bs (name_at bs i) ≡ Some i
named-again bs i apart there = rw (place-named (name_at bs i) bs i refl apart there, lt-ltb i (length bs) there) refl

place-again : (t : Tree) (c : Cursor) → HasBranches t → IsCursor t c → place_on t (saved_place t.branches c) ≡ Ok c
place-again t (Follows branch) are there = ap (λ o. branch_found o >>= λ b. let r : Result Cursor Refusal = Ok (Follows b) in r) (named-again t.branches branch are.branches.names there)
place-again t (At moment) are there = rw (le-leb moment (last_moment t) there) refl

-- all cursors are told again
pub cursors-again : (t : Tree) (clients : List Client) (n : ℕ) (found : List Cursor) → HasBranches t → AllByRecursion (λ c. IsCursor t c.cursor) clients
    → in_turn (with_cursor t) n found (map (λ client. saved_place t.branches client.cursor) clients) ≡ Ok (found ++ map (λ c. c.cursor) clients)
cursors-again t [] n found are all = ap Ok (sym (append-nil found))
cursors-again t (c ∷ cs) n found are all =
    rw (place-again t c.cursor are all.0)
    (cursors-again t cs (suc n) (found ++ c.cursor ∷ []) are all.1 ∙ ap Ok (append_assoc found (c.cursor ∷ []) (map (λ (c : Client). c.cursor) cs)))

-- a cursor that is told is one
cursor-stands : (t : Tree) (c : Cursor) (s : SavedCursor) → place_on t s ≡ Ok c → IsCursor t c
cursor-stands t c (saved_cursor.Follows name) h =
    let e = apart (branch_found (branch_named t.branches name)) (λ b. let r : Result Cursor Refusal = Ok (Follows b) in r) c h in
    subst (IsCursor t) (same_Ok (Follows e.0) c e.2) (named-within t.branches name e.0 (sym (found-is (branch_named t.branches name) e.0 e.1)))
  where
    found-is : (o : Option ℕ) (b : ℕ) → branch_found o ≡ Ok b → o ≡ Some b
    found-is None b h = absurd (cc)
    found-is (Some x) b h = cc
cursor-stands t c (saved_cursor.At moment) h =
    let e = moment-parts (nat_le moment (last_moment t)) refl h in
    subst (IsCursor t) e.1 (leb-true moment (last_moment t) e.0)
  where
    moment-parts : (there : Bool) → nat_le moment (last_moment t) ≡ there
        → ((check there refusal.NoMoment then (λ _. let m : Result ℕ Refusal = Ok moment in m)) >>= λ m. let r : Result Cursor Refusal = Ok (At m) in r) ≡ Ok c
        → (nat_le moment (last_moment t) ≡ true) × (At moment ≡ c)
    moment-parts true is h = (is, same_Ok (At moment) c h)
    moment-parts false is h = absurd (cc)

pub cursors-stand : (t : Tree) (ss : List SavedCursor) (n : ℕ) (found cs : List Cursor) → in_turn (with_cursor t) n found ss ≡ Ok cs
    → AllByRecursion (IsCursor t) found → AllByRecursion (IsCursor t) cs
cursors-stand t [] n found cs h all = subst (AllByRecursion (IsCursor t)) (same_Ok found cs h) all
cursors-stand t (s ∷ ss) n found cs h all =
    let e = turn-apart (with_cursor t) n found cs s ss h in
    let f = apart (place_on t s) (λ c. let r : Result (List Cursor) Refusal = Ok (found ++ c ∷ []) in r) e.0 e.1 in
    cursors-stand t ss (suc n) e.0 cs e.2
    (subst (AllByRecursion (IsCursor t)) (same_Ok (found ++ f.0 ∷ []) e.0 f.2) (all-append (IsCursor t) found f.0 all (cursor-stands t f.0 s f.1)))

-- ---- clients

-- where so many clients stand
standing : ℕ → List Cursor → List Cursor
standing n cs = take n (cs ++ replicate n (Follows 0))

map-replicate : (n : ℕ) → map client_at (replicate n (Follows 0)) ≡ replicate n first_client
map-replicate zero = refl
map-replicate (suc n) = ap (λ l. first_client ∷ l) (map-replicate n)

clients-standing : (n : ℕ) (cs : List Cursor) → clients_at n cs ≡ map client_at (standing n cs)
unfolding standing
clients-standing n cs =
    ap (λ l. take n (map client_at cs ++ l)) (sym (map-replicate n))
    ∙ ap (take n) (sym (map-append client_at cs (replicate n (Follows 0))))
    ∙ take-map client_at n (cs ++ replicate n (Follows 0))

length-standing : (n : ℕ) (cs : List Cursor) → length (standing n cs) ≡ n
unfolding standing
length-standing n cs =
    length-take-le n (cs ++ replicate n (Follows 0))
    (omega (arith, length-append cs (replicate n (Follows 0)), length-replicate n (Follows 0)))

cursors-of : (cs : List Cursor) → map (λ (c : Client). c.cursor) (map client_at cs) ≡ cs
cursors-of [] = refl
cursors-of (c ∷ cs) = ap (λ l. c ∷ l) (cursors-of cs)

-- clients who stand where they stood are the same
clients-again : (n : ℕ) (cs : List Cursor) → clients_at n (map (λ (c : Client). c.cursor) (clients_at n cs)) ≡ clients_at n cs
clients-again n cs =
    let ds : List Cursor = standing n cs in
    let all : length (map client_at ds) ≡ n = length-map ds client_at ∙ length-standing n cs in
    ap (λ l. clients_at n (map (λ (c : Client). c.cursor) l)) (clients-standing n cs)
    ∙ ap (clients_at n) (cursors-of ds)
    ∙ take-append-le n (map client_at ds) (replicate n first_client) (omega (arith, all))
    ∙ take_all n (map client_at ds) (omega (arith, all))
    ∙ sym (clients-standing n cs)

pub clients-stand : (t : Tree) (n : ℕ) (cs : List Cursor) → 0 < length t.branches → AllByRecursion (IsCursor t) cs
    → AllByRecursion (λ (c : Client). IsCursor t c.cursor) (clients_at n cs)
unfolding standing
clients-stand t n cs some all =
    subst (AllByRecursion (λ (c : Client). IsCursor t c.cursor)) (sym (clients-standing n cs)) (mapped (standing n cs) stand)
  where
    mapped : (ds : List Cursor) → AllByRecursion (IsCursor t) ds → AllByRecursion (λ (c : Client). IsCursor t c.cursor) (map client_at ds)
    mapped [] all = tt
    mapped (d ∷ ds) all = (all.0, mapped ds all.1)

    stand : AllByRecursion (IsCursor t) (standing n cs)
    stand =
        recursion_from_All (IsCursor t) (take n (cs ++ replicate n (Follows 0)))
        (All-take (IsCursor t) n (cs ++ replicate n (Follows 0))
        (All-append (IsCursor t) cs (replicate n (Follows 0)) (All-from_recursion (IsCursor t) cs all) (All-replicate (IsCursor t) n (Follows 0) some)))

-- ---- the session

pub again : (clients : ℕ) (saved : Saved) (M : Session) → loaded_saved clients saved ≡ Ok M → loaded_saved clients (saved_of_session M) ≡ Ok M
again clients saved M h =
    rw (le-ltb 4 clients of.few)
    (ap (λ r. r >>= λ t. seated clients number t written.cursors) (same-tree ∙ of.tree)
    ∙ ap (λ r. r >>= λ cs. let r : Result Session (ℕ × Refusal) = Ok (record { tree = M.tree; clients = clients_at clients cs }) in r) same-cursors
    ∙ ap (λ cs. let r : Result Session (ℕ × Refusal) = Ok (record { tree = M.tree; clients = cs }) in r) same-clients)
  where
    of : IsLoadedOf clients saved M
    of = loaded-apart clients saved M h

    written : Saved
    written = saved_of_session M

    number : ℕ
    number = length written.moments + length written.branches

    kept : (map saved_call M.tree.made ≡ saved.moments) × (map saved_branch M.tree.branches ≡ saved.branches) × HasBranches M.tree
    kept = let k = tree-kept saved M.tree of.tree in (k.0, k.1, k.2)

    same-tree : loaded_tree written ≡ loaded_tree saved
    same-tree = λ i. loaded_tree (record { moments = kept.0 i; branches = kept.1 i; cursors = saved.cursors })

    stand : AllByRecursion (λ (c : Client). IsCursor M.tree c.cursor) M.clients
    stand =
        subst (AllByRecursion (λ (c : Client). IsCursor M.tree c.cursor)) (sym of.clients_are)
        (clients-stand M.tree clients of.cursors (some-branch (last_moment M.tree) M.tree.branches kept.2.branches) (cursors-stand M.tree saved.cursors _ [] of.cursors of.found tt))

    same-cursors : in_turn (with_cursor M.tree) number [] written.cursors ≡ Ok (map (λ c. c.cursor) M.clients)
    same-cursors = cursors-again M.tree M.clients number [] kept.2 stand

    same-clients : clients_at clients (map (λ (c : Client). c.cursor) M.clients) ≡ M.clients
    same-clients =
        ap (λ l. clients_at clients (map (λ (c : Client). c.cursor) l)) of.clients_are
        ∙ clients-again clients of.cursors ∙ sym of.clients_are
