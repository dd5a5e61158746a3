-- A command changes what is known of its client alone, where one answered command more is counted.
use Rattle.std.proofs.Common.{◌≡◌, ℕ, ◌+◌, ◌-◌, ◌≤◌, ◌<◌, true, List, length, set, get_or, Some, Result, Ok, Err, refl, sym, ◌∙◌, ap, subst, arith}
use Rattle.std.proofs.lemmas.List.{length-set, set-get_or, get_or-set_same}
use Rattle.std.specs.Prelude.{nat_le, nat_lt}
use Rattle.zt_rows.specs.declared.calls.Answer.{Answer}
use Rattle.zt_rows.specs.declared.calls.Answer.TheVariants as answer
use Rattle.zt_rows.specs.declared.calls.Call.{Call}
use Rattle.zt_rows.specs.declared.calls.Command.{Command}
use Rattle.zt_rows.specs.declared.calls.Command.TheVariants as command
use Rattle.zt_rows.specs.declared.calls.Happening.{Happening}
use Rattle.zt_rows.specs.declared.refusals.Refusal.{Refusal}
use Rattle.zt_rows.specs.declared.refusals.Refusal.TheVariants as refusal
use Rattle.zt_history.specs.HistoryRefusals.{check, ◌>>=◌, call_on, branch_on, moment_on}
use Rattle.zt_history.specs.Tree.{head_at, branch_named, path}
use Rattle.zt_queries.specs.FrozenCopy.{holders_on}
use Rattle.zt_queries.specs.Leaks.{leaks}
use Rattle.zt_queries.specs.HappeningTimes.{when_on}
use Rattle.zt_book.specs.declared.client.Client.{Client}
use Rattle.zt_book.specs.declared.client.Cursor.TheVariants.{Follows, At}
use Rattle.zt_book.specs.Session.{Session, first_client, most_rows, is_name, client_of, with_client, standing, position_of, state_of, followed, ancestor, branch_found, event_at, counted, asked, serve, call_by, goto_by, back_by, branch_by, follow_by, show_to, holders_to, leaks_to, when_to, pin_to, IsCommandRefusal}
use Rattle.zt_book.specs.ProofsOnly.SessionState.{SessionStateView, IsOneMore, session_before}
use Rattle.zt_book.proofs.ListLaws.{set-again}

-- ---- checks in a row

abbrev pub or_else : {A : Type 0} → A → Result A Refusal → A
or_else d (Ok x) = x
or_else d (Err e) = d

-- what holds of what the rest gives holds of what the whole gives
pub behind : {A B : Type 0} (P : B → Type 0) (r : Result A Refusal) (f : A → Result B Refusal) (y : B)
    → ((x : A) → f x ≡ Ok y → P y) → (r >>= f) ≡ Ok y → P y
behind P (Ok x) f y go h = go x h
behind P (Err e) f y go h = cc

-- what holds of what is given in the end
pub given : {B : Type 0} (P : B → Type 0) (x y : B) → P x → ◌≡◌ {A = Result B Refusal} (Ok x) (Ok y) → P y
given P x y p h = subst P (ap (or_else x) h) p

-- what holds of all that can be given behind the last check
pub last : {A B : Type 0} (P : B → Type 0) (r : Result A Refusal) (g : A → B) (y : B) → ((x : A) → P (g x)) → (r >>= λ x. Ok (g x)) ≡ Ok y → P y
last P r g y all = behind P r (λ x. Ok (g x)) y (λ x. given P (g x) y (all x))

-- the answer and the session of a command that is served
pub served : (M N : Session) (client : ℕ) (request : Command) (said : Answer) (L : Session) → nat_lt (client_of M client).rows most_rows ≡ true
    → asked M client request ≡ Ok (said, L) → N ≡ counted L client → serve M client request ≡ Ok (said, N)
unfolding serve
served M N client request said L room h is =
    rw room
    (ap (λ r. r >>= λ (y : Answer × Session). let z : Result (Answer × Session) Refusal = Ok (y.0, counted y.1 client) in z) h
    ∙ ap (λ K. let z : Result (Answer × Session) Refusal = Ok (said, K) in z) (sym is))

-- ---- what is known of the clients

-- one client may be known to be otherwise, but as many commands were answered to it
pub record IsMoved (old new : List Client) (client : ℕ) : Type 0 where
  pub to : Client
  pub is : new ≡ set old (client - 1) to
  pub rows : to.rows ≡ (get_or old (client - 1) first_client).rows

unmoved : (old : List Client) (client : ℕ) → IsMoved old old client
unmoved old client = record {
  to = get_or old (client - 1) first_client;
  is = sym (set-get_or old (client - 1) first_client);
  rows = refl;
}

module _ (M : Session) (client : ℕ) where
  abbrev pub Moved : Answer × Session → Type 0
  Moved y = IsMoved M.clients y.1.clients client

  moved-call : (process : ℕ) (call : Call) (y : Answer × Session) → call_by M client process call ≡ Ok y → Moved y
  unfolding call_by
  moved-call process call y =
      behind Moved (followed (client_of M client).cursor) (λ b. call_on M.tree b process call >>= λ done. Ok (done.0, record M { tree = done.1 })) y
      (λ b. last Moved (call_on M.tree b process call) (λ done. (done.0, record M { tree = done.1 })) y (λ done. unmoved M.clients client))

  moved-goto : (moment : ℕ) (y : Answer × Session) → goto_by M client moment ≡ Ok y → Moved y
  unfolding goto_by
  moved-goto moment y =
      last Moved (moment_on M.tree moment) (λ there. (answer.At there, standing M client (At there))) y (λ there. record { to = _; is = refl; rows = refl })

  moved-back : (count : ℕ) (y : Answer × Session) → back_by M client count ≡ Ok y → Moved y
  unfolding back_by
  moved-back count y =
      let there : ℕ = ancestor (path M.tree.made (position_of M client)) count in
      last Moved (check (nat_le count (length (path M.tree.made (position_of M client)))) refusal.AtStart) (λ _. (answer.At there, standing M client (At there))) y
      (λ _. record { to = _; is = refl; rows = refl })

  moved-branch : (name : List ℕ) (y : Answer × Session) → branch_by M client name ≡ Ok y → Moved y
  unfolding branch_by
  moved-branch name y =
      behind Moved (check (is_name name) refusal.BadName)
      (λ _. branch_on M.tree name (position_of M client) >>= λ added. Ok (answer.Branched name (position_of M client), standing (record M { tree = added.1 }) client (Follows added.0))) y
      (λ _. last Moved (branch_on M.tree name (position_of M client)) (λ added. (answer.Branched name (position_of M client), standing (record M { tree = added.1 }) client (Follows added.0))) y
      (λ added. record { to = _; is = refl; rows = refl }))

  moved-follow : (name : List ℕ) (y : Answer × Session) → follow_by M client name ≡ Ok y → Moved y
  unfolding follow_by
  moved-follow name y =
      last Moved (branch_found (branch_named M.tree.branches name)) (λ branch. (answer.Followed name (head_at M.tree.branches branch), standing M client (Follows branch))) y
      (λ branch. record { to = _; is = refl; rows = refl })

  moved-show : (y : Answer × Session) → show_to M client ≡ Ok y → Moved y
  unfolding show_to
  moved-show y = given Moved (answer.Rows (position_of M client) (state_of M client).rows, M) y (unmoved M.clients client)

  moved-holders : (object : ℕ) (y : Answer × Session) → holders_to M client object ≡ Ok y → Moved y
  unfolding holders_to
  moved-holders object y = last Moved (holders_on (state_of M client) object) (λ held. (answer.Holders object held, M)) y (λ held. unmoved M.clients client)

  moved-leaks : (y : Answer × Session) → leaks_to M client ≡ Ok y → Moved y
  unfolding leaks_to
  moved-leaks y = given Moved (answer.Leaks (position_of M client) (leaks (state_of M client)), M) y (unmoved M.clients client)

  moved-when : (what : Happening) (object : ℕ) (y : Answer × Session) → when_to M client what object ≡ Ok y → Moved y
  unfolding when_to
  moved-when what object y =
      last Moved (when_on what M.tree.made (position_of M client) object) (λ found. (answer.When (event_at M.tree.made found), M)) y (λ found. unmoved M.clients client)

  moved-pin : (y : Answer × Session) → pin_to M client ≡ Ok y → Moved y
  unfolding pin_to
  moved-pin y =
      given Moved (answer.Pinned (position_of M client), with_client M client (record (client_of M client) { pinned = Some (position_of M client) })) y
      (record { to = _; is = refl; rows = refl })

  pub moved : (request : Command) (y : Answer × Session) → asked M client request ≡ Ok y → Moved y
  moved (command.Call process call) y h = moved-call process call y h
  moved (command.Goto moment) y h = moved-goto moment y h
  moved (command.Back count) y h = moved-back count y h
  moved (command.Branch name) y h = moved-branch name y h
  moved (command.Follow name) y h = moved-follow name y h
  moved command.Show y h = moved-show y h
  moved (command.Holders object) y h = moved-holders object y h
  moved command.Leaks y h = moved-leaks y h
  moved (command.When what object) y h = moved-when what object y h
  moved command.Pin y h = moved-pin y h

-- ---- a client that is counted

pub counted-more : (old : List Client) (N : Session) (client : ℕ) → client - 1 < length old → IsMoved old N.clients client → IsOneMore old (counted N client).clients client
counted-more old N client known moved =
    let same : client_of N client ≡ moved.to = ap (λ l. get_or l (client - 1) first_client) moved.is ∙ get_or-set_same old (client - 1) moved.to first_client known in
    record {
      to = record (client_of N client) { rows = (client_of N client).rows + 1 };
      is = ap (λ l. set l (client - 1) (record (client_of N client) { rows = (client_of N client).rows + 1 })) moved.is ∙ set-again old (client - 1) moved.to _;
      rows = ap (λ (c : Client). c.rows + 1) same ∙ ap (λ n. n + 1) moved.rows;
    }

-- the client put back
pub one-more-back : (old new : List Client) (client : ℕ) → IsOneMore old new client → set new (client - 1) (get_or old (client - 1) first_client) ≡ old
one-more-back old new client h =
    ap (λ l. set l (client - 1) (get_or old (client - 1) first_client)) h.is
    ∙ set-again old (client - 1) h.to (get_or old (client - 1) first_client)
    ∙ set-get_or old (client - 1) first_client

pub one-more-length : (old new : List Client) (client : ℕ) → IsOneMore old new client → length new ≡ length old
one-more-length old new client h = ap length h.is ∙ length-set old (client - 1) h.to

pub moved-length : (old new : List Client) (client : ℕ) → IsMoved old new client → length new ≡ length old
moved-length old new client h = ap length h.is ∙ length-set old (client - 1) h.to

pub moved-rows : (old : List Client) (N : Session) (client : ℕ) → client - 1 < length old → IsMoved old N.clients client
    → (client_of N client).rows ≡ (get_or old (client - 1) first_client).rows
moved-rows old N client known h =
    ap (λ (l : List Client). (get_or l (client - 1) first_client).rows) h.is
    ∙ ap (λ (c : Client). c.rows) (get_or-set_same old (client - 1) h.to first_client known)
    ∙ h.rows

-- what the checks of a command refuse, serving it refuses
refused_behind : {A B : Type 0} (r : Result A Refusal) (f : A → B) (given : Refusal) → IsCommandRefusal r given → IsCommandRefusal (r >>= λ x. Ok (f x)) given
refused_behind (Ok x) f given h = h
refused_behind (Err refusal.NoProcess) f given h = h
refused_behind (Err refusal.NoObject) f given h = h
refused_behind (Err _) f given h = h

pub serve-refused : (M : Session) (client : ℕ) (request : Command) (given : Refusal) → nat_lt (client_of M client).rows most_rows ≡ true
    → IsCommandRefusal (asked M client request) given → IsCommandRefusal (serve M client request) given
unfolding serve
serve-refused M client request given room h =
    rw room (refused_behind (asked M client request) (λ (y : Answer × Session). let z : Answer × Session = (y.0, counted y.1 client) in z) given h)

-- ---- the clients after a command was served

module _ (d e f : SessionStateView) (client : ℕ) (request : Command) (said : Answer) (one : 1 ≤ client) (known : client ≤ length d.session.clients)
    (done : asked d.session client request ≡ Ok (said, e.session)) where
  stood : IsMoved d.session.clients e.session.clients client
  stood = moved d.session client request (said, e.session) done

  below : client - 1 < length d.session.clients
  below = omega (arith, one, known)

  pub still-known : client ≤ length e.session.clients
  still-known = omega (arith, known, moved-length d.session.clients e.session.clients client stood)

  pub still-room : (client_of d.session client).rows < most_rows → (client_of e.session client).rows < most_rows
  still-room h = omega (arith, h, moved-rows d.session.clients e.session client below stood)

  pub served-more : f.session ≡ counted e.session client → IsOneMore d.session.clients f.session.clients client
  served-more is =
      subst (λ (N : Session). IsOneMore d.session.clients N.clients client) (sym is) (counted-more d.session.clients e.session client below stood)

  pub served-back : f.session ≡ counted e.session client → f.earlier ≡ e.earlier → e.earlier ≡ d.session.tree
      → session_before f client (client_of d.session client) ≡ d.session
  served-back is kept earlier =
      let tree : f.earlier ≡ d.session.tree = kept ∙ earlier in
      let clients : set f.session.clients (client - 1) (client_of d.session client) ≡ d.session.clients =
      one-more-back d.session.clients f.session.clients client (served-more is) in
      λ i. let N : Session = record { tree = tree i; clients = clients i } in N
