-- The clients of a shared book at their places, and what is left of them there.
use Rattle.std.proofs.Common.{◌≡◌, ℕ, suc, ◌<◌, ◌≤◌, List, [], ◌∷◌, ◌++◌, length, map, get_or, Option, Some, None, refl, sym, ◌∙◌, ap, subst, arith}
use Rattle.std.specs.Prelude.{All}
use Rattle.std.specs.List.{AllZip, filter_map, cons_option}
use Rattle.std.specs.List.Sorted.{IsPermutation}
use Rattle.std.proofs.lemmas.List.{get_or-map, length-map}
use Rattle.std.proofs.lemmas.List.Elements.{filter_map-append, All-head, All-tail, All-map}
use Rattle.zt_rows.specs.declared.calls.Answer.{Answer}
use Rattle.zt_rows.specs.declared.calls.Command.{Command}
use Rattle.zt_book.specs.declared.log.Recorded.{Recorded}
use Rattle.zt_book.specs.Log.{Replays}
use Rattle.zt_book.specs.Session.{Session}
use Rattle.zt_shared.specs.Sharing.{PassView, IsPartOf, IsOneLog, told_to, first_part, first_parts, numbers}
use Rattle.zt_shared.proofs.SharingLaws.{in_order}
use Rattle.zt_console.specs.declared.client_sessions.ClientSession.{ClientSession}
use Rattle.zt_console.specs.declared.client_sessions.Served.{Served}
use Rattle.zt_console.specs.declared.client_threads.ClientThread.{ClientThread}
use Rattle.zt_console.specs.declared.client_threads.ClientThread.TheVariants.{Running, Unserved}
use Rattle.zt_console.specs.declared.run_loop.End.TheVariants.{Stopped}
use Rattle.zt_console.specs.ProofsOnly.ClientSessions.{place_of, served_at, pass_at, IsToBeServed, HasServed, IsGivenBack, IsStartedFor, IsJoinedTo}
use Rattle.zt_console.specs.Run.{at_responder}
use Rattle.zt_console.specs.Sessions.{AsksPass, Caller, IsCountable, IsServed, told_in}
use Rattle.zt_console.proofs.LineFeedLaws.{talked_nothing}
use Rattle.zt_rows.specs.declared.refusals.Refusal.TheVariants.{OutOfMemory}

-- ---- lists

pub zip_more : {S T : Type 0} (R : S → T → Type 0) (xs : List S) (ys : List T) (x : S) (y : T) → AllZip R xs ys → R x y → AllZip R (xs ++ x ∷ []) (ys ++ y ∷ [])
zip_more R [] [] x y h r = (r, tt)
zip_more R [] (z ∷ ys) x y h r = absurd h
zip_more R (z ∷ xs) [] x y h r = absurd h
zip_more R (z ∷ xs) (w ∷ ys) x y (h, hs) r = (h, zip_more R xs ys x y hs r)

pub zip_length : {S T : Type 0} (R : S → T → Type 0) (xs : List S) (ys : List T) → AllZip R xs ys → length ys ≡ length xs
zip_length R [] [] h = refl
zip_length R [] (z ∷ ys) h = absurd h
zip_length R (z ∷ xs) [] h = absurd h
zip_length R (z ∷ xs) (w ∷ ys) (h, hs) = ap suc (zip_length R xs ys hs)

pub map_more : {A B : Type 0} (f : A → B) (xs : List A) (x : A) → map f (xs ++ x ∷ []) ≡ map f xs ++ f x ∷ []
map_more f [] x = refl
map_more f (y ∷ xs) x = ap (λ z. f y ∷ z) (map_more f xs x)

pub left_more : {A B : Type 0} (f : A → Option B) (xs : List A) (x : A) → filter_map f (xs ++ x ∷ []) ≡ filter_map f xs ++ cons_option (f x) []
left_more f xs x = filter_map-append f xs (x ∷ [])

-- ---- places

some-same : (x y : PassView) → Some x ≡ Some y → y ≡ x
some-same x y e = cc

part-with : ℕ → Session → List (Command × Answer) → PassView
part-with client base rows = record { client = client; base = base; rows = rows }

-- a pass whose rows are those of the log
told-in : (log : List Recorded) (before after : PassView) (end : Session) → after.client ≡ before.client → after.base ≡ before.base → IsPartOf after log end → after ≡ told_in log before
unfolding part-with
told-in log before after end who base part =
    ap (λ n. part-with n after.base after.rows) who
    ∙ ap (λ b. part-with before.client b after.rows) base
    ∙ ap (λ r. part-with before.client before.base r) (sym part.rows ∙ ap (λ n. told_to n log) who)

abbrev pub IsIn : List Recorded → PassView → Type 0
IsIn log pass = (end : Session) × IsPartOf pass log end

-- what holds of where each pass begins holds of where each client began
begun-all : {I O : Type 0} (Q : Session → Type 0) (log : List Recorded) (cs : List (Caller I O)) → All (λ (p : PassView). Q p.base) (map (λ (c : Caller I O). told_in log c.2) cs)
    → All (λ (c : Caller I O). Q c.2.base) cs
begun-all {I} {O} Q log cs h = λ i d lt.
    let f : Caller I O → PassView = λ c. told_in log c.2 in
    subst (λ (p : PassView). Q p.base) (get_or-map f cs i d (f d) lt) (h i (f d) (subst (λ n. i < n) (sym (length-map cs f)) lt))

module _ {I O A B C D : Type 0} (remaining : I → Option (List ℕ)) (contents : O → Option (List ℕ)) where
  abbrev pub Zipped : List (Caller I O) → List (ClientSession I O A B C D) → Type 0
  Zipped cs ps = AllZip (HasServed remaining contents) (map place_of cs) ps

  left-one : (p : ClientSession I O A B C D) (ps : List (ClientSession I O A B C D)) (pass : PassView) → p.pass ≡ Some pass → filter_map pass_at (p ∷ ps) ≡ pass ∷ filter_map pass_at ps
  left-one p ps pass e = ap (λ o. cons_option o (filter_map pass_at ps)) e

  -- the passes that are left have the clients of those that were brought
  pub clients_left : (cs : List (Caller I O)) (ps : List (ClientSession I O A B C D)) → Zipped cs ps → map (λ (p : PassView). p.client) (filter_map pass_at ps) ≡ map (λ (c : Caller I O). c.2.client) cs
  clients_left [] [] h = refl
  clients_left [] (p ∷ ps) h = absurd h
  clients_left (c ∷ cs) [] h = absurd h
  clients_left (c ∷ cs) (p ∷ ps) (h, hs) =
      ap (map (λ (p : PassView). p.client)) (left-one p ps h.after h.holds)
      ∙ ap (λ x. x ∷ map (λ (p : PassView). p.client) (filter_map pass_at ps)) (h.who ∙ ap (λ (p : PassView). p.client) (some-same c.2 h.before h.held))
      ∙ ap (λ xs. c.2.client ∷ xs) (clients_left cs ps hs)

  is-told : (log : List Recorded) (c : Caller I O) (p : ClientSession I O A B C D) (h : HasServed remaining contents (place_of c) p) → IsIn log h.after → h.after ≡ told_in log c.2
  is-told log c p h (end, part) =
      told-in log h.before h.after end h.who h.base part ∙ ap (told_in log) (some-same c.2 h.before h.held)

  -- they are those that were brought, with the rows of the log
  pub passes_left : (log : List Recorded) (cs : List (Caller I O)) (ps : List (ClientSession I O A B C D)) → Zipped cs ps → All (IsIn log) (filter_map pass_at ps)
      → filter_map pass_at ps ≡ map (λ (c : Caller I O). told_in log c.2) cs
  passes_left log [] [] h all = refl
  passes_left log [] (p ∷ ps) h all = absurd h
  passes_left log (c ∷ cs) [] h all = absurd h
  passes_left log (c ∷ cs) (p ∷ ps) (h, hs) all =
      let e = left-one p ps h.after h.holds in
      let all_left = subst (All (IsIn log)) e all in
      e
      ∙ ap (λ x. x ∷ filter_map pass_at ps) (is-told log c p h (All-head (IsIn log) h.after (filter_map pass_at ps) all_left))
      ∙ ap (λ xs. told_in log c.2 ∷ xs) (passes_left log cs ps hs (All-tail (IsIn log) h.after (filter_map pass_at ps) all_left))

  -- each client was served, up to its part of the log
  pub each_served : (log : List Recorded) (cs : List (Caller I O)) (ps : List (ClientSession I O A B C D)) → Zipped cs ps → All (IsIn log) (filter_map pass_at ps)
      → AllZip (λ (c : Caller I O) (s : Served I O). IsServed remaining contents c (told_in log c.2) s.reader s.writer s.end) cs (map served_at ps)
  each_served log [] [] h all = tt
  each_served log [] (p ∷ ps) h all = absurd h
  each_served log (c ∷ cs) [] h all = absurd h
  each_served log (c ∷ cs) (p ∷ ps) (h, hs) all =
      let e = left-one p ps h.after h.holds in
      let all_left = subst (All (IsIn log)) e all in
      let told = is-told log c p h (All-head (IsIn log) h.after (filter_map pass_at ps) all_left) in
      let same = some-same c.2 h.before h.held in (
        subst (λ x. IsServed remaining contents c x p.reader p.writer p.end) told (subst (λ x. IsServed remaining contents (c.0, c.1, x) h.after p.reader p.writer p.end) same h.served),
        each_served log cs ps hs (All-tail (IsIn log) h.after (filter_map pass_at ps) all_left),
      )

  length_left : (cs : List (Caller I O)) (ps : List (ClientSession I O A B C D)) → Zipped cs ps → length ps ≡ length cs
  length_left [] [] h = refl
  length_left [] (p ∷ ps) h = absurd h
  length_left (c ∷ cs) [] h = absurd h
  length_left (c ∷ cs) (p ∷ ps) (h, hs) = ap suc (length_left cs ps hs)

  -- there is room for what is left where there was room for the clients
  pub room_left : (cs : List (Caller I O)) (ps : List (ClientSession I O A B C D)) (n j k : ℕ) → Zipped cs ps → n ≡ length cs → n ≤ j → n ≤ k → (length ps ≤ j) × (length ps ≤ k)
  room_left cs ps n j k z e f g = let same = length_left cs ps z in (omega (arith, same, e, f), omega (arith, same, e, g))

  -- all passes are back
  pub all_back : (cs : List (Caller I O)) (ps : List (ClientSession I O A B C D)) (passes : List PassView) (n : ℕ) → Zipped cs ps → passes ≡ filter_map pass_at ps
      → IsPermutation (numbers n) (map (λ (c : Caller I O). c.2.client) cs) → IsPermutation (numbers n) (map (λ (p : PassView). p.client) passes)
  all_back cs ps passes n z e h = subst (IsPermutation (numbers n)) (sym (ap (map (λ (p : PassView). p.client)) e ∙ clients_left cs ps z)) h

  -- what is known of the passes that sessions end with is told of those that they began with
  pub all_closed : (n : ℕ) (log : List Recorded) (cs : List (Caller I O)) (ps : List (ClientSession I O A B C D)) (passes : List PassView) → Zipped cs ps → passes ≡ filter_map pass_at ps
      → IsOneLog n passes log → IsOneLog n (map (λ (c : Caller I O). told_in log c.2) cs) log
  all_closed n log cs ps passes z e closed =
      subst (λ l. IsOneLog n l log) (e ∙ passes_left log cs ps z (subst (All (IsIn log)) e closed.parts)) closed

  -- from where each of them began, the log ends in the session in which it ends from where the passes began
  pub all_ended : (n : ℕ) (log : List Recorded) (end : Session) (cs : List (Caller I O)) (ps : List (ClientSession I O A B C D)) (passes : List PassView) → Zipped cs ps → passes ≡ filter_map pass_at ps
      → IsOneLog n passes log → All (λ (p : PassView). Replays p.base log end) passes → All (λ (c : Caller I O). Replays c.2.base log end) cs
  all_ended n log end cs ps passes z e closed ended =
      let same = e ∙ passes_left log cs ps z (subst (All (IsIn log)) e closed.parts) in
      begun-all (λ (base : Session). Replays base log end) log cs (subst (All (λ (p : PassView). Replays p.base log end)) same ended)

  pub all_served : (n : ℕ) (log : List Recorded) (cs : List (Caller I O)) (ps : List (ClientSession I O A B C D)) (passes : List PassView) (served : List (Served I O)) → Zipped cs ps
      → passes ≡ filter_map pass_at ps → served ≡ map served_at ps → IsOneLog n passes log
      → AllZip (λ (c : Caller I O) (s : Served I O). IsServed remaining contents c (told_in log c.2) s.reader s.writer s.end) cs served
  all_served n log cs ps passes served z e f closed =
      subst (λ l. AllZip (λ (c : Caller I O) (s : Served I O). IsServed remaining contents c (told_in log c.2) s.reader s.writer s.end) cs l) (sym f)
      (each_served log cs ps z (subst (All (IsIn log)) e closed.parts))

module _ {I O A B C D : Type 0} (remaining : I → Option (List ℕ)) (contents : O → Option (List ℕ)) where
  -- a client that is turned away was told nothing
  pub turned_away : (old new : ClientSession I O A B C D) → new ≡ record old { end = Stopped OutOfMemory } → IsGivenBack remaining contents old new
  turned_away old new e to_serve = rw e (record {
    before = to_serve.pass;
    after = to_serve.pass;
    held = to_serve.held;
    holds = to_serve.held;
    who = refl;
    base = refl;
    served = record { talk = talked_nothing AsksPass (at_responder to_serve.pass None) (remaining old.reader.0) (contents old.writer.0) refl; ended = tt; cause = (refl, refl) };
  })

  -- all whose threads were started and joined were served
  pub all_joined : (olds : List (ClientSession I O A B C D)) (threads : List (ClientThread I O A B C D)) (news : List (ClientSession I O A B C D)) → AllZip (IsStartedFor remaining contents) olds threads
      → AllZip (IsJoinedTo remaining contents) threads news → All IsToBeServed olds → AllZip (HasServed remaining contents) olds news
  all_joined [] [] [] s j h = tt
  all_joined [] [] (new ∷ news) s j h = absurd j
  all_joined [] (thread ∷ threads) news s j h = absurd s
  all_joined (old ∷ olds) [] news s j h = absurd s
  all_joined (old ∷ olds) (thread ∷ threads) [] s j h = absurd j
  all_joined (old ∷ olds) (thread ∷ threads) (new ∷ news) (s, ss) (j, js) h =
      (one thread s j (All-head IsToBeServed old olds h), all_joined olds threads news ss js (All-tail IsToBeServed old olds h))
    where
      one : (t : ClientThread I O A B C D) → IsStartedFor remaining contents old t → IsJoinedTo remaining contents t new → IsToBeServed old → HasServed remaining contents old new
      one (Running t) started joined to_serve = subst (λ p. IsGivenBack remaining contents p new) started joined to_serve
      one (Unserved place) started joined to_serve = subst (HasServed remaining contents old) (sym joined) (started to_serve)

-- clients whose failures can be counted take places
pub all_taken : {I O A B C D : Type 0} (cs : List (Caller I O)) → All IsCountable cs → All (IsToBeServed {I = I} {O = O} {A = A} {B = B} {C = C} {D = D}) (map place_of cs)
all_taken cs h = All-map IsToBeServed place_of cs (λ i d lt. record { pass = (get_or cs i d).2; held = refl; counts = h i d lt })

-- ---- the passes of a book that is opened

callers-clients : {I O : Type 0} (cs : List (Caller I O)) → map (λ (c : Caller I O). c.2.client) cs ≡ map (λ (p : PassView). p.client) (map (λ (c : Caller I O). c.2) cs)
callers-clients [] = refl
callers-clients (c ∷ cs) = ap (λ z. c.2.client ∷ z) (callers-clients cs)

parts-clients : (base : Session) (ns : List ℕ) → map (λ (p : PassView). p.client) (map (first_part base) ns) ≡ ns
parts-clients base [] = refl
parts-clients base (n ∷ ns) = ap (λ z. n ∷ z) (parts-clients base ns)

-- clients with the passes of a book that is opened are all its clients
pub first_callers : {I O : Type 0} (cs : List (Caller I O)) (ps : List PassView) (n m : ℕ) (base : Session) → map (λ (c : Caller I O). c.2) cs ≡ ps → ps ≡ first_parts n base → n ≡ m
    → IsPermutation (numbers m) (map (λ (c : Caller I O). c.2.client) cs)
first_callers cs ps n m base e f many =
    in_order (numbers m) _ (callers-clients cs ∙ ap (map (λ (p : PassView). p.client)) (e ∙ f) ∙ parts-clients base (numbers n) ∙ ap numbers many)
