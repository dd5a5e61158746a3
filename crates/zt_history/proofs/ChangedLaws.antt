-- What a history keeps while a call makes a moment, while a branch is made, and while either is taken back.
use Rattle.std.proofs.Common.{◌≡◌, ℕ, suc, ◌-◌, ◌≤◌, ◌<◌, true, List, [], ◌∷◌, ◌++◌, length, Some, None, refl, sym, ◌∙◌, ap, subst, arith, length-append}
use Rattle.std.specs.Option.{option_map}
use Rattle.std.specs.Prelude.{Bool, Ok, nat_lt, nat_le}
use Rattle.std.proofs.lemmas.Bool.Decides.{nat_tests}
use Rattle.std.proofs.lemmas.Option.{same_Some}
use Rattle.zt_rows.specs.declared.calls.Answer.{Answer}
use Rattle.zt_rows.specs.declared.calls.Answer.TheVariants as answer
use Rattle.zt_rows.specs.declared.calls.Call.{Call}
use Rattle.zt_rows.specs.declared.calls.Reply.{Reply}
use Rattle.zt_rows.specs.declared.refusals.Refusal.TheVariants as refusal
use Rattle.zt_rows.specs.Change.{before}
use Rattle.zt_rows.specs.Consistent.{IsConsistent}
use Rattle.zt_rows.specs.Handles.{next_koid}
use Rattle.zt_rows.specs.Reads.{has_live_process}
use Rattle.zt_rows.specs.Room.{HasRoom}
use Rattle.zt_rows.specs.State.{State}
use Rattle.zt_rows.specs.Step.{IsCall, step}
use Rattle.zt_store.specs.Places.{Keeps, fits}
use Rattle.zt_store.specs.StoreView.{Stored}
use Rattle.zt_store.proofs.Fitting.{all_fit-kept}
use Rattle.zt_history.specs.declared.history.Undo.{Undo}
use Rattle.zt_history.specs.declared.history.Undo.TheVariants as undo
use Rattle.zt_history.specs.Tree.{Made, Branch, Tree, parent_of, parent_at, reply_at, state_at, made_by, grown, grown_at, head_at, headed, branch_named}
use Rattle.zt_history.specs.HistoryRefusals.{◌>>=◌, call_under, check, most_moments}
use Rattle.zt_history.specs.ProofsOnly.Branches.{without_last}
use Rattle.zt_history.specs.ProofsOnly.FourBytes.{four_byte_numbers}
use Rattle.zt_history.specs.Timeline.{Timeline, after_call_at, moved_to}
use Rattle.zt_history.specs.ProofsOnly.Timeline.{after_call, without_moment}
use Rattle.zt_history.specs.TreeInvariant.{AreMoments, AreBranches, IsMade}
use Rattle.zt_history.specs.ProofsOnly.TreeInvariant.{IsHistory}
use Rattle.zt_history.specs.ProofsOnly.MomentNodes.{Chronicle, IsTurned, run_at}
use Rattle.zt_history.specs.ProofsOnly.KeptHistory.{IsKept, timeline_of}
use Rattle.zt_history.proofs.ListLaws.{get-last}
use Rattle.zt_history.proofs.RunLaws.{few-koids, few-process, moment-consistent, moment-room}
use Rattle.zt_history.proofs.GrownLaws.{length-push, history-push, history-dropped, moments-push, moments-left}
use Rattle.zt_history.proofs.TreeLaws.{without_last-push, last_apart, headed-back, length-headed, branches-more, branches-headed, branches-push}
use Rattle.zt_history.proofs.KeptLaws.{kept-back}

module _ (store : Stored) (moments : Chronicle) (branches : List Branch) (p : ℕ) (last : Undo) (is : IsKept store moments branches p last) where
  -- at every moment the state is consistent, and there is room for a call
  pub kept-consistent : IsConsistent store.state
  kept-consistent = subst IsConsistent (sym is.history.here) (moment-consistent moments.made is.moments_stand p is.history.within)

  pub kept-room : HasRoom store.state
  kept-room = subst HasRoom (sym is.history.here) (moment-room moments.made is.moments_stand p is.history.within)

  -- a call gives out few koids
  pub kept-few : (process : ℕ) (call : Call) → length moments.made < most_moments → has_live_process store.state process ≡ true → IsCall call → next_koid (step store.state process call).0 < four_byte_numbers
  kept-few process call few running limits =
      subst (λ S. next_koid (step S process call).0 < four_byte_numbers) (sym is.history.here)
      (few-koids moments.made is.moments_stand p process call is.history.within few (subst (λ S. has_live_process S process ≡ true) is.history.here running) limits)

  -- a process that runs has a koid that four bytes hold
  pub kept-small : (process : ℕ) → length moments.made < most_moments → has_live_process store.state process ≡ true → process < four_byte_numbers
  kept-small process few running = few-process moments.made is.moments_stand p process is.history.within few (subst (λ S. has_live_process S process ≡ true) is.history.here running)

  -- a call that was refused left the rows and the moments
  pub kept-refused : (new : Stored) (same : Chronicle) → new.state ≡ store.state → same.made ≡ moments.made → same.records ≡ moments.records → Keeps store.places new.places → IsKept new same branches p undo.Nothing
  kept-refused new same rows made recorded places = record {
    moments_stand = subst AreMoments (sym made) is.moments_stand;
    branches_stand = subst (λ (made : List Made). AreBranches (length made) branches) (sym made) is.branches_stand;
    history =
        subst (λ (made : List Made). IsHistory made p new same.records) (sym made)
        (subst (IsHistory moments.made p new) (sym recorded) (record {
          within = is.history.within;
          here = rows ∙ is.history.here;
          many = is.history.many;
          each = is.history.each;
          fit = all_fit-kept store.places new.places places moments.records is.history.fit;
        }));
    undo = tt;
  }

  -- a branch that was made behind the others
  pub kept-branched : (b : Branch) (more : List Branch) → more ≡ branches ++ b ∷ [] → branch_named branches b.name ≡ None → b.head ≤ length moments.made → IsKept store moments more p undo.Branch
  kept-branched b more pushed free there =
      let P : List Branch → Type 0 = λ bs. IsKept store moments bs p undo.Branch in
      subst P (sym pushed) (record {
        moments_stand = is.moments_stand;
        branches_stand = branches-push (length moments.made) branches b is.branches_stand free there;
        history = is.history;
        undo = (omega (arith, length-append branches (b ∷ [])), subst (AreBranches (length moments.made)) (sym (without_last-push branches b)) is.branches_stand);
      })

  -- another head for a branch
  pub kept-headed : (b m : ℕ) (moved : List Branch) → moved ≡ headed branches b m → m ≤ length moments.made → IsKept store moments moved p undo.Nothing
  kept-headed b m moved heads there =
      let P : List Branch → Type 0 = λ bs. IsKept store moments bs p undo.Nothing in
      subst P (sym heads) (record {
        moments_stand = is.moments_stand;
        branches_stand = branches-headed (length moments.made) (length moments.made) m branches b (omega arith) there is.branches_stand;
        history = is.history;
        undo = tt;
      })

  -- ---- a call that was answered

  module _ (process : ℕ) (call : Call) (reply : Reply) (new : Stored) (longer : Chronicle) (end : ℕ)
      (few : length moments.made < most_moments) (running : has_live_process store.state process ≡ true) (limits : IsCall call)
      (ran : ◌≡◌ {A = State × Reply} (new.state, reply) (step store.state process call))
      (made : longer.made ≡ moments.made ++ run_at p store.state process call ∷ []) (recorded : longer.records ≡ moments.records ++ before store.state new.state ∷ [])
      (kept : Keeps store.places new.places) (fit : fits new.places (before store.state new.state) ≡ true)
      (ended : end ≡ length longer.made) where
    abbrev one : Made
    one = run_at p store.state process call

    end_is : end ≡ suc (length moments.made)
    end_is = ended ∙ ap length made ∙ omega (arith, length-append moments.made (one ∷ []))

    pub kept-grown : IsKept new longer branches end undo.Nothing
    kept-grown =
        let is_made : IsMade moments.made one = record {
          running = ap (λ S. has_live_process S process) (sym is.history.here) ∙ running;
          limits = limits;
          answered = ap (λ S. (step S process call).1) is.history.here;
        } in
        let more : AreMoments (moments.made ++ one ∷ []) = moments-push moments.made one is.moments_stand.falls is.history.within is.moments_stand few is_made in
        let went : new.state ≡ (step store.state process call).0 = ap (λ (r : State × Reply). r.0) ran in
        let there = history-push moments.made one is.moments_stand.falls is.history.within store new moments.records (before store.state new.state) is.history went refl kept fit in
        let P : List Made → ℕ → Type 0 = λ made end. IsHistory made end new (moments.records ++ before store.state new.state ∷ []) in
        record {
          moments_stand = subst AreMoments (sym made) more;
          branches_stand = branches-more (length moments.made) (length longer.made) branches (omega (arith, ended, end_is)) is.branches_stand;
          history =
              subst (IsHistory longer.made end new) (sym recorded)
              (subst (λ made. P made end) (sym made) (subst (P (moments.made ++ one ∷ [])) (sym end_is) there));
          undo = tt;
        }

    pub grown-seen : timeline_of (record { made = longer.made; branches = branches }) end undo.Nothing ≡ after_call_at (timeline_of (record { made = moments.made; branches = branches }) p last) p process call
    grown-seen =
        let same : one ≡ made_by moments.made p process call =
        λ i. record { parent = p; process = process; call = call; reply = (step (is.history.here i) process call).1 } in
        λ i. record {
          tree = record { made = (made ∙ ap (λ e. moments.made ++ e ∷ []) same) i; branches = branches };
          position = end_is i;
          before = None;
        }

-- ---- the head of a branch moves to the moment that a call made there

module _ (store : Stored) (moments : Chronicle) (branches moved : List Branch) (end : ℕ) (last : Undo) (is : IsKept store moments branches end last)
    (h : Timeline) (b process : ℕ) (call : Call) (stand : AreBranches (length h.tree.made) h.tree.branches) (within : b < length h.tree.branches)
    (g : Timeline) (view : timeline_of (record { made = moments.made; branches = branches }) end last ≡ g) (m : ℕ) (grown : g ≡ after_call_at h m process call)
    (at_head : m ≡ head_at h.tree.branches b) (made : ℕ) (ended : g.position ≡ made) (headed_at : moved ≡ headed branches b made) where
  seen : timeline_of (record { made = moments.made; branches = branches }) end last ≡ after_call_at h (head_at h.tree.branches b) process call
  seen = view ∙ grown ∙ ap (λ m. after_call_at h m process call) at_head

  heads : moved ≡ headed branches b end
  heads = headed_at ∙ ap (headed branches b) (sym (ap (λ (t : Timeline). t.position) view ∙ ended))

  made_is : moments.made ≡ h.tree.made ++ made_by h.tree.made (head_at h.tree.branches b) process call ∷ []
  made_is = ap (λ (t : Timeline). t.tree.made) seen

  same_branches : branches ≡ h.tree.branches
  same_branches = ap (λ (t : Timeline). t.tree.branches) seen

  at_end : end ≡ suc (length h.tree.made)
  at_end = ap (λ (t : Timeline). t.position) seen

  size : length moments.made ≡ suc (length h.tree.made)
  size = ap length made_is ∙ length-push h.tree.made (made_by h.tree.made (head_at h.tree.branches b) process call)

  -- taken back, moments and heads are those of before
  up : parent_at moments.made (length moments.made) ≡ head_at h.tree.branches b
  up =
      (λ i. parent_at (made_is i) (size i))
      ∙ ap parent_of (get-last h.tree.made (made_by h.tree.made (head_at h.tree.branches b) process call) (length h.tree.made) refl)

  moments_back : without_last moments.made ≡ h.tree.made
  moments_back = ap without_last made_is ∙ without_last-push h.tree.made (made_by h.tree.made (head_at h.tree.branches b) process call)

  heads_back : headed moved b (parent_at moments.made (length moments.made)) ≡ h.tree.branches
  heads_back = (λ i. headed ((heads ∙ ap (λ bs. headed bs b end) same_branches) i) b (up i)) ∙ headed-back h.tree.branches b end

  pub kept-followed : IsKept store moments moved end (undo.Call b)
  kept-followed = record {
    moments_stand = is.moments_stand;
    branches_stand =
        subst (AreBranches (length moments.made)) (sym heads)
        (branches-headed (length moments.made) (length moments.made) end branches b (omega arith) is.history.within is.branches_stand);
    history = is.history;
    undo = (
      omega (arith, size),
      at_end ∙ sym size,
      omega (arith, within, ap length heads, length-headed branches b end, ap length same_branches),
      let n : length moments.made - 1 ≡ length h.tree.made = omega (arith, size) in
          let Q : ℕ → Type 0 = λ n. AreBranches n h.tree.branches in
          subst (AreBranches (length moments.made - 1)) (sym heads_back) (subst Q (sym n) stand),
    );
  }

  pub followed-seen : timeline_of (record { made = moments.made; branches = moved }) end (undo.Call b) ≡ after_call h b process call
  followed-seen = λ i. record {
    tree = record { made = made_is i; branches = (heads ∙ (λ j. headed (same_branches j) b (at_end j))) i };
    position = at_end i;
    before = Some (record { tree = record { made = moments_back i; branches = heads_back i }; position = up i });
  }

-- ---- the last moment is dropped

-- the front of the list without its last moment
front_stands : (made : List Made) → 0 < length made → AreMoments made → (front : List Made) × (e : Made) × (made ≡ front ++ e ∷ []) × AreMoments front × (e.parent ≤ length front) × (front ≡ without_last made)
front_stands made some are =
    let apart = last_apart made some in
    let e = apart.0 in
    let all : AreMoments (without_last made ++ e ∷ []) = subst AreMoments apart.1 are in (
      without_last made,
      e,
      apart.1,
      moments-left (without_last made) e all,
      omega (arith, all.falls (length (without_last made)), ap parent_of (get-last (without_last made) e (length (without_last made)) refl)),
      refl,
    )

pub kept-dropped : (old new : Stored) (moments turned shorter : Chronicle) (branches : List Branch) (last : Undo) (p i head : ℕ)
    → IsKept old moments branches p last → IsTurned moments turned old new i → p ≡ suc i → p ≡ length moments.made → head ≡ parent_at moments.made p
    → shorter.made ≡ without_last turned.made → shorter.records ≡ without_last turned.records → AreBranches (length moments.made - 1) branches
    → IsKept new shorter branches head undo.Nothing
kept-dropped old new moments turned shorter branches last p i head is turn place end up made recorded heads =
    let back : IsKept new turned branches head undo.Nothing = kept-back old new moments turned branches last i p turn place head (up ∙ ap (λ made. parent_at made p) (sym turn.made)) is in
    let some : 0 < length turned.made = omega (arith, place, end, ap length turn.made) in
    let f = front_stands turned.made some back.moments_stand in
    let front : List Made = f.0 in
    let e : Made = f.1 in
    let some_records : 0 < length turned.records = omega (arith, some, back.history.many) in
    let r = last_apart turned.records some_records in
    let size : length turned.made ≡ suc (length front) = ap length f.2 ∙ omega (arith, length-append front (e ∷ [])) in
    let there : head ≤ length front = omega (arith, up, place, is.moments_stand.falls i, ap (parent_at moments.made) place, size, end, ap length turn.made) in
    let whole : IsHistory (front ++ e ∷ []) head new (without_last turned.records ++ r.0 ∷ []) =
    subst (IsHistory (front ++ e ∷ []) head new) r.1 (let P : List Made → Type 0 = λ made. IsHistory made head new turned.records in subst P f.2 back.history) in
    let here : shorter.made ≡ front = made ∙ sym f.5 in
    record {
      moments_stand = subst AreMoments (sym here) f.3;
      branches_stand =
          let n : length moments.made - 1 ≡ length shorter.made = omega (arith, size, ap length turn.made, ap length here) in
          let P : ℕ → Type 0 = λ n. AreBranches n branches in
          subst P n heads;
      history =
          subst (IsHistory shorter.made head new) (sym recorded)
          (let P : List Made → Type 0 = λ made. IsHistory made head new (without_last turned.records) in
          subst P (sym here) (history-dropped front e f.3.falls f.4 head new (without_last turned.records) r.0 there whole));
      undo = tt;
    }

-- ---- the moment that a call has just made

module _ (h : Timeline) (m process : ℕ) (call : Call) where
  pub reply-grown : reply_at (grown h.tree.made m process call) (suc (length h.tree.made)) ≡ Some (made_by h.tree.made m process call).reply
  reply-grown = ap (option_map (λ (e : Made). e.reply)) (get-last h.tree.made (made_by h.tree.made m process call) (length h.tree.made) refl)

  pub heads-grown : AreBranches (length h.tree.made) h.tree.branches → AreBranches (length (grown h.tree.made m process call) - 1) h.tree.branches
  heads-grown stand =
      let P : ℕ → Type 0 = λ n. AreBranches n h.tree.branches in
      subst P (omega (arith, length-push h.tree.made (made_by h.tree.made m process call))) stand

  -- dropped again, it leaves the history as it was, at the parent
  pub dropped-grown : without_moment (after_call_at h m process call) ≡ moved_to h m
  dropped-grown = λ i. record {
    tree = record { made = without_last-push h.tree.made (made_by h.tree.made m process call) i; branches = h.tree.branches };
    position = ap parent_of (get-last h.tree.made (made_by h.tree.made m process call) (length h.tree.made) refl) i;
    before = None;
  }

-- what the checks of a call give, where all of them pass
all_pass : (full there running : Bool) (made : Answer × Tree) → full ≡ true → there ≡ true → running ≡ true
    → (check full refusal.Full >>= λ _. check there refusal.NoMoment >>= λ _. check running refusal.NoProcess >>= λ _. Ok made) ≡ Ok made
all_pass full there running made f t r = λ i. check (f i) refusal.Full >>= λ _. check (t i) refusal.NoMoment >>= λ _. check (r i) refusal.NoProcess >>= λ _. Ok made

-- a call that was answered at this moment made the last one, which has its reply
pub call-answered : (h : Timeline) (m process : ℕ) (call : Call) (new : Timeline) (moment : ℕ) (reply : Reply) → length h.tree.made < 1048576 → m ≤ length h.tree.made → has_live_process (state_at h.tree.made m) process ≡ true
    → new ≡ after_call_at h m process call → moment ≡ length new.tree.made → Some reply ≡ reply_at new.tree.made new.position
    → call_under h.tree m process call ≡ Ok (answer.Called moment reply, new.tree)
call-answered h m process call new moment reply few there running grown last replied =
    let under : nat_lt (length h.tree.made) 1048576 ≡ true = grind (arith, nat_tests) in
    let within : nat_le m (length h.tree.made) ≡ true = grind (arith, nat_tests) in
    let same : reply ≡ (made_by h.tree.made m process call).reply = same_Some _ _ (replied ∙ ap (λ (h : Timeline). reply_at h.tree.made h.position) grown ∙ reply-grown h m process call) in
    let end : moment ≡ suc (length h.tree.made) = last ∙ ap (λ (h : Timeline). length h.tree.made) grown ∙ length-push h.tree.made (made_by h.tree.made m process call) in
    all_pass (nat_lt (length h.tree.made) 1048576) (nat_le m (length h.tree.made)) (has_live_process (state_at h.tree.made m) process) (answer.Called (suc (length h.tree.made)) (made_by h.tree.made m process call).reply, grown_at h.tree m process call) under within running
    ∙ (λ i. Ok (answer.Called (sym end i) (sym same i), (sym grown i).tree))
