-- The calls of a path that are asked for, moment by moment.
use Rattle.std.proofs.Common.{◌||◌, ◌≡◌, ℕ, suc, ◌+◌, ◌≤◌, ◌<◌, Bool, true, false, cond, List, [], ◌∷◌, ◌++◌, length, map, take, get_or, Option, Some, None, refl, sym, ◌∙◌, ap, subst, arith, append-nil}
use Rattle.std.specs.Prelude.{filter, nat_le, Ok, Err}
use Rattle.std.specs.List.{filter_map, list_any}
use Rattle.std.specs.Option.{option_map}
use Rattle.std.proofs.lemmas.Bool.{leb-true}
use Rattle.std.proofs.lemmas.List.{take_more}
use Rattle.std.proofs.lemmas.List.Elements.{filter-append, filter_map-append}
use Rattle.zt_rows.specs.declared.calls.Call.{Call}
use Rattle.zt_rows.specs.declared.calls.Reply.{Reply}
use Rattle.zt_rows.specs.declared.refusals.Refusal.{Refusal}
use Rattle.zt_rows.specs.declared.refusals.Refusal.TheVariants as refusal
use Rattle.zt_history.specs.HistoryRefusals.{IsHistoryRefusal, moment_on, check, ◌>>=◌}
use Rattle.zt_history.specs.Timeline.{Timeline, IsPath, moved_to}
use Rattle.zt_history.specs.Tree.{Made, Tree, last_moment, made_at, call_at, reply_at}
use Rattle.zt_history.specs.TreeInvariant.{Falls}
use Rattle.zt_history.proofs.ListLaws.{get-within}
use Rattle.zt_history.proofs.WayLaws.{way-at, way-within}
use Rattle.zt_look.specs.declared.call_list.CallFilter.{CallFilter}
use Rattle.zt_look.specs.declared.call_list.CallMade.{CallMade}
use Rattle.zt_look.specs.CallList.{call_made, call_of, is_asked, asked_among}

-- ---- a moment of the tree

pub moment-there : (t : Tree) (m : ℕ) → moment_on t m ≡ Ok m → m ≤ last_moment t
moment-there t m e = by (nat_le m (last_moment t)) refl
  where
    never : Err refusal.NoMoment ≡ Ok m → ⊥
    never e = cc

    by : (b : Bool) → nat_le m (last_moment t) ≡ b → m ≤ last_moment t
    by true h = leb-true m (last_moment t) h
    by false h = absurd (never (sym (ap (λ b. check b refusal.NoMoment >>= λ _. Ok m) h) ∙ e))

-- what is told of a moment that is there
pub told-on : {A : Type 0} (t : Tree) (m : ℕ) (x y : A) → moment_on t m ≡ Ok m → x ≡ y → (moment_on t m >>= λ _. Ok y) ≡ Ok x
told-on t m x y e h = ap (λ r. r >>= λ _. Ok y) e ∙ ap Ok (sym h)

-- what refuses the moment refuses what is asked of it
pub refused-on : {A : Type 0} (t : Tree) (m : ℕ) (y : A) (given : Refusal) → IsHistoryRefusal (moment_on t m) given → IsHistoryRefusal (moment_on t m >>= λ _. Ok y) given
refused-on t m y given h = by (nat_le m (last_moment t)) h
  where
    by : (b : Bool) → IsHistoryRefusal (check b refusal.NoMoment >>= λ _. Ok m) given → IsHistoryRefusal ((check b refusal.NoMoment >>= λ _. Ok m) >>= λ _. Ok y) given
    by true h = h
    by false h = h

pub memory-on : {A : Type 0} (t : Tree) (m : ℕ) (y : A) (given : Refusal) → moment_on t m ≡ Ok m → given ≡ refusal.OutOfMemory → IsHistoryRefusal (moment_on t m >>= λ _. Ok y) given
memory-on t m y given e h = subst (λ r. IsHistoryRefusal (r >>= λ _. Ok y) given) (sym e) h

-- ---- along a path

pub prefix-path : (made : List Made) → Falls made → (way : List ℕ) → IsPath made way → (i : ℕ) → i < length way → IsPath made (take (i + 1) way)
prefix-path made falls way is i h =
    let at = get-within way i h in
    let more : suc i ≡ i + 1 = omega arith in
    record {
      moment = at.0;
      there = way-within made falls way is i at.0 at.1;
      is = sym (way-at made falls way is i at.0 at.1 ∙ ap (λ n. take n way) more);
    }

pub asked-append : (made : List Made) (asked : CallFilter) (xs ys : List ℕ) → asked_among made asked (xs ++ ys) ≡ asked_among made asked xs ++ asked_among made asked ys
asked-append made asked xs ys =
    let test : CallMade → Bool = λ c. is_asked made asked c.moment c.process c.reply in
    ap (filter test) (filter_map-append (call_of made) xs ys) ∙ filter-append test (filter_map (call_of made) xs) (filter_map (call_of made) ys)

pub asked-more : (made : List Made) (asked : CallFilter) (way : List ℕ) (i p : ℕ) (ys zs : List CallMade) → i < length way → p ≡ get_or way i p
    → ys ≡ asked_among made asked (take i way) → zs ≡ ys ++ asked_among made asked (p ∷ []) → zs ≡ asked_among made asked (take (i + 1) way)
asked-more made asked way i p ys zs h at so_far more =
    more
    ∙ ap (λ l. l ++ asked_among made asked (p ∷ [])) so_far
    ∙ sym (asked-append made asked (take i way) (p ∷ []))
    ∙ ap (λ q. asked_among made asked (take i way ++ q ∷ [])) at
    ∙ ap (asked_among made asked) (sym (take_more way i p h))

-- ---- one moment

module _ (made : List Made) (asked : CallFilter) (m : ℕ) where
  abbrev by_made : Option Made → List CallMade
  by_made o = filter (λ c. is_asked made asked c.moment c.process c.reply) (filter_map (λ (m : ℕ). option_map (call_made m) o) (m ∷ []))

  -- no call made the moment
  pub asked-none : (xs : List CallMade) → call_at made m ≡ None → xs ≡ xs ++ asked_among made asked (m ∷ [])
  asked-none xs e = by (made_at made m) refl
    where
      called : (x : Made) → call_at made m ≡ None → made_at made m ≡ Some x → ⊥
      called x e h = let n : ◌≡◌ {A = Option (ℕ × Call)} (Some (x.process, x.call)) None = sym (ap (option_map (λ (e : Made). (e.process, e.call))) h) ∙ e in cc

      by : (o : Option Made) → made_at made m ≡ o → xs ≡ xs ++ asked_among made asked (m ∷ [])
      by None h = sym (append-nil xs) ∙ ap (λ l. xs ++ l) (ap by_made (sym h))
      by (Some x) h = absurd (called x e h)

  -- a moment that a call made has its reply
  pub answered : (process : ℕ) (call : Call) → call_at made m ≡ Some (process, call) → reply_at made m ≡ None → ⊥
  answered process call e n = by (made_at made m) refl
    where
      no_call : made_at made m ≡ None → ⊥
      no_call h = let n : ◌≡◌ {A = Option (ℕ × Call)} None (Some (process, call)) = sym (ap (option_map (λ (e : Made). (e.process, e.call))) h) ∙ e in cc

      no_reply : (x : Made) → made_at made m ≡ Some x → ⊥
      no_reply x h = let n : Some x.reply ≡ None = sym (ap (option_map (λ (e : Made). e.reply)) h) ∙ n in cc

      by : (o : Option Made) → made_at made m ≡ o → ⊥
      by None h = no_call h
      by (Some x) h = no_reply x h

  -- the call of the moment, with its reply
  pub asked-one : (process : ℕ) (call : Call) (answer : Reply) → call_at made m ≡ Some (process, call) → reply_at made m ≡ Some answer
      → asked_among made asked (m ∷ []) ≡ cond (is_asked made asked m process answer) (record { moment = m; process = process; call = call; reply = answer } ∷ []) []
  asked-one process call answer e r = by (made_at made m) refl
    where
      no_call : made_at made m ≡ None → ⊥
      no_call h = let n : ◌≡◌ {A = Option (ℕ × Call)} None (Some (process, call)) = sym (ap (option_map (λ (e : Made). (e.process, e.call))) h) ∙ e in cc

      there : (x : Made) → made_at made m ≡ Some x → ◌≡◌ {A = Option (ℕ × Call)} (Some (x.process, x.call)) (Some (process, call))
      there x h = sym (ap (option_map (λ (e : Made). (e.process, e.call))) h) ∙ e

      told : (x : Made) → made_at made m ≡ Some x → Some x.reply ≡ Some answer
      told x h = sym (ap (option_map (λ (e : Made). e.reply)) h) ∙ r

      same : {A : Type 0} (x y : A) → Some x ≡ Some y → x ≡ y
      same x y e = cc

      by : (o : Option Made) → made_at made m ≡ o
          → asked_among made asked (m ∷ []) ≡ cond (is_asked made asked m process answer) (record { moment = m; process = process; call = call; reply = answer } ∷ []) []
      by None h = absurd (no_call h)
      by (Some x) h =
          let P : ℕ × Call → Reply → CallMade = λ pc r. record { moment = m; process = pc.0; call = pc.1; reply = r } in
          ap by_made h
          ∙ ap (λ pc. cond (is_asked made asked m pc.0 x.reply) (P pc x.reply ∷ []) []) (same (x.process, x.call) (process, call) (there x h))
          ∙ ap (λ q. cond (is_asked made asked m process q) (P (process, call) q ∷ []) []) (same x.reply answer (told x h))

-- ---- rows under the keys of a record

pub any-mapped : {A B : Type 0} (test : B → Bool) (f : A → B) (xs : List A) → list_any test (map f xs) ≡ list_any (λ x. test (f x)) xs
any-mapped test f [] = refl
any-mapped test f (x ∷ xs) = ap (λ b. test (f x) || b) (any-mapped test f xs)

-- ---- where the history stands

pub moved-on : (h s n : Timeline) (q : ℕ) → s.tree ≡ h.tree → n ≡ moved_to s q → n ≡ moved_to h q
moved-on h s n q same next = next ∙ ap (λ t. record { tree = t; position = q; before = None }) same

pub moved-tree : (h s n : Timeline) (q : ℕ) → s.tree ≡ h.tree → n ≡ moved_to s q → n.tree ≡ h.tree
moved-tree h s n q same next = ap (λ (t : Timeline). t.tree) next ∙ same
