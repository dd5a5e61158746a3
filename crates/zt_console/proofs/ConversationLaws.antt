-- Laws of talks: answers written in turn come together, and a line reads as the bytes do that decide it.
use Rattle.std.proofs.Common.{◌≡◌, ℕ, ◌<◌, Bool, true, false, not, ◌&&◌, ◌==◌, List, [], ◌∷◌, ◌++◌, length, take, drop, map, Option, Some, None, Result, Ok, Err, refl, sym, ◌∙◌, ap, subst, append_assoc, IfOk, MatchResult, arith, inr}
use Rattle.std.specs.Prelude.{nat_lt, nat_le, OnOk, is_ok}
use Rattle.std.proofs.lemmas.Bool.{eqb-true}
use Rattle.std.proofs.lemmas.Bool.Decides.{nat_tests}
use Rattle.std.proofs.lemmas.List.{append-nil, take-append-drop, take_all, length-take-le}
use Rattle.std.specs.Io.KnownBytes.{Appends}
use Rattle.zt_rows.specs.declared.calls.Answer.{Answer}
use Rattle.zt_rows.specs.declared.calls.Command.{Command}
use Rattle.zt_rows.specs.declared.refusals.Refusal.{Refusal}
use Rattle.zt_rows.specs.declared.refusals.Refusal.TheVariants as refusal
use Rattle.zt_queries.specs.FrozenCopy.{Snapshot}
use Rattle.zt_text.specs.Answers.{shown_refusal}
use Rattle.zt_text.specs.ReadLines.{most_line_bytes, fields_in, read_as, IsUnread, line_takes_memory}
use Rattle.zt_text.specs.declared.read_lines.Line.{Line}
use Rattle.zt_text.specs.declared.read_lines.Line.TheVariants as line
use Rattle.zt_console.specs.declared.conversation.Conversation.{Conversation}
use Rattle.zt_console.specs.CountedFaults.{faults_after}
use Rattle.zt_console.specs.Conversations.{Given, Manner, IsRespondedTo, IsToldOfCopy, IsLooked, of_copy, rows_in, holders_in, leaks_in, shown, said_by, pinned_after, Answers, Talk}
use Rattle.zt_console.specs.ProofsOnly.Run.{IsWritten, IsSent}
use Rattle.zt_console.specs.ProofsOnly.LineFeed.{decisive, Passed, Put}

pub no_eq : (x y : ℕ) → (x ≡ y → ⊥) → (x == y) ≡ false
no_eq x y f = elim (x == y) as (λ b. (x == y) ≡ b → b ≡ false) [ true ↦ λ e. absurd (f (eqb-true x y e)) | false ↦ λ e. refl ] refl

-- ---- bytes in turn

pub appends_more : (a b c : Option (List ℕ)) (xs ys : List ℕ) → Appends a b xs → Appends b c ys → Appends a c (xs ++ ys)
appends_more None b c xs ys h g = tt
appends_more (Some x) None c xs ys h g = absurd h
appends_more (Some x) (Some y) None xs ys h g = absurd g
appends_more (Some x) (Some y) (Some z) xs ys h g = g ∙ ap (λ w. w ++ ys) h ∙ append_assoc x xs ys

pub appends_none : (a : Option (List ℕ)) → Appends a a []
appends_none None = tt
appends_none (Some x) = sym (append-nil x)

-- ---- what a line gets

-- a text that is printed, or where memory for it was refused the same text all the same
pub printed : {A E : Type 0} (text_of : A → List ℕ) (P : List ℕ → Type 0) (want : List ℕ) (r : Result A E) → IfOk r (λ t. text_of t ≡ want) → ((text : List ℕ) → text ≡ want → P text)
    → MatchResult r (λ t. P (text_of t)) (λ e. (text : List ℕ) × P text)
printed text_of P want (Ok t) h f = f (text_of t) h
printed text_of P want (Err e) h f = (want, f want refl)

-- what an answered command gets
pub answered : {D : Type 0} (Asks : Manner D) (M N : Conversation D) (asked : Command) (given : Given) (text : List ℕ)
    → Asks M.responder asked given N.responder → N.pinned ≡ pinned_after M.pinned given → text ≡ shown (said_by given) → IsRespondedTo Asks M asked text N
answered Asks M N asked given text h p t = record { given = given; answers = h; shows = t; pins = p }

-- what a question gets
pub looked : {D : Type 0} (M : Conversation D) (look : Snapshot → Result Answer Refusal) (said : Result Answer Refusal) (text : List ℕ) → IsToldOfCopy (of_copy M.pinned look) said → text ≡ shown said → IsLooked M look text M
looked M look said text h t = record { said = said; told = h; shows = t; same = refl }

-- a line that is not read gets its refusal, also where memory for it was refused
pub answers_unread : {D : Type 0} (Asks : Manner D) (M : Conversation D) (read : Result (Option Line) Refusal) (text : List ℕ) (reason : Refusal) → IsUnread line_takes_memory read reason → text ≡ shown_refusal reason → Answers Asks M read text M
answers_unread Asks M (Err fault) text reason same t = (t ∙ ap shown_refusal same, refl)
answers_unread Asks M (Ok None) text reason (takes, _) t = cc takes
answers_unread Asks M (Ok (Some (line.Command asked))) text reason (takes, memory) t = inr (takes, t ∙ ap shown_refusal memory, refl)
answers_unread Asks M (Ok (Some line.PinnedShow)) text reason (takes, _) t = cc takes
answers_unread Asks M (Ok (Some (line.PinnedHolders koid))) text reason (takes, _) t = cc takes
answers_unread Asks M (Ok (Some line.PinnedLeaks)) text reason (takes, _) t = cc takes

-- the text of an answered command is printed
pub answered_printed : {D A E : Type 0} (Asks : Manner D) (M N : Conversation D) (asked : Command) (given : Given) (text_of : A → List ℕ) (r : Result A E)
    → Asks M.responder asked given N.responder → N.pinned ≡ pinned_after M.pinned given → IfOk r (λ t. text_of t ≡ shown (said_by given))
    → MatchResult r (λ t. IsRespondedTo Asks M asked (text_of t) N) (λ e. (text : List ℕ) × IsRespondedTo Asks M asked text N)
answered_printed Asks M N asked given text_of r h p t =
    printed text_of (λ text. IsRespondedTo Asks M asked text N) (shown (said_by given)) r t (λ text e. answered Asks M N asked given text h p e)

-- the text of a question is printed
looked_printed : {D A E : Type 0} (Asks : Manner D) (M : Conversation D) (wanted : Line) (look : Snapshot → Result Answer Refusal) (said : Result Answer Refusal) (text_of : A → List ℕ) (r : Result A E)
    → ((text : List ℕ) → IsLooked M look text M → Answers Asks M (Ok (Some wanted)) text M) → IsToldOfCopy (of_copy M.pinned look) said → IfOk r (λ t. text_of t ≡ shown said)
    → MatchResult r (λ t. Answers Asks M (Ok (Some wanted)) (text_of t) M) (λ e. (text : List ℕ) × Answers Asks M (Ok (Some wanted)) text M)
looked_printed Asks M wanted look said text_of r f h t =
    printed text_of (λ text. Answers Asks M (Ok (Some wanted)) text M) (shown said) r t (λ text e. f text (looked M look said text h e))

pub rows_printed : {D A E : Type 0} (Asks : Manner D) (M : Conversation D) (wanted : Line) (said : Result Answer Refusal) (text_of : A → List ℕ) (r : Result A E)
    → wanted ≡ line.PinnedShow → IsToldOfCopy (of_copy M.pinned rows_in) said → IfOk r (λ t. text_of t ≡ shown said)
    → MatchResult r (λ t. Answers Asks M (Ok (Some wanted)) (text_of t) M) (λ e. (text : List ℕ) × Answers Asks M (Ok (Some wanted)) text M)
rows_printed Asks M wanted said text_of r e h t = looked_printed Asks M wanted rows_in said text_of r (λ text l. rw e l) h t

pub holders_printed : {D A E : Type 0} (Asks : Manner D) (M : Conversation D) (wanted : Line) (koid : ℕ) (said : Result Answer Refusal) (text_of : A → List ℕ) (r : Result A E)
    → wanted ≡ line.PinnedHolders koid → IsToldOfCopy (of_copy M.pinned (holders_in koid)) said → IfOk r (λ t. text_of t ≡ shown said)
    → MatchResult r (λ t. Answers Asks M (Ok (Some wanted)) (text_of t) M) (λ e. (text : List ℕ) × Answers Asks M (Ok (Some wanted)) text M)
holders_printed Asks M wanted koid said text_of r e h t = looked_printed Asks M wanted (holders_in koid) said text_of r (λ text l. rw e l) h t

pub leaks_printed : {D A E : Type 0} (Asks : Manner D) (M : Conversation D) (wanted : Line) (said : Result Answer Refusal) (text_of : A → List ℕ) (r : Result A E)
    → wanted ≡ line.PinnedLeaks → IsToldOfCopy (of_copy M.pinned leaks_in) said → IfOk r (λ t. text_of t ≡ shown said)
    → MatchResult r (λ t. Answers Asks M (Ok (Some wanted)) (text_of t) M) (λ e. (text : List ℕ) × Answers Asks M (Ok (Some wanted)) text M)
leaks_printed Asks M wanted said text_of r e h t = looked_printed Asks M wanted leaks_in said text_of r (λ text l. rw e l) h t

-- the refusal of a line that is not read is printed
pub unread_printed : {D A E : Type 0} (Asks : Manner D) (M : Conversation D) (read : Result (Option Line) Refusal) (reason : Refusal) (text_of : A → List ℕ) (r : Result A E)
    → IsUnread line_takes_memory read reason → IfOk r (λ t. text_of t ≡ shown_refusal reason)
    → MatchResult r (λ t. Answers Asks M read (text_of t) M) (λ e. (text : List ℕ) × Answers Asks M read text M)
unread_printed Asks M read reason text_of r h t =
    printed text_of (λ text. Answers Asks M read text M) (shown_refusal reason) r t (λ text e. answers_unread Asks M read text reason h e)

-- ---- the bytes that decide a line

too_long : (line : List ℕ) → nat_lt most_line_bytes (length line) ≡ true → read_as line ≡ Err refusal.LineTooLong
unfolding fields_in read_as
too_long line h = rw h refl

-- a line reads as the bytes do that decide it
pub decides : (line : List ℕ) → read_as (decisive line) ≡ read_as line
decides line = elim (nat_le (length line) 140001) as (λ b. nat_le (length line) 140001 ≡ b → read_as (decisive line) ≡ read_as line) [
  | true ↦ λ e. ap read_as (take_all 140001 line (grind (arith, nat_tests)))
  | false ↦ λ e.
      let long : 140001 < length line = grind (arith, nat_tests) in
      let enough : length (take 140001 line) ≡ 140001 = length-take-le 140001 line (omega arith) in
      let cut_short : nat_lt most_line_bytes (length (decisive line)) ≡ true = rw enough refl in
      too_long (decisive line) cut_short ∙ sym (too_long line (grind (arith, nat_tests)))
] refl

-- ---- talks in turn

talk_more : {D : Type 0} (Asks : Manner D) (M K N : Conversation D) (xs ys : List (List ℕ)) (s t : List ℕ) → Talk Asks M xs s K → Talk Asks K ys t N → Talk Asks M (xs ++ ys) (s ++ t) N
talk_more Asks M K N [] ys s t h g =
    subst (λ X. Talk Asks X ys (s ++ t) N) h.1 (subst (λ z. Talk Asks K ys (z ++ t) N) (sym h.0) g)
talk_more Asks M K N (line ∷ xs) ys s t h g =
    (h.0, h.1, h.2 ++ t, h.3, talk_more Asks h.1 K N xs ys h.2 t h.4 g, ap (λ z. z ++ t) h.5 ∙ append_assoc h.0 h.2 t)

-- a talk of the bytes that decide lines is one of the lines
pub talk_undecided : {D : Type 0} (Asks : Manner D) (M N : Conversation D) (lines : List (List ℕ)) (text : List ℕ) → Talk Asks M (map decisive lines) text N → Talk Asks M lines text N
talk_undecided Asks M N [] text h = h
talk_undecided Asks M N (line ∷ lines) text h =
    (h.0, h.1, h.2, subst (λ r. Answers Asks M r h.0 h.1) (decides line) h.3, talk_undecided Asks h.1 N lines h.2 h.4, h.5)

-- ---- lines that are spoken in turn

pub passed_more : {D : Type 0} (Asks : Manner D) (M K N : Conversation D) (xs ys : List (List ℕ)) (u v w : List ℕ) (a b c : Option (List ℕ)) (d : Bool)
    → Passed Asks M xs K u v a b true → Passed Asks K ys N v w b c d → Passed Asks M (xs ++ ys) N u w a c d
passed_more Asks M K N xs ys u v w a b c d p q = record {
  text = p.text ++ q.text;
  written = p.written ++ q.written;
  unwritten = q.unwritten;
  talk = talk_more Asks M K N xs ys p.text q.text p.talk q.talk;
  split =
      sym (append_assoc u p.text q.text) ∙ ap (λ z. z ++ q.text) (p.split ∙ ap (λ z. p.written ++ z) (p.whole refl)) ∙ append_assoc p.written v q.text
      ∙ ap (λ z. p.written ++ z) q.split ∙ sym (append_assoc p.written q.written q.unwritten);
  appended = appends_more a b c p.written q.written p.appended q.appended;
  whole = q.whole;
}

-- nothing is spoken, and some of what waited is written
pub passed_none : {D : Type 0} (Asks : Manner D) (M : Conversation D) (u v : List ℕ) (a b : Option (List ℕ)) (d e : Bool)
    → IsWritten u a b d → (e ≡ true → (d ≡ true) × (v ≡ [])) → Passed Asks M [] M u v a b e
passed_none Asks M u v a b d e w done = record {
  text = [];
  written = w.written;
  unwritten = w.unwritten;
  talk = (refl, refl);
  split = append-nil u ∙ w.split;
  appended = w.appended;
  whole = λ t. w.whole (done t).0 ∙ sym (done t).1;
}

-- nothing at all
pub passed_nothing : {D : Type 0} (Asks : Manner D) (M : Conversation D) (u : List ℕ) (a : Option (List ℕ)) (d : Bool) → Passed Asks M [] M u u a a d
passed_nothing Asks M u a d = record {
  text = [];
  written = [];
  unwritten = u;
  talk = (refl, refl);
  split = append-nil u;
  appended = appends_none a;
  whole = λ t. refl;
}

-- the text of a line waits behind the others
pub passed_put : {D : Type 0} (Asks : Manner D) (M N : Conversation D) (line u v : List ℕ) (a : Option (List ℕ)) → Put Asks M line N u v true → Passed Asks M (line ∷ []) N u v a a true
passed_put Asks M N line u v a p = record {
  text = p.text;
  written = [];
  unwritten = v;
  talk = (p.text, N, [], p.answers, (refl, refl), sym (append-nil p.text));
  split = sym (p.whole refl);
  appended = appends_none a;
  whole = λ t. refl;
}

-- it is written with the others, or waits on
pub passed_sent : {D : Type 0} (Asks : Manner D) (M N : Conversation D) (line u v w : List ℕ) (a b : Option (List ℕ)) (d : Bool)
    → Put Asks M line N u v true → IsSent v w a b d → Passed Asks M (line ∷ []) N u w a b d
passed_sent Asks M N line u v w a b d p q = record {
  text = p.text;
  written = q.written;
  unwritten = q.unwritten;
  talk = (p.text, N, [], p.answers, (refl, refl), sym (append-nil p.text));
  split = sym (p.whole refl) ∙ q.split;
  appended = q.appended;
  whole = q.whole;
}

-- a text that is written whole waits no longer
pub sent_written : (u v : List ℕ) (a b : Option (List ℕ)) (d : Bool) → IsWritten u a b d → (d ≡ true → v ≡ []) → IsSent u v a b d
sent_written u v a b d w e = record { written = w.written; unwritten = w.unwritten; split = w.split; appended = w.appended; whole = λ t. w.whole t ∙ sym (e t) }

pub sent_later : (u : List ℕ) (a : Option (List ℕ)) → IsSent u u a a true
sent_later u a = record { written = []; unwritten = u; split = refl; appended = appends_none a; whole = λ t. refl }

-- it could not be printed, and some of the others is written
pub passed_unprinted : {D : Type 0} (Asks : Manner D) (M N : Conversation D) (line u v w : List ℕ) (a b : Option (List ℕ))
    → Put Asks M line N u v false → IsWritten v a b false → Passed Asks M (line ∷ []) N u w a b false
passed_unprinted Asks M N line u v w a b p q = record {
  text = p.text;
  written = q.written;
  unwritten = q.unwritten ++ p.text;
  talk = (p.text, N, [], p.answers, (refl, refl), sym (append-nil p.text));
  split = ap (λ z. z ++ p.text) (sym (p.kept refl) ∙ q.split) ∙ append_assoc q.written q.unwritten p.text;
  appended = q.appended;
  whole = λ t. cc;
}

pub passed_short : {D : Type 0} (Asks : Manner D) (M N : Conversation D) (lines : List (List ℕ)) (u v w : List ℕ) (a b : Option (List ℕ)) → Passed Asks M lines N u v a b true → Passed Asks M lines N u w a b false
passed_short Asks M N lines u v w a b p = record {
  text = p.text;
  written = p.written;
  unwritten = p.unwritten;
  talk = p.talk;
  split = p.split;
  appended = p.appended;
  whole = λ e. cc;
}

-- where it is not done, what waits then does not matter
pub passed_failed : {D : Type 0} (Asks : Manner D) (M N : Conversation D) (lines : List (List ℕ)) (u v w : List ℕ) (a b : Option (List ℕ)) → Passed Asks M lines N u v a b false → Passed Asks M lines N u w a b false
passed_failed Asks M N lines u v w a b p = record {
  text = p.text;
  written = p.written;
  unwritten = p.unwritten;
  talk = p.talk;
  split = p.split;
  appended = p.appended;
  whole = λ e. cc;
}

-- ---- writing

pub written_short : (text : List ℕ) (a b : Option (List ℕ)) (d : Bool) → IsWritten text a b d → IsWritten text a b false
written_short text a b d w = record { written = w.written; unwritten = w.unwritten; split = w.split; appended = w.appended; whole = λ e. cc }

pub on_ok : {A E : Type 0} (r : Result A E) (P : Type 0) → OnOk r P → is_ok r ≡ true → P
on_ok (Ok x) P h e = h
on_ok (Err x) P h e = cc

pub write_more : (text rest left : List ℕ) (n : ℕ) (a b c : Option (List ℕ)) → (written : List ℕ) × (text ≡ written ++ rest) × Appends a b written
    → Appends b c (take n rest) → left ≡ drop n rest → (written : List ℕ) × (text ≡ written ++ left) × Appends a c written
write_more text rest left n a b c p h e = (
  p.0 ++ take n rest,
  p.1 ∙ ap (λ z. p.0 ++ z) (sym (take-append-drop n rest)) ∙ sym (append_assoc p.0 (take n rest) (drop n rest)) ∙ ap (λ z. (p.0 ++ take n rest) ++ z) (sym e),
  appends_more a b c p.0 (take n rest) p.2 h,
)

none_is : (n : ℕ) → 0 < n → (n == 0) ≡ false
none_is n h = no_eq n 0 (λ e. absurd (omega arith))

-- a write that takes some bytes is no failure
pub no_failure : (n k old new : ℕ) → 0 < n → new ≡ faults_after old ((n == 0) && not (k == 0)) → new ≡ old
no_failure n k old new h e = e ∙ ap (λ b. faults_after old (b && not (k == 0))) (none_is n h)
