-- Laws of bytes that come in turn: lines cut from them come together.
use Rattle.std.proofs.Common.{◌≡◌, ◌⊎◌, ℕ, ◌+◌, ◌≤◌, ◌<◌, Bool, true, false, not, ◌&&◌, ◌==◌, cond, List, [], ◌∷◌, ◌++◌, length, take, drop, map, Option, Some, None, IfSome, refl, sym, ◌∙◌, ap, subst, append_assoc, length-append, length-take, get_or, suc, add-one, drop-cons, Result, Ok, Err, inr, arith}
use Rattle.std.specs.Prelude.{nat_le, OnOk}
use Rattle.std.specs.List.{onto_first}
use Rattle.std.proofs.lemmas.Bool.{eqb-true}
use Rattle.std.proofs.lemmas.Bool.Decides.{nat_tests}
use Rattle.std.proofs.lemmas.List.{append-nil, take-append-drop, take-append-le, take_all, length-take-le, nil_from_length}
use Rattle.std.proofs.lemmas.List.Folds.{list_all-append, list_all_more}
use Rattle.std.specs.Io.KnownBytes.{Consumes, IsAtEnd}
use Rattle.zt_rows.specs.declared.refusals.Refusal.{Refusal}
use Rattle.zt_rows.specs.declared.refusals.Refusal.TheVariants as refusal
use Rattle.zt_text.specs.Lines.{lines_of}
use Rattle.zt_queries.specs.FrozenCopy.{Snapshot}
use Rattle.zt_console.specs.declared.conversation.Conversation.{Conversation}
use Rattle.zt_console.specs.Conversations.{Manner, Answers, Talk}
use Rattle.zt_console.specs.Run.{Spoken, HasTalked, at_responder, most_reads, IsCause}
use Rattle.zt_console.specs.ProofsOnly.Run.{IsWritten, IsSent, IsFailureCounted}
use Rattle.zt_console.specs.ProofsOnly.LineFeed.{decisive, decisive_lines, has_no_feed, IsFirstFeed, Put, Passed, Fed, HasRead}
use Rattle.zt_console.proofs.ConversationLaws.{no_eq, decides, passed_more, passed_none, passed_nothing, passed_failed, passed_short, passed_sent, passed_unprinted, sent_written, talk_undecided}

-- ---- lines

after_and : (a b : Bool) → (a && b) ≡ true → (a ≡ true) × (b ≡ true)
after_and true b h = (refl, h)
after_and false b h = cc

not_feed : (b : Bool) → not b ≡ true → b ≡ false
not_feed true h = cc
not_feed false h = refl

pub no_feed_append : (xs ys : List ℕ) → has_no_feed xs ≡ true → has_no_feed ys ≡ true → has_no_feed (xs ++ ys) ≡ true
no_feed_append xs ys h g = rw (list_all-append (λ (x : ℕ). not (x == 10)) xs ys, h, g) refl

pub no_feed_first : (xs ys : List ℕ) → has_no_feed (xs ++ ys) ≡ true → has_no_feed xs ≡ true
no_feed_first xs ys h = (after_and (has_no_feed xs) (has_no_feed ys) (sym (list_all-append (λ (x : ℕ). not (x == 10)) xs ys) ∙ h)).0

pub no_feed_take : (n : ℕ) (xs : List ℕ) → has_no_feed xs ≡ true → has_no_feed (take n xs) ≡ true
no_feed_take n xs h = no_feed_first (take n xs) (drop n xs) (rw (take-append-drop n xs) h)

-- a line feed ends a line
line_cut : (held more : List ℕ) → has_no_feed held ≡ true → lines_of (held ++ (10 ∷ more)) ≡ held ∷ lines_of more
line_cut [] more h = refl
line_cut (byte ∷ held) more h =
    let here : (byte == 10) ≡ false = not_feed (byte == 10) (after_and (not (byte == 10)) (has_no_feed held) h).0 in
    ap (λ b. cond b ([] ∷ lines_of (held ++ (10 ∷ more))) (onto_first byte (lines_of (held ++ (10 ∷ more))))) here
    ∙ ap (onto_first byte) (line_cut held more (after_and (not (byte == 10)) (has_no_feed held) h).1)

-- bytes without a feed go in front of the first line
first_of : List (List ℕ) → List ℕ
first_of [] = []
first_of (line ∷ lines) = line

others_of : List (List ℕ) → List (List ℕ)
others_of [] = []
others_of (line ∷ lines) = lines

onto : (byte : ℕ) (lines : List (List ℕ)) → onto_first byte lines ≡ (byte ∷ first_of lines) ∷ others_of lines
unfolding first_of others_of
onto byte [] = refl
onto byte (line ∷ lines) = refl

line_front : (byte : ℕ) (held more : List ℕ) → has_no_feed (byte ∷ held) ≡ true → lines_of ((byte ∷ held) ++ more) ≡ ((byte ∷ held) ++ first_of (lines_of more)) ∷ others_of (lines_of more)
unfolding first_of others_of
line_front byte [] more h =
    let here : (byte == 10) ≡ false = not_feed (byte == 10) (after_and (not (byte == 10)) true h).0 in
    ap (λ b. cond b ([] ∷ lines_of more) (onto_first byte (lines_of more))) here ∙ onto byte (lines_of more)
line_front byte (next ∷ held) more h =
    let here : (byte == 10) ≡ false = not_feed (byte == 10) (after_and (not (byte == 10)) (has_no_feed (next ∷ held)) h).0 in
    ap (λ b. cond b ([] ∷ lines_of ((next ∷ held) ++ more)) (onto_first byte (lines_of ((next ∷ held) ++ more)))) here
    ∙ ap (onto_first byte) (line_front next held more (after_and (not (byte == 10)) (has_no_feed (next ∷ held)) h).1)

-- what decides some bytes with others behind is decided by what decides them
take_twice : (n : ℕ) (xs ys : List ℕ) → take n (take n xs ++ ys) ≡ take n (xs ++ ys)
take_twice n xs ys = elim (nat_le (length xs) n) as (λ b. nat_le (length xs) n ≡ b → take n (take n xs ++ ys) ≡ take n (xs ++ ys)) [
  | true ↦ λ e. ap (λ z. take n (z ++ ys)) (take_all n xs (grind (arith, nat_tests)))
  | false ↦ λ e.
      let long : n ≤ length xs = grind (arith, nat_tests) in
      let kept : length (take n xs) ≡ n = length-take-le n xs long in
      take-append-le n (take n xs) ys (omega arith) ∙ take_all n (take n xs) (omega arith) ∙ sym (take-append-le n xs ys long)
] refl

-- lines go on from what was kept of a line as from the line
pub lines_go_on : (held more : List ℕ) → has_no_feed held ≡ true → decisive_lines (decisive held ++ more) ≡ decisive_lines (held ++ more)
lines_go_on [] more h = refl
lines_go_on (byte ∷ held) more h =
    let kept : List ℕ = take 140000 held in
    let part : has_no_feed (byte ∷ kept) ≡ true = no_feed_take 140001 (byte ∷ held) h in
    ap (map decisive) (line_front byte kept more part)
    ∙ ap (λ z. z ∷ map decisive (others_of (lines_of more))) (take_twice 140001 (byte ∷ held) (first_of (lines_of more)))
    ∙ sym (ap (map decisive) (line_front byte held more h))

pub lines_end : (held line more : List ℕ) → has_no_feed held ≡ true → has_no_feed line ≡ true → decisive_lines (held ++ ((line ++ 10 ∷ []) ++ more)) ≡ decisive (held ++ line) ∷ decisive_lines more
lines_end held line more h g =
    ap decisive_lines (ap (λ z. held ++ z) (append_assoc line (10 ∷ []) more) ∙ sym (append_assoc held line (10 ∷ more)))
    ∙ ap (map decisive) (line_cut (held ++ line) more (no_feed_append held line h g))

-- ---- bytes that are fed

-- a line ends
pub fed_line : {D : Type 0} (Asks : Manner D) (M N : Conversation D) (held kept line u v : List ℕ) (a b : Option (List ℕ)) (d : Bool)
    → kept ≡ [] → has_no_feed held ≡ true → has_no_feed line ≡ true → Passed Asks M (decisive (held ++ line) ∷ []) N u v a b d → Fed Asks M N held kept (line ++ 10 ∷ []) u v a b d
fed_line Asks M N held kept line u v a b d k h g p = record {
  lines = decisive (held ++ line) ∷ [];
  passed = p;
  others = λ more. decisive_lines more;
  cut = λ more. lines_end held line more h g;
  goes_on = λ t more. rw k refl;
}

-- it goes on
pub fed_part : {D : Type 0} (Asks : Manner D) (M : Conversation D) (held kept bytes u : List ℕ) (a : Option (List ℕ))
    → kept ≡ decisive (held ++ bytes) → has_no_feed held ≡ true → has_no_feed bytes ≡ true → Fed Asks M M held kept bytes u u a a true
fed_part Asks M held kept bytes u a k h g = record {
  lines = [];
  passed = passed_nothing Asks M u a true;
  others = λ more. decisive_lines (held ++ (bytes ++ more));
  cut = λ more. refl;
  goes_on = λ t more. rw k (ap decisive_lines (sym (append_assoc held bytes more)) ∙ sym (lines_go_on (held ++ bytes) more (no_feed_append held bytes h g)));
}

-- nothing is fed
pub fed_nothing : {D : Type 0} (Asks : Manner D) (M : Conversation D) (held u : List ℕ) (a : Option (List ℕ)) → Fed Asks M M held held [] u u a a true
fed_nothing Asks M held u a = record {
  lines = [];
  passed = passed_nothing Asks M u a true;
  others = λ more. decisive_lines (held ++ more);
  cut = λ more. refl;
  goes_on = λ t more. refl;
}

-- stopped before a line is answered
pub fed_stopped : {D : Type 0} (Asks : Manner D) (M : Conversation D) (held kept bytes u v : List ℕ) (a b : Option (List ℕ)) → Passed Asks M [] M u v a b false → Fed Asks M M held kept bytes u v a b false
fed_stopped Asks M held kept bytes u v a b p = record {
  lines = [];
  passed = p;
  others = λ more. decisive_lines (held ++ (bytes ++ more));
  cut = λ more. refl;
  goes_on = λ e. cc;
}

pub fed_more : {D : Type 0} (Asks : Manner D) (M K N : Conversation D) (held mid kept bs cs u v w : List ℕ) (a b c : Option (List ℕ)) (d : Bool)
    → Fed Asks M K held mid bs u v a b true → Fed Asks K N mid kept cs v w b c d → Fed Asks M N held kept (bs ++ cs) u w a c d
fed_more Asks M K N held mid kept bs cs u v w a b c d p q = record {
  lines = p.lines ++ q.lines;
  passed = passed_more Asks M K N p.lines q.lines u v w a b c d p.passed q.passed;
  others = q.others;
  cut = λ more.
      ap (λ z. decisive_lines (held ++ z)) (append_assoc bs cs more) ∙ p.cut (cs ++ more) ∙ ap (λ z. p.lines ++ z) (p.goes_on refl (cs ++ more) ∙ q.cut more)
      ∙ sym (append_assoc p.lines q.lines (q.others more));
  goes_on = q.goes_on;
}

-- what waits then is written
pub fed_sent : {D : Type 0} (Asks : Manner D) (M N : Conversation D) (held kept bs u v w : List ℕ) (a b c : Option (List ℕ)) (d : Bool)
    → Fed Asks M N held kept bs u v a b true → Passed Asks N [] N v w b c d → Fed Asks M N held kept bs u w a c d
fed_sent Asks M N held kept bs u v w a b c d p q = record {
  lines = p.lines;
  passed = subst (λ z. Passed Asks M z N u w a c d) (append-nil p.lines) (passed_more Asks M N N p.lines [] u v w a b c d p.passed q);
  others = p.others;
  cut = p.cut;
  goes_on = λ t. p.goes_on refl;
}

-- stopped, what would have come next does not matter
pub fed_cut_short : {D : Type 0} (Asks : Manner D) (M N : Conversation D) (held kept bs cs all u v : List ℕ) (a b : Option (List ℕ)) → all ≡ bs ++ cs → Fed Asks M N held kept bs u v a b false → Fed Asks M N held kept all u v a b false
fed_cut_short Asks M N held kept bs cs all u v a b e p = record {
  lines = p.lines;
  passed = p.passed;
  others = λ more. p.others (cs ++ more);
  cut = λ more. ap (λ z. decisive_lines (held ++ (z ++ more))) e ∙ ap (λ z. decisive_lines (held ++ z)) (append_assoc bs cs more) ∙ p.cut (cs ++ more);
  goes_on = λ t. cc;
}

-- what it waits for does not matter where it is stopped
pub fed_failed : {D : Type 0} (Asks : Manner D) (M N : Conversation D) (held kept bs u v w : List ℕ) (a b : Option (List ℕ)) → Fed Asks M N held kept bs u v a b false → Fed Asks M N held kept bs u w a b false
fed_failed Asks M N held kept bs u v w a b p = record {
  lines = p.lines;
  passed = passed_failed Asks M N p.lines u v w a b p.passed;
  others = p.others;
  cut = p.cut;
  goes_on = λ t. cc;
}

-- ---- one line of some bytes

first_rest : (all rest line behind left eaten : List ℕ) (place : ℕ) → all ≡ eaten ++ rest → IsFirstFeed rest place → line ≡ take place rest → behind ≡ drop place rest → left ≡ drop 1 behind
    → all ≡ (eaten ++ (line ++ 10 ∷ [])) ++ left
first_rest all rest line behind left eaten place e f l b d =
    let feed : behind ≡ 10 ∷ drop (place + 1) rest = b ∙ f.feed in
    let last : left ≡ drop (place + 1) rest = d ∙ ap (drop 1) feed in
    let whole : rest ≡ line ++ (10 ∷ left) = sym (take-append-drop place rest) ∙ ap (λ z. take place rest ++ z) f.feed ∙ ap (λ z. take place rest ++ (10 ∷ z)) (sym last) ∙ ap (λ z. z ++ (10 ∷ left)) (sym l) in
    e ∙ ap (λ z. eaten ++ z) (whole ∙ sym (append_assoc line (10 ∷ []) left)) ∙ sym (append_assoc eaten (line ++ 10 ∷ []) left)

-- the bytes are eaten up to some rest
abbrev pub Eaten : {D : Type 0} → Manner D → Conversation D → Conversation D → List ℕ → List ℕ → List ℕ → List ℕ → List ℕ → List ℕ → Option (List ℕ) → Option (List ℕ) → Type 0
Eaten Asks M N held kept all rest u v a b = (eaten : List ℕ) × (all ≡ eaten ++ rest) × Fed Asks M N held kept eaten u v a b true

pub eaten_none : {D : Type 0} (Asks : Manner D) (M : Conversation D) (held all u : List ℕ) (a : Option (List ℕ)) → Eaten Asks M M held held all all u u a a
eaten_none Asks M held all u a = ([], refl, fed_nothing Asks M held u a)

pub eaten_more : {D : Type 0} (Asks : Manner D) (M K N : Conversation D) (held mid kept all rest line behind left u v w : List ℕ) (a b c : Option (List ℕ)) (place : ℕ)
    → Eaten Asks M K held mid all rest u v a b → IsFirstFeed rest place → line ≡ take place rest → behind ≡ drop place rest → left ≡ drop 1 behind → Fed Asks K N mid kept (line ++ 10 ∷ []) v w b c true
    → Eaten Asks M N held kept all left u w a c
eaten_more Asks M K N held mid kept all rest line behind left u v w a b c place p f l e d q =
    (p.0 ++ (line ++ 10 ∷ []), first_rest all rest line behind left p.0 place p.1 f l e d, fed_more Asks M K N held mid kept p.0 (line ++ 10 ∷ []) u v w a b c true p.2 q)

pub eaten_failed : {D : Type 0} (Asks : Manner D) (M K N : Conversation D) (held mid kept all rest line behind u v w : List ℕ) (a b c : Option (List ℕ)) (place : ℕ)
    → Eaten Asks M K held mid all rest u v a b → IsFirstFeed rest place → line ≡ take place rest → behind ≡ drop place rest → Fed Asks K N mid kept (line ++ 10 ∷ []) v w b c false
    → Fed Asks M N held kept all u w a c false
eaten_failed Asks M K N held mid kept all rest line behind u v w a b c place p f l e q =
    fed_cut_short Asks M N held kept (p.0 ++ (line ++ 10 ∷ [])) (drop 1 behind) all u w a c (first_rest all rest line behind (drop 1 behind) p.0 place p.1 f l e refl)
    (fed_more Asks M K N held mid kept p.0 (line ++ 10 ∷ []) u v w a b c false p.2 q)

-- the rest goes on a line
pub eaten_all : {D : Type 0} (Asks : Manner D) (M N : Conversation D) (held mid kept all rest u v : List ℕ) (a b : Option (List ℕ))
    → Eaten Asks M N held mid all rest u v a b → kept ≡ decisive (mid ++ rest) → has_no_feed mid ≡ true → has_no_feed rest ≡ true → Fed Asks M N held kept all u v a b true
eaten_all Asks M N held mid kept all rest u v a b p k h g =
    subst (λ z. Fed Asks M N held kept z u v a b true) (sym p.1) (fed_more Asks M N N held mid kept p.0 rest u v v a b b true p.2 (fed_part Asks N mid kept rest v b k h g))

-- there was no memory for it
pub eaten_stopped : {D : Type 0} (Asks : Manner D) (M N : Conversation D) (held mid kept all rest u v w : List ℕ) (a b c : Option (List ℕ))
    → Eaten Asks M N held mid all rest u v a b → IsWritten v b c false → Fed Asks M N held kept all u w a c false
eaten_stopped Asks M N held mid kept all rest u v w a b c p q =
    subst (λ z. Fed Asks M N held kept z u w a c false) (sym p.1)
    (fed_more Asks M N N held mid kept p.0 rest u v w a b c false p.2 (fed_stopped Asks N mid kept rest v w b c (passed_none Asks N v w b c false false q (λ e. cc))))

-- the text of a line that ended waits, or is written
pub ended_sent : {D : Type 0} (Asks : Manner D) (M N : Conversation D) (held kept line whole u v w : List ℕ) (a b : Option (List ℕ)) (d : Bool)
    → whole ≡ decisive (held ++ line) → Put Asks M whole N u v true → IsSent v w a b d → kept ≡ [] → has_no_feed held ≡ true → has_no_feed line ≡ true → Fed Asks M N held kept (line ++ 10 ∷ []) u w a b d
ended_sent Asks M N held kept line whole u v w a b d e p q k h g =
    fed_line Asks M N held kept line u w a b d k h g (subst (λ z. Passed Asks M (z ∷ []) N u w a b d) e (passed_sent Asks M N whole u v w a b d p q))

pub ended_unprinted : {D : Type 0} (Asks : Manner D) (M N : Conversation D) (held kept line whole u v w : List ℕ) (a b : Option (List ℕ))
    → whole ≡ decisive (held ++ line) → Put Asks M whole N u v false → IsWritten v a b false → kept ≡ [] → has_no_feed held ≡ true → has_no_feed line ≡ true → Fed Asks M N held kept (line ++ 10 ∷ []) u w a b false
ended_unprinted Asks M N held kept line whole u v w a b e p q k h g =
    fed_line Asks M N held kept line u w a b false k h g (subst (λ z. Passed Asks M (z ∷ []) N u w a b false) e (passed_unprinted Asks M N whole u v w a b p q))

-- there was no memory for the bytes of the line
pub ended_stopped : {D : Type 0} (Asks : Manner D) (M : Conversation D) (held kept bytes u w : List ℕ) (a b : Option (List ℕ)) → IsWritten u a b false → Fed Asks M M held kept bytes u w a b false
ended_stopped Asks M held kept bytes u w a b q = fed_stopped Asks M held kept bytes u w a b (passed_none Asks M u w a b false false q (λ e. cc))

-- what waits behind a chunk is written
pub chunk_sent : {D : Type 0} (Asks : Manner D) (M N : Conversation D) (held kept bs u v : List ℕ) (a b c : Option (List ℕ)) (d : Bool) → Fed Asks M N held kept bs u v a b true → IsWritten v b c d → Fed Asks M N held kept bs u [] a c d
chunk_sent Asks M N held kept bs u v a b c d p q = fed_sent Asks M N held kept bs u v [] a b c d p (passed_none Asks N v [] b c d d q (λ t. (t, refl)))

-- ---- what stands behind the last line feed

pub rest_none : {D : Type 0} (Asks : Manner D) (M : Conversation D) (line u : List ℕ) (a b : Option (List ℕ)) (d r : Bool) → r ≡ (length line == 0) → r ≡ true → IsWritten u a b d → Passed Asks M (decisive_lines line) M u [] a b d
rest_none Asks M line u a b d r e t q =
    subst (λ z. Passed Asks M (decisive_lines z) M u [] a b d) (sym (nil_from_length line (eqb-true (length line) 0 (sym e ∙ t)))) (passed_none Asks M u [] a b d d q (λ t. (t, refl)))

one_line : (line : List ℕ) → (length line == 0) ≡ false → has_no_feed line ≡ true → decisive_lines line ≡ decisive line ∷ []
unfolding first_of others_of
one_line [] e h = cc
one_line (byte ∷ held) e h =
    ap decisive_lines (sym (append-nil (byte ∷ held))) ∙ ap (map decisive) (line_front byte held [] h) ∙ ap (λ z. decisive z ∷ []) (append-nil (byte ∷ held))

rest_lines : {D : Type 0} (Asks : Manner D) (M N : Conversation D) (line u w : List ℕ) (a b : Option (List ℕ)) (d r : Bool)
    → r ≡ (length line == 0) → r ≡ false → has_no_feed line ≡ true → Passed Asks M (decisive line ∷ []) N u w a b d → Passed Asks M (decisive_lines line) N u w a b d
rest_lines Asks M N line u w a b d r e t h p = subst (λ z. Passed Asks M z N u w a b d) (sym (one_line line (sym e ∙ t) h)) p

put_decisive : {D : Type 0} (Asks : Manner D) (M N : Conversation D) (line u v : List ℕ) (d : Bool) → Put Asks M line N u v d → Put Asks M (decisive line) N u v d
put_decisive Asks M N line u v d p = record {
  text = p.text;
  answers = subst (λ r. Answers Asks M r p.text N) (sym (decides line)) p.answers;
  whole = p.whole;
  kept = p.kept;
}

pub rest_sent : {D : Type 0} (Asks : Manner D) (M N : Conversation D) (line u v : List ℕ) (a b : Option (List ℕ)) (d r : Bool)
    → r ≡ (length line == 0) → r ≡ false → has_no_feed line ≡ true → Put Asks M line N u v true → IsWritten v a b d → Passed Asks M (decisive_lines line) N u [] a b d
rest_sent Asks M N line u v a b d r e t h p q =
    rest_lines Asks M N line u [] a b d r e t h (passed_sent Asks M N (decisive line) u v [] a b d (put_decisive Asks M N line u v true p) (sent_written v [] a b d q (λ t. refl)))

pub rest_unprinted : {D : Type 0} (Asks : Manner D) (M N : Conversation D) (line u v : List ℕ) (a b : Option (List ℕ)) (r : Bool)
    → r ≡ (length line == 0) → r ≡ false → has_no_feed line ≡ true → Put Asks M line N u v false → IsWritten v a b false → Passed Asks M (decisive_lines line) N u [] a b false
rest_unprinted Asks M N line u v a b r e t h p q =
    rest_lines Asks M N line u [] a b false r e t h (passed_unprinted Asks M N (decisive line) u v [] a b (put_decisive Asks M N line u v false p) q)

-- ---- where a line feed stands

pub no_feed_more : (bytes : List ℕ) (i : ℕ) → i < length bytes → has_no_feed (take i bytes) ≡ true → (get_or bytes i 0 ≡ 10 → ⊥) → has_no_feed (take (i + 1) bytes) ≡ true
no_feed_more bytes i low h f =
    let here : (get_or bytes i 0 == 10) ≡ false = no_eq (get_or bytes i 0) 10 f in
    list_all_more (λ (x : ℕ). not (x == 10)) bytes i 0 low ∙ rw (h, here) refl

pub feed_found : (bytes : List ℕ) (i : ℕ) → i < length bytes → has_no_feed (take i bytes) ≡ true → get_or bytes i 0 ≡ 10 → IsFirstFeed bytes i
feed_found bytes i low h e = record {
  inside = low;
  one = h;
  feed = rw add-one (drop-cons bytes i 0 low ∙ ap (λ z. z ∷ drop (suc i) bytes) e);
}

pub no_feed_whole : (bytes : List ℕ) (i : ℕ) → length bytes ≤ i → has_no_feed (take i bytes) ≡ true → has_no_feed bytes ≡ true
no_feed_whole bytes i long h = ap has_no_feed (sym (take_all i bytes long)) ∙ h

-- ---- reads

pub consumes_more : (a b c : Option (List ℕ)) (xs ys : List ℕ) → Consumes a b xs → Consumes b c ys → Consumes a c (xs ++ ys)
consumes_more None b c xs ys h g = tt
consumes_more (Some x) None c xs ys h g = absurd h
consumes_more (Some x) (Some y) None xs ys h g = absurd g
consumes_more (Some x) (Some y) (Some z) xs ys h g = h ∙ ap (λ w. xs ++ w) g ∙ sym (append_assoc xs ys z)

pub consumes_none : (a : Option (List ℕ)) → Consumes a a []
consumes_none None = tt
consumes_none (Some x) = refl

pub consumes_end : (left rest : Option (List ℕ)) (chunk : List ℕ) (n : ℕ) → n ≡ 0 → Consumes left rest (take n chunk) → Consumes left rest []
consumes_end left rest chunk n e h = subst (λ z. Consumes left rest (take z chunk)) e h

-- the known input is what was consumed, and then some bytes
known_input : (a b : Option (List ℕ)) (xs : List ℕ) (P : List ℕ → Type 0) → Consumes a b xs → ((more : List ℕ) → P (xs ++ more)) → IfSome a P
known_input None b xs P h f = tt
known_input (Some x) None xs P h f = absurd h
known_input (Some x) (Some y) xs P h f = subst P (sym h) (f y)

pub read_none : {D : Type 0} (Asks : Manner D) (M : Conversation D) (kept : List ℕ) (known before : Option (List ℕ)) → kept ≡ [] → HasRead Asks M M kept known known before before 0
read_none Asks M kept known before e = record {
  input = [];
  consumed = consumes_none known;
  fed = rw e (fed_nothing Asks M [] [] before);
  many = omega arith;
}

some_bytes : (n : ℕ) (chunk bytes : List ℕ) → (n ≡ 0 → ⊥) → n ≤ length chunk → bytes ≡ take n chunk → 0 < length bytes
some_bytes n chunk bytes f h e = omega (arith, ap length e, length-take n chunk, f)

pub read_chunk : {D : Type 0} (Asks : Manner D) (M K N : Conversation D) (mid kept bytes chunk : List ℕ) (known left rest a b c : Option (List ℕ)) (n i : ℕ)
    → HasRead Asks M K mid known left a b i → Consumes left rest (take n chunk) → bytes ≡ take n chunk → (n ≡ 0 → ⊥) → n ≤ length chunk → Fed Asks K N mid kept bytes [] [] b c true → HasRead Asks M N kept known rest a c (i + 1)
read_chunk Asks M K N mid kept bytes chunk known left rest a b c n i p h e f l q = record {
  input = p.input ++ bytes;
  consumed = consumes_more known left rest p.input bytes p.consumed (subst (Consumes left rest) (sym e) h);
  fed = fed_more Asks M K N [] mid kept p.input bytes [] [] [] a b c true p.fed q;
  many = omega (arith, p.many, some_bytes n chunk bytes f l e, length-append p.input bytes);
}

-- as many reads as a run makes, each of some bytes
pub read_so_many : {D : Type 0} (Asks : Manner D) (M N : Conversation D) (kept : List ℕ) (known left a b : Option (List ℕ)) (n : ℕ) → HasRead Asks M N kept known left a b n → most_reads ≤ n → IfSome known (λ input. most_reads ≤ length input)
read_so_many Asks M N kept known left a b n p h =
    known_input known left p.input (λ xs. most_reads ≤ length xs) p.consumed (λ more. omega (arith, p.many, h, length-append p.input more))

-- ---- a run

-- lines of which the first ones are decided by these
record Begin (lines ds others : List (List ℕ)) : Type 0 where
  firsts : List (List ℕ)
  rest : List (List ℕ)
  whole : lines ≡ firsts ++ rest
  decided : map decisive firsts ≡ ds
  left : map decisive rest ≡ others

begin : (lines ds others : List (List ℕ)) → map decisive lines ≡ ds ++ others → Begin lines ds others
begin lines [] others e = record { firsts = []; rest = lines; whole = refl; decided = refl; left = e }
begin [] (d ∷ ds) others e = cc
begin (line ∷ lines) (d ∷ ds) others e =
    let later : Begin lines ds others = begin lines ds others (cc) in
    record {
      firsts = line ∷ later.firsts;
      rest = later.rest;
      whole = ap (λ z. line ∷ z) later.whole;
      decided = (let same : decisive line ≡ d = cc in rw (same, later.decided) refl);
      left = later.left;
    }

spoken_of : {D : Type 0} (Asks : Manner D) (M N : Conversation D) (lines ds : List (List ℕ)) (w : List ℕ) (a b : Option (List ℕ)) (d : Bool)
    → map decisive lines ≡ ds → w ≡ [] → Passed Asks M ds N [] w a b d → Spoken Asks M lines N a b d
spoken_of Asks M N lines ds w a b d e k p = record {
  text = p.text;
  written = p.written;
  unwritten = p.unwritten;
  talk = talk_undecided Asks M N lines p.text (subst (λ z. Talk Asks M z p.text N) (sym e) p.talk);
  split = p.split;
  appended = p.appended;
  whole = λ t. p.whole t ∙ k;
}

none_left : (lines : List (List ℕ)) → map decisive lines ≡ [] → lines ≡ []
none_left [] e = refl
none_left (line ∷ lines) e = cc

-- what was read, where these lines are decided whatever comes next
pub talked : {D : Type 0} (Asks : Manner D) (from to : D) (pinned : Option Snapshot) (ds : List (List ℕ)) (others : List ℕ → List (List ℕ)) (input : List ℕ) (known left a b : Option (List ℕ))
    → Consumes known left input → ((more : List ℕ) → decisive_lines (input ++ more) ≡ ds ++ others more) → Passed Asks (at_responder from None) ds (at_responder to pinned) [] [] a b false → HasTalked Asks from to known a b false
talked Asks from to pinned ds others input None left a b h f p =
    let these : Begin (lines_of (input ++ [])) ds (others []) = begin (lines_of (input ++ [])) ds (others []) (f []) in
    record { lines = these.firsts; pinned = pinned; spoken = spoken_of Asks (at_responder from None) (at_responder to pinned) these.firsts ds [] a b false these.decided refl p; read = tt }
talked Asks from to pinned ds others input (Some x) None a b h f p = absurd h
talked Asks from to pinned ds others input (Some x) (Some y) a b h f p =
    let these : Begin (lines_of (input ++ y)) ds (others y) = begin (lines_of (input ++ y)) ds (others y) (f y) in
    record {
      lines = these.firsts;
      pinned = pinned;
      spoken = spoken_of Asks (at_responder from None) (at_responder to pinned) these.firsts ds [] a b false these.decided refl p;
      read = (these.rest, ap lines_of h ∙ these.whole, λ e. cc);
    }

-- with nothing pinned at first, reading so far and then n bytes more speaks some first lines of the input
pub talked_fed : {D : Type 0} (Asks : Manner D) (M K N : Conversation D) (mid kept bytes chunk : List ℕ) (known left rest a b c : Option (List ℕ)) (n i : ℕ)
    → M.pinned ≡ None → HasRead Asks M K mid known left a b i → Consumes left rest (take n chunk) → bytes ≡ take n chunk → Fed Asks K N mid kept bytes [] [] b c false → HasTalked Asks M.responder N.responder known a c false
talked_fed Asks M K N mid kept bytes chunk known left rest a b c n i fresh p h e q =
    let all : Fed Asks M N [] kept (p.input ++ bytes) [] [] a c false = fed_more Asks M K N [] mid kept p.input bytes [] [] [] a b c false p.fed q in
    talked Asks M.responder N.responder N.pinned all.lines all.others (p.input ++ bytes) known rest a c (consumes_more known left rest p.input bytes p.consumed (subst (Consumes left rest) (sym e) h)) all.cut
    (subst (λ z. Passed Asks (at_responder M.responder z) all.lines N [] [] a c false) fresh all.passed)

pub talked_read : {D : Type 0} (Asks : Manner D) (M N : Conversation D) (kept : List ℕ) (known left a b : Option (List ℕ)) (n : ℕ) → M.pinned ≡ None → HasRead Asks M N kept known left a b n → HasTalked Asks M.responder N.responder known a b false
talked_read Asks M N kept known left a b n fresh p =
    talked Asks M.responder N.responder N.pinned p.fed.lines p.fed.others p.input known left a b p.consumed p.fed.cut
    (subst (λ z. Passed Asks (at_responder M.responder z) p.fed.lines N [] [] a b false) fresh (passed_short Asks M N p.fed.lines [] [] [] a b p.fed.passed))

-- nothing was read
pub talked_nothing : {D : Type 0} (Asks : Manner D) (M : Conversation D) (known a : Option (List ℕ)) → M.pinned ≡ None → HasTalked Asks M.responder M.responder known a a false
talked_nothing Asks M known a fresh = talked_read Asks M M [] known known a a 0 fresh (read_none Asks M [] known a refl)

-- all that there was
pub talked_whole : {D : Type 0} (Asks : Manner D) (from to : D) (pinned : Option Snapshot) (input : List ℕ) (known left a b : Option (List ℕ)) (d : Bool)
    → Consumes known left input → IsAtEnd left → Passed Asks (at_responder from None) (decisive_lines input) (at_responder to pinned) [] [] a b d → HasTalked Asks from to known a b d
talked_whole Asks from to pinned input known left a b d h e p = record {
  lines = lines_of input;
  pinned = pinned;
  spoken = spoken_of Asks (at_responder from None) (at_responder to pinned) (lines_of input) (decisive_lines input) [] a b d refl refl p;
  read = at_end known left h e;
} where
  at_end : (k l : Option (List ℕ)) → Consumes k l input → IsAtEnd l → IfSome k (λ xs. (others : List (List ℕ)) × (lines_of xs ≡ lines_of input ++ others) × (d ≡ true → others ≡ []))
  at_end None l g c = tt
  at_end (Some x) None g c = absurd g
  at_end (Some x) (Some y) g c = ([], ap lines_of (g ∙ ap (λ z. input ++ z) c ∙ append-nil input) ∙ sym (append-nil (lines_of input)), λ t. refl)

-- to the end
pub talked_all : {D : Type 0} (Asks : Manner D) (M K N : Conversation D) (kept chunk : List ℕ) (known left rest a b c : Option (List ℕ)) (i n : ℕ) (d : Bool)
    → M.pinned ≡ None → HasRead Asks M K kept known left a b i → n ≡ 0 → Consumes left rest (take n chunk) → IsAtEnd rest → Passed Asks K (decisive_lines kept) N [] [] b c d → HasTalked Asks M.responder N.responder known a c d
talked_all Asks M K N kept chunk known left rest a b c i n d fresh p z h e q =
    let same : decisive_lines p.input ≡ p.fed.lines ++ decisive_lines kept =
    ap decisive_lines (sym (append-nil p.input)) ∙ p.fed.cut [] ∙ ap (λ z. p.fed.lines ++ z) (p.fed.goes_on refl [] ∙ ap decisive_lines (append-nil kept)) in
    let all : Passed Asks M (p.fed.lines ++ decisive_lines kept) N [] [] a c d = passed_more Asks M K N p.fed.lines (decisive_lines kept) [] [] [] a b c d p.fed.passed q in
    let read : Consumes known rest p.input = subst (λ z. Consumes known rest z) (append-nil p.input) (consumes_more known left rest p.input [] p.consumed (consumes_end left rest chunk n z h)) in
    talked_whole Asks M.responder N.responder N.pinned p.input known rest a c d read e
    (subst (λ z. Passed Asks (at_responder M.responder z) (decisive_lines p.input) N [] [] a c d) fresh (subst (λ z. Passed Asks M z N [] [] a c d) (sym same) all))

-- ---- why it stops

-- no read failed, and the writer counted
pub cause_counted : (known : Option (List ℕ)) (r s w v u : ℕ) (res : Result (Unit {0}) Refusal) → s ≡ r → v ≡ w → IsFailureCounted v u res → IsCause (r, s) (w, u) known res
cause_counted known r s w v u (Ok x) e k h = (e, h ∙ k)
cause_counted known r s w v u (Err refusal.WriteFault) e k h = (e, subst (λ z. z < u) k h)
cause_counted known r s w v u (Err refusal.OutOfMemory) e k h = (e, h ∙ k)
cause_counted known r s w v u (Err _) e k h = absurd h

pub if_ok : {A E : Type 0} (res : Result A E) (P : Type 0) → P → OnOk res P
if_ok (Ok x) P p = p
if_ok (Err x) P p = tt

-- as many reads as there may be
pub cause_reads : {D : Type 0} (Asks : Manner D) (M N : Conversation D) (kept : List ℕ) (known left a b : Option (List ℕ)) (n r s w u : ℕ)
    → HasRead Asks M N kept known left a b n → most_reads ≤ n → u ≡ w → ((r < s) ⊎ IfSome known (λ input. most_reads ≤ length input)) × (u ≡ w)
cause_reads Asks M N kept known left a b n r s w u p h e = (inr (read_so_many Asks M N kept known left a b n p h), e)
