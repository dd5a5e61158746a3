-- A session text that is read in turn: its lines are those of its parts, and so are its calls.
use Rattle.std.proofs.Common.{◌≡◌, ℕ, ◌+◌, ◌<◌, ◌≤◌, Bool, true, false, List, [], ◌∷◌, ◌++◌, length, take, drop, get_or, Option, Some, None, Result, Ok, Err, IfSome, refl, sym, ap, ◌∙◌, append_assoc, arith, subst}
use Rattle.std.specs.Prelude.{◌==◌, cond, codes, is_ok, OnOk}
use Rattle.std.specs.List.{onto_first}
use Rattle.std.specs.Io.KnownBytes.{Consumes, IsAtEnd}
use Rattle.std.proofs.lemmas.Bool.{eq-eqb}
use Rattle.std.proofs.lemmas.List.{append-nil, take-append-drop, take_more, length-take-le}
use Rattle.zt_rows.specs.CallsInARow.{in_a_row}
use Rattle.zt_rows.specs.declared.refusals.Refusal.{Refusal}
use Rattle.zt_rows.specs.declared.calls.Call.{Call}
use Rattle.zt_book.specs.Log.{BookView, book_at}
use Rattle.zt_book.specs.SavedSessions.{loaded_saved}
use Rattle.zt_text.specs.Fields.{◌>>=◌}
use Rattle.zt_text.specs.Lines.{lines_of}
use Rattle.zt_text.specs.SavedTexts.{saved_of}
use Rattle.zt_text.specs.Session.{call_in, at_line, in_front, calls_in}
use Rattle.zt_text.specs.SessionCalls.{LinesLeft, calls_left, row_lines, tree_of}
use Rattle.zt_console.specs.LoadedText.{IsLoadedOf, IsLoadedOfRead}
use Rattle.zt_console.specs.ProofsOnly.LoadedText.{behind, with_left}
use Rattle.zt_console.specs.ProofsOnly.Run.{IsRead}
use Rattle.zt_console.specs.ProofsOnly.ReadText.{ends_line, with_first, AreWhole, AreLoaded, AreTaken, IsReadSoFar, IsRowRead}
use Rattle.zt_console.proofs.LoadLaws.{row-loaded}

-- ---- lines

ends_more : (byte : ℕ) (bytes : List ℕ) → 0 < length bytes → ends_line (byte ∷ bytes) ≡ ends_line bytes
ends_more byte [] some = absurd (omega arith)
ends_more byte (next ∷ bytes) some = refl

some_behind : (xs ys : List ℕ) → 0 < length ys → 0 < length (xs ++ ys)
some_behind [] ys some = some
some_behind (x ∷ xs) ys some = omega arith

pub ends_behind : (xs ys : List ℕ) → 0 < length ys → ends_line (xs ++ ys) ≡ ends_line ys
ends_behind [] ys some = refl
ends_behind (x ∷ xs) ys some = ends_more x (xs ++ ys) (some_behind xs ys some) ∙ ends_behind xs ys some

-- lines behind whole lines
pub ends_both : (xs ys : List ℕ) → ends_line xs ≡ true → ends_line ys ≡ true → ends_line (xs ++ ys) ≡ true
ends_both xs [] h g = ap ends_line (append-nil xs) ∙ h
ends_both xs (y ∷ ys) h g = ends_behind xs (y ∷ ys) (omega arith) ∙ g

line_some : (byte : ℕ) (lines : List (List ℕ)) → 0 < length (onto_first byte lines)
line_some byte [] = omega arith
line_some byte (line ∷ lines) = omega arith

lines_some : (byte : ℕ) (bytes : List ℕ) → 0 < length (lines_of (byte ∷ bytes))
lines_some byte bytes = elim (byte == 10) as (λ b. 0 < length (cond b ([] ∷ lines_of bytes) (onto_first byte (lines_of bytes)))) [
  | true ↦ omega arith
  | false ↦ line_some byte (lines_of bytes)
]

onto_both : (byte : ℕ) (lines others : List (List ℕ)) → 0 < length lines → onto_first byte (lines ++ others) ≡ onto_first byte lines ++ others
onto_both byte [] others some = absurd (omega arith)
onto_both byte (line ∷ lines) others some = refl

line_more : (byte : ℕ) (bytes more : List ℕ) → 0 < length (lines_of bytes) → lines_of (bytes ++ more) ≡ lines_of bytes ++ lines_of more
    → lines_of ((byte ∷ bytes) ++ more) ≡ lines_of (byte ∷ bytes) ++ lines_of more
line_more byte bytes more some same =
    elim (byte == 10) as (λ b. cond b ([] ∷ lines_of (bytes ++ more)) (onto_first byte (lines_of (bytes ++ more)))
    ≡ cond b ([] ∷ lines_of bytes) (onto_first byte (lines_of bytes)) ++ lines_of more) [
      | true ↦ ap (λ ls. [] ∷ ls) same
      | false ↦ ap (onto_first byte) same ∙ onto_both byte (lines_of bytes) (lines_of more) some
    ]

-- the lines of a text are those of its whole lines, and then those behind
pub lines_both : (xs ys : List ℕ) → ends_line xs ≡ true → lines_of (xs ++ ys) ≡ lines_of xs ++ lines_of ys
lines_both [] ys h = refl
lines_both (x ∷ []) ys h = rw h refl
lines_both (x ∷ next ∷ xs) ys h = line_more x (next ∷ xs) ys (lines_some next xs) (lines_both (next ∷ xs) ys h)

-- ---- calls

-- what a line gives to the calls
abbrev calls_by : ℕ → Result (Option (ℕ × Call)) Refusal → Result (List (ℕ × Call)) (ℕ × Refusal) → Result (List (ℕ × Call)) (ℕ × Refusal)
calls_by number line others = at_line number line >>= λ made. others >>= λ calls. Ok (in_front made calls)

front_both : (made : Option (ℕ × Call)) (calls others : List (ℕ × Call)) → in_front made calls ++ others ≡ in_front made (calls ++ others)
front_both None calls others = refl
front_both (Some one) calls others = refl

-- calls that read do so at any number
any_by : (n m : ℕ) (line : Result (Option (ℕ × Call)) Refusal) (rest same : Result (List (ℕ × Call)) (ℕ × Refusal)) (calls : List (ℕ × Call))
    → ((found : List (ℕ × Call)) → rest ≡ Ok found → same ≡ Ok found) → calls_by n line rest ≡ Ok calls → calls_by m line same ≡ Ok calls
any_by n m (Ok made) (Ok found) same calls law is = ap (calls_by m (Ok made)) (law found refl) ∙ is
any_by n m (Ok made) (Err fault) same calls law is = absurd (cc)
any_by n m (Err fault) rest same calls law is = absurd (cc)

calls_any : (n m : ℕ) (lines : List (List ℕ)) (calls : List (ℕ × Call)) → calls_in n lines ≡ Ok calls → calls_in m lines ≡ Ok calls
unfolding calls_in
calls_any n m [] calls is = is
calls_any n m (line ∷ lines) calls is =
    any_by n m (call_in line) (calls_in (n + 1) lines) (calls_in (m + 1) lines) calls (λ found. calls_any (n + 1) (m + 1) lines found) is

both_by : (n : ℕ) (line : Result (Option (ℕ × Call)) Refusal) (rest whole : Result (List (ℕ × Call)) (ℕ × Refusal)) (calls others : List (ℕ × Call))
    → ((found : List (ℕ × Call)) → rest ≡ Ok found → whole ≡ Ok (found ++ others)) → calls_by n line rest ≡ Ok calls → calls_by n line whole ≡ Ok (calls ++ others)
both_by n (Ok made) (Ok found) whole calls others law is =
    let same : in_front made found ≡ calls = cc in
    ap (calls_by n (Ok made)) (law found refl) ∙ ap Ok (sym (front_both made found others)) ∙ ap (λ cs. Ok (cs ++ others)) same
both_by n (Ok made) (Err fault) whole calls others law is = absurd (cc)
both_by n (Err fault) rest whole calls others law is = absurd (cc)

-- the calls of lines behind others
pub calls_both : (n m : ℕ) (lines more : List (List ℕ)) (calls others : List (ℕ × Call)) → calls_in n lines ≡ Ok calls → calls_in m more ≡ Ok others
    → calls_in n (lines ++ more) ≡ Ok (calls ++ others)
unfolding calls_in
calls_both n m [] more calls others is behind =
    let none : [] ≡ calls = cc in
    calls_any m n more others behind ∙ ap (λ cs. Ok (cs ++ others)) none
calls_both n m (line ∷ lines) more calls others is behind =
    both_by n (call_in line) (calls_in (n + 1) lines) (calls_in (n + 1) (lines ++ more)) calls others
    (λ found at. calls_both (n + 1) m lines more found others at behind) is

-- ---- what is loaded

-- the calls of these lines are loaded, where all with those left are
pub loaded_all : (bytes : List ℕ) (row more : List (ℕ × Call)) → with_left row (record { number = 2; lines = lines_of bytes }) ≡ Ok more → AreLoaded bytes row more
loaded_all bytes row more is = by (calls_in 2 (lines_of bytes)) refl is
  where
    by : (read : Result (List (ℕ × Call)) (ℕ × Refusal)) → calls_in 2 (lines_of bytes) ≡ read → behind row read ≡ Ok more → AreLoaded bytes row more
    by (Ok calls) read all = let same : row ++ calls ≡ more = cc in record { calls = calls; read = read; behind = sym same }
    by (Err fault) read all = absurd (cc)

-- where they are told to be loaded
pub loaded_where : (bytes : List ℕ) (row more : List (ℕ × Call)) (left : LinesLeft) (told : Result (Unit {0}) (ℕ × Refusal)) (done : Bool)
    → left ≡ record { number = 2; lines = lines_of bytes } → done ≡ is_ok told → OnOk told (with_left row left ≡ Ok more) → done ≡ true → AreLoaded bytes row more
loaded_where bytes row more left (Ok u) done all is loaded h = loaded_all bytes row more (ap (with_left row) (sym all) ∙ loaded)
loaded_where bytes row more left (Err fault) done all is loaded h = absurd (cc)

pub loaded_both : (xs ys : List ℕ) (row more last : List (ℕ × Call)) → ends_line xs ≡ true → AreLoaded xs row more → AreLoaded ys more last → AreLoaded (xs ++ ys) row last
loaded_both xs ys row more last whole first second = record {
  calls = first.calls ++ second.calls;
  read = ap (calls_in 2) (lines_both xs ys whole) ∙ calls_both 2 2 (lines_of xs) (lines_of ys) first.calls second.calls first.read second.read;
  behind = second.behind ∙ ap (λ cs. cs ++ second.calls) first.behind ∙ append_assoc row first.calls second.calls;
}

-- no line ends in these bytes
pub taken_none : (bytes : List ℕ) (row : List (ℕ × Call)) → AreTaken bytes row row bytes
unfolding calls_in
taken_none bytes row = record {
  lines = [];
  split = refl;
  whole = refl;
  loaded = record { calls = []; read = refl; behind = sym (append-nil row) };
}

-- bytes behind others
pub taken_both : (bytes next : List ℕ) (row more last : List (ℕ × Call)) (part rest : List ℕ) → AreTaken bytes row more part → AreTaken (part ++ next) more last rest
    → AreTaken (bytes ++ next) row last rest
taken_both bytes next row more last part rest first second = record {
  lines = first.lines ++ second.lines;
  split = ap (λ bs. bs ++ next) first.split ∙ append_assoc first.lines part next ∙ ap (λ bs. first.lines ++ bs) second.split ∙ sym (append_assoc first.lines second.lines rest);
  whole = ends_both first.lines second.lines first.whole second.whole;
  loaded = loaded_both first.lines second.lines row more last first.whole first.loaded second.loaded;
}

-- a line that began in a part, and others behind it
pub through : (part lines first others : List ℕ) (row more last : List (ℕ × Call)) → AreWhole lines first others → AreLoaded (part ++ first) row more → AreLoaded others more last
    → AreLoaded (part ++ lines) row last
through part lines first others row more last cut one rest =
    let whole : ends_line (part ++ first) ≡ true = ends_behind part first cut.some ∙ cut.whole in
    let all : (part ++ first) ++ others ≡ part ++ lines = append_assoc part first others ∙ ap (λ bs. part ++ bs) (sym cut.split) in
    subst (λ bs. AreLoaded bs row last) all (loaded_both (part ++ first) others row more last whole one rest)

-- lines that end in some bytes, and the part behind them
pub taken_lines : (part bytes lines rest : List ℕ) (row more : List (ℕ × Call)) → AreWhole bytes lines rest → AreLoaded (part ++ lines) row more → AreTaken (part ++ bytes) row more rest
taken_lines part bytes lines rest row more cut loaded = record {
  lines = part ++ lines;
  split = ap (λ bs. part ++ bs) cut.split ∙ sym (append_assoc part lines rest);
  whole = ends_behind part lines cut.some ∙ cut.whole;
  loaded = loaded;
}

-- those bytes are kept as a part
pub taken_going : (bytes part : List ℕ) (row : List (ℕ × Call)) → part ≡ bytes → AreTaken bytes row row part
taken_going bytes part row is = subst (λ p. AreTaken bytes row row p) (sym is) (taken_none bytes row)

pub taken_through : (part bytes lines rest cleared new : List ℕ) (row more : List (ℕ × Call)) → AreWhole bytes lines rest → AreLoaded (part ++ lines) row more → cleared ≡ [] → new ≡ cleared ++ rest
    → AreTaken (part ++ bytes) row more new
taken_through part bytes lines rest cleared new row more cut loaded none is =
    let same : new ≡ rest = is ∙ ap (λ bs. bs ++ rest) none in
    subst (λ p. AreTaken (part ++ bytes) row more p) (sym same) (taken_lines part bytes lines rest row more cut loaded)

-- a line that began in a part is loaded from where both stand together
pub through_kept : (part lines first others kept slice : List ℕ) (row more last : List (ℕ × Call)) → AreWhole lines first others → kept ≡ part ++ first → slice ≡ kept → AreLoaded slice row more
    → AreLoaded others more last → AreLoaded (part ++ lines) row last
through_kept part lines first others kept slice row more last cut is same one rest =
    through part lines first others row more last cut (subst (λ bs. AreLoaded bs row more) (same ∙ is) one) rest

-- ---- what is read

consumed_both : (before now after : Option (List ℕ)) (xs ys : List ℕ) → Consumes before now xs → Consumes now after ys → Consumes before after (xs ++ ys)
consumed_both None now after xs ys first second = tt
consumed_both (Some all) None after xs ys first second = absurd first
consumed_both (Some all) (Some left) None xs ys first second = absurd second
consumed_both (Some all) (Some left) (Some end) xs ys first second =
    first ∙ ap (λ bs. xs ++ bs) second ∙ sym (append_assoc xs ys end)

-- the first bytes
pub read_begun : (before now : Option (List ℕ)) (bytes left part : List ℕ) (row : List (ℕ × Call)) → Consumes before now bytes → bytes ≡ with_first left → AreTaken left [] row part
    → IsReadSoFar before now row part
read_begun before now bytes left part row given is taken = record { bytes = left; given = subst (Consumes before now) is given; taken = taken }

pub first_taken : (before now : Option (List ℕ)) (chunk slice bytes left held part : List ℕ) (before_row row : List (ℕ × Call)) (count : ℕ) → IsRead before now chunk count
    → slice ≡ chunk → bytes ≡ take count slice → bytes ≡ with_first left → before_row ≡ [] → held ≡ [] → AreTaken (held ++ left) before_row row part → IsReadSoFar before now row part
first_taken before now chunk slice bytes left held part before_row row count read same front is none nothing taken =
    let given : Consumes before now bytes = subst (Consumes before now) (sym (front ∙ ap (take count) same)) read.consumed in
    let begun : AreTaken left [] row part = subst (λ r. AreTaken left r row part) none (subst (λ h. AreTaken (h ++ left) before_row row part) nothing taken) in
    read_begun before now bytes left part row given is begun

-- more bytes
pub read_more : (before now after : Option (List ℕ)) (next part rest : List ℕ) (row more : List (ℕ × Call)) → IsReadSoFar before now row part → Consumes now after next
    → AreTaken (part ++ next) row more rest → IsReadSoFar before after more rest
read_more before now after next part rest row more so_far given taken = record {
  bytes = so_far.bytes ++ next;
  given = consumed_both before now after (with_first so_far.bytes) next so_far.given given;
  taken = taken_both so_far.bytes next [] row more part rest so_far.taken taken;
}

consumed_last : (before now after : Option (List ℕ)) (xs ys : List ℕ) → ys ≡ [] → Consumes before now xs → Consumes now after ys → Consumes before after xs
consumed_last before now after xs ys none first second =
    subst (Consumes before after) (ap (λ bs. xs ++ bs) none ∙ append-nil xs) (consumed_both before now after xs ys first second)

-- the end, with the part that no line feed ends
pub read_ended : (before now after : Option (List ℕ)) (none part : List ℕ) (row last : List (ℕ × Call)) → IsReadSoFar before now row part → none ≡ [] → Consumes now after none
    → IsAtEnd after → AreLoaded part row last → IsRowRead before after last
read_ended before now after none part row last so_far nothing given end loaded =
    let taken = so_far.taken in
    let all : AreLoaded (taken.lines ++ part) [] last = loaded_both taken.lines part [] row last taken.whole taken.loaded loaded in
    record {
      bytes = so_far.bytes;
      given = consumed_last before now after (with_first so_far.bytes) none nothing so_far.given given;
      ended = end;
      read = ap (λ bs. calls_in 2 (lines_of bs)) taken.split ∙ all.read ∙ ap Ok (sym all.behind);
    }

pub row_ended : (before now after : Option (List ℕ)) (chunk part : List ℕ) (row : List (ℕ × Call)) (count : ℕ) (last : Option (List (ℕ × Call))) → IsReadSoFar before now row part
    → IsRead now after chunk count → count ≡ 0 → length chunk ≡ 65536 → IfSome last (AreLoaded part row) → IfSome last (IsRowRead before after)
row_ended before now after chunk part row count None so_far read none room loaded = tt
row_ended before now after chunk part row count (Some last) so_far read none room loaded =
    let nothing : take count chunk ≡ [] = ap (λ n. take n chunk) none in
    read_ended before now after (take count chunk) part row last so_far nothing read.consumed (read.ended none (omega arith)) loaded

-- ---- the book

first_left : (bytes : List ℕ) → row_lines (lines_of (with_first bytes)) ≡ Ok (record { number = 2; lines = lines_of bytes })
first_left bytes = refl

pub book_read : (clients : ℕ) (before after : Option (List ℕ)) (row : List (ℕ × Call)) (book : BookView)
    → ((text : List ℕ) (left : LinesLeft) → row_lines (lines_of text) ≡ Ok left → saved_of text ≡ tree_of (calls_left left))
    → IsRowRead before after row → loaded_saved clients (in_a_row row) ≡ Ok book.session → book ≡ book_at book.session → IsLoadedOfRead clients before after book
book_read clients before after row book law read loaded begins = record {
  text = with_first read.bytes;
  given = read.given;
  ended = read.ended;
  loaded = row-loaded clients (with_first read.bytes) row book
      (law (with_first read.bytes) (record { number = 2; lines = lines_of read.bytes }) (first_left read.bytes) ∙ ap tree_of read.read) loaded begins;
}

-- ---- where bytes are cut

pub cut_whole : (bytes front back : List ℕ) (place : ℕ) → place < length bytes → get_or bytes place 0 ≡ 10 → front ≡ take (place + 1) bytes → back ≡ drop (place + 1) bytes
    → AreWhole bytes front back
cut_whole bytes front back place low here first rest =
    let more : front ≡ take place bytes ++ (get_or bytes place 0 ∷ []) = first ∙ take_more bytes place 0 low in
    record {
      split = sym (ap (λ xs. xs ++ back) first ∙ ap (λ ys. take (place + 1) bytes ++ ys) rest ∙ take-append-drop (place + 1) bytes);
      some = let long : length front ≡ place + 1 = ap length first ∙ length-take-le (place + 1) bytes (omega arith) in omega arith;
      whole = ap ends_line more ∙ ends_behind (take place bytes) (get_or bytes place 0 ∷ []) (omega arith) ∙ eq-eqb (get_or bytes place 0) 10 here;
    }
