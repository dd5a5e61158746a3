-- What one line more leaves of how far a log is read.
use Rattle.std.proofs.Common.{◌≡◌, ℕ, ◌+◌, suc, true, false, List, [], ◌∷◌, ◌++◌, map, length, Option, Some, None, IsSome, refl, sym, ap, ◌∙◌, subst, arith, if◌then◌else◌}
use Rattle.std.proofs.lemmas.List.{append-nil, append_assoc}
use Rattle.std.specs.List.{cons_option}
use Rattle.std.specs.Option.{option_to_list}
use Rattle.std.specs.Str.{IsUtf8, is_utf8}
use Rattle.std.proofs.lemmas.Str.{IsUtf8-from_is_utf8, is_utf8-from_IsUtf8}
use Rattle.json.specs.Token.{Token}
use Rattle.json.specs.Lex.{tokens}
use Rattle.json.specs.Json.{Json, document}
use Rattle.json.specs.Find.{BeginsWith}
use Rattle.zt_logs.specs.declared.logged.LoggedCall.{LoggedCall}
use Rattle.zt_logs.specs.Lines.{lines_of}
use Rattle.zt_bits.specs.declared.statuses.Status.{Status}
use Rattle.zt_logs.specs.declared.call_names.CallName.{CallName}
use Rattle.zt_logs.specs.declared.line_calls.PartCall.{PartCall}
use Rattle.zt_logs.specs.Entries.{Entry, called, json_of, entry_of, entries_behind}
use Rattle.zt_logs.specs.Answered.{IsAnswered}
use Rattle.zt_logs.specs.Logged.{IsPart, part_status, AreAhead, AreParts, AreAllParts, AreNamed, IsLogged, AreLogged}
use Rattle.zt_logs.specs.ProofsOnly.Tokens.{value_at}
use Rattle.zt_logs.specs.ProofsOnly.ReadLines.{AddsLogged, IsReadUpTo, without_process}
use Rattle.zt_logs.proofs.TokenLaws.{value_here}

-- ---- the JSON of a line

json_at : (bytes : List ℕ) (ts : List Token) (o : Option Json) → document bytes ≡ o → IsSome o → ((d : Json) → document bytes ≡ Some d → BeginsWith ts d)
    → document bytes ≡ Some (value_at ts)
json_at bytes ts None is some begins = cc some
json_at bytes ts (Some d) is some begins = is ∙ ap Some (sym (value_here ts d (begins d is)))

pub json_read : (bytes : List ℕ) (ts : List Token) → IsUtf8 bytes → (ts ≡ tokens bytes) × IsSome (document bytes)
    → ((d : Json) → document bytes ≡ Some d → BeginsWith ts d) → json_of bytes ≡ Some (value_at ts)
unfolding json_of
json_read bytes ts utf8 is begins = rw (is_utf8-from_IsUtf8 bytes utf8) (json_at bytes ts (document bytes) refl is.1 begins)

pub json_refused : (bytes : List ℕ) → (IsUtf8 bytes → document bytes ≡ None) → json_of bytes ≡ None
unfolding json_of
json_refused bytes none = elim (is_utf8 bytes) as (λ b. is_utf8 bytes ≡ b → (if b then document bytes else None) ≡ None) [
  | true ↦ λ e. none (IsUtf8-from_is_utf8 bytes e)
  | false ↦ λ e. refl
] refl

-- ---- one line more

logged_more : (entries : List Entry) (calls : List LoggedCall) (entry : Entry) (line : List LoggedCall) → AreLogged entries calls → IsLogged entry line
    → AreLogged (entries ++ entry ∷ []) (calls ++ line)
logged_more [] calls entry line are is = (line, [], ap (λ cs. cs ++ line) are ∙ sym (append-nil line), is, refl)
logged_more (e ∷ es) calls entry line (first, others, split, fits, rest) is =
    (first, others ++ line, ap (λ cs. cs ++ line) split ∙ append_assoc first others line, fits, logged_more es others entry line rest is)

added : (entries : List Entry) (o : Option Entry) (old new : List LoggedCall) → AreLogged entries old → AddsLogged o old new
    → AreLogged (entries ++ option_to_list o) new
added entries None old new are adds = rw (append-nil entries, adds) are
added entries (Some entry) old new are (line, is, fits) = rw is (logged_more entries old entry line are fits)

onto_rest : (entries : List Entry) (o : Option Entry) (others : List Entry) → (entries ++ option_to_list o) ++ others ≡ entries ++ cons_option o others
onto_rest entries None others = ap (λ es. es ++ others) (append-nil entries)
onto_rest entries (Some entry) others = append_assoc entries (entry ∷ []) others

pub read_none : (text : List ℕ) (calls : List LoggedCall) → calls ≡ [] → IsReadUpTo text text 0 calls
read_none text calls none = record { lines = omega arith; entries = []; logged = none; whole = refl }

pub read_line : (text left others line : List ℕ) (count : ℕ) (old new : List LoggedCall) → lines_of left ≡ line ∷ lines_of others
    → IsReadUpTo text left count old → AddsLogged (entry_of (suc count) line) old new → IsReadUpTo text others (suc count) new
read_line text left others line count old new first is adds = record {
  lines = let h : count + length (line ∷ lines_of others) ≡ length (lines_of text) = rw first at is.lines in omega (arith, h);
  entries = is.entries ++ option_to_list (entry_of (suc count) line);
  logged = added is.entries (entry_of (suc count) line) old new is.logged adds;
  whole = onto_rest is.entries (entry_of (suc count) line) (entries_behind (suc count) (lines_of others)) ∙ (rw first at is.whole);
}

pub read_all_lines : (text : List ℕ) (count : ℕ) (calls : List LoggedCall) → IsReadUpTo text [] count calls → count ≡ length (lines_of text)
read_all_lines text count calls is = omega (arith, is.lines)

pub read_all_calls : (text : List ℕ) (count : ℕ) (calls : List LoggedCall) → IsReadUpTo text [] count calls → AreLogged (entries_behind 0 (lines_of text)) calls
read_all_calls text count calls is = rw (← is.whole) (rw (append-nil is.entries) is.logged)

-- ---- processes are put in

-- a list that is the same but for processes falls into the same parts
split_same : (first others new : List LoggedCall) → map without_process new ≡ map without_process (first ++ others)
    → (l o : List LoggedCall) × (new ≡ l ++ o) × (map without_process l ≡ map without_process first) × (map without_process o ≡ map without_process others)
split_same [] others new same = ([], new, refl, refl, same)
split_same (x ∷ xs) others [] same = cc same
split_same (x ∷ xs) others (n ∷ ns) same =
    let first : without_process n ≡ without_process x = cc same in
    let rest : map without_process ns ≡ map without_process (xs ++ others) = cc same in
    let (l, o, split, a, b) = split_same xs others ns rest in
    (n ∷ l, o, ap (λ cs. n ∷ cs) split, cc (first, a), b)

ahead_same : (line count : ℕ) (answered : Option Status) (k : ℕ) (parts : List PartCall) (old new : List LoggedCall)
    → map without_process new ≡ map without_process old → AreAhead line count answered k parts old → AreAhead line count answered k parts new
ahead_same line count answered k [] [] [] same are = tt
ahead_same line count answered k [] [] (n ∷ ns) same are = cc same
ahead_same line count answered k [] (o ∷ os) new same are = absurd are
ahead_same line count answered k (p ∷ ps) [] new same are = absurd are
ahead_same line count answered k (p ∷ ps) (o ∷ os) [] same are = cc same
ahead_same line count answered k (p ∷ ps) (o ∷ os) (n ∷ ns) same are =
    let first : without_process n ≡ without_process o = cc same in
    let others : map without_process ns ≡ map without_process os = cc same in (
      subst (λ logged. IsPart line count k p logged) (sym first) are.0,
      subst (λ (logged : LoggedCall). logged.recorded.status ≡ answered) (sym first) are.1,
      subst (λ (logged : LoggedCall). logged.recorded.handles ≡ option_to_list p.given) (sym first) are.2,
      ahead_same line count answered (suc k) ps os ns others are.3,
    )

one_mapped : (A B : Type 0) (f : A → B) (last : A) (new : List A) → map f new ≡ map f (last ∷ []) → (n : A) × (new ≡ n ∷ []) × (f n ≡ f last)
one_mapped A B f last [] same = cc same
one_mapped A B f last (n ∷ []) same = (n, refl, cc same)
one_mapped A B f last (n ∷ m ∷ ms) same = cc same

one_same : (last : LoggedCall) (new : List LoggedCall) → map without_process new ≡ map without_process (last ∷ [])
    → (n : LoggedCall) × (new ≡ n ∷ []) × (without_process n ≡ without_process last)
one_same last new same = one_mapped LoggedCall LoggedCall without_process last new same

parts_same : (line : ℕ) (name : CallName) (value : Option Json) (parts : List PartCall) (old new : List LoggedCall)
    → map without_process new ≡ map without_process old → AreParts line name value parts old → AreParts line name value parts new
parts_same line name value parts old new same are =
    let (ahead, rest, split, a, b) = split_same are.ahead (are.last ∷ []) new (same ∙ ap (map without_process) are.in_calls) in
    let (last, alone, is) = one_same are.last rest b in
    record {
      others = are.others;
      part = are.part;
      ahead = ahead;
      last = last;
      in_parts = are.in_parts;
      in_calls = split ∙ ap (λ cs. ahead ++ cs) alone;
      are_ahead =
          subst (λ (logged : LoggedCall). AreAhead line (suc (length are.others)) (part_status logged.recorded.status) 0 are.others ahead) (sym is)
          (ahead_same line (suc (length are.others)) (part_status are.last.recorded.status) 0 are.others are.ahead ahead a are.are_ahead);
      is_last = subst (λ logged. IsPart line (suc (length are.others)) (length are.others) are.part logged) (sym is) are.is_last;
      answered = subst (λ (logged : LoggedCall). IsAnswered name value logged.recorded.status logged.recorded.handles) (sym is) are.answered;
    }

all_same : (line : ℕ) (name : CallName) (value : Option Json) (parts : List PartCall) (old new : List LoggedCall)
    → map without_process new ≡ map without_process old → AreAllParts line name value parts old → AreAllParts line name value parts new
all_same line name value [] old [] same are = refl
all_same line name value [] old (n ∷ ns) same are = cc (same, are)
all_same line name value (p ∷ ps) old new same are = parts_same line name value (p ∷ ps) old new same are

named_same : (line : ℕ) (name : Option CallName) (value : Option Json) (old new : List LoggedCall) → map without_process new ≡ map without_process old
    → AreNamed line name value old → AreNamed line name value new
named_same line None value old new same are = absurd are
named_same line (Some name) value old new same (parts, options, mask, fits, are) =
    (parts, options, mask, fits, all_same line name value parts old new same are)

pub same_but_processes : (entries : List Entry) (old new : List LoggedCall) → map without_process new ≡ map without_process old → AreLogged entries old
    → AreLogged entries new
same_but_processes [] old [] same are = refl
same_but_processes [] old (n ∷ ns) same are = cc (same, are)
same_but_processes (e ∷ es) old new same (first, others, split, fits, rest) =
    let (l, o, is, a, b) = split_same first others new (same ∙ ap (map without_process) split) in
    (l, o, is, named_same e.0 (called e.1) (Some e.1) first l a fits, same_but_processes es others o b rest)
