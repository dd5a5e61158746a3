-- The words of all that a line can ask read as that.
use Rattle.std.proofs.Common.{lit<, lit≤, ◌≡◌, ℕ, ◌+◌, ◌^◌, ◌<◌, ◌≤◌, true, false, List, [], ◌∷◌, length, Some, None, Ok, refl, arith, All}
use Rattle.std.specs.Prelude.{◌==◌, nat_lt, codes}
use Rattle.std.specs.List.{list_all}
use Rattle.std.specs.Fmt.{decimal}
use Rattle.std.proofs.lemmas.Bool.Decides.{nat_tests}
use Rattle.std.proofs.lemmas.List.Elements.{All-head, All-tail}
use Rattle.zt_rows.specs.declared.calls.Command.TheVariants as commands
use Rattle.zt_rows.specs.declared.calls.Happening.{Happening}
use Rattle.zt_rows.specs.declared.calls.Happening.TheVariants.{Made, Ended, PeerClosed, Leaked}
use Rattle.zt_text.specs.declared.read_lines.Line.{Line}
use Rattle.zt_text.specs.declared.read_lines.Line.TheVariants as line
use Rattle.zt_text.specs.Numbers.{decimal_of, process_of, count_of}
use Rattle.zt_text.specs.Names.{is_visible, name_of, happening_of}
use Rattle.zt_text.specs.Fields.{fields_of, placed, field, ended}
use Rattle.zt_text.specs.ReadLines.{goto, back, only_name, branch, follow, show, holders, leaks, when, pin, question_named, plain_command_named, command_named, pinned_show, pinned_holders, pinned_leaks, pinned_named, pinned, word_named, asked_by, is_skipped, fields_in, read_as}
use Rattle.zt_text.specs.ShownNumbers.{words}
use Rattle.zt_text.specs.Calls.{shown_call}
use Rattle.zt_text.specs.Spellings.{IsVisible, IsNameAsked, IsAsked, happening_word, line_words}
use Rattle.zt_text.proofs.ShownFields.{decimal_read}
use Rattle.zt_text.proofs.ShownWords.{is_seen, AreSeen, parts_joined, free_seen, all_free, seen_if, seen_decimal}
use Rattle.zt_text.proofs.ShownLengths.{number_few, words_few, named_few}
use Rattle.zt_text.proofs.ShownCalls.{handle_read, key_read, call_line_read}

-- ---- fields

visible : (name : List ℕ) → All IsVisible name → list_all is_visible name ≡ true
visible [] are = refl
visible (byte ∷ bytes) are =
    let here = All-head IsVisible byte bytes are in
    let is : is_visible byte ≡ true = grind (arith, nat_tests, here.0, here.1) in
    rw (is, visible bytes (All-tail IsVisible byte bytes are)) refl

name_read : (name : List ℕ) → IsNameAsked name → name_of name ≡ Some name
unfolding name_of
name_read name (some, few, are) =
    let more : nat_lt 0 (length name) ≡ true = grind (arith, nat_tests, some) in
    rw (more, visible name are) refl

seen_name : (name : List ℕ) → IsNameAsked name → is_seen name ≡ true
seen_name name (some, few, are) = seen_if is_visible (λ b h. grind (arith, nat_tests)) name (visible name are)

count_read : (n : ℕ) → 1 ≤ n → n ≤ 1048576 → count_of (decimal n) ≡ Some n
count_read n some few =
    let read = decimal_read 1048576 n few (lit< tt) in
    let more : (n == 0) ≡ false = grind (arith, nat_tests, some) in
    rw (read, more) refl

happening_read : (what : Happening) → happening_of (happening_word what) ≡ Some what
unfolding happening_of
happening_read Made = refl
happening_read Ended = refl
happening_read PeerClosed = refl
happening_read Leaked = refl

happening_few : (what : Happening) → length (happening_word what) ≤ 20
happening_few Made = lit≤ tt
happening_few Ended = lit≤ tt
happening_few PeerClosed = lit≤ tt
happening_few Leaked = lit≤ tt

seen_happening : (what : Happening) → is_seen (happening_word what) ≡ true
seen_happening Made = refl
seen_happening Ended = refl
seen_happening PeerClosed = refl
seen_happening Leaked = refl

-- ---- first words, of which none is the number of a process

goto_word : process_of (codes "goto") ≡ None
unfolding decimal_of
goto_word = refl

back_word : process_of (codes "back") ≡ None
unfolding decimal_of
back_word = refl

branch_word : process_of (codes "branch") ≡ None
unfolding decimal_of
branch_word = refl

follow_word : process_of (codes "follow") ≡ None
unfolding decimal_of
follow_word = refl

show_word : process_of (codes "show") ≡ None
unfolding decimal_of
show_word = refl

holders_word : process_of (codes "holders") ≡ None
unfolding decimal_of
holders_word = refl

leaks_word : process_of (codes "leaks") ≡ None
unfolding decimal_of
leaks_word = refl

when_word : process_of (codes "when") ≡ None
unfolding decimal_of
when_word = refl

pin_word : process_of (codes "pin") ≡ None
unfolding decimal_of
pin_word = refl

pinned_word : process_of (codes "pinned") ≡ None
unfolding decimal_of
pinned_word = refl

-- ---- lines

-- the words of a line that is neither too long nor skipped are its fields
line_read : (word : List ℕ) (others : List (List ℕ)) (asked : Line) → is_skipped (words (word ∷ others)) ≡ false
    → nat_lt 140000 (length (words (word ∷ others))) ≡ false → AreSeen (word ∷ others)
    → ((behind : ℕ) → asked_by (record { fields = placed 1 (word ∷ others); behind = behind }) ≡ Ok asked)
    → read_as (words (word ∷ others)) ≡ Ok (Some asked)
unfolding read_as fields_in
line_read word others asked kept few (here, are) read =
    let fields : fields_of (words (word ∷ others)) ≡ word ∷ others = parts_joined 32 word others (free_seen 32 (lit≤ tt) word here) (all_free others are) in
    rw (few, kept, fields, read (length (words (word ∷ others)) + 1)) refl

goto_read : (moment : ℕ) → moment < 2 ^ 32 → (behind : ℕ) → asked_by (record { fields = placed 1 (codes "goto" ∷ decimal moment ∷ []); behind = behind }) ≡ Ok (line.Command (commands.Goto moment))
unfolding asked_by placed field ended word_named command_named plain_command_named goto
goto_read moment small behind = rw (goto_word, handle_read moment small) refl

back_read : (count : ℕ) → 1 ≤ count → count ≤ 1048576 → (behind : ℕ) → asked_by (record { fields = placed 1 (codes "back" ∷ decimal count ∷ []); behind = behind }) ≡ Ok (line.Command (commands.Back count))
unfolding asked_by placed field ended word_named command_named plain_command_named back
back_read count some few behind = rw (back_word, count_read count some few) refl

branch_read : (name : List ℕ) → IsNameAsked name → (behind : ℕ) → asked_by (record { fields = placed 1 (codes "branch" ∷ name ∷ []); behind = behind }) ≡ Ok (line.Command (commands.Branch name))
unfolding asked_by placed field ended word_named command_named branch only_name
branch_read name is behind = rw (branch_word, name_read name is) refl

follow_read : (name : List ℕ) → IsNameAsked name → (behind : ℕ) → asked_by (record { fields = placed 1 (codes "follow" ∷ name ∷ []); behind = behind }) ≡ Ok (line.Command (commands.Follow name))
unfolding asked_by placed field ended word_named command_named follow only_name
follow_read name is behind = rw (follow_word, name_read name is) refl

show_read : (behind : ℕ) → asked_by (record { fields = placed 1 (codes "show" ∷ []); behind = behind }) ≡ Ok (line.Command commands.Show)
unfolding asked_by placed field ended word_named command_named plain_command_named question_named show
show_read behind = rw show_word refl

holders_read : (koid : ℕ) → koid < 2 ^ 64 → (behind : ℕ) → asked_by (record { fields = placed 1 (codes "holders" ∷ decimal koid ∷ []); behind = behind }) ≡ Ok (line.Command (commands.Holders koid))
unfolding asked_by placed field ended word_named command_named plain_command_named question_named holders
holders_read koid small behind = rw (holders_word, key_read koid small) refl

leaks_read : (behind : ℕ) → asked_by (record { fields = placed 1 (codes "leaks" ∷ []); behind = behind }) ≡ Ok (line.Command commands.Leaks)
unfolding asked_by placed field ended word_named command_named plain_command_named question_named leaks
leaks_read behind = rw leaks_word refl

when_read : (what : Happening) (koid : ℕ) → koid < 2 ^ 64 → (behind : ℕ) → asked_by (record { fields = placed 1 (codes "when" ∷ happening_word what ∷ decimal koid ∷ []); behind = behind }) ≡ Ok (line.Command (commands.When what koid))
unfolding asked_by placed field ended word_named command_named plain_command_named question_named when
when_read what koid small behind = rw (when_word, happening_read what, key_read koid small) refl

pin_read : (behind : ℕ) → asked_by (record { fields = placed 1 (codes "pin" ∷ []); behind = behind }) ≡ Ok (line.Command commands.Pin)
unfolding asked_by placed field ended word_named command_named plain_command_named question_named pin
pin_read behind = rw pin_word refl

pinned_show_read : (behind : ℕ) → asked_by (record { fields = placed 1 (codes "pinned" ∷ codes "show" ∷ []); behind = behind }) ≡ Ok line.PinnedShow
unfolding asked_by placed field ended word_named pinned pinned_named pinned_show
pinned_show_read behind = rw pinned_word refl

pinned_holders_read : (koid : ℕ) → koid < 2 ^ 64 → (behind : ℕ) → asked_by (record { fields = placed 1 (codes "pinned" ∷ codes "holders" ∷ decimal koid ∷ []); behind = behind }) ≡ Ok (line.PinnedHolders koid)
unfolding asked_by placed field ended word_named pinned pinned_named pinned_holders
pinned_holders_read koid small behind = rw (pinned_word, key_read koid small) refl

pinned_leaks_read : (behind : ℕ) → asked_by (record { fields = placed 1 (codes "pinned" ∷ codes "leaks" ∷ []); behind = behind }) ≡ Ok line.PinnedLeaks
unfolding asked_by placed field ended word_named pinned pinned_named pinned_leaks
pinned_leaks_read behind = rw pinned_word refl

-- ---- all that a line can ask

seen_moment : (n : ℕ) → n < 2 ^ 32 → is_seen (decimal n) ≡ true
seen_moment n small = seen_decimal n (omega (arith, small))

pub words_read : (asked : Line) → IsAsked asked → read_as (words (line_words asked)) ≡ Ok (Some asked)
unfolding shown_call
words_read (line.Command (commands.Call process made)) (small, within) = call_line_read process made small within
words_read (line.Command (commands.Goto moment)) small =
    line_read (codes "goto") (decimal moment ∷ []) (line.Command (commands.Goto moment)) refl (number_few (codes "goto") moment (lit≤ tt) (omega (arith, small)))
    (refl, (seen_moment moment small, tt)) (goto_read moment small)
words_read (line.Command (commands.Back count)) (some, few) =
    line_read (codes "back") (decimal count ∷ []) (line.Command (commands.Back count)) refl (number_few (codes "back") count (lit≤ tt) (omega (arith, few)))
    (refl, (seen_decimal count (omega (arith, few)), tt)) (back_read count some few)
words_read (line.Command (commands.Branch name)) is =
    line_read (codes "branch") (name ∷ []) (line.Command (commands.Branch name)) refl (named_few (codes "branch") name (lit≤ tt) is.1)
    (refl, (seen_name name is, tt)) (branch_read name is)
words_read (line.Command (commands.Follow name)) is =
    line_read (codes "follow") (name ∷ []) (line.Command (commands.Follow name)) refl (named_few (codes "follow") name (lit≤ tt) is.1)
    (refl, (seen_name name is, tt)) (follow_read name is)
words_read (line.Command commands.Show) is = line_read (codes "show") [] (line.Command commands.Show) refl refl (refl, tt) show_read
words_read (line.Command (commands.Holders koid)) small =
    line_read (codes "holders") (decimal koid ∷ []) (line.Command (commands.Holders koid)) refl (number_few (codes "holders") koid (lit≤ tt) small)
    (refl, (seen_decimal koid small, tt)) (holders_read koid small)
words_read (line.Command commands.Leaks) is = line_read (codes "leaks") [] (line.Command commands.Leaks) refl refl (refl, tt) leaks_read
words_read (line.Command (commands.When what koid)) small =
    line_read (codes "when") (happening_word what ∷ decimal koid ∷ []) (line.Command (commands.When what koid)) refl
    (words_few (codes "when") (happening_word what) koid (lit≤ tt) (happening_few what) small)
    (refl, (seen_happening what, (seen_decimal koid small, tt))) (when_read what koid small)
words_read (line.Command commands.Pin) is = line_read (codes "pin") [] (line.Command commands.Pin) refl refl (refl, tt) pin_read
words_read line.PinnedShow is =
    line_read (codes "pinned") (codes "show" ∷ []) line.PinnedShow refl refl (refl, (refl, tt)) pinned_show_read
words_read (line.PinnedHolders koid) small =
    line_read (codes "pinned") (codes "holders" ∷ decimal koid ∷ []) (line.PinnedHolders koid) refl
    (words_few (codes "pinned") (codes "holders") koid (lit≤ tt) (lit≤ tt) small)
    (refl, (refl, (seen_decimal koid small, tt))) (pinned_holders_read koid small)
words_read line.PinnedLeaks is =
    line_read (codes "pinned") (codes "leaks" ∷ []) line.PinnedLeaks refl refl (refl, (refl, tt)) pinned_leaks_read
