-- A session text of version 2 that reads as a tree, without skipped lines, is the text that shows the tree: each line adds
-- to the tree what it shows.
use Rattle.std.proofs.Common.{lit<, ◌≡◌, ℕ, ◌+◌, Bool, true, false, List, [], ◌∷◌, ◌++◌, length, Option, Some, None, Result, Ok, Err, refl, sym, ap, ◌∙◌, subst, arith, append_assoc}
use Rattle.std.specs.Prelude.{◌==◌, ◌&&◌, not, nat_lt, codes, if◌then◌else◌}
use Rattle.std.specs.List.{list_all, flat_map}
use Rattle.std.specs.Fmt.{decimal}
use Rattle.std.specs.Str.{bytes_eq}
use Rattle.std.proofs.lemmas.Bool.{and_parts, not-true, eqb-true}
use Rattle.std.proofs.lemmas.Grind.{flat_map-append}
use Rattle.std.proofs.lemmas.List.{append-nil}
use Rattle.std.proofs.lemmas.List.Splits.{join_with_byte-slice_split}
use Rattle.std.proofs.lemmas.Slice.Eq.{bytes_eq-Decides}
use Rattle.zt_rows.specs.declared.refusals.Refusal.{Refusal}
use Rattle.zt_rows.specs.declared.refusals.Refusal.TheVariants.{BadLine, LineTooLong}
use Rattle.zt_rows.specs.declared.saved.Saved.{Saved}
use Rattle.zt_rows.specs.declared.saved.SavedCall.{SavedCall}
use Rattle.zt_rows.specs.declared.saved.SavedBranch.{SavedBranch}
use Rattle.zt_rows.specs.declared.saved.Cursor.{Cursor}
use Rattle.zt_rows.specs.declared.saved.Cursor.TheVariants.{Follows, At}
use Rattle.zt_text.specs.Numbers.{decimal_of}
use Rattle.zt_text.specs.Fields.{Placed, Unread, ◌>>=◌, unread, fields_of, first_of, next}
use Rattle.zt_text.specs.Lines.{lines_of}
use Rattle.zt_text.specs.ReadCalls.{process_call}
use Rattle.zt_text.specs.ReadLines.{most_line_bytes, is_skipped, fields_in, only_name}
use Rattle.zt_text.specs.ShownNumbers.{words}
use Rattle.zt_text.specs.Answers.{as_line}
use Rattle.zt_text.specs.Session.{fault_at, at_line}
use Rattle.zt_text.specs.SavedTexts.{saved_call_words, branch_words, place_words, cursor_words, saved_call_line, branch_line, cursor_lines, saved_text, saved_call, saved_branch, only, client_of, follows, at_moment, place_named, saved_cursor, bare, add_call, add_branch, add_cursor, takes_branches, takes_calls, next_client, with_call, with_branch, with_cursor, with_word, with_fields, with_any, with_line, with_lines, tree_lines, saved_of}
use Rattle.zt_text.specs.Spellings.{skips_nothing, is_whole}
use Rattle.zt_text.proofs.SpelledFields.{decimal_spelled}
use Rattle.zt_text.proofs.SpelledLines.{Form, Words, same_ok, err_ok, value_of, handle_form, name_form, texts, texts_placed, field_then, one_field, two_fields, named, process_call_spelled, only_name_spelled}
use Rattle.zt_text.proofs.SpelledSessions.{lines_joined}
use Rattle.zt_text.proofs.SavedLemmas.{of_tree}

-- ---- the words of each line

pub saved_call_spelled : (left : Unread) (made : SavedCall) → saved_call left ≡ Ok made → saved_call_words made ≡ codes "call" ∷ texts left.fields
unfolding saved_call
saved_call_spelled left made h =
    let parent = field_then {B = SavedCall} handle_form left (λ x. process_call x.1 >>= λ m. Ok (record { parent = x.0; process = m.0; call = m.1 })) made h in
    let behind = value_of {B = SavedCall} (process_call parent.1) (λ m. record { parent = parent.0; process = m.0; call = m.1 }) made parent.3 in
    sym (
    ap (λ ws. codes "call" ∷ ws) parent.2
    ∙ ap (λ ws. codes "call" ∷ decimal parent.0 ∷ ws) (process_call_spelled parent.1 behind.0 behind.1)
    ∙ ap saved_call_words behind.2
    )

pub saved_branch_spelled : (left : Unread) (made : SavedBranch) → saved_branch left ≡ Ok made → branch_words made ≡ codes "branch" ∷ texts left.fields
unfolding saved_branch
saved_branch_spelled left made h =
    two_fields branch_words (λ ws. codes "branch" ∷ ws) name_form handle_form (λ name head. record { name = name; head = head }) (λ a b. refl) left made h

follows_spelled : (left : Unread) (made : Cursor) → follows left ≡ Ok made → place_words made ≡ codes "follow" ∷ texts left.fields
unfolding follows
follows_spelled left made h =
    let t = value_of (only_name left) Follows made h in
    ap place_words (sym t.2) ∙ ap (λ ws. codes "follow" ∷ ws) (only_name_spelled left t.0 t.1)

at_moment_spelled : (left : Unread) (made : Cursor) → at_moment left ≡ Ok made → place_words made ≡ codes "at" ∷ texts left.fields
unfolding at_moment
at_moment_spelled left made h = one_field place_words (λ ws. codes "at" ∷ ws) handle_form At (λ a. refl) left made h

place_spelled : (word : Placed) (left : Unread) (made : Cursor) → place_named word left ≡ Ok made → place_words made ≡ word.bytes ∷ texts left.fields
unfolding place_named
place_spelled word left made =
    named (λ w. place_words made ≡ w ∷ texts left.fields) word.bytes (codes "follow") (follows left) _ made (follows_spelled left made)
    (named (λ w. place_words made ≡ w ∷ texts left.fields) word.bytes (codes "at") (at_moment left) (Err (BadLine word.column)) made (at_moment_spelled left made)
    (λ h. absurd (err_ok (BadLine word.column) made h)))

place_first : (fields : List Placed) (behind : ℕ) (made : Cursor) → (first_of fields behind >>= λ word. place_named word.0 word.1) ≡ Ok made → texts fields ≡ place_words made
place_first [] behind made h = absurd (err_ok (BadLine behind) made h)
place_first (x ∷ xs) behind made h = sym (place_spelled x (record { fields = xs; behind = behind }) made h)

-- the number of a client is that of the next one
only_wanted : (b : Bool) (client n value : ℕ) (word : List ℕ) → (n == client) ≡ b → word ≡ decimal n → (if b then Some n else None) ≡ Some value → word ≡ decimal client
only_wanted true client n value word same is h = is ∙ ap decimal (eqb-true n client same)
only_wanted false client n value word same is h = cc

client_in : (client value : ℕ) (word : List ℕ) (o : Option ℕ) → decimal_of 4 word ≡ o → only client o ≡ Some value → word ≡ decimal client
client_in client value word None is h = cc
client_in client value word (Some n) is h = only_wanted (n == client) client n value word refl (decimal_spelled 4 (lit< tt) word n is) h

abbrev client_form : ℕ → Form ℕ
client_form client = record { read = client_of client; shows = λ _. decimal client; spelled = λ word value h. client_in client value word (decimal_of 4 word) refl h }

pub saved_cursor_spelled : (client : ℕ) (left : Unread) (made : Cursor) → saved_cursor client left ≡ Ok made → cursor_words client made ≡ codes "cursor" ∷ texts left.fields
unfolding saved_cursor
saved_cursor_spelled client left made h =
    let number = field_then {B = Cursor} (client_form client) left (λ x. next x.1 >>= λ w. place_named w.0 w.1) made h in
    sym (
    ap (λ ws. codes "cursor" ∷ ws) number.2
    ∙ ap (λ ws. codes "cursor" ∷ decimal client ∷ ws) (place_first number.1.fields number.1.behind made number.3)
    )

-- ---- what the lines so far show

-- the lines of the moments, the branches and the cursors
abbrev shown : Saved → List ℕ
shown tree = flat_map saved_call_line tree.moments ++ (flat_map branch_line tree.branches ++ cursor_lines 1 tree.cursors)

-- the line of these words is behind those of the tree
abbrev Grows : Saved → Words → Saved → Type 0
Grows tree line more = shown tree ++ as_line (words line) ≡ shown more

none_there : {A : Type 0} (xs : List A) → (length xs == 0) ≡ true → xs ≡ []
none_there [] h = refl
none_there (x ∷ xs) h = let e : length (x ∷ xs) ≡ 0 = eqb-true (length (x ∷ xs)) 0 h in absurd (omega arith)

call_grows : (moments : List SavedCall) (branches : List SavedBranch) (cursors : List Cursor) (made : SavedCall) → branches ≡ [] → cursors ≡ []
    → Grows (record { moments = moments; branches = branches; cursors = cursors }) (saved_call_words made) (record { moments = moments ++ (made ∷ []); branches = branches; cursors = cursors })
call_grows moments [] [] made bared emptied =
    let line : List ℕ = saved_call_line made in
    ap (λ bytes. bytes ++ line) (append-nil (flat_map saved_call_line moments))
    ∙ ap (λ bytes. flat_map saved_call_line moments ++ bytes) (sym (append-nil line))
    ∙ sym (flat_map-append saved_call_line moments (made ∷ []))
    ∙ sym (append-nil (flat_map saved_call_line (moments ++ (made ∷ []))))
call_grows moments [] (c ∷ cs) made bared emptied = cc
call_grows moments (b ∷ bs) cursors made bared emptied = cc

branch_grows : (moments : List SavedCall) (branches : List SavedBranch) (cursors : List Cursor) (made : SavedBranch) → cursors ≡ []
    → Grows (record { moments = moments; branches = branches; cursors = cursors }) (branch_words made) (record { moments = moments; branches = branches ++ (made ∷ []); cursors = cursors })
branch_grows moments branches [] made none =
    let line : List ℕ = branch_line made in
    let calls : List ℕ = flat_map saved_call_line moments in
    append_assoc calls (flat_map branch_line branches ++ []) line
    ∙ ap (λ bytes. calls ++ (bytes ++ line)) (append-nil (flat_map branch_line branches))
    ∙ ap (λ bytes. calls ++ (flat_map branch_line branches ++ bytes)) (sym (append-nil line))
    ∙ ap (λ bytes. calls ++ bytes) (sym (flat_map-append branch_line branches (made ∷ [])))
    ∙ ap (λ bytes. calls ++ bytes) (sym (append-nil (flat_map branch_line (branches ++ (made ∷ [])))))
branch_grows moments branches (c ∷ cs) made none = cc

cursor_more : (client : ℕ) (cursors : List Cursor) (made : Cursor)
    → cursor_lines client cursors ++ as_line (words (cursor_words (client + length cursors) made)) ≡ cursor_lines client (cursors ++ (made ∷ []))
cursor_more client [] made =
    let number : client + 0 ≡ client = omega arith in
    ap (λ (n : ℕ). as_line (words (cursor_words n made))) number ∙ sym (append-nil (as_line (words (cursor_words client made))))
cursor_more client (first ∷ cursors) made =
    let line : List ℕ = as_line (words (cursor_words client first)) in
    let number : client + length (first ∷ cursors) ≡ client + 1 + length cursors = omega arith in
    append_assoc line (cursor_lines (client + 1) cursors) (as_line (words (cursor_words (client + length (first ∷ cursors)) made)))
    ∙ ap (λ (n : ℕ). line ++ (cursor_lines (client + 1) cursors ++ as_line (words (cursor_words n made)))) number
    ∙ ap (λ bytes. line ++ bytes) (cursor_more (client + 1) cursors made)

cursor_grows : (tree : Saved) (made : Cursor) → Grows tree (cursor_words (next_client tree) made) (add_cursor tree made)
cursor_grows tree made =
    let calls : List ℕ = flat_map saved_call_line tree.moments in
    let heads : List ℕ = flat_map branch_line tree.branches in
    let number : next_client tree ≡ 1 + length tree.cursors = omega arith in
    append_assoc calls (heads ++ cursor_lines 1 tree.cursors) (as_line (words (cursor_words (next_client tree) made)))
    ∙ ap (λ bytes. calls ++ bytes) (append_assoc heads (cursor_lines 1 tree.cursors) (as_line (words (cursor_words (next_client tree) made))))
    ∙ ap (λ (n : ℕ). calls ++ (heads ++ (cursor_lines 1 tree.cursors ++ as_line (words (cursor_words n made))))) number
    ∙ ap (λ bytes. calls ++ (heads ++ bytes)) (cursor_more 1 tree.cursors made)

-- ---- one line

with_call_spelled : (tree : Saved) (left : Unread) (more : Saved) → takes_calls tree ≡ true → with_call tree left ≡ Ok more → Grows tree (codes "call" ∷ texts left.fields) more
unfolding with_call
with_call_spelled tree left more takes h =
    let t = value_of (saved_call left) (add_call tree) more h in
    let parts = and_parts (length tree.branches == 0) (length tree.cursors == 0) takes in
    ap (λ ws. shown tree ++ as_line (words ws)) (sym (saved_call_spelled left t.0 t.1))
    ∙ call_grows tree.moments tree.branches tree.cursors t.0 (none_there tree.branches parts.0) (none_there tree.cursors parts.1)
    ∙ ap shown t.2

with_branch_spelled : (tree : Saved) (left : Unread) (more : Saved) → takes_branches tree ≡ true → with_branch tree left ≡ Ok more → Grows tree (codes "branch" ∷ texts left.fields) more
unfolding with_branch
with_branch_spelled tree left more takes h =
    let t = value_of (saved_branch left) (add_branch tree) more h in
    ap (λ ws. shown tree ++ as_line (words ws)) (sym (saved_branch_spelled left t.0 t.1))
    ∙ branch_grows tree.moments tree.branches tree.cursors t.0 (none_there tree.cursors takes)
    ∙ ap shown t.2

with_cursor_spelled : (tree : Saved) (left : Unread) (more : Saved) → with_cursor tree left ≡ Ok more → Grows tree (codes "cursor" ∷ texts left.fields) more
unfolding with_cursor
with_cursor_spelled tree left more h =
    let t = value_of (saved_cursor (next_client tree) left) (add_cursor tree) more h in
    ap (λ ws. shown tree ++ as_line (words ws)) (sym (saved_cursor_spelled (next_client tree) left t.0 t.1))
    ∙ cursor_grows tree t.0 ∙ ap shown t.2

-- what a name tells that has its place
pub placed_if : {T : Type 0} (Spells : List ℕ → Type 0) (b taken : Bool) (word name : List ℕ) (x y : Result T Refusal) (made : T) → bytes_eq word name ≡ b
    → (taken ≡ true → x ≡ Ok made → Spells name) → (y ≡ Ok made → Spells word) → (if b && taken then x else y) ≡ Ok made → Spells word
placed_if Spells true true word name x y made is this other h = subst Spells (sym ((bytes_eq-Decides word name).0 is)) (this refl h)
placed_if Spells true false word name x y made is this other h = other h
placed_if Spells false taken word name x y made is this other h = other h

with_word_spelled : (tree : Saved) (word : Placed) (left : Unread) (more : Saved) → with_word tree word left ≡ Ok more → Grows tree (word.bytes ∷ texts left.fields) more
unfolding with_word
with_word_spelled tree word left more =
    placed_if (λ w. Grows tree (w ∷ texts left.fields) more) (bytes_eq word.bytes (codes "call")) (takes_calls tree) word.bytes (codes "call") (with_call tree left) _ more refl
    (with_call_spelled tree left more)
    (placed_if (λ w. Grows tree (w ∷ texts left.fields) more) (bytes_eq word.bytes (codes "branch")) (takes_branches tree) word.bytes (codes "branch") (with_branch tree left) _ more refl
    (with_branch_spelled tree left more)
    (named (λ w. Grows tree (w ∷ texts left.fields) more) word.bytes (codes "cursor") (with_cursor tree left) (Err (BadLine word.column)) more (with_cursor_spelled tree left more)
    (λ h. absurd (err_ok (BadLine word.column) more h))))

with_first : (tree : Saved) (fields : List Placed) (behind : ℕ) (more : Saved) → (first_of fields behind >>= λ word. with_word tree word.0 word.1) ≡ Ok more → Grows tree (texts fields) more
with_first tree [] behind more h = absurd (err_ok (BadLine behind) more h)
with_first tree (x ∷ xs) behind more h = with_word_spelled tree x (record { fields = xs; behind = behind }) more h

with_fields_spelled : (tree : Saved) (left : Unread) (more : Saved) → with_fields tree left ≡ Ok more → Grows tree (texts left.fields) more
unfolding with_fields
with_fields_spelled tree left more h = with_first tree left.fields left.behind more h

pub read_if : (long skipped : Bool) (tree : Saved) (left : Unread) (more : Saved) → skipped ≡ false
    → ((if long then Err LineTooLong else (if skipped then Ok None else Ok (Some left))) >>= λ o. with_any tree o) ≡ Ok more → with_fields tree left ≡ Ok more
read_if true skipped tree left more kept h = absurd (err_ok LineTooLong more h)
read_if false true tree left more kept h = cc
read_if false false tree left more kept h = h

with_line_spelled : (tree : Saved) (text : List ℕ) (more : Saved) → not (is_skipped text) ≡ true → with_line tree text ≡ Ok more → shown tree ++ as_line text ≡ shown more
unfolding with_line fields_in
with_line_spelled tree text more kept h =
    let read = read_if (nat_lt most_line_bytes (length text)) (is_skipped text) tree (unread text) more (not-true (is_skipped text) kept) h in
    let same : words (texts (unread text).fields) ≡ text = ap words (texts_placed 1 (fields_of text)) ∙ join_with_byte-slice_split 32 text in
    ap (λ bytes. shown tree ++ as_line bytes) (sym same) ∙ with_fields_spelled tree (unread text) more read

-- ---- lines in turn

pub line_then : (number : ℕ) (r : Result Saved Refusal) (others : Saved → Result Saved (ℕ × Refusal)) (whole : Saved)
    → (at_line number r >>= others) ≡ Ok whole → (more : Saved) × (r ≡ Ok more) × (others more ≡ Ok whole)
line_then number (Ok more) others whole h = (more, refl, h)
line_then number (Err reason) others whole h = absurd (err_ok (fault_at number reason) whole h)

with_lines_spelled : (tree : Saved) (number : ℕ) (lines : List (List ℕ)) (whole : Saved) → with_lines tree number lines ≡ Ok whole
    → list_all (λ bytes. not (is_skipped bytes)) lines ≡ true → shown tree ++ flat_map as_line lines ≡ shown whole
unfolding with_lines
with_lines_spelled tree number [] whole h kept = append-nil (shown tree) ∙ ap shown (same_ok tree whole (Ok tree) refl h)
with_lines_spelled tree number (text ∷ lines) whole h kept =
    let parts = and_parts (not (is_skipped text)) (list_all (λ bytes. not (is_skipped bytes)) lines) kept in
    let read = line_then number (with_line tree text) (λ more. with_lines more (number + 1) lines) whole h in
    sym (append_assoc (shown tree) (as_line text) (flat_map as_line lines))
    ∙ ap (λ bytes. bytes ++ flat_map as_line lines) (with_line_spelled tree text read.0 parts.0 read.1)
    ∙ with_lines_spelled read.0 (number + 1) lines whole read.2 parts.1

pub saved_spelled : (text : List ℕ) (lines : List (List ℕ)) (saved : Saved) → lines_of text ≡ codes "zxtt 2" ∷ lines → saved_of text ≡ Ok saved
    → skips_nothing text ≡ true → is_whole text ≡ true → text ≡ saved_text saved
unfolding saved_text
saved_spelled text lines saved first h kept ends =
    let read : with_lines bare 2 lines ≡ Ok saved = sym (of_tree text lines (ap tree_lines first)) ∙ h in
    let all : list_all (λ bytes. not (is_skipped bytes)) lines ≡ true = sym (ap (list_all (λ bytes. not (is_skipped bytes))) first) ∙ kept in
    sym (lines_joined text ends) ∙ ap (flat_map as_line) first
    ∙ ap (λ bytes. as_line (codes "zxtt 2") ++ bytes) (with_lines_spelled bare 2 lines saved read all)
