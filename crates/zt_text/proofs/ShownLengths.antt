-- The line of a call is not too long.
use Rattle.std.proofs.Common.{lit<, lit≤, ◌≡◌, ℕ, suc, ◌+◌, ◌*◌, ◌^◌, ◌<◌, ◌≤◌, Bool, true, false, List, [], ◌∷◌, length, map, ℤ, pos, negsuc, arith, All, length-append}
use Rattle.std.specs.Prelude.{nat_lt, codes}
use Rattle.std.specs.List.{join_with_byte}
use Rattle.std.specs.Fmt.{decimal, signed_decimal}
use Rattle.std.proofs.lemmas.Bool.Decides.{nat_tests}
use Rattle.std.proofs.lemmas.Fmt.{length-decimal-le}
use Rattle.std.proofs.lemmas.List.Elements.{All-head, All-tail}
use Rattle.zt_rows.specs.declared.calls.Call.{Call}
use Rattle.zt_rows.specs.declared.calls.Call.TheVariants as calls
use Rattle.zt_text.specs.ShownNumbers.{words, shown_mask, shown_bytes, shown_list}
use Rattle.zt_text.specs.Calls.{IsByte, IsHandle, IsCode, IsWithin, call_name, flag_words, call_arguments}
use Rattle.zt_text.proofs.ShownFields.{mask_length, digits_of}

-- a place for each byte of the words, and one behind each word
abbrev room : List (List ℕ) → ℕ
room [] = 0
room (word ∷ others) = length word + (1 + room others)

joined_few : (c : ℕ) (fields : List (List ℕ)) → length (join_with_byte c fields) ≤ room fields
joined_few c [] = lit≤ tt
joined_few c (word ∷ []) = omega arith
joined_few c (word ∷ next ∷ others) =
    let rest = joined_few c (next ∷ others) in
    let whole = length-append word (c ∷ join_with_byte c (next ∷ others)) in
    omega (arith, rest, whole)

handle_few : (n : ℕ) → n < 2 ^ 32 → length (decimal n) ≤ 10
handle_few n small = length-decimal-le 10 n (lit< tt) (omega (arith, small)) (omega (arith, small))

key_few : (n : ℕ) → n < 2 ^ 64 → length (decimal n) ≤ 20
key_few n small = length-decimal-le 20 n (lit< tt) (omega (arith, small)) small

code_few : (z : ℤ) → IsCode z → length (signed_decimal z) ≤ 21
code_few (pos n) small = let few = key_few n (omega arith) in omega (arith, few)
code_few (negsuc n) small = let few = key_few (suc n) (omega arith) in omega (arith, few)

mask_few : (n : ℕ) → n < 2 ^ 32 → length (shown_mask n) ≤ 10
mask_few n small = let eight = mask_length n small in omega (arith, eight)

bytes_few : (bytes : List ℕ) → All IsByte bytes → length (shown_bytes bytes) ≤ 2 * length bytes + 1
bytes_few [] are = lit≤ tt
bytes_few (byte ∷ bytes) are = let twice = (digits_of (byte ∷ bytes) are).twice in omega (arith, twice)

each_few : (handles : List ℕ) → All IsHandle handles → room (map decimal handles) ≤ 11 * length handles
each_few [] are = lit≤ tt
each_few (h ∷ hs) are =
    let here = handle_few h (All-head IsHandle h hs are) in
    let rest = each_few hs (All-tail IsHandle h hs are) in
    omega (arith, here, rest)

handles_few : (handles : List ℕ) → All IsHandle handles → length (shown_list decimal handles) ≤ 11 * length handles + 1
handles_few [] are = lit≤ tt
handles_few (h ∷ hs) are =
    let whole = joined_few 44 (map decimal (h ∷ hs)) in
    let each = each_few (h ∷ hs) are in
    omega (arith, whole, each)

name_few : (made : Call) → length (call_name made) ≤ 18
name_few calls.EventCreate = lit≤ tt
name_few calls.EventPairCreate = lit≤ tt
name_few (calls.HandleClose _) = lit≤ tt
name_few (calls.HandleDuplicate _ _) = lit≤ tt
name_few (calls.HandleReplace _ _) = lit≤ tt
name_few (calls.ObjectSignal _ _ _) = lit≤ tt
name_few (calls.ObjectSignalPeer _ _ _) = lit≤ tt
name_few calls.ChannelCreate = lit≤ tt
name_few (calls.ChannelWrite _ _) = lit≤ tt
name_few (calls.ChannelRead _ _ _ _) = lit≤ tt
name_few calls.PortCreate = lit≤ tt
name_few (calls.ObjectWaitAsync _ _ _ _ _) = lit≤ tt
name_few (calls.PortQueue _ _ _) = lit≤ tt
name_few (calls.PortWait _) = lit≤ tt
name_few (calls.PortCancel _ _ _) = lit≤ tt
name_few (calls.JobCreate _) = lit≤ tt
name_few (calls.Spawn _ _) = lit≤ tt
name_few (calls.JobSetCritical _ _) = lit≤ tt
name_few (calls.TaskKill _) = lit≤ tt
name_few (calls.ProcessExit _) = lit≤ tt

one : (a : List ℕ) → length a ≤ 21 → room (a ∷ []) ≤ 139000
one a p = omega (arith, p)

two : (a b : List ℕ) → length a ≤ 10 → length b ≤ 10 → room (a ∷ b ∷ []) ≤ 139000
two a b p q = omega (arith, p, q)

three : (a b c : List ℕ) → length a ≤ 10 → length b ≤ 20 → length c ≤ 132000 → room (a ∷ b ∷ c ∷ []) ≤ 139000
three a b c p q r = omega (arith, p, q, r)

-- a word that may stand at the end takes a place for each of its bytes, and one more
flag_few : (word : List ℕ) (stands : Bool) → length word ≤ 7 → room (flag_words word stands) ≤ 8
flag_few word true few = omega (arith, few)
flag_few word false few = lit≤ tt

arguments_few : (made : Call) → IsWithin made → room (call_arguments made) ≤ 139000
arguments_few calls.EventCreate h = lit≤ tt
arguments_few calls.EventPairCreate h = lit≤ tt
arguments_few (calls.HandleClose handle) h = let a = handle_few handle h in one (decimal handle) (omega (arith, a))
arguments_few (calls.HandleDuplicate handle rights) (a, b) = two (decimal handle) (shown_mask rights) (handle_few handle a) (mask_few rights b)
arguments_few (calls.HandleReplace handle rights) (a, b) = two (decimal handle) (shown_mask rights) (handle_few handle a) (mask_few rights b)
arguments_few (calls.ObjectSignal handle clear set) (a, b, c) =
    let p = mask_few clear.0 b in let q = mask_few set.0 c in
    three (decimal handle) (shown_mask clear.0) (shown_mask set.0) (handle_few handle a) (omega (arith, p)) (omega (arith, q))
arguments_few (calls.ObjectSignalPeer handle clear set) (a, b, c) =
    let p = mask_few clear.0 b in let q = mask_few set.0 c in
    three (decimal handle) (shown_mask clear.0) (shown_mask set.0) (handle_few handle a) (omega (arith, p)) (omega (arith, q))
arguments_few calls.ChannelCreate h = lit≤ tt
arguments_few (calls.ChannelWrite handle parcel) (a, b, few, c, short) =
    let p = handle_few handle a in
    let q = bytes_few parcel.bytes b in
    let r = handles_few parcel.handles c in
    write (decimal handle) (shown_bytes parcel.bytes) (shown_list decimal parcel.handles) (omega (arith, p)) (omega (arith, q, few)) (omega (arith, r, short))
  where
    write : (a b c : List ℕ) → length a ≤ 10 → length b ≤ 132000 → length c ≤ 1000 → room (a ∷ b ∷ c ∷ []) ≤ 139000
    write a b c p q r = omega (arith, p, q, r)
arguments_few (calls.ChannelRead handle bytes handles discard) (a, b, c) =
    read_words (decimal handle) (decimal bytes) (decimal handles) (flag_words (codes "discard") discard)
    (handle_few handle a) (handle_few bytes b) (handle_few handles c) (flag_few (codes "discard") discard (lit≤ tt))
  where
    read_words : (a b c : List ℕ) (last : List (List ℕ)) → length a ≤ 10 → length b ≤ 10 → length c ≤ 10 → room last ≤ 8 → room (a ∷ b ∷ c ∷ last) ≤ 139000
    read_words a b c last p q r s = omega (arith, p, q, r, s)
arguments_few calls.PortCreate h = lit≤ tt
arguments_few (calls.ObjectWaitAsync handle port key signals edge) (a, b, c, d) =
    wait_words (decimal handle) (decimal port) (decimal key) (shown_mask signals.0) (flag_words (codes "edge") edge)
    (handle_few handle a) (handle_few port b) (key_few key c) (mask_few signals.0 d) (flag_few (codes "edge") edge (lit≤ tt))
  where
    wait_words : (a b c d : List ℕ) (last : List (List ℕ)) → length a ≤ 10 → length b ≤ 10 → length c ≤ 20 → length d ≤ 10 → room last ≤ 8 → room (a ∷ b ∷ c ∷ d ∷ last) ≤ 139000
    wait_words a b c d last p q r s t = omega (arith, p, q, r, s, t)
arguments_few (calls.PortQueue port key bytes) (a, b, c, whole) =
    let q = bytes_few bytes c in
    three (decimal port) (decimal key) (shown_bytes bytes) (handle_few port a) (key_few key b) (omega (arith, q, whole))
arguments_few (calls.PortWait port) h = let a = handle_few port h in one (decimal port) (omega (arith, a))
arguments_few (calls.PortCancel port source key) (a, b, c) =
    let q = handle_few source b in let r = key_few key c in
    three (decimal port) (decimal source) (decimal key) (handle_few port a) (omega (arith, q)) (omega (arith, r))
arguments_few (calls.JobCreate job) h = let a = handle_few job h in one (decimal job) (omega (arith, a))
arguments_few (calls.Spawn job argument) (a, b) = two (decimal job) (decimal argument) (handle_few job a) (handle_few argument b)
arguments_few (calls.JobSetCritical job process) (a, b) = two (decimal job) (decimal process) (handle_few job a) (handle_few process b)
arguments_few (calls.TaskKill handle) h = let a = handle_few handle h in one (decimal handle) (omega (arith, a))
arguments_few (calls.ProcessExit code) h = one (signed_decimal code) (code_few code h)

-- the line of a call has no more bytes than a line may have
pub call_line_few : (process : ℕ) (made : Call) → process < 2 ^ 64 → IsWithin made → nat_lt 140000 (length (words (decimal process ∷ call_name made ∷ call_arguments made))) ≡ false
call_line_few process made small within =
    let first = key_few process small in
    let name = name_few made in
    let rest = arguments_few made within in
    let whole = joined_few 32 (decimal process ∷ call_name made ∷ call_arguments made) in
    grind (arith, nat_tests, first, name, rest, whole)

-- ---- the lines of a saved tree

-- no separator stands behind the last word
joined_fewer : (c : ℕ) (word : List ℕ) (others : List (List ℕ)) → length (join_with_byte c (word ∷ others)) + 1 ≤ room (word ∷ others)
joined_fewer c word [] = omega arith
joined_fewer c word (next ∷ others) =
    let rest = joined_fewer c next others in
    let whole = length-append word (c ∷ join_with_byte c (next ∷ others)) in
    omega (arith, rest, whole)

pub saved_call_few : (parent process : ℕ) (made : Call) → parent < 2 ^ 32 → process < 2 ^ 64 → IsWithin made
    → nat_lt 140000 (length (words (codes "call" ∷ decimal parent ∷ decimal process ∷ call_name made ∷ call_arguments made))) ≡ false
saved_call_few parent process made low small within =
    let first = handle_few parent low in
    let second = key_few process small in
    let name = name_few made in
    let rest = arguments_few made within in
    let whole = joined_few 32 (codes "call" ∷ decimal parent ∷ decimal process ∷ call_name made ∷ call_arguments made) in
    grind (arith, nat_tests, first, second, name, rest, whole)

pub branch_few : (name : List ℕ) (head : ℕ) → length name ≤ 139982 → head < 2 ^ 32 → nat_lt 140000 (length (words (codes "branch" ∷ name ∷ decimal head ∷ []))) ≡ false
branch_few name head short low =
    let last = handle_few head low in
    let whole = joined_fewer 32 (codes "branch") (name ∷ decimal head ∷ []) in
    grind (arith, nat_tests, short, last, whole)

client_few : (client : ℕ) → client ≤ 4 → length (decimal client) ≤ 1
client_few client few = length-decimal-le 1 client (lit< tt) (omega (arith, few)) (omega (arith, few))

pub follow_few : (client : ℕ) (name : List ℕ) → client ≤ 4 → length name ≤ 139982 → nat_lt 140000 (length (words (codes "cursor" ∷ decimal client ∷ codes "follow" ∷ name ∷ []))) ≡ false
follow_few client name few short =
    let number = client_few client few in
    let whole = joined_fewer 32 (codes "cursor") (decimal client ∷ codes "follow" ∷ name ∷ []) in
    grind (arith, nat_tests, short, number, whole)

pub at_few : (client moment : ℕ) → client ≤ 4 → moment < 2 ^ 32 → nat_lt 140000 (length (words (codes "cursor" ∷ decimal client ∷ codes "at" ∷ decimal moment ∷ []))) ≡ false
at_few client moment few low =
    let number = client_few client few in
    let last = handle_few moment low in
    let whole = joined_fewer 32 (codes "cursor") (decimal client ∷ codes "at" ∷ decimal moment ∷ []) in
    grind (arith, nat_tests, last, number, whole)

-- ---- the lines of commands, and of questions to the pinned copy

pub number_few : (word : List ℕ) (n : ℕ) → length word ≤ 20 → n < 2 ^ 64 → nat_lt 140000 (length (words (word ∷ decimal n ∷ []))) ≡ false
number_few word n few small =
    let last = key_few n small in
    let whole = joined_few 32 (word ∷ decimal n ∷ []) in
    grind (arith, nat_tests, few, last, whole)

pub words_few : (word next : List ℕ) (n : ℕ) → length word ≤ 20 → length next ≤ 20 → n < 2 ^ 64 → nat_lt 140000 (length (words (word ∷ next ∷ decimal n ∷ []))) ≡ false
words_few word next n few less small =
    let last = key_few n small in
    let whole = joined_few 32 (word ∷ next ∷ decimal n ∷ []) in
    grind (arith, nat_tests, few, less, last, whole)

pub named_few : (word name : List ℕ) → length word ≤ 6 → length name ≤ 139993 → nat_lt 140000 (length (words (word ∷ name ∷ []))) ≡ false
named_few word name few short =
    let whole = joined_fewer 32 word (name ∷ []) in
    grind (arith, nat_tests, few, short, whole)
