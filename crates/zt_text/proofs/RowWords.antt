-- The words of a row's line: the words that its key and the row show, in turn, each of visible bytes.
use Rattle.std.proofs.Common.{◌≡◌, ℕ, ◌^◌, ◌<◌, Bool, true, false, List, [], ◌∷◌, ◌++◌, map, refl, sym, ap, ◌∙◌, arith, All, append-nil, append_assoc}
use Rattle.std.specs.Prelude.{codes, nat_lt, ◌==◌, if◌then◌else◌}
use Rattle.std.specs.Fmt.{decimal}
use Rattle.std.proofs.lemmas.List.Elements.{All-head, All-tail}
use Rattle.std.proofs.lemmas.List.Folds.{list_all-append}
use Rattle.zt_bits.specs.declared.kinds.Kind.{Kind}
use Rattle.zt_bits.specs.declared.kinds.Kind.TheVariants as kind
use Rattle.zt_bits.specs.Words.{kind_word}
use Rattle.zt_rows.specs.declared.keys.RowKey.{RowKey}
use Rattle.zt_rows.specs.declared.keys.RowKey.TheVariants as key
use Rattle.zt_rows.specs.declared.rows.Held.{Held}
use Rattle.zt_rows.specs.declared.rows.Life.{Life}
use Rattle.zt_rows.specs.declared.rows.Life.TheVariants as life
use Rattle.zt_rows.specs.declared.rows.Packet.{Packet}
use Rattle.zt_rows.specs.declared.rows.Packet.TheVariants as packet
use Rattle.zt_rows.specs.declared.rows.Row.{Row}
use Rattle.zt_rows.specs.declared.rows.Row.TheVariants as rows
use Rattle.zt_text.specs.ShownNumbers.{words, shown_mask, shown_bytes, shown_list, shown_held}
use Rattle.zt_text.specs.Answers.{shown_packet, shown_key, shown_life, shown_critical, shown_object, shown_wait, shown_queued, shown_row}
use Rattle.zt_text.specs.Calls.{flag_words}
use Rattle.zt_text.specs.Rows.{IsKeyWithin, IsHeldWithin, IsLifeWithin, IsPacketWithin, IsRowWithin}
use Rattle.zt_text.proofs.ShownWords.{is_seen, AreSeen, seen_decimal, seen_code, seen_mask, seen_bytes, seen_joined, seen_flag}

-- the first word of a key, and its numbers
abbrev pub key_word : RowKey → List ℕ
key_word key.Counters = codes "counters"
key_word (key.Object _) = codes "object"
key_word (key.Entry _ _) = codes "entry"
key_word (key.Msg _ _) = codes "msg"
key_word (key.Packet _ _) = codes "packet"
key_word (key.Wait _) = codes "wait"

abbrev pub key_numbers : RowKey → List (List ℕ)
key_numbers key.Counters = []
key_numbers (key.Object koid) = decimal koid ∷ []
key_numbers (key.Entry process handle) = decimal process ∷ decimal handle ∷ []
key_numbers (key.Msg endpoint number) = decimal endpoint ∷ decimal number ∷ []
key_numbers (key.Packet port number) = decimal port ∷ decimal number ∷ []
key_numbers (key.Wait number) = decimal number ∷ []

-- the first word of a packet that waits, and the others
abbrev packet_word : Packet → List ℕ
packet_word (packet.User _ _) = codes "user"
packet_word (packet.Signal _ _ _ _ _) = codes "signal"

abbrev packet_words : Packet → List (List ℕ)
packet_words (packet.User number bytes) = decimal number ∷ shown_bytes bytes ∷ []
packet_words (packet.Signal number trigger observed process handle) =
    decimal number ∷ shown_mask trigger.0 ∷ shown_mask observed.0 ∷ decimal process ∷ decimal handle ∷ []

-- the word of the job to which an object is critical, where there is one
abbrev pub critical_words : ℕ → List (List ℕ)
critical_words job = if job == 0 then [] else (codes "critical:" ++ decimal job) ∷ []

-- the first word of a row, and the others
abbrev pub row_word : Row → List ℕ
row_word (rows.Counters counters) = decimal counters.next_koid
row_word (rows.Object object) = kind_word object.kind
row_word (rows.Entry held) = decimal held.koid
row_word (rows.Msg message) = shown_bytes message.bytes
row_word (rows.Packet held) = packet_word held
row_word (rows.Wait wait) = decimal wait.process

abbrev pub row_words : Row → List (List ℕ)
row_words (rows.Counters counters) = decimal counters.next_wait ∷ []
row_words (rows.Object object) =
    shown_mask object.signals.0 ∷ decimal object.link ∷ shown_life object.life ∷ decimal object.next ∷ critical_words object.critical
row_words (rows.Entry held) = shown_mask held.rights.0 ∷ []
row_words (rows.Msg message) = shown_list shown_held message.handles ∷ []
row_words (rows.Packet held) = packet_words held
row_words (rows.Wait wait) =
    decimal wait.handle ∷ decimal wait.port ∷ decimal wait.key ∷ shown_mask wait.signals.0 ∷ flag_words (codes "edge") wait.edge

-- all words of a row's line
abbrev pub line_words : RowKey → Row → List (List ℕ)
line_words k r = key_word k ∷ (key_numbers k ++ (row_word r ∷ row_words r))

-- ---- the line is these words with a space between

words_joined : (word : List ℕ) (others : List (List ℕ)) (next : List ℕ) (more : List (List ℕ))
    → words (word ∷ others) ++ (32 ∷ words (next ∷ more)) ≡ words (word ∷ (others ++ (next ∷ more)))
words_joined word [] next more = refl
words_joined word (other ∷ others) next more =
    append_assoc word (32 ∷ words (other ∷ others)) (32 ∷ words (next ∷ more))
    ∙ ap (λ text. word ++ (32 ∷ text)) (words_joined other others next more)

key_shown : (k : RowKey) → shown_key k ≡ words (key_word k ∷ key_numbers k)
unfolding shown_key
key_shown key.Counters = refl
key_shown (key.Object _) = refl
key_shown (key.Entry _ _) = refl
key_shown (key.Msg _ _) = refl
key_shown (key.Packet _ _) = refl
key_shown (key.Wait _) = refl

packet_shown : (held : Packet) → shown_queued held ≡ words (packet_word held ∷ packet_words held)
unfolding shown_packet shown_queued
packet_shown (packet.User _ _) = refl
packet_shown (packet.Signal number trigger observed process handle) =
    words_joined (codes "signal") (decimal number ∷ shown_mask trigger.0 ∷ shown_mask observed.0 ∷ []) (decimal process) (decimal handle ∷ [])

critical_shown : (word : List ℕ) (others : List (List ℕ)) (job : ℕ) (none : Bool) → (job == 0) ≡ none
    → words (word ∷ others) ++ shown_critical job ≡ words (word ∷ (others ++ critical_words job))
critical_shown word others job true is =
    rw is (append-nil (words (word ∷ others)) ∙ ap (λ ws. words (word ∷ ws)) (sym (append-nil others)))
critical_shown word others job false is = rw is (words_joined word others (codes "critical:" ++ decimal job) [])

row_shown : (r : Row) → shown_row r ≡ words (row_word r ∷ row_words r)
unfolding shown_object shown_wait shown_row
row_shown (rows.Counters _) = refl
row_shown (rows.Object object) =
    critical_shown (kind_word object.kind) (shown_mask object.signals.0 ∷ decimal object.link ∷ shown_life object.life ∷ decimal object.next ∷ [])
    object.critical (object.critical == 0) refl
row_shown (rows.Entry _) = refl
row_shown (rows.Msg _) = refl
row_shown (rows.Packet held) = packet_shown held
row_shown (rows.Wait _) = refl

pub line_shown : (k : RowKey) (r : Row) → words (shown_key k ∷ shown_row r ∷ []) ≡ words (line_words k r)
line_shown k r =
    ap (λ text. text ++ (32 ∷ shown_row r)) (key_shown k)
    ∙ ap (λ text. words (key_word k ∷ key_numbers k) ++ (32 ∷ text)) (row_shown r)
    ∙ words_joined (key_word k) (key_numbers k) (row_word r) (row_words r)

-- ---- each word is of visible bytes

seen_in_turn : (some others : List (List ℕ)) → AreSeen some → AreSeen others → AreSeen (some ++ others)
seen_in_turn [] others none rest = rest
seen_in_turn (word ∷ some) others (here, more) rest = (here, seen_in_turn some others more rest)

seen_handle : (n : ℕ) → n < 2 ^ 32 → is_seen (decimal n) ≡ true
seen_handle n small = seen_decimal n (omega (arith, small))

key_seen : (k : RowKey) → IsKeyWithin k → AreSeen (key_word k ∷ key_numbers k)
key_seen key.Counters h = (refl, tt)
key_seen (key.Object koid) h = (refl, (seen_decimal koid h, tt))
key_seen (key.Entry process handle) (a, b) = (refl, (seen_decimal process a, (seen_handle handle b, tt)))
key_seen (key.Msg endpoint number) (a, b) = (refl, (seen_decimal endpoint a, (seen_decimal number b, tt)))
key_seen (key.Packet port number) (a, b) = (refl, (seen_decimal port a, (seen_decimal number b, tt)))
key_seen (key.Wait number) h = (refl, (seen_decimal number h, tt))

seen_kind : (what : Kind) → is_seen (kind_word what) ≡ true
seen_kind kind.Job = refl
seen_kind kind.Process = refl
seen_kind kind.Channel = refl
seen_kind kind.Event = refl
seen_kind kind.EventPair = refl
seen_kind kind.Port = refl

seen_life : (how : Life) → IsLifeWithin how → is_seen (shown_life how) ≡ true
seen_life life.Live h = refl
seen_life life.Killed h = refl
seen_life (life.Exited code) h = seen_code code h

seen_held : (held : Held) → IsHeldWithin held → is_seen (shown_held held) ≡ true
seen_held held (koid, rights) =
    list_all-append (λ byte. nat_lt 32 byte) (decimal held.koid) (58 ∷ shown_mask held.rights.0)
    ∙ rw (seen_decimal held.koid koid, seen_mask held.rights.0 rights) refl

each_seen : (handles : List Held) → All IsHeldWithin handles → AreSeen (map shown_held handles)
each_seen [] are = tt
each_seen (h ∷ hs) are = (seen_held h (All-head IsHeldWithin h hs are), each_seen hs (All-tail IsHeldWithin h hs are))

seen_handles_held : (handles : List Held) → All IsHeldWithin handles → is_seen (shown_list shown_held handles) ≡ true
seen_handles_held [] are = refl
seen_handles_held (h ∷ hs) are = seen_joined (map shown_held (h ∷ hs)) (each_seen (h ∷ hs) are)

packet_seen : (held : Packet) → IsPacketWithin held → AreSeen (packet_word held ∷ packet_words held)
packet_seen (packet.User number bytes) (a, b) = (refl, (seen_decimal number a, (seen_bytes bytes b, tt)))
packet_seen (packet.Signal number trigger observed process handle) (a, b, c, d, e) =
    (refl, (seen_decimal number a, (seen_mask trigger.0 b, (seen_mask observed.0 c, (seen_decimal process d, (seen_handle handle e, tt))))))

critical_seen : (job : ℕ) (none : Bool) → (job == 0) ≡ none → job < 2 ^ 64 → AreSeen (critical_words job)
critical_seen job true is small = rw is tt
critical_seen job false is small = rw is (seen_decimal job small, tt)

row_seen : (r : Row) → IsRowWithin r → AreSeen (row_word r ∷ row_words r)
row_seen (rows.Counters counters) (a, b) = (seen_decimal counters.next_koid a, (seen_decimal counters.next_wait b, tt))
row_seen (rows.Object object) (a, b, c, d, e) =
    (seen_kind object.kind, (seen_mask object.signals.0 a, (seen_decimal object.link b, (seen_life object.life c, (seen_decimal object.next d, critical_seen object.critical (object.critical == 0) refl e)))))
row_seen (rows.Entry held) (a, b) = (seen_decimal held.koid a, (seen_mask held.rights.0 b, tt))
row_seen (rows.Msg message) (a, b) = (seen_bytes message.bytes a, (seen_handles_held message.handles b, tt))
row_seen (rows.Packet held) h = packet_seen held h
row_seen (rows.Wait wait) (a, b, c, d, e) =
    (seen_decimal wait.process a, (seen_handle wait.handle b, (seen_decimal wait.port c, (seen_decimal wait.key d, (seen_mask wait.signals.0 e, seen_flag (codes "edge") wait.edge refl)))))

pub line_seen : (k : RowKey) (r : Row) → IsKeyWithin k → IsRowWithin r → AreSeen (line_words k r)
line_seen k r of_key of_row =
    let head = key_seen k of_key in
    (head.0, seen_in_turn (key_numbers k) (row_word r ∷ row_words r) head.1 (row_seen r of_row))
