-- Bytes that come in turn, and answers that are written in turn. No more of a line is kept than decides how it reads.
-- Used by proofs only.
use Rattle.std.specs.Prelude.{◌≡◌, ℕ, ◌≤◌, ◌<◌, ◌+◌, Bool, true, false, List, [], ◌∷◌, ◌++◌, not, ◌==◌, length, map, take, drop, Option}
use Rattle.std.specs.List.{list_all}
use Rattle.std.specs.Io.KnownBytes.{Appends, Consumes}
use Rattle.zt_text.specs.Lines.{lines_of}
use Rattle.zt_console.specs.declared.conversation.Conversation.{Conversation}
use Rattle.zt_text.specs.ReadLines.{read_as}
use Rattle.zt_console.specs.Conversations.{Manner, Answers, Talk}

-- ---- lines

-- how many bytes of a line decide how it reads: one more than a line may have
abbrev pub decisive_bytes : ℕ
decisive_bytes = 140001

abbrev pub decisive : List ℕ → List ℕ
decisive line = take decisive_bytes line

abbrev pub decisive_lines : List ℕ → List (List ℕ)
decisive_lines bytes = map decisive (lines_of bytes)

abbrev pub has_no_feed : List ℕ → Bool
has_no_feed bytes = list_all (λ byte. not (byte == 10)) bytes

-- where the first line feed stands
pub record IsFirstFeed (bytes : List ℕ) (place : ℕ) : Type 0 where
  pub inside : place < length bytes
  pub one : has_no_feed (take place bytes) ≡ true
  pub feed : drop place bytes ≡ 10 ∷ drop (place + 1) bytes

-- what is kept of a line
pub record IsPart (kept : List ℕ) : Type 0 where
  pub one : has_no_feed kept ≡ true
  pub short : length kept ≤ decisive_bytes

-- ---- answers

-- Lines are spoken: what waited to be written, and their text behind it, are written up to what waits then; where it is
-- not done, some prefix is.
pub record Passed {D : Type 0} (Asks : Manner D) (M : Conversation D) (lines : List (List ℕ)) (N : Conversation D) (waited waits : List ℕ) (before after : Option (List ℕ)) (done : Bool) : Type 0 where
  pub text : List ℕ
  pub written : List ℕ
  pub unwritten : List ℕ
  pub talk : Talk Asks M lines text N
  pub split : waited ++ text ≡ written ++ unwritten
  pub appended : Appends before after written
  pub whole : done ≡ true → unwritten ≡ waits

-- The text of a line is put behind what waited to be written; where it is not done, nothing is.
pub record Put {D : Type 0} (Asks : Manner D) (M : Conversation D) (line : List ℕ) (N : Conversation D) (waited waits : List ℕ) (done : Bool) : Type 0 where
  pub text : List ℕ
  pub answers : Answers Asks M (read_as line) text N
  pub whole : done ≡ true → waits ≡ waited ++ text
  pub kept : done ≡ false → waits ≡ waited

-- ---- bytes

-- Behind the held part of a line, bytes end some lines, which are spoken. Where it is done, `kept` is the part of a line
-- then, whatever bytes come next.
pub record Fed {D : Type 0} (Asks : Manner D) (M N : Conversation D) (held kept bytes waited waits : List ℕ) (before after : Option (List ℕ)) (done : Bool) : Type 0 where
  pub lines : List (List ℕ)
  pub passed : Passed Asks M lines N waited waits before after done
  pub others : List ℕ → List (List ℕ)
  pub cut : (more : List ℕ) → decisive_lines (held ++ (bytes ++ more)) ≡ lines ++ others more
  pub goes_on : done ≡ true → (more : List ℕ) → others more ≡ decisive_lines (kept ++ more)

-- what was read so far, at least a byte in each of so many reads, and how it was answered; nothing waits
pub record HasRead {D : Type 0} (Asks : Manner D) (M N : Conversation D) (kept : List ℕ) (known left before after : Option (List ℕ)) (reads : ℕ) : Type 0 where
  pub input : List ℕ
  pub consumed : Consumes known left input
  pub fed : Fed Asks M N [] kept input [] [] before after true
  pub many : reads ≤ length input
