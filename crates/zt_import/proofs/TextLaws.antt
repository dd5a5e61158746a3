-- A text that is written line by line reads as the calls of its lines.
use Rattle.std.proofs.Common.{◌≡◌, ℕ, zero, suc, ◌+◌, ◌≤◌, ◌<◌, ◌^◌, true, false, List, [], ◌∷◌, ◌++◌, length, map, take, get_or, Option, Some, None, Ok, refl, sym, ◌∙◌, ap, subst, arith, append_assoc}
use Rattle.std.specs.Prelude.{◌==◌, ◌&&◌, ◌||◌, not, nat_lt, slice_get, codes}
use Rattle.std.specs.List.{filter_map, list_all, list_any, cons_option}
use Rattle.std.specs.Option.{option_to_list, option_map}
use Rattle.std.proofs.lemmas.Bool.{and_parts, ltb-true, le-ltb}
use Rattle.std.proofs.lemmas.List.{append-nil, map-append}
use Rattle.std.proofs.lemmas.Grind.{flat_map-append}
use Rattle.std.proofs.lemmas.Option.{slice_get_read}
use Rattle.std.proofs.Math.Seq.{take-length}
use Rattle.zt_rows.specs.declared.calls.Call.{Call}
use Rattle.zt_history.specs.Tree.{Made, Tree, call_at}
use Rattle.zt_history.proofs.ListLaws.{get-within}
use Rattle.zt_text.specs.Lines.{lines_of}
use Rattle.zt_text.specs.Calls.{shown_call, IsWithin}
use Rattle.zt_text.specs.ReadLines.{fields_in}
use Rattle.zt_text.specs.Session.{call_in, calls_in, session_of}
use Rattle.zt_text.proofs.LineLemmas.{line_written}
use Rattle.zt_text.proofs.ShownCalls.{call_line_free, call_line_kept, call_line_made}
use Rattle.zt_import.specs.declared.trail.TrailStep.{TrailStep}
use Rattle.zt_import.specs.Imports.{Import, Loads}
use Rattle.zt_import.specs.Trails.{calls_of, moments_in, moments_to}
use Rattle.zt_import.specs.ProofsOnly.ReadTexts.{Writes, moment_calls, step_calls, calls_by, is_no_feed, fits}
use Rattle.zt_import.proofs.ComparedLaws.{take-all}
use Rattle.zt_import.proofs.TrailLaws.{filter_map-push}

-- ---- what is written behind one another

pub writes-none : (text : List ℕ) → Writes text text []
writes-none text = record {
  bytes = [];
  behind = sym (append-nil text);
  reads = λ rest behind so number. so number;
}

pub writes-both : (old mid new : List ℕ) (calls more : List (ℕ × Call)) → Writes old mid calls → Writes mid new more → Writes old new (calls ++ more)
writes-both old mid new calls more first second = record {
  bytes = first.bytes ++ second.bytes;
  behind = second.behind ∙ ap (λ bytes. bytes ++ second.bytes) first.behind ∙ append_assoc old first.bytes second.bytes;
  reads = λ rest behind so number.
      ap (λ bytes. calls_in number (lines_of bytes)) (append_assoc first.bytes second.bytes rest)
      ∙ first.reads (second.bytes ++ rest) (more ++ behind) (second.reads rest behind so) number
      ∙ ap Ok (sym (append_assoc calls more behind));
}

-- what is written behind a line that is skipped
pub writes-behind : (old mid new : List ℕ) (calls : List (ℕ × Call)) → Writes old mid [] → Writes mid new calls → Writes old new calls
writes-behind old mid new calls first second = writes-both old mid new [] calls first second

-- ---- one line

-- a search for a line feed that finds none tells that no byte is one
pub feed_none : (bytes : List ℕ) → not (list_any (λ byte. byte == 10) bytes) ≡ list_all is_no_feed bytes
feed_none [] = refl
feed_none (byte ∷ bytes) = elim (byte == 10) as (λ b. not (b || list_any (λ y. y == 10) bytes) ≡ (not b && list_all is_no_feed bytes)) [
  | true ↦ refl
  | false ↦ feed_none bytes
]

-- a line behind `#` is skipped
comment_read : (comment : List ℕ) → nat_lt (length comment) 140000 ≡ true → call_in (35 ∷ comment) ≡ Ok None
unfolding call_in fields_in
comment_read comment few =
    let short : nat_lt 140000 (length (35 ∷ comment)) ≡ false = le-ltb 140000 (suc (length comment)) (omega (arith, ltb-true (length comment) 140000 few)) in
    rw short refl

comment_in : (number : ℕ) (comment : List ℕ) (lines : List (List ℕ)) (calls : List (ℕ × Call)) → nat_lt (length comment) 140000 ≡ true
    → calls_in (number + 1) lines ≡ Ok calls → calls_in number ((35 ∷ comment) ∷ lines) ≡ Ok calls
unfolding calls_in
comment_in number comment lines calls few so = rw (comment_read comment few, so) refl

pub comment-written : (old marked commented new comment : List ℕ) → fits comment ≡ true → marked ≡ old ++ 35 ∷ [] → commented ≡ marked ++ comment
    → new ≡ commented ++ 10 ∷ [] → Writes old new []
comment-written old marked commented new comment fit first second third =
    let parts = and_parts (nat_lt (length comment) 140000) (list_all is_no_feed comment) fit in
    record {
      bytes = (35 ∷ comment) ++ 10 ∷ [];
      behind =
          third ∙ ap (λ bytes. bytes ++ 10 ∷ []) (second ∙ ap (λ bytes. bytes ++ comment) first ∙ append_assoc old (35 ∷ []) comment)
          ∙ append_assoc old (35 ∷ comment) (10 ∷ []);
      reads = λ rest behind so number.
          ap (λ bytes. calls_in number (lines_of bytes)) (append_assoc (35 ∷ comment) (10 ∷ []) rest)
          ∙ ap (calls_in number) (line_written (35 ∷ comment) rest parts.1)
          ∙ comment_in number comment (lines_of rest) behind parts.0 (so (number + 1));
    }

-- the line of a call reads as that call
call_read : (process : ℕ) (call : Call) → process < 2 ^ 64 → IsWithin call → call_in (shown_call process call) ≡ Ok (Some (process, call))
unfolding call_in
call_read process call small within = rw (call_line_kept process call small within, call_line_made process call small within) refl

call_in_front : (number process : ℕ) (call : Call) (lines : List (List ℕ)) (calls : List (ℕ × Call)) → process < 2 ^ 64 → IsWithin call
    → calls_in (number + 1) lines ≡ Ok calls → calls_in number (shown_call process call ∷ lines) ≡ Ok ((process, call) ∷ calls)
unfolding calls_in
call_in_front number process call lines calls small within so = rw (call_read process call small within, so) refl

pub call-written : (old called new : List ℕ) (process : ℕ) (call : Call) → process < 2 ^ 64 → IsWithin call → called ≡ old ++ shown_call process call
    → new ≡ called ++ 10 ∷ [] → Writes old new ((process, call) ∷ [])
call-written old called new process call small within first second =
    let line = shown_call process call in
    record {
      bytes = line ++ 10 ∷ [];
      behind = second ∙ ap (λ bytes. bytes ++ 10 ∷ []) first ∙ append_assoc old line (10 ∷ []);
      reads = λ rest behind so number.
          ap (λ bytes. calls_in number (lines_of bytes)) (append_assoc line (10 ∷ []) rest)
          ∙ ap (calls_in number) (line_written line rest (call_line_free process call small within))
          ∙ call_in_front number process call (lines_of rest) behind small within (so (number + 1));
    }

-- ---- the whole text

nothing_read : (number : ℕ) → calls_in number (lines_of []) ≡ Ok []
unfolding calls_in
nothing_read number = refl

-- behind the first line
pub session-written : (text : List ℕ) (calls : List (ℕ × Call)) → Writes (codes "zxtt 1\n") text calls → session_of text ≡ Ok calls
unfolding session_of
session-written text calls written =
    let first : text ≡ codes "zxtt 1" ++ (10 ∷ written.bytes) = written.behind in
    let lines : lines_of text ≡ codes "zxtt 1" ∷ lines_of written.bytes = ap lines_of first ∙ line_written (codes "zxtt 1") written.bytes refl in
    let read : calls_in 2 (lines_of written.bytes) ≡ Ok calls =
    ap (λ bytes. calls_in 2 (lines_of bytes)) (sym (append-nil written.bytes))
    ∙ written.reads [] [] nothing_read 2 ∙ ap Ok (append-nil calls) in
    rw lines read

-- ---- the calls of all steps

in_front : {A : Type 0} (o : Option A) (xs : List A) → option_to_list o ++ xs ≡ cons_option o xs
in_front None xs = refl
in_front (Some x) xs = refl

moment-calls : (made : List Made) (o : Option ℕ) (ms : List ℕ)
    → moment_calls made o ++ filter_map (call_at made) ms ≡ filter_map (call_at made) (cons_option o ms)
moment-calls made None ms = refl
moment-calls made (Some moment) ms = in_front (call_at made moment) (filter_map (call_at made) ms)

pub calls-by : (made : List Made) (trail : List TrailStep) → calls_by made trail ≡ filter_map (call_at made) (moments_in trail)
calls-by made [] = refl
calls-by made (step ∷ trail) =
    ap (λ calls. step_calls made step ++ calls) (calls-by made trail) ∙ moment-calls made step.moment (moments_in trail)

module _ {A : Type 0} where
  pub take-none : (xs : List A) → take 0 xs ≡ []
  take-none [] = refl
  take-none (x ∷ xs) = refl

  pub take-next : (xs : List A) (k : ℕ) (x : A) → slice_get xs k ≡ Some x → take (suc k) xs ≡ take k xs ++ x ∷ []
  take-next [] k x h = cc
  take-next (y ∷ xs) zero x h =
      let same : y ≡ x = cc in
      ap (λ ys. y ∷ ys) (take-none xs) ∙ ap (λ z. z ∷ []) same
  take-next (y ∷ xs) (suc k) x h = ap (λ ys. y ∷ ys) (take-next xs k x h)

abbrev call_in_made : Made → ℕ × Call
call_in_made e = (e.process, e.call)

-- the calls of so many moments
calls-to : (made : List Made) (k : ℕ) → k ≤ length made → filter_map (call_at made) (moments_to k) ≡ map call_in_made (take k made)
calls-to made zero h = sym (ap (map call_in_made) (take-none made))
calls-to made (suc k) h =
    let there = get-within made k (omega (arith, h)) in
    let found : call_at made (suc k) ≡ Some (call_in_made there.0) = ap (option_map call_in_made) there.1 in
    filter_map-push (call_at made) (moments_to k) (suc k)
    ∙ ap (λ o. filter_map (call_at made) (moments_to k) ++ option_to_list o) found
    ∙ ap (λ calls. calls ++ call_in_made there.0 ∷ []) (calls-to made k (omega (arith, h)))
    ∙ sym (ap (map call_in_made) (take-next made k there.0 there.1) ∙ map-append call_in_made (take k made) (there.0 ∷ []))

-- all moments of a tree, each once, in their order, have its calls
pub calls-of : (made : List Made) (trail : List TrailStep) → moments_in trail ≡ moments_to (length made) → calls_by made trail ≡ calls_of made
calls-of made trail all =
    calls-by made trail ∙ ap (filter_map (call_at made)) all ∙ calls-to made (length made) (omega arith)
    ∙ ap (map call_in_made) (take-length made)

-- ---- step by step

pub trail-none : (made : List Made) (trail : List TrailStep) (text : List ℕ) → Writes text text (calls_by made (take 0 trail))
trail-none made trail text =
    let P : List TrailStep → Type 0 = λ steps. Writes text text (calls_by made steps) in subst P (sym (take-none trail)) (writes-none text)

pub trail-more : (made : List Made) (trail : List TrailStep) (k j : ℕ) (step : TrailStep) (old mid new : List ℕ) → k < length trail → step ≡ get_or trail k step
    → j ≡ suc k → Writes old mid (calls_by made (take k trail)) → Writes mid new (step_calls made step) → Writes old new (calls_by made (take j trail))
trail-more made trail k j step old mid new there is next first second =
    let found : slice_get trail k ≡ Some step = slice_get_read trail (length trail) k step refl there is in
    let front : take j trail ≡ take k trail ++ step ∷ [] = ap (λ n. take n trail) next ∙ take-next trail k step found in
    let more : calls_by made (take j trail) ≡ calls_by made (take k trail) ++ step_calls made step =
    ap (calls_by made) front ∙ flat_map-append (step_calls made) (take k trail) (step ∷ [])
    ∙ ap (λ calls. calls_by made (take k trail) ++ calls) (append-nil (step_calls made step)) in
    let P : List (ℕ × Call) → Type 0 = λ calls. Writes old new calls in
    subst P (sym more) (writes-both old mid new (calls_by made (take k trail)) (step_calls made step) first second)

pub trail-whole : (made : List Made) (trail : List TrailStep) (k : ℕ) (old new : List ℕ) → length trail ≤ k → Writes old new (calls_by made (take k trail))
    → Writes old new (calls_by made trail)
trail-whole made trail k old new whole so =
    let P : List TrailStep → Type 0 = λ steps. Writes old new (calls_by made steps) in subst P (take-all k trail whole) so

pub session-put : (old mid new : List ℕ) (it : Import) (t : Tree) (trail : List TrailStep) → old ≡ [] → mid ≡ old ++ codes "zxtt 1\n" → t ≡ it.tree
    → trail ≡ it.trail → Loads it → Writes mid new (calls_by t.made trail) → session_of new ≡ Ok (calls_of it.tree.made)
session-put old mid new it t trail none first same steps loads written =
    let begun : mid ≡ codes "zxtt 1\n" = first ∙ ap (λ bytes. bytes ++ codes "zxtt 1\n") none in
    let calls : calls_by t.made trail ≡ calls_of it.tree.made =
    ap (λ (u : Tree). calls_by u.made trail) same ∙ ap (calls_by it.tree.made) steps ∙ calls-of it.tree.made it.trail loads.moments in
    let P : List ℕ → Type 0 = λ bytes. Writes bytes new (calls_by t.made trail) in
    session-written new (calls_by t.made trail) (subst P begun written) ∙ ap Ok calls
