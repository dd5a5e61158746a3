-- The calls of a line behind those of the lines before it.
use Rattle.std.proofs.Common.{◌≡◌, ℕ, suc, true, List, [], ◌∷◌, ◌++◌, length, Option, Some, None, refl, sym, ◌∙◌, ap, subst, arith}
use Rattle.std.proofs.lemmas.List.{append_assoc, append-nil}
use Rattle.std.specs.Option.{option_map}
use Rattle.json.specs.Json.{Json}
use Rattle.zt_logs.specs.declared.call_names.CallName.{CallName}
use Rattle.zt_logs.specs.declared.call_names.CallName.TheVariants as called
use Rattle.zt_logs.specs.declared.line_calls.PartCall.{PartCall}
use Rattle.zt_logs.specs.declared.logged.LoggedCall.{LoggedCall}
use Rattle.zt_logs.specs.declared.logged.RecordedReply.{RecordedReply}
use Rattle.zt_logs.specs.declared.places.Member.TheVariants as member
use Rattle.zt_logs.specs.Members.{field}
use Rattle.zt_logs.specs.Numbers.{IsMaskOrNone}
use Rattle.zt_logs.specs.Entries.{called, entry_for}
use Rattle.zt_logs.specs.LineCalls.{AreCallsOf, alone, is_one_call}
use Rattle.zt_logs.specs.LoggedCalls.{IsCallOf}
use Rattle.zt_rows.specs.declared.calls.Call.{Call}
use Rattle.zt_logs.specs.Answered.{IsAnswered}
use Rattle.zt_logs.specs.Logged.{IsPart, part_status, AreAhead, AreParts, AreNamed}
use Rattle.zt_logs.specs.ProofsOnly.ReadLines.{AddsAhead, AddsParts, AddsCalls, AddsLogged}

one_longer : (others : List PartCall) (part : PartCall) → length (others ++ part ∷ []) ≡ suc (length others)
one_longer [] part = refl
one_longer (x ∷ xs) part = ap suc (one_longer xs part)

-- those ahead of the last, and the last
pub parts_added : (line count : ℕ) (others parts : List PartCall) (part : PartCall) (recorded : RecordedReply) (old mid new : List LoggedCall) (logged : LoggedCall)
    → parts ≡ others ++ part ∷ [] → count ≡ length parts → AddsAhead line count (part_status recorded.status) others old mid → new ≡ mid ++ logged ∷ []
    → IsPart line count (length others) part logged → logged.recorded ≡ recorded → AddsParts line parts recorded old new
parts_added line count others [] part recorded old mid new logged split counted adds pushed is answered =
    absurd (omega (arith, ap length split, one_longer others part))
parts_added line count others (p ∷ ps) part recorded old mid new logged split counted (calls, added, are) pushed is answered =
    let all : count ≡ suc (length others) = counted ∙ ap length split ∙ one_longer others part in (
      calls ++ logged ∷ [],
      pushed ∙ ap (λ cs. cs ++ logged ∷ []) added ∙ append_assoc old calls (logged ∷ []),
      record {
        others = others;
        part = part;
        ahead = calls;
        last = logged;
        in_parts = split;
        in_calls = refl;
        are_ahead = subst (λ n. AreAhead line n (part_status recorded.status) 0 others calls) all are;
        is_last = subst (λ n. IsPart line n (length others) part logged) all is;
        answered = answered;
      },
    )

-- a line that is one call
pub one_added : (line count : ℕ) (part : PartCall) (recorded : RecordedReply) (old new : List LoggedCall) (logged : LoggedCall) → count ≡ 1 → new ≡ old ++ logged ∷ []
    → IsPart line count 0 part logged → logged.recorded ≡ recorded → AddsParts line (part ∷ []) recorded old new
one_added line count part recorded old new logged one pushed is answered =
    parts_added line count [] (part ∷ []) part recorded old old new logged refl one ([], sym (append-nil old), tt) pushed is answered

pub one_call : (name : CallName) (line args : Option Json) (options : ℕ) (it : Call) → is_one_call name ≡ true → args ≡ field member.Args line → IsCallOf name args options it
    → AreCallsOf name line options (alone it ∷ [])
one_call called.HandleCloseMany line args options it one is of = cc one
one_call called.ChannelWriteEtc line args options it one is of = cc one
one_call called.ChannelCall line args options it one is of = cc one
one_call called.ChannelCallEtc line args options it one is of = cc one
one_call called.ProcessCreate line args options it one is of = cc one
one_call (called.Made kind) line args options it one is of = cc one
one_call name line args options it one is of = (it, subst (λ a. IsCallOf name a options it) is of, refl)

pub none_added : (line : ℕ) (parts : List PartCall) (recorded : RecordedReply) (old : List LoggedCall) → parts ≡ [] → AddsParts line parts recorded old old
none_added line [] recorded old is = refl
none_added line (p ∷ ps) recorded old is = cc is

-- the calls that are added are those that the line's name, arguments and options say
pub calls_added : (number : ℕ) (name : CallName) (value args : Option Json) (options : ℕ) (parts : List PartCall) (recorded : RecordedReply) (old new : List LoggedCall)
    → args ≡ field member.Args value → IsMaskOrNone (field member.Options args) options → AreCallsOf name value options parts
    → IsAnswered name value recorded.status recorded.handles → AddsParts number parts recorded old new → AddsCalls name number value old new
calls_added number name value args options [] recorded old new is mask are answered added =
    ([], added ∙ sym (append-nil old), ([], options, subst (λ a. IsMaskOrNone (field member.Options a) options) is mask, are, refl))
calls_added number name value args options (p ∷ ps) recorded old new is mask are answered (calls, added, with) =
    let all : AreParts number name value (p ∷ ps) calls = record {
      others = with.others;
      part = with.part;
      ahead = with.ahead;
      last = with.last;
      in_parts = with.in_parts;
      in_calls = with.in_calls;
      are_ahead =
          subst (λ (r : RecordedReply). AreAhead number (suc (length with.others)) (part_status r.status) 0 with.others with.ahead) (sym with.answered)
          with.are_ahead;
      is_last = with.is_last;
      answered = subst (λ (r : RecordedReply). IsAnswered name value r.status r.handles) (sym with.answered) answered;
    } in
    (calls, added, (p ∷ ps, options, subst (λ a. IsMaskOrNone (field member.Options a) options) is mask, are, all))

-- the calls that are added for the name of a line's value are those of the line
pub line_added : (number : ℕ) (d : Json) (value : Option Json) (name : CallName) (old new : List LoggedCall) → called d ≡ Some name → value ≡ Some d
    → AddsCalls name number value old new → AddsLogged (entry_for number d) old new
line_added number d value name old new is at (line, added, are) =
    let entry : entry_for number d ≡ Some (number, d) = ap (option_map (λ _. (number, d))) is in
    let here : AreNamed number (called d) (Some d) line =
    subst (λ v. AreNamed number (called d) v line) at (subst (λ n. AreNamed number n value line) (sym is) are) in
    subst (λ e. AddsLogged e old new) (sym entry) (line, added, here)

pub no_line_added : (number : ℕ) (d : Json) (old new : List LoggedCall) → called d ≡ None → new ≡ old → AddsLogged (entry_for number d) old new
no_line_added number d old new is same = subst (λ e. AddsLogged e old new) (sym (ap (option_map (λ _. (number, d))) is)) same
