-- What a walk over the members of a line finds. Used by proofs only.
use Rattle.std.specs.Prelude.{◌≡◌, ℕ, List, Option, Some, None, option_and_then, if◌then◌else◌, codes}
use Rattle.std.specs.Str.{bytes_eq}
use Rattle.json.specs.Json.{Json, Members}
use Rattle.json.specs.Find.{get_member}
use Rattle.zt_logs.specs.declared.line_members.LineMembers.{LineMembers}
use Rattle.zt_logs.specs.declared.line_members.OtherMembers.{OtherMembers}
use Rattle.zt_logs.specs.declared.places.Member.TheVariants as member
use Rattle.zt_logs.specs.Members.{not_null, field}
use Rattle.zt_logs.specs.ProofsOnly.Tokens.{data_at}

-- the last member of this name, unless it is null
abbrev pub last_named : List ℕ → Members → Option Json
last_named name ms = option_and_then not_null (get_member name ms)

-- what a later member of the name tells, or else what the members before it gave
abbrev pub told_or : Option Json → Option Json → Option Json
told_or None seen = seen
told_or (Some d) seen = not_null d

abbrev pub seen_behind : List ℕ → Members → Option Json → Option Json
seen_behind name rest seen = told_or (get_member name rest) seen

pub record IsSeen (ms : Members) (seen : OtherMembers) : Type 0 where
  pub call : data_at seen.call ≡ last_named (codes "call") ms
  pub args : data_at seen.args ≡ last_named (codes "args") ms
  pub status : data_at seen.status ≡ last_named (codes "status") ms
  pub out : data_at seen.out ≡ last_named (codes "out") ms

pub record IsSeenUpTo (all rest : Members) (seen : OtherMembers) : Type 0 where
  pub call : seen_behind (codes "call") rest (data_at seen.call) ≡ last_named (codes "call") all
  pub args : seen_behind (codes "args") rest (data_at seen.args) ≡ last_named (codes "args") all
  pub status : seen_behind (codes "status") rest (data_at seen.status) ≡ last_named (codes "status") all
  pub out : seen_behind (codes "out") rest (data_at seen.out) ≡ last_named (codes "out") all

-- what is found under a name, where this member is seen next
abbrev pub seen_as : List ℕ → List ℕ → Json → Option Json → Option Json
seen_as wanted name d seen = if bytes_eq name wanted then not_null d else seen

pub record SeesNext (name : List ℕ) (d : Json) (old new : OtherMembers) : Type 0 where
  pub call : data_at new.call ≡ seen_as (codes "call") name d (data_at old.call)
  pub args : data_at new.args ≡ seen_as (codes "args") name d (data_at old.args)
  pub status : data_at new.status ≡ seen_as (codes "status") name d (data_at old.status)
  pub out : data_at new.out ≡ seen_as (codes "out") name d (data_at old.out)

pub record AreAsBefore (old new : OtherMembers) : Type 0 where
  pub call : new.call ≡ old.call
  pub args : new.args ≡ old.args
  pub status : new.status ≡ old.status
  pub out : new.out ≡ old.out

-- the members of a line are those of the whole line
pub record IsWalked (line : LineMembers) : Type 0 where
  pub call : data_at line.others.call ≡ field member.Call (data_at line.whole.value)
  pub args : data_at line.args.value ≡ field member.Args (data_at line.whole.value)
  pub status : data_at line.others.status ≡ field member.Status (data_at line.whole.value)
  pub out : data_at line.out.value ≡ field member.Out (data_at line.whole.value)
