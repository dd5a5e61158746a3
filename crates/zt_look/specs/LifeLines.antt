-- The lines of the life of a handle. The first argument of most says whether rights are shown by their names.
use Rattle.std.specs.Prelude.{ℕ, Bool, List, [], ◌∷◌, Option, None, Some, codes}
use Rattle.std.specs.Fmt.{decimal}
use Rattle.zt_bits.specs.declared.right_bits.Rights.{Rights}
use Rattle.zt_rows.specs.declared.calls.Call.{Call}
use Rattle.zt_rows.specs.declared.calls.Call.TheVariants as call
use Rattle.zt_text.specs.ShownNumbers.{words}
use Rattle.zt_lineage.specs.declared.endings.Ending.{Ending}
use Rattle.zt_lineage.specs.declared.endings.Ending.TheVariants as ending
use Rattle.zt_lineage.specs.declared.handle_life.LifeStep.{LifeStep}
use Rattle.zt_lineage.specs.declared.origins.Origin.{Origin}
use Rattle.zt_lineage.specs.declared.origins.Origin.TheVariants.{Stayed, Made, From}
use Rattle.zt_lineage.specs.declared.places.Place.{Place}
use Rattle.zt_lineage.specs.declared.places.Place.TheVariants as place
use Rattle.zt_look.specs.Names.{shown_rights}
use Rattle.zt_look.specs.NamedTexts.{call_text}
use Rattle.zt_look.specs.Lines.{call_words, line, of_any}

-- ---- places

-- an entry of a process, or a handle in a message: the endpoint, the message's number, and which of its handles
abbrev pub place_text : Place → List ℕ
place_text (place.Entry p h) = words (codes "entry" ∷ decimal p ∷ decimal h ∷ [])
place_text (place.Message e n i) = words (codes "message" ∷ decimal e ∷ decimal n ∷ decimal i ∷ [])

-- a place with the rights of the handle there
abbrev pub rights_at : Bool → Place → Rights → List ℕ
rights_at names at rights = words (place_text at ∷ shown_rights names rights.0 ∷ [])

-- ---- words

-- how a call brings a handle from one place to another; no other call does
abbrev pub passing_word : Call → List ℕ
passing_word (call.HandleDuplicate h rights) = codes "duplicated"
passing_word (call.HandleReplace h rights) = codes "replaced"
passing_word (call.ChannelWrite h parcel) = codes "sent"
passing_word (call.ChannelRead h bytes handles discard) = codes "taken"
passing_word (call.Spawn job argument) = codes "given"
passing_word _ = codes "came"

-- how a handle came to a place, by a call, if there is one
abbrev pub coming_word : Origin → Option (ℕ × Call) → List ℕ
coming_word Stayed by = codes "opening"
coming_word Made by = codes "made"
coming_word (From other) (Some (process, made)) = passing_word made
coming_word (From other) None = codes "came"

abbrev pub ending_word : Ending → List ℕ
ending_word ending.Closed = codes "closed"
ending_word ending.Failed = codes "failed"
ending_word ending.Discarded = codes "discarded"
ending_word ending.ProcessEnded = codes "process_ended"
ending_word ending.QueueGone = codes "queue_gone"

-- ---- steps

-- the place from which it came, if it did, with the rights that it had there; and the call, if there is one
abbrev pub origin_words : Bool → Origin → Rights → Option (ℕ × Call) → List (List ℕ)
origin_words names (From other) before by = codes "from" ∷ rights_at names other before ∷ call_words names by
origin_words names _ before by = call_words names by

-- a step, with the rights of the step before and the call of its moment; one from the opening on has no call
abbrev pub life_step_line : Bool → LifeStep → Rights → Option (ℕ × Call) → List ℕ
life_step_line names step before by =
    line (decimal step.moment ∷ coming_word step.origin by ∷ rights_at names step.place step.held.rights
    ∷ origin_words names step.origin before by)

-- ---- the end

-- how a handle ended at a moment, where the last step had brought it, with the call of the moment
abbrev pub life_end_line : Bool → ℕ → Ending → LifeStep → ℕ × Call → List ℕ
life_end_line names moment how last (process, made) =
    line (decimal moment ∷ ending_word how ∷ rights_at names last.place last.held.rights ∷ call_text (of_any names) process made ∷ [])

-- where a handle is: where this last step brought it, or nowhere
abbrev pub whereabouts_line : Bool → Option LifeStep → List ℕ
whereabouts_line names None = line (codes "gone" ∷ [])
whereabouts_line names (Some last) = line (codes "held" ∷ rights_at names last.place last.held.rights ∷ [])
