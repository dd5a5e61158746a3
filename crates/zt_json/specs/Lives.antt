-- The forms of the lines about the life of a handle, and about all handles to an object. The tables are in `src/steps.rt`.
use Rattle.std.specs.Prelude.{ℕ, zero, suc, ◌/◌, ◌||◌, Option, Some, if◌then◌else◌}
use Rattle.std.specs.Fmt.{decimal}
use Rattle.json.specs.Token as json
use Rattle.zt_json.specs.declared.words.Word.{Word}
use Rattle.zt_json.specs.declared.words.Word.TheVariants.{Place, From, At, Gone, Held, Step, End, Depth}
use Rattle.zt_json.specs.declared.steps.TheConstants.{RIGHTS, RIGHTS_FROM, CAME, END_MOMENT, MOMENT}
use Rattle.zt_json.specs.Values.{◌>>=◌}
use Rattle.zt_json.specs.Made.{Made, put, put_key, taken, next_is, is_read}
use Rattle.zt_json.specs.Members.{exactly, text, worded, performed_all}
use Rattle.zt_json.specs.Rows.{place_of}
use Rattle.zt_json.specs.Lines.{called_alone}

-- a place, as an object behind this key
abbrev pub place : Word → Made → Option Made
place key made = worded Place (put json.begin_object (put_key key made)) >>= λ name.
    performed_all (place_of name.0) name.1 >>= λ after. Some (put json.end_object after)

-- the place that a handle came from, if there is one
abbrev pub moved_from : Made → Option Made
moved_from made = if next_is From made then (exactly From made >>= place From) else Some made

-- the place that a handle came from with its rights there, if there is one
abbrev pub came_from : Made → Option Made
came_from made = if next_is From made then (moved_from made >>= performed_all RIGHTS_FROM) else Some made

-- a step of a life behind its name: the place, the rights there, where the handle came from, and the call
abbrev pub life_rest : Made → Option Made
life_rest made = place At made >>= performed_all RIGHTS >>= came_from >>= λ after.
    if is_read after.fields then Some after else called_alone after

-- the moment, which `gone` and `held` have not
abbrev pub when_moved : Made → Option Made
when_moved made = if next_is Gone made || next_is Held made then Some made else performed_all MOMENT made

abbrev pub life_line : Made → Option Made
life_line made = when_moved made >>= text Step >>= λ named. if is_read named.fields then Some named else life_rest named

-- a line of `lineage` behind the spaces ahead of it
abbrev pub lineage_line : Made → Option Made
lineage_line made = performed_all CAME made >>= place At >>= performed_all RIGHTS >>= moved_from >>= text End >>= λ ended.
    if is_read ended.fields then Some ended else performed_all END_MOMENT ended

-- so many fields are read, and nothing is made of them
unfoldable pub skipped : ℕ → Made → Option Made
skipped zero made = Some made
skipped (suc count) made = taken made >>= λ field. skipped count field.1

-- a line of `lineage` with so many spaces ahead: two for each handle that the handle is a copy of
abbrev pub tree_line : ℕ → Made → Option Made
tree_line spaces made = skipped spaces made >>= λ after. lineage_line (put (json.number (decimal (spaces / 2))) (put_key Depth after))
