-- Lines of the life of a handle that were written by hand, as theorems.
use Rattle.std.proofs.Common.{◌≡◌, [], ◌∷◌, ◌++◌, refl}
use Rattle.std.specs.Prelude.{codes, true, false, None, Some}
use Rattle.std.specs.Fmt.{digits}
use Rattle.zt_bits.specs.declared.right_bits.Rights.{Rights}
use Rattle.zt_rows.specs.declared.calls.Call.TheVariants as call
use Rattle.zt_text.specs.ShownNumbers.{hexadecimal}
use Rattle.zt_lineage.specs.declared.endings.Ending.TheVariants as ending
use Rattle.zt_lineage.specs.declared.handle_life.LifeStep.{LifeStep}
use Rattle.zt_lineage.specs.declared.origins.Origin.TheVariants as origin
use Rattle.zt_lineage.specs.declared.places.Place.TheVariants as place
use Rattle.zt_look.specs.Names.{shown_bits, shown_rights}
use Rattle.zt_look.specs.NamedTexts.{call_text}
use Rattle.zt_look.specs.LifeLines.{life_end_line, life_step_line, whereabouts_line}

abbrev all : Rights
all = record { 0 = 0xd003 }

abbrev few : Rights
few = record { 0 = 0x3 }

abbrev step_at_opening : LifeStep
step_at_opening = record { moment = 0; place = place.Entry 1025 3; held = record { koid = 1024; rights = all }; origin = origin.Stayed }

abbrev step_made : LifeStep
step_made = record { moment = 2; place = place.Entry 1025 15; held = record { koid = 1028; rights = all }; origin = origin.Made }

abbrev step_copied : LifeStep
step_copied = record { moment = 3; place = place.Entry 1025 19; held = record { koid = 1028; rights = few }; origin = origin.From (place.Entry 1025 15) }

abbrev step_sent : LifeStep
step_sent = record { moment = 4; place = place.Message 1027 0 1; held = record { koid = 1028; rights = few }; origin = origin.From (place.Entry 1025 19) }

abbrev step_taken : LifeStep
step_taken = record { moment = 6; place = place.Entry 1030 7; held = record { koid = 1028; rights = few }; origin = origin.From (place.Message 1027 0 1) }

record Lives : Type 0 where
  opening : life_step_line false step_at_opening all None ≡ codes "0 opening entry 1025 3 0x0000d003" ++ (10 ∷ [])
  made : life_step_line false step_made all (Some (1025, call.EventCreate)) ≡ codes "2 made entry 1025 15 0x0000d003 1025 event_create" ++ (10 ∷ [])
  copied : life_step_line false step_copied all (Some (1025, call.HandleDuplicate 15 0x3)) ≡ codes "3 duplicated entry 1025 19 0x00000003 from entry 1025 15 0x0000d003 1025 handle_duplicate 15 0x00000003" ++ (10 ∷ [])
  taken : life_step_line false step_taken few (Some (1030, call.ChannelRead 3 64 4 false)) ≡ codes "6 taken entry 1030 7 0x00000003 from message 1027 0 1 0x00000003 1030 channel_read 3 64 4" ++ (10 ∷ [])
  given : life_step_line true step_taken few (Some (1025, call.Spawn 3 19)) ≡ codes "6 given entry 1030 7 DUPLICATE|TRANSFER from message 1027 0 1 DUPLICATE|TRANSFER 1025 spawn 3 19" ++ (10 ∷ [])
  failed : life_end_line false 7 ending.Failed step_copied (1025, call.HandleReplace 19 0x10) ≡ codes "7 failed entry 1025 19 0x00000003 1025 handle_replace 19 0x00000010" ++ (10 ∷ [])
  lost : life_end_line true 8 ending.QueueGone step_sent (1025, call.HandleClose 11) ≡ codes "8 queue_gone message 1027 0 1 DUPLICATE|TRANSFER 1025 handle_close 11" ++ (10 ∷ [])
  held : whereabouts_line false (Some step_sent) ≡ codes "held message 1027 0 1 0x00000003" ++ (10 ∷ [])
  gone : whereabouts_line false None ≡ codes "gone" ++ (10 ∷ [])

lives : Lives
unfolding digits hexadecimal shown_bits shown_rights call_text
lives = record {
  opening = refl;
  made = refl;
  copied = refl;
  taken = refl;
  given = refl;
  failed = refl;
  lost = refl;
  held = refl;
  gone = refl;
}
