-- The parts of a session as it is written down, one by one. Used by proofs only.
use Rattle.std.specs.Prelude.{ℕ, List, Option}
use Rattle.std.specs.Option.{option_map}
use Rattle.zt_rows.specs.declared.saved.SavedCall.{SavedCall}
use Rattle.zt_rows.specs.declared.saved.Cursor.{Cursor as SavedCursor}
use Rattle.zt_history.specs.Tree.{Made, Tree, made_at}
use Rattle.zt_book.specs.declared.client.Client.{Client}
use Rattle.zt_book.specs.SavedSessions.{saved_call, saved_place}

-- nothing for the opening, nor beyond the last moment
abbrev pub saved_at : List Made → ℕ → Option SavedCall
saved_at made m = option_map saved_call (made_at made m)

abbrev pub saved_client : Tree → Client → SavedCursor
saved_client t client = saved_place t.branches client.cursor
