-- One slot, which is a row or stands for none, exchanged with what a store has under a key. Used by proofs only.
use Rattle.std.specs.Prelude.{◌≡◌, true}
use Rattle.zt_rows.specs.declared.keys.RowKey.{RowKey}
use Rattle.zt_rows.specs.declared.rows.Row.{Row}
use Rattle.zt_rows.specs.Room.{SuitsKey}
use Rattle.zt_rows.specs.State.{row, put}
use Rattle.zt_cells.specs.RowSlots.{decode_slot}
use Rattle.zt_store.specs.Places.{fits_row}
use Rattle.zt_store.specs.StoreView.{Stored}
use Rattle.zt_store.specs.ProofsOnly.StoreView.{standing}

-- what is asked for: the store has the places that the row needs under the key, and the row suits the key
pub record IsExchangeable (store : Stored) (k : RowKey) (r : Row) : Type 0 where
  pub placed : fits_row store.places k (decode_slot k r) ≡ true
  pub suited : SuitsKey k (decode_slot k r)

-- what is given: the store stands with the row `came` under the key, and the row `went` is what stood there, which can be exchanged back
pub record Exchanges (old new : Stored) (k : RowKey) (came went : Row) : Type 0 where
  pub put : new ≡ standing old (put old.state k (decode_slot k came))
  pub was : decode_slot k went ≡ row old.state k
  pub fit : fits_row new.places k (decode_slot k went) ≡ true
  pub suited : SuitsKey k (decode_slot k went)
