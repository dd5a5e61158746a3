use Rattle.zt_text.proofs.SpelledFields.{bytes_spelled, packet_bytes_spelled}
use Rattle.zt_text.proofs.laws.bytes_are_spelled_as_shown.Goals as goal

pub returns : goal.returns
returns c = record { message = bytes_spelled; packet = packet_bytes_spelled }
