-- `text_frames::put_payload` meets its contract.
use Rattle.text_frames.proofs.Fields.{bytes-none, bytes-some}
use Rattle.text_frames.proofs.put_payload.Goals as goal

pub put_char-requires : goal.put_char-requires
put_char-requires c = rw (bytes-none _ c.if-bytes-lt1.true) at c.requires

pub returns-then-bytes-lt1 : goal.returns-then-bytes-lt1
returns-then-bytes-lt1 c = rw (bytes-none _ c.if-bytes-lt1.true) c.put_char.ensures

pub returns : goal.returns
returns c = rw (bytes-some _ c.if-bytes-lt1.false) c.put_hex_bytes.ensures
