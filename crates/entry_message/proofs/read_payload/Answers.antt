-- The payload's part, then the reader of messages.
use mathlib.Core.Path.{◌∙◌}
use Rattle.entry_message.specs.Messages.{part_bytes, payload-read}
use Rattle.entry_message.proofs.read_payload.Goals as goal

pub returns : goal.returns
returns c = c.read_message.ensures ∙ payload-read _ _ _ _ (part_bytes _ _ c.payload_of-part.result c.payload_of-part.ensures)
