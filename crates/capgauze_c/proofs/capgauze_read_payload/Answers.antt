-- The payload's part, then the export that reads messages.
use mathlib.Core.Path.{◌∙◌, ap}
use Rattle.entry_message.specs.Messages.{part_bytes, payload-read}
use Rattle.c_words.specs.Words.{outcome_told}
use Rattle.capgauze_c.proofs.capgauze_read_payload.Goals as goal

pub returns : goal.returns
returns c =
    c.capgauze_read_message.ensures
    ∙ ap outcome_told (payload-read _ _ _ _ (part_bytes _ _ c.payload_of-part.result c.payload_of-part.ensures))
