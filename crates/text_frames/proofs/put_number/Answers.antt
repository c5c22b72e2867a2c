-- `text_frames::put_number` meets its contract.
use mathlib.Core.List.{[], ◌∷◌}
use Rattle.place.specs.Place.{put-start}
use Rattle.text_frames.proofs.Puts.{put_next, put_last}
use Rattle.text_frames.proofs.put_number.Goals as goal

pub returns : goal.returns
returns c = put_last _ (put_next (32 ∷ []) _ (put-start _ _ _ c.requires) c.put_char-p.ensures) c.put_decimal.ensures
