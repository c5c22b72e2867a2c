-- `text_frames::put_char` meets its contract.
use mathlib.Core.Path.{sym}
use mathlib.Core.List.{[], ◌∷◌}
use Rattle.place.specs.Place.{put-roomy}
use Rattle.text_frames.proofs.put_char.Goals as goal

pub returns : goal.returns
returns c = sym (put-roomy _ _ (_ ∷ []) c.requires)
