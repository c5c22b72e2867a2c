-- `text_frames::put_head` meets its contract.
use mathlib.Core.Path.{◌∙◌}
use Rattle.place.specs.Place.{put-start}
use Rattle.text_frames.proofs.Puts.{put_next, put_last, whole_part}
use Rattle.text_frames.proofs.put_head.Goals as goal

pub returns : goal.returns
returns c =
    let w = c.args.word.now in
    put_last w (put_next _ w (put-start _ _ _ c.requires) c.put_decimal-p.ensures) (c.put_part.ensures ∙ whole_part _ _ w)
