-- `text_frames::put_word` meets its contract.
use mathlib.Core.List.{[], ◌∷◌, ◌++◌}
use Rattle.place.specs.Place.{Putting, put-start}
use Rattle.text_frames.specs.Text.{told, headed}
use Rattle.text_frames.proofs.Puts.{has_room, put_next, last-room, put_last}
use Rattle.text_frames.proofs.put_word.Goals as goal

pub put_head-p-requires : goal.put_head-p-requires
unfolding told
put_head-p-requires c =
    let begun : Putting c.args.out.now c.args.at (told c.args.n c.args.word.now []) c.args.out.now c.args.at (headed c.args.n c.args.word.now ++ 10 ∷ []) =
    put-start _ _ _ c.requires in
    has_room (headed c.args.n c.args.word.now) (10 ∷ []) begun

pub put_char-requires : goal.put_char-requires
unfolding told
put_char-requires c =
    let begun : Putting c.args.out.now c.args.at (told c.args.n c.args.word.now []) c.args.out.now c.args.at (headed c.args.n c.args.word.now ++ 10 ∷ []) =
    put-start _ _ _ c.requires in
    last-room _ (put_next _ _ begun c.put_head-p.ensures)

pub returns : goal.returns
unfolding told
returns c =
    let begun : Putting c.args.out.now c.args.at (told c.args.n c.args.word.now []) c.args.out.now c.args.at (headed c.args.n c.args.word.now ++ 10 ∷ []) =
    put-start _ _ _ c.requires in
    put_last _ (put_next _ _ begun c.put_head-p.ensures) c.put_char.ensures
