-- `text_frames::put_told` meets its contract.
use mathlib.Core.List.{[], ◌∷◌, ◌++◌}
use Rattle.place.specs.Place.{Putting, put-start}
use Rattle.text_digits.specs.Digits.{decimal}
use Rattle.text_frames.specs.Text.{headed, spaced, told}
use Rattle.text_frames.proofs.Puts.{has_room, put_next, last-room, put_last}
use Rattle.text_frames.proofs.put_told.Goals as goal

pub put_head-p-requires : goal.put_head-p-requires
unfolding told
put_head-p-requires c =
    let begun : Putting c.args.out.now c.args.at (told c.args.n c.args.word.now (c.args.a ∷ c.args.b ∷ [])) c.args.out.now c.args.at
    (headed c.args.n c.args.word.now ++ spaced (c.args.a ∷ c.args.b ∷ []) (10 ∷ [])) =
    put-start _ _ _ c.requires in
    has_room (headed c.args.n c.args.word.now) (spaced (c.args.a ∷ c.args.b ∷ []) (10 ∷ [])) begun

pub put_number-q-requires : goal.put_number-q-requires
unfolding told
put_number-q-requires c =
    let begun : Putting c.args.out.now c.args.at (told c.args.n c.args.word.now (c.args.a ∷ c.args.b ∷ [])) c.args.out.now c.args.at
    (headed c.args.n c.args.word.now ++ spaced (c.args.a ∷ c.args.b ∷ []) (10 ∷ [])) =
    put-start _ _ _ c.requires in
    let first : Putting c.args.out.now c.args.at (told c.args.n c.args.word.now (c.args.a ∷ c.args.b ∷ [])) c.put_head-p.new.out c.put_head-p.result
    (spaced (c.args.a ∷ c.args.b ∷ []) (10 ∷ [])) =
    put_next _ _ begun c.put_head-p.ensures in
    let a = c.args in
    has_room (32 ∷ decimal a.a) (spaced (a.b ∷ []) (10 ∷ [])) first

pub put_number-r-requires : goal.put_number-r-requires
unfolding told
put_number-r-requires c =
    let begun : Putting c.args.out.now c.args.at (told c.args.n c.args.word.now (c.args.a ∷ c.args.b ∷ [])) c.args.out.now c.args.at
    (headed c.args.n c.args.word.now ++ spaced (c.args.a ∷ c.args.b ∷ []) (10 ∷ [])) =
    put-start _ _ _ c.requires in
    let first : Putting c.args.out.now c.args.at (told c.args.n c.args.word.now (c.args.a ∷ c.args.b ∷ [])) c.put_head-p.new.out c.put_head-p.result
    (spaced (c.args.a ∷ c.args.b ∷ []) (10 ∷ [])) =
    put_next _ _ begun c.put_head-p.ensures in
    let second : Putting c.args.out.now c.args.at (told c.args.n c.args.word.now (c.args.a ∷ c.args.b ∷ [])) c.put_number-q.new.out c.put_number-q.result
    (spaced (c.args.b ∷ []) (10 ∷ [])) =
    put_next _ _ first c.put_number-q.ensures in
    let a = c.args in has_room (32 ∷ decimal a.b) (10 ∷ []) second

pub put_char-requires : goal.put_char-requires
unfolding told
put_char-requires c =
    let begun : Putting c.args.out.now c.args.at (told c.args.n c.args.word.now (c.args.a ∷ c.args.b ∷ [])) c.args.out.now c.args.at
    (headed c.args.n c.args.word.now ++ spaced (c.args.a ∷ c.args.b ∷ []) (10 ∷ [])) =
    put-start _ _ _ c.requires in
    let first : Putting c.args.out.now c.args.at (told c.args.n c.args.word.now (c.args.a ∷ c.args.b ∷ [])) c.put_head-p.new.out c.put_head-p.result
    (spaced (c.args.a ∷ c.args.b ∷ []) (10 ∷ [])) =
    put_next _ _ begun c.put_head-p.ensures in
    let second : Putting c.args.out.now c.args.at (told c.args.n c.args.word.now (c.args.a ∷ c.args.b ∷ [])) c.put_number-q.new.out c.put_number-q.result
    (spaced (c.args.b ∷ []) (10 ∷ [])) =
    put_next _ _ first c.put_number-q.ensures in
    let third : Putting c.args.out.now c.args.at (told c.args.n c.args.word.now (c.args.a ∷ c.args.b ∷ [])) c.put_number-r.new.out c.put_number-r.result
    (10 ∷ []) =
    put_next _ _ second c.put_number-r.ensures in
    last-room _ third

pub returns : goal.returns
unfolding told
returns c =
    let begun : Putting c.args.out.now c.args.at (told c.args.n c.args.word.now (c.args.a ∷ c.args.b ∷ [])) c.args.out.now c.args.at
    (headed c.args.n c.args.word.now ++ spaced (c.args.a ∷ c.args.b ∷ []) (10 ∷ [])) =
    put-start _ _ _ c.requires in
    let first : Putting c.args.out.now c.args.at (told c.args.n c.args.word.now (c.args.a ∷ c.args.b ∷ [])) c.put_head-p.new.out c.put_head-p.result
    (spaced (c.args.a ∷ c.args.b ∷ []) (10 ∷ [])) =
    put_next _ _ begun c.put_head-p.ensures in
    let second : Putting c.args.out.now c.args.at (told c.args.n c.args.word.now (c.args.a ∷ c.args.b ∷ [])) c.put_number-q.new.out c.put_number-q.result
    (spaced (c.args.b ∷ []) (10 ∷ [])) =
    put_next _ _ first c.put_number-q.ensures in
    let third : Putting c.args.out.now c.args.at (told c.args.n c.args.word.now (c.args.a ∷ c.args.b ∷ [])) c.put_number-r.new.out c.put_number-r.result
    (10 ∷ []) =
    put_next _ _ second c.put_number-r.ensures in
    put_last _ third c.put_char.ensures
