-- `text_frames::put_refused` meets its contract.
use mathlib.Core.List.{[], ◌∷◌, ◌++◌}
use Rattle.place.specs.Place.{Putting, put-start}
use Rattle.text_digits.specs.Digits.{decimal}
use Rattle.text_frames.specs.Text.{headed, spaced, told}
use Rattle.text_frames.proofs.Puts.{has_room, put_next, last-room, put_last}
use Rattle.text_frames.proofs.put_refused.Goals as goal

pub put_head-p-requires : goal.put_head-p-requires
unfolding told
put_head-p-requires c =
    let begun : Putting c.args.out.now c.args.at (told c.args.n c.args.word.now (c.args.a ∷ c.args.b ∷ c.args.c ∷ c.args.d ∷ [])) c.args.out.now c.args.at
    (headed c.args.n c.args.word.now ++ spaced (c.args.a ∷ c.args.b ∷ c.args.c ∷ c.args.d ∷ []) (10 ∷ [])) =
    put-start _ _ _ c.requires in
    let a = c.args in
    has_room (headed a.n a.word.now) (spaced (a.a ∷ a.b ∷ a.c ∷ a.d ∷ []) (10 ∷ [])) begun

pub put_number-q-requires : goal.put_number-q-requires
unfolding told
put_number-q-requires c =
    let begun : Putting c.args.out.now c.args.at (told c.args.n c.args.word.now (c.args.a ∷ c.args.b ∷ c.args.c ∷ c.args.d ∷ [])) c.args.out.now c.args.at
    (headed c.args.n c.args.word.now ++ spaced (c.args.a ∷ c.args.b ∷ c.args.c ∷ c.args.d ∷ []) (10 ∷ [])) =
    put-start _ _ _ c.requires in
    let first : Putting c.args.out.now c.args.at (told c.args.n c.args.word.now (c.args.a ∷ c.args.b ∷ c.args.c ∷ c.args.d ∷ [])) c.put_head-p.new.out
    c.put_head-p.result (spaced (c.args.a ∷ c.args.b ∷ c.args.c ∷ c.args.d ∷ []) (10 ∷ [])) =
    put_next _ _ begun c.put_head-p.ensures in
    let a = c.args in
    has_room (32 ∷ decimal a.a) (spaced (a.b ∷ a.c ∷ a.d ∷ []) (10 ∷ [])) first

pub put_number-r-requires : goal.put_number-r-requires
unfolding told
put_number-r-requires c =
    let begun : Putting c.args.out.now c.args.at (told c.args.n c.args.word.now (c.args.a ∷ c.args.b ∷ c.args.c ∷ c.args.d ∷ [])) c.args.out.now c.args.at
    (headed c.args.n c.args.word.now ++ spaced (c.args.a ∷ c.args.b ∷ c.args.c ∷ c.args.d ∷ []) (10 ∷ [])) =
    put-start _ _ _ c.requires in
    let first : Putting c.args.out.now c.args.at (told c.args.n c.args.word.now (c.args.a ∷ c.args.b ∷ c.args.c ∷ c.args.d ∷ [])) c.put_head-p.new.out
    c.put_head-p.result (spaced (c.args.a ∷ c.args.b ∷ c.args.c ∷ c.args.d ∷ []) (10 ∷ [])) =
    put_next _ _ begun c.put_head-p.ensures in
    let second : Putting c.args.out.now c.args.at (told c.args.n c.args.word.now (c.args.a ∷ c.args.b ∷ c.args.c ∷ c.args.d ∷ [])) c.put_number-q.new.out
    c.put_number-q.result (spaced (c.args.b ∷ c.args.c ∷ c.args.d ∷ []) (10 ∷ [])) =
    put_next _ _ first c.put_number-q.ensures in
    let a = c.args in
    has_room (32 ∷ decimal a.b) (spaced (a.c ∷ a.d ∷ []) (10 ∷ [])) second

pub put_number-u-requires : goal.put_number-u-requires
unfolding told
put_number-u-requires c =
    let begun : Putting c.args.out.now c.args.at (told c.args.n c.args.word.now (c.args.a ∷ c.args.b ∷ c.args.c ∷ c.args.d ∷ [])) c.args.out.now c.args.at
    (headed c.args.n c.args.word.now ++ spaced (c.args.a ∷ c.args.b ∷ c.args.c ∷ c.args.d ∷ []) (10 ∷ [])) =
    put-start _ _ _ c.requires in
    let first : Putting c.args.out.now c.args.at (told c.args.n c.args.word.now (c.args.a ∷ c.args.b ∷ c.args.c ∷ c.args.d ∷ [])) c.put_head-p.new.out
    c.put_head-p.result (spaced (c.args.a ∷ c.args.b ∷ c.args.c ∷ c.args.d ∷ []) (10 ∷ [])) =
    put_next _ _ begun c.put_head-p.ensures in
    let second : Putting c.args.out.now c.args.at (told c.args.n c.args.word.now (c.args.a ∷ c.args.b ∷ c.args.c ∷ c.args.d ∷ [])) c.put_number-q.new.out
    c.put_number-q.result (spaced (c.args.b ∷ c.args.c ∷ c.args.d ∷ []) (10 ∷ [])) =
    put_next _ _ first c.put_number-q.ensures in
    let third : Putting c.args.out.now c.args.at (told c.args.n c.args.word.now (c.args.a ∷ c.args.b ∷ c.args.c ∷ c.args.d ∷ [])) c.put_number-r.new.out
    c.put_number-r.result (spaced (c.args.c ∷ c.args.d ∷ []) (10 ∷ [])) =
    put_next _ _ second c.put_number-r.ensures in
    let a = c.args in
    has_room (32 ∷ decimal a.c) (spaced (a.d ∷ []) (10 ∷ [])) third

pub put_number-v-requires : goal.put_number-v-requires
unfolding told
put_number-v-requires c =
    let begun : Putting c.args.out.now c.args.at (told c.args.n c.args.word.now (c.args.a ∷ c.args.b ∷ c.args.c ∷ c.args.d ∷ [])) c.args.out.now c.args.at
    (headed c.args.n c.args.word.now ++ spaced (c.args.a ∷ c.args.b ∷ c.args.c ∷ c.args.d ∷ []) (10 ∷ [])) =
    put-start _ _ _ c.requires in
    let first : Putting c.args.out.now c.args.at (told c.args.n c.args.word.now (c.args.a ∷ c.args.b ∷ c.args.c ∷ c.args.d ∷ [])) c.put_head-p.new.out
    c.put_head-p.result (spaced (c.args.a ∷ c.args.b ∷ c.args.c ∷ c.args.d ∷ []) (10 ∷ [])) =
    put_next _ _ begun c.put_head-p.ensures in
    let second : Putting c.args.out.now c.args.at (told c.args.n c.args.word.now (c.args.a ∷ c.args.b ∷ c.args.c ∷ c.args.d ∷ [])) c.put_number-q.new.out
    c.put_number-q.result (spaced (c.args.b ∷ c.args.c ∷ c.args.d ∷ []) (10 ∷ [])) =
    put_next _ _ first c.put_number-q.ensures in
    let third : Putting c.args.out.now c.args.at (told c.args.n c.args.word.now (c.args.a ∷ c.args.b ∷ c.args.c ∷ c.args.d ∷ [])) c.put_number-r.new.out
    c.put_number-r.result (spaced (c.args.c ∷ c.args.d ∷ []) (10 ∷ [])) =
    put_next _ _ second c.put_number-r.ensures in
    let fourth : Putting c.args.out.now c.args.at (told c.args.n c.args.word.now (c.args.a ∷ c.args.b ∷ c.args.c ∷ c.args.d ∷ [])) c.put_number-u.new.out
    c.put_number-u.result (spaced (c.args.d ∷ []) (10 ∷ [])) =
    put_next _ _ third c.put_number-u.ensures in
    let a = c.args in
    has_room (32 ∷ decimal a.d) (10 ∷ []) fourth

pub put_char-requires : goal.put_char-requires
unfolding told
put_char-requires c =
    let begun : Putting c.args.out.now c.args.at (told c.args.n c.args.word.now (c.args.a ∷ c.args.b ∷ c.args.c ∷ c.args.d ∷ [])) c.args.out.now c.args.at
    (headed c.args.n c.args.word.now ++ spaced (c.args.a ∷ c.args.b ∷ c.args.c ∷ c.args.d ∷ []) (10 ∷ [])) =
    put-start _ _ _ c.requires in
    let first : Putting c.args.out.now c.args.at (told c.args.n c.args.word.now (c.args.a ∷ c.args.b ∷ c.args.c ∷ c.args.d ∷ [])) c.put_head-p.new.out
    c.put_head-p.result (spaced (c.args.a ∷ c.args.b ∷ c.args.c ∷ c.args.d ∷ []) (10 ∷ [])) =
    put_next _ _ begun c.put_head-p.ensures in
    let second : Putting c.args.out.now c.args.at (told c.args.n c.args.word.now (c.args.a ∷ c.args.b ∷ c.args.c ∷ c.args.d ∷ [])) c.put_number-q.new.out
    c.put_number-q.result (spaced (c.args.b ∷ c.args.c ∷ c.args.d ∷ []) (10 ∷ [])) =
    put_next _ _ first c.put_number-q.ensures in
    let third : Putting c.args.out.now c.args.at (told c.args.n c.args.word.now (c.args.a ∷ c.args.b ∷ c.args.c ∷ c.args.d ∷ [])) c.put_number-r.new.out
    c.put_number-r.result (spaced (c.args.c ∷ c.args.d ∷ []) (10 ∷ [])) =
    put_next _ _ second c.put_number-r.ensures in
    let fourth : Putting c.args.out.now c.args.at (told c.args.n c.args.word.now (c.args.a ∷ c.args.b ∷ c.args.c ∷ c.args.d ∷ [])) c.put_number-u.new.out
    c.put_number-u.result (spaced (c.args.d ∷ []) (10 ∷ [])) =
    put_next _ _ third c.put_number-u.ensures in
    let fifth : Putting c.args.out.now c.args.at (told c.args.n c.args.word.now (c.args.a ∷ c.args.b ∷ c.args.c ∷ c.args.d ∷ [])) c.put_number-v.new.out
    c.put_number-v.result (10 ∷ []) =
    put_next _ _ fourth c.put_number-v.ensures in
    last-room _ fifth

pub returns : goal.returns
unfolding told
returns c =
    let begun : Putting c.args.out.now c.args.at (told c.args.n c.args.word.now (c.args.a ∷ c.args.b ∷ c.args.c ∷ c.args.d ∷ [])) c.args.out.now c.args.at
    (headed c.args.n c.args.word.now ++ spaced (c.args.a ∷ c.args.b ∷ c.args.c ∷ c.args.d ∷ []) (10 ∷ [])) =
    put-start _ _ _ c.requires in
    let first : Putting c.args.out.now c.args.at (told c.args.n c.args.word.now (c.args.a ∷ c.args.b ∷ c.args.c ∷ c.args.d ∷ [])) c.put_head-p.new.out
    c.put_head-p.result (spaced (c.args.a ∷ c.args.b ∷ c.args.c ∷ c.args.d ∷ []) (10 ∷ [])) =
    put_next _ _ begun c.put_head-p.ensures in
    let second : Putting c.args.out.now c.args.at (told c.args.n c.args.word.now (c.args.a ∷ c.args.b ∷ c.args.c ∷ c.args.d ∷ [])) c.put_number-q.new.out
    c.put_number-q.result (spaced (c.args.b ∷ c.args.c ∷ c.args.d ∷ []) (10 ∷ [])) =
    put_next _ _ first c.put_number-q.ensures in
    let third : Putting c.args.out.now c.args.at (told c.args.n c.args.word.now (c.args.a ∷ c.args.b ∷ c.args.c ∷ c.args.d ∷ [])) c.put_number-r.new.out
    c.put_number-r.result (spaced (c.args.c ∷ c.args.d ∷ []) (10 ∷ [])) =
    put_next _ _ second c.put_number-r.ensures in
    let fourth : Putting c.args.out.now c.args.at (told c.args.n c.args.word.now (c.args.a ∷ c.args.b ∷ c.args.c ∷ c.args.d ∷ [])) c.put_number-u.new.out
    c.put_number-u.result (spaced (c.args.d ∷ []) (10 ∷ [])) =
    put_next _ _ third c.put_number-u.ensures in
    let fifth : Putting c.args.out.now c.args.at (told c.args.n c.args.word.now (c.args.a ∷ c.args.b ∷ c.args.c ∷ c.args.d ∷ [])) c.put_number-v.new.out
    c.put_number-v.result (10 ∷ []) =
    put_next _ _ fourth c.put_number-v.ensures in
    put_last _ fifth c.put_char.ensures
