-- The head stands at the front of the small array; the fields' lines are put, and the closing line behind them.
use Rattle.std.proofs.Common.{ℕ, ◌-◌, ◌≡◌, List, [], ◌∷◌, ◌++◌, length, take, refl, arith, ◌≤◌}
use Rattle.wire.specs.Places.{items}
use Rattle.wire.specs.Table.{fields_from}
use Rattle.place.specs.Place.{Placed, Putting, put_at, put-start}
use Rattle.text_frames.specs.Text.{headed, word_f, word_ok, told, fields_text}
use Rattle.text_frames.specs.Room.{head_few}
use Rattle.text_frames.specs.Print.{Closed}
use Rattle.text_frames.proofs.Puts.{has_room, put_next, last-room, put_last, front-next, front-is}
use Rattle.text_frames.proofs.put_accepted.Goals as goal

lines : ℕ → List ℕ → List ℕ → ℕ → List ℕ
lines n s table count = fields_text (headed n word_f) (items s (fields_from count table 0))

closing : ℕ → List ℕ → ℕ → List ℕ
closing n s count = told n word_ok (count ∷ length s ∷ [])

begun : {out : List ℕ} {at n : ℕ} {s table : List ℕ} {count : ℕ} → Closed out at n s table count
    → Putting out at (lines n s table count ++ closing n s count) out at (lines n s table count ++ closing n s count)
unfolding lines closing
begun h = put-start _ _ _ h.room

made : (n : ℕ) (z : List ℕ) {m : ℕ} {b : List ℕ} → length z ≡ 22 → ◌≡◌ {A = Placed} (record { next = m; buf = b }) (put_at z 0 (headed n word_f))
    → take (m - 0) b ≡ headed n word_f
made n z {m} {b} e h =
    let few = head_few n in
    let short : length (headed n word_f) ≤ length z = omega (arith, few) in
    front-is z (headed n word_f) short h m (front-next z (headed n word_f) short h)

pub put_head-k-requires : goal.put_head-k-requires
put_head-k-requires c = omega (arith, head_few c.args.n)

pub slice_bounds-put_fields-end : goal.slice_bounds-put_fields-end
slice_bounds-put_fields-end c =
    let few = head_few c.args.n in
    omega (arith, few, front-next _ _ few c.put_head-k.ensures)

pub put_fields-p-requires : goal.put_fields-p-requires
unfolding lines closing
put_fields-p-requires c =
    let a = c.args in
    rw (made a.n _ refl c.put_head-k.ensures) (record {
      has = c.requires.has;
      room = has_room (lines a.n a.message.now a.table.now a.count) (closing a.n a.message.now a.count) (begun c.requires);
    })

pub put_told-requires : goal.put_told-requires
unfolding lines closing
put_told-requires c =
    let a = c.args in
    let fields = rw (made a.n _ refl c.put_head-k.ensures) at c.put_fields-p.ensures in
    last-room (closing a.n a.message.now a.count)
    (put_next (lines a.n a.message.now a.table.now a.count) (closing a.n a.message.now a.count) (begun c.requires) fields)

pub returns : goal.returns
unfolding lines closing
returns c =
    let a = c.args in
    let fields = rw (made a.n _ refl c.put_head-k.ensures) at c.put_fields-p.ensures in
    put_last (closing a.n a.message.now a.count)
    (put_next (lines a.n a.message.now a.table.now a.count) (closing a.n a.message.now a.count) (begun c.requires) fields)
    c.put_told.ensures
