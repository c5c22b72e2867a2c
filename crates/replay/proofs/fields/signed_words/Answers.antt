use Rattle.varint_signed.proofs.Signed as S
use Rattle.replay.proofs.fields.signed_words.Goals as goal

pub overflow_cast-v : goal.overflow_cast-v
overflow_cast-v c = S.casts _ c.ranges.v c.if-v-ge0.true

pub overflow_add-v : goal.overflow_add-v
overflow_add-v c = S.ups _ c.ranges.v c.if-v-ge0.false

pub overflow_sub-v : goal.overflow_sub-v
overflow_sub-v c = S.flips _ c.ranges.v c.if-v-ge0.false

pub overflow_cast-v-2 : goal.overflow_cast-v-2
overflow_cast-v-2 c = S.casts' _ c.ranges.v c.if-v-ge0.false
