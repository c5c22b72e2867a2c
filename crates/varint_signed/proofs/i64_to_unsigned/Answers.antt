use Rattle.varint_signed.proofs.Signed as S
use Rattle.varint_signed.proofs.i64_to_unsigned.Goals as goal

-- src/lib.rt:9:10
pub overflow_cast-result : goal.overflow_cast-result
overflow_cast-result c = S.casts _ c.ranges.v c.if-v-ge0.true

-- src/lib.rt:9:9
pub overflow_mul-result : goal.overflow_mul-result
overflow_mul-result c = S.doubles _ c.ranges.v c.if-v-ge0.true

-- src/lib.rt:11:12
pub overflow_add-result : goal.overflow_add-result
overflow_add-result c = S.ups _ c.ranges.v c.if-v-ge0.false

-- src/lib.rt:11:10
pub overflow_sub-result : goal.overflow_sub-result
overflow_sub-result c = S.flips _ c.ranges.v c.if-v-ge0.false

-- src/lib.rt:11:9
pub overflow_cast-result-else-v-ge0 : goal.overflow_cast-result-else-v-ge0
overflow_cast-result-else-v-ge0 c = S.casts' _ c.ranges.v c.if-v-ge0.false

-- src/lib.rt:11:9
pub overflow_mul-result-else-v-ge0 : goal.overflow_mul-result-else-v-ge0
overflow_mul-result-else-v-ge0 c = S.doubles' _ c.ranges.v c.if-v-ge0.false

-- src/lib.rt:11:9
pub overflow_add-result-else-v-ge0 : goal.overflow_add-result-else-v-ge0
overflow_add-result-else-v-ge0 c = S.adds' _ c.ranges.v c.if-v-ge0.false

-- src/lib.rt:5:1
pub returns-then-v-ge0 : goal.returns-then-v-ge0
returns-then-v-ge0 c = S.gives _ c.ranges.v c.if-v-ge0.true

-- src/lib.rt:5:1
pub returns-else-v-ge0 : goal.returns-else-v-ge0
returns-else-v-ge0 c = S.gives' _ c.ranges.v c.if-v-ge0.false
