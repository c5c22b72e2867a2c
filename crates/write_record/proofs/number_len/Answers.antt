-- `write_record::number_len` meets its contract.
use Rattle.std.proofs.Common.{length, sym, ap, inl, rules}
use Rattle.wire.specs.Varint.{encode}
use Rattle.wire.specs.VarintLaws.{enc-ends}
use Rattle.write_record.proofs.number_len.Goals as goal

pub returns-then-v-lt128 : goal.returns-then-v-lt128
unfolding encode
returns-then-v-lt128 c = sym (ap length (enc-ends 8 c.args.v (inl c.if-v-lt128.true)))

pub returns : goal.returns
returns c = c.encoded_len_varint.ensures
