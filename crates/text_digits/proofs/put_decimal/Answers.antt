-- `text_hex::put_decimal` meets its contract.
use Rattle.text_digits.specs.Digits.{decimal}
use Rattle.text_digits.proofs.put_decimal.Goals as goal

pub returns : goal.returns
unfolding decimal
returns c = rw c.decimal_len.ensures at c.put_digits.ensures
