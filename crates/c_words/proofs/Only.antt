-- Any two outcomes that a contract of this crate allows are equal: every word of the answer.
use mathlib.Core.Path.{◌∙◌, sym}
use Rattle.wire.specs.Only.{One}
use Rattle.c_words.specs.Words.{as_number, as_varint, as_read, as_key, as_value, as_place, as_step, as_written, as_picked, as_several, as_early, as_sounding}
use Rattle.c_words.specs.Words.{as_part, as_supplied}
use Rattle.c_words.proofs.typed_of.Kinds as typed-of
use Rattle.c_words.proofs.typed_of.Reads as typed-of-reads
use Rattle.c_words.proofs.put_words.Kinds as put-words
use Rattle.c_words.proofs.put_words.Reads as put-words-reads
use Rattle.c_words.proofs.varint_words.Kinds as varint-words
use Rattle.c_words.proofs.varint_words.Reads as varint-words-reads
use Rattle.c_words.proofs.read_words.Kinds as read-words
use Rattle.c_words.proofs.read_words.Reads as read-words-reads
use Rattle.c_words.proofs.key_words.Kinds as key-words
use Rattle.c_words.proofs.key_words.Reads as key-words-reads
use Rattle.c_words.proofs.value_read_words.Kinds as value-read-words
use Rattle.c_words.proofs.value_read_words.Reads as value-read-words-reads
use Rattle.c_words.proofs.skipped_words.Kinds as skipped-words
use Rattle.c_words.proofs.skipped_words.Reads as skipped-words-reads
use Rattle.c_words.proofs.step_words.Kinds as step_words
use Rattle.c_words.proofs.step_words.Reads as step-words-reads
use Rattle.c_words.proofs.key_len_words.Kinds as key-len-words
use Rattle.c_words.proofs.key_len_words.Reads as key-len-words-reads
use Rattle.c_words.proofs.written_words.Kinds as written-words
use Rattle.c_words.proofs.written_words.Reads as written-words-reads
use Rattle.c_words.proofs.inserted_words.Kinds as inserted-words
use Rattle.c_words.proofs.inserted_words.Reads as inserted-words-reads
use Rattle.c_words.proofs.pick_words.Kinds as pick-words
use Rattle.c_words.proofs.pick_words.Reads as pick-words-reads
use Rattle.c_words.proofs.several_words.Kinds as several-words
use Rattle.c_words.proofs.several_words.Reads as several-words-reads
use Rattle.c_words.proofs.early_words.Kinds as early-words
use Rattle.c_words.proofs.early_words.Reads as early-words-reads
use Rattle.c_words.proofs.sounding_words.Kinds as sounding-words
use Rattle.c_words.proofs.sounding_words.Reads as sounding-words-reads
use Rattle.c_words.proofs.indexed_words.Kinds as indexed-words
use Rattle.c_words.proofs.indexed_words.Reads as indexed-words-reads
use Rattle.c_words.proofs.run_count_words.Kinds as run-count-words
use Rattle.c_words.proofs.run_count_words.Reads as run-count-words-reads
use Rattle.c_words.proofs.run_value_words.Kinds as run-value-words
use Rattle.c_words.proofs.run_value_words.Reads as run-value-words-reads
use Rattle.c_words.proofs.supplier_words.Kinds as supplier-words
use Rattle.c_words.proofs.supplier_words.Reads as supplier-words-reads
use Rattle.c_words.proofs.supply_words.Kinds as supply-words
use Rattle.c_words.proofs.supply_words.Reads as supply-words-reads

pub typed-of-one : One 0 typed-of.ps typed-of.r typed-of-reads.Post (λ κs r s. r)
typed-of-one κs a x y s t p q = p ∙ sym q

pub put-words-one : One 0 put-words.ps put-words.r put-words-reads.Post (λ κs r s. as_number r)
put-words-one κs a x y s t p q = p ∙ sym q

pub varint-words-one : One 0 varint-words.ps varint-words.r varint-words-reads.Post (λ κs r s. as_varint r)
varint-words-one κs a x y s t p q = p ∙ sym q

pub read-words-one : One 0 read-words.ps read-words.r read-words-reads.Post (λ κs r s. as_read r)
read-words-one κs a x y s t p q = p ∙ sym q

pub key-words-one : One 0 key-words.ps key-words.r key-words-reads.Post (λ κs r s. as_key r)
key-words-one κs a x y s t p q = p ∙ sym q

pub value-read-words-one : One 0 value-read-words.ps value-read-words.r value-read-words-reads.Post (λ κs r s. as_value r)
value-read-words-one κs a x y s t p q = p ∙ sym q

pub skipped-words-one : One 0 skipped-words.ps skipped-words.r skipped-words-reads.Post (λ κs r s. as_place r)
skipped-words-one κs a x y s t p q = p ∙ sym q

pub step-words-one : One 0 step_words.ps step_words.r step-words-reads.Post (λ κs r s. as_step r)
step-words-one κs a x y s t p q = p ∙ sym q

pub key-len-words-one : One 0 key-len-words.ps key-len-words.r key-len-words-reads.Post (λ κs r s. as_number r)
key-len-words-one κs a x y s t p q = p ∙ sym q

pub written-words-one : One 0 written-words.ps written-words.r written-words-reads.Post (λ κs r s. as_written r)
written-words-one κs a x y s t p q = p ∙ sym q

pub inserted-words-one : One 0 inserted-words.ps inserted-words.r inserted-words-reads.Post (λ κs r s. as_number r)
inserted-words-one κs a x y s t p q = p ∙ sym q

pub pick-words-one : One 0 pick-words.ps pick-words.r pick-words-reads.Post (λ κs r s. as_picked r)
pick-words-one κs a x y s t p q = p ∙ sym q

pub several-words-one : One 0 several-words.ps several-words.r several-words-reads.Post (λ κs r s. as_several r)
several-words-one κs a x y s t p q = p ∙ sym q

pub early-words-one : One 0 early-words.ps early-words.r early-words-reads.Post (λ κs r s. as_early r)
early-words-one κs a x y s t p q = p ∙ sym q

pub sounding-words-one : One 0 sounding-words.ps sounding-words.r sounding-words-reads.Post (λ κs r s. as_sounding r)
sounding-words-one κs a x y s t p q = p ∙ sym q

pub indexed-words-one : One 0 indexed-words.ps indexed-words.r indexed-words-reads.Post (λ κs r s. as_number r)
indexed-words-one κs a x y s t p q = p ∙ sym q

pub run-count-words-one : One 0 run-count-words.ps run-count-words.r run-count-words-reads.Post (λ κs r s. as_number r)
run-count-words-one κs a x y s t p q = p ∙ sym q

pub run-value-words-one : One 0 run-value-words.ps run-value-words.r run-value-words-reads.Post (λ κs r s. as_picked r)
run-value-words-one κs a x y s t p q = p ∙ sym q

pub supplier-words-one : One 0 supplier-words.ps supplier-words.r supplier-words-reads.Post (λ κs r s. as_supplied r)
supplier-words-one κs a x y s t p q = p ∙ sym q

pub supply-words-one : One 0 supply-words.ps supply-words.r supply-words-reads.Post (λ κs r s. as_part r)
supply-words-one κs a x y s t p q = p ∙ sym q
