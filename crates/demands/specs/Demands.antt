-- WHAT WAS PROMISED, in one place. Each demand stands in our own words, and behind it the theorems that make it up, by name. A theorem here speaks of every
-- outcome that a contract allows, so of the programs and not of the definitions alone. What the definitions mean: docs/FORMAT.md, rule by rule.

-- ---- TWO SENTENCES FOR A FORECASTER

-- A missing value is never a number: where a level misses its temperature or its depression, sent as all ones or not at all, the table has 0 and all ones
-- in its place; and a number is in the table exactly if it was sent. 255 comes out for a depression exactly if 255 was sent.
pub use Rattle.sounding.proofs.Only.{accepted-tells, out-of-range-why}
pub use Rattle.sounding.specs.Promises.{Told, missing-stays-missing, only-if-sent, if-sent, only-if-255, if-255}
pub use Rattle.demands_sounding.specs.AllOnesAlone.{all-ones-outcome, c-all-ones-outcome}
-- The same of the second edition's four values; and a first-edition reader with room reads each sounding that is accepted, with the same first five words.
pub use Rattle.demands_graded.specs.Grades.{first-edition-reads-it, FirstReads, nine_words_lem, wind-stays-missing, wind-only-if-sent, wind-if-sent}
-- A graded sounding is taken exactly if its grade, the least of all fields', is not below the one that was named; else the first field below names the refusal.
-- What is taken with a grade is taken with every lower one. With the lowest, all ones alone refuses nothing but a station or a pressure.
pub use Rattle.demands_graded.specs.Grades.{Exactly, taken-exactly, least-of-all, least-is-one, least-not-canonical, monotone}
pub use Rattle.demands_graded.specs.GradedAllOnes.{graded-all-ones-alone, graded-all-ones}
-- A refusal leaves everything as it was: the words and bytes that were lent hold what they held. And what is accepted changes nothing outside its part.
pub use Rattle.demands_order.specs.Refusals.{Framed, encode-varint-frame, prepend-varint-frame, encode-key-frame, prepend-key-frame}
pub use Rattle.demands_order.specs.Refusals.{encode-message-frame, prepend-message-frame, insert-frame}
pub use Rattle.demands_order.proofs.Refusals.{read-message-frame, read-payload-frame}
pub use Rattle.demands_order.specs.Refusals.{read-sounding-frame}
pub use Rattle.demands_order.proofs.Refusals.{copy-message-frame}
pub use Rattle.demands_order.specs.Refusals.{c-encode-varint-frame, c-prepend-varint-frame, c-encode-key-frame, c-prepend-key-frame}
pub use Rattle.demands_order.specs.Refusals.{c-encode-message-frame, c-prepend-message-frame}
pub use Rattle.demands_order.proofs.Refusals.{c-read-message-frame, c-read-payload-frame}
pub use Rattle.demands_order.specs.Refusals.{c-insert-frame, c-read-sounding-frame}
pub use Rattle.demands_index.specs.IndexVerdict.{make-index-frame, read-line-frame, write-line-frame, c-make-index-frame, c-read-line-frame}
pub use Rattle.demands_index.specs.IndexVerdict.{c-write-line-frame}
pub use Rattle.demands_correct.specs.CorrectingVerdict.{write-corrected-frame, c-write-corrected-frame}
pub use Rattle.demands_graded.specs.GradedVerdict.{read-graded-frame, c-read-graded-frame}
-- ---- THE FIRST DEMAND: every entry takes every input and ends, and bad bytes, caps or tables get a numbered refusal

-- That it ends, and asks nothing of its caller, is in the contract of each function: no public one has a `requires`. Any two outcomes are equal
-- (Determined). Which number is told, exactly: that of the first condition of the entry's order that holds, and 0 exactly if none does.
pub use Rattle.demands_order.specs.Order.{Numbered, Ordered}
pub use Rattle.demands_order.specs.Verdicts.{decode-varint-number, decode-varint-capped-number, decode-key-number, decode-value-number}
pub use Rattle.demands_order.specs.Verdicts.{skip-field-number, step-at-number, more-at-number, has-more-number, take-step-number}
pub use Rattle.demands_order.specs.Verdicts.{step-through-number, count-fields-number, pick-at-number}
pub use Rattle.demands_order.proofs.Verdicts.{read-message-number, read-payload-number}
pub use Rattle.demands_order.specs.Verdicts.{pick-number, pick-early-number, encode-varint-number, prepend-varint-number}
pub use Rattle.demands_order.proofs.Verdicts.{copy-message-number}
pub use Rattle.demands_order.specs.Verdicts.{encode-key-number, prepend-key-number, key-len-number}
pub use Rattle.demands_order.proofs.Verdicts.{encode-message-number}
pub use Rattle.demands_order.proofs.Verdicts.{prepend-message-number, insert-number}
pub use Rattle.demands_sounding.specs.VerdictsC.{c-decode-varint-number, c-decode-varint-capped-number, c-encode-varint-number, c-prepend-varint-number}
pub use Rattle.demands_sounding.specs.VerdictsC.{c-decode-key-number, c-encode-key-number, c-prepend-key-number, c-key-len-number, c-decode-value-number}
pub use Rattle.demands_sounding.specs.VerdictsC.{c-skip-field-number, c-step-at-number, c-read-message-number, c-read-payload-number, c-pick-number}
pub use Rattle.demands_sounding.specs.VerdictsC.{c-pick-at-number, c-pick-early-number, c-encode-message-number, c-prepend-message-number}
pub use Rattle.demands_sounding.specs.VerdictsC.{c-insert-number}
pub use Rattle.demands_sounding.proofs.VerdictsC.{c-read-sounding-number}
pub use Rattle.demands_sounding.proofs.SoundingVerdict.{read-sounding-number}
pub use Rattle.demands_graded.specs.GradedVerdict.{read-graded-number, c-read-graded-number}
pub use Rattle.demands_index.specs.IndexVerdict.{make-index-number, pick-indexed-number, write-line-number, read-line-number}
pub use Rattle.demands_correct.specs.CorrectingVerdict.{corrected-by-number, write-corrected-number, c-corrected-by-number, c-write-corrected-number}
pub use Rattle.demands_index.specs.IndexVerdict.{c-make-index-number, c-pick-indexed-number, c-write-line-number, c-read-line-number}
-- ---- THE SECOND DEMAND: values, places and names are those of the rules

-- Reading and writing are held to the definitions by the contracts themselves. The cases of FORMAT.md that are marked P, over the programs:
pub use Rattle.demands_message.proofs.Cases.{told-cases}
-- for every source, table, count and buffer, what is written is the list that the records stand for
pub use Rattle.demands_message.specs.Writing.{encode-writes, prepend-writes}
-- what is measured is what is put; the signed mapping and back; the table of limits
pub use Rattle.demands_message.specs.Lengths.{encode-varint-measured, prepend-varint-measured, encode-key-measured, prepend-key-measured, signed_back}
pub use Rattle.demands_message.specs.Lengths.{unsigned_back, table-limits}
-- a buffer that is too short is told the length that is needed: it is enough for either writer, and nothing less is; both tell the same; no buffer measures
pub use Rattle.demands_message.specs.Needed.{Encodes, Prepends, Both, Enough, Sizes}
pub use Rattle.demands_message.proofs.Needed.{needed-is-enough, needed-both, no-buffer-measures, only-no-room-tells}
-- an insertion puts the new field behind all of an equal or lower tag, and a good table stays good
pub use Rattle.demands_message.specs.Inserting.{Inserting, fields, good-again}
-- the key words of an accepted message are the places of its keys, and from one to the next stands the whole field; a record put in or read from a run
-- has none; good tables that differ in nothing else are written alike; a key outside the source is BadRecord, and has no payload
pub use Rattle.demands_key.specs.Keys.{FieldOf, Keys, Twins}
pub use Rattle.demands_key.proofs.Keys.{key-words, encoded-alike, prepended-alike, run-alike}
pub use Rattle.demands_key.specs.Keys.{inserted-key, inserted-before, inserted-behind, run-keys, BadKey}
pub use Rattle.demands_key.proofs.Keys.{bad-encoded, bad-prepended, bad-inserted}
pub use Rattle.demands_key.proofs.Keys.{bad-payload}
-- a lookup that stops early answers as the full one does wherever that does not refuse
pub use Rattle.demands_message.specs.Early.{Promise, every-early}
-- a lookup through the index that was made of a message is the full pick; what that index means; which index fits a message
pub use Rattle.demands_index.specs.Indexing.{index-lookup, Means, index-meaning, fits-exactly, fits-made}
-- a line of an index there and back; what was made of a message can always be written
pub use Rattle.demands_index.specs.Lines.{line-again, line-read-back, old-line-comes-back-new, made-is-written}
-- where a read failed: in the slice, no earlier than the place told, and its bytes are those of a refused varint; no other word moved for it
pub use Rattle.demands_message.specs.Faults.{Located, Faulted, message-faulted, answers-else-same, StepFaulted, step-faulted}
pub use Rattle.demands_message.specs.FaultsEach.{Carries, varint-faulted, capped-faulted, key-faulted, value-faulted, skip-faulted}
-- the result of a correction over an original, tag by tag; it is the only such message; a correction applied again gives the same bytes; room of both
-- lengths is enough
pub use Rattle.demands_correct.specs.Correcting.{Result, corrected-fields, applied-again, nothing-to-correct-with, nothing-to-be-corrected}
pub use Rattle.demands_correct.specs.Correcting.{both-lengths-enough}
-- who supplies a tag, exactly; the part that is shown is the value there, and what `pick` finds
pub use Rattle.demands_correct.specs.Correcting.{Says, Why, supplier-says, supplier-if, repeated-only, supply-same, part_same}
pub use Rattle.demands_correct.specs.Correcting.{Value, ValueIn, part-is-the-value, c-part-same, correction-by-pick, original-by-pick}
-- a message under a cap and its bytes cut out: accepted together, the same fields, places moved by the start; refused, one of five pairs, and each occurs
pub use Rattle.demands_key.specs.Caps.{Relay, AsGood, caps, Met, pairs-met}
pub use Rattle.relay.specs.Pairs.{Pair}
pub use Rattle.relay.specs.Words.{moved_record}
-- a working copy is a plain list: after any calls it stands for the list with the same edits, is written as that list, and a refusal leaves room and table
pub use Rattle.demands_edit.specs.Plain.{Order, edited, edited_all}
pub use Rattle.demands_edit.specs.EditKeeps.{State, Keeps, remove-keeps, replace-keeps, insert-keeps}
pub use Rattle.demands_edit.specs.Editing.{Removing, Replacing, Putting, Does, Calls, one-call, after-any-calls, encode-as-the-list, prepend-as-the-list}
pub use Rattle.demands_edit.specs.EditVerdict.{remove-record-number, replace-payload-number, insert-payload-number}
pub use Rattle.demands_edit.specs.EditVerdict.{remove-record-frame, replace-payload-frame, insert-payload-frame}
pub use Rattle.demands_edit.specs.EditVerdict.{c-remove-record-number, c-replace-payload-number, c-insert-payload-number}
pub use Rattle.demands_edit.specs.EditVerdict.{c-remove-record-frame, c-replace-payload-frame, c-insert-payload-frame}
-- packing: the room and every record of it, by two closed forms
pub use Rattle.edit_pack.specs.PackTable.{Packs, Neat, neat}
-- ---- THE THIRD DEMAND: a message is refused exactly if no list of fields is written as it

-- A message read whole, with a table of at least half as many records as it has bytes, is refused exactly if no list of fields in non-falling tag order is
-- written as those bytes. Else the list handed out is the only such list ..
pub use Rattle.demands_message.specs.Reading.{Whole, Meant, Third}
pub use Rattle.demands_message.proofs.Reading.{third}
-- .. and writing it, forwards or from the end, gives the same bytes back
pub use Rattle.demands_message.proofs.Writing.{forwards, from-the-end}
-- .. and the same for runs of values of one wire type, with a table of as many records as the run has bytes, proved once for every type
pub use Rattle.demands_run.specs.Runs.{WholeRun, ThirdRun, run-third, run-back, run-back-short, run-writes}
pub use Rattle.demands_run.specs.Runs.{run-count-same, run-value-record, run-value-found, run-value-absent}
pub use Rattle.run_read.specs.Theorem.{run-of-fours, run-of-eights}
pub use Rattle.demands_run.specs.RunVerdict.{run-count-number, run-value-number, read-run-number, write-run-number, read-run-frame, write-run-frame}
pub use Rattle.demands_run.specs.RunVerdict.{c-run-count-number, c-run-value-number, c-read-run-number, c-write-run-number}
pub use Rattle.demands_run.specs.RunVerdict.{c-read-run-frame, c-write-run-frame}
