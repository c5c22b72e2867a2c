-- Five tests in a row.
use native.Mathlib.Omega.{arith}
use Rattle.index.proofs.Sounding.{entry-low, entry-tag, entry_place, entry-none, entry-last}
use Rattle.index.proofs.sound_entry.Goals as goal

pub returns-then-tag-least : goal.returns-then-tag-least
returns-then-tag-least c = entry-low _ _ _ _ _ _ c.if-tag-least.true

pub returns-then-tag-gt-LAST_TAG : goal.returns-then-tag-gt-LAST_TAG
returns-then-tag-gt-LAST_TAG c = entry-tag _ _ _ _ _ _ c.if-tag-least.false (omega arith)

pub returns-then-places-place : goal.returns-then-places-place
returns-then-places-place c = entry_place _ _ _ _ _ _ c.if-tag-least.false (omega arith) c.if-places-place.true

pub returns-then-count-eq0 : goal.returns-then-count-eq0
returns-then-count-eq0 c = entry-none _ _ _ _ _ _ c.if-tag-least.false (omega arith) c.if-places-place.false c.if-count-eq0.true

pub returns : goal.returns
returns c = entry-last _ _ _ _ _ _ c.if-tag-least.false (omega arith) c.if-places-place.false c.if-count-eq0.false
