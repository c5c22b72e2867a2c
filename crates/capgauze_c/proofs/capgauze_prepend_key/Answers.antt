-- A number that is no wire type, or what the face answers and leaves.
use mathlib.Core.Path.{◌∙◌, ap, sym}
use Rattle.c_words.specs.Words.{handed, stored_told, key-unknown, key-known}
use Rattle.capgauze_c.proofs.capgauze_prepend_key.Goals as goal

pub returns-in_default : goal.returns-in_default
returns-in_default c = handed c.put_words.ensures (sym (key-unknown _ _ _ (sym c.typed_of.ensures ∙ c.in_default.is)))

pub returns : goal.returns
returns c =
    handed c.put_words-2.ensures
    (ap stored_told c.prepend_key.ensures ∙ sym (key-known _ _ _ _ (sym c.typed_of.ensures ∙ c.in-Is.is)))
