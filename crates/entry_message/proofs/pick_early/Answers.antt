-- The gate, then the core.
use mathlib.Core.Path.{◌∙◌, sym}
use Rattle.entry_answer.specs.Gate.{through-shut, through-open}
use Rattle.entry_message.specs.Messages.{early_entry}
use Rattle.entry_message.proofs.pick_early.Goals as goal

pub returns-in-Shut : goal.returns-in-Shut
unfolding early_entry
returns-in-Shut c = sym (through-shut _ _ (sym c.gate.ensures ∙ c.in-Shut.is))

pub returns : goal.returns
unfolding early_entry
returns c = c.find_early.ensures ∙ sym (through-open _ _ (sym c.gate.ensures ∙ c.in_default.is))
