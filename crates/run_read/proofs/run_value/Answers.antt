-- The gate, then the run.
use mathlib.Core.Path.{◌≡◌, ◌∙◌, sym}
use lib.ListN.{length}
use Rattle.entry_answer.specs.Gate.{gated}
use Rattle.entry_answer.specs.declared.Gated.TheVariants.{Open}
use Rattle.run_read.specs.Runs.{value-shut, value-open}
use Rattle.run_read.proofs.run_value.Goals as goal

pub returns-in-Shut : goal.returns-in-Shut
returns-in-Shut c = sym (value-shut _ _ _ _ (sym c.gate.ensures ∙ c.in-Shut.is))

pub returns : goal.returns
returns c =
    let opens : gated (length c.args.s.now) 0 (length c.args.s.now) ≡ Open = sym c.gate.ensures ∙ c.in_default.is in
    c.find_value.ensures ∙ sym (value-open _ _ _ opens)
