-- The gate, then the run.
use mathlib.Core.Path.{◌≡◌, ◌∙◌, sym}
use lib.ListN.{length}
use Rattle.entry_answer.specs.Gate.{gated}
use Rattle.entry_answer.specs.declared.Gated.TheVariants.{Open}
use Rattle.run_read.specs.Runs.{count-shut, count-open}
use Rattle.run_read.proofs.run_count.Goals as goal

pub returns-in-Shut : goal.returns-in-Shut
returns-in-Shut c = sym (count-shut _ _ _ (sym c.gate.ensures ∙ c.in-Shut.is))

pub returns : goal.returns
returns c =
    let opens : gated (length c.args.s.now) 0 (length c.args.s.now) ≡ Open = sym c.gate.ensures ∙ c.in_default.is in
    c.count_values.ensures ∙ sym (count-open _ _ opens)
