-- The gate, the room, then the entries.
use mathlib.Core.Path.{◌≡◌, ◌∙◌, sym}
use lib.ListN.{length}
use Rattle.entry_answer.specs.Gate.{gated}
use Rattle.entry_answer.specs.declared.Gated.TheVariants.{Open}
use Rattle.index_make.specs.Made.{fits-shut, fits-open, fits-none}
use Rattle.index_make.proofs.index_fits.Goals as goal

pub returns-in-Shut : goal.returns-in-Shut
returns-in-Shut c = fits-shut _ _ _ _ (sym c.gate.ensures ∙ c.in-Shut.is)

pub returns-then-index-tags : goal.returns-then-index-tags
returns-then-index-tags c =
    let opens : gated (length c.args.s.now) 0 (length c.args.s.now) ≡ Open = sym c.gate.ensures ∙ c.in_default.is in
    fits-none _ _ _ opens c.if-index-tags.true

pub returns : goal.returns
returns c =
    let opens : gated (length c.args.s.now) 0 (length c.args.s.now) ≡ Open = sym c.gate.ensures ∙ c.in_default.is in
    c.agree.ensures ∙ sym (fits-open _ _ _ opens)
