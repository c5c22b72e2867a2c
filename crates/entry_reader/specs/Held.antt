-- What the functions over a reader promise (rule M9), each by one equation over what the reader holds; and how its test and its step belong together.
use Rattle.std.specs.Prelude.{ℕ, ◌≡◌, List}
use Rattle.std.proofs.Common.{sym, ◌∙◌}
use Rattle.std.specs.Borrow.{Bor}
use Rattle.wire.specs.declared.Refusal.{Refusal}
use Rattle.entry_field.specs.Fields.{step_entry}
use Rattle.entry_field.specs.Test.{more_entry, test_fault, no-more-end, end-no-more, refused-step}
use Rattle.entry_answer.specs.declared.More.{More}
use Rattle.entry_answer.specs.declared.More.TheVariants as more
use Rattle.entry_answer.specs.declared.Step.{Step}
use Rattle.entry_answer.specs.declared.Step.TheVariants as step
use Rattle.entry_reader.specs.declared.Reader.{Reader}

-- made of the message itself, a place, an end and a last tag
abbrev pub Made : Bor (List ℕ) → ℕ → ℕ → ℕ → Reader → Type 0
Made m place end last r = r ≡ record { message = m; place = place; end = end; last = last }

-- the test is the one of the message at the place
abbrev pub Tested : Reader → More → Type 0
Tested r t = t ≡ more_entry r.message.now r.place r.end

-- a step of a message at a place, up to an end, behind a last tag; and a reader's
abbrev pub StepOf : List ℕ → ℕ → ℕ → ℕ → Step → Type 0
StepOf m place end last s = s ≡ step_entry m place end last

abbrev pub Stepped : Reader → Step → Type 0
Stepped r s = StepOf r.message.now r.place r.end r.last s

-- ---- any outcomes of a test and of a step of one reader

module _ (r : Reader) {t : More} {s : Step} (a : Tested r t) (b : Stepped r s) where
  -- there is no more exactly if the step gives the end
  pub no-more-ends : t ≡ more.No → s ≡ step.End
  no-more-ends h = b ∙ no-more-end r.message.now r.place r.end r.last (sym a ∙ h)

  pub ends-no-more : s ≡ step.End → t ≡ more.No
  ends-no-more h = a ∙ end-no-more r.message.now r.place r.end r.last (sym b ∙ h)

  -- a refused test is a refused step, with the reader's place and last tag
  pub refused-refuses : (x : Refusal) → t ≡ more.Refused x → s ≡ step.Refused x r.place r.last (test_fault r.place x)
  refused-refuses x h = b ∙ refused-step r.message.now r.place r.end r.last x (sym a ∙ h)
