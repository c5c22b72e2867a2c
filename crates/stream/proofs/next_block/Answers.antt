-- A read leaves the list of kinds as it was; a file's end leaves nothing there.
use Rattle.std.proofs.Common.{ℕ, ◌≡◌, List, map, slice_set, slice_index_or, sym, ◌∙◌, ap, arith}
use Rattle.std.proofs.lemmas.List.{set-set, set-get_or, map-set}
use Rattle.stream.specs.declared.Input.{Input}
use Rattle.stream.specs.declared.Input.TheVariants.{Nothing}
use Rattle.stream.specs.Inputs.{Kind, kind_of}
use Rattle.stream.proofs.next_block.Goals as goal

kinds_stay : (xs : List Input) (i : ℕ) (y : Input) → kind_of y ≡ kind_of (slice_index_or xs i Nothing)
    → map kind_of (slice_set xs i y) ≡ map kind_of xs
kinds_stay xs i y h =
    let at : Kind → List Kind = λ k. slice_set (map kind_of xs) i k in
    map-set kind_of xs i y
    ∙ ap at h
    ∙ sym (map-set kind_of xs i (slice_index_or xs i Nothing))
    ∙ ap (map kind_of) (set-get_or xs i Nothing)

pub returns-in-Err-clause-kinds : goal.returns-in-Err-clause-kinds
returns-in-Err-clause-kinds c = λ _. kinds_stay _ _ _ c.read_input.ensures.kind

pub returns-in-Ok-eq0-clause-gone : goal.returns-in-Ok-eq0-clause-gone
returns-in-Ok-eq0-clause-gone c = λ _. grind (arith, set-set)

pub returns-in-Ok-clause-kinds : goal.returns-in-Ok-clause-kinds
returns-in-Ok-clause-kinds c = λ _. kinds_stay _ _ _ c.read_input.ensures.kind
