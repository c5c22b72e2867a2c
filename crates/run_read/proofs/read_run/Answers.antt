-- The gate, the run, the room; then the records are written.
use Prim.Native.Nat.{ℕ}
use mathlib.Core.Path.{◌≡◌, ◌∙◌, ap, sym}
use mathlib.Core.List.{List}
use native.Mathlib.Omega.{arith}
use lib.ListN.{length}
use Rattle.entry_answer.specs.Gate.{gated}
use Rattle.entry_answer.specs.declared.Gated.TheVariants.{Open}
use Rattle.entry_answer.specs.declared.RunCount.TheVariants as count
use Rattle.wire.specs.declared.Value.{Value}
use Rattle.run_read.specs.Packed.{Values, packed, run_filled}
use Rattle.run_read.specs.Runs.{count-values, count-refused, outcome, into_table, read-shut, read-refused, read-no-room, read_fits}
use Rattle.run_read.proofs.read_run.Goals as goal

pub returns-in-Shut : goal.returns-in-Shut
returns-in-Shut c = sym (read-shut _ _ _ _ (sym c.gate.ensures ∙ c.in-Shut.is))

pub returns-then-table-n : goal.returns-then-table-n
returns-then-table-n c =
    let opens : gated (length c.args.s.now) 0 (length c.args.s.now) ≡ Open = sym c.gate.ensures ∙ c.in_default.is in
    let counted : (vs : List Value) × (packed c.args.s.now c.args.wire ≡ Values vs) × (length vs ≡ c.in-Values.n) = count-values _ _ (sym c.count_values.ensures ∙ c.in-Values.is) in
    let x = counted in
    let e = x.2 in
    sym (read-no-room _ _ _ opens x.0 x.1 (omega (arith, c.if-table-n.true)))

pub fill-requires : goal.fill-requires
fill-requires c =
    let counted : (vs : List Value) × (packed c.args.s.now c.args.wire ≡ Values vs) × (length vs ≡ c.in-Values.n) = count-values _ _ (sym c.count_values.ensures ∙ c.in-Values.is) in
    let x = counted in
    let e = x.2 in
    record { values = x.0; read = x.1; room = omega (arith, c.if-table-n.false) }

pub returns-in-Refused : goal.returns-in-Refused
returns-in-Refused c =
    let opens : gated (length c.args.s.now) 0 (length c.args.s.now) ≡ Open = sym c.gate.ensures ∙ c.in_default.is in
    let m = count-refused _ _ (sym c.count_values.ensures ∙ c.in-Refused.is) in
    sym (read-refused _ _ _ opens _ m)

pub returns-else-table-n : goal.returns-else-table-n
returns-else-table-n c =
    let opens : gated (length c.args.s.now) 0 (length c.args.s.now) ≡ Open = sym c.gate.ensures ∙ c.in_default.is in
    let counted : (vs : List Value) × (packed c.args.s.now c.args.wire ≡ Values vs) × (length vs ≡ c.in-Values.n) = count-values _ _ (sym c.count_values.ensures ∙ c.in-Values.is) in
    let t = c.args.table.now in
    let x = counted in
    let e = x.2 in
    ap (outcome (count.Values c.in-Values.n)) (c.fill.ensures ∙ ap (into_table t) x.1)
    ∙ ap (λ (j : ℕ). outcome (count.Values j) (run_filled t x.0)) (sym e)
    ∙ sym (read_fits _ _ t opens x.0 x.1 (omega (arith, c.if-table-n.false)))
