-- A refusal and a message without room leave the table; the rest is `fill`.
use mathlib.Core.Path.{◌≡◌, ◌∙◌, ap, sym}
use native.Mathlib.Omega.{arith}
use Prim.Native.Nat.{ℕ}
use mathlib.Core.List.{List}
use lib.ListN.{length}
use Rattle.wire.specs.Faults.{nowhere}
use Rattle.wire.specs.Marks.{marks}
use Rattle.wire.specs.Reading.{Fields, read_message}
use Rattle.wire.specs.Table.{filled}
use Rattle.wire.specs.declared.Field.{Field}
use Rattle.wire.specs.declared.Read.TheVariants.{Accepted, Refused}
use Rattle.wire.specs.declared.Refusal.TheVariants.{NoRoom}
use Rattle.message.specs.Deciding.{decided-fields, decided-refused}
use Rattle.message_table.specs.Into.{outcome, read_into, into-fault, into-no-room, into-fits}
use Rattle.message_table.specs.Second.{Fits}
use Rattle.message_table.proofs.read_into.Goals as goal

pub returns-then-table-n : goal.returns-then-table-n
returns-then-table-n c =
    let counted : (fs : List Field) × (read_message c.args.s.now c.args.start c.args.end ≡ Fields fs) × (length fs ≡ c.in-Fields.n) =
    decided-fields _ _ (sym c.decide.ensures ∙ c.in-Fields.is) in
    let t = c.args.table.now in
    let x = counted in
    let e = x.2 in
    ap (λ (n : ℕ). outcome (Refused NoRoom 0 n nowhere) t) (sym e) ∙ sym (into-no-room _ _ _ t x.0 x.1 (omega arith))

pub fill-requires : goal.fill-requires
fill-requires c =
    let counted : (fs : List Field) × (read_message c.args.s.now c.args.start c.args.end ≡ Fields fs) × (length fs ≡ c.in-Fields.n) =
    decided-fields _ _ (sym c.decide.ensures ∙ c.in-Fields.is) in
    let ready : Fits c.args.s.now c.args.start c.args.end c.args.table.now = let x = counted in
    let e = x.2 in
    record { fields = x.0; read = x.1; room = omega arith } in
    rw c.if-start-eq0.true at ready

pub returns-then-start-eq0 : goal.returns-then-start-eq0
returns-then-start-eq0 c =
    let counted : (fs : List Field) × (read_message c.args.s.now c.args.start c.args.end ≡ Fields fs) × (length fs ≡ c.in-Fields.n) =
    decided-fields _ _ (sym c.decide.ensures ∙ c.in-Fields.is) in
    let done : (u : List ℕ) → let a = c.args in
    u ≡ filled a.table.now (marks a.s.now a.start a.end) → outcome (Accepted a.end c.in-Fields.n) u ≡ read_into a.s.now a.start a.end a.table.now =
    λ u. λ f. let a = c.args in
    let t = a.table.now in
    let x = counted in
    let e = x.2 in
    ap (outcome (Accepted a.end c.in-Fields.n)) f
    ∙ ap (λ (n : ℕ). outcome (Accepted a.end n) (filled t (marks a.s.now a.start a.end))) (sym e)
    ∙ sym (into-fits _ _ _ t x.0 x.1 (omega arith)) in
    let a = c.args in
    done _ (c.fill.ensures ∙ ap (λ (p : ℕ). filled a.table.now (marks a.s.now p a.end)) (sym c.if-start-eq0.true))

pub fill-requires-in-Fields : goal.fill-requires-in-Fields
fill-requires-in-Fields c =
    let counted : (fs : List Field) × (read_message c.args.s.now c.args.start c.args.end ≡ Fields fs) × (length fs ≡ c.in-Fields.n) =
    decided-fields _ _ (sym c.decide.ensures ∙ c.in-Fields.is) in
    let ready : Fits c.args.s.now c.args.start c.args.end c.args.table.now = let x = counted in
    let e = x.2 in
    record { fields = x.0; read = x.1; room = omega arith } in
    ready

pub returns-in-Refused : goal.returns-in-Refused
returns-in-Refused c =
    into-fault _ _ _ _ (λ i. omega (arith, c.type_inv.s i)) c.refused.ensures
    (decided-refused _ _ _ (sym c.decide.ensures ∙ c.in-Refused.is))

pub returns-else-start-eq0 : goal.returns-else-start-eq0
returns-else-start-eq0 c =
    let counted : (fs : List Field) × (read_message c.args.s.now c.args.start c.args.end ≡ Fields fs) × (length fs ≡ c.in-Fields.n) =
    decided-fields _ _ (sym c.decide.ensures ∙ c.in-Fields.is) in
    let done : (u : List ℕ) → let a = c.args in
    u ≡ filled a.table.now (marks a.s.now a.start a.end) → outcome (Accepted a.end c.in-Fields.n) u ≡ read_into a.s.now a.start a.end a.table.now =
    λ u. λ f. let a = c.args in
    let t = a.table.now in
    let x = counted in
    let e = x.2 in
    ap (outcome (Accepted a.end c.in-Fields.n)) f
    ∙ ap (λ (n : ℕ). outcome (Accepted a.end n) (filled t (marks a.s.now a.start a.end))) (sym e)
    ∙ sym (into-fits _ _ _ t x.0 x.1 (omega arith)) in
    done _ c.fill-in-Fields.ensures
