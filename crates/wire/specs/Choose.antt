-- A choice by a test.
use Rattle.std.specs.Prelude.{◌≡◌, refl, Bool, true, false}

-- the first where the test holds, else the second
abbrev pub choose : {A : Type 0} → Bool → A → A → A
choose true a b = a
choose false a b = b

-- two tests, the second where the first holds
pub both : (a b : Bool) → choose a b false ≡ true → (a ≡ true) × (b ≡ true)
both true b e = (refl, e)
both false b e = (cc, cc)
