-- Bytes put into a room, seen in parts of it: those below the put, those put, those behind.
use Rattle.std.specs.Prelude.{ℕ, ◌+◌, ◌-◌, ◌≤◌, ◌≡◌, refl, List, ◌++◌, length, take, drop}
use Rattle.std.proofs.Common.{ap, ◌∙◌, sym, append_assoc, arith, length-append, length-drop, take-append-drop, length-take-le, take_at, drop_at, drop-drop}
use Rattle.std.proofs.lemmas.List.Edits.{sets, sets-eq}
use Rattle.std.proofs.lemmas.List.{take-append-le, drop-append-le}

-- a part of the front does not see what stands behind
front-part : (l m n : List ℕ) (p k : ℕ) → p + k ≤ length l → take k (drop p (l ++ m)) ≡ take k (drop p (l ++ n))
front-part l m n p k h =
    let d = length-drop p l in
    let a : (r : List ℕ) → take k (drop p (l ++ r)) ≡ take k (drop p l) =
    λ r. ap (take k) (drop-append-le p l r (omega arith)) ∙ take-append-le k (drop p l) r (omega arith) in
    a m ∙ sym (a n)

module _ (s : List ℕ) (p : ℕ) (xs : List ℕ) (fits : p + length xs ≤ length s) where
  whole : sets s p xs ≡ take p s ++ (xs ++ drop (p + length xs) s)
  whole = sets-eq xs s p fits ∙ append_assoc (take p s) xs (drop (p + length xs) s)

  low : length (take p s) ≡ p
  low = length-take-le p s (omega arith)

  reach : length (take p s ++ xs) ≡ p + length xs
  reach = length-append (take p s) xs ∙ ap (λ (n : ℕ). n + length xs) low

  pub put-up-to : take (p + length xs) (sets s p xs) ≡ take p s ++ xs
  put-up-to = ap (take (p + length xs)) (sets-eq xs s p fits) ∙ take_at (take p s ++ xs) (drop (p + length xs) s) (p + length xs) reach

  pub put_rest : drop (p + length xs) (sets s p xs) ≡ drop (p + length xs) s
  put_rest = ap (drop (p + length xs)) (sets-eq xs s p fits) ∙ drop_at (take p s ++ xs) (drop (p + length xs) s) (p + length xs) reach

  pub put-there : take (length xs) (drop p (sets s p xs)) ≡ xs
  put-there =
      ap (λ (l : List ℕ). take (length xs) (drop p l)) whole
      ∙ ap (take (length xs)) (drop_at (take p s) (xs ++ drop (p + length xs) s) p low)
      ∙ take_at xs (drop (p + length xs) s) (length xs) refl

  pub put-below : (q k : ℕ) → q + k ≤ p → take k (drop q (sets s p xs)) ≡ take k (drop q s)
  put-below q k h =
      ap (λ (l : List ℕ). take k (drop q l)) whole
      ∙ front-part (take p s) (xs ++ drop (p + length xs) s) (drop p s) q k (omega (arith, low))
      ∙ ap (λ (l : List ℕ). take k (drop q l)) (take-append-drop p s)

-- rooms that are the same from a place on are so from every later place on
pub drop-later : (s u : List ℕ) (p q : ℕ) → p ≤ q → drop p s ≡ drop p u → drop q s ≡ drop q u
drop-later s u p q h e =
    let n : p + (q - p) ≡ q = omega arith in
    let a : (l : List ℕ) → drop q l ≡ drop (q - p) (drop p l) = λ l. ap (λ (i : ℕ). drop i l) (sym n) ∙ sym (drop-drop (q - p) p l) in
    a s ∙ ap (drop (q - p)) e ∙ sym (a u)
