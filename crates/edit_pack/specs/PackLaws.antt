-- PACKING KEEPS EVERY PAYLOAD. Over spans by index that are apart: what holds as the loop goes, and the two closed forms at its end.
use Rattle.std.specs.Prelude.{ℕ, zero, suc, ◌+◌, ◌-◌, ◌≤◌, ◌<◌, ◌≡◌, refl, Bool, true, false, List, [], ◌∷◌, ◌++◌, ◌⊎◌, ltb, length, take, drop}
use Rattle.std.proofs.Math.Path.{ap}
use Rattle.std.proofs.Common.{◌∙◌, sym, append_assoc, append-nil, arith, ltb-true, ltb-false, lt-ltb, le-ltb, take-append-drop, length-drop, length-take-le}
use Rattle.std.proofs.Math.Logic.{inl, inr}
use Rattle.std.proofs.lemmas.List.Edits.{sets}
use Rattle.std.proofs.Math.Seq.{length-sets}
use Rattle.edit_live.specs.Spans.{end, total, Nearest, next_live}
use Rattle.edit_live.specs.SpanLaws.{same_or_not, Apart, apart-any-two, Least, Nothing, seek-same}
use Rattle.edit_live.specs.declared.Span.{Span}
use Rattle.edit_pack.specs.Packing.{bytes_of, ordered, joined, before}
use Rattle.edit_pack.specs.Sums.{before-zero, before-gap, before-one, before-all}
use Rattle.edit_pack.specs.Stretches.{put-up-to, put_rest, put-there, put-below, drop-later}

-- ---- span i, once all that start before a place are packed

-- it has no bytes
pub record Idle (f₀ f : ℕ → Span) (i : ℕ) : Type 0 where
  pub none : (f₀ i).len ≡ 0
  pub same : f i ≡ f₀ i

-- it is where it was
pub record Waits (f₀ f : ℕ → Span) (from i : ℕ) : Type 0 where
  pub bytes : 0 < (f₀ i).len
  pub behind : from ≤ (f₀ i).start
  pub same : f i ≡ f₀ i

-- it is packed: behind the bytes of all that started before it, with the bytes that it had
pub record Done (c : ℕ) (s₀ s : List ℕ) (f₀ f : ℕ → Span) (from to i : ℕ) : Type 0 where
  pub bytes : 0 < (f₀ i).len
  pub past : (f₀ i).start < from
  pub span : f i ≡ record { start = before c f₀ (f₀ i).start; len = (f₀ i).len }
  pub low : end (f i) ≤ to
  pub kept : bytes_of s (f i) ≡ bytes_of s₀ (f₀ i)

abbrev pub Stands : ℕ → List ℕ → List ℕ → (ℕ → Span) → (ℕ → Span) → ℕ → ℕ → ℕ → Type 0
Stands c s₀ s f₀ f from to i = Idle f₀ f i ⊎ (Waits f₀ f from i ⊎ Done c s₀ s f₀ f from to i)

-- ---- the loop: all that start before `from` are packed, up to `to`; at most m are to come

pub record Packing (c : ℕ) (s₀ : List ℕ) (f₀ : ℕ → Span) (s : List ℕ) (f : ℕ → Span) (from to m : ℕ) : Type 0 where
  pub size : length s ≡ length s₀
  pub low : to ≤ from
  pub fuel : length s₀ - from ≤ m
  pub sum : to ≡ before c f₀ from
  pub each : (i : ℕ) → i < c → Stands c s₀ s f₀ f from to i
  pub rest : drop to s ≡ drop to s₀
  pub front : take to s ++ joined s₀ (ordered m (length s₀) c f₀ from) ≡ joined s₀ (ordered (length s₀) (length s₀) c f₀ 0)

module _ (c : ℕ) (s₀ : List ℕ) (f₀ : ℕ → Span) (inside : (i : ℕ) → i < c → end (f₀ i) ≤ length s₀) where
  pub pack-start : Packing c s₀ f₀ s₀ f₀ 0 0 (length s₀)
  pack-start =
      record {
        size = refl;
        low = omega arith;
        fuel = omega arith;
        sum = sym (before-zero c f₀);
        each = λ i h. go i (ltb 0 (f₀ i).len) refl;
        rest = refl;
        front = refl;
      }
    where
      go : (i : ℕ) (b : Bool) → ltb 0 (f₀ i).len ≡ b → Stands c s₀ s₀ f₀ f₀ 0 0 i
      go i true b = inr (inl (record { bytes = ltb-true 0 (f₀ i).len b; behind = omega arith; same = refl }))
      go i false b = inl (record { none = omega (arith, ltb-false 0 (f₀ i).len b); same = refl })

  module _ (apart : (i j : ℕ) → i < j → j < c → Apart (f₀ i) (f₀ j))
      {s : List ℕ} {f : ℕ → Span} {from to m : ℕ} (w : Packing c s₀ f₀ s f from to m) where
    -- the next is the next of the spans as they were
    next-same : next_live (length s₀) c f from ≡ next_live (length s₀) c f₀ from
    unfolding next_live
    next-same = ap (λ (x : Nearest). x.index) (seek-same (length s₀) c f f₀ from c (λ i h. go i (w.each i h)))
      where
        go : (i : ℕ) → Stands c s₀ s f₀ f from to i → (f i ≡ f₀ i) ⊎ (((f i).start < from) × ((f₀ i).start < from))
        go i (inl x) = inl x.same
        go i (inr (inl x)) = inl x.same
        go i (inr (inr x)) =
            let n : (f i).len ≡ (f₀ i).len = ap (λ (a : Span). a.len) x.span in
            inr (omega (arith, x.low, w.low, x.bytes), x.past)

    module _ {j : ℕ} (is : next_live (length s₀) c f from ≡ j) (l : Least c f from j) where
      -- it waits
      pub waiting : Waits f₀ f from j
      waiting = go (w.each j l.index)
        where
          go : Stands c s₀ s f₀ f from to j → Waits f₀ f from j
          go (inl x) = let n : (f j).len ≡ (f₀ j).len = ap (λ (a : Span). a.len) x.same in absurd (omega (arith, l.bytes, x.none))
          go (inr (inl x)) = x
          go (inr (inr x)) = absurd (omega (arith, x.low, w.low, l.behind, l.bytes))

      starts : (f j).start ≡ (f₀ j).start
      starts = ap (λ (a : Span). a.start) waiting.same

      sized : (f j).len ≡ (f₀ j).len
      sized = ap (λ (a : Span). a.len) waiting.same

      ends : end (f j) ≤ length s
      ends = omega (arith, starts, sized, w.size, inside j l.index)

      -- all others that wait start behind it
      others : (i : ℕ) → i < c → (i ≡ j → ⊥) → 0 < (f₀ i).len → from ≤ (f₀ i).start → end (f₀ j) ≤ (f₀ i).start
      others i h o b g = go (w.each i h) (apart-any-two c f₀ apart i j h l.index o)
        where
          go : Stands c s₀ s f₀ f from to i → Apart (f₀ i) (f₀ j) → end (f₀ j) ≤ (f₀ i).start
          go (inl x) a = absurd (omega (arith, x.none))
          go (inr (inr x)) a = absurd (omega (arith, x.past))
          go (inr (inl x)) (inr a) = a
          go (inr (inl x)) (inl a) =
              let e : (f i).start ≡ (f₀ i).start = ap (λ (a : Span). a.start) x.same in
              let n : (f i).len ≡ (f₀ i).len = ap (λ (a : Span). a.len) x.same in
              absurd (omega (arith, l.least i h (omega arith) (omega arith), starts))

      -- it goes behind the bytes of all that started before it
      lands : to ≡ before c f₀ (f₀ j).start
      lands = w.sum ∙ sym (before-gap c f₀ from (f₀ j).start waiting.behind (λ i h b g. go i h b g (same_or_not i j)))
        where
          go : (i : ℕ) → i < c → 0 < (f₀ i).len → from ≤ (f₀ i).start → (i ≡ j) ⊎ (i ≡ j → ⊥) → (f₀ j).start ≤ (f₀ i).start
          go i h b g (inl e) = rw e (omega arith)
          go i h b g (inr o) = omega (arith, others i h o b g)

      summed : to + (f j).len ≡ before c f₀ (end (f j))
      summed =
          let e = before-one c f₀ j l.index waiting.bytes (λ i h o b g. others i h o b (omega (arith, waiting.behind))) in
          omega (arith, lands, sized, e, ap (λ (a : Span). before c f₀ (end a)) waiting.same)

      -- ---- its bytes
      moved : length (bytes_of s (f j)) ≡ (f j).len
      moved = length-take-le (f j).len (drop (f j).start s) (omega (arith, length-drop (f j).start s, ends))

      same_bytes : bytes_of s (f j) ≡ bytes_of s₀ (f₀ j)
      same_bytes =
          ap (take (f j).len) (drop-later s s₀ to (f j).start (omega (arith, w.low, l.behind)) w.rest)
          ∙ ap (λ (a : Span). bytes_of s₀ a) waiting.same

      fits : to + length (bytes_of s (f j)) ≤ length s
      fits = omega (arith, ends, moved, w.low, l.behind)

      reach : to + length (bytes_of s (f j)) ≡ to + (f j).len
      reach = ap (λ (x : ℕ). to + x) moved

      rested : drop (to + (f j).len) (sets s to (bytes_of s (f j))) ≡ drop (to + (f j).len) s₀
      rested =
          ap (λ (x : ℕ). drop x (sets s to (bytes_of s (f j)))) (sym reach)
          ∙ put_rest s to (bytes_of s (f j)) fits
          ∙ drop-later s s₀ to (to + length (bytes_of s (f j))) (omega arith) w.rest
          ∙ ap (λ (x : ℕ). drop x s₀) reach

      there : bytes_of (sets s to (bytes_of s (f j))) (record { start = to; len = (f j).len }) ≡ bytes_of s₀ (f₀ j)
      there =
          ap (λ (x : ℕ). take x (drop to (sets s to (bytes_of s (f j))))) (sym moved)
          ∙ put-there s to (bytes_of s (f j)) fits
          ∙ same_bytes

      unrolled : ordered m (length s₀) c f₀ from ≡ f₀ j ∷ ordered (m - 1) (length s₀) c f₀ (end (f₀ j))
      unrolled =
          let e : m ≡ suc (m - 1) = omega (arith, w.fuel, w.size, l.behind, l.bytes, ends) in
          let n : next_live (length s₀) c f₀ from ≡ j = sym next-same ∙ is in
          ap (λ (x : ℕ). ordered x (length s₀) c f₀ from) e ∙ rw (n, lt-ltb j c l.index)

      fronted : take (to + (f j).len) (sets s to (bytes_of s (f j))) ++ joined s₀ (ordered (m - 1) (length s₀) c f₀ (end (f j)))
          ≡ joined s₀ (ordered (length s₀) (length s₀) c f₀ 0)
      fronted =
          ap (λ (x : ℕ). take x (sets s to (bytes_of s (f j))) ++ joined s₀ (ordered (m - 1) (length s₀) c f₀ (end (f j)))) (sym reach)
          ∙ ap (λ (x : List ℕ). x ++ joined s₀ (ordered (m - 1) (length s₀) c f₀ (end (f j)))) (put-up-to s to (bytes_of s (f j)) fits)
          ∙ ap (λ (x : List ℕ). (take to s ++ x) ++ joined s₀ (ordered (m - 1) (length s₀) c f₀ (end (f j)))) same_bytes
          ∙ ap (λ (x : Span). (take to s ++ bytes_of s₀ (f₀ j)) ++ joined s₀ (ordered (m - 1) (length s₀) c f₀ (end x))) waiting.same
          ∙ append_assoc (take to s) (bytes_of s₀ (f₀ j)) (joined s₀ (ordered (m - 1) (length s₀) c f₀ (end (f₀ j))))
          ∙ ap (λ (x : List Span). take to s ++ joined s₀ x) (sym unrolled)
          ∙ w.front

      -- A TURN: it is moved down to `to`, its start is amended, and no other span's
      module _ (f' : ℕ → Span) (new : f' j ≡ record { start = to; len = (f j).len }) (old : (i : ℕ) → i < c → (i ≡ j → ⊥) → f' i ≡ f i) where
        abbrev Then : ℕ → Type 0
        Then i = Stands c s₀ (sets s to (bytes_of s (f j))) f₀ f' (end (f j)) (to + (f j).len) i

        packed-now : Done c s₀ (sets s to (bytes_of s (f j))) f₀ f' (end (f j)) (to + (f j).len) j
        packed-now =
            record {
              bytes = waiting.bytes;
              past = omega (arith, starts, l.bytes);
              span = new ∙ rw (sized, ← lands);
              low = omega (arith, ap end new);
              kept = ap (λ (a : Span). bytes_of (sets s to (bytes_of s (f j))) a) new ∙ there;
            }

        others-stand : (i : ℕ) → i < c → (i ≡ j → ⊥) → Stands c s₀ s f₀ f from to i → Then i
        others-stand i h o (inl x) = inl (record { none = x.none; same = old i h o ∙ x.same })
        others-stand i h o (inr (inl x)) =
            let g = others i h o x.bytes x.behind in
            inr (inl (record { bytes = x.bytes; behind = omega (arith, starts, sized, g); same = old i h o ∙ x.same }))
        others-stand i h o (inr (inr x)) =
            inr (inr
            (record {
              bytes = x.bytes;
              past = omega (arith, x.past, l.behind);
              span = old i h o ∙ x.span;
              low = omega (arith, ap end (old i h o), x.low);
              kept =
                  ap (λ (a : Span). bytes_of (sets s to (bytes_of s (f j))) a) (old i h o)
                  ∙ put-below s to (bytes_of s (f j)) fits (f i).start (f i).len x.low
                  ∙ x.kept;
            }))

        each_stands : (i : ℕ) → i < c → (i ≡ j) ⊎ (i ≡ j → ⊥) → Then i
        each_stands i h (inl e) = rw e (inr (inr packed-now))
        each_stands i h (inr o) = others-stand i h o (w.each i h)

        pub pack-more : Packing c s₀ f₀ (sets s to (bytes_of s (f j))) f' (end (f j)) (to + (f j).len) (m - 1)
        pack-more =
            record {
              size = length-sets s to (bytes_of s (f j)) ∙ w.size;
              low = omega (arith, w.low, l.behind);
              fuel = omega (arith, w.fuel, l.behind, l.bytes);
              sum = summed;
              each = λ i h. each_stands i h (same_or_not i j);
              rest = rested;
              front = fronted;
            }

    -- AT THE END: all are packed, behind one another in order of place, and every byte behind them is as it was
    module _ (none : next_live (length s₀) c f from ≡ c) (past : Nothing c f from) where
      pub settled : (i : ℕ) → i < c → Idle f₀ f i ⊎ Done c s₀ s f₀ f from to i
      settled i h = go (w.each i h)
        where
          go : Stands c s₀ s f₀ f from to i → Idle f₀ f i ⊎ Done c s₀ s f₀ f from to i
          go (inl x) = inl x
          go (inr (inl x)) =
              let e : (f i).start ≡ (f₀ i).start = ap (λ (a : Span). a.start) x.same in
              let n : (f i).len ≡ (f₀ i).len = ap (λ (a : Span). a.len) x.same in
              absurd (omega (arith, past i h (omega (arith, x.bytes)), x.behind))
          go (inr (inr x)) = inr x

      pub pack-total : to ≡ total c f₀
      pack-total = w.sum ∙ before-all c f₀ from (λ i h b. go i b (settled i h))
        where
          go : (i : ℕ) → 0 < (f₀ i).len → Idle f₀ f i ⊎ Done c s₀ s f₀ f from to i → (f₀ i).start < from
          go i b (inl x) = absurd (omega (arith, x.none))
          go i b (inr x) = x.past

      pub pack-room : s ≡ joined s₀ (ordered (length s₀) (length s₀) c f₀ 0) ++ drop (total c f₀) s₀
      pack-room =
          let n : next_live (length s₀) c f₀ from ≡ c = sym next-same ∙ none in
          sym (take-append-drop to s)
          ∙ ap (λ (x : List ℕ). x ++ drop to s) (sym (append-nil (take to s)) ∙ ap (λ (x : List Span). take to s ++ joined s₀ x) (sym (over m n)) ∙ w.front)
          ∙ ap (λ (x : List ℕ). joined s₀ (ordered (length s₀) (length s₀) c f₀ 0) ++ x) (w.rest ∙ ap (λ (x : ℕ). drop x s₀) pack-total)
        where
          over : (k : ℕ) → next_live (length s₀) c f₀ from ≡ c → ordered k (length s₀) c f₀ from ≡ []
          over zero n = refl
          over (suc k) n = rw (n, le-ltb c c (omega arith))
