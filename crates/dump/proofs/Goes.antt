-- THE TEXT OF A BLOCK, AND OF A FILE'S END: the loop of stream_lines, with what `dump` prints of a line, puts the text that the input prints.
use Rattle.std.proofs.Common.{ℕ, ◌+◌, ◌≤◌, ◌<◌, ◌≡◌, refl, ap, ◌∙◌, List, [], ◌∷◌, append-nil, Bool, true, false, ltb, ltb-true, ltb-false, length, arith}
use Rattle.text_lines.specs.LineLaws.{Keeps, lines-last}
use Rattle.text_frames.specs.Print.{frame_room, Printing, print_frame}
use Rattle.text_frames.proofs.PrintLaws.{print-inside, line-printed}
use Rattle.text_frames.specs.DumpLaws.{Filled, fill_start}
use Rattle.text_frames.specs.DumpLaws as dumps
use Rattle.text_frames.proofs.DumpLaws.{fill-line, fill-part}
use Rattle.stream_lines.specs.Turns.{Memory, Turns, stops, part, turn, Ends}
use Rattle.dump.specs.Fills.{Puts, Judged, Ready, Fills, Closes}

-- a printing by its text, whatever it leaves in the scratch
as-printing : (p : Printing) {next : ℕ} {out : List ℕ} → next ≡ p.next → out ≡ p.out
    → record { next = next; out = out; bytes = p.bytes; table = p.table } ≡ p
as-printing p e f = rw (e, f)

turns-fill : {block : List ℕ} {m₀ m m' : Memory} → Turns Puts Judged frame_room block m m' → Fills block m₀ m → Fills block m₀ m'
turns-fill stops g = g
turns-fill (part e l) g = record { ready = record { chars = l ∙ g.ready.chars; inside = g.ready.inside }; filled = λ ks w. fill-part (g.filled ks w) e }
turns-fill {block} {m₀} {m} {m'} (turn {m' = t} {line = line} r e l p n rest) g =
    let q = p.text in
    let room : m.state.used + frame_room ≤ length m.out = omega (arith, r, g.ready.inside) in
    let y : dumps.Ready m.line q.bytes q.table m.out m.state.used =
    record { chars = g.ready.chars; byte_room = q.byte_room; word_room = q.word_room; inside = g.ready.inside } in
    let o = as-printing (print_frame m.out m.state.used m.state.number line _ q.bytes q.table) q.place q.text in
    turns-fill rest
    (record {
      ready = record { chars = ap length p.line ∙ l ∙ g.ready.chars; inside = p.inside };
      filled = λ ks w. rw (p.line, p.none, p.number, n) (fill-line (g.filled ks w) y room e o);
    })

pub block-fills : {block : List ℕ} {m m' : Memory} → Ready m → Turns Puts Judged frame_room block m m' → Fills block m m'
block-fills {block} {m} y t = turns-fill t (record { ready = y; filled = λ ks w. fill_start block m.state.number m.state.at m.out m.state.used w })

-- ---- a file's end

no-chars : {line ks : List ℕ} {chars : ℕ} → Keeps line chars ks → chars < 1 → ks ≡ []
no-chars {ks = []} w h = refl
no-chars {ks = k ∷ ks} w h = absurd (omega (arith, w.count))

module _ {m m' : Memory} (y : Ready m) (room : m.state.used + frame_room ≤ length m.out) (e : Ends Puts Judged m m') where
  end-none : m.state.chars < 1 → Closes m m'
  end-none h =
      rw (e.none h)
      (record {
        ready = y;
        none = omega arith;
        closed = λ ks w. let z = no-chars w h in record { put = rw z; place = rw z (omega arith); number = rw z };
      })

  end-line : 1 ≤ m.state.chars → Closes m m'
  end-line h =
      let p = (e.last h).0 in
      let q = p.text in
      record {
        ready = record { chars = ap length p.line ∙ y.chars; inside = p.inside };
        none = p.none;
        closed = λ ks w.
            let z = line-printed m.out m.state.used m.state.number m.line m.state.chars q.bytes q.table room y.chars q.byte_room q.word_room ks w in
            let l = lines-last ks (omega (arith, w.count)) in
            record { put = rw (l, append-nil) (q.text ∙ z.1); place = rw (l, append-nil) (q.place ∙ z.0); number = rw l p.number };
      }

  pub file-closes : Closes m m'
  file-closes = go (ltb m.state.chars 1) refl
    where
      go : (b : Bool) → ltb m.state.chars 1 ≡ b → Closes m m'
      go true b = end-none (ltb-true m.state.chars 1 b)
      go false b = end-line (ltb-false m.state.chars 1 b)

-- the text stays within the buffer
pub printed-inside : (out : List ℕ) (used n : ℕ) (line : List ℕ) (k : ℕ) (bytes table : List ℕ) {next : ℕ} {out' b t : List ℕ}
    → ◌≡◌ {A = Printing} (record { next = next; out = out'; bytes = b; table = t }) (print_frame out used n line k bytes table) → used ≤ length out
    → next ≤ length out
printed-inside out used n line k bytes table e h =
    omega (arith, ap (λ (o : Printing). o.next) e, print-inside out used n line k bytes table h)
