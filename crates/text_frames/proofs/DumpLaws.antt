-- The whole dump: printing the lines of a block one after another, and block after block, prints what the whole input prints.
use Rattle.std.specs.Prelude.{ℕ, ◌+◌, ◌≤◌, ◌≡◌, List, [], ◌++◌, length, drop}
use Rattle.std.proofs.Common.{ap, ◌∙◌, arith, length-append, drop_of_length-le}
use Rattle.std.proofs.lemmas.List.Edits.{sets}
use Rattle.place.specs.Place.{put-behind}
use Rattle.text_lines.specs.Lines.{count_up, Taking, take_line}
use Rattle.text_lines.specs.LineLaws.{whole, ended, lines-whole, lines-ended, keeps-none, whole-keeps, ended-keeps}
use Rattle.text_lines.specs.declared.Taken.TheVariants.{Line, Part}
use Rattle.text_frames.specs.Text.{printed}
use Rattle.text_frames.specs.Dump.{printed_from, number_after}
use Rattle.text_frames.specs.Print.{frame_room, Printing, print_frame}
use Rattle.text_frames.proofs.PrintLaws.{line-printed}
use Rattle.text_frames.specs.DumpLaws.{Filled, Ready, after_line, prints-then}

module _ {block out₀ : List ℕ} {used₀ n₀ : ℕ} {ks₀ rest₀ line : List ℕ} {chars n at : ℕ} {out : List ℕ} {used : ℕ}
    (f : Filled block out₀ used₀ n₀ ks₀ rest₀ line chars n at out used) where
  -- a whole line is taken and printed
  pub fill-line : {next k : ℕ} {line' bytes table : List ℕ} → Ready line bytes table out used → used + frame_room ≤ length out
      → ◌≡◌ {A = Taking} (record { answer = Line next k; line = line' }) (take_line block at line chars)
      → {used' : ℕ} {out' bytes' table' : List ℕ}
      → ◌≡◌ {A = Printing} (record { next = used'; out = out'; bytes = bytes'; table = table' }) (print_frame out used n line' k bytes table)
      → Filled block out₀ used₀ n₀ ks₀ rest₀ line' 0 (count_up n) next out' used'
  fill-line {next} {k} {line'} {bytes} {table} y h e {used'} {out'} p =
      let x = whole (drop at block) at line chars next k line' e in
      let w = whole-keeps x f.keeps in
      let l = w.1 ∙ y.chars in
      let t = printed n (f.ks ++ x.xs) in
      let z = line-printed out used n line' k bytes table h l y.byte_room y.word_room (f.ks ++ x.xs) w.0 in
      let u : used' ≡ used + length t = ap (λ (o : Printing). o.next) p ∙ z.0 in
      let o : out' ≡ sets out used t = ap (λ (q : Printing). q.out) p ∙ z.1 in
      let s : sets out used t ≡ sets out₀ used₀ (f.text ++ t) =
      rw (f.put, f.place) (put-behind out₀ used₀ f.text t) in
      record {
        text = f.text ++ t;
        ks = [];
        keeps = keeps-none line' (omega arith);
        place = omega (arith, f.place, length-append f.text t);
        put = o ∙ s;
        prints = prints-then f.prints
            (record {
              same = λ later. ap (printed_from n) (lines-whole x f.ks later) ∙ rw (after_line block at x);
              counts = λ later. ap (number_after n) (lines-whole x f.ks later) ∙ rw (after_line block at x);
            });
      }

  -- the block ends in a part of a line
  pub fill-part : {k : ℕ} {line' : List ℕ} → ◌≡◌ {A = Taking} (record { answer = Part k; line = line' }) (take_line block at line chars)
      → Filled block out₀ used₀ n₀ ks₀ rest₀ line' k n (length block) out used
  fill-part {k} {line'} e =
      let x = ended (drop at block) at line chars k line' e in
      record {
        text = f.text;
        ks = f.ks ++ drop at block;
        keeps = (ended-keeps x f.keeps).0;
        place = f.place;
        put = f.put;
        prints = record {
          same = λ later. f.prints.same later
              ∙ ap (λ (ls : List (List ℕ)). f.text ++ printed_from n ls) (lines-ended x f.ks later)
              ∙ rw (drop_of_length-le block {i = length block} (omega arith));
          counts = λ later. f.prints.counts later
              ∙ ap (number_after n) (lines-ended x f.ks later)
              ∙ rw (drop_of_length-le block {i = length block} (omega arith));
        };
      }
