-- Laws of writers: one byte, nothing, and one text after the other; and of a loop that writes.
-- Assumes nothing.
use mathlib.Core.Path.{◌≡◌, refl, sym, ap, subst, ◌∙◌}
use mathlib.Core.List.{List, [], ◌∷◌, ◌++◌}
use Prim.Native.Nat.{ℕ, ◌+◌, ◌≤◌}
use native.Mathlib.Omega.{arith}
use lib.ListN.{length, set, length-append}
use lib.Seq.{sets, set_out}
use Rattle.words.proofs.ListLaws.{sets_append}
use Rattle.text.specs.TextPut.{Put}
use Rattle.text.specs.Wrote.{Wrote, Begun}
use Rattle.text.specs.declared.Writer.{Writer}

pub put_byte : (l : List ℕ) (at b : ℕ) → Put 1 (b ∷ []) l at (set l at b) (at + 1)
put_byte l at b = record { ends = refl; holds = refl; short = omega arith }

-- past the lent bytes nothing is stored
pub put_past : (l : List ℕ) (at b : ℕ) → length l ≤ at → Put 1 (b ∷ []) l at l (at + 1)
put_past l at b h = record { ends = refl; holds = sym (set_out l at b h); short = omega arith }

put_then : {j k : ℕ} (xs ys : List ℕ) {a b c : List ℕ} {p q r : ℕ} → Put j xs a p b q → Put k ys b q c r → Put (j + k) (xs ++ ys) a p c r
put_then xs ys {a} {b} {c} {p} {q} {r} f g =
    record {
      ends = omega (arith, f.ends, g.ends, length-append xs ys);
      holds = g.holds ∙ (rw (f.ends, f.holds) (sym (sets_append a p xs ys)));
      short = omega (arith, f.short, g.short);
    }

-- ---- what a writer wrote

-- nothing
pub wrote_none : (k : ℕ) (w : Writer) → Wrote k [] w w
wrote_none k w = record { lent = refl; put = record { ends = omega arith; holds = refl; short = omega arith } }

-- one text after the other
pub wrote_then : {j k : ℕ} (xs ys : List ℕ) {a b c : Writer} → Wrote j xs a b → Wrote k ys b c → Wrote (j + k) (xs ++ ys) a c
wrote_then xs ys f g = record { lent = g.lent ∙ f.lent; put = put_then xs ys f.put g.put }

-- a text by another name, and with another bound
pub wrote_is : {k : ℕ} (xs ys : List ℕ) {a b : Writer} → xs ≡ ys → Wrote k xs a b → Wrote k ys a b
wrote_is {k} xs ys {a} {b} e f = subst (λ (l : List ℕ). Wrote k l a b) e f

pub wrote_wide : {j k : ℕ} {xs : List ℕ} {a b : Writer} → j ≤ k → Wrote j xs a b → Wrote k xs a b
wrote_wide h f = record { lent = f.lent; put = record { ends = f.put.ends; holds = f.put.holds; short = omega (arith, f.put.short) } }

pub wrote_as : {j k : ℕ} (xs ys : List ℕ) {a b : Writer} → xs ≡ ys → length ys ≤ k → Wrote j xs a b → Wrote k ys a b
wrote_as xs ys {a} {b} e h f =
    let g = wrote_is xs ys e f in
    record { lent = g.lent; put = record { ends = g.put.ends; holds = g.put.holds; short = omega (arith, g.put.ends) } }

-- a writer that began at the start of bytes, and has written a text
pub wrote_from : {k : ℕ} (xs : List ℕ) {out : List ℕ} {a b : Writer} → Begun out a → Wrote k xs a b → (b.at ≡ length xs) × (b.out.now ≡ sets out 0 xs)
wrote_from xs {out} {a} {b} s f = (omega (arith, f.put.ends, s.start), f.put.holds ∙ (rw (s.bytes, s.start)))

-- ---- a loop that writes: what is written, with the rest of the text, makes the whole; at most `done` bytes are written

pub record Writing (rest whole : List ℕ) (done : ℕ) (old new : Writer) : Type 0 where
  pub lent : new.out.ghost_name ≡ old.out.ghost_name
  pub held : sets new.out.now new.at rest ≡ sets old.out.now old.at whole
  pub count : new.at + length rest ≡ old.at + length whole
  pub short : new.at ≤ old.at + done

pub writing_start : (whole : List ℕ) (w : Writer) → Writing whole whole 0 w w
writing_start whole w = record { lent = refl; held = refl; count = refl; short = omega arith }

module _ {rest whole : List ℕ} {done : ℕ} {old new : Writer} (G : Writing rest whole done old new) where
  pub writing_more : {k more : ℕ} (xs rest' : List ℕ) {new' : Writer} → rest ≡ xs ++ rest' → Wrote k xs new new' → done + k ≤ more → Writing rest' whole more old new'
  writing_more {k} {more} xs rest' {new'} e f h =
      record {
        lent = f.lent ∙ G.lent;
        held = (rw (f.put.holds, f.put.ends) (sym (sets_append new.out.now new.at xs rest'))) ∙ ap (sets new.out.now new.at) (sym e) ∙ G.held;
        count = omega (arith, f.put.ends, length-append xs rest', ap length e, G.count);
        short = omega (arith, f.put.short, G.short);
      }

  pub writing_done : (k : ℕ) → rest ≡ [] → done ≤ k → Wrote k whole old new
  writing_done k z h =
      record {
        lent = G.lent;
        put = record {
          ends = omega (arith, G.count, ap length z);
          holds = ap (sets new.out.now new.at) (sym z) ∙ G.held;
          short = omega (arith, G.short);
        };
      }
