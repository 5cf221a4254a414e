-- Laws of a line as text, and of what a writer wrote of it.
-- Assumes nothing.
use mathlib.Core.Path.{◌≡◌, refl, ap}
use mathlib.Core.List.{[], ◌∷◌}
use Prim.Native.Nat.{ℕ, zero, suc, ◌-◌, ◌*◌, ◌/◌, ◌%◌, ◌^◌, ◌<◌}
use native.Mathlib.Nat.{not-suc-le-zero}
use native.Mathlib.Numerals.{sub-one}
use lib.ListN.{length}
use Rattle.text.specs.Text.{field}
use Rattle.text.specs.Wrote.{Wrote}
use Rattle.text.specs.declared.Writer.{Writer}
use Rattle.text.proofs.WritingLaws.{wrote_then}
use Rattle.listing_line.specs.Line.{hex_digit, hex_in, hex, kind_letter, line}

-- ---- hex digits

pub hex_length : (k n : ℕ) → length (hex_in k n) ≡ k
unfolding hex_in
hex_length zero n = refl
hex_length (suc k) n = ap suc (hex_length k n)

pub hex_top : (k n : ℕ) → 0 < k → hex_in k n ≡ hex_digit (n / 2 ^ (4 * (k - 1)) % 16) ∷ hex_in (k - 1) n
unfolding hex_in
hex_top zero n h = absurd (not-suc-le-zero h)
hex_top (suc k) n h = rw sub-one

-- ---- a line, field by field

pub wrote_fields : (i r w m : ℕ) {k : ℕ} {a b c d e f g h : Writer} → Wrote 21 (field i) a b → Wrote 21 (field r) b c → k ≡ kind_letter w → Wrote 1 (k ∷ []) c d → Wrote 1 (32 ∷ []) d e
    → Wrote 21 (field (w % 2 ^ 31)) e f → Wrote 8 (hex m) f g → Wrote 1 (10 ∷ []) g h → Wrote 74 (line i r w m) a h
unfolding line
wrote_fields i r w m lane round is kind blank word mask feed =
    wrote_then (field i) _ lane
    (wrote_then (field r) _ round
    (wrote_then (kind_letter w ∷ 32 ∷ []) _ (wrote_then (kind_letter w ∷ []) (32 ∷ []) (rw is at kind) blank)
    (wrote_then (field (w % 2 ^ 31)) _ word (wrote_then (hex m) (10 ∷ []) mask feed))))
