-- The report's lines, one after the other, and which answer each way through the code has.
-- Assumes nothing.
use mathlib.Core.Path.{◌≡◌, ap}
use mathlib.Core.Bool.{true, false}
use mathlib.Core.List.{List, [], ◌∷◌, ◌++◌}
use Prim.Native.Nat.{ℕ, suc, ◌+◌, ◌*◌, ◌-◌, ◌≤◌, ◌<◌}
use native.Mathlib.Omega.{arith}
use borrow.Author.Tests.{le-leb, lt-leb, lt-ltb, le-ltb}
use lib.Dec.{leb}
use lib.ListN.{length}
use lib.Seq.{sets}
use Rattle.std.specs.Prelude.{Ok, Err}
use Rattle.std.specs.declared.result.Result.{Result}
use Rattle.words.specs.Answer.{nowhere, result_of}
use Rattle.words.specs.declared.refusals.Refusal.{Refusal}
use Rattle.text.specs.Text.{decimal, field}
use Rattle.text.specs.Wrote.{Wrote}
use Rattle.text.specs.declared.Writer.{Writer}
use Rattle.text.proofs.WritingLaws.{wrote_none, wrote_then, wrote_wide}
use Rattle.report.specs.Batch.{batch_at, batch_form}
use Rattle.report.specs.BatchText.{report_line, line_of_two, parts_name, bits_name, lanes_name, rounds_name, empty_name, words_name, occupancy_name, refused_name, total_lines, occupancy_line, refused_line, refused_lines, report_text, report_answer, report_after}
use Rattle.report.proofs.BatchLaws.{form_in, form_product}

pub line_wrote : (name : List ℕ) (x : ℕ) {a b c : Writer} → length name ≤ 10
    → Wrote (length name) name a b → Wrote 21 (decimal x ++ (10 ∷ [])) b c → Wrote 31 (report_line name x) a c
unfolding report_line
line_wrote name x h f g = wrote_wide (omega arith) (wrote_then name (decimal x ++ (10 ∷ [])) f g)

pub two_wrote : (name : List ℕ) (x y : ℕ) {a b c d : Writer} → length name ≤ 10
    → Wrote (length name) name a b → Wrote 21 (field x) b c → Wrote 21 (decimal y ++ (10 ∷ [])) c d → Wrote 52 (line_of_two name x y) a d
unfolding line_of_two
two_wrote name x y h f g e = wrote_wide (omega arith) (wrote_then name (field x ++ (decimal y ++ (10 ∷ []))) f (wrote_then (field x) (decimal y ++ (10 ∷ [])) g e))

-- a line of a word that was read
pub line_of_word : (name : List ℕ) (x y : ℕ) {a b : Writer} → x ≡ y → Wrote 31 (report_line name x) a b → Wrote 31 (report_line name y) a b
line_of_word name x y e f = rw (← e) f

pub totals_wrote : (l : List ℕ) {a b c d e f g : Writer} → Wrote 31 (report_line parts_name (batch_at l 1)) a b → Wrote 31 (report_line bits_name (batch_at l 2)) b c
    → Wrote 31 (report_line lanes_name (batch_at l 3)) c d → Wrote 31 (report_line rounds_name (batch_at l 4)) d e → Wrote 31 (report_line empty_name (batch_at l 5)) e f
    → Wrote 31 (report_line words_name (batch_at l 6)) f g → Wrote 186 (total_lines l) a g
unfolding total_lines
totals_wrote l p q r s t u = wrote_then _ _ p (wrote_then _ _ q (wrote_then _ _ r (wrote_then _ _ s (wrote_then _ _ t u))))

-- a refusal's line
module _ (b : List ℕ) (k : ℕ) where
  pub refusal_none : (count : ℕ) → count ≡ batch_at b (8 + k) → count ≤ 0 → (w : Writer) → Wrote 52 (refused_line b k) w w
  unfolding refused_line
  refusal_none count e z w =
      let few : batch_at b (8 + k) ≤ 0 = omega arith in
      rw (le-ltb 0 (batch_at b (8 + k)) few, refused_line) (wrote_none 52 w)

  pub refusal_some : (count : ℕ) {v w : Writer} → count ≡ batch_at b (8 + k) → 0 < count → Wrote 52 (line_of_two refused_name k count) v w → Wrote 52 (refused_line b k) v w
  unfolding refused_line
  refusal_some count e z f =
      let some-parts : 0 < batch_at b (8 + k) = omega arith in
      rw (lt-ltb 0 (batch_at b (8 + k)) some-parts, refused_line, ← e) f

  -- one line more
  pub refusals_step : k < 40 → refused_lines b (40 - k) k ≡ refused_line b k ++ refused_lines b (40 - (k + 1)) (k + 1)
  unfolding refused_lines
  refusals_step h = let a : 40 - k ≡ suc (40 - (k + 1)) = omega arith in rw (a, refused_lines)

  pub refusals_end : 40 ≤ k → refused_lines b (40 - k) k ≡ []
  unfolding refused_lines
  refusals_end h = let z : 40 - k ≡ 0 = omega arith in rw (z, refused_lines)

-- the occupancy
pub occupancy_wrote : (l : List ℕ) (x y z : ℕ) {a b : Writer} → x ≡ batch_at l 2 → z ≡ batch_at l 1 → y ≡ batch_at l 7
    → Wrote 52 (line_of_two occupancy_name x (32 * (y * z))) a b → Wrote 52 (occupancy_line l) a b
unfolding occupancy_line
occupancy_wrote l x y z ex ez ey f = rw (← ex, ← ey, ← ez) f

-- all lines
pub report_wrote : (l : List ℕ) {a b c d : Writer} → Wrote 186 (total_lines l) a b → Wrote 52 (occupancy_line l) b c → Wrote 2080 (refused_lines l 40 0) c d → Wrote 2318 (report_text l) a d
unfolding report_text
report_wrote l f g h = wrote_then (total_lines l) (occupancy_line l ++ refused_lines l 40 0) f (wrote_then (occupancy_line l) (refused_lines l 40 0) g h)

-- the product of a batch in form fits a word
pub occupancy_fits : (l : List ℕ) (y z : ℕ) → batch_form l ≡ true → y ≡ batch_at l 7 → z ≡ batch_at l 1 → y * z ≤ 25600000
occupancy_fits l y z form ey ez = rw (ey, ez) (form_product l (form_in l form))

-- ---- the answer

module _ (b out : List ℕ) where
  abbrev pub Printed : Result ℕ Refusal → List ℕ → Type 0
  Printed r new = (r ≡ result_of length (report_answer b (length out))) × (new ≡ report_after (report_answer b (length out)) out)

  pub not_batch : batch_form b ≡ false → Printed (Err (nowhere 5)) out
  unfolding report_answer report_after
  not_batch e = (rw (e, report_answer), rw (e, report_answer))

  module _ (form : batch_form b ≡ true) (n : ℕ) (long : n ≡ length (report_text b)) where
    pub text_short : length out < n → Printed (Err (nowhere 14)) out
    unfolding report_answer report_after
    text_short h =
        let s : leb (length (report_text b)) (length out) ≡ false = lt-leb (length (report_text b)) (length out) (omega arith) in
        (rw (form, s, report_answer), rw (form, s, report_answer))

    pub text_fits : (new : List ℕ) → n ≤ length out → new ≡ sets out 0 (report_text b) → Printed (Ok n) new
    unfolding report_answer report_after
    text_fits new h e =
        let s : leb (length (report_text b)) (length out) ≡ true = le-leb (length (report_text b)) (length out) (omega arith) in
        (rw (form, s, report_answer) (ap Ok long), rw (form, s, report_answer) e)
