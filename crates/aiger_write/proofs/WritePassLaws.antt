-- Laws of the two passes over a list, and of the whole writing.
-- Assumes nothing.
use mathlib.Core.Path.{◌≡◌, refl, sym, ap, subst, ◌∙◌}
use mathlib.Core.Bool.{Bool, true, false, ◌&&◌}
use mathlib.Core.List.{List, [], ◌∷◌, ◌++◌}
use Prim.Native.Nat.{ℕ, suc, ◌+◌, ◌*◌, ◌-◌, ◌%◌, ◌^◌, ◌<◌, ◌≤◌}
use native.Mathlib.Omega.{arith}
use borrow.Author.Tests.{ltb-true, ltb-false, leb-true, lt-ltb, le-leb, lt-leb, eqb-true, eq-eqb}
use lib.Dec.{leb, ltb, eqb}
use lib.ListN.{length, length-append}
use lib.Seq.{sets}
use Rattle.words.proofs.TestLaws.{and_true, not_true_false}
use Rattle.text.specs.Text.{decimal, decimal_in}
use Rattle.text.specs.Wrote.{Wrote, Begun}
use Rattle.text.specs.declared.Writer.{Writer}
use Rattle.text.proofs.WritingLaws.{Writing, writing_start, writing_more, writing_done, wrote_then, wrote_from}
use Rattle.std.specs.Prelude.{Some, None, Ok, Err}
use Rattle.std.specs.declared.result.Result.{Result}
use Rattle.gatelist.specs.ListWords.{list_pin, list_first, list_second, whole_gates}
use Rattle.words.specs.Answer.{Answer, good, nowhere, result_of}
use Rattle.words.specs.declared.refusals.Refusal.{Refusal}
use Rattle.aiger.specs.Writing.{difference_bytes, header_text, gate_bytes, gates_bytes, inputs_of, writable, text_of, write_aiger}
use Rattle.aiger.specs.AigerAnswer.{holding, file_after}
use Rattle.aiger.proofs.AigerGateLaws.{GateAs, ListAs}
use Rattle.aiger.proofs.AigerLaws.{ListWritable, list_writable, writable_list, whole_list, list_as, last_fits, as_writable, write_good, write_bad}
use Rattle.aiger_write.specs.WriteTold.{GateRight, right_of, list_judged}

-- ---- a gate

module _ (pin own first second : ℕ) where
  right_parts : right_of pin own first second ≡ true → (own ≡ pin) × (first < 2 * pin) × (second ≤ first)
  unfolding right_of
  right_parts e =
      let two = and_true (eqb own pin && ltb first (2 * pin)) (leb second first) e in
      let one = and_true (eqb own pin) (ltb first (2 * pin)) two.0 in
      (eqb-true _ _ one.0, ltb-true _ _ one.1, leb-true _ _ two.1)

  pub right_gate : pin ≤ 2 ^ 30 → right_of pin own first second ≡ true → GateRight pin first second
  right_gate h e = let R = right_parts e in record { fits = h; below = R.1; under = R.2 }

  parts_right : own ≡ pin → first < 2 * pin → second ≤ first → right_of pin own first second ≡ true
  unfolding right_of
  parts_right e lo h = rw (eq-eqb own pin e, lt-ltb first (2 * pin) lo, le-leb second first h)

-- the same of the words that were read
module _ (l : List ℕ) (g : ℕ) {p a b : ℕ} (P : p ≡ list_pin l g) (A : a ≡ list_first l g) (B : b ≡ list_second l g) where
  pub right_list : (pin : ℕ) {r t : Bool} → r ≡ right_of pin p a b → r ≡ t → right_of pin (list_pin l g) (list_first l g) (list_second l g) ≡ t
  right_list pin e f = rw (← P, ← A, ← B) (sym e ∙ f)

  pub long_list : (pin : ℕ) {k : ℕ} → k ≡ length (difference_bytes (2 * pin - a) ++ difference_bytes (a - b))
      → k ≡ length (difference_bytes (2 * pin - list_first l g) ++ difference_bytes (list_first l g - list_second l g))
  long_list pin e = rw (← A, ← B) e

-- ---- judging

not_writable : (l : List ℕ) → (ListWritable l → ⊥) → None ≡ list_judged (write_aiger l)
not_writable l h = ap list_judged (sym (write_bad l (not_true_false (writable l) (λ e. h (list_writable l e)))))

pub judged_cut : (l : List ℕ) → (length l % 3 ≡ 0 → ⊥) → None ≡ list_judged (write_aiger l)
judged_cut l h = not_writable l (λ W. h (omega (arith, whole_list l W)))

pub judged_large : (l : List ℕ) → 2 ^ 30 < inputs_of l + whole_gates l → None ≡ list_judged (write_aiger l)
judged_large l h = not_writable l (λ W. omega (arith, last_fits l W))

-- the gates before g are right, and their bytes with those from g on make the text
pub record Judging (l : List ℕ) (n g : ℕ) : Type 0 where
  pub upto : g ≤ whole_gates l
  pub each : (h : ℕ) → h < g → GateAs l h (inputs_of l + 1 + h)
  pub total : n + length (gates_bytes l (whole_gates l - g) g) ≡ length (text_of l)
  pub bound : n ≤ 71 + 10 * g

pub judging_start : (l : List ℕ) (i n : ℕ) → i ≡ inputs_of l → n ≡ length (header_text (i + whole_gates l) i 0 0 (whole_gates l)) → n ≤ 71 → Judging l n 0
unfolding text_of
judging_start l i n is e h =
    let all : whole_gates l - 0 ≡ whole_gates l = omega arith in
    let head : n ≡ length (header_text (inputs_of l + whole_gates l) (inputs_of l) 0 0 (whole_gates l)) = e ∙ ap (λ (k : ℕ). length (header_text (k + whole_gates l) k 0 0 (whole_gates l))) is in
    let both = length-append (header_text (inputs_of l + whole_gates l) (inputs_of l) 0 0 (whole_gates l)) (gates_bytes l (whole_gates l) 0) in
    record {
      upto = omega arith;
      each = λ k q. absurd (omega arith);
      total = rw all (omega arith);
      bound = omega arith;
    }

module _ {l : List ℕ} {n g : ℕ} (J : Judging l n g) (pin : ℕ) (pin-is : pin ≡ inputs_of l + 1 + g) where
  pub judging_next : (k : ℕ) → g < whole_gates l → right_of pin (list_pin l g) (list_first l g) (list_second l g) ≡ true
      → k ≡ length (difference_bytes (2 * pin - list_first l g) ++ difference_bytes (list_first l g - list_second l g)) → k ≤ 10 → Judging l (n + k) (g + 1)
  unfolding gates_bytes gate_bytes
  judging_next k h right is few =
      let R = right_parts pin (list_pin l g) (list_first l g) (list_second l g) right in
      let step : whole_gates l - g ≡ suc (whole_gates l - (g + 1)) = omega arith in
      let rest : List ℕ = gates_bytes l (whole_gates l - (g + 1)) (g + 1) in
      let gate : List ℕ = difference_bytes (2 * list_pin l g - list_first l g) ++ difference_bytes (list_first l g - list_second l g) in
      let own : k ≡ length gate = is ∙ ap (λ (p : ℕ). length (difference_bytes (2 * p - list_first l g) ++ difference_bytes (list_first l g - list_second l g))) (sym R.0) in
      let here : n + length (gate ++ rest) ≡ length (text_of l) = subst (λ (m : ℕ). n + length (gates_bytes l m g) ≡ length (text_of l)) step J.total in
      record {
        upto = omega arith;
        each = each J.each (record { pin = R.0 ∙ pin-is; first = omega (arith, R.1); second = R.2 });
        total = omega (arith, length-append gate rest);
        bound = omega (arith, J.bound);
      }
    where
      each : ((h : ℕ) → h < g → GateAs l h (inputs_of l + 1 + h)) → GateAs l g (inputs_of l + 1 + g) → (h : ℕ) → h < g + 1 → GateAs l h (inputs_of l + 1 + h)
      each before here h q = go (ltb h g) refl
        where
          go : (t : Bool) → ltb h g ≡ t → GateAs l h (inputs_of l + 1 + h)
          go true e = before h (ltb-true _ _ e)
          go false e = let over : g ≤ h = ltb-false _ _ e in let same : g ≡ h = omega arith in subst (λ (k : ℕ). GateAs l k (inputs_of l + 1 + k)) same here

  pub judging_bad : g < whole_gates l → right_of pin (list_pin l g) (list_first l g) (list_second l g) ≡ false → None ≡ list_judged (write_aiger l)
  judging_bad h wrong = not_writable l refuted
    where
      refuted : ListWritable l → ⊥
      refuted W =
          let G = (list_as l W).each g h in
          let yes = parts_right pin (list_pin l g) (list_first l g) (list_second l g) (G.pin ∙ sym pin-is) (omega (arith, G.first)) G.second in
          let z : true ≡ false = sym yes ∙ wrong in
          let y : ◌≡◌ {A = ℕ} 0 1 = cc in
          omega arith

module _ {l : List ℕ} {n g : ℕ} (J : Judging l n g) where
  pub judging_done : whole_gates l ≤ g → length l % 3 ≡ 0 → inputs_of l + whole_gates l ≤ 2 ^ 30 → Some n ≡ list_judged (write_aiger l)
  unfolding gates_bytes
  judging_done h whole fits =
      let upto = J.upto in
      let all : g ≡ whole_gates l = omega arith in
      let as-list : ListAs (whole_gates l) (inputs_of l + 1) l = record { long = omega arith; each = λ k q. J.each k (omega arith) } in
      let W = as_writable (whole_gates l) (inputs_of l + 1) l as-list (omega arith) (omega arith) in
      let none : whole_gates l - g ≡ 0 = omega arith in
      let length-is : n + 0 ≡ length (text_of l) = subst (λ (m : ℕ). n + length (gates_bytes l m g) ≡ length (text_of l)) none J.total in
      ap Some (omega arith) ∙ ap list_judged (sym (write_good l (writable_list l W)))

-- ---- writing

pub head_wrote : (m i a : ℕ) {u v w x y z : Writer} → Wrote 4 (97 ∷ 105 ∷ 103 ∷ 32 ∷ []) u v → Wrote 21 (decimal m ++ (32 ∷ [])) v w → Wrote 21 (decimal i ++ (32 ∷ [])) w x
    → Wrote 4 (48 ∷ 32 ∷ 48 ∷ 32 ∷ []) x y → Wrote 21 (decimal a ++ (10 ∷ [])) y z → Wrote 71 (header_text m i 0 0 a) u z
unfolding header_text decimal_in
head_wrote m i a mark last inputs zeros gates =
    wrote_then (97 ∷ 105 ∷ 103 ∷ 32 ∷ []) _ mark
    (wrote_then (decimal m ++ (32 ∷ [])) _ last (wrote_then (decimal i ++ (32 ∷ [])) _ inputs (wrote_then (48 ∷ 32 ∷ 48 ∷ 32 ∷ []) _ zeros gates)))

module _ (l : List ℕ) (good : writable l ≡ true) where
  pub list_fits : inputs_of l + whole_gates l ≤ 2 ^ 30
  list_fits = last_fits l (list_writable l good)

  pub gate_of_lem : (g : ℕ) {p a b : ℕ} → g < whole_gates l → p ≡ list_pin l g → a ≡ list_first l g → b ≡ list_second l g → GateRight p a b
  gate_of_lem g h P A B =
      let G = (list_as l (list_writable l good)).each g h in
      let fits = list_fits in
      let pin = G.pin in
      record { fits = omega arith; below = omega (arith, G.first); under = omega (arith, G.second) }

pub gates_start_lem : (l : List ℕ) (w : Writer) → Writing (gates_bytes l (whole_gates l - 0) 0) (gates_bytes l (whole_gates l) 0) 0 w w
gates_start_lem l w = let all : whole_gates l - 0 ≡ whole_gates l = omega arith in rw all (writing_start (gates_bytes l (whole_gates l) 0) w)

pub gates_more : (l : List ℕ) (g : ℕ) {p a b : ℕ} {old new new' : Writer} → g < whole_gates l
    → p ≡ list_pin l g → a ≡ list_first l g → b ≡ list_second l g → Writing (gates_bytes l (whole_gates l - g) g) (gates_bytes l (whole_gates l) 0) (10 * g) old new
    → Wrote 10 (difference_bytes (2 * p - a) ++ difference_bytes (a - b)) new new'
    → Writing (gates_bytes l (whole_gates l - (g + 1)) (g + 1)) (gates_bytes l (whole_gates l) 0) (10 * (g + 1)) old new'
unfolding gates_bytes gate_bytes
gates_more l g {p} {a} {b} h P A B G f =
    let step : whole_gates l - g ≡ suc (whole_gates l - (g + 1)) = omega arith in
    let rest : List ℕ = gates_bytes l (whole_gates l - (g + 1)) (g + 1) in
    let here : gates_bytes l (whole_gates l - g) g ≡ (difference_bytes (2 * p - a) ++ difference_bytes (a - b)) ++ rest = rw (P, A, B) (ap (λ (m : ℕ). gates_bytes l m g) step) in
    writing_more G (difference_bytes (2 * p - a) ++ difference_bytes (a - b)) rest here f (omega arith)

pub gates_done : (l : List ℕ) (g : ℕ) {old new : Writer} → whole_gates l ≤ g → g ≤ 2 ^ 30
    → Writing (gates_bytes l (whole_gates l - g) g) (gates_bytes l (whole_gates l) 0) (10 * g) old new → Wrote (10 * 2 ^ 30) (gates_bytes l (whole_gates l) 0) old new
unfolding gates_bytes
gates_done l g h few G =
    let none : whole_gates l - g ≡ 0 = omega arith in
    writing_done G (10 * 2 ^ 30) (ap (λ (m : ℕ). gates_bytes l m g) none) (omega arith)

pub text_wrote : (l : List ℕ) (i : ℕ) {j k : ℕ} {out : List ℕ} {a b c : Writer} → i ≡ inputs_of l → Begun out a → Wrote j (header_text (i + whole_gates l) i 0 0 (whole_gates l)) a b
    → Wrote k (gates_bytes l (whole_gates l) 0) b c → c.out.now ≡ sets out 0 (text_of l)
unfolding text_of
text_wrote l i {j} {k} {out} {a} {b} {c} e s f g =
    let head = subst (λ (n : ℕ). Wrote j (header_text (n + whole_gates l) n 0 0 (whole_gates l)) a b) e f in
    (wrote_from _ s (wrote_then (header_text (inputs_of l + whole_gates l) (inputs_of l) 0 0 (whole_gates l)) (gates_bytes l (whole_gates l) 0) head g)).1

-- ---- the whole

abbrev Answered : List ℕ → List ℕ → Result ℕ Refusal → List ℕ → Type 0
Answered l out r new = (r ≡ result_of length (holding (length out) (write_aiger l))) × (new ≡ file_after (holding (length out) (write_aiger l)) out)

not_written : (l out : List ℕ) (n : ℕ) (r : Result ℕ Refusal) → holding (length out) (write_aiger l) ≡ Answer.refused (nowhere n) → r ≡ Err (nowhere n) → Answered l out r out
unfolding file_after
not_written l out n r e f = (f ∙ ap (result_of length) (sym e), ap (λ (k : Answer (List ℕ)). file_after k out) (sym e))

holding_short : (o : ℕ) (t : List ℕ) → o < length t → holding o (good t) ≡ Answer.refused (nowhere 14)
unfolding holding
holding_short o t h = rw (lt-leb (length t) o h, holding)

holding_long : (o : ℕ) (t : List ℕ) → length t ≤ o → holding o (good t) ≡ good t
unfolding holding
holding_long o t h = rw (le-leb (length t) o h, holding)

-- refused by 33
pub write_other : (l out : List ℕ) (r : Result ℕ Refusal) → list_judged (write_aiger l) ≡ None → r ≡ Err (nowhere 33) → Answered l out r out
unfolding holding
write_other l out r e f = go (writable l) refl
  where
    go : (t : Bool) → writable l ≡ t → Answered l out r out
    go true p =
        let g : Some (length (text_of l)) ≡ None = ap list_judged (sym (write_good l p)) ∙ e in
        let z : ◌≡◌ {A = ℕ} 0 1 = cc in
        absurd (omega arith)
    go false p = not_written l out 33 r (ap (holding (length out)) (write_bad l p)) f

pub record Measured (l : List ℕ) (n : ℕ) : Type 0 where
  pub good : writable l ≡ true
  pub long : n ≡ length (text_of l)

pub measured : (l : List ℕ) (n : ℕ) → list_judged (write_aiger l) ≡ Some n → Measured l n
measured l n e = go (writable l) refl
  where
    go : (t : Bool) → writable l ≡ t → Measured l n
    go true p =
        let g : Some (length (text_of l)) ≡ Some n = ap list_judged (sym (write_good l p)) ∙ e in
        let same : length (text_of l) ≡ n = cc in
        record { good = p; long = sym same }
    go false p =
        let g : None ≡ Some n = ap list_judged (sym (write_bad l p)) ∙ e in
        let z : ◌≡◌ {A = ℕ} 0 1 = cc in
        absurd (omega arith)

module _ (l : List ℕ) (n : ℕ) (M : Measured l n) where
  -- refused by 14
  pub write_short : (out : List ℕ) (r : Result ℕ Refusal) → length out < n → r ≡ Err (nowhere 14) → Answered l out r out
  write_short out r small f =
      let long = M.long in
      not_written l out 14 r (ap (holding (length out)) (write_good l M.good) ∙ holding_short (length out) (text_of l) (omega arith)) f

  pub write_whole : (out new : List ℕ) → n ≤ length out → new ≡ sets out 0 (text_of l) → Answered l out (Ok n) new
  unfolding file_after
  write_whole out new room is =
      let long = M.long in
      let fits = ap (holding (length out)) (write_good l M.good) ∙ holding_long (length out) (text_of l) (omega arith) in
      (ap Ok long ∙ ap (result_of length) (sym fits), is ∙ ap (λ (k : Answer (List ℕ)). file_after k out) (sym fits))
