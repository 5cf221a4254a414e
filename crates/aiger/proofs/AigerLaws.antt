-- The laws of reading and writing: what is written reads back as itself; what is read is written as the same bytes, under a header of its own; a list
-- that was read is never refused.
-- Assumes nothing.
use mathlib.Core.Path.{◌≡◌, refl, sym, ap, ap₂, subst, ◌∙◌}
use mathlib.Core.Bool.{Bool, true, false, ◌&&◌}
use mathlib.Core.List.{List, [], ◌++◌, append-nil}
use mathlib.Core.Option.{Option, none, some}
use Prim.Native.Nat.{ℕ, zero, suc, ◌+◌, ◌*◌, ◌-◌, ◌/◌, ◌^◌, ◌<◌, ◌≤◌}
use native.Mathlib.Omega.{arith}
use borrow.Author.Tests.{ltb-true, ltb-false, leb-true, le-leb, eqb-true, eq-eqb, lt-ltb}
use lib.Dec.{leb, ltb, lit<}
use lib.ListN.{length, take, drop, get_or-eq_default}
use lib.Seq.{drop-length, take-append_seam, drop-append_seam}
use Rattle.plan_record.specs.Record.{gates_of as planGates, gate_pin, gate_first, gate_second}
use Rattle.words.specs.Pins.{is_pin, is_pin_iv}
use Rattle.plan_record.specs.Form.{gate_form}
use Rattle.words.specs.Tests.{all_below}
use Rattle.words.proofs.TestLaws.{and_true, true_and, all_at, all_true, not_none, none_not}
use Rattle.gatelist.specs.GateList.{before_over, right_over, bad_over}
use Rattle.gatelist.specs.ListWords.{list_pin, list_first, list_second, whole_gates, all_gates, list_right, bad_list}
use Rattle.words.specs.Answer.{good, refused, nowhere}
use Rattle.words.proofs.AnswerLaws.{refused_good}
use Rattle.aiger.specs.Reading.{Header, last_variable, Start, gates_start, Gates, found, gates_from, gates_behind, Read, gates, gates_listed, read_aiger}
use Rattle.aiger.specs.Writing.{header_text, gates_bytes, follows, gate_writable, is_none, writable, inputs_of, text_of, write_aiger}
use Rattle.aiger.proofs.StandLaws.{Stands, stands_made, stands_then, Bytes}
use Rattle.aiger.proofs.AigerGateLaws.{GateAs, ListAs, list_read, gates_read, gates_written}
use Rattle.aiger.proofs.HeaderLaws.{header_read, header_written, start_read, start_written, start_fits}

-- ---- a list that may be written, gate by gate

-- what 6 says of a gate that is right
record Right (l : List ℕ) (g : ℕ) : Type 0 where
  there : 3 * g + 3 ≤ length l
  above : before_over (list_pin l) g < list_pin l g
  first : list_first l g / 2 < list_pin l g
  second : list_second l g / 2 < list_pin l g

right_parts : (l : List ℕ) (g : ℕ) → list_right l g ≡ true → Right l g
unfolding list_right right_over
right_parts l g e =
    let all = and_true (leb (3 * g + 3) (length l)) _ e in
    let two = and_true (ltb (before_over (list_pin l) g) (list_pin l g) && ltb (list_first l g / 2) (list_pin l g)) (ltb (list_second l g / 2) (list_pin l g)) all.1 in
    let one = and_true (ltb (before_over (list_pin l) g) (list_pin l g)) (ltb (list_first l g / 2) (list_pin l g)) two.0 in
    record { there = leb-true _ _ all.0; above = ltb-true _ _ one.0; first = ltb-true _ _ one.1; second = ltb-true _ _ two.1 }

parts_right : (l : List ℕ) (g : ℕ) → Right l g → list_right l g ≡ true
unfolding list_right right_over
parts_right l g R =
    true_and (leb (3 * g + 3) (length l)) _ (le-leb _ _ R.there)
    (true_and (ltb (before_over (list_pin l) g) (list_pin l g) && ltb (list_first l g / 2) (list_pin l g)) (ltb (list_second l g / 2) (list_pin l g))
    (true_and (ltb (before_over (list_pin l) g) (list_pin l g)) (ltb (list_first l g / 2) (list_pin l g)) (lt-ltb _ _ R.above) (lt-ltb _ _ R.first))
    (lt-ltb _ _ R.second))

record Writable (l : List ℕ) (g : ℕ) : Type 0 where
  fits : list_pin l g ≤ 2 ^ 30
  next : follows l g ≡ true
  under : list_second l g ≤ list_first l g

writable_parts : (l : List ℕ) (g : ℕ) → gate_writable l g ≡ true → Writable l g
unfolding gate_writable
writable_parts l g e =
    let two = and_true (leb (list_pin l g) (2 ^ 30) && follows l g) (leb (list_second l g) (list_first l g)) e in
    let one = and_true (leb (list_pin l g) (2 ^ 30)) (follows l g) two.0 in
    record { fits = leb-true _ _ one.0; next = one.1; under = leb-true _ _ two.1 }

parts_writable : (l : List ℕ) (g : ℕ) → Writable l g → gate_writable l g ≡ true
unfolding gate_writable
parts_writable l g W =
    true_and (leb (list_pin l g) (2 ^ 30) && follows l g) (leb (list_second l g) (list_first l g))
    (true_and (leb (list_pin l g) (2 ^ 30)) (follows l g) (le-leb _ _ W.fits) W.next) (le-leb _ _ W.under)

is_none_lem : (o : Option ℕ) → is_none o ≡ true → o ≡ none
is_none_lem none e = refl
is_none_lem (some g) e = let z : ◌≡◌ {A = ℕ} 0 1 = cc in absurd (omega arith)

pub record ListWritable (l : List ℕ) : Type 0 where
  pub right : bad_list l ≡ none
  pub each : all_below (gate_writable l) (whole_gates l) ≡ true

pub list_writable : (l : List ℕ) → writable l ≡ true → ListWritable l
unfolding writable
list_writable l e =
    let both = and_true (is_none (bad_list l)) (all_below (gate_writable l) (whole_gates l)) e in
    record { right = is_none_lem (bad_list l) both.0; each = both.1 }

pub writable_list : (l : List ℕ) → ListWritable l → writable l ≡ true
unfolding writable
writable_list l W = true_and (is_none (bad_list l)) (all_below (gate_writable l) (whole_gates l)) (ap is_none W.right) W.each

-- ---- a list that may be written has its pins in a row

module _ (l : List ℕ) (W : ListWritable l) where
  right_at : (g : ℕ) → g < all_gates l → Right l g
  unfolding bad_list
  right_at g h = right_parts l g (not_none (list_right l) (all_gates l) W.right g h)

  writable-at : (g : ℕ) → g < whole_gates l → Writable l g
  writable-at g h = writable_parts l g (all_at (gate_writable l) (whole_gates l) g W.each h)

  -- no gate is cut
  pub whole_list : length l ≡ 3 * whole_gates l
  whole_list = go (ltb (whole_gates l) (all_gates l)) refl
    where
      go : (t : Bool) → ltb (whole_gates l) (all_gates l) ≡ t → length l ≡ 3 * whole_gates l
      go true e = absurd (omega (arith, (right_at (whole_gates l) (ltb-true _ _ e)).there))
      go false e = let past : all_gates l ≤ whole_gates l = ltb-false _ _ e in omega arith

  pins : (g : ℕ) → g < whole_gates l → list_pin l g ≡ inputs_of l + 1 + g
  unfolding before_over follows
  pins zero h = let some-pin = (right_at 0 (omega arith)).above in omega arith
  pins (suc g) h =
      let one : list_pin l (suc g) ≡ list_pin l g + 1 = eqb-true _ _ (writable-at (suc g) h).next in
      let before = pins g (omega arith) in
      omega arith

  pub list_as : ListAs (whole_gates l) (inputs_of l + 1) l
  list_as = record { long = whole_list; each = each }
    where
      each : (g : ℕ) → g < whole_gates l → GateAs l g (inputs_of l + 1 + g)
      each g h =
          let R = right_at g (omega arith) in
          let first = R.first in
          let pin = pins g h in
          record { pin = pin; first = omega arith; second = (writable-at g h).under }

  pub last_fits : inputs_of l + whole_gates l ≤ 2 ^ 30
  last_fits = go (whole_gates l) refl
    where
      go : (n : ℕ) → whole_gates l ≡ n → inputs_of l + whole_gates l ≤ 2 ^ 30
      go zero e =
          let none : length l ≤ 3 * 0 = omega (arith, whole_list) in
          let pin : list_pin l 0 ≡ 0 = get_or-eq_default l 0 none in
          omega arith
      go (suc n) e =
          let last : list_pin l n ≡ inputs_of l + 1 + n = pins n (omega arith) in
          let fits : list_pin l n ≤ 2 ^ 30 = (writable-at n (omega arith)).fits in
          omega arith

-- ---- a file that is read, a list that is written

read_start : (bs : List ℕ) (s : Start) → gates_start bs ≡ some s → read_aiger bs ≡ gates_listed s.header (gates_behind bs s)
unfolding read_aiger
read_start bs s e = rw (e, read_aiger)

record FileRead (bs : List ℕ) (h : Header) (l : List ℕ) : Type 0 where
  start : Start
  next : ℕ
  start_is : gates_start bs ≡ some start
  gates_are : gates_behind bs start ≡ found l next
  header_is : h ≡ start.header

listed_parts : (k : Header) (r : Gates) (h : Header) (l : List ℕ) → gates_listed k r ≡ gates h l → (k ≡ h) × ((next : ℕ) × (r ≡ found l next))
listed_parts k (found m at) h l e =
    let is : ◌≡◌ {A = Read} (record { header = k; list = m }) (record { header = h; list = l }) = cc in
    (ap (λ (x : Read). x.header) is, (at, ap (λ (x : Read). found x.list at) is))
listed_parts k (Gates.refused n) h l e = let z : ◌≡◌ {A = ℕ} 0 1 = cc in absurd (omega arith)

file_parts : (bs : List ℕ) (h : Header) (l : List ℕ) → read_aiger bs ≡ gates h l → FileRead bs h l
unfolding read_aiger
file_parts bs h l e = go (gates_start bs) refl
  where
    go : (o : Option Start) → gates_start bs ≡ o → FileRead bs h l
    go none p =
        refused_good (nowhere 18) (record { header = h; list = l }) (rw (p, read_aiger) at e)
    go (some s) p =
        let both = listed_parts s.header (gates_behind bs s) h l (sym (read_start bs s p) ∙ e) in
        record { start = s; next = both.1.0; start_is = p; gates_are = both.1.1; header_is = sym both.0 }

pub write_good : (l : List ℕ) → writable l ≡ true → write_aiger l ≡ good (text_of l)
unfolding write_aiger
write_good l e = rw (e, write_aiger)

pub write_bad : (l : List ℕ) → writable l ≡ false → write_aiger l ≡ refused (nowhere 33)
unfolding write_aiger
write_bad l e = rw (e, write_aiger)

record ListWritten (l t : List ℕ) : Type 0 where
  good : writable l ≡ true
  is : t ≡ text_of l

write_parts : (l t : List ℕ) → write_aiger l ≡ good t → ListWritten l t
write_parts l t e = go (writable l) refl
  where
    go : (b : Bool) → writable l ≡ b → ListWritten l t
    go true p =
        let f : good (text_of l) ≡ good t = sym (write_good l p) ∙ e in
        let same : text_of l ≡ t = cc in
        record { good = p; is = sym same }
    go false p =
        refused_good (nowhere 33) t (sym (write_bad l p) ∙ e)

-- ---- read of write: a list that may be written, written, reads back as itself

abbrev pub own_header : List ℕ → Header
own_header l = record { inputs = inputs_of l; latches = 0; outputs = 0; gates = whole_gates l }

text_read : (l : List ℕ) → ListWritable l → read_aiger (text_of l) ≡ gates (own_header l) l
unfolding text_of
text_read l W =
    let n : ℕ = whole_gates l in
    let head : List ℕ = header_text (inputs_of l + n) (inputs_of l) 0 0 n in
    let body : List ℕ = gates_bytes l n 0 in
    let bs : List ℕ = head ++ body in
    let fits = last_fits l W in
    let first : Stands head bs 0 (length head) = stands_made head bs body refl (omega arith) in
    let second : Stands body bs (length head) (length head + length body) = stands_made body bs [] (drop-append_seam head body ∙ sym (append-nil body)) refl in
    let header = header_read (inputs_of l + n) (inputs_of l) 0 0 n bs (omega arith) fits (lit< tt) first in
    let start = start_read bs (own_header l) (length head) header refl in
    let variable : inputs_of l + 0 + 1 ≡ inputs_of l + 1 + 0 = omega arith in
    let list : gates_from bs n (inputs_of l + 0 + 1) (length head) ≡ found l (length head + length body) =
    ap (λ (v : ℕ). gates_from bs n v (length head)) variable ∙ gates_read l bs n (inputs_of l + 1) n 0 (list_as l W) (omega arith) (omega arith) second in
    read_start bs (record { header = own_header l; next = length head }) start ∙ ap (gates_listed (own_header l)) list

pub read_of_write : (l t : List ℕ) → write_aiger l ≡ good t → read_aiger t ≡ gates (own_header l) l
read_of_write l t e = let P = write_parts l t e in ap read_aiger P.is ∙ text_read l (list_writable l P.good)

-- ---- read is writable: a list that was read is never refused by 33

module _ (n v : ℕ) (l : List ℕ) (L : ListAs n v l) where
  as-right : 0 < v → (g : ℕ) → g < n → Right l g
  unfolding before_over
  as-right p zero h =
      let G = L.each 0 h in
      let long = L.long in
      let pin = G.pin in
      let first = G.first in
      let second = G.second in
      record { there = omega arith; above = omega arith; first = omega arith; second = omega arith }
  as-right p (suc g) h =
      let before = (L.each g (omega arith)).pin in
      let G = L.each (suc g) h in
      let long = L.long in
      let pin = G.pin in
      let first = G.first in
      let second = G.second in
      record { there = omega arith; above = omega arith; first = omega arith; second = omega arith }

  as-follows : (g : ℕ) → g < n → follows l g ≡ true
  unfolding follows
  as-follows zero h = refl
  as-follows (suc g) h =
      let before = (L.each g (omega arith)).pin in
      let here = (L.each (suc g) h).pin in
      let next : list_pin l (suc g) ≡ list_pin l g + 1 = omega arith in
      eq-eqb _ _ next

  pub as_writable : 0 < v → v + n ≤ suc (2 ^ 30) → ListWritable l
  unfolding bad_list
  as_writable p fits =
      let long = L.long in
      record {
        right = none_not (list_right l) (all_gates l) (λ g h. parts_right l g (as-right p g (omega arith)));
        each = all_true (gate_writable l) (whole_gates l) (λ g h. parts_writable l g (each g (omega arith)));
      }
    where
      each : (g : ℕ) → g < n → Writable l g
      each g h =
          let G = L.each g h in
          let pin = G.pin in
          record { fits = omega arith; next = as-follows g h; under = G.second }

module _ (bs : List ℕ) (s : Start) (l : List ℕ) (next : ℕ) (e : gates_start bs ≡ some s) (f : gates_behind bs s ≡ found l next) where
  pub gates_as : ListAs s.header.gates (s.header.inputs + s.header.latches + 1) l
  gates_as = list_read bs s.header.gates (s.header.inputs + s.header.latches + 1) s.next l next f

  gates-writable : ListWritable l
  gates-writable = as_writable _ _ l gates_as (omega arith) (omega (arith, start_fits bs s e))

pub read_writable : (bs : List ℕ) (h : Header) (l : List ℕ) → read_aiger bs ≡ gates h l → write_aiger l ≡ good (text_of l)
read_writable bs h l e =
    let F = file_parts bs h l e in
    write_good l (writable_list l (gates-writable bs F.start l F.next F.start_is F.gates_are))

-- and in a plan never by 5 or 6: whatever plan record has these gates
abbrev pub SameGates : List ℕ → List ℕ → ℕ → Type 0
SameGates d l n = (g : ℕ) → g < n → (gate_pin d g ≡ list_pin l g) × (gate_first d g ≡ list_first l g) × (gate_second d g ≡ list_second l g)

module _ (n v : ℕ) (l d : List ℕ) (L : ListAs n v l) (p : 0 < v) (fits : v + n ≤ suc (2 ^ 30)) (same : SameGates d l n) where
  plan-form : (g : ℕ) → g < n → gate_form d g ≡ true
  unfolding gate_form
  plan-form g h =
      let S = same g h in
      let G = L.each g h in
      let pin : gate_pin d g ≤ 2 ^ 30 = omega (arith, S.0, G.pin) in
      let first : gate_first d g ≤ 2 ^ 31 + 1 = omega (arith, S.1, G.first) in
      let second : gate_second d g ≤ 2 ^ 31 + 1 = omega (arith, S.1, S.2, G.first, G.second) in
      true_and (is_pin (gate_pin d g) && is_pin_iv (gate_first d g)) (is_pin_iv (gate_second d g))
      (true_and (is_pin (gate_pin d g)) (is_pin_iv (gate_first d g)) (le-leb _ _ pin) (le-leb _ _ first)) (le-leb _ _ second)

  plan-above : (g : ℕ) → g < n → before_over (gate_pin d) g < gate_pin d g
  unfolding before_over
  plan-above zero h = omega (arith, (same 0 h).0, (L.each 0 h).pin)
  plan-above (suc g) h =
      let k : g < n = omega arith in
      omega (arith, (same g k).0, (same (suc g) h).0, (L.each g k).pin, (L.each (suc g) h).pin)

  plan-right : (g : ℕ) → g < n → right_over (gate_pin d) (gate_first d) (gate_second d) g ≡ true
  unfolding right_over
  plan-right g h =
      let S = same g h in
      let G = L.each g h in
      let first : gate_first d g / 2 < gate_pin d g = omega (arith, S.0, S.1, G.pin, G.first) in
      let second : gate_second d g / 2 < gate_pin d g = omega (arith, S.0, S.1, S.2, G.pin, G.first, G.second) in
      true_and (ltb (before_over (gate_pin d) g) (gate_pin d g) && ltb (gate_first d g / 2) (gate_pin d g)) (ltb (gate_second d g / 2) (gate_pin d g))
      (true_and (ltb (before_over (gate_pin d) g) (gate_pin d g)) (ltb (gate_first d g / 2) (gate_pin d g)) (lt-ltb _ _ (plan-above g h)) (lt-ltb _ _ first))
      (lt-ltb _ _ second)

  list-in-plan : (all_below (gate_form d) n ≡ true) × (bad_over (gate_pin d) (gate_first d) (gate_second d) n ≡ none)
  unfolding bad_over
  list-in-plan = (all_true (gate_form d) n plan-form, none_not (right_over (gate_pin d) (gate_first d) (gate_second d)) n plan-right)

pub read_in_plan : (bs : List ℕ) (h : Header) (l : List ℕ) → read_aiger bs ≡ gates h l → (d : List ℕ) → planGates d ≡ h.gates → SameGates d l h.gates
    → (all_below (gate_form d) (planGates d) ≡ true) × (bad_over (gate_pin d) (gate_first d) (gate_second d) (planGates d) ≡ none)
read_in_plan bs h l e d count same =
    let F = file_parts bs h l e in
    let s : Start = F.start in
    let L = gates_as bs s l F.next F.start_is F.gates_are in
    let own : h.gates ≡ s.header.gates = ap (λ (k : Header). k.gates) F.header_is in
    let fits : s.header.inputs + s.header.latches + 1 + s.header.gates ≤ suc (2 ^ 30) = omega (arith, start_fits bs s F.start_is) in
    rw (count, own) (list-in-plan _ _ l d L (omega arith) fits (subst (SameGates d l) own same))

-- ---- write of read: under a header of its own, the very bytes of the gates

stands_slice : (text bs : List ℕ) {at next : ℕ} → Stands text bs at next → take (next - at) (drop at bs) ≡ text
stands_slice text bs {at} {next} f =
    let long : next - at ≡ length text = omega (arith, f.ends) in
    rw (long, f.is) (take-append_seam text (drop next bs))

module _ (bs : List ℕ) (s : Start) (l : List ℕ) (next : ℕ) (B : Bytes bs) (e : gates_start bs ≡ some s) (f : gates_behind bs s ≡ found l next) (p : 0 < s.header.gates) where
  own-count : whole_gates l ≡ s.header.gates
  own-count = let long = (gates_as bs s l next e f).long in omega arith

  own-inputs : inputs_of l ≡ s.header.inputs + s.header.latches
  own-inputs = let first = ((gates_as bs s l next e f).each 0 p).pin in omega arith

  own-text : text_of l ≡ header_text (last_variable s.header) (s.header.inputs + s.header.latches) 0 0 s.header.gates ++ gates_bytes l s.header.gates 0
  unfolding text_of
  own-text = rw (own-count, own-inputs)

  gates-stand : Stands (gates_bytes l s.header.gates 0) bs s.next next
  gates-stand = gates_written bs s.header.gates (s.header.inputs + s.header.latches + 1) s.next l next B f

  own-written : write_aiger l ≡ good (text_of l)
  own-written = write_good l (writable_list l (gates-writable bs s l next e f))

  pub write_of_read : write_aiger l
      ≡ good (header_text (last_variable s.header) (s.header.inputs + s.header.latches) 0 0 s.header.gates ++ take (next - s.next) (drop s.next bs))
  write_of_read = own-written ∙ ap good (own-text ∙ ap (λ (t : List ℕ). header_text (last_variable s.header) (s.header.inputs + s.header.latches) 0 0 s.header.gates ++ t) (sym (stands_slice _ bs gates-stand)))

  -- without latches and outputs, and with nothing behind the gates, the same file
  pub same_file : s.header.latches ≡ 0 → s.header.outputs ≡ 0 → next ≡ length bs → write_aiger l ≡ good bs
  same_file noLatches noOutputs end =
      let h : Header = s.header in
      let head : List ℕ = header_text (last_variable h) h.inputs h.latches h.outputs h.gates in
      let body : List ℕ = gates_bytes l h.gates 0 in
      let front : Stands head bs 0 s.next = header_written bs s (start_written bs s e noLatches noOutputs) (rw noOutputs (lit< tt)) in
      let all : bs ≡ (head ++ body) ++ drop next bs = (stands_then head body bs front gates-stand).is in
      let nothing : drop next bs ≡ [] = ap (λ (k : ℕ). drop k bs) end ∙ drop-length bs in
      let inputs : h.inputs + h.latches ≡ h.inputs = omega arith in
      let heads : header_text (last_variable h) (h.inputs + h.latches) 0 0 h.gates ≡ head =
      ap (λ (i : ℕ). header_text (last_variable h) i 0 0 h.gates) inputs
      ∙ ap₂ (λ (m o : ℕ). header_text (last_variable h) h.inputs m o h.gates) (sym noLatches) (sym noOutputs) in
      let text : text_of l ≡ bs =
      own-text ∙ ap (λ (t : List ℕ). t ++ body) heads ∙ sym (all ∙ ap (λ (t : List ℕ). (head ++ body) ++ t) nothing ∙ append-nil (head ++ body)) in
      own-written ∙ ap good text
