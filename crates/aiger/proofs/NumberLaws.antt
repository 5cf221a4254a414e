-- Decimal numbers, read and printed, both ways. Printing peels the last digit, so reading goes over the digits from the left with what they make so far.
-- Assumes nothing.
use mathlib.Core.Path.{◌≡◌, refl, sym, ap, ap₂, ◌∙◌}
use mathlib.Core.Bool.{Bool, true, false}
use mathlib.Core.List.{List, [], ◌∷◌, ◌++◌, append_assoc, append-nil}
use mathlib.Core.Option.{Option, none, some, bind}
use Prim.Native.Nat.{ℕ, zero, suc, ◌+◌, ◌*◌, ◌-◌, ◌/◌, ◌%◌, ◌^◌, ◌<◌, ◌≤◌}
use native.Mathlib.Nat.{pow-suc}
use native.Mathlib.Omega.{arith}
use borrow.Author.Tests.{ltb-true, ltb-false, leb-true, le-leb, eq-eqb, eqb-true, eqb-false, ne_eqb}
use lib.Dec.{leb, ltb, eqb}
use lib.ListN.{length, get_or, drop, length-append}
use Rattle.words.proofs.TestLaws.{and_true, true_and, some_not_none}
use Rattle.text.specs.Text.{decimal_in, decimal}
use Rattle.text.proofs.TextLaws.{decimal_one, decimal_more, decimal_rest}
use Rattle.aiger.specs.Reading.{Number, is_digit, digits_from, number_in, ended_by, field_at}
use Rattle.aiger.proofs.StandLaws.{Stands, stands_first, stands_second, stands_then, stands_byte, byte_stands, byte_inside}
use Rattle.aiger.proofs.DifferenceLaws.{Spelled, spelled_stands}

-- ---- digits

pub digit_is : (b : ℕ) → 48 ≤ b → b ≤ 57 → is_digit b ≡ true
digit_is b lo hi = true_and (leb 48 b) (leb b 57) (le-leb _ _ lo) (le-leb _ _ hi)

pub is_digit_lem : (b : ℕ) → is_digit b ≡ true → (48 ≤ b) × (b ≤ 57)
is_digit_lem b e = let both = and_true (leb 48 b) (leb b 57) e in (leb-true _ _ both.0, leb-true _ _ both.1)

pub digits_on : (x at b : ℕ) (bs : List ℕ) → is_digit b ≡ true → digits_from x at (b ∷ bs) ≡ digits_from (10 * x + (b - 48)) (at + 1) bs
unfolding digits_from
digits_on x at b bs e = rw (e, digits_from)

pub digits_end : (x at b : ℕ) (bs : List ℕ) → is_digit b ≡ false → digits_from x at (b ∷ bs) ≡ record { value = x; next = at }
unfolding digits_from
digits_end x at b bs e = rw (e, digits_from)

pub number_zero : (at : ℕ) (bs : List ℕ) → number_in at (48 ∷ bs) ≡ some (record { value = 0; next = at + 1 })
unfolding number_in
number_zero at bs = refl

pub number_more : (at b : ℕ) (bs : List ℕ) → 48 < b → b ≤ 57 → number_in at (b ∷ bs) ≡ some (digits_from (b - 48) (at + 1) bs)
unfolding number_in
number_more at b bs lo hi = rw (digit_is b (omega arith) hi, ne_eqb b 48 (λ e. omega arith), number_in)

pub number_none : (at b : ℕ) (bs : List ℕ) → is_digit b ≡ false → number_in at (b ∷ bs) ≡ none
unfolding number_in
number_none at b bs e = rw (e, number_in)

-- a first digit that is not 0 is the first of all
pub number_digits : (at b : ℕ) (bs : List ℕ) → 48 < b → b ≤ 57 → number_in at (b ∷ bs) ≡ some (digits_from 0 at (b ∷ bs))
number_digits at b bs lo hi =
    let same : b - 48 ≡ 10 * 0 + (b - 48) = omega arith in
    let on : digits_from 0 at (b ∷ bs) ≡ digits_from (b - 48) (at + 1) bs =
    digits_on 0 at b bs (digit_is b (omega arith) hi) ∙ ap (λ (x : ℕ). digits_from x (at + 1) bs) (sym same) in
    number_more at b bs lo hi ∙ ap some (sym on)

-- ---- printed, then read

record Headed (l : List ℕ) : Type 0 where
  head : ℕ
  tail : List ℕ
  is : l ≡ head ∷ tail
  least : 48 < head
  most : head ≤ 57

decimal_head : (f n : ℕ) → 0 < n → n < 10 ^ f → Headed (decimal_in f n)
decimal_head zero n p h = absurd (omega arith)
decimal_head (suc f) n p h = go (ltb n 10) refl (λ q. decimal_head f (n / 10) q (omega (arith, h, pow-suc 10 f)))
  where
    go : (t : Bool) → ltb n 10 ≡ t → (0 < n / 10 → Headed (decimal_in f (n / 10))) → Headed (decimal_in (suc f) n)
    go true e r =
        let small : n < 10 = ltb-true _ _ e in
        record { head = 48 + n; tail = []; is = decimal_one f n small; least = omega arith; most = omega arith }
    go false e r =
        let large : 10 ≤ n = ltb-false _ _ e in
        let d = r (omega arith) in
        record {
          head = d.head;
          tail = d.tail ++ ((48 + n % 10) ∷ []);
          is = decimal_more f n large ∙ ap (λ (l : List ℕ). l ++ ((48 + n % 10) ∷ [])) d.is;
          least = d.least;
          most = d.most;
        }

digits_one : (f n at : ℕ) (ys : List ℕ) → n < 10 → digits_from 0 at (decimal_in (suc f) n ++ ys) ≡ digits_from n (at + length (decimal_in (suc f) n)) ys
digits_one f n at ys h =
    let value : 10 * 0 + (48 + n - 48) ≡ n = omega arith in
    rw (decimal_one f n h) (digits_on 0 at (48 + n) ys (digit_is (48 + n) (omega arith) (omega arith)) ∙ ap (λ (x : ℕ). digits_from x (at + 1) ys) value)

decimal_digits : (f n at : ℕ) (ys : List ℕ) → n < 10 ^ suc f → digits_from 0 at (decimal_in (suc f) n ++ ys) ≡ digits_from n (at + length (decimal_in (suc f) n)) ys
decimal_digits zero n at ys h = digits_one 0 n at ys h
decimal_digits (suc f) n at ys h = go (ltb n 10) refl (λ zs. decimal_digits f (n / 10) at zs (omega (arith, h, pow-suc 10 (suc f))))
  where
    front : List ℕ
    front = decimal_in (suc f) (n / 10)

    last : List ℕ
    last = (48 + n % 10) ∷ []

    go : (t : Bool) → ltb n 10 ≡ t → ((zs : List ℕ) → digits_from 0 at (front ++ zs) ≡ digits_from (n / 10) (at + length front) zs)
        → digits_from 0 at (decimal_in (suc (suc f)) n ++ ys) ≡ digits_from n (at + length (decimal_in (suc (suc f)) n)) ys
    go true e r = digits_one (suc f) n at ys (ltb-true _ _ e)
    go false e r =
        let value : 10 * (n / 10) + (48 + n % 10 - 48) ≡ n = omega arith in
        let end : at + length front + 1 ≡ at + length (front ++ last) = omega (arith, length-append front last) in
        let on : digits_from (n / 10) (at + length front) (last ++ ys) ≡ digits_from n (at + length front + 1) ys =
        digits_on (n / 10) (at + length front) (48 + n % 10) ys (digit_is (48 + n % 10) (omega arith) (omega arith)) ∙ ap (λ (x : ℕ). digits_from x (at + length front + 1) ys) value in
        rw (decimal_more (suc f) n (ltb-false _ _ e)) (ap (digits_from 0 at) (append_assoc front last ys) ∙ r (last ++ ys) ∙ on ∙ ap (λ (k : ℕ). digits_from n k ys) end)

decimal_read : (n at e : ℕ) (ys : List ℕ) → n < 2 ^ 64 → is_digit e ≡ false
    → number_in at (decimal n ++ (e ∷ ys)) ≡ some (record { value = n; next = at + length (decimal n) })
unfolding decimal_in
decimal_read zero at e ys h d = number_zero at (e ∷ ys)
decimal_read (suc m) at e ys h d =
    let n : ℕ = suc m in
    let small : n < 10 ^ 20 = omega arith in
    let D = decimal_head 20 n (omega arith) small in
    let first : number_in at (decimal n ++ (e ∷ ys)) ≡ some (digits_from 0 at (decimal n ++ (e ∷ ys))) =
    rw D.is (number_digits at D.head (D.tail ++ (e ∷ ys)) D.least D.most) in
    first ∙ ap some (decimal_digits 19 n at (e ∷ ys) small ∙ digits_end n (at + length (decimal n)) e ys d)

-- a number and the byte behind it
pub ended_by_lem : (e b : ℕ) (n : Number) → b ≡ e → ended_by e b n ≡ some (record { value = n.value; next = n.next + 1 })
unfolding ended_by
ended_by_lem e b n h = rw (eq-eqb b e h, ended_by)

pub ended_other : (e b : ℕ) (n : Number) → (b ≡ e → ⊥) → ended_by e b n ≡ none
unfolding ended_by
ended_other e b n h = rw (ne_eqb b e h, ended_by)

pub field_read : (n e : ℕ) (bs : List ℕ) {at next : ℕ} → n < 2 ^ 64 → is_digit e ≡ false → Stands (decimal n ++ (e ∷ [])) bs at next
    → field_at bs e at ≡ some (record { value = n; next = next })
unfolding field_at bind
field_read n e bs {at} {next} h d f =
    let first : Stands (decimal n) bs at (at + length (decimal n)) = stands_first (decimal n) (e ∷ []) bs f in
    let second : Stands (e ∷ []) bs (at + length (decimal n)) next = stands_second (decimal n) (e ∷ []) bs f in
    let number : number_in at (drop at bs) ≡ some (record { value = n; next = at + length (decimal n) }) =
    ap (number_in at) (f.is ∙ append_assoc (decimal n) (e ∷ []) (drop next bs)) ∙ decimal_read n at e (drop next bs) h d in
    let byte : get_or bs (at + length (decimal n)) 0 ≡ e = stands_byte e bs second in
    let end : at + length (decimal n) + 1 ≡ next = omega (arith, second.ends) in
    rw number (ended_by_lem e _ (record { value = n; next = at + length (decimal n) }) byte ∙ ap (λ (k : ℕ). some (record { value = n; next = k })) end)

-- ---- read, then printed

pub digits_grow : (x at : ℕ) (bs : List ℕ) → x ≤ (digits_from x at bs).value
unfolding digits_from
digits_grow x at [] = omega arith
digits_grow x at (b ∷ bs) = go (is_digit b) refl (digits_grow (10 * x + (b - 48)) (at + 1) bs)
  where
    go : (t : Bool) → is_digit b ≡ t → 10 * x + (b - 48) ≤ (digits_from (10 * x + (b - 48)) (at + 1) bs).value → x ≤ (digits_from x at (b ∷ bs)).value
    go true e r = rw (digits_on x at b bs e) (omega arith)
    go false e r = rw (digits_end x at b bs e) (omega arith)

-- the digits behind x, and the print of the whole
record Printed (x at : ℕ) (bs : List ℕ) (n : Number) : Type 0 where
  digits : List ℕ
  behind : List ℕ
  is : bs ≡ digits ++ behind
  ends : n.next ≡ at + length digits
  text : decimal n.value ≡ decimal x ++ digits

digits_written : (bs : List ℕ) (x at : ℕ) → 0 < x → (digits_from x at bs).value < 2 ^ 64 → Printed x at bs (digits_from x at bs)
unfolding digits_from
digits_written [] x at p h = record { digits = []; behind = []; is = refl; ends = omega arith; text = sym (append-nil (decimal x)) }
digits_written (b ∷ bs) x at p h = go (is_digit b) refl (λ q k. digits_written bs (10 * x + (b - 48)) (at + 1) q k)
  where
    y : ℕ
    y = 10 * x + (b - 48)

    go : (t : Bool) → is_digit b ≡ t → (0 < y → (digits_from y (at + 1) bs).value < 2 ^ 64 → Printed y (at + 1) bs (digits_from y (at + 1) bs))
        → Printed x at (b ∷ bs) (digits_from x at (b ∷ bs))
    go true e r =
        let lo : 48 ≤ b = (is_digit_lem b e).0 in
        let hi : b ≤ 57 = (is_digit_lem b e).1 in
        let same : digits_from x at (b ∷ bs) ≡ digits_from y (at + 1) bs = digits_on x at b bs e in
        let small : (digits_from y (at + 1) bs).value < 2 ^ 64 = rw same at h in
        let P = r (omega arith) small in
        let high : y / 10 ≡ x = omega arith in
        let low : 48 + y % 10 ≡ b = omega arith in
        let grown : y ≤ (digits_from y (at + 1) bs).value = digits_grow y (at + 1) bs in
        let one : decimal y ≡ decimal x ++ (b ∷ []) = decimal_rest y (omega arith) (omega arith) ∙ ap₂ (λ (d c : ℕ). decimal d ++ (c ∷ [])) high low in
        rw same
        (record {
          digits = b ∷ P.digits;
          behind = P.behind;
          is = ap (λ (l : List ℕ). b ∷ l) P.is;
          ends = omega (arith, P.ends);
          text = P.text ∙ ap (λ (l : List ℕ). l ++ P.digits) one ∙ append_assoc (decimal x) (b ∷ []) P.digits;
        })
    go false e r =
        rw (digits_end x at b bs e)
        (record { digits = []; behind = b ∷ bs; is = refl; ends = omega arith; text = sym (append-nil (decimal x)) })

number_written : (at : ℕ) (bs : List ℕ) (n : Number) → number_in at bs ≡ some n → n.value < 2 ^ 64 → Spelled (decimal n.value) bs at n.next
unfolding number_in decimal_in
number_written at [] n e h = let z : ◌≡◌ {A = ℕ} 0 1 = cc in absurd (omega arith)
number_written at (b ∷ bs) n e h = go (is_digit b) refl (eqb b 48) refl
  where
    go : (t : Bool) → is_digit b ≡ t → (z : Bool) → eqb b 48 ≡ z → Spelled (decimal n.value) (b ∷ bs) at n.next
    go false p z q = absurd (some_not_none (sym e ∙ number_none at b bs p))
    go true p true q =
        let is : b ≡ 48 = eqb-true b 48 q in
        let f : some (record { value = 0; next = at + 1 }) ≡ some n = sym (number_zero at bs) ∙ ap (λ (c : ℕ). number_in at (c ∷ bs)) (sym is) ∙ e in
        let s : record { value = 0; next = at + 1 } ≡ n = cc in
        rw (← s) (record { behind = bs; is = ap (λ (c : ℕ). c ∷ bs) is; ends = omega arith })
    go true p false q =
        let lo : 48 ≤ b = (is_digit_lem b p).0 in
        let hi : b ≤ 57 = (is_digit_lem b p).1 in
        let more : 48 < b = omega (arith, eqb-false b 48 q) in
        let f : some (digits_from (b - 48) (at + 1) bs) ≡ some n = sym (number_more at b bs more hi) ∙ e in
        let s : digits_from (b - 48) (at + 1) bs ≡ n = cc in
        let P = digits_written bs (b - 48) (at + 1) (omega arith) (rw s h) in
        let first : decimal (b - 48) ≡ b ∷ [] = decimal_one 19 (b - 48) (omega arith) ∙ ap (λ (c : ℕ). c ∷ []) (omega arith) in
        let text : decimal n.value ≡ b ∷ P.digits = ap (λ (m : Number). decimal m.value) (sym s) ∙ P.text ∙ ap (λ (l : List ℕ). l ++ P.digits) first in
        record {
          behind = P.behind;
          is = rw text (ap (λ (l : List ℕ). b ∷ l) P.is);
          ends = rw text (ap (λ (m : Number). m.next) (sym s) ∙ P.ends ∙ omega arith);
        }

-- what a field is made of: a number, and the byte behind it
pub record Field (bs : List ℕ) (e at : ℕ) (f : Number) : Type 0 where
  pub number : Number
  pub is : number_in at (drop at bs) ≡ some number
  pub byte : get_or bs number.next 0 ≡ e
  pub field : f ≡ record { value = number.value; next = number.next + 1 }

pub field_parts : (bs : List ℕ) (e at : ℕ) (f : Number) → field_at bs e at ≡ some f → Field bs e at f
unfolding field_at bind
field_parts bs e at f h = go (number_in at (drop at bs)) refl
  where
    go : (o : Option Number) → number_in at (drop at bs) ≡ o → Field bs e at f
    go none p = let q : none ≡ some f = rw p at h in absurd (some_not_none (sym q))
    go (some n) p = closed (eqb (get_or bs n.next 0) e) refl
      where
        closed : (t : Bool) → eqb (get_or bs n.next 0) e ≡ t → Field bs e at f
        closed true t =
            let byte : get_or bs n.next 0 ≡ e = eqb-true _ _ t in
            let q : some f ≡ some (record { value = n.value; next = n.next + 1 }) = sym (rw p at h) ∙ ended_by_lem e _ n byte in
            record { number = n; is = p; byte = byte; field = cc }
        closed false t =
            let q : some f ≡ none = sym (rw p at h) ∙ ended_other e _ n (eqb-false _ _ t) in
            absurd (some_not_none q)

-- where a field ends: two bytes on at least, and inside the file
digits_move : (x at : ℕ) (bs : List ℕ) → at ≤ (digits_from x at bs).next
unfolding digits_from
digits_move x at [] = omega arith
digits_move x at (b ∷ bs) = go (is_digit b) refl (digits_move (10 * x + (b - 48)) (at + 1) bs)
  where
    go : (t : Bool) → is_digit b ≡ t → at + 1 ≤ (digits_from (10 * x + (b - 48)) (at + 1) bs).next → at ≤ (digits_from x at (b ∷ bs)).next
    go true e r = rw (digits_on x at b bs e) (omega arith)
    go false e r = rw (digits_end x at b bs e) (omega arith)

number_moves : (at : ℕ) (bs : List ℕ) (n : Number) → number_in at bs ≡ some n → at < n.next
unfolding number_in
number_moves at [] n e = let z : ◌≡◌ {A = ℕ} 0 1 = cc in absurd (omega arith)
number_moves at (b ∷ bs) n e = go (is_digit b) refl (eqb b 48) refl
  where
    go : (t : Bool) → is_digit b ≡ t → (z : Bool) → eqb b 48 ≡ z → at < n.next
    go false p z q = absurd (some_not_none (sym e ∙ number_none at b bs p))
    go true p true q =
        let f : some (record { value = 0; next = at + 1 }) ≡ some n = sym (number_zero at bs) ∙ ap (λ (c : ℕ). number_in at (c ∷ bs)) (sym (eqb-true b 48 q)) ∙ e in
        let s : record { value = 0; next = at + 1 } ≡ n = cc in
        omega (arith, ap (λ (m : Number). m.next) s)
    go true p false q =
        let lo : 48 ≤ b = (is_digit_lem b p).0 in
        let more : 48 < b = omega (arith, eqb-false b 48 q) in
        let f : some (digits_from (b - 48) (at + 1) bs) ≡ some n = sym (number_more at b bs more (is_digit_lem b p).1) ∙ e in
        let s : digits_from (b - 48) (at + 1) bs ≡ n = cc in
        omega (arith, ap (λ (m : Number). m.next) s, digits_move (b - 48) (at + 1) bs)

pub field_ends_in : (bs : List ℕ) (e at : ℕ) (f : Number) → 0 < e → field_at bs e at ≡ some f → (at + 2 ≤ f.next) × (f.next ≤ length bs)
field_ends_in bs e at f p h =
    let F = field_parts bs e at f h in
    let n : Number = F.number in
    let moved : at < n.next = number_moves at (drop at bs) n F.is in
    let next : f.next ≡ n.next + 1 = ap (λ (m : Number). m.next) F.field in
    let inside = byte_inside e bs p F.byte in
    (omega arith, omega arith)

pub field_written : (bs : List ℕ) (e at : ℕ) (f : Number) → 0 < e → field_at bs e at ≡ some f → f.value < 2 ^ 64
    → Stands (decimal f.value ++ (e ∷ [])) bs at f.next
field_written bs e at f p h small =
    let F = field_parts bs e at f h in
    let n : Number = F.number in
    let value : f.value ≡ n.value = ap (λ (m : Number). m.value) F.field in
    let first : Stands (decimal n.value) bs at n.next = spelled_stands _ bs (number_written at (drop at bs) n F.is (rw (← value) small)) in
    let second : Stands (e ∷ []) bs n.next (n.next + 1) = byte_stands e bs p F.byte in
    rw F.field (stands_then _ _ bs first second)
