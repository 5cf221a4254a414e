-- Laws of numbers of the header and of the lines, in the code's terms: a digit, a number and its end.
-- Assumes nothing.
use mathlib.Core.Path.{◌≡◌, refl, sym, ap, ◌∙◌}
use mathlib.Core.Bool.{Bool, true, false}
use mathlib.Core.List.{List, [], ◌∷◌}
use mathlib.Core.Option.{Option, none, some, bind}
use Prim.Native.Nat.{ℕ, suc, ◌+◌, ◌*◌, ◌-◌, ◌<◌, ◌≤◌}
use native.Mathlib.Omega.{arith}
use borrow.Author.Tests.{leb-true, leb-false, le-leb, lt-leb, eqb-true, eqb-false}
use lib.Dec.{leb, eqb}
use lib.ListN.{length, get_or, drop, drop_of_length-le, get_or-eq_default}
use lib.Seq.{drop-cons}
use Rattle.std.specs.Prelude.{Some, None}
use Rattle.std.specs.declared.option.Option as code
use Rattle.words.specs.Found.{item_of}
use Rattle.aiger.specs.Reading.{Number, is_digit, digits_from, number_in, ended_by, field_at}
use Rattle.aiger.proofs.NumberLaws.{digit_is, is_digit_lem, digits_on, digits_end, digits_grow, number_zero, number_digits, number_none, ended_by_lem, ended_other}
use Rattle.aiger_read.specs.ReadTold.{digit_of, field_of}
use Rattle.aiger_read.specs.declared.fields.Number.{Number as NumberRead}

-- ---- a byte

pub byte_here : (bs : List ℕ) (i : ℕ) → i < length bs → drop i bs ≡ get_or bs i 0 ∷ drop (i + 1) bs
byte_here bs i h =
    let step : suc i ≡ i + 1 = omega arith in
    drop-cons bs i 0 h ∙ ap (λ (k : ℕ). get_or bs i 0 ∷ drop k bs) step

pub nothing_here : (bs : List ℕ) (i : ℕ) → length bs ≤ i → drop i bs ≡ []
nothing_here bs i h = drop_of_length-le bs h

not_digit : (b : ℕ) → ((48 ≤ b) × (b ≤ 57) → ⊥) → is_digit b ≡ false
not_digit b h = go (is_digit b) refl
  where
    go : (t : Bool) → is_digit b ≡ t → is_digit b ≡ false
    go true e = absurd (h (is_digit_lem b e))
    go false e = e

pub digit_none : (b : ℕ) → ((48 ≤ b) × (b ≤ 57) → ⊥) → None ≡ item_of (digit_of b)
unfolding digit_of
digit_none b h = rw (not_digit b h, digit_of)

pub digit_value : (b : ℕ) → 48 ≤ b → b ≤ 57 → Some (b - 48) ≡ item_of (digit_of b)
unfolding digit_of
digit_value b lo hi = rw (digit_is b lo hi, digit_of)

-- what a digit's number says of its byte
pub record DigitIs (b d : ℕ) : Type 0 where
  pub yes : is_digit b ≡ true
  pub is : d ≡ b - 48
  pub low : d < 10

pub digit_yes : (b d : ℕ) → item_of (digit_of b) ≡ Some d → DigitIs b d
unfolding digit_of
digit_yes b d e = go (is_digit b) refl
  where
    seen : is_digit b ≡ true → item_of (digit_of b) ≡ Some (b - 48)
    seen p = rw (p, digit_of)

    unseen : is_digit b ≡ false → item_of (digit_of b) ≡ None
    unseen p = rw (p, digit_of)

    go : (t : Bool) → is_digit b ≡ t → DigitIs b d
    go true p =
        let f : Some (b - 48) ≡ Some d = sym (seen p) ∙ e in
        let q : b - 48 ≡ d = cc in
        let r = is_digit_lem b p in
        record { yes = p; is = sym q; low = omega (arith, r.1) }
    go false p =
        let f : None ≡ Some d = sym (unseen p) ∙ e in
        let z : ◌≡◌ {A = ℕ} 0 1 = cc in
        absurd (omega arith)

digit_no : (b : ℕ) → item_of (digit_of b) ≡ None → is_digit b ≡ false
digit_no b e = not_digit b (λ r. let f : Some (b - 48) ≡ None = digit_value b r.0 r.1 ∙ e in let z : ◌≡◌ {A = ℕ} 0 1 = cc in omega arith)

-- ---- digits

module _ (bs : List ℕ) (x i : ℕ) where
  pub digits_past : length bs ≤ i → digits_from x i (drop i bs) ≡ record { value = x; next = i }
  unfolding digits_from
  digits_past h = rw (nothing_here bs i h)

  module _ (inside : i < length bs) where
    pub digits_stop : item_of (digit_of (get_or bs i 0)) ≡ None → digits_from x i (drop i bs) ≡ record { value = x; next = i }
    digits_stop e = ap (digits_from x i) (byte_here bs i inside) ∙ digits_end x i _ _ (digit_no _ e)

    pub digits_go : (d : ℕ) → item_of (digit_of (get_or bs i 0)) ≡ Some d → digits_from x i (drop i bs) ≡ digits_from (10 * x + d) (i + 1) (drop (i + 1) bs)
    digits_go d e =
        let D = digit_yes _ d e in
        ap (digits_from x i) (byte_here bs i inside) ∙ digits_on x i _ _ D.yes ∙ ap (λ (k : ℕ). digits_from (10 * x + k) (i + 1) (drop (i + 1) bs)) (sym D.is)

-- ---- a number as an answer

abbrev pub value_at : ℕ → ℕ → code.Option NumberRead
value_at x i = Some (record { value = x; next = i })

field_yes : (most x i : ℕ) → x ≤ most → value_at x i ≡ field_of most (some (record { value = x; next = i }))
unfolding field_of
field_yes most x i h = rw (le-leb x most h, field_of)

pub field_good : (most : ℕ) (n : Number) (x i : ℕ) → n ≡ record { value = x; next = i } → x ≤ most → value_at x i ≡ field_of most (some n)
field_good most n x i e h = field_yes most x i h ∙ ap (λ (k : Number). field_of most (some k)) (sym e)

pub field_large : (most : ℕ) (n : Number) → most < n.value → None ≡ field_of most (some n)
unfolding field_of
field_large most n h = rw (lt-leb n.value most h, field_of)

-- digits that pass the limit
pub digits_large : (bs : List ℕ) (most x i d : ℕ) (n : Number) → i < length bs → item_of (digit_of (get_or bs i 0)) ≡ Some d → most < 10 * x + d
    → digits_from x i (drop i bs) ≡ n → None ≡ field_of most (some n)
digits_large bs most x i d n inside e large same =
    let grown = digits_grow (10 * x + d) (i + 1) (drop (i + 1) bs) in
    let is : digits_from (10 * x + d) (i + 1) (drop (i + 1) bs) ≡ n = sym (digits_go bs x i inside d e) ∙ same in
    field_large most n (omega (arith, ap (λ (k : Number). k.value) is))

-- ---- a number at a byte

pub number_past : (bs : List ℕ) (most at : ℕ) → length bs ≤ at → None ≡ field_of most (number_in at (drop at bs))
unfolding number_in field_of
number_past bs most at h = rw (nothing_here bs at h)

module _ (bs : List ℕ) (most at : ℕ) (inside : at < length bs) where
  pub number_nought : get_or bs at 0 ≡ 48 → value_at 0 (at + 1) ≡ field_of most (number_in at (drop at bs))
  number_nought e =
      let is : number_in at (drop at bs) ≡ some (record { value = 0; next = at + 1 }) =
      ap (number_in at) (byte_here bs at inside ∙ ap (λ (b : ℕ). b ∷ drop (at + 1) bs) e) ∙ number_zero at _ in
      field_good most _ 0 (at + 1) refl (omega arith) ∙ ap (field_of most) (sym is)

  pub number_first : (d : ℕ) (r : code.Option NumberRead) → item_of (digit_of (get_or bs at 0)) ≡ Some d → (get_or bs at 0 ≡ 48 → ⊥) → r ≡ field_of most (some (digits_from 0 at (drop at bs)))
      → r ≡ field_of most (number_in at (drop at bs))
  number_first d r e other is =
      let D = is_digit_lem (get_or bs at 0) (digit_yes (get_or bs at 0) d e).yes in
      let more : 48 < get_or bs at 0 = omega (arith, D.0, other) in
      let all : number_in at (drop at bs) ≡ some (digits_from 0 at (drop at bs)) =
      ap (number_in at) (byte_here bs at inside) ∙ number_digits at _ _ more D.1 ∙ ap (λ (l : List ℕ). some (digits_from 0 at l)) (sym (byte_here bs at inside)) in
      is ∙ ap (field_of most) (sym all)

  pub number_other : item_of (digit_of (get_or bs at 0)) ≡ None → None ≡ field_of most (number_in at (drop at bs))
  unfolding field_of
  number_other e = ap (field_of most) (sym (ap (number_in at) (byte_here bs at inside) ∙ number_none at _ _ (digit_no _ e)))

-- ---- and with the byte behind it

abbrev pub read : NumberRead → Number
read v = record { value = v.value; next = v.next }

pub record ValueIs (most : ℕ) (o : Option Number) (v : NumberRead) : Type 0 where
  pub is : o ≡ some (read v)
  pub fits : v.value ≤ most

pub value_parts : (most : ℕ) (o : Option Number) (v : NumberRead) → field_of most o ≡ Some v → ValueIs most o v
unfolding field_of
value_parts most none v e = let z : ◌≡◌ {A = ℕ} 0 1 = cc in absurd (omega arith)
value_parts most (some n) v e = go (leb n.value most) refl
  where
    go : (t : Bool) → leb n.value most ≡ t → ValueIs most (some n) v
    go true p =
        let fits : n.value ≤ most = leb-true _ _ p in
        let f : value_at n.value n.next ≡ Some v = field_good most n n.value n.next refl fits ∙ e in
        let q : ◌≡◌ {A = NumberRead} (record { value = n.value; next = n.next }) v = cc in
        rw (← q) (record { is = refl; fits = fits })
    go false p =
        let f : None ≡ Some v = field_large most n (leb-false _ _ p) ∙ e in
        let z : ◌≡◌ {A = ℕ} 0 1 = cc in
        absurd (omega arith)

field_is : (bs : List ℕ) (e at : ℕ) (n : Number) → number_in at (drop at bs) ≡ some n → field_at bs e at ≡ ended_by e (get_or bs n.next 0) n
unfolding field_at bind
field_is bs e at n h = rw h

module _ (bs : List ℕ) (most e at : ℕ) (v : NumberRead) (p : 0 < e) (N : ValueIs most (number_in at (drop at bs)) v) where
  pub field_past : length bs ≤ v.next → None ≡ field_of most (field_at bs e at)
  unfolding field_of
  field_past h =
      let none-there : get_or bs v.next 0 ≡ 0 = get_or-eq_default bs 0 h in
      ap (field_of most) (sym (field_is bs e at _ N.is ∙ ended_other e _ _ (λ q. omega arith)))

  pub field_ends : get_or bs v.next 0 ≡ e → value_at v.value (v.next + 1) ≡ field_of most (field_at bs e at)
  field_ends h = field_good most _ v.value (v.next + 1) refl N.fits ∙ ap (field_of most) (sym (field_is bs e at _ N.is ∙ ended_by_lem e _ _ h))

  pub field_other : (get_or bs v.next 0 ≡ e → ⊥) → None ≡ field_of most (field_at bs e at)
  unfolding field_of
  field_other h = ap (field_of most) (sym (field_is bs e at _ N.is ∙ ended_other e _ _ h))

pub field_wrong : (bs : List ℕ) (most e at : ℕ) → field_of most (number_in at (drop at bs)) ≡ None → None ≡ field_of most (field_at bs e at)
unfolding field_at field_of bind
field_wrong bs most e at h = go (number_in at (drop at bs)) refl
  where
    go : (o : Option Number) → number_in at (drop at bs) ≡ o → None ≡ field_of most (field_at bs e at)
    go none q = rw q refl
    go (some n) q = ends (eqb (get_or bs n.next 0) e) refl
      where
        large : (t : Bool) → leb n.value most ≡ t → most < n.value
        large true t =
            let f : value_at n.value n.next ≡ None = field_good most n _ _ refl (leb-true _ _ t) ∙ (rw q at h) in
            let z : ◌≡◌ {A = ℕ} 0 1 = cc in
            absurd (omega arith)
        large false t = leb-false _ _ t

        ends : (t : Bool) → eqb (get_or bs n.next 0) e ≡ t → None ≡ field_of most (field_at bs e at)
        ends true t =
            field_large most (record { value = n.value; next = n.next + 1 }) (large (leb n.value most) refl)
            ∙ ap (field_of most) (sym (field_is bs e at n q ∙ ended_by_lem e _ n (eqb-true _ _ t)))
        ends false t = ap (field_of most) (sym (field_is bs e at n q ∙ ended_other e _ n (eqb-false _ _ t)))
