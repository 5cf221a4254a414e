-- Laws of the header and of the lines in the code's terms.
-- Assumes nothing.
use mathlib.Core.Path.{◌≡◌, refl, sym, ap, ◌∙◌}
use mathlib.Core.Bool.{Bool, true, false, ◌&&◌, and-false}
use mathlib.Core.List.{List, [], ◌∷◌}
use mathlib.Core.Option.{Option, none, some, bind, bind-eq-some_iff}
use Prim.Native.Nat.{ℕ, zero, suc, ◌+◌, ◌*◌, ◌-◌, ◌/◌, ◌^◌, ◌<◌, ◌≤◌}
use native.Mathlib.Numerals.{sub-one}
use native.Mathlib.Omega.{arith}
use borrow.Author.Tests.{leb-true, leb-false, le-leb, lt-leb, eq-eqb, ne_eqb, eqb-true, eqb-false}
use lib.Dec.{leb, eqb, lit<}
use lib.ListN.{length}
use Rattle.words.proofs.TestLaws.{some_not_none}
use Rattle.std.specs.Prelude.{Some, None}
use Rattle.std.specs.List.{starts_with}
use Rattle.std.specs.declared.option.Option as code
use Rattle.aiger.specs.Reading.{Number, field_at, Start, is_marked, fields_of, header_of, end_of, line_at, lines_from, gates_start}
use Rattle.aiger.proofs.NumberLaws.{field_ends_in}
use Rattle.aiger.proofs.HeaderLaws.{start_good, FieldsRead, fields_parts, header_parts, header_marked, header_other, header_fits, before_parts}
use Rattle.aiger_read.specs.ReadTold.{field_of, header_is, start_told, header_told}
use Rattle.aiger_read.specs.declared.fields.Number.{Number as NumberRead}
use Rattle.aiger_read.specs.declared.start.Header.{Header as HeaderRead}
use Rattle.aiger_read.specs.declared.start.Start.{Start as StartRead}
use Rattle.aiger_read.proofs.FieldLaws.{value_at, field_good, value_parts, read}

-- ---- the mark

swapped : (a b : ℕ) → eqb a b ≡ eqb b a
swapped a b = go (eqb b a) refl
  where
    go : (t : Bool) → eqb b a ≡ t → eqb a b ≡ t
    go true e = eq-eqb a b (sym (eqb-true _ _ e))
    go false e = ne_eqb a b (λ q. eqb-false _ _ e (sym q))

all_four : (p q r s : Bool) → (p && (q && (r && (s && true)))) ≡ (((p && q) && r) && s)
all_four false q r s = refl
all_four true false r s = refl
all_four true true false s = refl
all_four true true true false = refl
all_four true true true true = refl

pub marked_by : (bs : List ℕ) → starts_with eqb bs (97 ∷ 105 ∷ 103 ∷ 32 ∷ []) ≡ is_marked bs
unfolding is_marked
marked_by [] = refl
marked_by (a ∷ []) = simp and-false
marked_by (a ∷ b ∷ []) = simp and-false
marked_by (a ∷ b ∷ c ∷ []) = simp and-false
marked_by (a ∷ b ∷ c ∷ d ∷ bs) = rw (swapped 97 a, swapped 105 b, swapped 103 c, swapped 32 d) (all_four (eqb a 97) (eqb b 105) (eqb c 103) (eqb d 32))

-- ---- a header that no field gives

-- a number that was told wrong is none, or too large
field_refuted : (most : ℕ) (o : Option Number) (n : Number) → field_of most o ≡ None → o ≡ some n → n.value ≤ most → ⊥
field_refuted most o n e h small =
    let f : value_at n.value n.next ≡ None = field_good most n _ _ refl small ∙ ap (field_of most) (sym h) ∙ e in
    let z : ◌≡◌ {A = ℕ} 0 1 = cc in
    omega arith

same_number : (o : Option Number) (x y : Number) → o ≡ some x → o ≡ some y → x ≡ y
same_number o x y p q = cc

no_header : (long : ℕ) (o : Option Start) → ((s : Start) → o ≡ some s → 2 * s.header.outputs ≤ long → ⊥) → None ≡ header_told long o
unfolding header_told
no_header long none h = refl
no_header long (some s) h = go (leb (2 * s.header.outputs) long) refl
  where
    go : (t : Bool) → leb (2 * s.header.outputs) long ≡ t → None ≡ header_told long (some s)
    go true e = absurd (h s refl (leb-true _ _ e))
    go false e = rw (e, header_told)

header_lines : (long : ℕ) (s : Start) → 2 * s.header.outputs ≤ long → start_told (some s) ≡ header_told long (some s)
unfolding header_told
header_lines long s h = rw (le-leb (2 * s.header.outputs) long h, header_told)

module _ (bs : List ℕ) (long : ℕ) where
  pub wrong_m : field_of (2 ^ 30) (field_at bs 32 4) ≡ None → None ≡ header_told long (fields_of bs)
  wrong_m e = no_header long (fields_of bs) (λ s h k. let P = fields_parts bs s h in field_refuted _ _ P.m e P.m-is P.whole.fits)

  module _ (m : Number) (M : field_at bs 32 4 ≡ some m) where
    known-m : (s : Start) (P : FieldsRead bs s) → P.m ≡ m
    known-m s P = same_number _ _ _ P.m-is M

    pub wrong_i : field_of m.value (field_at bs 32 m.next) ≡ None → None ≡ header_told long (fields_of bs)
    wrong_i e = no_header long (fields_of bs) refuted
      where
        refuted : (s : Start) → fields_of bs ≡ some s → 2 * s.header.outputs ≤ long → ⊥
        refuted s h k =
            let P = fields_parts bs s h in
            let em = known-m s P in
            let value : P.m.value ≡ m.value = ap (λ (n : Number). n.value) em in
            field_refuted _ _ P.i e (ap (λ (n : Number). field_at bs 32 n.next) (sym em) ∙ P.i-is) (omega (arith, P.whole.sum))

    module _ (i : Number) (I : field_at bs 32 m.next ≡ some i) where
      known-i : (s : Start) (P : FieldsRead bs s) → P.i ≡ i
      known-i s P = same_number _ _ _ P.i-is (ap (λ (n : Number). field_at bs 32 n.next) (known-m s P) ∙ I)

      pub wrong_l : field_of m.value (field_at bs 32 i.next) ≡ None → None ≡ header_told long (fields_of bs)
      wrong_l e = no_header long (fields_of bs) refuted
        where
          refuted : (s : Start) → fields_of bs ≡ some s → 2 * s.header.outputs ≤ long → ⊥
          refuted s h k =
              let P = fields_parts bs s h in
              let value : P.m.value ≡ m.value = ap (λ (n : Number). n.value) (known-m s P) in
              field_refuted _ _ P.l e (ap (λ (n : Number). field_at bs 32 n.next) (sym (known-i s P)) ∙ P.l-is) (omega (arith, P.whole.sum))

      module _ (l : Number) (L : field_at bs 32 i.next ≡ some l) where
        known-l : (s : Start) (P : FieldsRead bs s) → P.l ≡ l
        known-l s P = same_number _ _ _ P.l-is (ap (λ (n : Number). field_at bs 32 n.next) (known-i s P) ∙ L)

        pub wrong_o : field_of (long / 2) (field_at bs 32 l.next) ≡ None → None ≡ header_told long (fields_of bs)
        wrong_o e = no_header long (fields_of bs) refuted
          where
            refuted : (s : Start) → fields_of bs ≡ some s → 2 * s.header.outputs ≤ long → ⊥
            refuted s h k =
                let P = fields_parts bs s h in
                let own : s.header.outputs ≡ P.o.value = ap (λ (x : Start). x.header.outputs) P.whole.is in
                field_refuted _ _ P.o e (ap (λ (n : Number). field_at bs 32 n.next) (sym (known-l s P)) ∙ P.o_is) (omega arith)

        module _ (o : Number) (O : field_at bs 32 l.next ≡ some o) where
          known-o : (s : Start) (P : FieldsRead bs s) → P.o ≡ o
          known-o s P = same_number _ _ _ P.o_is (ap (λ (n : Number). field_at bs 32 n.next) (known-l s P) ∙ O)

          pub wrong_a : field_of m.value (field_at bs 10 o.next) ≡ None → None ≡ header_told long (fields_of bs)
          wrong_a e = no_header long (fields_of bs) refuted
            where
              refuted : (s : Start) → fields_of bs ≡ some s → 2 * s.header.outputs ≤ long → ⊥
              refuted s h k =
                  let P = fields_parts bs s h in
                  let value : P.m.value ≡ m.value = ap (λ (n : Number). n.value) (known-m s P) in
                  field_refuted _ _ P.a e (ap (λ (n : Number). field_at bs 10 n.next) (sym (known-o s P)) ∙ P.a-is) (omega (arith, P.whole.sum))

          module _ (a : Number) (A : field_at bs 10 o.next ≡ some a) where
            known-a : (s : Start) (P : FieldsRead bs s) → P.a ≡ a
            known-a s P = same_number _ _ _ P.a-is (ap (λ (n : Number). field_at bs 10 n.next) (known-o s P) ∙ A)

            pub wrong_sum : (i.value + l.value + a.value ≡ m.value → ⊥) → None ≡ header_told long (fields_of bs)
            wrong_sum e = no_header long (fields_of bs) refuted
              where
                refuted : (s : Start) → fields_of bs ≡ some s → 2 * s.header.outputs ≤ long → ⊥
                refuted s h k =
                    let P = fields_parts bs s h in
                    let em : P.m.value ≡ m.value = ap (λ (n : Number). n.value) (known-m s P) in
                    let ei : P.i.value ≡ i.value = ap (λ (n : Number). n.value) (known-i s P) in
                    let el : P.l.value ≡ l.value = ap (λ (n : Number). n.value) (known-l s P) in
                    let ea : P.a.value ≡ a.value = ap (λ (n : Number). n.value) (known-a s P) in
                    e (omega (arith, P.whole.sum))

            pub right_sum : i.value + l.value + a.value ≡ m.value → m.value ≤ 2 ^ 30 → 2 * o.value ≤ long
                → Some (record { header = record { inputs = i.value; latches = l.value; outputs = o.value; gates = a.value }; next = a.next }) ≡ header_told long (fields_of bs)
            unfolding fields_of bind
            right_sum e fits lines =
                let s : Start = record { header = record { inputs = i.value; latches = l.value; outputs = o.value; gates = a.value }; next = a.next } in
                let found : fields_of bs ≡ some s = rw (M, I, L, O, A) (start_good m.value s.header a.next (sym e) fits) in
                header_lines long s lines ∙ ap (header_told long) (sym found)

-- ---- the header

pub header_yes : (bs : List ℕ) (long : ℕ) (r : code.Option StartRead) → true ≡ is_marked bs → r ≡ header_told long (fields_of bs) → r ≡ header_told long (header_of bs)
header_yes bs long r e is = is ∙ ap (header_told long) (sym (header_marked bs (sym e)))

pub header_no : (bs : List ℕ) (long : ℕ) → false ≡ is_marked bs → None ≡ header_told long (header_of bs)
unfolding header_told
header_no bs long e = ap (header_told long) (sym (header_other bs (sym e)))

-- ---- lines

end_good : (most : ℕ) (x : Number) → x.value ≤ most → end_of most x ≡ some x.next
unfolding end_of
end_good most x h = rw (le-leb x.value most h, end_of)

end_large : (most : ℕ) (x : Number) → most < x.value → end_of most x ≡ none
unfolding end_of
end_large most x h = rw (lt-leb x.value most h, end_of)

module _ (bs : List ℕ) (most i : ℕ) where
  line-good : (x : Number) → field_at bs 10 i ≡ some x → x.value ≤ most → line_at bs most i ≡ some x.next
  unfolding line_at bind
  line-good x e h = rw e (end_good most x h)

  line-bad : field_of most (field_at bs 10 i) ≡ None → line_at bs most i ≡ none
  unfolding line_at bind
  line-bad e = go (field_at bs 10 i) refl
    where
      go : (o : Option Number) → field_at bs 10 i ≡ o → line_at bs most i ≡ none
      go none p = rw p
      go (some x) p = large (leb x.value most) refl
        where
          large : (t : Bool) → leb x.value most ≡ t → line_at bs most i ≡ none
          large true t = absurd (field_refuted most (field_at bs 10 i) x e p (leb-true _ _ t))
          large false t = rw p (end_large most x (leb-false _ _ t))

  pub line_next : (left : ℕ) (n : NumberRead) → 0 < left → field_of most (field_at bs 10 i) ≡ Some n → lines_from bs most left i ≡ lines_from bs most (left - 1) n.next
  unfolding lines_from bind
  line_next zero n p e = absurd (omega arith)
  line_next (suc k) n p e =
      let N = value_parts most (field_at bs 10 i) n e in
      rw (line-good (read n) N.is N.fits) (ap (λ (j : ℕ). lines_from bs most j n.next) (sym (sub-one (suc k))))

  pub line_wrong : (left : ℕ) → 0 < left → field_of most (field_at bs 10 i) ≡ None → lines_from bs most left i ≡ none
  unfolding lines_from bind
  line_wrong zero p e = absurd (omega arith)
  line_wrong (suc k) p e = rw (line-bad e)

  pub lines_done : (left : ℕ) → left ≡ 0 → lines_from bs most left i ≡ some i
  unfolding lines_from
  lines_done left e = rw e

-- lines take two bytes each at least
end_parts : (most : ℕ) (x : Number) (i : ℕ) → end_of most x ≡ some i → x.next ≡ i
end_parts most x i e = go (leb x.value most) refl
  where
    go : (t : Bool) → leb x.value most ≡ t → x.next ≡ i
    go true t = let q : some x.next ≡ some i = sym (end_good most x (leb-true _ _ t)) ∙ e in cc
    go false t = absurd (some_not_none (sym e ∙ end_large most x (leb-false _ _ t)))

line_long : (bs : List ℕ) (most at i : ℕ) → line_at bs most at ≡ some i → (at + 2 ≤ i) × (i ≤ length bs)
unfolding line_at
line_long bs most at i e =
    let X = (bind-eq-some_iff (field_at bs 10 at) (end_of most)).0 e in
    let inside = field_ends_in bs 10 at X.0 (lit< tt) X.1 in
    let same = end_parts most X.0 i X.2 in
    (omega (arith, inside.0), omega (arith, inside.1))

lines_long : (bs : List ℕ) (most n at next : ℕ) → at ≤ length bs → lines_from bs most n at ≡ some next → at + 2 * n ≤ length bs
unfolding lines_from
lines_long bs most zero at next h e = omega arith
lines_long bs most (suc n) at next h e =
    let L = (bind-eq-some_iff (line_at bs most at) (lines_from bs most n)).0 e in
    let line = line_long bs most at L.0 L.1 in
    let rest = lines_long bs most n L.0 next line.1 L.2 in
    omega (arith, line.0)

-- ---- all that stands before the gates

no_start : (o : Option Start) → ((s : Start) → o ≡ some s → ⊥) → None ≡ start_told o
no_start none h = refl
no_start (some s) h = absurd (h s refl)

-- a header that is told wrong has no lines
pub start_wrong : (bs : List ℕ) → header_told (length bs) (header_of bs) ≡ None → None ≡ start_told (gates_start bs)
start_wrong bs e = no_start (gates_start bs) refuted
  where
    refuted : (s : Start) → gates_start bs ≡ some s → ⊥
    refuted s h =
        let S = before_parts bs s h in
        let H = (header_parts bs S.head S.header_is).fields in
        let next : S.head.next ≡ H.a.next = ap (λ (x : Start). x.next) H.whole.is in
        let end = field_ends_in bs 10 H.o.next H.a (lit< tt) H.a-is in
        let long = lines_long bs _ _ S.head.next s.next (omega (arith, end.1)) S.lines_are in
        let told = header_lines (length bs) S.head (omega arith) in
        let f : start_told (some S.head) ≡ None = told ∙ ap (header_told (length bs)) (sym S.header_is) ∙ e in
        let z : ◌≡◌ {A = ℕ} 0 1 = cc in
        omega arith

-- a header that is told
pub record HeaderAt (bs : List ℕ) (h : HeaderRead) (at : ℕ) : Type 0 where
  pub is : header_of bs ≡ some (record { header = record { inputs = h.inputs; latches = h.latches; outputs = h.outputs; gates = h.gates }; next = at })
  pub lines : 2 * h.outputs ≤ length bs
  pub fits : h.inputs + h.latches + h.gates ≤ 2 ^ 30

pub start_header : (bs : List ℕ) (r : StartRead) → header_told (length bs) (header_of bs) ≡ Some r → HeaderAt bs r.header r.next
unfolding header_told
start_header bs r e = go (header_of bs) refl
  where
    go : (o : Option Start) → header_of bs ≡ o → HeaderAt bs r.header r.next
    go none p =
        let f : None ≡ Some r = ap (header_told (length bs)) (sym p) ∙ e in
        let z : ◌≡◌ {A = ℕ} 0 1 = cc in
        absurd (omega arith)
    go (some s) p = told (leb (2 * s.header.outputs) (length bs)) refl
      where
        told : (t : Bool) → leb (2 * s.header.outputs) (length bs) ≡ t → HeaderAt bs r.header r.next
        told true t =
            let small : 2 * s.header.outputs ≤ length bs = leb-true _ _ t in
            let f : Some (record { header = header_is s.header; next = s.next }) ≡ Some r = header_lines (length bs) s small ∙ ap (header_told (length bs)) (sym p) ∙ e in
            let same : ◌≡◌ {A = StartRead} (record { header = header_is s.header; next = s.next }) r = cc in
            let fits = header_fits bs s p in
            rw (← same) (record { is = p; lines = small; fits = fits })
        told false t =
            let f : None ≡ Some r = rw (t, header_told) at (ap (header_told (length bs)) (sym p) ∙ e) in
            let z : ◌≡◌ {A = ℕ} 0 1 = cc in
            absurd (omega arith)

module _ (bs : List ℕ) (h : HeaderRead) (at : ℕ) (H : HeaderAt bs h at) where
  pub start_found : (next : ℕ) → lines_from bs (2 * (h.inputs + h.latches + h.gates) + 1) (h.latches + h.outputs) at ≡ some next → Some (record { header = h; next = next }) ≡ start_told (gates_start bs)
  unfolding gates_start bind
  start_found next e = rw (H.is, e)

  pub start_cut : lines_from bs (2 * (h.inputs + h.latches + h.gates) + 1) (h.latches + h.outputs) at ≡ none → None ≡ start_told (gates_start bs)
  unfolding gates_start bind
  start_cut e = rw (H.is, e)
