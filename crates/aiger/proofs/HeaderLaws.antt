-- The header and the lines, read and written, both ways: field after field.
-- Assumes nothing.
use mathlib.Core.Path.{◌≡◌, refl, sym, ap, ap₂, ◌∙◌}
use mathlib.Core.Bool.{Bool, true, false, ◌&&◌}
use mathlib.Core.List.{List, [], ◌∷◌, ◌++◌}
use mathlib.Core.Option.{none, some, bind, bind-eq-some_iff}
use Prim.Native.Nat.{ℕ, ◌+◌, ◌*◌, ◌^◌, ◌<◌, ◌≤◌}
use native.Mathlib.Omega.{arith}
use borrow.Author.Tests.{leb-true, le-leb, eqb-true, eq-eqb}
use lib.Dec.{leb, eqb, lit<}
use lib.ListN.{get_or}
use Rattle.words.proofs.TestLaws.{and_true, some_not_none}
use Rattle.text.specs.Text.{decimal, field}
use Rattle.aiger.specs.Reading.{Number, field_at, Header, last_variable, Start, start_with, is_marked, fields_of, header_of, lines_from, gates_start}
use Rattle.aiger.specs.Writing.{header_text}
use Rattle.aiger.proofs.StandLaws.{Stands, stands_then, stands_first, stands_second, byte_stands}
use Rattle.aiger.proofs.NumberLaws.{field_read, field_written}

abbrev mark : List ℕ
mark = 97 ∷ 105 ∷ 103 ∷ 32 ∷ []

-- ---- the numbers together

pub start_good : (m : ℕ) (h : Header) (at : ℕ) → m ≡ last_variable h → m ≤ 2 ^ 30 → start_with m h at ≡ some (record { header = h; next = at })
unfolding start_with
start_good m h at e p = rw (eq-eqb m (last_variable h) e, le-leb m (2 ^ 30) p, start_with)

pub record StartsWith (m : ℕ) (h : Header) (at : ℕ) (s : Start) : Type 0 where
  pub sum : m ≡ last_variable h
  pub fits : m ≤ 2 ^ 30
  pub is : s ≡ record { header = h; next = at }

pub start_parts : (m : ℕ) (h : Header) (at : ℕ) (s : Start) → start_with m h at ≡ some s → StartsWith m h at s
unfolding start_with
start_parts m h at s e = go (eqb m (last_variable h) && leb m (2 ^ 30)) refl
  where
    go : (t : Bool) → (eqb m (last_variable h) && leb m (2 ^ 30)) ≡ t → StartsWith m h at s
    go true p =
        let both = and_true (eqb m (last_variable h)) (leb m (2 ^ 30)) p in
        let sum : m ≡ last_variable h = eqb-true _ _ both.0 in
        let fits : m ≤ 2 ^ 30 = leb-true _ _ both.1 in
        let q : some s ≡ some (record { header = h; next = at }) = sym e ∙ start_good m h at sum fits in
        record { sum = sum; fits = fits; is = cc }
    go false p = let q : none ≡ some s = rw (p, start_with) at e in absurd (some_not_none (sym q))

pub header_marked : (bs : List ℕ) → is_marked bs ≡ true → header_of bs ≡ fields_of bs
unfolding header_of
header_marked bs e = rw (e, header_of)

pub header_other : (bs : List ℕ) → is_marked bs ≡ false → header_of bs ≡ none
unfolding header_of
header_other bs e = rw (e, header_of)

-- ---- written, then read

pub header_read : (m i l o a : ℕ) (bs : List ℕ) {next : ℕ} → m ≡ i + l + a → m ≤ 2 ^ 30 → o < 2 ^ 64 → Stands (header_text m i l o a) bs 0 next
    → header_of bs ≡ some (record { header = record { inputs = i; latches = l; outputs = o; gates = a }; next = next })
unfolding fields_of header_text bind is_marked
header_read m i l o a bs {next} sum fits small f =
    let marked : is_marked bs ≡ true = rw f.is refl in
    let f1 = stands_second mark (field m ++ (field i ++ (field l ++ (field o ++ (decimal a ++ (10 ∷ [])))))) bs f in
    let f2 = stands_second (field m) (field i ++ (field l ++ (field o ++ (decimal a ++ (10 ∷ []))))) bs f1 in
    let f3 = stands_second (field i) (field l ++ (field o ++ (decimal a ++ (10 ∷ [])))) bs f2 in
    let f4 = stands_second (field l) (field o ++ (decimal a ++ (10 ∷ []))) bs f3 in
    let f5 = stands_second (field o) (decimal a ++ (10 ∷ [])) bs f4 in
    let M = field_read m 32 bs (omega arith) refl (stands_first (field m) _ bs f1) in
    let I = field_read i 32 bs (omega arith) refl (stands_first (field i) _ bs f2) in
    let L = field_read l 32 bs (omega arith) refl (stands_first (field l) _ bs f3) in
    let O = field_read o 32 bs small refl (stands_first (field o) _ bs f4) in
    let A = field_read a 10 bs (omega arith) refl f5 in
    header_marked bs marked ∙ rw (M, I, L, O, A) (start_good m (record { inputs = i; latches = l; outputs = o; gates = a }) next sum fits)

-- ---- read, then written

marked_stands : (bs : List ℕ) → is_marked bs ≡ true → Stands mark bs 0 4
unfolding is_marked
marked_stands bs e =
    let three = and_true (eqb (get_or bs 0 0) 97 && eqb (get_or bs 1 0) 105 && eqb (get_or bs 2 0) 103) (eqb (get_or bs 3 0) 32) e in
    let two = and_true (eqb (get_or bs 0 0) 97 && eqb (get_or bs 1 0) 105) (eqb (get_or bs 2 0) 103) three.0 in
    let one = and_true (eqb (get_or bs 0 0) 97) (eqb (get_or bs 1 0) 105) two.0 in
    let a = byte_stands 97 bs {at = 0} (lit< tt) (eqb-true _ _ one.0) in
    let i = byte_stands 105 bs {at = 1} (lit< tt) (eqb-true _ _ one.1) in
    let g = byte_stands 103 bs {at = 2} (lit< tt) (eqb-true _ _ two.1) in
    let b = byte_stands 32 bs {at = 3} (lit< tt) (eqb-true _ _ three.1) in
    stands_then (97 ∷ []) (105 ∷ 103 ∷ 32 ∷ []) bs a (stands_then (105 ∷ []) (103 ∷ 32 ∷ []) bs i (stands_then (103 ∷ []) (32 ∷ []) bs g b))

-- a header's five fields
pub record FieldsRead (bs : List ℕ) (s : Start) : Type 0 where
  pub m : Number
  pub i : Number
  pub l : Number
  pub o : Number
  pub a : Number
  pub m-is : field_at bs 32 4 ≡ some m
  pub i-is : field_at bs 32 m.next ≡ some i
  pub l-is : field_at bs 32 i.next ≡ some l
  pub o_is : field_at bs 32 l.next ≡ some o
  pub a-is : field_at bs 10 o.next ≡ some a
  pub whole : StartsWith m.value (record { inputs = i.value; latches = l.value; outputs = o.value; gates = a.value }) a.next s

pub fields_parts : (bs : List ℕ) (s : Start) → fields_of bs ≡ some s → FieldsRead bs s
unfolding fields_of
fields_parts bs s e =
    let M = (bind-eq-some_iff (field_at bs 32 4) _).0 e in
    let I = (bind-eq-some_iff (field_at bs 32 M.0.next) _).0 M.2 in
    let L = (bind-eq-some_iff (field_at bs 32 I.0.next) _).0 I.2 in
    let O = (bind-eq-some_iff (field_at bs 32 L.0.next) _).0 L.2 in
    let A = (bind-eq-some_iff (field_at bs 10 O.0.next) _).0 O.2 in
    record {
      m = M.0;
      i = I.0;
      l = L.0;
      o = O.0;
      a = A.0;
      m-is = M.1;
      i-is = I.1;
      l-is = L.1;
      o_is = O.1;
      a-is = A.1;
      whole = start_parts M.0.value (record { inputs = I.0.value; latches = L.0.value; outputs = O.0.value; gates = A.0.value }) A.0.next s A.2;
    }

pub record HeaderRead (bs : List ℕ) (s : Start) : Type 0 where
  pub marked : is_marked bs ≡ true
  pub fields : FieldsRead bs s

pub header_parts : (bs : List ℕ) (s : Start) → header_of bs ≡ some s → HeaderRead bs s
header_parts bs s e = go (is_marked bs) refl
  where
    go : (t : Bool) → is_marked bs ≡ t → HeaderRead bs s
    go false p = absurd (some_not_none (sym e ∙ header_other bs p))
    go true p = record { marked = p; fields = fields_parts bs s (sym (header_marked bs p) ∙ e) }

pub header_fits : (bs : List ℕ) (s : Start) → header_of bs ≡ some s → last_variable s.header ≤ 2 ^ 30
header_fits bs s e =
    let W = (header_parts bs s e).fields.whole in
    let last : last_variable s.header ≤ 2 ^ 30 = rw W.is (omega (arith, W.sum, W.fits)) in
    last

pub header_written : (bs : List ℕ) (s : Start) → header_of bs ≡ some s → s.header.outputs < 2 ^ 64
    → Stands (header_text (last_variable s.header) s.header.inputs s.header.latches s.header.outputs s.header.gates) bs 0 s.next
unfolding header_text
header_written bs s e small =
    let P = header_parts bs s e in
    let H = P.fields in
    let W = H.whole in
    let sum = W.sum in
    let fits = W.fits in
    let outputs : H.o.value < 2 ^ 64 = rw W.is at small in
    let M = field_written bs 32 4 H.m (lit< tt) H.m-is (omega arith) in
    let I = field_written bs 32 H.m.next H.i (lit< tt) H.i-is (omega arith) in
    let L = field_written bs 32 H.i.next H.l (lit< tt) H.l-is (omega arith) in
    let O = field_written bs 32 H.l.next H.o (lit< tt) H.o_is outputs in
    let A = field_written bs 10 H.o.next H.a (lit< tt) H.a-is (omega arith) in
    rw (W.is, ← sum) (stands_then mark _ bs (marked_stands bs P.marked) (stands_then _ _ bs M (stands_then _ _ bs I (stands_then _ _ bs L (stands_then _ _ bs O A)))))

-- ---- the lines

-- what stands before the gates: a header, and its lines
pub record StartRead (bs : List ℕ) (s : Start) : Type 0 where
  pub head : Start
  pub header_is : header_of bs ≡ some head
  pub lines_are : lines_from bs (2 * last_variable head.header + 1) (head.header.latches + head.header.outputs) head.next ≡ some s.next
  pub is : s.header ≡ head.header

pub before_parts : (bs : List ℕ) (s : Start) → gates_start bs ≡ some s → StartRead bs s
unfolding gates_start
before_parts bs s e =
    let H = (bind-eq-some_iff (header_of bs) _).0 e in
    let L = (bind-eq-some_iff (lines_from bs (2 * last_variable H.0.header + 1) (H.0.header.latches + H.0.header.outputs) H.0.next) _).0 H.2 in
    let same : record { header = H.0.header; next = L.0 } ≡ s = cc L.2 in
    record {
      head = H.0;
      header_is = H.1;
      lines_are = L.1 ∙ ap (λ (x : Start). some x.next) same;
      is = sym (ap (λ (x : Start). x.header) same);
    }

pub start_fits : (bs : List ℕ) (s : Start) → gates_start bs ≡ some s → last_variable s.header ≤ 2 ^ 30
start_fits bs s e = let S = before_parts bs s e in rw S.is (header_fits bs S.head S.header_is)

-- no latches, no outputs: no lines
pub start_read : (bs : List ℕ) (h : Header) (next : ℕ) → header_of bs ≡ some (record { header = h; next = next }) → h.latches + h.outputs ≡ 0
    → gates_start bs ≡ some (record { header = h; next = next })
unfolding gates_start lines_from bind
start_read bs h next e z = rw (e, z)

pub start_written : (bs : List ℕ) (s : Start) → gates_start bs ≡ some s → s.header.latches ≡ 0 → s.header.outputs ≡ 0 → header_of bs ≡ some s
unfolding lines_from
start_written bs s e p q =
    let S = before_parts bs s e in
    let latches : S.head.header.latches ≡ 0 = ap (λ (h : Header). h.latches) (sym S.is) ∙ p in
    let outputs : S.head.header.outputs ≡ 0 = ap (λ (h : Header). h.outputs) (sym S.is) ∙ q in
    let lines : S.head.header.latches + S.head.header.outputs ≡ 0 = omega arith in
    let at : some S.head.next ≡ some s.next = rw lines at S.lines_are in
    let same : S.head.next ≡ s.next = cc in
    S.header_is ∙ ap₂ (λ (h : Header) (k : ℕ). some (record { header = h; next = k })) (sym S.is) same
