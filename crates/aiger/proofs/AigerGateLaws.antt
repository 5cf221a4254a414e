-- Gates, read and written, both ways: a gate's literals are what its differences give, and its differences are those of its literals.
-- Assumes nothing.
use mathlib.Core.Path.{◌≡◌, refl, sym, ap, ap₂, subst, ◌∙◌}
use mathlib.Core.Bool.{Bool, true, false}
use mathlib.Core.List.{List, [], ◌∷◌, ◌++◌}
use Prim.Native.Nat.{ℕ, zero, suc, ◌+◌, ◌*◌, ◌-◌, ◌^◌, ◌<◌, ◌≤◌}
use native.Mathlib.Nat.{not-suc-le-zero}
use native.Mathlib.Omega.{arith}
use borrow.Author.Tests.{leb-true, leb-false, le-leb, lt-leb}
use lib.Dec.{leb}
use lib.ListN.{length, get_or, drop, drop_of_length-le}
use lib.Seq.{drop-cons}
use Rattle.gatelist.specs.ListWords.{list_pin, list_first, list_second}
use Rattle.aiger.specs.Reading.{Difference, whole, wrong, cut, difference_at, Literal, literal, literal_of, Gate, gate_read, behind, gate_from, Gates, found, gate_before, gates_from}
use Rattle.aiger.specs.Writing.{difference_bytes, gate_bytes, gates_bytes}
use Rattle.aiger.proofs.StandLaws.{Stands, stands_then, stands_first, stands_second, Bytes}
use Rattle.aiger.proofs.DifferenceLaws.{difference_read, difference_written}

-- ---- a literal

pub literal_good : (top least d at : ℕ) → least ≤ d → d ≤ top → literal_of top least (whole d at) ≡ literal (top - d) at
unfolding literal_of
literal_good top least d at lo hi = rw (le-leb least d lo, le-leb d top hi, literal_of)

pub literal_low : (top least d at : ℕ) → d < least → literal_of top least (whole d at) ≡ Literal.refused 19
unfolding literal_of
literal_low top least d at lo = rw (lt-leb least d lo, literal_of)

pub literal_high : (top least d at : ℕ) → least ≤ d → top < d → literal_of top least (whole d at) ≡ Literal.refused 19
unfolding literal_of
literal_high top least d at lo hi = rw (le-leb least d lo, lt-leb d top hi, literal_of)

record LiteralOf (top least : ℕ) (d : Difference) (r at : ℕ) : Type 0 where
  value : ℕ
  is : d ≡ whole value at
  lo : least ≤ value
  hi : value ≤ top
  literal_is : r ≡ top - value

literal_parts : (top least : ℕ) (d : Difference) (r at : ℕ) → literal_of top least d ≡ literal r at → LiteralOf top least d r at
unfolding literal_of
literal_parts top least wrong r at e = let z : ◌≡◌ {A = ℕ} 0 1 = cc in absurd (omega arith)
literal_parts top least cut r at e = let z : ◌≡◌ {A = ℕ} 0 1 = cc in absurd (omega arith)
literal_parts top least (whole d i) r at e = go (leb least d) refl (leb d top) refl
  where
    go : (s : Bool) → leb least d ≡ s → (t : Bool) → leb d top ≡ t → LiteralOf top least (whole d i) r at
    go true p true q =
        let lo : least ≤ d = leb-true _ _ p in
        let hi : d ≤ top = leb-true _ _ q in
        let f : literal (top - d) i ≡ literal r at = sym (literal_good top least d i lo hi) ∙ e in
        let n : i ≡ at = cc in
        let v : top - d ≡ r = cc in
        record { value = d; is = ap (whole d) n; lo = lo; hi = hi; literal_is = sym v }
    go true p false q =
        let f : Literal.refused 19 ≡ literal r at = sym (literal_high top least d i (leb-true _ _ p) (leb-false _ _ q)) ∙ e in
        let z : ◌≡◌ {A = ℕ} 0 1 = cc in
        absurd (omega arith)
    go false p t q =
        let f : Literal.refused 19 ≡ literal r at = sym (literal_low top least d i (leb-false _ _ p)) ∙ e in
        let z : ◌≡◌ {A = ℕ} 0 1 = cc in
        absurd (omega arith)

-- ---- a gate

pub gate_bad : (bs : List ℕ) (v at n : ℕ) → literal_of (2 * v) 1 (difference_at bs at) ≡ Literal.refused n → gate_from bs v at ≡ Gate.refused n
unfolding gate_from
gate_bad bs v at n e = rw (e, gate_from)

pub gate_good : (bs : List ℕ) (v at a i : ℕ) → literal_of (2 * v) 1 (difference_at bs at) ≡ literal a i → gate_from bs v at ≡ behind a (literal_of a 0 (difference_at bs i))
unfolding gate_from
gate_good bs v at a i e = rw (e, gate_from)

pub gate_read_lem : (v a b : ℕ) (bs : List ℕ) {at mid next : ℕ} → v ≤ 2 ^ 30 → a < 2 * v → b ≤ a
    → Stands (difference_bytes (2 * v - a)) bs at mid → Stands (difference_bytes (a - b)) bs mid next → gate_from bs v at ≡ gate_read a b next
gate_read_lem v a b bs {at} {mid} {next} h p q f g =
    let first : literal_of (2 * v) 1 (difference_at bs at) ≡ literal a mid =
    ap (literal_of (2 * v) 1) (difference_read (2 * v - a) bs (omega arith) f)
    ∙ literal_good (2 * v) 1 (2 * v - a) mid (omega arith) (omega arith) ∙ ap (λ (r : ℕ). literal r mid) (omega arith) in
    let second : literal_of a 0 (difference_at bs mid) ≡ literal b next =
    ap (literal_of a 0) (difference_read (a - b) bs (omega arith) g)
    ∙ literal_good a 0 (a - b) next (omega arith) (omega arith) ∙ ap (λ (r : ℕ). literal r next) (omega arith) in
    gate_good bs v at a mid first ∙ ap (behind a) second

-- what a gate that is read has
pub record GateRead (bs : List ℕ) (v at a b next : ℕ) : Type 0 where
  pub mid : ℕ
  pub below : a < 2 * v
  pub under : b ≤ a
  pub first : difference_at bs at ≡ whole (2 * v - a) mid
  pub second : difference_at bs mid ≡ whole (a - b) next

behind_gate : (c : ℕ) (d : Literal) (a b next : ℕ) → behind c d ≡ gate_read a b next → (c ≡ a) × (d ≡ literal b next)
behind_gate c (literal y i) a b next e =
    let v : c ≡ a = cc in
    let w : y ≡ b = cc in
    let n : i ≡ next = cc in
    (v, ap₂ literal w n)
behind_gate c (Literal.refused k) a b next e = let z : ◌≡◌ {A = ℕ} 0 1 = cc in absurd (omega arith)

pub gate_parts : (bs : List ℕ) (v at a b next : ℕ) → gate_from bs v at ≡ gate_read a b next → GateRead bs v at a b next
gate_parts bs v at a b next e = go (literal_of (2 * v) 1 (difference_at bs at)) refl
  where
    go : (d : Literal) → literal_of (2 * v) 1 (difference_at bs at) ≡ d → GateRead bs v at a b next
    go (Literal.refused k) p =
        let f : Gate.refused k ≡ gate_read a b next = sym (gate_bad bs v at k p) ∙ e in
        let z : ◌≡◌ {A = ℕ} 0 1 = cc in
        absurd (omega arith)
    go (literal c i) p =
        let both = behind_gate c (literal_of c 0 (difference_at bs i)) a b next (sym (gate_good bs v at c i p) ∙ e) in
        let P = literal_parts (2 * v) 1 (difference_at bs at) c i p in
        let Q = literal_parts c 0 (difference_at bs i) b next both.1 in
        let lo = P.lo in
        let hi = P.hi in
        let top : a ≡ 2 * v - P.value = sym both.0 ∙ P.literal_is in
        let low : b ≡ a - Q.value = Q.literal_is ∙ ap (λ (x : ℕ). x - Q.value) both.0 in
        let inside : Q.value ≤ a = omega (arith, Q.hi, both.0) in
        record {
          mid = i;
          below = omega arith;
          under = omega arith;
          first = P.is ∙ ap (λ (x : ℕ). whole x i) (omega arith);
          second = Q.is ∙ ap (λ (x : ℕ). whole x next) (omega arith);
        }

-- ---- gates

pub gates_on : (bs : List ℕ) (n v at a b i : ℕ) → gate_from bs v at ≡ gate_read a b i → gates_from bs (suc n) v at ≡ gate_before v a b (gates_from bs n (v + 1) i)
unfolding gates_from
gates_on bs n v at a b i e = rw (e, gates_from)

pub gates_bad : (bs : List ℕ) (n v at k : ℕ) → gate_from bs v at ≡ Gate.refused k → gates_from bs (suc n) v at ≡ Gates.refused k
unfolding gates_from
gates_bad bs n v at k e = rw (e, gates_from)

-- a list that was read: its first gate, and the others
pub record ListRead (bs : List ℕ) (n v at : ℕ) (l : List ℕ) (next : ℕ) : Type 0 where
  pub first : ℕ
  pub second : ℕ
  pub mid : ℕ
  pub rest : List ℕ
  pub head : gate_from bs v at ≡ gate_read first second mid
  pub tail : gates_from bs n (v + 1) mid ≡ found rest next
  pub is : l ≡ v ∷ first ∷ second ∷ rest

pub list_parts : (bs : List ℕ) (n v at : ℕ) (l : List ℕ) (next : ℕ) → gates_from bs (suc n) v at ≡ found l next → ListRead bs n v at l next
list_parts bs n v at l next e = go (gate_from bs v at) refl
  where
    go : (g : Gate) → gate_from bs v at ≡ g → ListRead bs n v at l next
    go (Gate.refused k) p =
        let f : Gates.refused k ≡ found l next = sym (gates_bad bs n v at k p) ∙ e in
        let z : ◌≡◌ {A = ℕ} 0 1 = cc in
        absurd (omega arith)
    go (gate_read a b i) p = rest (gates_from bs n (v + 1) i) refl
      where
        rest : (r : Gates) → gates_from bs n (v + 1) i ≡ r → ListRead bs n v at l next
        rest (Gates.refused k) q =
            let f : Gates.refused k ≡ found l next = sym (gates_on bs n v at a b i p ∙ ap (gate_before v a b) q) ∙ e in
            let z : ◌≡◌ {A = ℕ} 0 1 = cc in
            absurd (omega arith)
        rest (found m j) q =
            let f : found (v ∷ a ∷ b ∷ m) j ≡ found l next = sym (gates_on bs n v at a b i p ∙ ap (gate_before v a b) q) ∙ e in
            let same : v ∷ a ∷ b ∷ m ≡ l = cc in
            let end : j ≡ next = cc in
            record { first = a; second = b; mid = i; rest = m; head = p; tail = q ∙ ap (found m) end; is = sym same }

-- ---- the words of a list behind its first gate

module _ (v a b : ℕ) (l : List ℕ) where
  pub pin_behind : (g : ℕ) → list_pin (v ∷ a ∷ b ∷ l) (suc g) ≡ list_pin l g
  pin_behind g =
      let e : 3 * suc g ≡ suc (suc (suc (3 * g))) = omega arith in
      ap (λ (k : ℕ). get_or (v ∷ a ∷ b ∷ l) k 0) e

  pub first_behind : (g : ℕ) → list_first (v ∷ a ∷ b ∷ l) (suc g) ≡ list_first l g
  first_behind g =
      let e : 3 * suc g + 1 ≡ suc (suc (suc (3 * g + 1))) = omega arith in
      ap (λ (k : ℕ). get_or (v ∷ a ∷ b ∷ l) k 0) e

  pub second_behind : (g : ℕ) → list_second (v ∷ a ∷ b ∷ l) (suc g) ≡ list_second l g
  second_behind g =
      let e : 3 * suc g + 2 ≡ suc (suc (suc (3 * g + 2))) = omega arith in
      ap (λ (k : ℕ). get_or (v ∷ a ∷ b ∷ l) k 0) e

  bytes-behind : (n g : ℕ) → gates_bytes (v ∷ a ∷ b ∷ l) n (suc g) ≡ gates_bytes l n g
  unfolding gates_bytes gate_bytes
  bytes-behind zero g = refl
  bytes-behind (suc n) g =
      let one : suc g + 1 ≡ suc (g + 1) = omega arith in
      let here : gate_bytes (v ∷ a ∷ b ∷ l) (suc g) ≡ gate_bytes l g = rw (pin_behind g, first_behind g, second_behind g) in
      ap₂ (λ (x y : List ℕ). x ++ y) here (ap (gates_bytes (v ∷ a ∷ b ∷ l) n) one ∙ bytes-behind n (g + 1))

-- ---- read, then written

pub gates_written : (bs : List ℕ) (n v at : ℕ) (l : List ℕ) (next : ℕ) → Bytes bs → gates_from bs n v at ≡ found l next → Stands (gates_bytes l n 0) bs at next
unfolding gates_from gates_bytes gate_bytes
gates_written bs zero v at l next B e =
    let end : at ≡ next = cc in
    record { is = ap (λ (k : ℕ). drop k bs) end; ends = omega arith }
gates_written bs (suc n) v at l next B e =
    let S = list_parts bs n v at l next e in
    let G = gate_parts bs v at S.first S.second S.mid S.head in
    let one = difference_written bs at (2 * v - S.first) G.mid B G.first in
    let two = difference_written bs G.mid (S.first - S.second) S.mid B G.second in
    let rest = gates_written bs n (v + 1) S.mid S.rest next B S.tail in
    subst (λ (x : List ℕ). Stands (gates_bytes x (suc n) 0) bs at next) (sym S.is)
    (stands_then _ _ bs (stands_then _ _ bs one two) (rw (bytes-behind v S.first S.second S.rest n 0) rest))

-- what is known of a list of n gates that was read, its pins from v on
pub record GateAs (l : List ℕ) (g v : ℕ) : Type 0 where
  pub pin : list_pin l g ≡ v
  pub first : list_first l g < 2 * v
  pub second : list_second l g ≤ list_first l g

pub record ListAs (n v : ℕ) (l : List ℕ) : Type 0 where
  pub long : length l ≡ 3 * n
  pub each : (g : ℕ) → g < n → GateAs l g (v + g)

pub list_read : (bs : List ℕ) (n v at : ℕ) (l : List ℕ) (next : ℕ) → gates_from bs n v at ≡ found l next → ListAs n v l
unfolding gates_from
list_read bs zero v at l next e =
    let none : [] ≡ l = cc in
    record { long = rw (← none) refl; each = λ g h. absurd (not-suc-le-zero h) }
list_read bs (suc n) v at l next e =
    let S = list_parts bs n v at l next e in
    let G = gate_parts bs v at S.first S.second S.mid S.head in
    let R = list_read bs n (v + 1) S.mid S.rest next S.tail in
    rw S.is (record { long = omega (arith, R.long); each = each S.first S.second S.rest G.below G.under R.each })
  where
    each : (a b : ℕ) (r : List ℕ) → a < 2 * v → b ≤ a → ((g : ℕ) → g < n → GateAs r g (v + 1 + g)) → (g : ℕ) → g < suc n → GateAs (v ∷ a ∷ b ∷ r) g (v + g)
    each a b r p q R zero h = let z : v + 0 ≡ v = omega arith in rw z (record { pin = refl; first = p; second = q })
    each a b r p q R (suc g) h =
        let G = R g (omega arith) in
        let z : v + suc g ≡ v + 1 + g = omega arith in
        rw z
        (record {
          pin = pin_behind v a b r g ∙ G.pin;
          first = rw (first_behind v a b r g) G.first;
          second = rw (first_behind v a b r g, second_behind v a b r g) G.second;
        })

-- ---- written, then read

gate_words_lem : (l : List ℕ) (g : ℕ) → 3 * g + 3 ≤ length l → drop (3 * g) l ≡ list_pin l g ∷ list_first l g ∷ list_second l g ∷ drop (3 * (g + 1)) l
gate_words_lem l g h =
    let one : suc (3 * g) ≡ 3 * g + 1 = omega arith in
    let two : suc (3 * g + 1) ≡ 3 * g + 2 = omega arith in
    let three : suc (3 * g + 2) ≡ 3 * (g + 1) = omega arith in
    let p : drop (3 * g) l ≡ list_pin l g ∷ drop (3 * g + 1) l = drop-cons l (3 * g) 0 (omega arith) ∙ ap (λ (k : ℕ). list_pin l g ∷ drop k l) one in
    let a : drop (3 * g + 1) l ≡ list_first l g ∷ drop (3 * g + 2) l = drop-cons l (3 * g + 1) 0 (omega arith) ∙ ap (λ (k : ℕ). list_first l g ∷ drop k l) two in
    let b : drop (3 * g + 2) l ≡ list_second l g ∷ drop (3 * (g + 1)) l = drop-cons l (3 * g + 2) 0 (omega arith) ∙ ap (λ (k : ℕ). list_second l g ∷ drop k l) three in
    p ∙ ap (λ (r : List ℕ). list_pin l g ∷ r) (a ∙ ap (λ (r : List ℕ). list_first l g ∷ r) b)

-- the gate of a list that stands in the bytes
gate_here : (l bs : List ℕ) (g v : ℕ) {at next : ℕ} → GateAs l g v → v ≤ 2 ^ 30 → Stands (gate_bytes l g) bs at next
    → gate_from bs v at ≡ gate_read (list_first l g) (list_second l g) next
unfolding gate_bytes
gate_here l bs g v {at} {next} G h f =
    let a : ℕ = list_first l g in
    let mid : ℕ = at + length (difference_bytes (2 * list_pin l g - a)) in
    let one : Stands (difference_bytes (2 * list_pin l g - a)) bs at mid = stands_first _ (difference_bytes (a - list_second l g)) bs f in
    let two : Stands (difference_bytes (a - list_second l g)) bs mid next = stands_second (difference_bytes (2 * list_pin l g - a)) _ bs f in
    gate_read_lem v a (list_second l g) bs h G.first G.second (subst (λ (p : ℕ). Stands (difference_bytes (2 * p - a)) bs at mid) G.pin one) two

pub gates_read : (l bs : List ℕ) (N v n g : ℕ) {at next : ℕ} → ListAs N v l → v + N ≤ suc (2 ^ 30) → g + n ≡ N → Stands (gates_bytes l n g) bs at next
    → gates_from bs n (v + g) at ≡ found (drop (3 * g) l) next
unfolding gates_from gates_bytes
gates_read l bs N v zero g {at} {next} L h e f =
    let long = L.long in
    let past : length l ≤ 3 * g = omega arith in
    ap₂ found (sym (drop_of_length-le l past)) (omega (arith, f.ends))
gates_read l bs N v (suc n) g {at} {next} L h e f =
    let long = L.long in
    let G = L.each g (omega arith) in
    let mid : ℕ = at + length (gate_bytes l g) in
    let here : Stands (gate_bytes l g) bs at mid = stands_first (gate_bytes l g) (gates_bytes l n (g + 1)) bs f in
    let there : Stands (gates_bytes l n (g + 1)) bs mid next = stands_second (gate_bytes l g) (gates_bytes l n (g + 1)) bs f in
    let head = gate_here l bs g (v + g) G (omega arith) here in
    let tail = gates_read l bs N v n (g + 1) L h (omega arith) there in
    let step : v + g + 1 ≡ v + (g + 1) = omega arith in
    let words = gate_words_lem l g (omega arith) ∙ ap (λ (p : ℕ). p ∷ list_first l g ∷ list_second l g ∷ drop (3 * (g + 1)) l) G.pin in
    gates_on bs n (v + g) at (list_first l g) (list_second l g) mid head
    ∙ ap (gate_before (v + g) (list_first l g) (list_second l g)) (ap (λ (k : ℕ). gates_from bs n k mid) step ∙ tail)
    ∙ ap (λ (r : List ℕ). found r next) (sym words)
