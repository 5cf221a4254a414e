-- Laws of differences, literals and gates in the code's terms.
-- Assumes nothing.
use mathlib.Core.Path.{◌≡◌, refl, sym, ap, ap₂, ◌∙◌}
use mathlib.Core.List.{List, [], ◌∷◌}
use Prim.Native.Nat.{ℕ, zero, suc, ◌+◌, ◌*◌, ◌-◌, ◌^◌, ◌<◌, ◌≤◌}
use native.Mathlib.Nat.{pow-suc, pow-le-pow_right, mul-le-mul}
use native.Mathlib.Numerals.{sub-one}
use native.Mathlib.Omega.{arith}
use lib.Arith.{digits_lt}
use lib.Dec.{lit<}
use lib.ListN.{length, get_or, drop}
use Rattle.std.specs.Prelude.{Ok, Err}
use Rattle.std.specs.declared.result.Result.{Result}
use Rattle.words.specs.Answer.{nowhere}
use Rattle.words.specs.declared.refusals.Refusal.{Refusal}
use Rattle.aiger.specs.Reading.{Difference, whole, wrong, cut, above, groups_in, difference_in, difference_at, Literal, literal, literal_of, Gate, behind, gate_from}
use Rattle.aiger.proofs.DifferenceLaws.{groups_none, groups_empty, groups_last, groups_zero, groups_more, difference_one, difference_more}
use Rattle.aiger.proofs.AigerGateLaws.{literal_good, literal_low, literal_high, gate_good, gate_bad}
use Rattle.aiger_read.specs.ReadTold.{difference_of, literal_told, gate_told}
use Rattle.aiger_read.specs.declared.fields.Number.{Number}
use Rattle.aiger_read.specs.declared.differences.Literal.{Literal as LiteralRead}
use Rattle.aiger_read.proofs.FieldLaws.{byte_here, nothing_here}

-- ---- groups: what is read so far, and what is left of them at its scale

abbrev scaled : ℕ → ℕ → Difference → Difference
scaled x s (whole y at) = whole (y * s + x) at
scaled x s wrong = wrong
scaled x s cut = cut

scaled_above : (x s c : ℕ) (d : Difference) → scaled x s (above c d) ≡ scaled (c * s + x) (s * 128) d
scaled_above x s c (whole y at) = ap (λ (v : ℕ). whole v at) (omega arith)
scaled_above x s c wrong = refl
scaled_above x s c cut = refl

scaled_start : (low : ℕ) (d : Difference) → scaled low 128 d ≡ above low d
scaled_start low (whole y at) = ap (λ (v : ℕ). whole v at) (omega arith)
scaled_start low wrong = refl
scaled_start low cut = refl

pub record Groups (bs : List ℕ) (at low x scale i left : ℕ) : Type 0 where
  pub few : left ≤ 4
  pub scale-is : scale ≡ 128 ^ (5 - left)
  pub small : x < scale
  pub same : scaled x scale (groups_in left i (drop i bs)) ≡ above low (groups_in 4 at (drop at bs))

pub groups_start : (bs : List ℕ) (at low i : ℕ) → i ≡ at → low < 128 → Groups bs at low low 128 i 4
groups_start bs at low i e h = rw e (record { few = omega arith; scale-is = refl; small = h; same = scaled_start low (groups_in 4 at (drop at bs)) })

pub product_fits : (b s : ℕ) → b < 256 → s ≤ 2 ^ 28 → b * s ≤ 255 * 2 ^ 28
product_fits b s h k = let most : b ≤ 255 = omega arith in mul-le-mul most k

module _ {bs : List ℕ} {at low x scale i left : ℕ} (G : Groups bs at low x scale i left) where
  pub scale_fits : 0 < left → scale ≤ 2 ^ 28
  scale_fits p =
      let few = G.few in
      let less : 5 - left ≤ 4 = omega arith in
      let power : 128 ^ (5 - left) ≤ 128 ^ 4 = pow-le-pow_right (lit< tt) less in
      omega (arith, G.scale-is)

  groups-at : (d : Difference) → groups_in left i (drop i bs) ≡ d → difference_of (scaled x scale d) ≡ difference_of (above low (groups_in 4 at (drop at bs)))
  groups-at d e = ap (λ (k : Difference). difference_of (scaled x scale k)) (sym e) ∙ ap difference_of G.same

  pub groups_cut : 0 < left → length bs ≤ i → Err (nowhere 20) ≡ difference_of (above low (groups_in 4 at (drop at bs)))
  groups_cut p h = groups-at cut (ap (groups_in left i) (nothing_here bs i h) ∙ none left p)
    where
      none : (k : ℕ) → 0 < k → groups_in k i [] ≡ cut
      none zero q = absurd (omega arith)
      none (suc k) q = groups_empty k i

  pub groups_nought : 0 < left → i < length bs → get_or bs i 0 ≡ 0 → Err (nowhere 19) ≡ difference_of (above low (groups_in 4 at (drop at bs)))
  groups_nought p h e = groups-at wrong (ap (groups_in left i) (byte_here bs i h ∙ ap (λ (b : ℕ). b ∷ drop (i + 1) bs) e) ∙ none left p)
    where
      none : (k : ℕ) → 0 < k → groups_in k i (0 ∷ drop (i + 1) bs) ≡ wrong
      none zero q = absurd (omega arith)
      none (suc k) q = groups_zero k i _

  pub groups_value : (b : ℕ) → 0 < left → i < length bs → b ≡ get_or bs i 0 → (b ≡ 0 → ⊥) → b < 128
      → Ok (record { value = b * scale + x; next = i + 1 }) ≡ difference_of (above low (groups_in 4 at (drop at bs)))
  groups_value b p h e other small = groups-at (whole b (i + 1)) (ap (groups_in left i) (byte_here bs i h ∙ ap (λ (c : ℕ). c ∷ drop (i + 1) bs) (sym e)) ∙ one left p)
    where
      one : (k : ℕ) → 0 < k → groups_in k i (b ∷ drop (i + 1) bs) ≡ whole b (i + 1)
      one zero q = absurd (omega arith)
      one (suc k) q = groups_last k i b _ (omega (arith, other)) small

  pub groups_next : (b j rest : ℕ) → j ≡ i + 1 → rest ≡ left - 1 → 0 < left → i < length bs → b ≡ get_or bs i 0 → 128 ≤ b → b < 256 → Groups bs at low ((b - 128) * scale + x) (scale * 128) j rest
  groups_next b j rest ej er p h e lo hi =
      let few = G.few in
      let low-group : b - 128 < 128 = omega arith in
      let power : 5 - (left - 1) ≡ suc (5 - left) = omega arith in
      let others : Difference = groups_in (left - 1) (i + 1) (drop (i + 1) bs) in
      let here : groups_in left i (drop i bs) ≡ above (b - 128) others = ap (groups_in left i) (byte_here bs i h ∙ ap (λ (c : ℕ). c ∷ drop (i + 1) bs) (sym e)) ∙ more left p in
      rw (ej, er) (
      record {
        few = omega arith;
        scale-is = ap (λ (s : ℕ). s * 128) G.scale-is ∙ sym (pow-suc 128 (5 - left)) ∙ ap (λ (k : ℕ). 128 ^ k) (sym power);
        small = omega (arith, digits_lt low-group G.small);
        same = sym (scaled_above x scale (b - 128) others) ∙ ap (scaled x scale) (sym here) ∙ G.same;
      }
      )
    where
      more : (k : ℕ) → 0 < k → groups_in k i (b ∷ drop (i + 1) bs) ≡ above (b - 128) (groups_in (k - 1) (i + 1) (drop (i + 1) bs))
      more zero q = absurd (omega arith)
      more (suc k) q = groups_more k i b _ lo ∙ ap (λ (n : ℕ). above (b - 128) (groups_in n (i + 1) (drop (i + 1) bs))) (sym (sub-one (suc k)))

  pub groups_end : left ≡ 0 → Err (nowhere 19) ≡ difference_of (above low (groups_in 4 at (drop at bs)))
  groups_end e = groups-at wrong (ap (λ (k : ℕ). groups_in k i (drop i bs)) e ∙ groups_none i (drop i bs))

-- ---- a difference

pub difference_cut : (bs : List ℕ) (at : ℕ) → length bs ≤ at → Err (nowhere 20) ≡ difference_of (difference_at bs at)
unfolding difference_in
difference_cut bs at h = rw (nothing_here bs at h)

module _ (bs : List ℕ) (at b : ℕ) (inside : at < length bs) (e : b ≡ get_or bs at 0) where
  byte-is : drop at bs ≡ b ∷ drop (at + 1) bs
  byte-is = byte_here bs at inside ∙ ap (λ (c : ℕ). c ∷ drop (at + 1) bs) (sym e)

  pub difference_byte : b < 128 → Ok (record { value = b; next = at + 1 }) ≡ difference_of (difference_at bs at)
  difference_byte h = ap difference_of (sym (ap (difference_in at) byte-is ∙ difference_one at b _ h))

  pub difference_groups : (r : Result Number Refusal) → 128 ≤ b → r ≡ difference_of (above (b - 128) (groups_in 4 (at + 1) (drop (at + 1) bs))) → r ≡ difference_of (difference_at bs at)
  difference_groups r h is = is ∙ ap difference_of (sym (ap (difference_in at) byte-is ∙ difference_more at b _ h))

-- ---- a literal

module _ (top least : ℕ) (d : Difference) where
  pub literal_not : (e : Refusal) → difference_of d ≡ Err e → Err e ≡ literal_told (literal_of top least d)
  unfolding literal_of
  literal_not e f = go d f
    where
      go : (d : Difference) → difference_of d ≡ Err e → Err e ≡ literal_told (literal_of top least d)
      go (whole y i) f = let z : ◌≡◌ {A = ℕ} 0 1 = cc in absurd (omega arith)
      go wrong f = let same : ◌≡◌ {A = Refusal} (nowhere 19) e = cc in ap Err (sym same)
      go cut f = let same : ◌≡◌ {A = Refusal} (nowhere 20) e = cc in ap Err (sym same)

  module _ (n : Number) (e : difference_of d ≡ Ok n) where
    whole-is : d ≡ whole n.value n.next
    whole-is = go d e
      where
        go : (d : Difference) → difference_of d ≡ Ok n → d ≡ whole n.value n.next
        go (whole y i) f = let same : ◌≡◌ {A = Number} (record { value = y; next = i }) n = cc in ap₂ whole (ap (λ (k : Number). k.value) same) (ap (λ (k : Number). k.next) same)
        go wrong f = let z : ◌≡◌ {A = ℕ} 0 1 = cc in absurd (omega arith)
        go cut f = let z : ◌≡◌ {A = ℕ} 0 1 = cc in absurd (omega arith)

    pub literal_under : n.value < least → Err (nowhere 19) ≡ literal_told (literal_of top least d)
    literal_under h = ap literal_told (sym (ap (literal_of top least) whole-is ∙ literal_low top least n.value n.next h))

    pub literal_over : least ≤ n.value → top < n.value → Err (nowhere 19) ≡ literal_told (literal_of top least d)
    literal_over lo h = ap literal_told (sym (ap (literal_of top least) whole-is ∙ literal_high top least n.value n.next lo h))

    pub literal_found : least ≤ n.value → n.value ≤ top → Ok (record { literal = record { 0 = top - n.value }; next = n.next }) ≡ literal_told (literal_of top least d)
    literal_found lo hi = ap literal_told (sym (ap (literal_of top least) whole-is ∙ literal_good top least n.value n.next lo hi))

-- ---- a gate

literal_is : (d : Literal) (l : LiteralRead) → literal_told d ≡ Ok l → d ≡ literal l.literal.0 l.next
literal_is (literal y i) l e =
    let same : ◌≡◌ {A = LiteralRead} (record { literal = record { 0 = y }; next = i }) l = cc in
    ap₂ literal (ap (λ (k : LiteralRead). k.literal.0) same) (ap (λ (k : LiteralRead). k.next) same)
literal_is (Literal.refused n) l e = let z : ◌≡◌ {A = ℕ} 0 1 = cc in absurd (omega arith)

-- the gate whose literal is refused
refused_behind : (g : Gate) (d : Literal) (e : Refusal) → literal_told d ≡ Err e → ((n : ℕ) → d ≡ Literal.refused n → g ≡ Gate.refused n) → Err e ≡ gate_told g
refused_behind g (literal y i) e f h = let z : ◌≡◌ {A = ℕ} 0 1 = cc in absurd (omega arith)
refused_behind g (Literal.refused n) e f h =
    let same : ◌≡◌ {A = Refusal} (nowhere n) e = cc in
    ap Err (sym same) ∙ ap gate_told (sym (h n refl))

-- the first literal is refused; the second one; and none
module _ (bs : List ℕ) (v w at : ℕ) (own : w ≡ 2 * v + 0) where
  first_of : (d : Literal) → literal_of w 1 (difference_at bs at) ≡ d → literal_of (2 * v) 1 (difference_at bs at) ≡ d
  first_of d e = let same : 2 * v ≡ w = omega arith in ap (λ (top : ℕ). literal_of top 1 (difference_at bs at)) same ∙ e

  pub gate_first_lem : (e : Refusal) → literal_told (literal_of w 1 (difference_at bs at)) ≡ Err e → Err e ≡ gate_told (gate_from bs v at)
  gate_first_lem e f = refused_behind (gate_from bs v at) (literal_of w 1 (difference_at bs at)) e f (λ n h. gate_bad bs v at n (first_of _ h))

  module _ (a : LiteralRead) (f : literal_told (literal_of w 1 (difference_at bs at)) ≡ Ok a) where
    behind-first : gate_from bs v at ≡ behind a.literal.0 (literal_of a.literal.0 0 (difference_at bs a.next))
    behind-first = gate_good bs v at a.literal.0 a.next (first_of _ (literal_is _ a f))

    pub gate_second_lem : (e : Refusal) → literal_told (literal_of a.literal.0 0 (difference_at bs a.next)) ≡ Err e → Err e ≡ gate_told (gate_from bs v at)
    gate_second_lem e g =
        refused_behind (gate_from bs v at) (literal_of a.literal.0 0 (difference_at bs a.next)) e g (λ n h. behind-first ∙ ap (behind a.literal.0) h)

    pub gate_both : (b : LiteralRead) → literal_told (literal_of a.literal.0 0 (difference_at bs a.next)) ≡ Ok b
        → Ok (record { first = a.literal; second = b.literal; next = b.next }) ≡ gate_told (gate_from bs v at)
    gate_both b g = ap gate_told (sym (behind-first ∙ ap (behind a.literal.0) (literal_is _ b g)))
