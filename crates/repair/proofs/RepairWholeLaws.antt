-- The room and refusal 5 in the code's terms; what the exported contracts take together.
-- Assumes nothing.
use mathlib.Core.Path.{◌≡◌, refl, sym, ap, ap₂, ◌∙◌}
use mathlib.Core.Bool.{Bool, true, false, ◌&&◌, and-false}
use mathlib.Core.List.{List}
use Prim.Native.Nat.{ℕ, ◌+◌, ◌-◌, ◌/◌, ◌%◌, ◌^◌, ◌≤◌, ◌<◌}
use native.Mathlib.Omega.{arith}
use borrow.Author.Tests.{leb-true, leb-false, ltb-true, le-leb, lt-leb}
use lib.Dec.{leb, ltb}
use lib.ListN.{length, replicate, length-replicate}
use Rattle.words.specs.Pins.{is_pin}
use Rattle.words.proofs.TestLaws.{and_true}
use Rattle.repair_nodes.specs.Stage.{width}
use Rattle.words.specs.Answer.{Answer}
use Rattle.repair_nodes.specs.RepairAnswer.{Repair, repair_room_words, place_right, slots_after, count_list_after, repair_room_after}
use Rattle.repair_settle.specs.Settle.{repaired_of, Ended}
use Rattle.std.specs.declared.result.Result.{Result}
use Rattle.words.specs.declared.refusals.Refusal.{Refusal}
use Rattle.repair.proofs.RepairAnswerLaws.{room_is, room_clear}

-- ---- the room

pub room_under : (counts : List ℕ) (r : ℕ) → r < 65536 → false ≡ leb (repair_room_words counts) r
room_under counts r h = sym (lt-leb (repair_room_words counts) r (omega (arith, room_is counts)))

pub room_by : (counts : List ℕ) (r : ℕ) → 65536 ≤ r → leb (length counts / 2 + length counts % 2) ((r - 65536) / 4) ≡ leb (repair_room_words counts) r
room_by counts r h = go (leb (length counts / 2 + length counts % 2) ((r - 65536) / 4)) refl
  where
    go : (b : Bool) → leb (length counts / 2 + length counts % 2) ((r - 65536) / 4) ≡ b → b ≡ leb (repair_room_words counts) r
    go true e =
        let k : length counts / 2 + length counts % 2 ≤ (r - 65536) / 4 = leb-true _ _ e in
        sym (le-leb (repair_room_words counts) r (omega (arith, room_is counts)))
    go false e =
        let k : (r - 65536) / 4 < length counts / 2 + length counts % 2 = leb-false _ _ e in
        sym (lt-leb (repair_room_words counts) r (omega (arith, room_is counts)))

module _ (room room₁ : List ℕ) (e : room₁ ≡ replicate (length room) 0) where
  pub zeros_length : length room₁ ≡ length room
  zeros_length = ap length e ∙ length-replicate {A = ℕ} (length room) 0

  pub zeros_own : room₁ ≡ replicate (length room₁) 0
  zeros_own = e ∙ ap (λ (n : ℕ). replicate n 0) (sym zeros_length)

  -- cleared once more, it is as the definition says
  pub room_left_lem : (counts room₂ room₃ : List ℕ) → repair_room_words counts ≤ length room → length room₂ ≡ length room₁ → room₃ ≡ replicate (length room₂) 0
      → room₃ ≡ repair_room_after counts room
  room_left_lem counts room₂ room₃ h l f = f ∙ (ap (λ (n : ℕ). replicate n 0) (l ∙ zeros_length) ∙ sym (room_clear counts room h))

-- the four equations of a contract
pub whole_end : (o : Answer Repair) (a : Result ℕ Refusal) (s s₁ out out₁ room₁ : List ℕ) (counts room : List ℕ) → Ended o a s s₁ out out₁ → room₁ ≡ repair_room_after counts room
    → (a ≡ repaired_of o) × ((s₁ ≡ slots_after o s) × ((out₁ ≡ count_list_after o out) × (room₁ ≡ repair_room_after counts room)))
whole_end o a s s₁ out out₁ room₁ counts room e f = (e.answer, (e.slots, (e.list, f)))

-- ---- refusal 5

pub place_parts : (H h j : ℕ) → place_right H h j ≡ true → (h ≤ H) × (j < width H h)
unfolding place_right
place_parts H h j e = let (a, b) = and_true (leb h H) (ltb j (width H h)) e in (leb-true _ _ a, ltb-true _ _ b)

module _ (p c : Bool) (x : ℕ) where
  pub form_pin : 2 ^ 30 < x → (p && is_pin x && c) ≡ false
  form_pin h = ap (λ (b : Bool). b && c) (ap (λ (b : Bool). p && b) (lt-leb x (2 ^ 30) h) ∙ and-false p)

  pub form_place : p ≡ false → (p && is_pin x && c) ≡ false
  form_place e = ap (λ (b : Bool). b && is_pin x && c) e

  pub form_counts : c ≡ false → (p && is_pin x && c) ≡ false
  form_counts e = ap (λ (b : Bool). p && is_pin x && b) e ∙ and-false (p && is_pin x)

  pub form_right : p ≡ true → x ≤ 2 ^ 30 → c ≡ true → (p && is_pin x && c) ≡ true
  form_right e h f = ap₂ (λ (a : Bool) (b : Bool). a && b) (ap₂ (λ (a : Bool) (b : Bool). a && b) e (le-leb x (2 ^ 30) h)) f

pub both_place : (p c : Bool) → p ≡ false → (p && c) ≡ false
both_place p c e = ap (λ (b : Bool). b && c) e

pub both_counts : (p c : Bool) → c ≡ false → (p && c) ≡ false
both_counts p c e = ap (λ (b : Bool). p && b) e ∙ and-false p

pub both_right : (p c : Bool) → p ≡ true → c ≡ true → (p && c) ≡ true
both_right p c e f = ap₂ (λ (a : Bool) (b : Bool). a && b) e f
