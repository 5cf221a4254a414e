-- A block that goes through one part: its state after the read turn and k stages is one formula in k (`staged`), and each turn is a step of it.
-- Assumes nothing.
use mathlib.Core.Path.{◌≡◌, refl, sym, ap, ◌∙◌}
use mathlib.Core.Bool.{Bool, true, false}
use mathlib.Core.List.{List}
use mathlib.Core.Logic.{⊎_elim}
use Prim.Native.Nat.{ℕ, zero, suc, ◌+◌, ◌-◌, ◌^◌, ◌≤◌, ◌<◌}
use native.Mathlib.Numerals.{add-one}
use native.Mathlib.Omega.{arith}
use borrow.Author.Tests.{ltb-false, eq-eqb, ne_eqb}
use lib.Dec.{ltb, eqb}
use lib.ListN.{length, get_or, length-replicate}
use Rattle.words.proofs.BitLaws.{lt_or_ge}
use Rattle.words.proofs.SectionLaws.{list_of_ext}
use Rattle.reads.specs.ReadTurn.{appended, lane_word}
use Rattle.reads.proofs.ReadTurnLaws.{appended_none}
use Rattle.run_machine.specs.Part.{stages_at, last_at, rounds_at, normal_at, end_at, read_word_at, read_mask_at}
use Rattle.run_machine.specs.Turn.{state_word, read_row, Phase, to_read, to_stage, to_store, finished, Block, begins, ended, after_read, after_stage, after_store, stored, turned, written}
use Rattle.run_machine.specs.Run.{turns_after, turns_left}
use Rattle.run_machine.proofs.TurnLaws.{captured_length}
use Rattle.promise_order.specs.Order.{row_after, caps_after}
use Rattle.promise_order.proofs.StoreTurnLaws.{putPart, put_size}

-- ---- the read turn: a word that is read with no mask bits does not count

lane_ext : (w w' m : ℕ → ℕ) (R : ℕ) → ((r : ℕ) → r < R → 0 < m r → w r ≡ w' r) → lane_word w m R ≡ lane_word w' m R
unfolding lane_word
lane_ext w w' m zero h = refl
lane_ext w w' m (suc r) h = go (m r) refl ∙ ap (appended 32 (w' r) (m r)) (lane_ext w w' m r (λ q l. h q (omega arith)))
  where
    go : (x : ℕ) → m r ≡ x → appended 32 (w r) (m r) (lane_word w m r) ≡ appended 32 (w' r) (m r) (lane_word w m r)
    go zero e = ap (λ (x : ℕ). appended 32 (w r) x (lane_word w m r)) e ∙ appended_none 32 (w r) _ ∙ sym (appended_none 32 (w' r) _) ∙ ap (λ (x : ℕ). appended 32 (w' r) x (lane_word w m r)) (sym e)
    go (suc x) e = ap (λ (y : ℕ). appended 32 y (m r) (lane_word w m r)) (h r (omega arith) (omega arith))

window_same : (old m m' : List ℕ) (w : ℕ) → (2 ^ 31 ≤ w → get_or m (w - 2 ^ 31) 0 ≡ get_or m' (w - 2 ^ 31) 0) → state_word old m w ≡ state_word old m' w
unfolding state_word
window_same old m m' w h = go (ltb w (2 ^ 31)) refl
  where
    go : (b : Bool) → ltb w (2 ^ 31) ≡ b
        → ◌≡◌ {A = ℕ} (elim b [ true ↦ get_or old w 0 | false ↦ get_or m (w - 2 ^ 31) 0 ]) (elim b [ true ↦ get_or old w 0 | false ↦ get_or m' (w - 2 ^ 31) 0 ])
    go true e = refl
    go false e = h (ltb-false w (2 ^ 31) e)

-- memories that agree where the part reads give one row
pub row_same : (n : ℕ) (W : List ℕ) (o : ℕ) (old m m' : List ℕ)
    → ((r l : ℕ) → r < rounds_at W o → l < n → 0 < read_mask_at n W o r l → 2 ^ 31 ≤ read_word_at n W o r l → get_or m (read_word_at n W o r l - 2 ^ 31) 0 ≡ get_or m' (read_word_at n W o r l - 2 ^ 31) 0)
    → read_row n W o old m ≡ read_row n W o old m'
unfolding read_row
row_same n W o old m m' h = list_of_ext _ _ n (λ l k. lane_ext _ _ _ (rounds_at W o) (λ r j g. window_same old m m' (read_word_at n W o r l) (h r l j k g)))

-- ---- phases

module _ (W : List ℕ) where
  begins-phase : (o : ℕ) → 1 ≤ stages_at W o → (begins W o).phase ≡ to_read
  unfolding begins
  begins-phase o h = rw (ne_eqb (stages_at W o) 0 (λ e. omega arith), begins)

  pub empty_phase : (o : ℕ) → stages_at W o ≡ 0 → (begins W o).phase ≡ finished
  unfolding begins
  empty_phase o h = rw (eq-eqb (stages_at W o) 0 h, begins)

  pub written_size : (n : ℕ) (old : List ℕ) (f : Phase) (p : Block) (m : List ℕ) → length (written n W old f p m) ≡ length m
  unfolding written stored
  written_size n old to_read p m = refl
  written_size n old to_stage p m = refl
  written_size n old to_store p m = put_size n W p.part old p.caps m
  written_size n old finished p m = refl

pub ended_phase : (o : ℕ) → (ended o).phase ≡ finished
unfolding ended
ended_phase o = refl

-- ---- turns left

module _ (n : ℕ) (W : List ℕ) where
  abbrev pub left_of : Block → ℕ
  left_of p = turns_left n W p.phase p

  pub left_read : (o : ℕ) → 1 ≤ stages_at W o → left_of (begins W o) ≡ stages_at W o + 2 + turns_after n W o
  unfolding turns_left begins
  left_read o h = ap (λ f. turns_left n W f (begins W o)) (begins-phase W o h)

  pub left_none : (p : Block) → p.phase ≡ finished → left_of p ≡ 0
  unfolding turns_left
  left_none p e = ap (λ f. turns_left n W f p) e

-- ---- the stages

module _ (n H : ℕ) (W : List ℕ) where
  -- the block at the part at o, whose read turn left `row`, after k stages
  pub staged : ℕ → List ℕ → ℕ → Block
  staged o row k = record {
    part = o;
    phase = elim (eqb k (stages_at W o)) [ true ↦ to_store | false ↦ to_stage ];
    stage = k;
    row = row_after n H W o row k;
    caps = caps_after n H W o row k;
  }

  pub caps_length : (o : ℕ) (row : List ℕ) (k : ℕ) → length (caps_after n H W o row k) ≡ normal_at W o
  unfolding caps_after
  caps_length o row zero = length-replicate (normal_at W o) 0
  caps_length o row (suc k) = captured_length n W o k _ _

  -- ---- its phase

  staged-phase : (o : ℕ) (row : List ℕ) (k : ℕ) → k < stages_at W o → (staged o row k).phase ≡ to_stage
  unfolding staged
  staged-phase o row k h = rw (ne_eqb k (stages_at W o) (λ e. omega arith), staged)

  all-phase : (o : ℕ) (row : List ℕ) → (staged o row (stages_at W o)).phase ≡ to_store
  unfolding staged
  all-phase o row = rw (eq-eqb (stages_at W o) (stages_at W o) refl, staged)

  pub left_stage : (o : ℕ) (row : List ℕ) (k : ℕ) → k ≤ stages_at W o → left_of n W (staged o row k) ≡ stages_at W o - k + 1 + turns_after n W o
  unfolding turns_left staged
  left_stage o row k h = ⊎_elim
      (λ l. ap (λ f. turns_left n W f (staged o row k)) (staged-phase o row k l))
      (λ l. let e : k ≡ stages_at W o = omega arith in rw e (ap (λ f. turns_left n W f (staged o row (stages_at W o))) (all-phase o row) ∙ omega arith))
      (lt_or_ge k (stages_at W o))

  -- ---- turns

  module _ (old : List ℕ) where
    -- what block p's turn makes of it, and of the new state
    abbrev pub turn_of : Block → List ℕ → Block
    turn_of p m = turned n H W old p.phase p m

    abbrev pub put_of : Block → List ℕ → List ℕ
    put_of p m = written n W old p.phase p m

    pub turn_read : (o : ℕ) (m : List ℕ) → 1 ≤ stages_at W o → turn_of (begins W o) m ≡ staged o (read_row n W o old m) 0
    unfolding turned after_read staged begins row_after caps_after
    turn_read o m h = ap (λ f. turned n H W old f (begins W o) m) (begins-phase W o h) ∙ rw (ne_eqb 0 (stages_at W o) (λ e. omega arith))

    pub put_read : (o : ℕ) (m : List ℕ) → 1 ≤ stages_at W o → put_of (begins W o) m ≡ m
    unfolding written
    put_read o m h = ap (λ f. written n W old f (begins W o) m) (begins-phase W o h)

    pub turn_stage : (o : ℕ) (row : List ℕ) (k : ℕ) (m : List ℕ) → k < stages_at W o → turn_of (staged o row k) m ≡ staged o row (suc k)
    unfolding turned after_stage staged row_after caps_after
    turn_stage o row k m h = ap (λ f. turned n H W old f (staged o row k) m) (staged-phase o row k h) ∙ rw (add-one k)

    pub put_stage : (o : ℕ) (row : List ℕ) (k : ℕ) (m : List ℕ) → k < stages_at W o → put_of (staged o row k) m ≡ m
    unfolding written
    put_stage o row k m h = ap (λ f. written n W old f (staged o row k) m) (staged-phase o row k h)

    pub turn_store : (o : ℕ) (row m : List ℕ) → turn_of (staged o row (stages_at W o)) m ≡ after_store n W (staged o row (stages_at W o))
    unfolding turned
    turn_store o row m = ap (λ f. turned n H W old f (staged o row (stages_at W o)) m) (all-phase o row)

    pub turn_last : (o : ℕ) (row m : List ℕ) → last_at W o ≡ 1 → turn_of (staged o row (stages_at W o)) m ≡ ended o
    unfolding after_store staged
    turn_last o row m e = turn_store o row m ∙ rw (eq-eqb (last_at W o) 1 e, after_store)

    pub turn_more : (o : ℕ) (row m : List ℕ) → last_at W o ≡ 0 → turn_of (staged o row (stages_at W o)) m ≡ begins W (end_at n W o)
    unfolding after_store staged
    turn_more o row m e = turn_store o row m ∙ rw (ne_eqb (last_at W o) 1 (λ k. omega arith), after_store)

    pub put_store : (o : ℕ) (row m : List ℕ) → put_of (staged o row (stages_at W o)) m ≡ putPart n W o old (caps_after n H W o row (stages_at W o)) m
    unfolding written stored staged
    put_store o row m = ap (λ f. written n W old f (staged o row (stages_at W o)) m) (all-phase o row)

    -- "A turn of a finished block does nothing"
    pub turn_none : (p : Block) (m : List ℕ) → p.phase ≡ finished → turn_of p m ≡ p
    unfolding turned
    turn_none p m e = ap (λ f. turned n H W old f p m) e

    pub put_none : (p : Block) (m : List ℕ) → p.phase ≡ finished → put_of p m ≡ m
    unfolding written
    put_none p m e = ap (λ f. written n W old f p m) e
