-- The blocks of one major stage: whatever the order of their turns, once none is left each part's words hold what the part puts there (`stored`), and
-- words that no part stores stay (`untouched`). So all orders leave one new state (`in_any_order`).
-- Assumes nothing.
use mathlib.Core.Path.{◌≡◌, refl, sym, ap, ◌∙◌, subst}
use mathlib.Core.List.{List, [], ◌∷◌}
use mathlib.Core.Logic.{⊎_elim}
use mathlib.Core.Option.{none}
use Prim.Native.Nat.{ℕ, zero, suc, ◌+◌, ◌-◌, ◌≤◌, ◌<◌}
use native.Mathlib.Omega.{arith}
use borrow.Author.Tests.{ltb-true, lt-ltb}
use lib.Dec.{ltb}
use lib.ListN.{length, get_or, replicate}
use lib.Seq.{ext_get_or}
use Rattle.words.specs.Sum.{sum_to}
use Rattle.words.proofs.SumLaws.{sum_ext}
use Rattle.words.proofs.BitLaws.{lt_or_ge}
use Rattle.words.proofs.TestLaws.{not_none, none_not}
use Rattle.run_machine.specs.Turn.{Block, ended}
use Rattle.run_machine.specs.Run.{run_turns, turns_left, all_left, bad_turn}
use Rattle.promise_order.specs.Order.{captured_by, block_turns, one_after_another, Stores, store_word, PartAt, Unstored}
use Rattle.words.specs.Count.{count}
use Rattle.words.proofs.CountLaws.{count_append}
use Rattle.promise_order.proofs.TurnsLaws.{count_replicate, TurnNames, names_of, names_at, names_append, names_replicate}
use Rattle.promise_order.proofs.PartTurnLaws.{ended_phase, left_none}
use Rattle.promise_order.proofs.AloneLaws.{Laid, ran, storer}

-- ---- "turn names no block", excluded

names : (starts turns : List ℕ) → bad_turn starts turns ≡ none → TurnNames (length starts - 1) turns
unfolding bad_turn
names starts turns h = names_of (length starts - 1) turns (λ i l. ltb-true _ _ (not_none (λ i. ltb (get_or turns i 0) (length starts - 1)) (length turns) h i l))

named : (starts turns : List ℕ) → TurnNames (length starts - 1) turns → bad_turn starts turns ≡ none
unfolding bad_turn
named starts turns h = none_not (λ i. ltb (get_or turns i 0) (length starts - 1)) (length turns) (λ i l. lt-ltb _ _ (names_at (length starts - 1) turns h i l))

pub turns_named : (starts turns : List ℕ) → ((i : ℕ) → i < length turns → get_or turns i 0 < length starts - 1) → bad_turn starts turns ≡ none
turns_named starts turns h = named starts turns (names_of (length starts - 1) turns h)

-- ---- turns left of all blocks: the sum over the blocks

pub sum_first : (f : ℕ → ℕ) (m : ℕ) → sum_to f (suc m) ≡ f 0 + sum_to (λ i. f (suc i)) m
unfolding sum_to
sum_first f zero = omega arith
sum_first f (suc m) = omega (arith, sum_first f m)

all_sum : (n : ℕ) (W : List ℕ) (ps : List Block) → all_left n W ps ≡ sum_to (λ b. turns_left n W (get_or ps b (ended 0)).phase (get_or ps b (ended 0))) (length ps)
unfolding all_left sum_to
all_sum n W [] = refl
all_sum n W (p ∷ ps) =
    ap (λ (x : ℕ). turns_left n W p.phase p + x) (all_sum n W ps)
    ∙ sym (sum_first (λ b. turns_left n W (get_or (p ∷ ps) b (ended 0)).phase (get_or (p ∷ ps) b (ended 0))) (length ps))

-- ---- turns left of all blocks: none exactly when none of each

none_each : (n : ℕ) (W : List ℕ) (ps : List Block) → all_left n W ps ≡ 0 → (b : ℕ) → turns_left n W (get_or ps b (ended 0)).phase (get_or ps b (ended 0)) ≡ 0
unfolding all_left
none_each n W [] e b = left_none n W (ended 0) (ended_phase 0)
none_each n W (p ∷ ps) e zero = omega arith
none_each n W (p ∷ ps) e (suc b) = none_each n W ps (omega arith) b

each_none : (n : ℕ) (W : List ℕ) (ps : List Block) → ((b : ℕ) → b < length ps → turns_left n W (get_or ps b (ended 0)).phase (get_or ps b (ended 0)) ≡ 0) → all_left n W ps ≡ 0
unfolding all_left
each_none n W [] h = refl
each_none n W (p ∷ ps) h = omega (arith, h 0 (omega arith), each_none n W ps (λ b l. h (suc b) (omega arith)))

-- ---- one block after another: every turn names a block, and each has all its turns

one_names : (n : ℕ) (W starts : List ℕ) (m k : ℕ) → k ≤ m → TurnNames m (one_after_another n W starts k)
unfolding one_after_another
one_names n W starts m zero h = tt
one_names n W starts m (suc k) h =
    names_append m (one_after_another n W starts k) _ (one_names n W starts m k (omega arith)) (names_replicate m (block_turns n W (get_or starts k 0)) k h)

pub one_named : (n : ℕ) (W starts : List ℕ) → bad_turn starts (one_after_another n W starts (length starts - 1)) ≡ none
one_named n W starts = named starts _ (one_names n W starts (length starts - 1) (length starts - 1) (omega arith))

one_count : (n : ℕ) (W starts : List ℕ) (k b : ℕ) → b < k → block_turns n W (get_or starts b 0) ≤ count b (one_after_another n W starts k)
unfolding one_after_another
one_count n W starts zero b h = absurd (omega arith)
one_count n W starts (suc k) b h =
    let both = count_append b (one_after_another n W starts k) (replicate (block_turns n W (get_or starts k 0)) k) in
    ⊎_elim
    (λ l. omega (arith, both, one_count n W starts k b l))
    (λ l.
    let e : b ≡ k = omega arith in
    omega (arith, both, subst (λ x. block_turns n W (get_or starts x 0) ≡ count x (replicate (block_turns n W (get_or starts k 0)) k)) (sym e) (sym (count_replicate k _))))
    (lt_or_ge b k)

-- ---- the theorems

module _ (n H : ℕ) (W starts : List ℕ) (s t : ℕ) (old new : List ℕ) (laid : Laid n W starts s t new) where
  pub same_length : (turns : List ℕ) → bad_turn starts turns ≡ none → length (run_turns n H W starts turns old new).new ≡ length new
  same_length turns name = (ran n H W starts s t old new laid turns (names starts turns name)).size

  -- done or not, a word that no part stores is as it was
  pub untouched : (turns : List ℕ) → bad_turn starts turns ≡ none
      → (w : ℕ) → Unstored n W starts (length starts - 1) w
      → get_or (run_turns n H W starts turns old new).new w 0 ≡ get_or new w 0
  untouched turns name w free = (ran n H W starts s t old new laid turns (names starts turns name)).rest w free

  -- once no turns are left, a part's words hold what it puts there, having captured between the old state and the new one as it was at first
  pub stored : (turns : List ℕ) → bad_turn starts turns ≡ none → all_left n W (run_turns n H W starts turns old new).blocks ≡ 0
      → (b i o w : ℕ) → PartAt n W starts (length starts - 1) b i o → Stores W o w
      → get_or (run_turns n H W starts turns old new).new w 0 ≡ store_word n W o old (captured_by n H W o old new) w
  stored turns name done b i o w part h =
      (ran n H W starts s t old new laid turns (names starts turns name)).finished b i o w part h (none_each n W _ done b)

  -- done or not, the turns left are those of each block less how often it was named
  pub left_total : (turns : List ℕ) → bad_turn starts turns ≡ none
      → all_left n W (run_turns n H W starts turns old new).blocks ≡ sum_to (λ b. block_turns n W (get_or starts b 0) - count b turns) (length starts - 1)
  left_total turns name =
      let r = ran n H W starts s t old new laid turns (names starts turns name) in
      all_sum n W _ ∙ ap (sum_to _) r.blocks ∙ sum_ext _ _ (length starts - 1) r.turns_left_lem

  -- two lists of turns that both leave none make one new state
  pub one_end : (ts us : List ℕ) → bad_turn starts ts ≡ none → bad_turn starts us ≡ none
      → all_left n W (run_turns n H W starts ts old new).blocks ≡ 0 → all_left n W (run_turns n H W starts us old new).blocks ≡ 0
      → (run_turns n H W starts ts old new).new ≡ (run_turns n H W starts us old new).new
  one_end ts us a b f g = ext_get_or 0 _ _ (same_length ts a ∙ sym (same_length us b)) (λ w h. ⊎_elim
      (λ q. stored ts a f q.b q.i q.o w q.part q.stores ∙ sym (stored us b g q.b q.i q.o w q.part q.stores))
      (λ free. untouched ts a w free ∙ sym (untouched us b w free))
      (storer n H W starts s t old new laid w))

  -- the turns one block after another leave none
  pub one_done : all_left n W (run_turns n H W starts (one_after_another n W starts (length starts - 1)) old new).blocks ≡ 0
  one_done =
      let r = ran n H W starts s t old new laid (one_after_another n W starts (length starts - 1)) (one_names n W starts (length starts - 1) (length starts - 1) (omega arith)) in
      each_none n W _ (λ b h.
      let l : b < length starts - 1 = omega (arith, r.blocks) in
      omega (arith, r.turns_left_lem b l, one_count n W starts (length starts - 1) b l))

  -- any order makes the new state that the blocks make one after another
  pub in_any_order : (turns : List ℕ) → bad_turn starts turns ≡ none → all_left n W (run_turns n H W starts turns old new).blocks ≡ 0
      → (run_turns n H W starts turns old new).new ≡ (run_turns n H W starts (one_after_another n W starts (length starts - 1)) old new).new
  in_any_order turns name done = one_end turns _ name (one_named n W starts) done one_done
