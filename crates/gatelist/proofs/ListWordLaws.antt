-- Laws of a gate list as words: a list that passes refusal 6 has whole gates only, and they pass it as gates.
-- Assumes nothing.
use Rattle.std.proofs.Common.{◌≡◌, ℕ, ◌+◌, ◌*◌, ◌/◌, ◌%◌, ◌<◌, ◌≤◌, true, false, ◌&&◌, eqb, ltb, List, length, sym, ◌∙◌, arith, le-leb}
use mathlib.Core.Option.{none, some}
use borrow.Author.Tests.{lt-leb}
use Rattle.sort.specs.HalfSearch.{Monotone, least}
use Rattle.words.proofs.TestLaws.{not_at, not_none, none_not, not_is}
use Rattle.gatelist.specs.GateList.{right_over, bad_over}
use Rattle.gatelist.specs.ListWords.{list_pin, list_first, list_second, whole_gates, all_gates, list_right, bad_list, gate_in}
use Rattle.gatelist.proofs.GateListLaws.{gate_at_lem, first_falls, second_falls, pins_monotone, has_gate, least_gate}

module _ (l : List ℕ) where
  -- a whole gate is judged by its numbers, a cut one breaks the form
  pub right_whole : (g : ℕ) → g < whole_gates l → list_right l g ≡ right_over (list_pin l) (list_first l) (list_second l) g
  unfolding list_right
  right_whole g h = let k : 3 * g + 3 ≤ length l = omega arith in rw (le-leb (3 * g + 3) (length l) k)

  pub right_cut : list_right l (whole_gates l) ≡ false
  unfolding list_right
  right_cut = let k : length l < 3 * whole_gates l + 3 = omega arith in rw (lt-leb (3 * whole_gates l + 3) (length l) k)

  -- the lowest whole gate that is not right is the list's; where all are right, a gate that is cut; else none
  pub wrong_whole : (g : ℕ) → bad_over (list_pin l) (list_first l) (list_second l) (whole_gates l) ≡ some g → bad_list l ≡ some g
  unfolding bad_list bad_over
  wrong_whole g h =
      let (k, f, p) = not_at (right_over (list_pin l) (list_first l) (list_second l)) (whole_gates l) g h in
      not_is (list_right l) (all_gates l) g (omega arith) (right_whole g k ∙ f) (λ j u. right_whole j (omega arith) ∙ p j u)

  module _ (whole : bad_over (list_pin l) (list_first l) (list_second l) (whole_gates l) ≡ none) where
    whole_right : (g : ℕ) → g < whole_gates l → list_right l g ≡ true
    unfolding bad_over
    whole_right g k = right_whole g k ∙ not_none (right_over (list_pin l) (list_first l) (list_second l)) (whole_gates l) whole g k

    pub wrong_cut : 0 < length l % 3 → bad_list l ≡ some (whole_gates l)
    unfolding bad_list
    wrong_cut r = not_is (list_right l) (all_gates l) (whole_gates l) (omega arith) right_cut whole_right

    pub none_wrong : length l % 3 ≡ 0 → bad_list l ≡ none
    unfolding bad_list
    none_wrong r = none_not (list_right l) (all_gates l) (λ g k. whole_right g (omega arith))

  module _ (good : bad_list l ≡ none) where
    pub gates_good : bad_over (list_pin l) (list_first l) (list_second l) (whole_gates l) ≡ none
    unfolding bad_list bad_over
    gates_good =
        none_not (right_over (list_pin l) (list_first l) (list_second l)) (whole_gates l)
        (λ g h. let k : g < all_gates l = omega arith in sym (right_whole g h) ∙ not_none (list_right l) (all_gates l) good g k)

    -- fan-ins of a gate found by its pin are below that pin
    pub first_under : (x g : ℕ) → gate_in l x ≡ some g → list_first l g / 2 < x
    unfolding gate_in
    first_under x g h = first_falls (list_pin l) (list_first l) (list_second l) (whole_gates l) gates_good x g h

    pub second_under : (x g : ℕ) → gate_in l x ≡ some g → list_second l g / 2 < x
    unfolding gate_in
    second_under x g h = second_falls (list_pin l) (list_first l) (list_second l) (whole_gates l) gates_good x g h

    -- the search by halves, and what the code's test of a gate says of the pin's gate
    pub ascending : Monotone (list_pin l) (whole_gates l)
    ascending = pins_monotone (list_pin l) (list_first l) (list_second l) (whole_gates l) gates_good

    pub found_gate : (x g : ℕ) → (ltb g (whole_gates l) && eqb (list_pin l g) x) ≡ true → gate_in l x ≡ some g
    unfolding gate_in
    found_gate x g h = has_gate (list_pin l) (list_first l) (list_second l) (whole_gates l) gates_good x g h

    pub found_none : (x g : ℕ) → g ≡ least (list_pin l) (whole_gates l) x → (ltb g (whole_gates l) && eqb (list_pin l g) x) ≡ false → gate_in l x ≡ none
    unfolding gate_in
    found_none x g e h = least_gate (list_pin l) (list_first l) (list_second l) (whole_gates l) gates_good x g e h

    -- a gate that is found is whole
    pub found_whole : (x g : ℕ) → gate_in l x ≡ some g → g < whole_gates l
    unfolding gate_in
    found_whole x g h = (gate_at_lem (list_pin l) (whole_gates l) x g h).0
