-- The judgement of a node, case by case as `judge` takes them.
-- Assumes nothing.
use mathlib.Core.Path.{◌≡◌, sym, ap, ap₂, ◌∙◌}
use mathlib.Core.Bool.{Bool, true, false}
use mathlib.Core.Option.{none, some}
use mathlib.Core.List.{List}
use Prim.Native.Nat.{ℕ, ◌-◌, ◌/◌, ◌≤◌, ◌<◌}
use native.Mathlib.Omega.{arith}
use lib.ListN.{length}
use Rattle.gatelist.specs.ListWords.{list_first, list_second, gate_in}
use Rattle.repair_nodes.specs.Placing.{node_level, first_pin, second_pin, level_right, bad_level, no_gate}
use Rattle.repair_nodes.proofs.PlacingLaws.{first_is, second_is}
use Rattle.repair_nodes.proofs.JudgeLaws.{level_right_lem, level_none, level_above, bad_level_lem, bad_last, bad_down, bad_split, bad_gateless, gate_last, gate_down, gate_split, gate_none}
use Rattle.repair_subtree.specs.Subtree.{judgement_of, worse_of}
use Rattle.std.specs.Prelude.{⊤, Ok, Err}
use Rattle.std.specs.declared.result.Result.{Result}
use Rattle.repair_subtree.specs.declared.Misplaced.{Misplaced}
use Rattle.repair_subtree.specs.declared.Misplaced.TheVariants.{WrongLevel, Gateless}
use Rattle.repair_subtree.proofs.SubtreeLaws.{worse_is}

abbrev pub judged : List ℕ → List ℕ → ℕ → ℕ → Result ⊤ Misplaced
judged gates levels h x = judgement_of (bad_level gates levels h x) (no_gate gates levels h x)

module _ (gates levels : List ℕ) (h x : ℕ) where
  wrong : level_right levels h x ≡ false → Err WrongLevel ≡ judged gates levels h x
  wrong e = sym (ap (λ (b : Bool). judgement_of b (no_gate gates levels h x)) (bad_level_lem gates levels h x e))

  pub judge_none : length levels ≤ x → Err WrongLevel ≡ judged gates levels h x
  judge_none l = wrong (level_none levels h x l)

  module _ (inside : x < length levels) where
    pub judge_above : h < node_level levels x → Err WrongLevel ≡ judged gates levels h x
    judge_above k = wrong (level_above levels h x inside k)

    pub judge_last : node_level levels x ≤ h → h ≡ 0 → Ok tt ≡ judged gates levels h x
    judge_last k z =
        let e : bad_level gates levels h x ≡ false = rw z (bad_last gates levels x (level_right_lem levels 0 x inside (omega arith))) in
        let f : no_gate gates levels h x ≡ false = rw z (gate_last gates levels x) in
        sym (ap₂ judgement_of e f)

    module _ (p : 0 < h) (k : node_level levels x ≤ h) where
      right : level_right levels h x ≡ true
      right = level_right_lem levels h x inside k

      pub judge_down : (r : Result ⊤ Misplaced) → node_level levels x < h → r ≡ judged gates levels (h - 1) x → r ≡ judged gates levels h x
      judge_down r l e = e ∙ sym (ap₂ judgement_of (bad_down gates levels h x p right l) (gate_down gates levels h x p l))

      pub judge_missing : node_level levels x ≡ h → gate_in gates x ≡ none → Err Gateless ≡ judged gates levels h x
      judge_missing l e = sym (ap₂ judgement_of (bad_gateless gates levels h x p right l e) (gate_none gates levels h x p l e))

      pub judge_split : (g a b : ℕ) (ra rb r : Result ⊤ Misplaced) → node_level levels x ≡ h → gate_in gates x ≡ some g
          → a ≡ list_first gates g / 2 → b ≡ list_second gates g / 2
          → ra ≡ judged gates levels (h - 1) a → rb ≡ judged gates levels (h - 1) b → r ≡ worse_of ra rb → r ≡ judged gates levels h x
      judge_split g a b ra rb r l e u v ea eb er =
          let fa : ra ≡ judged gates levels (h - 1) (first_pin gates x) = ea ∙ ap (λ (y : ℕ). judged gates levels (h - 1) y) (u ∙ sym (first_is gates x g e)) in
          let fb : rb ≡ judged gates levels (h - 1) (second_pin gates x) = eb ∙ ap (λ (y : ℕ). judged gates levels (h - 1) y) (v ∙ sym (second_is gates x g e)) in
          let w = worse_is
          (bad_level gates levels (h - 1) (first_pin gates x)) (bad_level gates levels (h - 1) (second_pin gates x))
          (no_gate gates levels (h - 1) (first_pin gates x)) (no_gate gates levels (h - 1) (second_pin gates x)) in
          er ∙ (ap₂ worse_of fa fb ∙ (sym w ∙ sym (ap₂ judgement_of (bad_split gates levels h x g p right l e) (gate_split gates levels h x g p l e))))
