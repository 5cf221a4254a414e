-- `listing::rounds_of` meets its contract: the section is as long as 32 rounds, so what is fitted into it is the answer; the rows of the lanes are the
-- first words of a table for the full edition.
-- Assumes nothing.
use Rattle.listing.proofs.AnswerToLaws.{of_rounds, of_refused, of_section}
use mathlib.Core.Path.{sym, ◌∙◌}
use Prim.Native.Nat.{ℕ, ◌*◌}
use native.Mathlib.Omega.{arith}
use lib.ListN.{replicate, length-replicate}
use lib.Seq.{length-take-le}
use Rattle.listing.proofs.rounds_of.Goals as goal

pub slice_bounds-table-end : goal.slice_bounds-table-end
slice_bounds-table-end c =
    omega (arith, length-replicate {A = ℕ} 8192 0, c.requires.4)

pub slice_bounds-rounds_over-end : goal.slice_bounds-rounds_over-end
slice_bounds-rounds_over-end c =
    sym (length-take-le (32 * c.args.lanes) (replicate {A = ℕ} 8192 0) (omega (arith, length-replicate {A = ℕ} 8192 0, c.requires.4)))

pub rounds_over-requires : goal.rounds_over-requires
rounds_over-requires c =
    record {
      room = length-take-le (32 * c.args.lanes) (replicate {A = ℕ} 8192 0) (omega (arith, length-replicate {A = ℕ} 8192 0, c.requires.4));
      some_lanes = c.requires.3;
      few-lanes = c.requires.4;
      keys-room = λ l. omega (arith, c.requires.1);
      scratch-room = λ l. omega (arith, c.requires.2);
    }

pub returns-in-Ok : goal.returns-in-Ok
returns-in-Ok c =
    record { value = of_rounds c.args.lanes c.args.set.now _ c.requires.0 _ (sym c.in-Ok.is ∙ c.rounds_over.ensures.value); section_after = of_section c.args.lanes c.args.set.now _ c.requires.0 _ _ c.rounds_over.ensures.out_after }

pub returns-in-Err : goal.returns-in-Err
returns-in-Err c =
    record { value = of_refused c.args.lanes c.args.set.now _ c.requires.0 _ (sym c.in-Err.is ∙ c.rounds_over.ensures.value); section_after = of_section c.args.lanes c.args.set.now _ c.requires.0 _ _ c.rounds_over.ensures.out_after }
