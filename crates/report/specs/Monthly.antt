-- What the report must give, to the byte: M2's part at both numbers of lanes, the batch of none, and M2's part among refused ones. One list, one claim.
-- Assumes nothing.
use Rattle.std.specs.Prelude.{◌≡◌, List, [], ◌∷◌, ◌++◌, ℕ, ◌^◌}
use Rattle.report.specs.Report.{Part, part_given}
use Rattle.report.specs.Batch.{empty_batch, fed_all}
use Rattle.report.specs.BatchText.{parts_name, bits_name, lanes_name, rounds_name, empty_name, words_name, occupancy_name, refused_name, report_text}

-- M2's set, and parts of which four are refused: their stages twice, one lane handed in, no set
abbrev pub set_m2 : List ℕ
set_m2 = 0 ∷ 3 ∷ 1 ∷ 32 ∷ 2 ^ 31 ∷ 1 ∷ []

abbrev pub some_refused : List Part
some_refused = part_given set_m2 [] 256 ∷ part_given set_m2 (0 ∷ 0 ∷ []) 1 ∷ part_given set_m2 [] 1 ∷ part_given [] [] 1 ∷ part_given [] [] 0 ∷ []

-- what the definitions print, and what document 02 says
pub record Printed : Type 0 where
  pub got : List ℕ
  pub said : List ℕ

unfoldable pub monthly : List Printed
monthly =
    record {
      got = report_text (fed_all 256 (part_given set_m2 [] 1 ∷ []) empty_batch);
      said = parts_name ++ (49 ∷ 10 ∷ (
          bits_name ++ (52 ∷ 10 ∷ (
          lanes_name ++ (51 ∷ 10 ∷ (
          rounds_name ++ (49 ∷ 10 ∷ (
          empty_name ++ (50 ∷ 53 ∷ 51 ∷ 10 ∷ (
          words_name ++ (49 ∷ 54 ∷ 49 ∷ 50 ∷ 56 ∷ 10 ∷ (
          occupancy_name ++ (52 ∷ 32 ∷ 56 ∷ 49 ∷ 57 ∷ 50 ∷ 10 ∷ [])))))))))))));
    }
    ∷ record {
      got = report_text (fed_all 128 (part_given set_m2 [] 1 ∷ []) empty_batch);
      said = parts_name ++ (49 ∷ 10 ∷ (
          bits_name ++ (52 ∷ 10 ∷ (
          lanes_name ++ (51 ∷ 10 ∷ (
          rounds_name ++ (49 ∷ 10 ∷ (
          empty_name ++ (49 ∷ 50 ∷ 53 ∷ 10 ∷ (
          words_name ++ (56 ∷ 48 ∷ 54 ∷ 52 ∷ 10 ∷ (
          occupancy_name ++ (52 ∷ 32 ∷ 52 ∷ 48 ∷ 57 ∷ 54 ∷ 10 ∷ [])))))))))))));
    }
    ∷ record {
      got = report_text empty_batch;
      said = parts_name ++ (48 ∷ 10 ∷ (
          bits_name ++ (48 ∷ 10 ∷ (
          lanes_name ++ (48 ∷ 10 ∷ (
          rounds_name ++ (48 ∷ 10 ∷ (
          empty_name ++ (48 ∷ 10 ∷ (
          words_name ++ (48 ∷ 10 ∷ (
          occupancy_name ++ (48 ∷ 32 ∷ 48 ∷ 10 ∷ [])))))))))))));
    }
    ∷ record {
      got = report_text (fed_all 256 some_refused empty_batch);
      said = parts_name ++ (49 ∷ 10 ∷ (
          bits_name ++ (52 ∷ 10 ∷ (
          lanes_name ++ (51 ∷ 10 ∷ (
          rounds_name ++ (49 ∷ 10 ∷ (
          empty_name ++ (50 ∷ 53 ∷ 51 ∷ 10 ∷ (
          words_name ++ (49 ∷ 54 ∷ 49 ∷ 50 ∷ 56 ∷ 10 ∷ (
          occupancy_name ++ (52 ∷ 32 ∷ 56 ∷ 49 ∷ 57 ∷ 50 ∷ 10 ∷ (
          refused_name ++ (51 ∷ 32 ∷ 49 ∷ 10 ∷ (
          refused_name ++ (53 ∷ 32 ∷ 50 ∷ 10 ∷ (
          refused_name ++ (50 ∷ 55 ∷ 32 ∷ 49 ∷ 10 ∷ [])))))))))))))))))));
    }
    ∷ []

unfoldable pub printed_of : List Printed → List (List ℕ)
printed_of [] = []
printed_of (e ∷ es) = e.got ∷ printed_of es

unfoldable pub said_of : List Printed → List (List ℕ)
said_of [] = []
said_of (e ∷ es) = e.said ∷ said_of es

-- THE CLAIM
abbrev pub MonthlyRight : Type 0
MonthlyRight = printed_of monthly ≡ said_of monthly
