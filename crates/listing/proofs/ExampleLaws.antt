-- Document 01's example of a listing (M2), to the byte: "Unstaged 0, 1, 37 and staged 0, then end, give exactly".
-- Assumes nothing.
use mathlib.Core.Path.{◌≡◌, refl}
use mathlib.Core.List.{List, [], ◌∷◌, ◌++◌}
use Prim.Native.Nat.{ℕ}
use Rattle.words.specs.Bit.{pop_in, with_bit}
use Rattle.reads.specs.ReadSet.{total, pairs_from, pair_form, broken_from}
use Rattle.reads.specs.Asked.{ask, read_set_of}
use Rattle.reads.specs.Search.{pieces_in, insert_piece, ordered, joined, first_room, try_from, first_win, longest}
use Rattle.reads.specs.Packing.{weigh, wide_mask}
use Rattle.reads.specs.SetAnswer.{searched, packed, read_set, set_fitted}
use Rattle.listing_records.specs.Records.{number_at, position_at, end_record_at, kind_at, record_at, records_from}
use Rattle.text.specs.Text.{decimal_in}
use Rattle.listing_line.specs.Line.{hex_digit, hex_in, kind_letter, line}
use Rattle.listing.specs.Listing.{lane_lines, lines, printed, printed_at, said, listing}

pub example : List ℕ
example = 1 ∷ 0 ∷ 0 ∷ 0 ∷ 0 ∷ 1 ∷ 1 ∷ 0 ∷ 0 ∷ 0 ∷ 1 ∷ 37 ∷ 0 ∷ 0 ∷ 0 ∷ 2 ∷ 0 ∷ 0 ∷ 0 ∷ 0 ∷ 0 ∷ []

-- rounds 1, LF; 0 0 n 0 00000003, LF; 1 0 n 1 00000020, LF; 2 0 s 0 00000001, LF
pub exactly : List ℕ
exactly =
    (114 ∷ 111 ∷ 117 ∷ 110 ∷ 100 ∷ 115 ∷ 32 ∷ 49 ∷ 10 ∷ [])
    ++ (48 ∷ 32 ∷ 48 ∷ 32 ∷ 110 ∷ 32 ∷ 48 ∷ 32 ∷ 48 ∷ 48 ∷ 48 ∷ 48 ∷ 48 ∷ 48 ∷ 48 ∷ 51 ∷ 10 ∷ [])
    ++ (49 ∷ 32 ∷ 48 ∷ 32 ∷ 110 ∷ 32 ∷ 49 ∷ 32 ∷ 48 ∷ 48 ∷ 48 ∷ 48 ∷ 48 ∷ 48 ∷ 50 ∷ 48 ∷ 10 ∷ [])
    ++ (50 ∷ 32 ∷ 48 ∷ 32 ∷ 115 ∷ 32 ∷ 48 ∷ 32 ∷ 48 ∷ 48 ∷ 48 ∷ 48 ∷ 48 ∷ 48 ∷ 48 ∷ 49 ∷ 10 ∷ [])

pub example_right : listing 256 example ≡ exactly
unfolding example exactly pop_in with_bit total pairs_from pair_form broken_from ask read_set_of pieces_in insert_piece ordered joined first_room try_from first_win longest weigh wide_mask searched packed
    read_set set_fitted number_at position_at end_record_at kind_at record_at records_from decimal_in hex_digit hex_in kind_letter line lane_lines lines printed printed_at said listing
example_right = refl
