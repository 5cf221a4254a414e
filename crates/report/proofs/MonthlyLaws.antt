-- M2's lines and the others, by computing.
-- Assumes nothing.
use mathlib.Core.Path.{refl}
use Rattle.words.specs.Bit.{pop_in}
use Rattle.reads.specs.ReadSet.{total, pairs_from, pair_form, broken_from}
use Rattle.reads.specs.Search.{pieces_in, insert_piece, ordered, joined, first_room, try_from, first_win, longest}
use Rattle.reads.specs.Packing.{times, weigh, wide_mask}
use Rattle.reads.specs.SetAnswer.{searched, packed, read_set}
use Rattle.handed_lanes.specs.Handed.{pair_index, in_front, pair_more, lanes_in, belongs, bad_from, bad_pair, all_stand, whole, fault, told_item, judged, handed_packed, handed_set}
use Rattle.text.specs.Text.{decimal_in}
use Rattle.report.specs.Report.{part_outcome, lane_used, lanes_in_use, empty_in}
use Rattle.report.specs.Batch.{good_fed, refused_fed, fed_with, fed_all}
use Rattle.report.specs.BatchText.{report_line, line_of_two, total_lines, occupancy_line, refused_line, refused_lines, report_text}
use Rattle.report.specs.Monthly.{monthly, printed_of, said_of, MonthlyRight}

pub monthly_right : MonthlyRight
unfolding monthly printed_of said_of pop_in total pairs_from pair_form broken_from pieces_in insert_piece ordered joined first_room try_from first_win longest times weigh wide_mask searched packed read_set
    pair_index in_front pair_more lanes_in belongs bad_from bad_pair all_stand whole fault told_item judged handed_packed handed_set decimal_in part_outcome lane_used lanes_in_use empty_in good_fed refused_fed fed_with fed_all
    report_line line_of_two total_lines occupancy_line refused_line refused_lines report_text
monthly_right = refl
