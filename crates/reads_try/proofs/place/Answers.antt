-- `place`: its calls' answers are the cases of the laws of placing.
-- Assumes nothing.
use native.Mathlib.Omega.{arith}
use Rattle.reads_try.proofs.PairPlacedLaws.{place_search, place_put, place_lt, place_full, place_lane}
use Rattle.reads_try.proofs.place.Goals as goal

pub find_lane-requires : goal.find_lane-requires
find_lane-requires c = place_search _ _ _ _ _ _ _ c.requires _ c.count-b.ensures

pub put-requires : goal.put-requires
put-requires c = place_put _ _ _ _ _ _ _ c.requires _ c.count-b.ensures _ c.find_lane.ensures _ c.in_ok-j.was

pub next_of-requires : goal.next_of-requires
next_of-requires c =
    omega (arith, c.requires.lane, place_lt _ _ _ _ _ _ _ c.requires _ c.count-b.ensures _ c.find_lane.ensures _ c.in_ok-j.was)

pub returns-in_err-j : goal.returns-in_err-j
returns-in_err-j c =
    let told = place_full _ _ _ _ _ _ _ c.requires _ c.count-b.ensures _ c.find_lane.ensures c.in_err-j.was in
    record { value = rw c.from_residual.ensures told.0; room_after = told.1.0; used_after = told.1.1.0; held_after = told.1.1.1 }

pub returns : goal.returns
returns c =
    let told = place_lane _ _ _ _ _ _ _ c.requires _ c.count-b.ensures _ c.find_lane.ensures _ c.in_ok-j.was _ _ _ _ c.next_of.ensures
    c.put.ensures.room_after c.put.ensures.used_after c.put.ensures.held_after in
    record { value = told.0; room_after = told.1.0; used_after = told.1.1.0; held_after = told.1.1.1 }
