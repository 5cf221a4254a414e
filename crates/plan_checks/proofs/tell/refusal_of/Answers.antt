-- Each part is told in one word.
-- Assumes nothing.
use Rattle.std.proofs.Common.{◌^◌, ◌<◌, subst}
use Rattle.plan_reads.specs.declared.check.Unread.{Unread}
use Rattle.plan_checks.specs.Verdicts.{unread_place}
use Rattle.plan_checks.proofs.tell.refusal_of.Goals as goal
use Rattle.plan_checks.proofs.tell.refusal_of.Goals.{in-Nothing, in-Bits, in-Wide, in-NoRoom}

pub at-requires : goal.at-requires
at-requires c =
    let few = λ (u : Unread). (unread_place u).part < 2 ^ 32 in
    elim c.match-unread.branch [
      | in-Nothing w ↦ rw w.reason-is (subst few w.in-Nothing.is c.requires)
      | in-Bits w ↦ rw w.reason-is (subst few w.in-Bits.is c.requires)
      | in-Wide w ↦ rw w.reason-is (subst few w.in-Wide.is c.requires)
      | in-NoRoom w ↦ rw w.reason-is (subst few w.in-NoRoom.is c.requires)
    ]
