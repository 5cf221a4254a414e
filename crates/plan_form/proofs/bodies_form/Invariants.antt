-- The endpoints of each part passed are right; a body begins where the one before ends.
-- Assumes nothing.
use Rattle.std.proofs.Common.{◌≡◌, Bool, true, List, ℕ}
use Rattle.words.specs.Tests.{all_below}
use Rattle.plan_record.specs.Record.{endpoints_of, body_at}
use Rattle.plan_record.specs.Form.{endpoint_form}
use Rattle.plan_form.proofs.bodies_form.Given as goal

-- whether the endpoints of part p are right
abbrev pub endpoints_right : List ℕ → ℕ → Bool
endpoints_right d p = all_below (endpoint_form d p) (endpoints_of d p)

abbrev pub invariant-loop-p : goal.invariant-loop-p
invariant-loop-p l = (l.at ≡ body_at l.d l.p) × (all_below (endpoints_right l.d) l.p ≡ true)
