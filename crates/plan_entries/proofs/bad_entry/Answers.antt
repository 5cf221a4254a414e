-- Each table has an entry for each slot.
-- Assumes nothing.
use Rattle.std.proofs.Common.{rules, ◌≡◌, ◌∙◌, ap, ◌*◌, ℕ}
use native.Mathlib.Omega.{arith}
use Rattle.words.specs.Found.{item_of}
use Rattle.words.specs.Tests.{first_not}
use Rattle.plan_record.specs.Record.{slots_of}
use Rattle.plan_entries.specs.TableEntries.{thirteen_right}
use Rattle.plan_entries.proofs.bad_entry.Goals as goal

pub returns : goal.returns
returns c =
    let entries : 64 * c.args.part.now.body.lanes ≡ 2 * slots_of c.args.part.now.d.now = omega (arith, c.args.part.now.of.lanes) in
    let right = thirteen_right c.args.part.now.d.now c.args.part.now.p in
    c.first_not.ensures right (λ i h b e. search rules) ∙ ap (λ (n : ℕ). item_of (first_not right n)) entries
