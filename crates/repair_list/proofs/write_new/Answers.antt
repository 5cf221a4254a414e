use mathlib.Core.Path.{◌≡◌, refl, sym, ap, ◌∙◌}
use Prim.Native.Nat.{ℕ, ◌+◌, ◌*◌}
use native.Mathlib.Omega.{arith}
use lib.Seq.{sets}
use Rattle.repair_nodes.specs.CountList.{count_words}
use Rattle.repair_list.specs.Relist.{entries_of}
use Rattle.repair_list.proofs.RelistLaws.{new_on, new_end}
use Rattle.repair_list.proofs.write_new.Goals as goal

pub loop-k-init : goal.loop-k-init
loop-k-init c =
    let e : c.args.at + 0 ≡ c.args.at = omega arith in
    (refl, ap (λ (n : ℕ). sets c.args.after.now (2 * n) (count_words (entries_of c.args.map.now c.args.news.now))) e)

pub overflow_add-at : goal.overflow_add-at
overflow_add-at c =
    omega (arith, c.requires.1)

pub write_entry-requires : goal.write_entry-requires
write_entry-requires c =
    (c.requires.0 c.loop-k.k (omega arith), omega (arith, c.requires.1))

pub loop-k-preserved : goal.loop-k-preserved
loop-k-preserved c =
    (omega arith, new_on c.args.map.now c.args.news.now c.loop-k.after _ c.args.at c.loop-k.k (omega arith) c.write_entry.ensures ∙ c.loop-k.invariant.1)

pub returns : goal.returns
returns c =
    sym (new_end c.args.map.now c.args.news.now c.loop-k.after c.args.at c.loop-k.k (omega arith)) ∙ c.loop-k.invariant.1
