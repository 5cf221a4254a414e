use native.Mathlib.Omega.{arith}
use Rattle.reads_asked.proofs.FrontStoreLaws.{gather_start, gather_askable, gather_more, gather_all}
use Rattle.reads_asked.proofs.gather.Goals as goal

pub loop-key-init : goal.loop-key-init
loop-key-init c = gather_start _ _

pub ask_next-n-requires : goal.ask_next-n-requires
ask_next-n-requires c =
    gather_askable c.args.keys.now c.args.set.now c.loop-key.set c.loop-key.n c.loop-key.key-index c.requires c.loop-key.invariant (omega arith)

pub loop-key-preserved : goal.loop-key-preserved
loop-key-preserved c =
    gather_more c.args.keys.now c.args.set.now c.loop-key.set c.loop-key.n c.loop-key.key-index c.requires c.loop-key.invariant _ _ (omega arith) c.ask_next-n.ensures.value c.ask_next-n.ensures.set_after

pub returns : goal.returns
returns c =
    let told = gather_all c.args.keys.now c.args.set.now c.loop-key.set c.loop-key.n c.loop-key.key-index c.requires c.loop-key.invariant (omega arith) in
    record { value = told.0; set_after = told.1 }
