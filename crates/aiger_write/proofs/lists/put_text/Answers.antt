-- `aiger_write::lists::put_text` meets its contract: the header, then the gates. Assumes nothing.
use borrow.Author.Rules.{rules}
use Rattle.aiger_write.proofs.WritePassLaws.{text_wrote}
use Rattle.aiger_write.proofs.lists.put_text.Goals as goal

pub returns : goal.returns
returns c =
    let whole = text_wrote c.args.gates.now _ c.inputs_of-inputs.ensures c.new-text.ensures.begun c.put_header.ensures c.put_gates.ensures in
    search rules
